use Rattle.std.proofs.Common.{◌≡◌, ◌∷◌, ◌++◌, List, sym, ap, subst, ◌∙◌, arith, true≢false}
use Rattle.std.specs.Prelude.{IfSome}
use Rattle.wire_in.specs.declared.record.Record.{Record}
use Rattle.wire_out.specs.declared.message.Message.{Message}
use Rattle.wire_out.specs.declared.message.Stamped.{Stamped}
use Rattle.rulebook.specs.Book.{newest_messages}
use Rattle.screen_core.specs.declared.screen.Screen.{Screen}
use Rattle.screen_core.specs.Screened.{capacity, said}
use Rattle.screen_core.specs.InternalDesk.{HasPublished}
use Rattle.screen_core.specs.InternalScreens.{Keeps}
use Rattle.screen_core.proofs.Applying.{can_take, deal_of, if_it_succeeds, if_some, said_so, verdict_is, whenever_err}
use Rattle.screen_core.proofs.screen.Screen.apply.Goals as goal

pub publish-requires : goal.publish-requires
publish-requires c =
    let x = c.args.x.now in
    let ready = c.requires.ready in
    let passed = verdict_is ready.keeps x ∙ c.requires.admissible in
    let given = c.in_ok-apply.ensures.given capacity ready.held ready.keeps.market passed in
    let are : c.deref.result.now ≡ newest_messages (x ∷ ready.held) = c.deref.ensures.value ∙ given ∙ ap (λ (old : List Stamped). old ++ newest_messages (x ∷ ready.held)) c.clear.ensures.items in
    if_some c.args.self.now.desk (λ desk has. can_take ready.held x desk c.deref.result.now (omega (arith, ready.few)) (passed, ready.keeps.lawful) are has) ready.keeps.published

pub returns : goal.returns
returns c =
    let x = c.args.x.now in
    let new : Screen = record { admission = c.admit.new.self; market = c.apply.new.self; messages = c.apply.new.out; desk = c.publish.new.desk } in
    let kept : (held : List Record) → Keeps held c.args.self.now → Keeps (x ∷ held) new = λ held keeps.
    let passed = verdict_is keeps x ∙ c.requires.admissible in
    let given = c.in_ok-apply.ensures.given capacity held keeps.market passed in
    let are : c.deref.result.now ≡ newest_messages (x ∷ held) = c.deref.ensures.value ∙ given ∙ ap (λ (old : List Stamped). old ++ newest_messages (x ∷ held)) c.clear.ensures.items in
    record {
      within = c.admit.ensures.capacity ∙ keeps.within;
      admission = if_it_succeeds c.admit.result c.admit.ensures.succeeds (c.admit.ensures.stands held keeps.admission);
      market = c.in_ok-apply.ensures.stands capacity held keeps.market passed;
      lawful = (passed, keeps.lawful);
      published = subst (λ (ms : List Message). IfSome c.publish.new.desk (HasPublished ms)) (said_so held x c.deref.result.now are) (c.publish.ensures.published (said held) keeps.published);
    }
    in
    record {
      keeps = kept;
      ready = λ more ready. record {
        held = x ∷ ready.held;
        keeps = kept ready.held ready.keeps;
        few = omega (arith, ready.few);
        room = omega (arith, ready.room, c.clear.ensures.capacity, c.in_ok-apply.ensures.keeps_room);
        shows = c.publish.ensures.there ready.shows;
      };
      starved = tt;
    }

pub returns-in_err-apply-clause-starved : goal.returns-in_err-apply-clause-starved
returns-in_err-apply-clause-starved c =
    whenever_err c.from_residual.result
    (deal_of c.args.x.now
    (λ other. true≢false (sym (c.in_err-apply.ensures.never_refused (λ is. absurd (true≢false (sym is ∙ other))) (omega (arith, c.clear.ensures.len, c.clear.ensures.capacity, c.requires.ready.room))))))
