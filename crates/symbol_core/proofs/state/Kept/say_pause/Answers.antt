use Rattle.std.proofs.Common.{List, [], ◌∷◌, ◌++◌, sym, ap, subst, ◌∙◌, append_assoc}
use Rattle.std.specs.Prelude.{Some}
use Rattle.rulebook.specs.History.{publish}
use Rattle.wire_out.specs.declared.message.Message.{Message}
use Rattle.wire_out.specs.declared.message.Message.TheVariants as out
use Rattle.reopen_core.specs.AuctionState.{AuctionState}
use Rattle.symbol_core.specs.InStep.{InStep, in_step}
use Rattle.symbol_core.specs.Kept.{auction_begun, becoming, collars_of, with_auction}
use Rattle.symbol_core.specs.Stands.{Stands}
use Rattle.symbol_core.proofs.Phases.{stands-paused}
use Rattle.symbol_core.proofs.state.Kept.say_pause.Goals as goal

pub returns-clause-says : goal.returns-clause-says
returns-clause-says c =
    let k = c.args.self.now in
    let step = c.args.step.now in
    let before = c.args.out.now in
    let paused = out.State k.id c.args.phase in
    let begun = auction_begun k step c.args.b.now in
    let said = becoming k c.args.phase ++ collars_of k.id begun in
    record {
      items = c.push-2.ensures.items ∙ ap (λ (ms : List Message). ms ++ c.collar.result ∷ []) c.push.ensures.items
          ∙ append_assoc before (paused ∷ []) (c.collar.result ∷ [])
          ∙ ap (λ (m : Message). before ++ paused ∷ m ∷ []) c.collar.ensures
          ∙ ap (λ (a : AuctionState). before ++ paused ∷ collars_of k.id a) c.auction_begun-auction.ensures;
      stands = λ mine deals h s.
          subst (λ (a : AuctionState). Stands mine (with_auction (in_step c.set_phase.new.self c.set_phase.new.opened) (Some a)) deals step (publish said h)) (sym c.auction_begun-auction.ensures)
          (subst (λ (l : InStep). Stands mine (with_auction l (Some begun)) deals step (publish said h)) (sym c.set_phase.ensures)
          (stands-paused mine (in_step k c.args.opened.now) deals step c.args.phase c.args.b.now h c.requires.paused c.requires.band s));
      phase = ap (λ (l : InStep). l.kept.phase) c.set_phase.ensures;
      id = ap (λ (l : InStep). l.kept.id) c.set_phase.ensures;
    }
