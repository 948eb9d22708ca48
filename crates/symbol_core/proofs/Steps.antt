-- A whole step of a symbol.
use Rattle.std.proofs.Common.{◌≡◌, ℕ, Bool, List, [], ◌∷◌, ◌++◌, refl, sym, ap, ◌∙◌, append_assoc, subst}
use Rattle.std.specs.Prelude.{Some, if◌then◌else◌, is_some, filter, option_to_list}
use Rattle.wire_in.specs.declared.record.Record.{Record}
use Rattle.wire_out.specs.declared.message.Message.{Message}
use Rattle.window_core.specs.declared.window.Deal.{Deal}
use Rattle.window_core.specs.Deals.{live}
use Rattle.rulebook.specs.declared.event.Event.{Event}
use Rattle.rulebook.specs.declared.event.Event.TheVariants.{Accepted}
use Rattle.rulebook.specs.Book.{all_obeyed, announced, symbol_rules}
use Rattle.rulebook.specs.History.{now, publish, records}
use Rattle.rulebook.specs.Market.{day_record, is_market_halted}
use Rattle.rulebook.specs.Symbol.{deals_in, deals_of}
use Rattle.rulebook.proofs.Histories.{records-publish, publish-append}
use Rattle.rulebook.proofs.OtherRecords.{day_record-same}
use Rattle.symbol_core.specs.declared.state.Kept.{Kept}
use Rattle.symbol_core.specs.declared.state.Step.{Step}
use Rattle.symbol_core.specs.Evaluates.{open_history, step_of}
use Rattle.symbol_core.specs.InStep.{InStep}
use Rattle.symbol_core.specs.Kept.{announcing}
use Rattle.symbol_core.specs.Stands.{named, Says, Stands, ObeysAll}
use Rattle.symbol_core.specs.Steps.{Starts, Steps}
use Rattle.symbol_core.specs.Taken.{leaves, taken}
use Rattle.symbol_core.specs.Window.{SameLive, counted_deal, window}
use Rattle.symbol_core.proofs.Apart.{stands-others}
use Rattle.symbol_core.proofs.Finished.{rests-finished}
use Rattle.symbol_core.proofs.Gives.{announced-gives}
use Rattle.symbol_core.proofs.Live.{same-live, same_kept, same_then}
use Rattle.symbol_core.proofs.Taken.{own-taken, stands-taken}

-- a stock that a record is taken into stands for its open step
pub stands-opened : (mine : List ℕ → Bool) (step : Step) (k : Kept) (kept : List Deal) (others : List Message) (h : List Event) → Starts mine k kept step others h
    → Stands mine (taken k step) (filter (leaves k.id step.input) kept) step (open_history step.input others h)
stands-opened mine step k kept others h p =
    let dropped = filter (leaves k.id step.input) kept in
    let first = record step { stopped = is_market_halted (Accepted step.input ∷ h) } in
    subst (λ (b : Bool). Stands mine (taken k step) dropped (record step { stopped = b }) (open_history step.input others h)) (sym p.stopped)
    (stands-others mine (taken k step) dropped first others (Accepted step.input ∷ h) p.silent
    (stands-taken mine k kept first p.index h p.no_day p.name p.day p.rests p.moment refl p.later))

-- the open step has the step's day, whatever it has published
pub day_opened : (mine : List ℕ → Bool) (step : Step) (k : Kept) (kept : List Deal) (others : List Message) (h : List Event) (p : Starts mine k kept step others h) (ms : List Message)
    → day_record (records (publish ms (open_history step.input others h))) ≡ Some (step.day, p.index)
day_opened mine step k kept others h p ms =
    ap (λ (r : List Record). day_record r) (records-publish ms (open_history step.input others h) ∙ records-publish others (Accepted step.input ∷ h))
    ∙ day_record-same step.input (records h) p.no_day ∙ p.day

-- other kept deals of which the same are live serve as well
stands-same : (mine : List ℕ → Bool) (k : InStep) (deals other : List Deal) (step : Step) (h : List Event) → SameLive step.moment other deals → Stands mine k deals step h → Stands mine k other step h
stands-same mine k deals other step h same s =
    record {
      moment = s.moment;
      stopped = s.stopped;
      input = s.input;
      terms = s.terms;
      phase = s.phase;
      since = s.since;
      begun = s.begun;
      quote = s.quote;
      band = s.band;
      adopted = s.adopted;
      straddling = s.straddling;
      halted = s.halted;
      auction = s.auction;
      prior_close = s.prior_close;
      triggered = s.triggered;
      carried = s.carried;
      left_limit = s.left_limit;
      released = s.released;
      deal = s.deal;
      restricts = s.restricts;
      window =
          same_then (now h) (window k other) (window k deals) (deals_of step.day h k.kept.id)
          (same_kept (now h) k.opened.is_fresh other deals (counted_deal k) (subst (λ (t : ℕ). SameLive t other deals) s.moment same)) s.window;
    }

-- what the code does at a record, call by call
pub record Parts (step : Step) (k : Kept) (said mid : InStep) (kept dropped left : List Deal) (before between after : List Message) : Type 0 where
  pub announces : Says (announcing (taken k step).kept step.input) step (taken k step) said before between
  pub drops : SameLive step.moment dropped (filter (leaves k.id step.input) kept)
  pub obeys : ObeysAll dropped symbol_rules step said mid between after
  pub keeps : SameLive step.moment left ((if mid.opened.is_fresh then [] else dropped) ++ (if is_some mid.kept.run then option_to_list (taken k step).opened.deal else []))

evaluated : (step : Step) (k : Kept) (said mid : InStep) (kept dropped left : List Deal) (before between after : List Message) → Parts step k said mid kept dropped left before between after
    → Steps step k mid.kept kept left before after
evaluated step k said mid kept dropped left before between after parts =
    record {
      says = λ mine others h p.
          let H = open_history step.input others h in
          let ms = announced (named mine k.id) step.input H in
          o.says mine (publish ms H) (opened mine others h p)
          ∙ ap (λ (i : ℕ). between ++ all_obeyed step.day (named mine i) step.input symbol_rules (publish ms H)) a.id
          ∙ ap (λ (xs : List Message). xs ++ all_obeyed step.day (named mine k.id) step.input symbol_rules (publish ms H)) (a.items ∙ ap (λ (xs : List Message). before ++ xs) (sym (gives mine others h p)))
          ∙ append_assoc before ms (all_obeyed step.day (named mine k.id) step.input symbol_rules (publish ms H));
      rests = λ mine others h p.
          let H = open_history step.input others h in
          let ms = announced (named mine k.id) step.input H in
          let all = publish (step_of step.day (named mine k.id) step.input H) H in
          let t : Stands mine mid dropped step all =
          subst (Stands mine mid dropped step) (sym (publish-append ms (all_obeyed step.day (named mine k.id) step.input symbol_rules (publish ms H)) H))
          (subst (λ (i : ℕ). Stands mine mid dropped step (publish (all_obeyed step.day (named mine i) step.input symbol_rules (publish ms H)) (publish ms H))) a.id (o.stands mine (publish ms H) (opened mine others h p))) in
          let same : option_to_list mid.opened.deal ≡ option_to_list (taken k step).opened.deal = t.deal ∙ ap (λ (i : ℕ). deals_in step.day i [] (Accepted step.input ∷ [])) (o.id ∙ a.id) ∙ sym (own-taken step.day k.id step.input) in
          rests-finished mine mid dropped left step p.index all (day_opened mine step k kept others h p (step_of step.day (named mine k.id) step.input H))
          (subst (λ (own : List Deal). SameLive step.moment left ((if mid.opened.is_fresh then [] else dropped) ++ (if is_some mid.kept.run then own else []))) (sym same) parts.keeps) t;
      id = o.id ∙ a.id;
    }
  where
    a : Says (announcing (taken k step).kept step.input) step (taken k step) said before between
    a = parts.announces

    o : ObeysAll dropped symbol_rules step said mid between after
    o = parts.obeys

    stands : (mine : List ℕ → Bool) (others : List Message) (h : List Event) → Starts mine k kept step others h → Stands mine (taken k step) dropped step (open_history step.input others h)
    stands mine others h p = stands-same mine (taken k step) (filter (leaves k.id step.input) kept) dropped step (open_history step.input others h) parts.drops (stands-opened mine step k kept others h p)

    gives : (mine : List ℕ → Bool) (others : List Message) (h : List Event) → Starts mine k kept step others h
        → announced (named mine k.id) step.input (open_history step.input others h) ≡ announcing (taken k step).kept step.input
    gives mine others h p = announced-gives (taken k step) step mine dropped (open_history step.input others h) step.input (stands mine others h p)

    opened : (mine : List ℕ → Bool) (others : List Message) (h : List Event) → Starts mine k kept step others h
        → Stands mine said dropped step (publish (announced (named mine k.id) step.input (open_history step.input others h)) (open_history step.input others h))
    opened mine others h p = rw (gives mine others h p) (a.stands mine dropped (open_history step.input others h) (stands mine others h p))

pub step-evaluates : (step : Step) (k : Kept) (said mid took : InStep) (new : Kept) (kept stayed dropped lent left : List Deal) (before between after : List Message)
    → stayed ≡ filter (leaves k.id step.input) kept → dropped ≡ live step.moment stayed → lent ≡ dropped → took ≡ taken k step
    → Says (announcing took.kept step.input) step took said before between
    → ObeysAll lent symbol_rules step said mid between after
    → SameLive step.moment left ((if mid.opened.is_fresh then [] else dropped) ++ (if is_some mid.kept.run then option_to_list took.opened.deal else []))
    → new ≡ mid.kept
    → Steps step k new kept left before after
step-evaluates step k said mid took new kept stayed dropped lent left before between after s d l t a o f n =
    subst (λ (m : Kept). Steps step k m kept left before after) (sym n)
    (evaluated step k said mid kept dropped left before between after
    (record {
      announces = subst (λ (m : InStep). Says (announcing m.kept step.input) step m said before between) t a;
      drops = subst (λ (ds : List Deal). SameLive step.moment ds (filter (leaves k.id step.input) kept)) (sym (d ∙ ap (live step.moment) s)) (same-live step.moment (filter (leaves k.id step.input) kept));
      obeys = subst (λ (ds : List Deal). ObeysAll ds symbol_rules step said mid between after) l o;
      keeps = subst (λ (m : InStep). SameLive step.moment left ((if mid.opened.is_fresh then [] else dropped) ++ (if is_some mid.kept.run then option_to_list m.opened.deal else []))) t f;
    }))
