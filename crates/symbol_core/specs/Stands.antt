-- What the kept state and the open step are of an open history, and what the functions of the code do to them.
use Rattle.std.specs.Prelude.{◌≡◌, ℕ, Bool, false, Some, List, [], ◌∷◌, ◌++◌, ◌&&◌, not, option_to_list}
use Rattle.session_core.specs.declared.state.Phase.{Phase}
use Rattle.wire_out.specs.declared.message.Message.{Message}
use Rattle.wire_out.specs.declared.message.Message.TheVariants.{State}
use Rattle.pause_core.specs.Phases.{is_done}
use Rattle.window_core.specs.declared.window.Deal.{Deal}
use Rattle.rulebook.specs.declared.event.Event.{Event}
use Rattle.rulebook.specs.declared.event.Event.TheVariants.{Accepted}
use Rattle.rulebook.specs.Book.{Named, context, obeyed, all_obeyed, symbol_rules}
use Rattle.rulebook.specs.History.{now, newest, records, today, publish}
use Rattle.rulebook.specs.Market.{is_market_halted}
use Rattle.rulebook.specs.Rules as rules
use Rattle.rulebook.specs.Rules.{Context}
use Rattle.rulebook.specs.Symbol as of
use Rattle.rulebook.specs.Symbol.{deals_in, deals_of}
use Rattle.symbol_core.specs.declared.state.Step.{Step}
use Rattle.symbol_core.specs.Auctions.{auction_of}
use Rattle.symbol_core.specs.InStep.{InStep}
use Rattle.symbol_core.specs.Kept.{announcing}
use Rattle.symbol_core.specs.Runs.{adoption_by, run_adopted, run_band, run_begun, run_quote}
use Rattle.symbol_core.specs.Window.{SameLive, window}

-- the symbol of an id whose names are those of a test
abbrev pub named : (List ℕ → Bool) → ℕ → Named
named own s = record { symbol = s; own = own }

-- whether the open step's record is the first of today that triggers the short sale restriction
abbrev pub triggers_first : Context → Bool
triggers_first c = rules.triggers c.day c.symbol c.newest (of.terms c.history c.own) && not (rules.has_triggered c)

-- the kept state, the kept deals, the step and what belongs to it alone are what the open history says of the symbol
pub record Stands (own : List ℕ → Bool) (k : InStep) (deals : List Deal) (step : Step) (h : List Event) : Type 0 where
  pub moment : step.moment ≡ now h
  pub stopped : step.stopped ≡ is_market_halted h
  pub input : newest h ≡ Some step.input
  pub terms : k.kept.terms ≡ of.terms h own
  pub phase : k.kept.phase ≡ of.phase h k.kept.id
  pub since : k.kept.since ≡ of.since h k.kept.id
  pub begun : run_begun k.kept ≡ of.begun_in k.kept.id (today h)
  pub quote : run_quote k.kept ≡ of.quote h k.kept.id
  pub band : run_band k.kept ≡ of.last_band h k.kept.id
  pub adopted : run_adopted k.kept ≡ adoption_by (of.adopted h k.kept.id) (of.last_band h k.kept.id)
  pub straddling : k.kept.straddling ≡ of.was_straddling h k.kept.id
  pub halted : k.kept.halted ≡ of.is_under_regulatory_halt h k.kept.id
  pub auction : k.kept.auction ≡ auction_of h k.kept.id
  pub prior_close : k.kept.short.prior_close ≡ of.prior_close h own
  pub triggered : k.kept.short.triggered ≡ rules.triggered_in own step.day k.kept.id (records h)
  pub carried : k.kept.short.carried ≡ rules.is_carried h own k.kept.id
  pub left_limit : k.opened.left_limit ≡ rules.has_left_limit h k.kept.id
  pub released : k.opened.released ≡ rules.released h k.kept.id
  pub deal : option_to_list k.opened.deal ≡ deals_in step.day k.kept.id [] (Accepted step.input ∷ [])
  pub restricts : k.opened.restricts ≡ triggers_first (context step.day (named own k.kept.id) step.input h)
  pub window : SameLive (now h) (window k deals) (deals_of step.day h k.kept.id)

-- the phase of a symbol once it has said a message
abbrev pub phase_said : Phase → Message → Phase
phase_said p (State s to) = to
phase_said p m = p

-- once it has said these
abbrev pub phase_after : Phase → List Message → Phase
phase_after p [] = p
phase_after p (m ∷ ms) = phase_after (phase_said p m) ms

-- these messages are said, and a symbol that stands does so for them too
pub record Says (ms : List Message) (step : Step) (old new : InStep) (before after : List Message) : Type 0 where
  pub items : after ≡ before ++ ms
  pub stands : (own : List ℕ → Bool) (deals : List Deal) (h : List Event) → Stands own old deals step h → Stands own new deals step (publish ms h)
  pub phase : new.kept.phase ≡ phase_after old.kept.phase ms
  pub id : new.kept.id ≡ old.kept.id

-- What the function of a rule does to a symbol that stands and isn't closed: it says what the rule says, and the symbol then
-- stands for that too, and still isn't closed.
pub record Obeys (rule : Context → List Message) (step : Step) (old new : InStep) (before after : List Message) : Type 0 where
  pub says : (own : List ℕ → Bool) (deals : List Deal) (h : List Event) → Stands own old deals step h
      → after ≡ before ++ obeyed step.day (named own old.kept.id) step.input rule h
  pub stands : (own : List ℕ → Bool) (deals : List Deal) (h : List Event) → Stands own old deals step h
      → Stands own new deals step (publish (obeyed step.day (named own old.kept.id) step.input rule h) h)
  pub goes_on : is_done new.kept.phase ≡ false
  pub id : new.kept.id ≡ old.kept.id

-- the same of a rule that reads the kept deals
pub record ObeysWith (deals : List Deal) (rule : Context → List Message) (step : Step) (old new : InStep) (before after : List Message) : Type 0 where
  pub says : (own : List ℕ → Bool) (h : List Event) → Stands own old deals step h
      → after ≡ before ++ obeyed step.day (named own old.kept.id) step.input rule h
  pub stands : (own : List ℕ → Bool) (h : List Event) → Stands own old deals step h
      → Stands own new deals step (publish (obeyed step.day (named own old.kept.id) step.input rule h) h)
  pub goes_on : is_done new.kept.phase ≡ false
  pub id : new.kept.id ≡ old.kept.id

-- the same of rules one after the other
pub record ObeysAll (deals : List Deal) (rules : List (Context → List Message)) (step : Step) (old new : InStep) (before after : List Message) : Type 0 where
  pub says : (own : List ℕ → Bool) (h : List Event) → Stands own old deals step h
      → after ≡ before ++ all_obeyed step.day (named own old.kept.id) step.input rules h
  pub stands : (own : List ℕ → Bool) (h : List Event) → Stands own old deals step h
      → Stands own new deals step (publish (all_obeyed step.day (named own old.kept.id) step.input rules h) h)
  pub id : new.kept.id ≡ old.kept.id

-- the rules that turn a phase: the session close, a market-wide halt, the start of trading and a regulatory halt
abbrev pub turning_rules : List (Context → List Message)
turning_rules = rules.session_close ∷ rules.market_halt ∷ rules.start ∷ rules.regulatory_halt ∷ []

-- those after them
abbrev pub later_rules : List (Context → List Message)
later_rules =
    rules.pause ∷ rules.reopen ∷ rules.leave_limit ∷ rules.publish_band ∷ rules.enter_limit ∷ rules.straddle ∷ rules.restrict ∷ []

-- what the record announces is said, and then what the rules give
pub record Speaks (deals : List Deal) (step : Step) (old new : InStep) (before after : List Message) : Type 0 where
  pub said : InStep
  pub between : List Message
  pub announces : Says (announcing old.kept step.input) step old said before between
  pub obeys : ObeysAll deals symbol_rules step said new between after
