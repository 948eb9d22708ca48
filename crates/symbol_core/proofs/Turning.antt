-- The rules that turn a phase, in one call.
use Rattle.std.proofs.Common.{◌≡◌, ℕ, Bool, true, false, cond, List, [], ◌∷◌, ◌++◌, refl, sym, ap, ◌∙◌, subst}
use Rattle.std.specs.Prelude.{Option, Some, None, if◌then◌else◌, option_to_list, unwrap_or}
use Rattle.std.specs.Option.{option_map_or}
use Rattle.std.proofs.lemmas.List.{map-append}
use Rattle.session_core.specs.declared.state.Phase.{Phase}
use Rattle.wire_out.specs.declared.message.Message.{Message}
use Rattle.wire_out.specs.declared.message.Message.TheVariants as out
use Rattle.pause_core.specs.declared.turning.Brakes.{Brakes}
use Rattle.pause_core.specs.declared.turning.Turned.{Turned}
use Rattle.pause_core.specs.Phases.{is_done}
use Rattle.pause_core.specs.Turns as turns
use Rattle.window_core.specs.declared.window.Deal.{Deal}
use Rattle.rulebook.specs.declared.event.Event.{Event}
use Rattle.rulebook.specs.declared.event.Event.TheVariants.{Published}
use Rattle.rulebook.specs.Auction.{is_paused}
use Rattle.rulebook.specs.Book.{all_obeyed, obeyed}
use Rattle.rulebook.specs.History.{publish}
use Rattle.rulebook.specs.Rules as rules
use Rattle.rulebook.specs.Rules.{Context}
use Rattle.rulebook.specs.Symbol.{phase}
use Rattle.symbol_core.specs.declared.state.Kept.{Kept}
use Rattle.symbol_core.specs.declared.state.Step.{Step}
use Rattle.symbol_core.specs.InStep.{InStep}
use Rattle.symbol_core.specs.Kept.{becoming, brakes, states, turned}
use Rattle.symbol_core.specs.Stands.{named, ObeysAll, Says, Stands, turning_rules}
use Rattle.symbol_core.proofs.Chains.{obeys_all, then_of}
use Rattle.symbol_core.proofs.Gives.{turned-gives}
use Rattle.symbol_core.proofs.Pauses.{Unpaused, alone, close-unpaused, halt-unpaused, start-unpaused, stop-unpaused}
use Rattle.symbol_core.proofs.Phases.{stands-turned}

-- such rules over a history
abbrev turned_rules : List (Phase → Brakes → Option Phase) → List (Context → List Message)
turned_rules [] = []
turned_rules (rule ∷ later) = rules.turned rule ∷ turned_rules later

option_closed : (done : Bool) (k : Kept) (o : Option Phase) → (if done then [] else option_map_or (becoming k) o []) ≡ option_map_or (becoming k) (if done then None else o) []
option_closed true k o = refl
option_closed false k o = refl

-- one of them
turn_gives : (rule : Phase → Brakes → Option Phase) (k : InStep) (step : Step) (mine : List ℕ → Bool) (deals : List Deal) (h : List Event) → Stands mine k deals step h
    → obeyed step.day (named mine k.kept.id) step.input (rules.turned rule) h ≡ option_map_or (becoming k.kept) (turns.obeyed rule k.kept.phase (brakes k.kept step)) []
turn_gives rule k step mine deals h s =
    ap (λ (ms : List Message). cond (is_done (phase h k.kept.id)) [] ms) (turned-gives rule k step mine deals h s)
    ∙ ap (λ (p : Phase). cond (is_done p) [] (option_map_or (becoming k.kept) (rule k.kept.phase (brakes k.kept step)) [])) (sym s.phase)
    ∙ option_closed (is_done k.kept.phase) k.kept (rule k.kept.phase (brakes k.kept step))

-- None of them pauses a stock.

abbrev AllUnpaused : List (Phase → Brakes → Option Phase) → Type 0
AllUnpaused [] = Unit {0}
AllUnpaused (rule ∷ later) = Unpaused rule × AllUnpaused later

turns_unpaused : AllUnpaused (turns.session_close ∷ turns.market_halt ∷ turns.start ∷ turns.regulatory_halt ∷ [])
turns_unpaused = (close-unpaused, (stop-unpaused, (start-unpaused, (halt-unpaused, tt))))

obeyed_unpaused : (rule : Phase → Brakes → Option Phase) → Unpaused rule → Unpaused (turns.obeyed rule)
obeyed_unpaused rule unpaused p b = by (is_done p) where
  by : (done : Bool) → option_map_or is_paused (if done then None else rule p b) false ≡ false
  by true = refl
  by false = unpaused p b

-- the phase that one brings, and then those of the others
by_phase : (k : InStep) (step : Step) (mine : List ℕ → Bool) (deals : List Deal) (h : List Event) (later : List (Phase → Brakes → Option Phase)) → Stands mine k deals step h
    → ((l : InStep) (g : List Event) → Stands mine l deals step g → all_obeyed step.day (named mine l.kept.id) step.input (turned_rules later) g ≡ states l.kept.id (turns.phases later l.kept.phase (brakes l.kept step)))
    → (o : Option Phase) → option_map_or is_paused o false ≡ false → option_map_or (becoming k.kept) o [] ++ all_obeyed step.day (named mine k.kept.id) step.input (turned_rules later) (publish (option_map_or (becoming k.kept) o []) h)
    ≡ states k.kept.id (option_to_list o ++ turns.phases later (unwrap_or o k.kept.phase) (brakes k.kept step))
by_phase k step mine deals h later s rest None e = rest k h s
by_phase k step mine deals h later s rest (Some p) e =
    ap (λ (ms : List Message). out.State k.kept.id p ∷ ms) (rest (turned k step p) (Published (out.State k.kept.id p) ∷ h) (stands-turned mine k deals step p h (alone k.kept p (Some p) refl e) s))

turns_give : (list : List (Phase → Brakes → Option Phase)) → AllUnpaused list → (k : InStep) (step : Step) (mine : List ℕ → Bool) (deals : List Deal) (h : List Event) → Stands mine k deals step h
    → all_obeyed step.day (named mine k.kept.id) step.input (turned_rules list) h ≡ states k.kept.id (turns.phases list k.kept.phase (brakes k.kept step))
turns_give [] all k step mine deals h s = refl
turns_give (rule ∷ later) all k step mine deals h s =
    (λ i. turn_gives rule k step mine deals h s i ++ all_obeyed step.day (named mine k.kept.id) step.input (turned_rules later) (publish (turn_gives rule k step mine deals h s i) h))
    ∙ by_phase k step mine deals h later s (λ l g t. turns_give later all.1 l step mine deals g t) (turns.obeyed rule k.kept.phase (brakes k.kept step)) (obeyed_unpaused rule all.0 k.kept.phase (brakes k.kept step))

-- the phases of one call are those of the rules
pub turns-obey : (k mid new : InStep) (step : Step) (brake : Brakes) (turned : Turned) (before between after : List Message) → brake ≡ brakes k.kept step → option_to_list turned.first ++ option_to_list turned.second ≡ turns.turns k.kept.phase brake
    → Says (states k.kept.id (option_to_list turned.first)) step k mid before between → Says (states mid.kept.id (option_to_list turned.second)) step mid new between after
    → (deals : List Deal) → ObeysAll deals turning_rules step k new before after
turns-obey k mid new step brake turned before between after b all first second deals =
    obeys_all deals turning_rules (then_of (λ s. states s (option_to_list turned.second)) first second)
    (λ mine h s.
    turns_give (turns.session_close ∷ turns.market_halt ∷ turns.start ∷ turns.regulatory_halt ∷ []) turns_unpaused k step mine deals h s
    ∙ ap (λ (b : Brakes). states k.kept.id (turns.turns k.kept.phase b)) (sym b)
    ∙ ap (states k.kept.id) (sym all)
    ∙ map-append (λ p. out.State k.kept.id p) (option_to_list turned.first) (option_to_list turned.second))

-- nor do the phases that they bring
abbrev NonePaused : List Phase → Type 0
NonePaused [] = Unit {0}
NonePaused (p ∷ ps) = (is_paused p ≡ false) × NonePaused ps

phases_unpaused : (list : List (Phase → Brakes → Option Phase)) → AllUnpaused list → (p : Phase) (b : Brakes) → NonePaused (turns.phases list p b)
phases_unpaused [] all p b = tt
phases_unpaused (rule ∷ later) all p b = by (turns.obeyed rule p b) (obeyed_unpaused rule all.0 p b) (λ q. phases_unpaused later all.1 q b) where
  by : (o : Option Phase) → option_map_or is_paused o false ≡ false → ((q : Phase) → NonePaused (turns.phases later q b)) → NonePaused (option_to_list o ++ turns.phases later (unwrap_or o p) b)
  by None e rest = rest p
  by (Some q) e rest = (e, rest q)

pub first-unpaused : (p : Phase) (b : Brakes) (turned : Turned) → option_to_list turned.first ++ option_to_list turned.second ≡ turns.turns p b → option_map_or is_paused turned.first false ≡ false
first-unpaused p b turned all = by turned.first (subst NonePaused (sym all) (phases_unpaused (turns.session_close ∷ turns.market_halt ∷ turns.start ∷ turns.regulatory_halt ∷ []) turns_unpaused p b)) where
  by : (o : Option Phase) → NonePaused (option_to_list o ++ option_to_list turned.second) → option_map_or is_paused o false ≡ false
  by None none = refl
  by (Some q) none = none.0

pub second-unpaused : (p : Phase) (b : Brakes) (turned : Turned) → option_to_list turned.first ++ option_to_list turned.second ≡ turns.turns p b → option_map_or is_paused turned.second false ≡ false
second-unpaused p b turned all = by turned.first turned.second (subst NonePaused (sym all) (phases_unpaused (turns.session_close ∷ turns.market_halt ∷ turns.start ∷ turns.regulatory_halt ∷ []) turns_unpaused p b)) where
  by : (o q : Option Phase) → NonePaused (option_to_list o ++ option_to_list q) → option_map_or is_paused q false ≡ false
  by o None none = refl
  by None (Some q) none = none.0
  by (Some p) (Some q) none = none.1.0
