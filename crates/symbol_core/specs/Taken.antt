-- A stock once a record is taken in. Private words: no public clause cites them.
use Rattle.std.specs.Prelude.{ℕ, Bool, true, false, Option, Some, None, ◌==◌, if◌then◌else◌, not, ◌&&◌, ◌||◌, option_map}
use Rattle.std.specs.Option.{option_map_or}
use Rattle.session_core.specs.declared.day.Day.{Day}
use Rattle.session_core.specs.declared.state.Phase.TheVariants.{Shut}
use Rattle.wire_in.specs.declared.record.NoticeKind.TheVariants as notice
use Rattle.wire_in.specs.declared.record.Record.{Record}
use Rattle.wire_in.specs.declared.record.Record.TheVariants as in_
use Rattle.eligible_core.specs.Conditions.{eligible}
use Rattle.short_core.specs.Restriction.{triggers}
use Rattle.short_core.specs.ShortState.{ShortState, listed}
use Rattle.window_core.specs.declared.window.Deal.{Deal}
use Rattle.rulebook.specs.declared.symbol.Terms.{Terms}
use Rattle.rulebook.specs.Auction.{indicated_by}
use Rattle.rulebook.specs.Symbol.{cancels}
use Rattle.symbol_core.specs.declared.state.Kept.{Kept}
use Rattle.symbol_core.specs.declared.state.Step.{Step}
use Rattle.symbol_core.specs.InStep.{InStep, in_step, just_opened}
use Rattle.symbol_core.specs.Kept.{heard, quoted_by, requoted}

-- today's terms once a record is taken in
abbrev pub listed_by : Record → Option Terms → Option Terms
listed_by (in_.Listing t n k l c) before = Some (record { tier = k; leverage = l; prior_close = c })
listed_by x before = before

-- whether a record leaves a deal
abbrev pub leaves : ℕ → Record → Deal → Bool
leaves s x d = not (cancels s d.number x)

-- the number that a record cancels
abbrev pub cancelled_by : ℕ → Record → Option ℕ
cancelled_by s (in_.Cancel t symbol number) = if symbol == s then Some number else None
cancelled_by s x = None

abbrev pub deal_of : Day → ℕ → Record → Option Deal
deal_of day s (in_.Trade t symbol n p q f) = if (symbol == s) && eligible f t day then Some (record { moment = t; number = n; price = p }) else None
deal_of day s x = None

abbrev pub halted_by : ℕ → Record → Bool → Bool
halted_by s (in_.Notice t symbol notice.Halt) before = if symbol == s then true else before
halted_by s (in_.Notice t symbol notice.Resume) before = if symbol == s then false else before
halted_by s x before = before

-- the prior close once a record is taken in
abbrev pub prior_close_by : Record → Option ℕ → Option ℕ
prior_close_by (in_.Listing t n k l c) before = c
prior_close_by x before = before

-- whether the step's deal triggers the short sale restriction
abbrev pub triggers_by : Option ℕ → Option Deal → Bool
triggers_by prior_close deal = option_map_or (λ d. triggers prior_close d.price) deal false

-- the restriction once a record and its deal are taken in
abbrev pub shorted : Record → Option Deal → ShortState → ShortState
shorted x deal short = record short {
  prior_close = prior_close_by x short.prior_close;
  triggered = triggers_by (prior_close_by x short.prior_close) deal || short.triggered;
}

-- whether the deal is the first of the day to trigger it
abbrev pub restricts : Record → Option Deal → ShortState → Bool
restricts x deal short = triggers_by (prior_close_by x short.prior_close) deal && not short.triggered

-- the kept state and the open step once a record other than a day is taken in
abbrev pub taken : Kept → Step → InStep
taken k step =
    in_step
    (record k {
      terms = listed_by step.input k.terms;
      run = option_map (requoted (quoted_by k.id step.input)) k.run;
      halted = halted_by k.id step.input k.halted;
      auction = heard (indicated_by k.id step.input) k.auction;
      short = shorted step.input (deal_of step.day k.id step.input) k.short;
    })
    (just_opened (deal_of step.day k.id step.input) (restricts step.input (deal_of step.day k.id step.input) k.short))

-- the kept state of an id at the begin of a day
abbrev pub renewed : ℕ → Bool → Kept
renewed s carried = record {
  id = s;
  terms = None;
  phase = Shut;
  since = 0;
  run = None;
  straddling = false;
  halted = false;
  auction = None;
  short = listed None carried;
}
