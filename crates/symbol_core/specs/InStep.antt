-- A stock in an open step. Private words: no public clause cites them.
use Rattle.std.specs.Prelude.{Bool, false, Option, None}
use Rattle.window_core.specs.declared.window.Deal.{Deal}
use Rattle.symbol_core.specs.declared.state.Kept.{Kept}
use Rattle.symbol_core.specs.declared.state.OpenStep.{OpenStep}

-- what is kept of it, and what belongs to the step alone
pub record InStep : Type 0 where
  pub kept : Kept
  pub opened : OpenStep

abbrev pub in_step : Kept → OpenStep → InStep
in_step k opened = record { kept = k; opened = opened }

-- a step that has said nothing yet, with its own deal and whether that begins the short sale restriction
abbrev pub just_opened : Option Deal → Bool → OpenStep
just_opened deal restricts = record { left_limit = false; is_fresh = false; restricts = restricts; released = None; deal = deal }

-- a stock in a step that has nothing of its own
abbrev pub at_rest : Kept → InStep
at_rest k = in_step k (just_opened None false)
