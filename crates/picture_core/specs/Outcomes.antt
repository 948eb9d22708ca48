-- How a run of the program ended, for its caller.
use Rattle.std.specs.Prelude.{ℕ}
use Rattle.host_core.specs.Statuses.{code_of}
use Rattle.picture_core.specs.declared.outcome.Outcome.{Outcome}
use Rattle.picture_core.specs.declared.outcome.Outcome.TheVariants.{Ended, NoDay, NoSymbol}

-- the exit code
abbrev pub exit_code : Outcome → ℕ
exit_code (Ended status) = code_of status
exit_code NoDay = 12
exit_code NoSymbol = 13
