-- The durations that the rules name, in nanoseconds. Each stands here once.
use Rattle.std.specs.Prelude.{ℕ}
use Rattle.session_core.specs.Moments.{seconds}

-- how long a limit state lasts before it becomes a trading pause (LULD Plan, Section VII(A))
abbrev pub fifteen_seconds : ℕ
fifteen_seconds = seconds 15

-- how long a reference price stands at least (LULD Plan, Section V(A))
abbrev pub thirty_seconds : ℕ
thirty_seconds = seconds 30

-- the window of the mean and the first minutes of a run (LULD Plan, Section V), and a round of a reopening auction (after
-- Nasdaq Rule 4120)
abbrev pub five_minutes : ℕ
five_minutes = seconds 300

-- before the close, in which there is no reopening (LULD Plan, Section VII(C))
abbrev pub ten_minutes : ℕ
ten_minutes = seconds 600

-- how long a market-wide halt of Level 1 or 2 lasts (NYSE Rule 7.12(b))
abbrev pub fifteen_minutes : ℕ
fifteen_minutes = seconds 900

-- before the close, with percentages of their own (LULD Plan, Appendix A)
abbrev pub twenty_five_minutes : ℕ
twenty_five_minutes = seconds 1500

-- before the close, after whose begin no halt of Level 1 or 2 is declared (NYSE Rule 7.12(b))
abbrev pub thirty_five_minutes : ℕ
thirty_five_minutes = seconds 2100
