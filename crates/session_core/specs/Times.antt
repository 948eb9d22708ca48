-- The times of a trading day. The session is from 09:30:00 to before the close.
use Rattle.std.specs.Prelude.{ℕ, Bool, ◌-◌, nat_lt, nat_le, ◌&&◌}
use Rattle.session_core.specs.declared.day.Day.{Day}
use Rattle.session_core.specs.declared.day.Close.{Close}
use Rattle.session_core.specs.declared.day.Close.TheVariants.{Regular, Early}
use Rattle.session_core.specs.Durations.{ten_minutes, twenty_five_minutes, thirty_five_minutes}
use Rattle.session_core.specs.Moments.{seconds}

-- 09:30:00
abbrev pub session_open : ℕ
session_open = seconds 34200

-- 09:45:00
abbrev pub end_of_first_15_minutes : ℕ
end_of_first_15_minutes = seconds 35100

-- 16:00:00
abbrev pub regular_close : ℕ
regular_close = seconds 57600

-- 13:00:00
abbrev pub early_close : ℕ
early_close = seconds 46800

-- the moment at which the session ends
abbrev pub session_close : Close → ℕ
session_close Regular = regular_close
session_close Early = early_close

-- from the opening inclusive to the close exclusive
abbrev pub in_session : ℕ → Day → Bool
in_session t day = nat_le session_open t && nat_lt t (session_close day.close)

-- not before the close
abbrev pub is_closed : ℕ → Day → Bool
is_closed t day = nat_le (session_close day.close) t

-- not before the close less a duration
abbrev pub in_last : ℕ → ℕ → Day → Bool
in_last duration t day = nat_le (session_close day.close - duration) t

-- in which percentages are doubled (LULD Plan, Appendix A)
abbrev pub in_last_25_minutes : ℕ → Day → Bool
in_last_25_minutes t day = in_last twenty_five_minutes t day

-- in which there is no reopening before the close (LULD Plan, Section VII(C))
abbrev pub in_last_10_minutes : ℕ → Day → Bool
in_last_10_minutes t day = in_last ten_minutes t day

-- before 09:45:00
abbrev pub in_first_15_minutes : ℕ → Bool
in_first_15_minutes t = nat_lt t end_of_first_15_minutes

-- Level 1 and 2 halts are declared in the session and up to 15:25:00, or 12:25:00 on an early close
abbrev pub may_declare_brief : ℕ → Day → Bool
may_declare_brief t day = in_session t day && nat_le t (session_close day.close - thirty_five_minutes)
