-- Deals, the oldest first, and their mean (LULD Plan, Section V).
use Rattle.std.specs.Prelude.{ℕ, Bool, false, Option, Some, None, List, [], ◌∷◌, ◌+◌, ◌==◌, nat_lt, if◌then◌else◌, not, min, length, filter, sum_by}
use Rattle.std.specs.Option.{option_map_or}
use Rattle.price_core.specs.Moves.{moved_one_percent}
use Rattle.price_core.specs.Rounding.{mean}
use Rattle.session_core.specs.Durations.{five_minutes}
use Rattle.window_core.specs.declared.window.Deal.{Deal}

-- less than five minutes old at t
abbrev pub is_live : ℕ → Deal → Bool
is_live t d = nat_lt t (d.moment + five_minutes)

-- the deals that are less than five minutes old at t
abbrev pub live : ℕ → List Deal → List Deal
live t deals = filter (is_live t) deals

-- of that number
abbrev pub is_numbered : ℕ → Deal → Bool
is_numbered number d = d.number == number

-- not of that number, whose deals a cancel removes
abbrev pub stays : ℕ → Deal → Bool
stays number d = not (d.number == number)

-- the mean of their prices, none where there are none
abbrev pub mean_of : List Deal → Option ℕ
mean_of deals =
    if length deals == 0 then None else Some (mean (sum_by (λ d. d.price) deals) (length deals))

-- whether their mean is as far as one per cent away from a reference price, which it isn't where there are none (LULD Plan,
-- Section V)
abbrev pub mean_has_moved : ℕ → List Deal → Bool
mean_has_moved reference deals = option_map_or (λ m. moved_one_percent m reference) (mean_of deals) false

-- the least of their moments, none where there are none
abbrev pub least_moment : List Deal → Option ℕ
least_moment [] = None
least_moment (d ∷ later) = Some (option_map_or (min d.moment) (least_moment later) d.moment)
