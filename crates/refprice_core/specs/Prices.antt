-- The reference price of a stock (LULD Plan, Section V).
use Rattle.std.specs.Prelude.{ℕ, Bool, Option, Some, None, ◌+◌, nat_lt, nat_le, if◌then◌else◌, ◌&&◌, option_map, option_and_then}
use Rattle.std.specs.Option.{option_map_or}
use Rattle.price_core.specs.Moves.{moved_one_percent}
use Rattle.price_core.specs.declared.quote.Cause.{Cause}
use Rattle.price_core.specs.declared.quote.Cause.TheVariants.{First, Moved, Forced}
use Rattle.session_core.specs.Durations.{thirty_seconds, five_minutes}
use Rattle.refprice_core.specs.declared.reference.Adoption.{Adoption}
use Rattle.refprice_core.specs.declared.reference.Priced.{Priced}

-- a price, where there is one, as a new reference price of that cause
abbrev pub because : Cause → Option ℕ → Option Priced
because cause price = option_map (λ p. record { cause = cause; price = p }) price

-- within five minutes after a run's begin
abbrev pub is_in_opening_period : ℕ → ℕ → Bool
is_in_opening_period begun t = nat_lt t (begun + five_minutes)

-- the first price of a run: within five minutes after its begin the price that is offered, by an opening trade or an
-- opening on quotations, and then the mean
abbrev pub first_price : ℕ → ℕ → Option ℕ → Option ℕ → Option ℕ
first_price begun t offered mean = if is_in_opening_period begun t then offered else mean

-- 30 seconds have passed since an adoption
abbrev pub has_stood : Adoption → ℕ → Bool
has_stood last t = nat_le (last.moment + thirty_seconds) t

-- whether a mean is a new reference price: it has moved by one per cent, and 30 seconds have passed
abbrev pub has_moved : Adoption → ℕ → ℕ → Bool
has_moved last t mean = moved_one_percent mean last.price && has_stood last t

-- the mean, where it is a new reference price
abbrev pub moved_price : Adoption → ℕ → Option ℕ → Option ℕ
moved_price last t mean = option_and_then (λ m. if has_moved last t m then Some m else None) mean

-- the new reference price at t, where last is the last adoption of the run
abbrev pub observed : ℕ → Option Adoption → ℕ → Option ℕ → Option ℕ → Option Priced
observed begun None t offered mean = because First (first_price begun t offered mean)
observed begun (Some last) t offered mean = because Moved (moved_price last t mean)

-- from when on a mean can be a new reference price: the first one from five minutes after the run's begin on, another from
-- 30 seconds after the last
abbrev pub awaits_from : ℕ → Option Adoption → ℕ
awaits_from begun None = begun + five_minutes
awaits_from begun (Some last) = last.moment + thirty_seconds

-- whether a mean can be one at t
abbrev pub awaits_mean : ℕ → Option Adoption → ℕ → Bool
awaits_mean begun last t = nat_le (awaits_from begun last) t

-- the new reference price at the end of a limit state
abbrev pub forced : Option ℕ → Option Priced
forced mean = because Forced mean

-- the cause of a new reference price
abbrev pub cause_of : Option Priced → Option Cause
cause_of priced = option_map (λ p. p.cause) priced

-- the price that an adoption gave
abbrev pub price_of : Option Adoption → Option ℕ
price_of last = option_map (λ a. a.price) last

-- the moment of an adoption, or that of the run's begin where there is none
abbrev pub adopted_at : ℕ → Option Adoption → ℕ
adopted_at begun last = option_map_or (λ a. a.moment) last begun
