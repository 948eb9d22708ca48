-- What is kept of the short sale restriction.
use Rattle.std.specs.Prelude.{◌≡◌, ℕ, Bool, false, Option, List, ◌||◌, ◌&&◌, not}
use Rattle.short_core.specs.Restriction.{Trades, triggers, has_triggered, is_carried}

-- the prior close, where there is one, whether a trade of today has triggered it, and whether it is carried
pub record ShortState : Type 0 where
  pub prior_close : Option ℕ
  pub triggered : Bool
  pub carried : Bool

-- no trade yet
abbrev pub listed : Option ℕ → Bool → ShortState
listed prior_close carried = record { prior_close = prior_close; triggered = false; carried = carried }

-- another prior close
abbrev pub with_prior_close : Option ℕ → ShortState → ShortState
with_prior_close prior_close kept = record kept { prior_close = prior_close }

-- one more trade
abbrev pub with_trade : ℕ → ShortState → ShortState
with_trade price kept = record kept { triggered = triggers kept.prior_close price || kept.triggered }

-- a trade is the first to trigger it
abbrev pub triggers_first : ℕ → ShortState → Bool
triggers_first price kept = triggers kept.prior_close price && not kept.triggered

-- what is kept represents a day and the days before it
pub record Represents (kept : ShortState) (day : Trades) (earlier : List Trades) : Type 0 where
  pub prior_close : kept.prior_close ≡ day.prior_close
  pub triggered : kept.triggered ≡ has_triggered day
  pub carried : kept.carried ≡ is_carried earlier
