-- Deals that leave one after the other. Private words: no public clause cites them.
use Rattle.std.specs.Prelude.{ℕ, List}
use Rattle.window_core.specs.declared.window.Deal.{Deal}
use Rattle.window_core.specs.Summed.{AllPriced, InOrder}
use Rattle.window_core.specs.Tallies.{Tallies}

-- the deals stand in order, and these are their sum and their number
pub record IsQueue (sum count : ℕ) (deals : List Deal) : Type 0 where
  pub tallies : Tallies sum count deals
  pub priced : AllPriced deals
  pub order : InOrder deals
