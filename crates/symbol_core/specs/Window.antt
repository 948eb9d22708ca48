-- The deals that are kept of a symbol, for the deals of its history.
use Rattle.std.specs.Prelude.{◌≡◌, ℕ, ◌≤◌, List, [], ◌++◌, if◌then◌else◌, is_some, option_to_list}
use Rattle.window_core.specs.declared.window.Deal.{Deal}
use Rattle.window_core.specs.Deals.{live}
use Rattle.symbol_core.specs.InStep.{InStep}

-- the same deals are live, from t on
pub record SameLive (t : ℕ) (kept deals : List Deal) : Type 0 where
  pub at : (u : ℕ) → t ≤ u → live u kept ≡ live u deals

-- the open step's own deal, where it counts
abbrev pub counted_deal : InStep → List Deal
counted_deal k = if is_some k.kept.run then option_to_list k.opened.deal else []

-- the deals of the window, the open step's own the last
abbrev pub window : InStep → List Deal → List Deal
window k deals = (if k.opened.is_fresh then [] else deals) ++ counted_deal k
