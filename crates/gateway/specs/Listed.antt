-- The stocks that messages list.
use Rattle.std.specs.Prelude.{ℕ, ◌+◌, List, [], ◌∷◌, max}
use Rattle.wire_out.specs.declared.message.Message.{Message}
use Rattle.wire_out.specs.declared.message.Message.TheVariants as messages

-- one above the id that a message lists, 0 where it lists none
abbrev pub above_listed : Message → ℕ
above_listed (messages.Listed s name) = s + 1
above_listed m = 0

-- one above the greatest id that these messages list, 0 where they list none
abbrev pub stocks_listed : List Message → ℕ
stocks_listed [] = 0
stocks_listed (m ∷ ms) = max (above_listed m) (stocks_listed ms)
