-- Room for what a record brings the stocks of a market.
use Rattle.std.specs.Prelude.{◌≡◌, ℕ, ◌≤◌, true, List, IfSome, slice_get}
use Rattle.wire_in.specs.declared.record.Record.{Record}
use Rattle.wire_in.specs.Records.{symbol_of}
use Rattle.symbol_core.specs.Rests.{SymbolState}
use Rattle.market_core.specs.Kinds.{is_trade}

-- the stock of an index has room for one more deal
abbrev pub HasRoomAt : List SymbolState → ℕ → Type 0
HasRoomAt symbols s = IfSome (slice_get symbols s) (λ held. 1 ≤ held.spare)

-- a stock has room for the deal that a record is, where it is a trade
abbrev pub HasRoomFor : List SymbolState → Record → Type 0
HasRoomFor symbols x = is_trade x ≡ true → IfSome (symbol_of x) (HasRoomAt symbols)
