-- Kinds of records.
use Rattle.std.specs.Prelude.{Bool, true, false}
use Rattle.wire_in.specs.declared.record.Record.{Record}
use Rattle.wire_in.specs.declared.record.Record.TheVariants.{Trade}

abbrev pub is_trade : Record → Bool
is_trade (Trade t s n p z f) = true
is_trade _ = false

-- a record whose deal is kept, so that its evaluation may take memory: room for the stocks of names is taken before
abbrev pub TakesMemory : Record → Type 0
TakesMemory (Trade t s n p z f) = Unit {0}
TakesMemory _ = ⊥
