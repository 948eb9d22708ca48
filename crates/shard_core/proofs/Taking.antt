-- A part that takes a record.
use Rattle.std.proofs.Common.{◌≡◌, ℕ, ◌+◌, ◌-◌, ◌<◌, Bool, true, false, List, [], length, Result, Ok, Err, refl, sym, subst, ◌∙◌, true≢false, arith}
use Rattle.std.specs.Prelude.{OnOk, nat_le, nat_lt, ◌&&◌}
use Rattle.std.proofs.lemmas.Bool.Decides.{nat_tests}
use Rattle.price_core.specs.declared.error.NoMemory.{NoMemory}
use Rattle.wire_in.specs.declared.record.Record.{Record}
use Rattle.wire_out.specs.declared.message.Stamped.{Stamped}
use Rattle.symbol_core.specs.declared.symbol.MarketView.{MarketView}
use Rattle.symbol_core.specs.Rests.{SymbolState}
use Rattle.shard_core.specs.declared.turns.Target.{Target}
use Rattle.shard_core.specs.declared.turns.Target.TheVariants.{Each, One, New}
use Rattle.shard_core.specs.Parts.{TakesFor, is_for}

-- a record of the stock of an id
pub one_takes : (r : Result (Unit {0}) NoMemory) (id start : ℕ) (last : Bool) (target : Target) (view : MarketView) (x : Record) (old new : List SymbolState) (said : List Stamped) → target ≡ One id
    → OnOk r ((any : Bool) → TakesFor (One id) start any view x old new said) → OnOk r (TakesFor target start last view x old new said)
one_takes (Err e) id start last target view x old new said is takes = tt
one_takes (Ok u) id start last target view x old new said is takes = subst (λ (t : Target). TakesFor t start last view x old new said) (sym is) (takes last)

-- a stock of the range has its records
inside : (id start index count : ℕ) → id ≡ start + index → index < count → (nat_le start id && nat_lt (id - start) count) ≡ true
inside id start index count is lt = grind (arith, nat_tests)

-- a record that is for none of the stocks leaves them as they were
pub none_takes : (target : Target) (start count : ℕ) (last : Bool) (view : MarketView) (x : Record) (old : List SymbolState) → is_for target start last count ≡ false → length old ≡ count
    → TakesFor target start last view x old old []
none_takes Each start count last view x old other many = absurd (true≢false other)
none_takes (One id) start count last view x old other many =
    ((λ before. (refl, refl)), (λ behind. (refl, refl)), λ index is lt. absurd (true≢false (sym (inside id start index count is (omega (arith, many, lt))) ∙ other)))
none_takes (New id) start count last view x old other many = ((λ inner. (refl, refl)), λ end. absurd (true≢false (sym end ∙ other)))
