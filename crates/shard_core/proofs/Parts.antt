-- Two ranges that lie one behind the other take records as one range does.
use Rattle.std.proofs.Common.{◌≡◌, ℕ, zero, suc, ◌+◌, ◌-◌, ◌<◌, ◌≤◌, Bool, true, false, List, [], ◌∷◌, ◌++◌, length, length-append, append_assoc, refl, sym, ap, subst, ◌∙◌, arith}
use Rattle.std.specs.Prelude.{nat_le}
use Rattle.std.proofs.lemmas.Bool.Decides.{nat_tests}
use Rattle.std.proofs.lemmas.List.{append-nil}
use Rattle.wire_in.specs.declared.record.Record.{Record}
use Rattle.wire_out.specs.declared.message.Stamped.{Stamped}
use Rattle.symbol_core.specs.declared.symbol.MarketView.{MarketView}
use Rattle.symbol_core.specs.Rests.{SymbolState}
use Rattle.market_core.specs.Applied.{AppendsBelow, AppendsOne, AppendsAt}
use Rattle.market_core.proofs.Ranges.{one_of_all, ranges_in_turn}
use Rattle.shard_core.specs.declared.turns.Target.{Target}
use Rattle.shard_core.specs.declared.turns.Target.TheVariants.{Each, One, New}
use Rattle.shard_core.specs.Parts.{Note, PartsTake, Stays, Taken, TakesAll, TakesFor, behind_each, whole_of}

-- what is appended to no messages is appended to any

shift-at : (s : ℕ) (view : MarketView) (x : Record) (old new : List SymbolState) (prefix before after : List Stamped) → AppendsAt s view x old new before after → AppendsAt s view x old new (prefix ++ before) (prefix ++ after)
shift-at s view x old new prefix before after at = record {
  was = at.was;
  is = at.is;
  found = at.found;
  left = at.left;
  appends = record { said = at.appends.said; evaluates = at.appends.evaluates; items = ap (λ (ms : List Stamped). prefix ++ ms) at.appends.items ∙ sym (append_assoc prefix before _) };
}

shift : (n : ℕ) (view : MarketView) (x : Record) (old new : List SymbolState) (prefix before after : List Stamped) → AppendsBelow n view x old new before after → AppendsBelow n view x old new (prefix ++ before) (prefix ++ after)
shift zero view x old new prefix before after unsaid = ap (λ (ms : List Stamped). prefix ++ ms) unsaid
shift (suc n) view x old new prefix before after (middle, earlier, at) = (prefix ++ middle, shift n view x old new prefix before middle earlier, shift-at n view x old new prefix middle after at)

pub behind_said : (n : ℕ) (view : MarketView) (x : Record) (old new : List SymbolState) (prefix said : List Stamped) → AppendsBelow n view x old new [] said → AppendsBelow n view x old new prefix (prefix ++ said)
behind_said n view x old new prefix said told = subst (λ (ms : List Stamped). AppendsBelow n view x old new ms (prefix ++ said)) (append-nil prefix) (shift n view x old new prefix [] said told)

-- one stock of the first range, and one of the second

one_in_first : (index : ℕ) (view : MarketView) (x : Record) (old new later : List SymbolState) (said : List Stamped) → AppendsOne index view x old new [] said → AppendsOne index view x (old ++ later) (new ++ later) [] said
one_in_first index view x old new later said one = subst (λ (k : ℕ). AppendsOne k view x (old ++ later) (new ++ later) [] said) (omega arith) (one_of_all index view x [] old new later [] said one)

one_in_second : (index : ℕ) (view : MarketView) (x : Record) (earlier old new : List SymbolState) (said : List Stamped) → AppendsOne index view x old new [] said → AppendsOne (length earlier + index) view x (earlier ++ old) (earlier ++ new) [] said
one_in_second index view x earlier old new said one =
    subst (λ (xs : List SymbolState). AppendsOne (length earlier + index) view x (earlier ++ xs) (earlier ++ new) [] said) (append-nil old)
    (subst (λ (xs : List SymbolState). AppendsOne (length earlier + index) view x (earlier ++ (old ++ [])) (earlier ++ xs) [] said) (append-nil new) (one_of_all index view x earlier old new [] [] said one))

-- where neither says anything

both_stay : (a a' b b' : List SymbolState) (said told : List Stamped) → Stays a a' said → Stays b b' told → Stays (a ++ b) (a' ++ b') (said ++ told)
both_stay a a' b b' said told (first, unsaid) (second, untold) = ((λ i. first i ++ second i), λ i. unsaid i ++ untold i)

at_least : (a b : ℕ) → nat_le a b ≡ true → a ≤ b
at_least a b e = grind (arith, nat_tests)

less : (a b : ℕ) → nat_le a b ≡ false → b < a
less a b e = grind (arith, nat_tests)

-- the record is for one stock
one_of_two : (id start : ℕ) (last : Bool) (view : MarketView) (x : Record) (a a' b b' : List SymbolState) (said told : List Stamped)
    → TakesFor (One id) start false view x a a' said → TakesFor (One id) (start + length a) last view x b b' told → TakesFor (One id) start last view x (a ++ b) (a' ++ b') (said ++ told)
one_of_two id start last view x a a' b b' said told (before, after, first) (before', after', second) = (
  (λ early. both_stay a a' b b' said told (before early) (before' (omega arith))),
  (λ late. both_stay a a' b b' said told (after (omega (arith, length-append a b))) (after' (omega (arith, length-append a b)))),
  λ index is within. by index is within (nat_le (length a) index) refl,
) where
  by : (index : ℕ) → id ≡ start + index → index < length (a ++ b) → (later : Bool) → nat_le (length a) index ≡ later → AppendsOne index view x (a ++ b) (a' ++ b') [] (said ++ told)
  by index is within false e =
      let inside : index < length a = less (length a) index e in
      let rest = before' (omega arith) in
      subst (λ (xs : List SymbolState). AppendsOne index view x (a ++ b) (a' ++ xs) [] (said ++ told)) (sym rest.0)
      (subst (λ (ms : List Stamped). AppendsOne index view x (a ++ b) (a' ++ b) [] ms) (sym (append-nil said) ∙ ap (λ (ms : List Stamped). said ++ ms) (sym rest.1)) (one_in_first index view x a a' b said (first index is inside)))
  by index is within true e =
      let behind : length a ≤ index = at_least (length a) index e in
      let prefix = after (omega arith) in
      let own : index - length a < length b = omega (arith, within, length-append a b) in
      let there : length a + (index - length a) ≡ index = omega arith in
      subst (λ (xs : List SymbolState). AppendsOne index view x (a ++ b) (xs ++ b') [] (said ++ told)) (sym prefix.0)
      (subst (λ (ms : List Stamped). AppendsOne index view x (a ++ b) (a ++ b') [] (ms ++ told)) (sym prefix.1)
      (subst (λ (k : ℕ). AppendsOne k view x (a ++ b) (a ++ b') [] told) there (one_in_second (index - length a) view x a b b' told (second (index - length a) (omega arith) own))))

-- or for a new one
new_of_two : (id start : ℕ) (last : Bool) (view : MarketView) (x : Record) (a a' b b' : List SymbolState) (said told : List Stamped)
    → TakesFor (New id) start false view x a a' said → TakesFor (New id) (start + length a) last view x b b' told → TakesFor (New id) start last view x (a ++ b) (a' ++ b') (said ++ told)
new_of_two id start last view x a a' b b' said told (stays, adds) (stays', adds') = (
  (λ e. both_stay a a' b b' said told (stays refl) (stays' e)),
  λ e.
      let prefix = stays refl in
      let added = adds' e in
      let one = one_in_second (length b) view x a (b ++ added.stock ∷ []) b' told added.one in
      record {
        stock = added.stock;
        is_new = added.is_new;
        one = subst (λ (xs : List SymbolState). AppendsOne (length (a ++ b)) view x ((a ++ b) ++ added.stock ∷ []) (xs ++ b') [] (said ++ told)) (sym prefix.0)
            (subst (λ (ms : List Stamped). AppendsOne (length (a ++ b)) view x ((a ++ b) ++ added.stock ∷ []) (a ++ b') [] (ms ++ told)) (sym prefix.1)
            (subst (λ (k : ℕ). AppendsOne k view x ((a ++ b) ++ added.stock ∷ []) (a ++ b') [] told) (sym (length-append a b))
            (subst (λ (xs : List SymbolState). AppendsOne (length a + length b) view x xs (a ++ b') [] told) (sym (append_assoc a b (added.stock ∷ []))) one)));
      },
)

-- two ranges take a record as one
pub two_take : (target : Target) (start : ℕ) (last : Bool) (view : MarketView) (x : Record) (a a' b b' : List SymbolState) (said told : List Stamped)
    → TakesFor target start false view x a a' said → TakesFor target (start + length a) last view x b b' told → TakesFor target start last view x (a ++ b) (a' ++ b') (said ++ told)
two_take Each start last view x a a' b b' said told (count, first) (count', second) = (
  length-append a' b' ∙ (λ i. count i + count' i) ∙ sym (length-append a b),
  λ wide. ranges_in_turn view x a a' b b' [] said (said ++ told) count (first wide) (behind_said (length b) view x b b' said told (second wide)),
)
two_take (One id) start last view x a a' b b' said told first second = one_of_two id start last view x a a' b b' said told first second
two_take (New id) start last view x a a' b b' said told first second = new_of_two id start last view x a a' b b' said told first second

-- The first range keeps its length, since no new stock is its own.
keeps_length : (target : Target) (start : ℕ) (view : MarketView) (x : Record) (a a' : List SymbolState) (said : List Stamped) → TakesFor target start false view x a a' said → length a' ≡ length a
keeps_length Each start view x a a' said takes = takes.0
keeps_length (New id) start view x a a' said takes = ap length (takes.0 refl).0
keeps_length (One id) start view x a a' said (before, after, one) = by (nat_le start id) refl (nat_le (start + length a) id) refl where
  by : (from : Bool) → nat_le start id ≡ from → (behind : Bool) → nat_le (start + length a) id ≡ behind → length a' ≡ length a
  by false e behind f = ap length (before (less start id e)).0
  by true e true f = ap length (after (at_least (start + length a) id f)).0
  by true e false f =
      let from : start ≤ id = at_least start id e in
      let until : id < start + length a = less (start + length a) id f in
      (one (id - start) (omega arith) (omega arith)).count

-- and so it is for all records
pub two_take_all : (notes : List Note) (start : ℕ) (last : Bool) (a a' b b' : List SymbolState) (said told : List (List Stamped))
    → TakesAll start false notes a a' said → TakesAll (start + length a) last notes b b' told → TakesAll start last notes (a ++ b) (a' ++ b') (behind_each said told)
two_take_all [] start last a a' b b' said told (first, unsaid) (second, untold) = ((λ i. first i ++ second i), λ i. behind_each (unsaid i) (untold i))
two_take_all (note ∷ notes) start last a a' b b' said told (middle, own, later, takes, rest, is) (middle', own', later', takes', rest', is') =
    let same : length middle ≡ length a = keeps_length note.target start note.view note.record_of a middle own takes in (
      middle ++ middle',
      own ++ own',
      behind_each later later',
      two_take note.target start last note.view note.record_of a middle b middle' own own' takes takes',
      two_take_all notes start last middle a' middle' b' later later' rest (subst (λ (n : ℕ). TakesAll (start + n) last notes middle' b' later') (sym same) rest'),
      λ i. behind_each (is i) (is' i),
    )

-- and for several ranges
pub parts_take : (start : ℕ) (notes : List Note) (first : Taken) (later : List Taken) → PartsTake start notes first later
    → TakesAll start true notes (whole_of first later).old (whole_of first later).new (whole_of first later).told
parts_take start notes first [] takes = takes
parts_take start notes first (next ∷ later) (takes, rest) =
    let whole = whole_of next later in
    two_take_all notes start true first.old first.new whole.old whole.new first.told whole.told takes (parts_take (start + length first.old) notes next later rest)
