-- The body of a Part is read as that Part, and a body that is read spells what was read; so it is with a Have.
use Rattle.std.proofs.Common.{◌≡◌, ◌≢◌, ℕ, ◌+◌, ◌<◌, ◌^◌, ◌≤◌, Bool, true, false, List, [], ◌∷◌, ◌++◌, length, get_or, drop, Option, Some, None, Result, Ok, Err, refl, sym, ap, subst, ◌∙◌, arith, length-append, length-drop}
use Rattle.std.specs.Prelude.{◌==◌, ◌&&◌, nat_le, nat_lt, if◌then◌else◌}
use Rattle.std.specs.Int.{w64, to_be_bytes}
use Rattle.std.specs.Result.{result_ok}
use Rattle.std.proofs.lemmas.Bool.Decides.{nat_tests}
use Rattle.std.proofs.lemmas.List.{append-nil}
use Rattle.wire_core.specs.Fields.{checked, number}
use Rattle.wire_core.specs.Frames.{Frames, Puts, framed}
use Rattle.wire_core.proofs.Cells.{IsBytes, IsBytes-drop, wide64, cell, byte_cell, ended, number_below}
use Rattle.wire_core.specs.OptionSteps.{◌>>=◌}
use Rattle.wire_core.proofs.Steps.{bind_some}
use Rattle.wire_in.specs.declared.record.Record.{Record}
use Rattle.wire_in.specs.declared.record.Record.TheVariants.{Day, Listing, Trade, Cancel, Quote, IndexTick, Clock, Notice, Indication}
use Rattle.wire_in.specs.declared.record.Refusal.{Refusal}
use Rattle.wire_in.specs.Reading.{record_of}
use Rattle.wire_in.specs.Spelling.{InRange, Spells, body_of}
use Rattle.wire_in.proofs.RoundTrip.{body_again}
use Rattle.wire_in.proofs.DecodesOnly.{record_found}
use Rattle.standby_core.specs.Parts.{HaveIsAlone, PartIsAlone, SpellsHave, SpellsPart, has_part_form, have_body, have_of, number_of, part_body, part_bytes, part_of}

-- a record's body has at most 35 bytes
pub body_short : (x : Record) → InRange x → length (body_of x) ≤ 35
body_short (Listing m n t l c) r = omega (arith, r.0, length-append {A = ℕ})
body_short (Day m d v) r = omega arith
body_short (Trade m s n p z f) r = omega arith
body_short (Cancel m s n) r = omega arith
body_short (Quote m s b o y z) r = omega arith
body_short (IndexTick m v) r = omega arith
body_short (Clock m) r = omega arith
body_short (Notice m s k) r = omega arith
body_short (Indication m s p u) r = omega arith

-- what a test lets through
passed : {A : Type 0} (b : Bool) (o : Option A) (y : A) → (if b then o else None) ≡ Some y → (b ≡ true) × (o ≡ Some y)
passed true o y is = (refl, is)
passed false o y is = absurd cc

pub some_is : {A : Type 0} (x y : A) → Some x ≡ Some y → x ≡ y
some_is x y is = cc

read_ok : (r : Result Record Refusal) (x : Record) → result_ok r ≡ Some x → r ≡ Ok x
read_ok (Ok y) x is = ap Ok (some_is y x is)
read_ok (Err refusal) x is = absurd cc

-- Numbers from 1 on

number_again : (n : ℕ) → n ≢ 0 → checked (nat_lt 0 n) n ≡ Some n
number_again n some = grind (arith, nat_tests)

number_ok : (n m : ℕ) → checked (nat_lt 0 n) n ≡ Some m → (n ≡ m) × (m ≢ 0)
number_ok n m e = grind (arith, nat_tests)

-- Parts

-- a body that has the form
form_ok : (body : List ℕ) → has_part_form body ≡ true → (10 ≤ length body) × (get_or body 0 0 ≡ 161) × (get_or body 9 0 + 10 ≡ length body)
form_ok body is = grind (arith, nat_tests)

as_long : (k n : ℕ) → n ≡ k + 10 → (nat_le 10 n && true && (k + 10 == n)) ≡ true
as_long k n is = grind (arith, nat_tests)

form_again : (n : ℕ) (tail : List ℕ) → has_part_form (161 ∷ to_be_bytes w64 n ++ framed tail) ≡ true
form_again n tail = as_long (length tail) (length (161 ∷ to_be_bytes w64 n ++ framed tail)) (omega arith)

pub part_again : (n : ℕ) (x : Record) → n ≢ 0 → n < 2 ^ 64 → record_of (body_of x) ≡ Ok x → part_of (part_body n x) ≡ Some (n, x)
unfolding part_of
part_again n x some below decodes =
    let number : number_of (part_body n x) ≡ Some n = ap (λ (k : ℕ). checked (nat_lt 0 k) k) (wide64.read n below) ∙ number_again n some in
    λ i. if form_again n (body_of x) i then (number i >>= (λ k. result_ok (decodes i) >>= (λ y. Some (k, y)))) else None

-- a Part that is written head first
pub put_framed : (number : ℕ) (x : Record) (len at end : ℕ) (piece old mid new : List ℕ) → len ≡ length (framed (body_of x)) → piece ≡ framed (body_of x)
    → Puts ((len + 9) ∷ 161 ∷ to_be_bytes w64 number) 0 old at mid → Puts piece at mid end new → Frames (part_bytes number x) old end new
put_framed number x len at end piece old mid new len_is same head tail =
    let count : len + 9 ≡ length (part_body number x) = omega (arith, len_is) in
    record {
      whole = omega (arith, head.behind, tail.behind, ap length same, len_is);
      prefix = tail.prefix ∙ (λ i. head.prefix i ++ same i) ∙ ap (λ (n : ℕ). n ∷ 161 ∷ to_be_bytes w64 number ++ framed (body_of x)) count;
      rest = tail.rest end (omega arith) ∙ head.rest end (omega (arith, tail.behind));
    }

pub part_found : (body : List ℕ) (n : ℕ) (x : Record) → IsBytes body → part_of body ≡ Some (n, x) → SpellsPart body n x
unfolding part_of
part_found body n x fits is =
    let test = passed (has_part_form body) _ (n, x) is in
    let form = form_ok body test.0 in
    let first = bind_some (number_of body) _ (n, x) test.1 in
    let number = number_ok (number w64 1 body) first.0 first.1 in
    let second = bind_some (result_ok (record_of (drop 10 body))) _ (n, x) first.2 in
    let both : ◌≡◌ {A = ℕ × Record} (first.0, second.0) (n, x) = some_is _ _ second.2 in
    let n_is : first.0 ≡ n = ap (λ p. p.0) both in
    let x_is : second.0 ≡ x = ap (λ p. p.1) both in
    let spells : Spells (drop 10 body) x = record_found (drop 10 body) x (IsBytes-drop 10 body fits) (read_ok _ x (second.1 ∙ ap Some x_is)) in
    let long : get_or body 9 0 ≡ length (body_of x) = omega (arith, form.2, length-drop 10 body, ap length spells.bytes) in
    let at_9 = byte_cell 9 body (body_of x) (length (body_of x)) long (omega (arith, form.0)) spells.bytes in
    let at_1 = cell wide64 1 body (framed (body_of x)) n fits (number.0 ∙ n_is) (omega (arith, form.0)) at_9 in
    record {
      some = λ zero. number.1 (n_is ∙ zero);
      below = subst (λ (k : ℕ). k < 2 ^ 64) (number.0 ∙ n_is) (number_below wide64 1 body fits);
      sound = record { types = spells.types; ranges = spells.ranges };
      bytes = byte_cell 0 body (to_be_bytes w64 n ++ framed (body_of x)) 161 form.1 (omega (arith, form.0)) at_1;
    }

-- Haves

have_form_ok : (body : List ℕ) → ((length body == 9) && (get_or body 0 0 == 162)) ≡ true → (length body ≡ 9) × (get_or body 0 0 ≡ 162)
have_form_ok body is = grind (arith, nat_tests)

pub have_again : (count : ℕ) → count < 2 ^ 64 → have_of (have_body count) ≡ Some count
unfolding have_of
have_again count below = ap Some (wide64.read count below)

pub have_found : (body : List ℕ) (count : ℕ) → IsBytes body → have_of body ≡ Some count → SpellsHave body count
unfolding have_of
have_found body count fits is =
    let test = passed ((length body == 9) && (get_or body 0 0 == 162)) _ count is in
    let form = have_form_ok body test.0 in
    let count_is : number w64 1 body ≡ count = some_is _ _ test.1 in
    let at_1 = cell wide64 1 body [] count fits count_is (omega (arith, form.0)) (ended 9 body form.0) in
    record {
      below = subst (λ (k : ℕ). k < 2 ^ 64) count_is (number_below wide64 1 body fits);
      bytes = byte_cell 0 body (to_be_bytes w64 count) 162 form.1 (omega (arith, form.0)) (at_1 ∙ append-nil (to_be_bytes w64 count));
    }

-- A body spells one of each at most

pub part_spelled : (body : List ℕ) (n : ℕ) (x : Record) → SpellsPart body n x → part_of body ≡ Some (n, x)
part_spelled body n x p = ap part_of p.bytes ∙ part_again n x p.some p.below (body_again x p.sound.types p.sound.ranges)

pub have_spelled : (body : List ℕ) (count : ℕ) → SpellsHave body count → have_of body ≡ Some count
have_spelled body count p = ap have_of p.bytes ∙ have_again count p.below

pub part_is_alone : PartIsAlone
part_is_alone body n m x y p q =
    let same = some_is (n, x) (m, y) (sym (part_spelled body n x p) ∙ part_spelled body m y q) in
    (ap (λ p. p.0) same, ap (λ p. p.1) same)

pub have_is_alone : HaveIsAlone
have_is_alone body n m p q = some_is n m (sym (have_spelled body n p) ∙ have_spelled body m q)
