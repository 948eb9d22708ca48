-- A block that is taken piece by piece.
use Rattle.std.proofs.Common.{◌≡◌, ℕ, suc, ◌+◌, ◌≤◌, List, [], ◌∷◌, ◌++◌, length, take, append_assoc, refl, sym, ap, subst, ◌∙◌, arith}
use Rattle.std.specs.Prelude.{min}
use Rattle.std.proofs.Math.Nat.{min-eq_left}
use Rattle.std.proofs.lemmas.List.{append-nil, map-append, nil_from_length, take_at}
use Rattle.wire_in.specs.declared.record.Record.{Record}
use Rattle.wire_out.specs.declared.message.Stamped.{Stamped}
use Rattle.rulebook.specs.Book.{newest_messages}
use Rattle.merge_core.specs.declared.tagged.Tagged.{Tagged}
use Rattle.shard_core.specs.Block.{AreAdmissible, Represents, ShardsState, followed, given, given_from, tagged}
use Rattle.merge_core.specs.Merged.{GoesOn, further}

-- messages whose indexes lie further on

further-tagged : (first index : ℕ) (said : List Stamped) → first + index ≤ 4294967295 → further first (tagged index said) ≡ tagged (first + index) said
further-tagged first index [] le = refl
further-tagged first index (m ∷ said) le =
    let here : min (first + index) 4294967295 ≡ first + index = min-eq_left le in
    λ i. record { input = here i; stamped = m } ∷ further-tagged first index said le i

further-from : (first index : ℕ) (applied xs : List Record) → first + index + length xs ≤ 65536 → further first (given_from index applied xs) ≡ given_from (first + index) applied xs
further-from first index applied [] le = refl
further-from first index applied (x ∷ xs) le =
    let there : first + suc index ≡ suc (first + index) = omega arith in
    map-append _ (tagged index (newest_messages (x ∷ applied))) (given_from (suc index) (x ∷ applied) xs)
    ∙ (λ i. further-tagged first index (newest_messages (x ∷ applied)) (omega arith) i ++ (further-from first (suc index) (x ∷ applied) xs (omega arith) ∙ ap (λ (n : ℕ). given_from n (x ∷ applied) xs) there) i)

pub further-given : (first : ℕ) (applied xs : List Record) → first + length xs ≤ 65536 → further first (given applied xs) ≡ given_from first applied xs
further-given first applied xs le =
    let here : first + 0 ≡ first = omega arith in
    further-from first 0 applied xs (omega arith) ∙ ap (λ (n : ℕ). given_from n applied xs) here

-- messages that go on

pub none_further : (items : List Tagged) → GoesOn items items
none_further items = record { more = []; items = sym (append-nil items) }

pub on_and_on : (a b c : List Tagged) → GoesOn a b → GoesOn b c → GoesOn a c
on_and_on a b c first later = record {
  more = first.more ++ later.more;
  items = later.items ∙ ap (λ (ms : List Tagged). ms ++ later.more) first.items ∙ append_assoc a first.more later.more;
}

pub cut_back : (a b : List Tagged) → GoesOn a b → take (length a) b ≡ a
cut_back a b on = ap (take (length a)) on.items ∙ take_at a on.more (length a) refl

-- a block of two pieces

followed-append : (applied xs ys : List Record) → followed applied (xs ++ ys) ≡ followed (followed applied xs) ys
followed-append applied [] ys = refl
followed-append applied (x ∷ xs) ys = followed-append (x ∷ applied) xs ys

given-append : (index : ℕ) (applied xs ys : List Record) → given_from index applied (xs ++ ys) ≡ given_from index applied xs ++ given_from (index + length xs) (followed applied xs) ys
given-append index applied [] ys =
    let here : index ≡ index + 0 = omega arith in
    ap (λ (n : ℕ). given_from n applied ys) here
given-append index applied (x ∷ xs) ys =
    let there : suc index + length xs ≡ index + length (x ∷ xs) = omega arith in
    let said = tagged index (newest_messages (x ∷ applied)) in
    let later = given_from (suc index) (x ∷ applied) xs in
    ap (λ (ms : List Tagged). said ++ ms) (given-append (suc index) (x ∷ applied) xs ys ∙ ap (λ (n : ℕ). later ++ given_from n (followed (x ∷ applied) xs) ys) there)
    ∙ sym (append_assoc said later (given_from (index + length (x ∷ xs)) (followed (x ∷ applied) xs) ys))

both_admissible : (capacity : ℕ) (applied xs ys : List Record) → AreAdmissible capacity applied (xs ++ ys) → AreAdmissible capacity applied xs × AreAdmissible capacity (followed applied xs) ys
both_admissible capacity applied [] ys lawful = (tt, lawful)
both_admissible capacity applied (x ∷ xs) ys (passed, lawful) =
    let both = both_admissible capacity (x ∷ applied) xs ys lawful in
    ((passed, both.0), both.1)

-- so much of a block is left behind its first pieces, and with it all is given
pub record Remains (capacity : ℕ) (applied xs : List Record) (begin : List Tagged) (rest : List Record) (first : ℕ) (now : ShardsState) (out : List Tagged) : Type 0 where
  pub middle : List Record
  pub stands : Represents now middle
  pub lawful : AreAdmissible capacity middle rest
  pub end : followed middle rest ≡ followed applied xs
  pub gives : out ++ given_from first middle rest ≡ begin ++ given applied xs

pub all_remain : (capacity : ℕ) (applied xs : List Record) (now : ShardsState) (out : List Tagged) → Represents now applied → AreAdmissible capacity applied xs → Remains capacity applied xs out xs 0 now out
all_remain capacity applied xs now out stands lawful = record { middle = applied; stands = stands; lawful = lawful; end = refl; gives = refl }

pub piece_taken : (capacity : ℕ) (applied xs : List Record) (begin : List Tagged) (rest piece later : List Record) (first : ℕ) (old new : ShardsState) (before after : List Tagged)
    → Remains capacity applied xs begin rest first old before → piece ++ later ≡ rest
    → ((c : ℕ) (done : List Record) → Represents old done → AreAdmissible c done piece → after ≡ before ++ given_from first done piece)
    → ((c : ℕ) (done : List Record) → Represents old done → AreAdmissible c done piece → Represents new (followed done piece))
    → Remains capacity applied xs begin later (first + length piece) new after
piece_taken capacity applied xs begin rest piece later first old new before after remains is gives stands =
    let middle = remains.middle in
    let both = both_admissible capacity middle piece later (subst (AreAdmissible capacity middle) (sym is) remains.lawful) in
    let own = given_from first middle piece in
    let others = given_from (first + length piece) (followed middle piece) later in
    record {
      middle = followed middle piece;
      stands = stands capacity middle remains.stands both.0;
      lawful = both.1;
      end = sym (followed-append middle piece later) ∙ ap (followed middle) is ∙ remains.end;
      gives = ap (λ (ms : List Tagged). ms ++ others) (gives capacity middle remains.stands both.0)
          ∙ append_assoc before own others
          ∙ ap (λ (ms : List Tagged). before ++ ms) (sym (given-append first middle piece later) ∙ ap (given_from first middle) is)
          ∙ remains.gives;
    }

pub all_given : (capacity : ℕ) (applied xs : List Record) (begin : List Tagged) (rest : List Record) (first : ℕ) (now : ShardsState) (out : List Tagged) → Remains capacity applied xs begin rest first now out → length rest ≡ 0
    → (out ≡ begin ++ given applied xs) × Represents now (followed applied xs)
all_given capacity applied xs begin rest first now out remains none =
    let middle = remains.middle in
    let empty : rest ≡ [] = nil_from_length rest none in (
      sym (append-nil out) ∙ ap (λ (ys : List Record). out ++ given_from first middle ys) (sym empty) ∙ remains.gives,
      subst (Represents now) (ap (followed middle) (sym empty) ∙ remains.end) remains.stands,
    )
