-- What a standby keeps is lawful, and is a part of the list whose Parts it takes.
use Rattle.std.proofs.Common.{◌≡◌, ℕ, ◌+◌, Bool, true, false, List, [], ◌∷◌, ◌++◌, length, drop, refl, sym, ap, ◌∙◌, append_assoc, length-append, arith}
use Rattle.std.specs.Prelude.{Option, Some, None, is_none, ◌&&◌, if◌then◌else◌}
use Rattle.std.proofs.lemmas.Bool.{eqb-true}
use Rattle.std.proofs.lemmas.List.{drop_at}
use Rattle.wire_in.specs.declared.record.Record.{Record}
use Rattle.wire_in.specs.declared.record.Refusal.{Refusal}
use Rattle.rulebook.specs.Admission.{IsLawful, verdict}
use Rattle.recovery_core.specs.Recoveries.{IsPart}
use Rattle.standby_core.specs.Parts.{part_of}
use Rattle.standby_core.specs.Kept.{HasAt, KeptIsLawful, KeptIsPart, with_part}

-- a test that chooses between two lists, of which both have a property
pub chosen : (P : List Record → Type 0) (b : Bool) (next same : List Record) → (b ≡ true → P next) → P same → P (if b then next else same)
chosen P true next same taken left = taken refl
chosen P false next same taken left = left

both : (a b : Bool) → (a && b) ≡ true → (a ≡ true) × (b ≡ true)
both true b is = (refl, is)
both false b is = absurd cc

none_is : (o : Option Refusal) → is_none o ≡ true → o ≡ None
none_is None is = refl
none_is (Some x) is = absurd cc

with_lawful : (limit : ℕ) (accepted : List Record) (part : Option (ℕ × Record)) → IsLawful limit accepted → IsLawful limit (with_part limit accepted part)
with_lawful limit accepted None lawful = lawful
with_lawful limit accepted (Some part) lawful =
    chosen (IsLawful limit) _ (part.1 ∷ accepted) accepted (λ taken. (none_is (verdict limit accepted part.1) (both _ _ taken).1, lawful)) lawful

pub kept_is_lawful : KeptIsLawful
kept_is_lawful limit accepted [] lawful = lawful
kept_is_lawful limit accepted (body ∷ later) lawful = kept_is_lawful limit (with_part limit accepted (part_of body)) later (with_lawful limit accepted (part_of body) lawful)

-- the ends of one list that are as long
ends_alike : (a b c d : List Record) → a ++ c ≡ b ++ d → length c ≡ length d → c ≡ d
ends_alike a b c d is same =
    let counts : length a ≡ length b = omega (arith, same, ap length is, length-append a c, length-append b d) in
    sym (drop_at a c (length a) refl) ∙ ap (drop (length a)) is ∙ drop_at b d (length a) (sym counts)

with_one : (limit : ℕ) (records accepted : List Record) (part : Option (ℕ × Record)) → ((p : ℕ × Record) → part ≡ Some p → HasAt p.0 p.1 records) → IsPart accepted records → IsPart (with_part limit accepted part) records
with_one limit records accepted None at is = is
with_one limit records accepted (Some part) at is =
    chosen (λ l. IsPart l records) _ (part.1 ∷ accepted) accepted (λ taken.
    let next : part.0 ≡ length accepted + 1 = eqb-true _ _ (both _ _ taken).0 in
    let there = at part refl in
    let same : part.1 ∷ there.earlier ≡ part.1 ∷ accepted =
    ap (λ (l : List Record). part.1 ∷ l) (ends_alike (there.later ++ part.1 ∷ []) is.more there.earlier accepted (joined there.later part.1 there.earlier ∙ there.parts ∙ sym is.whole) (omega (arith, next, there.count))) in
    record { more = there.later; whole = ap (λ (l : List Record). there.later ++ l) (sym same) ∙ there.parts }) is
  where
    joined : (a : List Record) (x : Record) (b : List Record) → (a ++ x ∷ []) ++ b ≡ a ++ x ∷ b
    joined a x b = append_assoc a (x ∷ []) b

pub kept_is_part : KeptIsPart
kept_is_part limit records accepted [] of_list is = is
kept_is_part limit records accepted (body ∷ later) of_list is =
    kept_is_part limit records (with_part limit accepted (part_of body)) later of_list.1 (with_one limit records accepted (part_of body) of_list.0 is)
