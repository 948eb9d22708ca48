-- What a record that begins no day and lists no name leaves as it was.
use Rattle.std.proofs.Common.{◌≡◌, ℕ, Bool, false, List, [], ◌∷◌, None, refl, true≢false}
use Rattle.std.specs.Prelude.{nat_lt}
use Rattle.wire_in.specs.declared.record.Record.{Record}
use Rattle.wire_in.specs.declared.record.Record.TheVariants as in_
use Rattle.wire_in.specs.Records.{moment_of, is_day, name_of}
use Rattle.wire_in.proofs.RecordKinds.{IsOther, by_listing}
use Rattle.rulebook.specs.declared.event.Event.{Event}
use Rattle.rulebook.specs.Admission.{names, is_listed_name, last_day, is_early}
use Rattle.rulebook.specs.Book.{Named, announced}
use Rattle.rulebook.specs.Market.{day_record}
use Rattle.rulebook.specs.Symbol.{terms_in}

pub record Leaves (x : Record) (A : List Record) : Type 0 where
  pub names_are : names (x ∷ A) ≡ names A
  pub listed : (name : List ℕ) → is_listed_name (x ∷ A) name ≡ is_listed_name A name
  pub terms : (own : List ℕ → Bool) → terms_in own (x ∷ A) ≡ terms_in own A
  pub last : last_day (x ∷ A) ≡ last_day A
  pub day : day_record (x ∷ A) ≡ day_record A
  pub early : (y : Record) → is_early (y ∷ A) x ≡ nat_lt (moment_of x) (moment_of y)
  pub announces : (s : Named) (h : List Event) → announced s x h ≡ []

pub leaves : (x : Record) (A : List Record) → IsOther x → Leaves x A
leaves (in_.Day t d v) A is = absurd (true≢false is.no_day)
leaves (in_.Listing t n k l c) A is = absurd (let no = is.no_name in cc)
leaves (in_.Trade t i n p q f) A is =
    record { names_are = refl; listed = λ n. refl; terms = λ m. refl; last = refl; day = refl; early = λ y. refl; announces = λ s h. refl }
leaves (in_.Cancel t i n) A is =
    record { names_are = refl; listed = λ n. refl; terms = λ m. refl; last = refl; day = refl; early = λ y. refl; announces = λ s h. refl }
leaves (in_.Quote t i b o y z) A is =
    record { names_are = refl; listed = λ n. refl; terms = λ m. refl; last = refl; day = refl; early = λ y. refl; announces = λ s h. refl }
leaves (in_.IndexTick t v) A is =
    record { names_are = refl; listed = λ n. refl; terms = λ m. refl; last = refl; day = refl; early = λ y. refl; announces = λ s h. refl }
leaves (in_.Clock t) A is =
    record { names_are = refl; listed = λ n. refl; terms = λ m. refl; last = refl; day = refl; early = λ y. refl; announces = λ s h. refl }
leaves (in_.Notice t i k) A is =
    record { names_are = refl; listed = λ n. refl; terms = λ m. refl; last = refl; day = refl; early = λ y. refl; announces = λ s h. refl }
leaves (in_.Indication t i p u) A is =
    record { names_are = refl; listed = λ n. refl; terms = λ m. refl; last = refl; day = refl; early = λ y. refl; announces = λ s h. refl }

-- the names are the same after a day, too
pub names-same : (x : Record) (A : List Record) → name_of x ≡ None → names (x ∷ A) ≡ names A
names-same x A e =
    by_listing (λ y. name_of y ≡ None → names (y ∷ A) ≡ names A) (λ t d c none. refl) (λ t n k l c none. absurd cc)
    (λ y o none. (leaves y A o).names_are) x e

-- and so is the day after a listing
pub day_record-same : (x : Record) (A : List Record) → is_day x ≡ false → day_record (x ∷ A) ≡ day_record A
day_record-same x A e =
    by_listing (λ y. is_day y ≡ false → day_record (y ∷ A) ≡ day_record A) (λ t d c no. absurd (true≢false no)) (λ t n k l c no. refl)
    (λ y o no. (leaves y A o).day) x e
