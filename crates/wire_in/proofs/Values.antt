-- A byte that was read is the byte of its value, and the byte of a value is read.
use Rattle.std.proofs.Common.{◌≡◌, ℕ, ◌+◌, ◌≤◌, List, get_or, Option, Some, Result, Ok, refl, arith}
use Rattle.std.specs.Int.{w16}
use Rattle.std.specs.Option.{ok_or}
use Rattle.std.proofs.lemmas.Bool.Decides.{nat_tests}
use Rattle.price_core.specs.Ranges.{IsLeverage}
use Rattle.price_core.specs.declared.quote.Tier.{Tier}
use Rattle.price_core.specs.declared.quote.Tier.TheVariants as tiers
use Rattle.price_core.specs.declared.quote.Unmatched.{Unmatched}
use Rattle.price_core.specs.declared.quote.Unmatched.TheVariants as sides
use Rattle.session_core.specs.Dates.{Civil, IsCivil}
use Rattle.session_core.specs.CivilDates.{civil_date}
use Rattle.session_core.specs.declared.day.Close.{Close}
use Rattle.session_core.specs.declared.day.Close.TheVariants as closes
use Rattle.session_core.specs.declared.day.Profile.{Profile}
use Rattle.session_core.specs.declared.day.Profile.TheVariants as profiles
use Rattle.wire_core.specs.Fields.{number}
use Rattle.wire_core.specs.ResultSteps.{◌>>=◌}
use Rattle.wire_core.proofs.Steps.{field_ok}
use Rattle.wire_in.specs.Codes.{close_byte, close_of_byte, profile_byte, profile_of_byte, tier_byte, tier_of_byte, leverage_of_byte, flags_of_number, kind_byte, kind_of_byte, unmatched_byte, unmatched_of_byte}
use Rattle.wire_in.specs.Reading.{date_at, date_or_field}
use Rattle.wire_in.specs.declared.record.NoticeKind.{NoticeKind}
use Rattle.wire_in.specs.declared.record.NoticeKind.TheVariants as kinds
use Rattle.wire_in.specs.declared.record.Refusal.{Refusal}

-- the value of a field that wasn't refused, and what is known of it
pub step : {A B : Type 0} (o : Option A) (d : Refusal) (f : A → Result B Refusal) (y : B) (P : A → Type 0) → ((x : A) → o ≡ Some x → P x) → (ok_or o d >>= f) ≡ Ok y → (x : A) × P x × (f x ≡ Ok y)
step o d f y P known e =
    let b = field_ok o d f y e in
    (b.0, known b.0 b.1, b.2)

pub date_ok : (at : ℕ) (body : List ℕ) (d : Civil) → date_at at body ≡ Ok d → (number w16 at body ≡ d.year) × (get_or body (at + 2) 0 ≡ d.month) × (get_or body (at + 3) 0 ≡ d.day) × IsCivil d
unfolding date_at
date_ok at body d e = of_numbers (number w16 at body) (get_or body (at + 2) 0) (get_or body (at + 3) 0) d e where
  of_numbers : (y m n : ℕ) (d : Civil) → date_or_field (civil_date y m n) ≡ Ok d → (y ≡ d.year) × (m ≡ d.month) × (n ≡ d.day) × IsCivil d
  of_numbers y m n d e = grind (arith, nat_tests)

pub date_again : (at : ℕ) (body : List ℕ) (d : Civil) → number w16 at body ≡ d.year → get_or body (at + 2) 0 ≡ d.month → get_or body (at + 3) 0 ≡ d.day → IsCivil d → date_at at body ≡ Ok d
unfolding date_at
date_again at body d y m n h = rw (y, m, n) (of_date d h) where
  of_date : (d : Civil) → IsCivil d → date_or_field (civil_date d.year d.month d.day) ≡ Ok d
  of_date d h = grind (arith, nat_tests)

pub close_ok : (n : ℕ) (c : Close) → close_of_byte n ≡ Some c → n ≡ close_byte c
close_ok n c e = grind (arith, nat_tests)

pub close_again : (c : Close) → close_of_byte (close_byte c) ≡ Some c
close_again closes.Regular = refl
close_again closes.Early = refl

pub profile_ok : (n : ℕ) (p : Profile) → profile_of_byte n ≡ Some p → n ≡ profile_byte p
profile_ok n p e = grind (arith, nat_tests)

pub profile_again : (p : Profile) → profile_of_byte (profile_byte p) ≡ Some p
profile_again profiles.Before18 = refl
profile_again profiles.Since18 = refl

pub tier_ok : (n : ℕ) (t : Tier) → tier_of_byte n ≡ Some t → n ≡ tier_byte t
tier_ok n t e = grind (arith, nat_tests)

pub tier_again : (n : ℕ) (t : Tier) → n ≡ tier_byte t → tier_of_byte n ≡ Some t
tier_again n tiers.One e = rw e refl
tier_again n tiers.Two e = rw e refl

pub leverage_ok : (n l : ℕ) → leverage_of_byte n ≡ Some l → (n ≡ l) × IsLeverage l
leverage_ok n l e = grind (arith, nat_tests)

pub leverage_again : (n l : ℕ) → n ≡ l → IsLeverage l → leverage_of_byte n ≡ Some l
leverage_again n l e h = rw e (of_tenths l h) where
  of_tenths : (n : ℕ) → IsLeverage n → leverage_of_byte n ≡ Some n
  of_tenths n h = grind (arith, nat_tests)

pub flags_ok : (n f : ℕ) → flags_of_number n ≡ Some f → (n ≡ f) × (f ≤ 1023)
flags_ok n f e = grind (arith, nat_tests)

pub flags_again : (n f : ℕ) → n ≡ f → f ≤ 1023 → flags_of_number n ≡ Some f
flags_again n f e h = rw e (of_flags f h) where
  of_flags : (n : ℕ) → n ≤ 1023 → flags_of_number n ≡ Some n
  of_flags n h = grind (arith, nat_tests)

pub kind_ok : (n : ℕ) (k : NoticeKind) → kind_of_byte n ≡ Some k → n ≡ kind_byte k
kind_ok n k e = grind (arith, nat_tests)

pub kind_again : (k : NoticeKind) → kind_of_byte (kind_byte k) ≡ Some k
kind_again kinds.OpenQuote = refl
kind_again kinds.PauseNow = refl
kind_again kinds.Halt = refl
kind_again kinds.Resume = refl

pub unmatched_ok : (n : ℕ) (u : Unmatched) → unmatched_of_byte n ≡ Some u → n ≡ unmatched_byte u
unmatched_ok n u e = grind (arith, nat_tests)

pub unmatched_again : (u : Unmatched) → unmatched_of_byte (unmatched_byte u) ≡ Some u
unmatched_again sides.Nothing = refl
unmatched_again sides.Buy = refl
unmatched_again sides.Sell = refl
