-- What stands at each index of the generated day.
use Rattle.std.proofs.Common.{◌≡◌, ℕ, zero, suc, ◌+◌, ◌-◌, ◌<◌, ◌≤◌, List, [], ◌∷◌, ◌++◌, length, drop, get_or, sym, refl, ap, ◌∙◌, arith, length-append}
use Rattle.std.proofs.Math.ListN.{get_or-append}
use Rattle.std.proofs.Math.Seq.{get_or-append_seam}
use Rattle.std.proofs.lemmas.List.{get_or-append-add, drop_more}
use Rattle.std.proofs.lemmas.Option.{slice_get-get_or, slice_get_within, get_or_from_slice_get}
use mathlib.Core.Logic.{dite}
use native.Mathlib.Decide.{ℕ_discrete}
use Rattle.std.specs.Prelude.{Some, slice_get}
use Rattle.wire_in.specs.declared.record.Record.{Record}
use Rattle.gen_core.specs.declared.plan.DayPlan.{DayPlan}
use Rattle.gen_core.specs.Generated.{day_record, listing, listings, record_behind, session_records, generated}

-- a list that grows by one at its end
module _ {X : Type 0} (F : ℕ → List X) (x : ℕ → X) (none : F 0 ≡ []) (more : (n : ℕ) → F (suc n) ≡ F n ++ x n ∷ []) where
  pub grown_length : (n : ℕ) → length (F n) ≡ n
  grown_length zero = ap length none
  grown_length (suc n) = ap length (more n) ∙ omega (arith, length-append (F n) (x n ∷ []), grown_length n)

  pub grown_at : (n k : ℕ) (d : X) → k < n → get_or (F n) k d ≡ x k
  grown_at zero k d lt = absurd (omega arith)
  grown_at (suc n) k d lt = ap (λ xs. get_or xs k d) (more n) ∙ dite (ℕ_discrete k n)
      (λ same. ap (λ j. get_or (F n ++ x n ∷ []) j d) (same ∙ sym (grown_length n)) ∙ (get_or-append_seam (F n) (x n) [] d ∙ ap x (sym same)))
      (λ ne. let near : k < n = omega arith in get_or-append (F n) (x n ∷ []) d k (omega (arith, grown_length n)) ∙ grown_at n k d near)

listings_none : listings 0 ≡ []
unfolding listings
listings_none = refl

listings_more : (n : ℕ) → listings (suc n) ≡ listings n ++ listing n ∷ []
unfolding listings
listings_more n = refl

pub session_none : (plan : DayPlan) → session_records plan 0 ≡ []
unfolding session_records
session_none plan = refl

pub session_more : (plan : DayPlan) (k : ℕ) → session_records plan (suc k) ≡ session_records plan k ++ record_behind plan (session_records plan k) k ∷ []
unfolding session_records
session_more plan k = refl

module _ (plan : DayPlan) where
  listed : length (listings plan.symbols) ≡ plan.symbols
  listed = grown_length listings listing listings_none listings_more plan.symbols

  later : length (session_records plan plan.records) ≡ plan.records
  later = grown_length (session_records plan) (λ k. record_behind plan (session_records plan k) k) (session_none plan) (session_more plan) plan.records

  pub generated_length : length (generated plan) ≡ 1 + plan.symbols + plan.records
  unfolding generated
  generated_length = omega (arith, length-append (listings plan.symbols) (session_records plan plan.records), listed, later)

  at_index : (k : ℕ) (x : Record) → k < 1 + plan.symbols + plan.records → get_or (generated plan) k x ≡ x → slice_get (generated plan) k ≡ Some x
  at_index k x lt is = slice_get-get_or (generated plan) k x (omega (arith, generated_length)) ∙ ap Some is

  first_at : (d : Record) → get_or (generated plan) 0 d ≡ day_record
  unfolding generated
  first_at d = refl

  listing_at : (k : ℕ) (d : Record) → k < plan.symbols → get_or (generated plan) (suc k) d ≡ listing k
  unfolding generated
  listing_at k d lt = get_or-append (listings plan.symbols) (session_records plan plan.records) d k (omega (arith, listed)) ∙ grown_at listings listing listings_none listings_more plan.symbols k d lt

  session_at : (k : ℕ) (d : Record) → k < plan.records → get_or (generated plan) (suc (plan.symbols + k)) d ≡ record_behind plan (session_records plan k) k
  unfolding generated
  session_at k d lt =
      ap (λ n. get_or (listings plan.symbols ++ session_records plan plan.records) (n + k) d) (sym listed)
      ∙ (get_or-append-add (listings plan.symbols) (session_records plan plan.records) k d
      ∙ grown_at (session_records plan) (λ j. record_behind plan (session_records plan j) j) (session_none plan) (session_more plan) plan.records k d lt)

  pub begins_with_day : slice_get (generated plan) 0 ≡ Some day_record
  begins_with_day = at_index 0 day_record (omega arith) (first_at day_record)

  pub has_listing : (given : ℕ) → 0 < given → given ≤ plan.symbols → slice_get (generated plan) given ≡ Some (listing (given - 1))
  has_listing zero some le = absurd (omega arith)
  has_listing (suc k) some le =
      let before : k ≡ suc k - 1 = omega arith in
      at_index (suc k) (listing k) (omega arith) (listing_at k (listing k) (omega arith)) ∙ ap (λ j. Some (listing j)) before

  pub has_session_record : (given k : ℕ) → given ≡ suc (plan.symbols + k) → k < plan.records → slice_get (generated plan) given ≡ Some (record_behind plan (session_records plan k) k)
  has_session_record given k is lt =
      ap (slice_get (generated plan)) is ∙ at_index (suc (plan.symbols + k)) (record_behind plan (session_records plan k) k) (omega arith) (session_at k (record_behind plan (session_records plan k) k) lt)

-- the record at an index, and those behind it
pub first_left : {X : Type 0} (xs : List X) (i : ℕ) (x : X) → slice_get xs i ≡ Some x → drop i xs ≡ x ∷ drop (i + 1) xs
first_left xs i x is = drop_more xs i x (slice_get_within xs i x is) ∙ ap (λ y. y ∷ drop (i + 1) xs) (get_or_from_slice_get xs i x x is)
