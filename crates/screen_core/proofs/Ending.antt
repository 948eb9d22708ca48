-- How an input ends, and what is sent then.
use Rattle.std.proofs.Common.{◌≡◌, ◌≢◌, ◌⊎◌, inl, inr, ℕ, ◌==◌, Bool, true, false, cond, List, [], ◌∷◌, length, take, refl, sym, ap, ◌∙◌, arith, true≢false}
use Rattle.std.specs.Prelude.{Option, IsTrue, ◌↔◌, map, nat_le}
use Rattle.std.specs.List.{flat_map}
use Rattle.std.proofs.lemmas.List.{take_all}
use Rattle.std.proofs.lemmas.List.Folds.{flat_map-map}
use Rattle.std.proofs.lemmas.Bool.Decides.{leb_tells, eqb_tells}
use Rattle.host_core.specs.declared.status.Status.TheVariants.{Done, Truncated, SessionFull}
use Rattle.host_core.specs.Outside.{Outside}
use Rattle.wire_in.specs.declared.record.Record.{Record}
use Rattle.wire_in.specs.Cutting.{bodies_of, rest_of, pending}
use Rattle.stream_core.specs.Answering.{IsThrough}
use Rattle.stream_core.specs.Ends.{end_of}
use Rattle.rulebook.specs.Admission.{names}
use Rattle.rulebook.specs.Book.{ids_below}
use Rattle.screen_core.specs.declared.row.Row.{Row}
use Rattle.screen_core.specs.declared.stream.Screening.{Screening}
use Rattle.screen_core.specs.Rows.{last_row, row_line}
use Rattle.screen_core.specs.Screened.{accepted, lines_after, said, screen_text}
use Rattle.screen_core.specs.InternalScreens.{Reads}

-- whether bytes of a frame are left, by their number
inside_tells : (inside : Bool) (held : List ℕ) → IsTrue inside ↔ (held ≢ []) → cond inside Truncated Done ≡ cond (length held == 0) Done Truncated
inside_tells true [] is = absurd (is.0 refl refl)
inside_tells true (x ∷ xs) is = elim (eqb_tells (length (x ∷ xs)) 0) [
  | inl v ↦ absurd (omega (arith, v.1))
  | inr v ↦ sym (ap (λ (b : Bool). cond b Done Truncated) v.0)
]
inside_tells false [] is = refl
inside_tells false (x ∷ xs) is = absurd (true≢false (sym (is.1 (λ same. absurd cc))))

-- the lines of rows that are the last ones of all names
lines_are : (held : List Record) (rows : List Row) → rows ≡ map (last_row (said held)) (ids_below (length (names held))) → flat_map row_line rows ≡ lines_after held
lines_are held rows is = ap (flat_map row_line) is ∙ flat_map-map row_line (last_row (said held)) (ids_below (length (names held)))

module _ {screening : Screening} {begin : Option (List ℕ)} {count most : ℕ} {input : List ℕ} {now : Outside} (reads : Reads (take count input) screening)
    (through : IsThrough (λ read. []) begin true input count most now) where
  reached : (count ≡ length input) ⊎ (count ≡ most)
  reached = elim through.ended [ inl stop ↦ absurd (true≢false stop) | inr end ↦ end.1 ]

  whole : take count input ≡ take most input
  whole = elim reached [
    | inl all ↦ take_all count input (omega (arith, all)) ∙ sym (take_all most input (omega (arith, all, through.within)))
    | inr full ↦ ap (λ (n : ℕ). take n input) full
  ]

  pub ends_so : (inside : Bool) → IsTrue inside ↔ (pending screening.cutter ≢ []) → cond (nat_le most count) SessionFull (cond inside Truncated Done) ≡ end_of most input
  ends_so inside is_inside = elim reached [
    | inl all ↦
        let bytes = take_all count input (omega (arith, all)) in
        (λ i. cond (nat_le most (all i)) SessionFull (inside_tells inside (pending screening.cutter) is_inside i))
        ∙ ap (λ (held : List ℕ). cond (nat_le most (length input)) SessionFull (cond (length held == 0) Done Truncated)) (reads.begun ∙ ap rest_of bytes)
    | inr full ↦
        elim (leb_tells most count) [
          | inl v ↦ ap (λ (b : Bool). cond b SessionFull (cond inside Truncated Done)) v.0
          | inr v ↦ absurd (omega (arith, v.1, full))
        ]
        ∙ elim (leb_tells most (length input)) [
          | inl v ↦ sym (ap (λ (b : Bool). cond b SessionFull (cond (length (rest_of input) == 0) Done Truncated)) v.0)
          | inr v ↦ absurd (omega (arith, v.1, full, through.there))
        ]
  ]

  -- the lines of the rows are those of the whole input
  pub lines_whole : (rows : List Row) → rows ≡ map (last_row (said (accepted (bodies_of (take count input))))) (ids_below (length (names (accepted (bodies_of (take count input)))))) → flat_map row_line rows ≡ screen_text most input
  unfolding screen_text
  lines_whole rows is = lines_are (accepted (bodies_of (take count input))) rows is ∙ ap (λ (bytes : List ℕ). lines_after (accepted (bodies_of bytes))) whole
