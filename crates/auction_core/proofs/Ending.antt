-- How an input ends.
use Rattle.std.proofs.Common.{◌≡◌, ◌≢◌, ◌⊎◌, inl, inr, cond, ℕ, ◌+◌, ◌-◌, ◌*◌, ◌≤◌, ◌<◌, Bool, true, false, not, List, [], ◌∷◌, ◌++◌, length, take, drop, refl, sym, ap, subst, ◌∙◌, length-append, append_assoc, arith, true≢false}
use Rattle.std.specs.Prelude.{Option, Some, None, is_some, min}
use Rattle.std.proofs.Math.Seq.{take-add}
use Rattle.std.proofs.lemmas.List.{append-nil, take_all, take-append-drop, length-take}
use Rattle.std.proofs.lemmas.Bool.Decides.{leb_tells, eqb_tells}
use Rattle.host_core.specs.declared.status.Status.{Status}
use Rattle.host_core.specs.declared.status.Status.TheVariants.{Done, BadText}
use Rattle.host_core.specs.Outside.{Outside}
use Rattle.stream_core.specs.Answering.{IsThrough}
use Rattle.stream_core.specs.Ends as ends
use Rattle.text_core.specs.declared.task.Task.TheVariants.{Pack}
use Rattle.text_core.specs.Streams.{lines_from, last_from, units_of, rest_of, last_unit}
use Rattle.text_core.proofs.Units.{lines-append, last-append, not_false, units-append}
use Rattle.cross_core.specs.declared.order.Order.{Order}
use Rattle.auction_core.specs.declared.listing.Listing.{Listing}
use Rattle.auction_core.specs.declared.reading.Reading.{Reading}
use Rattle.auction_core.specs.Crossed.{IsEnd}
use Rattle.auction_core.specs.Reading.{auction_in, order_in}
use Rattle.auction_core.specs.Texts.{IsTextOf, auction_at, before_bad, end_of, end_of_lines, good_lines, lines_of, orders_in}
use Rattle.auction_core.specs.InternalReading.{Holds, Reads, end_so_far, has_bad}
use Rattle.auction_core.proofs.Listed.{Adds, adds_none, adds_over, all_fit, all_good, first_bad, good_none, good_some, long_auction, long_order, still_bad, taken, taken_good}

-- The end of lines.

pub end_bad : (lines : List (List ℕ)) → has_bad lines ≡ true → end_of_lines lines ≡ BadText (good_lines lines + 1)
end_bad [] bad = absurd (true≢false (sym bad))
end_bad (l ∷ ls) bad = ap (λ (b : Bool). cond b (BadText (good_lines (l ∷ ls) + 1)) Done) bad

pub so_far_bad : (lines : List (List ℕ)) → has_bad lines ≡ true → end_so_far lines ≡ BadText (good_lines lines + 1)
so_far_bad lines bad = ap (λ (b : Bool). cond b (BadText (good_lines lines + 1)) Done) bad

pub so_far_good : (lines : List (List ℕ)) → has_bad lines ≡ false → end_so_far lines ≡ Done
so_far_good lines good = ap (λ (b : Bool). cond b (BadText (good_lines lines + 1)) Done) good

pub bad_is : (n : ℕ) → BadText n ≢ Done
bad_is n is = absurd cc

-- a listing without an auction is one of no line, or of a bad one
pub ends_none : (lines : List (List ℕ)) → auction_at lines ≡ None → end_of_lines lines ≡ BadText 1
ends_none [] none = refl
ends_none (l ∷ ls) none =
    end_bad (l ∷ ls) (first_bad l ls (ap is_some none)) ∙ ap (λ (n : ℕ). BadText (n + 1)) (good_none l ls (ap is_some none))

pub ends_bad : {lines : List (List ℕ)} {listing : Listing} → Holds lines listing → listing.bad ≡ true → end_so_far lines ≡ end_of_lines lines
ends_bad {lines} holds bad = so_far_bad lines (sym holds.bad ∙ bad) ∙ sym (end_bad lines (sym holds.bad ∙ bad))

pub ends_good : (lines : List (List ℕ)) → is_some (auction_at lines) ≡ true → has_bad lines ≡ false → end_of_lines lines ≡ Done
ends_good [] some good = absurd (true≢false (sym some))
ends_good (l ∷ ls) some good = ap (λ (b : Bool). cond b (BadText (good_lines (l ∷ ls) + 1)) Done) good

-- what is sent then
pub no_text : {lines : List (List ℕ)} {text : List ℕ} (n : ℕ) → IsTextOf lines text → end_of_lines lines ≡ BadText n → text ≡ []
no_text n is ends = is.bad (λ done. bad_is n (sym ends ∙ done))

-- The end of what was read.

-- where the input was read to its end, no line was bad
pub goes_on_at : (status : Status) (bad : Bool) → (status ≡ Done → bad ≡ false) → IsEnd status → ends.IsEnd status → not bad ≡ true
goes_on_at Done bad good end whole = ap not (good refl)
goes_on_at (BadText n) bad good end whole = absurd whole
goes_on_at status bad good end whole = absurd end

-- the first bytes of an input, and more of them
taken_more : (n m : ℕ) (input : List ℕ) → n ≤ m → take m input ≡ take n input ++ take (m - n) (drop n input)
taken_more n m input le = ap (λ (k : ℕ). take k input) (omega (arith, le)) ∙ take-add n (m - n) input

-- lines with a bad one among them end as it says, whatever more there is
pub same_end : (lines more : List (List ℕ)) → has_bad lines ≡ true → end_so_far (lines ++ more) ≡ end_so_far lines
same_end lines more bad =
    let on = still_bad lines more bad in
    so_far_bad (lines ++ more) on.bad ∙ ap (λ (n : ℕ). BadText (n + 1)) on.good ∙ sym (so_far_bad lines bad)

pub stops_so : {reading : Reading} {begin : Option (List ℕ)} (input : List ℕ) (count most : ℕ) (now : Outside) → Reads (take count input) reading
    → IsThrough (λ read. []) begin (not reading.listing.bad) input count most now
    → end_so_far (units_of Pack (take count input)) ≡ end_so_far (units_of Pack (take most input))
stops_so input count most now reads through = elim through.ended [
  | inl stop ↦
      let more = units-append Pack (take count input) (take (most - count) (drop count input)) in
      sym (ap end_so_far (ap (units_of Pack) (taken_more count most input through.within) ∙ more.1)
      ∙ same_end (units_of Pack (take count input)) more.0 (sym reads.holds.bad ∙ not_false _ stop))
  | inr end ↦ elim end.1 [
    | inl all ↦ ap (λ (bytes : List ℕ). end_so_far (units_of Pack bytes)) (take_all count input (omega (arith, all)) ∙ sym (take_all most input (omega (arith, all, through.within))))
    | inr full ↦ ap (λ (n : ℕ). end_so_far (units_of Pack (take n input))) full
  ]
]

-- the lines of the first bytes stand before the others
lines_more : (n : ℕ) (input : List ℕ) → (later : List (List ℕ)) × (lines_of input ≡ units_of Pack (take n input) ++ later)
lines_more n input =
    let more = units-append Pack (take n input) (drop n input) in (
      more.0 ++ last_unit Pack (rest_of Pack input),
      ap (λ (u : List (List ℕ)). u ++ last_unit Pack (rest_of Pack input)) (ap (units_of Pack) (sym (take-append-drop n input)) ∙ more.1)
          ∙ append_assoc (units_of Pack (take n input)) more.0 (last_unit Pack (rest_of Pack input)),
    )

end_at_bad : (lines : List (List ℕ)) → end_so_far lines ≢ Done → has_bad lines ≡ true
end_at_bad lines other = by (has_bad lines) refl where
  by : (b : Bool) → has_bad lines ≡ b → has_bad lines ≡ true
  by true is = is
  by false is = absurd (other (so_far_good lines is))

-- a bad line among the first bytes is where the input ends
pub ends_early : (most : ℕ) (input : List ℕ) (status : Status) → status ≡ end_so_far (units_of Pack (take most input)) → status ≢ Done → (status ≡ end_of input) × (end_of input ≢ Done)
ends_early most input status is other =
    let lines = units_of Pack (take most input) in
    let bad = end_at_bad lines (λ done. other (is ∙ done)) in
    let more = lines_more most input in
    let on = still_bad lines more.0 bad in
    let end = ap end_of_lines more.1 ∙ end_bad (lines ++ more.0) on.bad ∙ ap (λ (n : ℕ). BadText (n + 1)) on.good in
    (is ∙ so_far_bad lines bad ∙ sym end, λ done. bad_is (good_lines lines + 1) (sym end ∙ done))

-- Inputs of too many bytes.

-- how many bytes lines take with their newlines
abbrev size : List (List ℕ) → ℕ
size [] = 0
size (l ∷ ls) = length l + 1 + size ls

size_is : (begun bytes : List ℕ) → length begun + length bytes ≡ size (lines_from begun bytes) + length (last_from begun bytes)
size_is begun [] = omega arith
size_is begun (b ∷ bytes) = elim (eqb_tells b 10) [
  | inl w ↦ rw w.0 (omega (arith, size_is [] bytes))
  | inr w ↦ rw w.0 (omega (arith, length-append begun (b ∷ []), size_is (begun ++ b ∷ []) bytes))
]

short_order : (line : List ℕ) → order_in line ≢ None → length line ≤ 255
short_order line is = elim (leb_tells (length line) 255) [ inl w ↦ w.1 | inr w ↦ absurd (is (long_order line (omega (arith, w.1)))) ]

short_auction : (line : List ℕ) → is_some (auction_in line) ≡ true → length line ≤ 255
short_auction line some = elim (leb_tells (length line) 255) [
  | inl w ↦ w.1
  | inr w ↦ absurd (true≢false (sym some ∙ ap is_some (long_auction line (omega (arith, w.1)))))
]

one_size : (l : List ℕ) (ls : List (List ℕ)) (r : Option Order) → order_in l ≡ r → length (before_bad r (orders_in ls)) ≡ length (l ∷ ls) → (length (orders_in ls) ≡ length ls → size ls ≤ 256 * length ls)
    → size (l ∷ ls) ≤ 256 * length (l ∷ ls)
one_size l ls None is all more = absurd (omega (arith, all))
one_size l ls (Some o) is all more =
    let one = short_order l (λ none. told o (sym is ∙ none)) in
    let rest = more (omega (arith, all)) in
    omega (arith, one, rest)
  where
    told : (o : Order) → ◌≡◌ {A = Option Order} (Some o) None → ⊥
    told o e = absurd cc

orders_size : (lines : List (List ℕ)) → length (orders_in lines) ≡ length lines → size lines ≤ 256 * length lines
orders_size [] all = omega arith
orders_size (l ∷ ls) all = one_size l ls (order_in l) refl all (orders_size ls)

good_size : (lines : List (List ℕ)) → has_bad lines ≡ false → (size lines ≤ 256 * length lines) × (length lines ≤ 1000001)
good_size [] good = (omega arith, omega arith)
good_size (first ∷ later) good = by (is_some (auction_in first)) refl where
  by : (t : Bool) → is_some (auction_in first) ≡ t → (size (first ∷ later) ≤ 256 * length (first ∷ later)) × (length (first ∷ later) ≤ 1000001)
  by true some =
      let all = all_good first later some good in
      (omega (arith, short_auction first some, orders_size later (taken_good later all)), omega (arith, all_fit later all))
  by false none = absurd (true≢false (sym (first_bad first later none) ∙ good))

-- a line that is too long, or one too many
abbrev IsTooMuch : List (List ℕ) → List ℕ → Type 0
IsTooMuch lines n = (255 < length n) ⊎ (1000001 ≤ length lines)

next_bad : (lines : List (List ℕ)) → has_bad lines ≡ false → (n : List ℕ) → IsTooMuch lines n → (has_bad (lines ++ n ∷ []) ≡ true) × (good_lines (lines ++ n ∷ []) ≡ good_lines lines)
next_bad [] good n (inl long) = (first_bad n [] (ap is_some (long_auction n long)), good_none n [] (ap is_some (long_auction n long)))
next_bad [] good n (inr full) = absurd (omega (arith, full))
next_bad (first ∷ later) good n much = by (is_some (auction_in first)) refl where
  by : (t : Bool) → is_some (auction_in first) ≡ t → (has_bad (first ∷ (later ++ n ∷ [])) ≡ true) × (good_lines (first ∷ (later ++ n ∷ [])) ≡ good_lines (first ∷ later))
  by false none = absurd (true≢false (sym (first_bad first later none) ∙ good))
  by true some = elim (leb_tells 1000000 (length (taken later))) [
    | inl w ↦ added (adds_over n (first ∷ later) some good w.1)
    | inr w ↦ room (omega (arith, w.1)) much
  ] where
    added : Adds (first ∷ later) n (taken later) true → (has_bad (first ∷ (later ++ n ∷ [])) ≡ true) × (good_lines (first ∷ (later ++ n ∷ [])) ≡ good_lines (first ∷ later))
    added adds = (
      sym adds.bad,
      good_some first (later ++ n ∷ []) some ∙ ap (λ (os : List Order). length os + 1) adds.orders ∙ sym (good_some first later some),
    )

    room : length (taken later) < 1000000 → IsTooMuch (first ∷ later) n → (has_bad (first ∷ (later ++ n ∷ [])) ≡ true) × (good_lines (first ∷ (later ++ n ∷ [])) ≡ good_lines (first ∷ later))
    room few (inl long) = added (adds_none n (first ∷ later) some good few (long_order n long))
    room few (inr full) = absurd (omega (arith, full, few, all_good first later some good))

end_next : (lines : List (List ℕ)) → has_bad lines ≡ false → (n : List ℕ) (later : List (List ℕ)) → IsTooMuch lines n → end_of_lines (lines ++ n ∷ later) ≡ BadText (good_lines lines + 1)
end_next lines good n later much =
    let next = next_bad lines good n much in
    let on = still_bad (lines ++ n ∷ []) later next.0 in
    ap end_of_lines (sym (append_assoc lines (n ∷ []) later))
    ∙ end_bad ((lines ++ n ∷ []) ++ later) on.bad
    ∙ ap (λ (k : ℕ). BadText (k + 1)) (on.good ∙ next.1)

-- a line that is begun, with what follows
record Tail (rest bytes : List ℕ) : Type 0 where
  pub x : List ℕ
  pub later : List (List ℕ)
  pub is : lines_from rest bytes ++ last_unit Pack (last_from rest bytes) ≡ (rest ++ x) ∷ later

tail_none : (rest : List ℕ) → 0 < length rest → Tail rest []
tail_none [] some = absurd (omega (arith, some))
tail_none (b ∷ rest) some = record { x = []; later = []; is = ap (λ (r : List ℕ). r ∷ []) (sym (append-nil (b ∷ rest))) }

tail : (rest bytes : List ℕ) → 0 < length rest → Tail rest bytes
tail rest [] some = tail_none rest some
tail rest (b ∷ bytes) some = elim (eqb_tells b 10) [
  | inl w ↦ record {
    x = [];
    later = lines_from [] bytes ++ last_unit Pack (last_from [] bytes);
    is = rw w.0 (ap (λ (r : List ℕ). r ∷ (lines_from [] bytes ++ last_unit Pack (last_from [] bytes))) (sym (append-nil rest)));
  }
  | inr w ↦
      let t = tail (rest ++ b ∷ []) bytes (omega (arith, length-append rest (b ∷ []))) in
      record { x = b ∷ t.x; later = t.later; is = rw w.0 (t.is ∙ ap (λ (r : List ℕ). r ∷ t.later) (append_assoc rest (b ∷ []) t.x)) }
]

sizes : (bytes : List ℕ) → length bytes ≡ size (units_of Pack bytes) + length (rest_of Pack bytes)
unfolding units_of rest_of
sizes bytes = omega (arith, size_is [] bytes)

lines_join : (read more : List ℕ) → 0 < length (rest_of Pack read)
    → (x : List ℕ) × (later : List (List ℕ)) × (lines_of (read ++ more) ≡ units_of Pack read ++ (rest_of Pack read ++ x) ∷ later)
unfolding units_of rest_of
lines_join read more some =
    let t = tail (last_from [] read) more some in (
      t.x,
      t.later,
      (λ i. lines-append [] read more i ++ last_unit Pack (last-append [] read more i))
          ∙ append_assoc (lines_from [] read) (lines_from (last_from [] read) more) (last_unit Pack (last_from (last_from [] read) more))
          ∙ ap (λ (ls : List (List ℕ)). lines_from [] read ++ ls) t.is,
    )

-- behind lines that leave so many bytes
too_much : (lines : List (List ℕ)) (rest : List ℕ) → size lines ≤ 256 * length lines → size lines + length rest ≡ 256000257 → (x : List ℕ) → IsTooMuch lines (rest ++ x)
too_much lines rest few full x = elim (leb_tells 1000001 (length lines)) [
  | inl w ↦ inr w.1
  | inr w ↦ inl (omega (arith, w.1, few, full, length-append rest x))
]

-- an input of more bytes than are read is bad where those that are read are
pub cut_end : (input : List ℕ) → 256000257 < length input → (end_of (take 256000257 input) ≡ end_of input) × (end_of input ≢ Done)
cut_end input long = by (has_bad lines) refl where
  read : List ℕ
  read = take 256000257 input

  lines : List (List ℕ)
  lines = units_of Pack read

  whole : read ++ drop 256000257 input ≡ input
  whole = take-append-drop 256000257 input

  both : end_of read ≡ BadText (good_lines lines + 1) → end_of input ≡ BadText (good_lines lines + 1) → (end_of read ≡ end_of input) × (end_of input ≢ Done)
  both first second = (first ∙ sym second, λ done. bad_is (good_lines lines + 1) (sym second ∙ done))

  by : (t : Bool) → has_bad lines ≡ t → (end_of read ≡ end_of input) × (end_of input ≢ Done)
  by true bad =
      let on = still_bad lines (last_unit Pack (rest_of Pack read)) bad in
      let more = lines_more 256000257 input in
      let far = still_bad lines more.0 bad in
      both (end_bad (lines_of read) on.bad ∙ ap (λ (n : ℕ). BadText (n + 1)) on.good)
      (ap end_of_lines more.1 ∙ end_bad (lines ++ more.0) far.bad ∙ ap (λ (n : ℕ). BadText (n + 1)) far.good)
  by false good =
      let few = good_size lines good in
      let count = sizes read in
      let full : length read ≡ 256000257 = omega (arith, length-take 256000257 input, long) in
      let some : 0 < length (rest_of Pack read) = omega (arith, few.0, few.1, count, full) in
      let first = lines_join read [] some in
      let second = lines_join read (drop 256000257 input) some in
      both
      (ap end_of (sym (append-nil read)) ∙ ap end_of_lines first.2 ∙ end_next lines good (rest_of Pack read ++ first.0) first.1 (too_much lines (rest_of Pack read) few.0 (sym count ∙ full) first.0))
      (ap end_of (sym whole) ∙ ap end_of_lines second.2 ∙ end_next lines good (rest_of Pack read ++ second.0) second.1 (too_much lines (rest_of Pack read) few.0 (sym count ∙ full) second.0))

-- What was read of an input, at most so many bytes of it, ends as the input does, and its text is that of the input.
pub record IsRead (input : List ℕ) : Type 0 where
  pub end : end_of (take (min 256000257 (length input)) input) ≡ end_of input
  pub text : (text : List ℕ) → IsTextOf (lines_of input) text → IsTextOf (lines_of (take (min 256000257 (length input)) input)) text

pub is_read : (input : List ℕ) → IsRead input
is_read input = elim (leb_tells (length input) 256000257) [
  | inl w ↦
      let same : take (min 256000257 (length input)) input ≡ input = take_all (min 256000257 (length input)) input (omega (arith, w.1)) in
      record {
        end = ap end_of same;
        text = λ text is. subst (λ (bytes : List ℕ). IsTextOf (lines_of bytes) text) (sym same) is;
      }
  | inr w ↦
      let same : min 256000257 (length input) ≡ 256000257 = omega (arith, w.1) in
      let ends = cut_end input (omega (arith, w.1)) in
      let end = ap (λ (n : ℕ). end_of (take n input)) same ∙ ends.0 in
      record {
        end = end;
        text = λ text is. record { done = λ done. absurd (ends.1 (sym end ∙ done)); bad = λ other. is.bad ends.1 };
      }
]
