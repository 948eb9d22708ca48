-- An input on its way, line by line.
use Rattle.std.proofs.Common.{◌≡◌, ℕ, ◌<◌, true, false, List, [], ◌∷◌, ◌++◌, length, take, refl, sym, ap, subst, ◌∙◌, arith, true≢false}
use Rattle.std.specs.Prelude.{None}
use Rattle.text_core.specs.declared.task.Task.TheVariants.{Pack}
use Rattle.text_core.specs.InternalStreams.{IsOneLine}
use Rattle.text_core.specs.Streams.{units_of, rest_of, last_unit}
use Rattle.text_core.proofs.Answering.{no_last}
use Rattle.text_core.proofs.Units.{units-append, line_units, line_rest, part_units, part_rest, cut_more}
use Rattle.auction_core.specs.declared.listing.Listing.{Listing}
use Rattle.auction_core.specs.declared.reading.Reading.{Reading}
use Rattle.auction_core.specs.Texts.{lines_of}
use Rattle.auction_core.specs.InternalReading.{Holds, Reads}
use Rattle.auction_core.proofs.Listed.{Alike, cut_alike, holds_alike, holds_rest, holds_same}

no_units : units_of Pack [] ≡ []
unfolding units_of
no_units = refl

no_rest : rest_of Pack [] ≡ []
unfolding rest_of
no_rest = refl

-- nothing was read yet
pub reads_none : (reading : Reading) → reading.line ≡ [] → reading.listing.auction ≡ None → reading.listing.orders.items ≡ [] → reading.listing.bad ≡ false → Reads [] reading
reads_none reading line auction items good = record {
  holds = holds_same (sym no_units) (record { auction = auction; orders = λ some. items; none = λ none. items; bad = good });
  begun = λ going. line ∙ ap (λ (l : List ℕ). take 256 l) (sym no_rest);
}

-- the same bytes
pub reads_same : {reading : Reading} {a b : List ℕ} → a ≡ b → Reads a reading → Reads b reading
reads_same {reading} same reads = subst (λ (read : List ℕ). Reads read reading) same reads

-- bytes behind a bad line are passed over
pub reads_rest : {reading : Reading} (read more : List ℕ) → reading.listing.bad ≡ true → Reads read reading → Reads (read ++ more) reading
reads_rest read more bad reads =
    let later = units-append Pack read more in
    record {
      holds = holds_same (sym later.1) (holds_rest later.0 bad reads.holds);
      begun = λ going. absurd (true≢false (sym bad ∙ going));
    }

-- a line more, which is read as a unit is
pub reads_line : (reading : Reading) (read last unit : List ℕ) → IsOneLine last → Alike unit (rest_of Pack read ++ last) → reading.line ≡ []
    → Holds (units_of Pack read ++ unit ∷ []) reading.listing → Reads (read ++ last ++ 10 ∷ []) reading
reads_line reading read last unit one alike empty holds = record {
  holds = holds_same (sym (line_units read last one)) (holds_alike (units_of Pack read) unit (rest_of Pack read ++ last) alike holds);
  begun = λ going. empty ∙ ap (λ (l : List ℕ). take 256 l) (sym (line_rest read last));
}

-- of a line its begin was kept, and then bytes more
pub alike_kept : (line rest last unit : List ℕ) → line ≡ take 256 rest → unit ≡ take 256 (line ++ last) → Alike unit (rest ++ last)
alike_kept line rest last unit is kept =
    subst (λ (u : List ℕ). Alike u (rest ++ last)) (sym (kept ∙ ap (λ (l : List ℕ). take 256 (l ++ last)) is ∙ cut_more rest last)) (cut_alike (rest ++ last))

-- or nothing was kept of it
pub alike_whole : (line rest last : List ℕ) → line ≡ take 256 rest → line ≡ [] → Alike last (rest ++ last)
alike_whole line [] last is empty = record { auction = refl; order = refl }
alike_whole line (b ∷ rest) last is empty = absurd (omega (arith, ap length (sym is ∙ empty)))

-- bytes of a line more
pub reads_more : (reading : Reading) (read line bytes : List ℕ) → IsOneLine bytes → line ≡ take 256 (rest_of Pack read) → reading.line ≡ take 256 (line ++ bytes)
    → Holds (units_of Pack read) reading.listing → Reads (read ++ bytes) reading
reads_more reading read line bytes one is kept holds = record {
  holds = holds_same (sym (part_units read bytes one)) holds;
  begun = λ going. kept ∙ ap (λ (l : List ℕ). take 256 (l ++ bytes)) is ∙ cut_more (rest_of Pack read) bytes ∙ ap (λ (l : List ℕ). take 256 l) (sym (part_rest read bytes one));
}

-- at the end no line is left, or the last one is taken
pub closed_none : {listing : Listing} (read line : List ℕ) → line ≡ take 256 (rest_of Pack read) → line ≡ [] → Holds (units_of Pack read) listing → Holds (lines_of read) listing
closed_none read line is empty holds = holds_same (sym (ap (λ (l : List (List ℕ)). units_of Pack read ++ l) (no_last line (rest_of Pack read) is empty) ∙ nothing (units_of Pack read))) holds where
  nothing : (lines : List (List ℕ)) → lines ++ [] ≡ lines
  nothing [] = refl
  nothing (l ∷ ls) = ap (λ (more : List (List ℕ)). l ∷ more) (nothing ls)

pub closed_line : {listing : Listing} (read line : List ℕ) → line ≡ take 256 (rest_of Pack read) → 0 < length line → Holds (units_of Pack read ++ line ∷ []) listing → Holds (lines_of read) listing
closed_line {listing} read line is some holds = by (rest_of Pack read) is where
  by : (rest : List ℕ) → line ≡ take 256 rest → Holds (units_of Pack read ++ last_unit Pack rest) listing
  by [] is = absurd (omega (arith, some, ap length is))
  by (b ∷ rest) is = holds_alike (units_of Pack read) line (b ∷ rest) (subst (λ (u : List ℕ). Alike u (b ∷ rest)) (sym is) (cut_alike (b ∷ rest))) holds

pub closed_bad : {reading : Reading} (read : List ℕ) → reading.listing.bad ≡ true → Reads read reading → Holds (lines_of read) reading.listing
closed_bad read bad reads = holds_rest (last_unit Pack (rest_of Pack read)) bad reads.holds
