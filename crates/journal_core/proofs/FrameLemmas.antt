-- Records and their frames.
use Rattle.std.proofs.Common.{◌≡◌, ℕ, suc, ◌+◌, ◌*◌, ◌<◌, ◌≤◌, List, [], ◌∷◌, ◌++◌, length, get_or, take, refl, inl, inr, sym, ap, subst, ◌∙◌, arith, append_assoc, length-append}
use Rattle.std.specs.Prelude.{All, Ok, true, false}
use Rattle.std.specs.List.{flat_map}
use Rattle.std.proofs.lemmas.List.{append-nil, take_more, get_or_past}
use Rattle.std.proofs.lemmas.Bool.{cases_lt}
use Rattle.std.proofs.lemmas.Grind.{flat_map-append}
use Rattle.std.proofs.lemmas.List.Elements.{All-head, All-tail, All-more}
use Rattle.wire_core.proofs.Cells.{IsBytes}
use Rattle.wire_in.specs.declared.record.Record.{Record}
use Rattle.wire_in.specs.declared.record.Record.TheVariants.{Day, Listing, Trade, Cancel, Quote, IndexTick, Clock, Notice, Indication}
use Rattle.wire_in.specs.Laws.{IsSound}
use Rattle.wire_in.specs.Spelling.{InRange, body_of}
use Rattle.wire_in.specs.Reading.{record_of}
use Rattle.wire_in.proofs.DecodesOnly.{record_found}
use Rattle.wire_in.proofs.Streams.{records_differ}
use Rattle.wire_core.specs.Frames.{framed}
use Rattle.wire_in.specs.Bases.{SpellsBase}
use Rattle.wire_in.specs.declared.base.Base.{Base}
use Rattle.wire_in.proofs.BaseForms.{day-length}
use Rattle.wire_in.proofs.OneBase.{behind_day, few_carried, has_form, ids-length, names-length, tail_of}
use Rattle.journal_core.specs.Layout.{IsBatch, IsLength, frame_of, frames_of}

-- what decodes from its own body is sound
pub sound_from_bytes : (x : Record) → IsBytes (body_of x) → record_of (body_of x) ≡ Ok x → IsSound x
sound_from_bytes x bytes decodes = let spelled = record_found (body_of x) x bytes decodes in record { types = spelled.types; ranges = spelled.ranges }

-- the longest frame is that of a quote
pub frame_most : (x : Record) → InRange x → length (frame_of x) ≤ 36
frame_most (Day m d v) r = omega arith
frame_most (Listing m n t l c) r = omega (arith, r.0, length-append {A = ℕ})
frame_most (Trade m s n p z f) r = omega arith
frame_most (Cancel m s n) r = omega arith
frame_most (Quote m s b o y z) r = omega arith
frame_most (IndexTick m v) r = omega arith
frame_most (Clock m) r = omega arith
frame_most (Notice m s k) r = omega arith
frame_most (Indication m s p u) r = omega arith

pub frames_most : (xs : List Record) → All IsSound xs → length (frames_of xs) ≤ 36 * length xs
frames_most [] sound = omega arith
frames_most (x ∷ xs) sound =
    omega (arith, length-append (frame_of x) (frames_of xs), frame_most x (All-head IsSound x xs sound).ranges, frames_most xs (All-tail IsSound x xs sound))

-- and the shortest that of a clock
frame_least : (x : Record) → 10 ≤ length (frame_of x)
frame_least (Day m d v) = omega arith
frame_least (Listing m n t l c) = omega (arith, length-append {A = ℕ})
frame_least (Trade m s n p z f) = omega arith
frame_least (Cancel m s n) = omega arith
frame_least (Quote m s b o y z) = omega arith
frame_least (IndexTick m v) = omega arith
frame_least (Clock m) = omega arith
frame_least (Notice m s k) = omega arith
frame_least (Indication m s p u) = omega arith

frames_ten : (xs : List Record) → 10 * length xs ≤ length (frames_of xs)
frames_ten [] = omega arith
frames_ten (x ∷ xs) = omega (arith, length-append (frame_of x) (frames_of xs), frame_least x, frames_ten xs)

-- the lengths of batches and of bases
pub batch_form : (batch : List Record) → IsBatch batch → IsLength false (length (frames_of batch))
batch_form batch valid = (omega (arith, frames_ten batch, valid.least), omega (arith, frames_most batch valid.sound, valid.most))

pub base_size : (body : List ℕ) (b : Base) → SpellsBase body b → length body ≡ 40 + 8 * length b.names + 2 * length b.carried
base_size body b s =
    let f = has_form body b s in
    omega (
      arith,
      ap length f.bytes,
      day-length b.day f.begins,
      names-length b.names f.sizes,
      ids-length b.carried,
      length-append (framed (body_of b.day)) (behind_day b),
      length-append (flat_map (λ name. name) b.names) (tail_of b),
    )

pub base_form : (body : List ℕ) (b : Base) → SpellsBase body b → IsLength true (length body)
base_form body b s = (omega (arith, base_size body b s), omega (arith, base_size body b s, s.ranges.few, few_carried b s.ranges))

pub frames_least : (xs : List Record) → length xs ≤ length (frames_of xs)
frames_least [] = omega arith
frames_least (x ∷ xs) = omega (arith, length-append (frame_of x) (frames_of xs), frames_least xs)

-- frames at the prefix of frames are those of the first records
pub frames_prefix : (xs ys : List Record) (rest : List ℕ) → All IsSound xs → All IsSound ys → frames_of ys ≡ frames_of xs ++ rest
    → (later : List Record) × (ys ≡ xs ++ later) × (rest ≡ frames_of later) × All IsSound later
frames_prefix [] ys rest hx hy is = (ys, refl, sym is, hy)
frames_prefix (x ∷ xs) [] rest hx hy is = absurd (omega (arith, ap length is, length-append (frame_of x ++ frames_of xs) rest, length-append (frame_of x) (frames_of xs)))
frames_prefix (x ∷ xs) (y ∷ ys) rest hx hy is =
    let same = records_differ y x (frames_of ys) (frames_of xs ++ rest) (All-head IsSound y ys hy) (All-head IsSound x xs hx) (is ∙ append_assoc (frame_of x) (frames_of xs) rest) in
    let next = frames_prefix xs ys rest (All-tail IsSound x xs hx) (All-tail IsSound y ys hy) same.1 in
    (next.0, ap (λ (z : Record). z ∷ ys) same.0 ∙ ap (λ (zs : List Record). x ∷ zs) next.1, next.2, next.3)

pub frames_alone : (xs ys : List Record) → All IsSound xs → All IsSound ys → frames_of xs ≡ frames_of ys → xs ≡ ys
frames_alone xs ys hx hy is =
    let prefix = frames_prefix xs ys [] hx hy (sym is ∙ sym (append-nil (frames_of xs))) in
    none prefix.0 prefix.1 prefix.2
  where
    none : (later : List Record) → ys ≡ xs ++ later → [] ≡ frames_of later → xs ≡ ys
    none [] same is = sym (same ∙ append-nil xs)
    none (x ∷ later) same is = absurd (omega (arith, ap length is, length-append (frame_of x) (frames_of later)))

-- one frame more
pub frames_more : (xs : List Record) (i : ℕ) (x : Record) → i < length xs → x ≡ get_or xs i x → frames_of (take (i + 1) xs) ≡ frames_of (take i xs) ++ frame_of x
frames_more xs i x lt is =
    ap frames_of (take_more xs i x lt ∙ ap (λ (y : Record). take i xs ++ y ∷ []) (sym is))
    ∙ flat_map-append frame_of (take i xs) (x ∷ [])
    ∙ ap (λ (t : List ℕ). frames_of (take i xs) ++ t) (append-nil (frame_of x))

pub sound_more : (xs : List Record) (i : ℕ) (x : Record) → i < length xs → x ≡ get_or xs i x → All IsSound (take i xs) → IsSound x → All IsSound (take (i + 1) xs)
sound_more xs i x lt is before sound = All-more IsSound xs i x lt before (subst IsSound is sound)

all_bytes : (bytes : List ℕ) → All (λ byte. byte < 256) bytes → IsBytes bytes
all_bytes bytes range i = elim (cases_lt i (length bytes)) [
  | inl lt ↦ range i 0 lt
  | inr le ↦ rw (get_or_past bytes i 0 le) (omega arith)
]

-- a record whose frame was made of bytes
pub sound_from_frame : (x : Record) (buffer : List ℕ) (n : ℕ) → All (λ byte. byte < 256) (take n buffer) → take n buffer ≡ frame_of x → record_of (body_of x) ≡ Ok x → IsSound x
sound_from_frame x buffer n range is decodes =
    sound_from_bytes x (λ i. rw (ap (λ (t : List ℕ). get_or t (suc i) 0) is) at (all_bytes (take n buffer) range (suc i))) decodes
