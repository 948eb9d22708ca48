-- A file that is read or written whole, piece by piece.
use Rattle.std.proofs.Common.{◌≡◌, ℕ, ◌+◌, ◌-◌, ◌≤◌, List, [], ◌++◌, length, take, drop, refl, sym, ◌∙◌, ap, subst, arith, length-drop, drop-drop, take-take}
use Rattle.std.proofs.lemmas.List.{length-take-le, take_at, drop_at}
use Rattle.std.proofs.lemmas.Slice.{take-put_mid}
use borrow.Rule.Slice.PartMut.{put_mid}
use Rattle.std.proofs.Math.Seq.{take-add}
use Rattle.std.specs.Prelude.{Option, Some}
use Rattle.host_core.specs.Outside.{written, Torn}
use Rattle.host_core.specs.Files.{FileState, IsTorn}
use Rattle.host_core.proofs.Torns.{torn_none, torn_whole, torn_within, torn_twice, written_behind, written_nothing, written_reaches}

-- so many bytes of a piece were written from an offset on
pub record Writing (at : ℕ) (piece : List ℕ) (done : ℕ) (start now : FileState) : Type 0 where
  pub bound : done ≤ length piece
  pub bytes : (content : List ℕ) → start.bytes ≡ Some content → at ≤ length content → now.bytes ≡ Some (written at (take done piece) content)
  pub same_synced : now.synced ≡ start.synced
  pub same_held : now.is_held ≡ start.is_held
  pub same_failed : now.has_failed ≡ start.has_failed

pub write_begun : (at : ℕ) (piece : List ℕ) (start : FileState) → Writing at piece 0 start start
write_begun at piece start = record {
  bound = omega arith;
  bytes = λ content known within. known ∙ ap Some (sym (written_nothing at content));
  same_synced = refl;
  same_held = refl;
  same_failed = refl;
}

module _ {at : ℕ} {piece : List ℕ} {done : ℕ} {start mid : FileState} (so_far : Writing at piece done start mid) (new : FileState) where
  len : length (take done piece) ≡ done
  len = length-take-le done piece so_far.bound

  reached : (content : List ℕ) → at ≤ length content → at + done ≤ length (written at (take done piece) content)
  reached content within = omega (arith, len, written_reaches at (take done piece) content within)

  -- what was written is within the range of the whole piece
  wrote_within : (content : List ℕ) → Torn at (length piece) content (written at (take done piece) content)
  wrote_within content =
      torn_within at (length piece) at (length (take done piece)) (omega arith) (omega (arith, len, so_far.bound)) (torn_whole at (take done piece) content)

  pub write_more : (n : ℕ) → n ≤ length (drop done piece)
      → ((content : List ℕ) → mid.bytes ≡ Some content → at + done ≤ length content → new.bytes ≡ Some (written (at + done) (take n (drop done piece)) content))
      → new.synced ≡ mid.synced → new.is_held ≡ mid.is_held → new.has_failed ≡ mid.has_failed → Writing at piece (done + n) start new
  write_more n few wrote synced held failed = record {
    bound = omega (arith, few, so_far.bound, length-drop done piece);
    bytes = λ content known within.
        wrote (written at (take done piece) content) (so_far.bytes content known within) (reached content within)
        ∙ ap (λ (k : ℕ). Some (written (at + k) (take n (drop done piece)) (written at (take done piece) content))) (sym len)
        ∙ ap Some (written_behind at (take done piece) (take n (drop done piece)) content within)
        ∙ ap (λ (l : List ℕ). Some (written at l content)) (sym (take-add done n piece));
    same_synced = synced ∙ so_far.same_synced;
    same_held = held ∙ so_far.same_held;
    same_failed = failed ∙ so_far.same_failed;
  }

  -- a write that failed
  pub torn_more : ((content : List ℕ) → mid.bytes ≡ Some content → at + done ≤ length content → IsTorn (at + done) (length (drop done piece)) content new.bytes)
      → (content : List ℕ) → start.bytes ≡ Some content → at ≤ length content → IsTorn at (length piece) content new.bytes
  torn_more failed content known within =
      let torn = failed (written at (take done piece) content) (so_far.bytes content known within) (reached content within) in
      record {
        after = torn.after;
        read = torn.read;
        torn = torn_twice at (length piece) (wrote_within content)
            (torn_within at (length piece) (at + done) (length (drop done piece)) (omega arith) (omega (arith, so_far.bound, length-drop done piece)) torn.torn);
      }

  -- and where no more is written
  pub torn_here : new ≡ mid → (content : List ℕ) → start.bytes ≡ Some content → at ≤ length content → IsTorn at (length piece) content new.bytes
  torn_here same content known within = record {
    after = written at (take done piece) content;
    read = ap (λ (s : FileState). s.bytes) same ∙ so_far.bytes content known within;
    torn = wrote_within content;
  }

-- so many bytes of a buffer were filled from an offset on
pub record Reading (at size : ℕ) (into : List ℕ) (done : ℕ) (start now : FileState) : Type 0 where
  pub bound : done ≤ size
  pub same : now ≡ start
  pub given : (content : List ℕ) → start.bytes ≡ Some content → take done into ≡ take done (drop at content)

-- a part behind the first bytes of a buffer
filled : (done n : ℕ) (into part : List ℕ) → done ≤ length into → n ≤ length part
    → take (done + n) (put_mid done (length into - done) into part) ≡ take done into ++ take n part
filled done n into part le few =
    let now = put_mid done (length into - done) into part in
    let both = take done into ++ part in
    let len = length-take-le done into le in
    sym (take-take (done + n) (done + length part) now (omega (arith, few)))
    ∙ ap (take (done + n)) (take-put_mid done (length into - done) into part (done + length part) refl le)
    ∙ take-add done n both
    ∙ ap (λ (l : List ℕ). l ++ take n (drop done both)) (take_at (take done into) part done len)
    ∙ ap (λ (l : List ℕ). take done into ++ take n l) (drop_at (take done into) part done len)

pub read_more : {at size : ℕ} {into : List ℕ} {done : ℕ} {start mid : FileState} → Reading at size into done start mid → (n : ℕ) (part : List ℕ) (new : FileState)
    → length into ≡ size → length part ≡ length into - done → n ≤ length part
    → ((content : List ℕ) → mid.bytes ≡ Some content → take n part ≡ take n (drop (at + done) content)) → new ≡ mid
    → Reading at size (put_mid done (length into - done) into part) (done + n) start new
read_more {at} {size} {into} {done} {start} {mid} so_far n part new is_size is_rest few gave same = record {
  bound = omega (arith, so_far.bound, is_size, is_rest, few);
  same = same ∙ so_far.same;
  given = λ content known.
      filled done n into part (omega (arith, so_far.bound, is_size)) few
      ∙ ap (λ (l : List ℕ). l ++ take n part) (so_far.given content known)
      ∙ ap (λ (l : List ℕ). take done (drop at content) ++ l)
      (gave content (ap (λ (s : FileState). s.bytes) so_far.same ∙ known) ∙ ap (take n) (ap (λ (k : ℕ). drop k content) (omega arith) ∙ sym (drop-drop done at content)))
      ∙ sym (take-add done n (drop at content));
}

-- where nothing was written yet
pub torn_at_start : (at n : ℕ) (now : FileState) (content : List ℕ) → now.bytes ≡ Some content → IsTorn at n content now.bytes
torn_at_start at n now content known = record { after = content; read = known; torn = torn_none at n content }

-- and where nothing is changed
pub torn_still : (at n : ℕ) (old new : Option (List ℕ)) (content : List ℕ) → new ≡ old → old ≡ Some content → IsTorn at n content new
torn_still at n old new content same known = record { after = content; read = same ∙ known; torn = torn_none at n content }
