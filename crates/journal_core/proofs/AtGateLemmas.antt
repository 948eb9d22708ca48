-- Reading the content of a batch.
use Rattle.std.proofs.Common.{◌≡◌, ◌≢◌, ℕ, ◌+◌, ◌<◌, ◌≤◌, List, [], ◌∷◌, ◌++◌, length, get_or, take, drop, refl, sym, ap, ◌∙◌, arith, append_assoc, length-append}
use Rattle.std.specs.Prelude.{All, Bool, true, false, not, IsTrue}
use Rattle.std.specs.Int.{w32, to_be_bytes}
use Rattle.std.proofs.lemmas.List.{append-nil, nil_from_length, take_at, drop_more, take-append-drop, drop-drop, length-take, length-drop}
use Rattle.std.proofs.lemmas.Grind.{flat_map-append}
use Rattle.wire_core.specs.Fields.{number}
use Rattle.wire_core.proofs.Cells.{IsBytes, wide32, cell}
use Rattle.wire_in.specs.declared.record.Record.{Record}
use Rattle.wire_in.specs.Laws.{IsSound}
use Rattle.wire_in.specs.Spelling.{body_of}
use Rattle.std.proofs.lemmas.List.Elements.{All-head}
use Rattle.journal_core.specs.Layout.{IsBatch, frame_of, frames_of, content}
use Rattle.journal_core.proofs.FrameLemmas.{frames_prefix, frames_least, frames_most}

-- the frame of a record at the prefix of some bytes
pub record IsFirst (x : Record) (bytes rest : List ℕ) : Type 0 where
  pub size : get_or bytes 0 0 ≡ length (body_of x)
  pub long : length bytes ≡ length (body_of x) + 1 + length rest
  pub body : take (get_or bytes 0 0) (drop 1 bytes) ≡ body_of x

pub first_frame : (x : Record) (bytes rest : List ℕ) → bytes ≡ frame_of x ++ rest → IsFirst x bytes rest
first_frame x bytes rest is =
    let size : get_or bytes 0 0 ≡ length (body_of x) = ap (λ (l : List ℕ). get_or l 0 0) is in
    record {
      size = size;
      long = omega (arith, ap length is, length-append (body_of x) rest);
      body = ap (λ (l : List ℕ). take (get_or bytes 0 0) (drop 1 l)) is ∙ take_at (body_of x) rest (get_or bytes 0 0) (sym size);
    }

-- a frame that was read
pub frame_read : (x : Record) (bytes : List ℕ) (k : ℕ) → 0 < length bytes → k ≡ get_or bytes 0 0 → get_or bytes 0 0 + 1 ≤ length bytes → take k (drop 1 bytes) ≡ body_of x
    → bytes ≡ frame_of x ++ drop (get_or bytes 0 0 + 1) bytes
frame_read x bytes k some same long read =
    let n = get_or bytes 0 0 in
    let is : take n (drop 1 bytes) ≡ body_of x = ap (λ (m : ℕ). take m (drop 1 bytes)) (sym same) ∙ read in
    let size : n ≡ length (body_of x) = omega (arith, ap length is, length-take n (drop 1 bytes), length-drop 1 bytes) in
    drop_more bytes 0 0 some
    ∙ ap (λ (l : List ℕ). n ∷ l) (sym (take-append-drop n (drop 1 bytes)) ∙ ap (λ (l : List ℕ). l ++ drop n (drop 1 bytes)) is ∙ ap (λ (l : List ℕ). body_of x ++ l) (drop-drop n 1 bytes ∙ ap (λ (k : ℕ). drop k bytes) (omega arith)))
    ∙ ap (λ (m : ℕ). m ∷ (body_of x ++ drop (n + 1) bytes)) size

-- the records of a batch behind those that were read, where more frames follow
pub record More (records batch : List Record) (rest : List ℕ) : Type 0 where
  pub x : Record
  pub later : List Record
  pub same : batch ≡ records ++ x ∷ later
  pub sound : IsSound x
  pub whole : rest ≡ frame_of x ++ frames_of later

pub more_frames : (records batch : List Record) (frames rest : List ℕ) → All IsSound records → IsBatch batch → frames ≡ frames_of records ++ rest → 0 < length rest → frames ≡ frames_of batch → More records batch rest
more_frames records batch frames rest sound valid read some is =
    let prefix = frames_prefix records batch rest sound valid.sound (sym is ∙ read) in
    found prefix.0 prefix.1 prefix.2 prefix.3
  where
    found : (later : List Record) → batch ≡ records ++ later → rest ≡ frames_of later → All IsSound later → More records batch rest
    found [] same whole sounds = absurd (omega (arith, ap length whole, some))
    found (x ∷ later) same whole sounds = record { x = x; later = later; same = same; sound = All-head IsSound x later sounds; whole = whole }

-- there is no more behind 64 records
pub not_full : (records batch : List Record) (rest : List ℕ) → IsBatch batch → length records ≡ 64 → More records batch rest → ⊥
not_full records batch rest valid full more = omega (arith, valid.most, ap length more.same, length-append records (more.x ∷ more.later))

-- a record more was read
pub read_on : (records : List Record) (x : Record) (frames rest after : List ℕ) → frames ≡ frames_of records ++ rest → rest ≡ frame_of x ++ after → frames ≡ frames_of (records ++ x ∷ []) ++ after
read_on records x frames rest after read is =
    read ∙ ap (λ (l : List ℕ). frames_of records ++ l) is ∙ sym (append_assoc (frames_of records) (frame_of x) after)
    ∙ ap (λ (l : List ℕ). l ++ after) (ap (λ (l : List ℕ). frames_of records ++ l) (sym (append-nil (frame_of x))) ∙ sym (flat_map-append frame_of records (x ∷ [])))

-- what is read of a batch that begins there
pub record IsRead (batch : List Record) (bytes : List ℕ) : Type 0 where
  pub long : 4 ≤ length bytes
  pub size : number w32 0 bytes ≡ length (frames_of batch)
  pub whole : length (frames_of batch) + 4 ≤ length bytes
  pub frames : take (length (frames_of batch)) (drop 4 bytes) ≡ frames_of batch

pub content_read : (batch : List Record) (bytes rest : List ℕ) → IsBatch batch → bytes ≡ content batch ++ rest → IsRead batch bytes
content_read batch bytes rest valid is =
    let n = length (frames_of batch) in
    let regrouped : bytes ≡ to_be_bytes w32 n ++ (frames_of batch ++ rest) = is ∙ append_assoc (to_be_bytes w32 n) (frames_of batch) rest in
    record {
      long = omega (arith, ap length regrouped);
      size = ap (number w32 0) regrouped ∙ wide32.read n (omega (arith, frames_most batch valid.sound, valid.most));
      whole = omega (arith, ap length regrouped, length-append (frames_of batch) rest);
      frames = ap (λ (l : List ℕ). take n (drop 4 l)) regrouped ∙ take_at (frames_of batch) rest n refl;
    }

-- a batch that was read
pub read_content : (batch : List Record) (bytes : List ℕ) (n : ℕ) → IsBytes bytes → number w32 0 bytes ≡ n → n + 4 ≤ length bytes → take n (drop 4 bytes) ≡ frames_of batch → (bytes ≡ content batch ++ drop (n + 4) bytes) × (n ≡ length (frames_of batch))
read_content batch bytes n range is long frames =
    let size : n ≡ length (frames_of batch) = omega (arith, ap length frames, length-take n (drop 4 bytes), length-drop 4 bytes) in
    let behind : drop 4 bytes ≡ frames_of batch ++ drop (n + 4) bytes =
    sym (take-append-drop n (drop 4 bytes)) ∙ ap (λ (l : List ℕ). l ++ drop n (drop 4 bytes)) frames ∙ ap (λ (l : List ℕ). frames_of batch ++ l) (drop-drop n 4 bytes ∙ ap (λ (k : ℕ). drop k bytes) (omega arith)) in
    let whole : bytes ≡ to_be_bytes w32 n ++ (frames_of batch ++ drop (n + 4) bytes) = cell wide32 0 bytes (frames_of batch ++ drop (n + 4) bytes) n range is (omega arith) behind in (
      whole ∙ sym (append_assoc (to_be_bytes w32 n) (frames_of batch) (drop (n + 4) bytes)) ∙ ap (λ (m : ℕ). to_be_bytes w32 m ++ frames_of batch ++ drop (n + 4) bytes) size,
      size,
    )

-- no frames are no batch
pub no_frames : (batch : List Record) (frames : List ℕ) → IsBatch batch → frames ≡ [] → frames ≢ frames_of batch
no_frames batch frames valid none is = omega (arith, valid.least, frames_least batch, ap length is, ap length none)

pub nothing_read : (records : List Record) (frames rest : List ℕ) → frames ≡ frames_of records ++ rest → length rest ≡ 0 → records ≡ [] → frames ≡ []
nothing_read records frames rest read end none = read ∙ ap (λ (l : List Record). frames_of l ++ rest) none ∙ nil_from_length rest end

pub no_not : (b : Bool) → not b ≡ false → IsTrue b
no_not true is = refl
no_not false is = cc
