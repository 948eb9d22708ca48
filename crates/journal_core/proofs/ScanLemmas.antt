-- What a scan has read, step by step.
use Rattle.std.proofs.Common.{◌≡◌, ◌≢◌, ◌⊎◌, inl, inr, ℕ, ◌+◌, ◌≤◌, List, [], ◌∷◌, ◌++◌, length, get_or, take, drop, refl, sym, ap, subst, ◌∙◌, arith, append_assoc, length-append, take-append-drop}
use Rattle.std.specs.Prelude.{true, false, reverse, IsTrue, Option}
use Rattle.std.proofs.lemmas.List.{append-nil, take_at, take-append-le, nil_from_length, length-reverse, length-drop}
use Rattle.wire_in.specs.declared.base.Base.{Base}
use Rattle.wire_in.specs.declared.record.Record.{Record}
use Rattle.journal_core.specs.Layout.{IsBatch, Opens, frames_of, content, records_of}
use Rattle.journal_core.specs.AtGate.{IsDamaged}
use Rattle.journal_core.specs.Scan.{ScanState, HasRead, LeadsTo}
use Rattle.journal_core.proofs.Batches.{batch_more, records_more}
use Rattle.journal_core.proofs.Images.{followed}
use Rattle.journal_core.proofs.Starts.{led_from}
use Rattle.journal_core.proofs.FrameLemmas.{frames_most}

-- what follows is spelled in another way
led_on : {capacity gate : ℕ} {base : Option Base} {batches : List (List Record)} {disk rest : List ℕ} (other : List ℕ) → rest ≡ other → LeadsTo capacity gate base batches disk rest → LeadsTo capacity gate base batches disk other
led_on {capacity} {gate} {base} {batches} {disk} other is p = subst (λ (l : List ℕ). LeadsTo capacity gate base batches disk l) is p

-- a batch more
led_more : {capacity gate : ℕ} {base : Option Base} {batches : List (List Record)} {disk : List ℕ} {mark : ℕ} (batch : List Record) (after : List ℕ)
    → LeadsTo capacity gate base batches disk (mark ∷ (content batch ++ after)) → mark ≢ 0 → IsBatch batch → LeadsTo capacity (gate + (length (frames_of batch) + 5)) base (batches ++ batch ∷ []) disk after
led_more {batches = batches} {mark = mark} batch after p open_mark valid = record {
  passed = p.passed;
  ends = p.ends;
  start = p.start;
  prefix = p.prefix ++ mark ∷ content batch;
  passes = followed p.passes ((p.prefix ++ mark ∷ content batch) ++ after) (sym (append_assoc p.prefix (mark ∷ content batch) after));
  spelled = batch_more batches p.prefix mark batch open_mark valid p.spelled;
  offset = omega (arith, p.offset, length-append p.prefix (mark ∷ content batch));
  later = p.later;
  last = p.last;
  walk = p.walk;
}

-- more was read ahead
pub reads_on : (old : ScanState) (ahead rest : List ℕ) (batches : List (List Record)) (disk : List ℕ) → HasRead old batches disk → drop old.gate disk ≡ ahead ++ rest → HasRead (record old { ahead = ahead }) batches disk
reads_on old ahead rest batches disk read is =
    let same : old.ahead ++ read.rest ≡ ahead ++ rest = sym (led_from read.leads) ∙ is in
    record {
      size = read.size;
      rest = rest;
      leads = led_on (ahead ++ rest) same read.leads;
      count = read.count;
      closed = λ is_closed. let zero = read.closed is_closed in (zero.0, sym same ∙ zero.1);
    }

-- a batch was taken
module _ (old new : ScanState) (batch : List Record) (opens : Opens batch old.ahead new.ahead) (gates : new.gate ≡ old.gate + (length (frames_of batch) + 5))
    (counts : new.count ≡ old.count + length batch) (limits : new.capacity ≡ old.capacity) (bases : new.base ≡ old.base) (sizes : new.size ≡ old.size) (not_closed : new.is_closed ≡ false) where
  pub took_batch : (batches : List (List Record)) (disk : List ℕ) → HasRead old batches disk → HasRead new (batches ++ batch ∷ []) disk
  took_batch batches disk read =
      let behind : old.ahead ++ read.rest ≡ opens.gate ∷ (content batch ++ (new.ahead ++ read.rest)) =
      ap (λ (l : List ℕ). l ++ read.rest) opens.whole ∙ ap (λ (l : List ℕ). opens.gate ∷ l) (append_assoc (content batch) new.ahead read.rest) in
      let after = led_more batch (new.ahead ++ read.rest) (led_on (opens.gate ∷ (content batch ++ (new.ahead ++ read.rest))) behind read.leads) opens.not_closed opens.valid in
      record {
        size = sizes ∙ read.size;
        rest = read.rest;
        leads = rw (limits, bases, gates) after;
        count = rw bases (omega (arith, counts, read.count, ap length (records_more batches batch), length-append (reverse batch) (records_of batches), length-reverse batch));
        closed = λ is_closed. absurd (no_closed is_closed);
      }
    where
      no_closed : IsTrue new.is_closed → ⊥
      no_closed is_closed = cc

-- the gate was found closed
pub took_none : (old : ScanState) (more : List ℕ) → old.ahead ≡ 0 ∷ more → (batches : List (List Record)) (disk : List ℕ) → HasRead old batches disk → HasRead (record old { is_closed = true }) batches disk
took_none old more is batches disk read = record {
  size = read.size;
  rest = read.rest;
  leads = read.leads;
  count = read.count;
  closed = λ is_closed. (more ++ read.rest, ap (λ (l : List ℕ). l ++ read.rest) is);
}

-- neither a closed gate nor a batch begins there, whatever follows behind the bytes of the longest batch
damaged_on : (ahead rest : List ℕ) → IsDamaged ahead → (rest ≡ []) ⊎ (2309 ≤ length ahead) → IsDamaged (ahead ++ rest)
damaged_on ahead rest damaged (inl none) = subst IsDamaged (sym (ap (λ (l : List ℕ). ahead ++ l) none ∙ append-nil ahead)) damaged
damaged_on [] rest damaged (inr long) = absurd (omega (arith, long))
damaged_on (gate ∷ ahead) rest damaged (inr long) = record {
  not_closed = λ more is. damaged.not_closed ahead (ap (λ (g : ℕ). g ∷ ahead) (ap (λ (l : List ℕ). get_or l 0 0) is));
  no_batch = λ batch more opens. damaged.no_batch batch (drop (length (content batch)) ahead) (within batch more opens);
}
  where
    within : (batch : List Record) (more : List ℕ) (opens : Opens batch ((gate ∷ ahead) ++ rest) more) → Opens batch (gate ∷ ahead) (drop (length (content batch)) ahead)
    within batch more opens =
        let n = length (content batch) in
        let short : n ≤ length ahead = omega (arith, long, frames_most batch opens.valid.sound, opens.valid.most) in
        let behind : ahead ++ rest ≡ content batch ++ more = ap (drop 1) opens.whole in
        let prefix : take n ahead ≡ content batch = sym (take-append-le n ahead rest short) ∙ ap (take n) behind ∙ take_at (content batch) more n refl in
        let same : gate ≡ opens.gate = ap (λ (l : List ℕ). get_or l 0 0) opens.whole in
        record {
          gate = opens.gate;
          not_closed = opens.not_closed;
          valid = opens.valid;
          whole = ap (λ (l : List ℕ). gate ∷ l) (sym (take-append-drop n ahead) ∙ ap (λ (l : List ℕ). l ++ drop n ahead) prefix) ∙ ap (λ (g : ℕ). g ∷ (content batch ++ drop n ahead)) same;
        }

-- what was read ahead is damaged, and enough was read
pub damaged_disk : (scan : ScanState) (batches : List (List Record)) (disk : List ℕ) → HasRead scan batches disk → (scan.gate + length scan.ahead ≡ scan.size) ⊎ (2309 ≤ length scan.ahead) → IsDamaged scan.ahead → IsDamaged (drop scan.gate disk)
damaged_disk scan batches disk read enough damaged = subst IsDamaged (sym (led_from read.leads)) (damaged_on scan.ahead read.rest damaged (all enough)) where
  all : (scan.gate + length scan.ahead ≡ scan.size) ⊎ (2309 ≤ length scan.ahead) → (read.rest ≡ []) ⊎ (2309 ≤ length scan.ahead)
  all (inl end) = inl (nil_from_length read.rest (omega (arith, end, read.size, ap length (led_from read.leads), length-drop scan.gate disk, length-append scan.ahead read.rest)))
  all (inr long) = inr long

-- bytes that were read from a offset on
pub read_at : (n gate gate' : ℕ) (disk ahead : List ℕ) → gate' ≡ gate → ahead ≡ take n (drop gate' disk) → drop gate disk ≡ ahead ++ drop n (drop gate disk)
read_at n gate gate' disk ahead gates is =
    sym (take-append-drop n (drop gate disk)) ∙ ap (λ (l : List ℕ). l ++ drop n (drop gate disk)) (ap (λ (k : ℕ). take n (drop k disk)) (sym gates) ∙ sym is)
