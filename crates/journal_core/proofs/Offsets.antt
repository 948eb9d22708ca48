-- Where a block is written, and what stays outside of its range.
use Rattle.std.proofs.Common.{◌≡◌, ℕ, ◌+◌, ◌≤◌, Bool, true, false, not, List, [], ◌∷◌, ◌++◌, length, map, take, drop, refl, sym, ◌∙◌, ap, subst, arith, append_assoc, length-append, take-take, drop_at, length-take-le}
use Rattle.std.specs.Prelude.{Option, Some, None, option_map, reverse}
use Rattle.std.proofs.lemmas.List.{take-append-le, length-reverse}
use Rattle.host_core.specs.Outside.{Outside, Elapses, IsSettled, Stays, Changes, Torn, written}
use Rattle.host_core.proofs.Moments.{ended}
use Rattle.host_core.proofs.Known.{mapped}
use Rattle.host_core.proofs.Torns.{written_reaches, torn_none, torn_within, torn_twice}
use Rattle.wire_in.specs.Bases.{SpellsBase, base_bytes}
use Rattle.wire_in.specs.declared.base.Base.{Base}
use Rattle.wire_in.specs.declared.record.Record.{Record}
use Rattle.rulebook.specs.Base.{base_of}
use Rattle.journal_core.specs.Layout.{Block, IsBatch, IsLength, HoldsTo, Passes, base_block, block_of, frames_of, mark_of, stored_batch, with_batch}
use Rattle.journal_core.specs.Journal.{JournalState, Represents, IsAtRest, IsOfDisk, HasBytes}
use Rattle.journal_core.specs.Scan.{ScanState, IsScanOf}
use Rattle.journal_core.specs.Walk.{is_behind}
use Rattle.journal_core.proofs.FrameLemmas.{base_form, batch_form}
use Rattle.journal_core.proofs.Images.{MayAdd, adds_with, map-more, room, turn_with}
use Rattle.journal_core.proofs.Marks.{is_behind-more}
use Rattle.journal_core.proofs.Appended.{base_may, batch_may, body_of, passes_there}

-- a scan of a disk knows its length
pub scan_reaches : {scan : ScanState} {known : Option (List ℕ)} → IsScanOf scan known → HasBytes scan.size known
scan_reaches of_disk disk is = omega (arith, (of_disk disk is).1.size)

-- and the gate of a journal stands in its disk
pub gate_reaches : {journal : JournalState} {known : Option (List ℕ)} → IsOfDisk journal known → HasBytes (journal.gate + 1) known
gate_reaches of_disk disk is = omega (arith, room (of_disk disk is).passes)

-- as where it holds a list
pub rest_reaches : {journal : JournalState} {records : List Record} {now : Outside} → IsAtRest journal records now → IsOfDisk journal now.disk
rest_reaches rest disk is = let held = (rest.keeps disk is).held in record { blocks = held.blocks; rest = held.rest; passes = held.passes }

-- the content of a block behind a gate, and then the open gate
pub written_both : (gate : ℕ) (piece disk : List ℕ) → gate + 1 ≤ length disk → written gate (1 ∷ []) (written (gate + 1) piece disk) ≡ written gate (1 ∷ piece) disk
written_both gate piece disk within =
    let rest = drop (gate + 1 + length piece) disk in
    let mid : written (gate + 1) piece disk ≡ take (gate + 1) disk ++ (piece ++ rest) = append_assoc (take (gate + 1) disk) piece rest in
    let len : length (take (gate + 1) disk) ≡ gate + 1 = length-take-le (gate + 1) disk within in
    let before : take gate (written (gate + 1) piece disk) ≡ take gate disk =
    ap (take gate) mid ∙ take-append-le gate (take (gate + 1) disk) (piece ++ rest) (omega (arith, len)) ∙ take-take gate (gate + 1) disk (omega arith) in
    let behind : drop (gate + 1) (written (gate + 1) piece disk) ≡ piece ++ rest = ap (drop (gate + 1)) mid ∙ drop_at (take (gate + 1) disk) (piece ++ rest) (gate + 1) len in
    let offset : gate + 1 + length piece ≡ gate + length (1 ∷ piece) = omega arith in
    ap (λ (l : List ℕ). l ++ (1 ∷ []) ++ drop (gate + 1) (written (gate + 1) piece disk)) before
    ∙ append_assoc (take gate disk) (1 ∷ []) (drop (gate + 1) (written (gate + 1) piece disk))
    ∙ ap (λ (l : List ℕ). take gate disk ++ 1 ∷ l) (behind ∙ ap (λ (i : ℕ). piece ++ drop i disk) offset)
    ∙ sym (append_assoc (take gate disk) (1 ∷ piece) (drop (gate + length (1 ∷ piece)) disk))

module _ (old mid : Option (List ℕ)) (gate : ℕ) (body : List ℕ) (has : HasBytes (gate + 1) old) (first : mid ≡ option_map (written (gate + 1) body) old) where
  -- between the two writes the gate stands in the disk
  pub still_reaches : HasBytes gate mid
  still_reaches disk is =
      let from = mapped (written (gate + 1) body) old disk (sym first ∙ is) in
      let reaches = written_reaches (gate + 1) body from.0 (has from.0 from.1) in
      omega (arith, reaches, ap length from.2)

  -- and behind them the block stands at its offset
  pub written_whole : (new : Option (List ℕ)) → new ≡ option_map (written gate (1 ∷ [])) mid → new ≡ option_map (written gate (1 ∷ body)) old
  written_whole new second = second ∙ ap (option_map (written gate (1 ∷ []))) first ∙ both old has
    where
      both : (known : Option (List ℕ)) → HasBytes (gate + 1) known → option_map (written gate (1 ∷ [])) (option_map (written (gate + 1) body) known) ≡ option_map (written gate (1 ∷ body)) known
      both None within = refl
      both (Some disk) within = ap Some (written_both gate body disk (within disk refl))

-- a disk whose blocks lead to a closed gate has this block then
pub appended_passes : {capacity gate : ℕ} {disk rest : List ℕ} {blocks : List Block} (block : Block) → IsLength block.is_base (length block.body) → Passes capacity gate blocks disk (0 ∷ rest)
    → (more : List ℕ) × Passes capacity (gate + (length block.body + 5)) (blocks ++ block ∷ []) (written gate (1 ∷ body_of block) disk) (0 ∷ more)
appended_passes {capacity} {gate} {disk} {rest} {blocks} block form p = (
  drop (gate + 1 + length (body_of block)) disk,
  subst (λ (image : List ℕ). Passes capacity (gate + (length block.body + 5)) (blocks ++ block ∷ []) image (0 ∷ drop (gate + 1 + length (body_of block)) disk))
      (written_both gate (body_of block) disk (omega (arith, room p))) (passes_there block p form),
)

-- and one that holds a list holds what the block leads to
pub appended_holds : {capacity gate : ℕ} {records next : List Record} {disk : List ℕ} (block : Block) (h : HoldsTo capacity gate records disk) → MayAdd block h.blocks records next
    → HoldsTo capacity (gate + (length block.body + 5)) next (written gate (1 ∷ body_of block) disk)
appended_holds block h may =
    let passes = appended_passes block may.form h.passes in
    record { blocks = h.blocks ++ block ∷ []; rest = passes.0; passes = passes.1; in_turn = turn_with h.in_turn may; adds = adds_with h.adds may }

-- the next gate stands in the disk
pub next_reaches : (old new : Option (List ℕ)) (gate next : ℕ) (body : List ℕ) → HasBytes (gate + 1) old → new ≡ option_map (written gate (1 ∷ body)) old → next ≡ gate + length body → HasBytes (next + 1) new
next_reaches old new gate next body has is offset disk known =
    let from = mapped (written gate (1 ∷ body)) old disk (sym is ∙ known) in
    let reaches = written_reaches gate (1 ∷ body) from.0 (omega (arith, has from.0 from.1)) in
    omega (arith, reaches, ap length from.2, offset)

-- A stop of the first write, of the second, and where nothing was written.
pub first_within : (old : Outside) (gate : ℕ) (body image bytes : List ℕ) → Changes (Torn (gate + 1) (length body)) old image bytes → Changes (Torn gate (length (1 ∷ body))) old image bytes
first_within old gate body image bytes step = record {
  before = step.before;
  was = step.was;
  changed = torn_within gate (length (1 ∷ body)) (gate + 1) (length body) (omega arith) (omega arith) step.changed;
  sent = step.sent;
}

pub second_within : {old mid : Outside} (gate : ℕ) (body : List ℕ) → Elapses old mid (Changes (Torn gate (length (1 ∷ body))) old) → mid.sent ≡ old.sent
    → (image bytes : List ℕ) → Changes (Torn gate 1) mid image bytes → Changes (Torn gate (length (1 ∷ body))) old image bytes
second_within gate body run same image bytes step =
    let n = length (1 ∷ body) in
    let at_end = ended run step.was in
    record {
      before = at_end.before;
      was = at_end.was;
      changed = torn_twice gate n at_end.changed (torn_within gate n gate 1 (omega arith) (omega arith) step.changed);
      sent = rw (sym same) step.sent;
    }

pub none_within : (old : Outside) (at n : ℕ) (image bytes : List ℕ) → Stays old image bytes → Changes (Torn at n) old image bytes
none_within old at n image bytes stays = record { before = image; was = stays.was; changed = torn_none at n image; sent = stays.sent }

-- A journal with a block more

last_is : (blocks : List Block) (block : Block) → is_behind true (map mark_of (blocks ++ block ∷ [])) ≡ not block.is_base
last_is blocks block = ap (is_behind true) (map-more blocks block) ∙ is_behind-more true (map mark_of blocks) (mark_of block)

module _ (old new : JournalState) (block : Block) (limits : new.capacity ≡ old.capacity) (gates : new.gate ≡ old.gate + (length block.body + 5)) (is_last : new.rolled ≡ block.is_base) where
  -- of what the disk holds
  pub kept_with : {records next : List Record} {disk : List ℕ} (rep : Represents old records disk) → MayAdd block rep.held.blocks records next → new.count ≡ length next
      → Represents new next (written old.gate (1 ∷ body_of block) disk)
  kept_with {records} {next} {disk} rep may counts =
      let h = rep.held in
      let passes = appended_passes block may.form h.passes in
      record {
        held = record { blocks = h.blocks ++ block ∷ []; rest = passes.0; passes = rw (limits, gates) passes.1; in_turn = turn_with h.in_turn may; adds = adds_with h.adds may };
        count = counts;
        rolled = is_last ∙ twice block.is_base ∙ ap not (sym (last_is h.blocks block));
      }
    where
      twice : (b : Bool) → b ≡ not (not b)
      twice true = refl
      twice false = refl

  pub of_disk_with : (before now : Option (List ℕ)) → IsLength block.is_base (length block.body) → now ≡ option_map (written old.gate (1 ∷ body_of block)) before → IsOfDisk old before → IsOfDisk new now
  of_disk_with before now form is of_disk disk known =
      let from = mapped (written old.gate (1 ∷ body_of block)) before disk (sym is ∙ known) in
      let was = of_disk from.0 from.1 in
      let more = appended_passes block form was.passes in
      record {
        blocks = was.blocks ++ block ∷ [];
        rest = more.0;
        passes = rw (limits, gates) (subst (λ (image : List ℕ). Passes old.capacity (old.gate + (length block.body + 5)) (was.blocks ++ block ∷ []) image (0 ∷ more.0)) from.2 more.1);
      }

-- of a batch
module _ (old new : JournalState) (batch : List Record) (valid : IsBatch batch) (limits : new.capacity ≡ old.capacity) (gates : new.gate ≡ old.gate + (length (frames_of batch) + 5)) (counts : new.count ≡ old.count + length batch)
    (rolls : new.rolled ≡ false) (before now : Outside) (is : now.disk ≡ option_map (written old.gate (stored_batch batch)) before.disk) where
  pub of_disk_with_batch : IsOfDisk old before.disk → IsOfDisk new now.disk
  of_disk_with_batch = of_disk_with old new (block_of batch) limits gates rolls before.disk now.disk (batch_form batch valid) is

  pub rest_with_batch : IsSettled now → (records : List Record) → IsAtRest old records before → IsAtRest new (with_batch records batch) now
  rest_with_batch settled records rest = record {
    settled = settled;
    keeps = λ disk known.
        let from = mapped (written old.gate (stored_batch batch)) before.disk disk (sym is ∙ known) in
        let rep = rest.keeps from.0 from.1 in
        subst (Represents new (with_batch records batch)) from.2
        (kept_with old new (block_of batch) limits gates rolls rep (batch_may batch rep.held.blocks records valid)
        (omega (arith, counts, rep.count, length-append (reverse batch) records, length-reverse batch)));
  }

-- and of a base
module _ (old new : JournalState) (b : Base) (spelled : SpellsBase (base_bytes b) b) (unrolled : old.rolled ≡ false) (limits : new.capacity ≡ old.capacity) (gates : new.gate ≡ old.gate + (length (base_bytes b) + 5))
    (counts : new.count ≡ old.count) (rolls : new.rolled ≡ true) (before now : Outside) (is : now.disk ≡ option_map (written old.gate (1 ∷ body_of (base_block b))) before.disk) where
  pub of_disk_with_base : IsOfDisk old before.disk → IsOfDisk new now.disk
  of_disk_with_base = of_disk_with old new (base_block b) limits gates rolls before.disk now.disk (base_form (base_bytes b) b spelled) is

  pub rest_with_base : IsSettled now → (records : List Record) → IsAtRest old records before → base_of records ≡ Some b → IsAtRest new records now
  rest_with_base settled records rest of_it = record {
    settled = settled;
    keeps = λ disk known.
        let from = mapped (written old.gate (1 ∷ body_of (base_block b))) before.disk disk (sym is ∙ known) in
        let rep = rest.keeps from.0 from.1 in
        subst (Represents new records) from.2 (kept_with old new (base_block b) limits gates rolls rep (base_may b rep unrolled spelled of_it) (counts ∙ rep.count));
  }
