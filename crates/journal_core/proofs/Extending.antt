-- The file of a journal, batch by batch.
use Rattle.std.proofs.Common.{◌≡◌, ◌≢◌, ℕ, suc, ◌+◌, ◌-◌, ◌≤◌, List, [], ◌∷◌, ◌++◌, length, take, drop, sym, ap, subst, ◌∙◌, arith, append_assoc, append-nil, length-append, length-take-le, take_at, drop_at, take-append-drop, drop-drop, le_trans}
use Rattle.std.specs.Prelude.{Some, option_map, reverse, Result, Err}
use Rattle.std.proofs.lemmas.Grind.{flat_map-append}
use Rattle.std.proofs.lemmas.List.Elements.{All-nil, All-cons, All-append}
use Rattle.host_core.specs.Outside.{Outside, Rose, written}
use Rattle.host_core.proofs.Moments.{rose_within}
use Rattle.wire_in.specs.declared.record.Record.{Record}
use Rattle.journal_core.specs.declared.error.AppendError.{AppendError}
use Rattle.journal_core.specs.declared.error.AppendError.TheVariants.{Full, DiskFault}
use Rattle.journal_core.specs.Layout.{IsBatch, HoldsTo, block_of, content, frames_of, records_of, stored_batch, with_batch}
use Rattle.journal_core.specs.Journal.{JournalState, IsOfDisk}
use Rattle.journal_core.proofs.Batches.{records_first}
use Rattle.journal_core.proofs.Images.{room, from_gate}
use Rattle.journal_core.proofs.OneList.{alone}
use Rattle.journal_core.proofs.Offsets.{appended_holds}
use Rattle.journal_core.specs.Extended.{opened_batches, HaveAtMost, IsExtended, Extends, IsGrown}
use Rattle.host_core.proofs.Torns.{torn_whole, torn_within, torn_twice}
use Rattle.journal_core.proofs.Appended.{batch_may, stored_is}

-- a closed gate over a closed gate
same_gate : {capacity gate : ℕ} {held : List Record} {disk : List ℕ} → HoldsTo capacity gate held disk → written gate (0 ∷ []) disk ≡ disk
same_gate {gate = gate} {disk = disk} holds =
    let behind : drop (gate + 1) disk ≡ holds.rest = sym (drop-drop 1 gate disk) ∙ ap (drop 1) (from_gate holds.passes) in
    append_assoc (take gate disk) (0 ∷ []) (drop (gate + 1) disk)
    ∙ ap (λ (l : List ℕ). take gate disk ++ l) (ap (λ (l : List ℕ). 0 ∷ l) behind ∙ sym (from_gate holds.passes))
    ∙ take-append-drop gate disk

-- nothing was written
pub extends_same : {most : ℕ} {old new : Outside} → new.disk ≡ old.disk → old.disk_faults ≤ new.disk_faults → Extends most old new
extends_same {most} {old} {new} same later = record {
  later = later;
  file = λ rose capacity gate held disk known holds. record {
    batches = [];
    valid = All-nil IsBatch;
    few = All-nil (λ (batch : List Record). length batch ≤ most);
    file = same ∙ known ∙ ap Some (sym (same_gate holds));
    holds = subst (λ (g : ℕ). HoldsTo capacity g held (written gate (0 ∷ []) disk)) (omega arith) (subst (HoldsTo capacity gate held) (sym (same_gate holds)) holds);
  };
}

-- a batch was written
pub extends_by : (most : ℕ) (old new : Outside) (journal : JournalState) (batch : List Record) → length batch ≤ most → old.disk_faults ≤ new.disk_faults → IsOfDisk journal old.disk
    → IsBatch batch → new.disk ≡ option_map (written journal.gate (stored_batch batch)) old.disk → Extends most old new
extends_by most old new journal batch few later of_disk valid is = record { later = later; file = λ rose. grown }
  where
    grown : (capacity gate : ℕ) (held : List Record) (disk : List ℕ) → old.disk ≡ Some disk → HoldsTo capacity gate held disk → IsExtended capacity gate most held disk new.disk
    grown capacity gate held disk known holds =
        let mine = of_disk disk known in
        let one = alone.blocks disk capacity gate holds.blocks holds.rest journal.capacity journal.gate mine.blocks mine.rest holds.passes mine.passes in
        let made : new.disk ≡ Some (written journal.gate (stored_batch batch) disk) = is ∙ ap (option_map (written journal.gate (stored_batch batch))) known in
        let offset : gate + (length (frames_of batch) + 5) ≡ gate + length (opened_batches (batch ∷ [])) = omega (arith, ap length (append-nil (1 ∷ content batch))) in
        record {
          batches = batch ∷ [];
          valid = All-cons IsBatch batch [] valid (All-nil IsBatch);
          few = All-cons (λ (one : List Record). length one ≤ most) batch [] few (All-nil (λ (one : List Record). length one ≤ most));
          file = made ∙ (λ i. Some (written (sym one.2 i) (stored_is batch i) disk));
          holds = subst (λ (b : List ℕ). HoldsTo capacity (gate + length (opened_batches (batch ∷ []))) (records_of (batch ∷ []) ++ held) (written gate b disk)) (stored_is batch)
              (subst (λ (r : List Record). HoldsTo capacity (gate + length (opened_batches (batch ∷ []))) (r ++ held) (written gate (stored_batch batch) disk)) (ap reverse (sym (append-nil batch)))
              (subst (λ (g : ℕ). HoldsTo capacity g (with_batch held batch) (written gate (stored_batch batch) disk)) offset (appended_holds (block_of batch) holds (batch_may batch holds.blocks held valid))));
        }

-- batches behind batches
written_on : (gate : ℕ) (first second disk : List ℕ) → gate ≤ length disk
    → written (gate + length first) (second ++ 0 ∷ []) (written gate (first ++ 0 ∷ []) disk) ≡ written gate ((first ++ second) ++ 0 ∷ []) disk
written_on gate first second disk within =
    let prefix = take gate disk in
    let rest = drop (gate + length (first ++ 0 ∷ [])) disk in
    let mid = written gate (first ++ 0 ∷ []) disk in
    let next = gate + length first in
    let len : length (prefix ++ first) ≡ next = omega (arith, length-append prefix first, length-take-le gate disk within) in
    let whole : mid ≡ (prefix ++ first) ++ 0 ∷ rest = regroup prefix first (0 ∷ []) rest in
    let before : take next mid ≡ prefix ++ first = ap (take next) whole ∙ take_at (prefix ++ first) (0 ∷ rest) next len in
    let behind : drop (next + length (second ++ 0 ∷ [])) mid ≡ drop (gate + length ((first ++ second) ++ 0 ∷ [])) disk =
    sym (drop-drop (length (second ++ 0 ∷ [])) next mid)
    ∙ ap (drop (length (second ++ 0 ∷ []))) (ap (drop next) whole ∙ drop_at (prefix ++ first) (0 ∷ rest) next len)
    ∙ ap (λ (k : ℕ). drop k (0 ∷ rest)) (one_more second)
    ∙ drop-drop (length second) (gate + length (first ++ 0 ∷ [])) disk
    ∙ ap (λ (k : ℕ). drop k disk) (omega (arith, length-append first (0 ∷ []), length-append (first ++ second) (0 ∷ []), length-append first second)) in
    ap (λ (l : List ℕ). l ++ (second ++ 0 ∷ []) ++ drop (next + length (second ++ 0 ∷ [])) mid) before
    ∙ ap (λ (l : List ℕ). (prefix ++ first) ++ (second ++ 0 ∷ []) ++ l) behind
    ∙ last prefix first second (0 ∷ []) (drop (gate + length ((first ++ second) ++ 0 ∷ [])) disk)
  where
    regroup : (a b c d : List ℕ) → (a ++ (b ++ c)) ++ d ≡ (a ++ b) ++ (c ++ d)
    regroup a b c d = simp append_assoc

    last : (a b c d e : List ℕ) → (a ++ b) ++ (c ++ d) ++ e ≡ a ++ ((b ++ c) ++ d) ++ e
    last a b c d e = simp append_assoc

    one_more : (l : List ℕ) → length (l ++ 0 ∷ []) ≡ suc (length l)
    one_more l = omega (arith, length-append l (0 ∷ []))

pub extends_on : (most : ℕ) (old mid new : Outside) → Extends most old mid → Extends most mid new → Extends most old new
extends_on most old mid new first second = record { later = omega (arith, first.later, second.later); file = λ rose capacity gate held disk known holds. both rose capacity gate held disk known holds }
  where
    both : ¬ (Rose old.disk_faults new.disk_faults) → (capacity gate : ℕ) (held : List Record) (disk : List ℕ) → old.disk ≡ Some disk → HoldsTo capacity gate held disk
        → IsExtended capacity gate most held disk new.disk
    both rose capacity gate held disk known holds =
        let one = first.file (λ r. rose (rose_within old.disk_faults old.disk_faults mid.disk_faults new.disk_faults (omega arith) r second.later)) capacity gate held disk known holds in
        let two = second.file (λ r. rose (rose_within old.disk_faults mid.disk_faults new.disk_faults new.disk_faults first.later r (omega arith)))
        capacity (gate + length (opened_batches one.batches)) (records_of one.batches ++ held) _ one.file one.holds in
        let a = opened_batches one.batches in
        let b = opened_batches two.batches in
        let opened : opened_batches (one.batches ++ two.batches) ≡ a ++ b = flat_map-append (λ (batch : List Record). 1 ∷ content batch) one.batches two.batches in
        let within : gate ≤ length disk = omega (arith, room holds.passes) in
        let image : written (gate + length a) (b ++ 0 ∷ []) (written gate (a ++ 0 ∷ []) disk) ≡ written gate (opened_batches (one.batches ++ two.batches) ++ 0 ∷ []) disk =
        written_on gate a b disk within ∙ ap (λ (l : List ℕ). written gate (l ++ 0 ∷ []) disk) (sym opened) in
        let offset : (gate + length a) + length b ≡ gate + length (opened_batches (one.batches ++ two.batches)) = omega (arith, ap length opened, length-append a b) in
        let records : records_of two.batches ++ (records_of one.batches ++ held) ≡ records_of (one.batches ++ two.batches) ++ held =
        sym (append_assoc (records_of two.batches) (records_of one.batches) held) ∙ ap (λ (r : List Record). r ++ held) (sym (records_first one.batches two.batches)) in
        record {
          batches = one.batches ++ two.batches;
          valid = All-append IsBatch one.batches two.batches one.valid two.valid;
          few = All-append (λ (batch : List Record). length batch ≤ most) one.batches two.batches one.few two.few;
          file = two.file ∙ ap Some image;
          holds = subst (HoldsTo capacity (gate + length (opened_batches (one.batches ++ two.batches))) (records_of (one.batches ++ two.batches) ++ held)) image
              (subst (λ (r : List Record). HoldsTo capacity (gate + length (opened_batches (one.batches ++ two.batches))) r (written (gate + length a) (b ++ 0 ∷ []) (written gate (a ++ 0 ∷ []) disk))) records
              (subst (λ (g : ℕ). HoldsTo capacity g (records_of two.batches ++ (records_of one.batches ++ held)) (written (gate + length a) (b ++ 0 ∷ []) (written gate (a ++ 0 ∷ []) disk))) offset two.holds));
        }

-- an append failed
pub extends_failed : {most : ℕ} {old new : Outside} → old.disk_faults ≤ new.disk_faults → Rose old.disk_faults new.disk_faults → Extends most old new
extends_failed later rose = record { later = later; file = λ not. absurd (not rose) }

-- batches that have at most so many records have at most more
pub extends_wider : (fewer more : ℕ) (old new : Outside) → fewer ≤ more → Extends fewer old new → Extends more old new
extends_wider fewer more old new le extends = record {
  later = extends.later;
  file = λ rose capacity gate held disk known holds.
      let now = extends.file rose capacity gate held disk known holds in
      record { batches = now.batches; valid = now.valid; few = λ k d lt. le_trans (now.few k d lt) le; file = now.file; holds = now.holds };
}

-- batches that are pending have at most as many records as each of them has
pub grown_small : {capacity gate most : ℕ} {records : List Record} {pending : List (List Record)} {old image : List ℕ} (fewer : ℕ) → HaveAtMost fewer pending
    → IsGrown capacity gate most records pending old image → IsGrown capacity gate fewer records pending old image
grown_small fewer few g = record { next = g.next; holds = g.holds; behind = g.behind; valid = g.valid; few = few; torn = g.torn }

pub only_disk : {T : Type 0} (result : Result T AppendError) (error : AppendError) → result ≡ Err error → (capacity : ℕ) → ((limit : ℕ) → result ≡ Err (Full limit) → limit ≡ capacity)
    → result ≢ Err (Full capacity) → result ≡ Err DiskFault
only_disk result DiskFault is capacity limits fits = is
only_disk result (Full limit) is capacity limits fits = absurd (fits (is ∙ ap (λ (l : ℕ). Err (Full l)) (limits limit is)))

-- and batches that follow a batch grow the file from before it
pub grown_behind : {capacity gate most : ℕ} {records : List Record} {pending : List (List Record)} {disk image : List ℕ} (batch : List Record) → gate ≤ length disk
    → IsGrown capacity (gate + (length (frames_of batch) + 5)) most records pending (written gate (stored_batch batch) disk) image → IsGrown capacity gate most records pending disk image
grown_behind {gate = gate} {pending = pending} {disk = disk} batch within g =
    let size = length (opened_batches pending ++ 0 ∷ []) in
    let n = g.next - gate + size in
    let after = gate + (length (frames_of batch) + 5) in
    let len = length-append (content batch) (0 ∷ []) in
    record {
      next = g.next;
      holds = g.holds;
      behind = omega (arith, g.behind);
      valid = g.valid;
      few = g.few;
      torn = torn_twice gate n
          (torn_within gate n gate (length (stored_batch batch)) (omega arith) (omega (arith, g.behind, len, length-append (opened_batches pending) (0 ∷ []))) (torn_whole gate (stored_batch batch) disk))
          (torn_within gate n after (g.next - after + size) (omega arith) (omega (arith, g.behind)) g.torn);
    }
