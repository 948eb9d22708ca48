-- A journal that was read to its end, of a disk that holds a list.
use Rattle.std.proofs.Common.{◌≡◌, ℕ, ◌+◌, ◌≤◌, Bool, true, false, not, List, [], ◌∷◌, ◌++◌, length, map, refl, sym, ◌∙◌, ap, arith, length-append}
use Rattle.std.specs.Prelude.{All, IsTrue, ◌==◌, Option, Some, None}
use Rattle.std.proofs.lemmas.Bool.Decides.{nat_tests}
use Rattle.std.proofs.lemmas.List.{append-nil, length-reverse}
use Rattle.std.proofs.lemmas.List.Elements.{All-head}
use Rattle.wire_in.specs.declared.base.Base.{Base}
use Rattle.wire_in.specs.declared.record.Record.{Record}
use Rattle.rulebook.proofs.Bases.{is_base}
use Rattle.journal_core.specs.declared.mark.Mark.{Mark}
use Rattle.journal_core.specs.Layout.{Block, Holds, IsBatch, Passes, block_of, mark_of, records_of}
use Rattle.journal_core.specs.Journal.{JournalState, Represents, IsOfDisk}
use Rattle.journal_core.specs.Laws.{IsPassed}
use Rattle.journal_core.specs.Scan.{EndsWith, ScanState, HasRead, IsScanOf, is_rolled, records_before}
use Rattle.journal_core.specs.Walk.{is_behind}
use Rattle.journal_core.proofs.Batches.{batches_valid, records_first}
use Rattle.journal_core.proofs.Images.{followed}
use Rattle.journal_core.proofs.OneList.{alone}
use Rattle.journal_core.proofs.Readable.{all_passed, led}

is_behind-append : (before : Bool) (a b : List Mark) → is_behind before (a ++ b) ≡ is_behind (is_behind before a) b
is_behind-append before [] b = refl
is_behind-append before (m ∷ a) b = is_behind-append (not m.is_base) a b

marks-append : (a b : List Block) → map mark_of (a ++ b) ≡ map mark_of a ++ map mark_of b
marks-append [] b = refl
marks-append (x ∷ a) b = ap (λ (l : List Mark). mark_of x ∷ l) (marks-append a b)

batches_last : (batches : List (List Record)) → is_behind true (map mark_of (map block_of batches)) ≡ true
batches_last [] = refl
batches_last (b ∷ batches) = batches_last batches

-- batches have records
some_records : (batch : List Record) (batches : List (List Record)) → All IsBatch (batch ∷ batches) → 1 ≤ length (records_of (batch ∷ batches))
some_records batch batches valid =
    omega (
      arith,
      ap length (records_first (batch ∷ []) batches),
      length-append (records_of batches) (records_of (batch ∷ [])),
      length-reverse (batch ++ []),
      ap length (append-nil batch),
      (All-head IsBatch batch batches valid).least,
    )

-- the last block is a base where no record came behind it
rolled_is : (base : Option Base) (capacity count : ℕ) (passed : List Block) (batches : List (List Record)) → EndsWith capacity base passed → All IsBatch batches → count ≡ records_before base + length (records_of batches)
    → is_rolled base count ≡ not (is_behind true (map mark_of (passed ++ map block_of batches)))
rolled_is None capacity count passed batches ends valid counts =
    sym (ap (λ (l : List Block). not (is_behind true (map mark_of (l ++ map block_of batches)))) ends ∙ ap not (batches_last batches))
rolled_is (Some b) capacity count passed batches (first, body, is, spells, few) valid counts =
    by batches valid counts ∙ sym (ap not (ap (is_behind true) (marks-append passed (map block_of batches)) ∙ is_behind-append true (map mark_of passed) (map mark_of (map block_of batches)) ∙ ap (λ (c : Bool). is_behind c (map mark_of (map block_of batches))) last))
  where
    last : is_behind true (map mark_of passed) ≡ false
    last =
        let block : Block = record { is_base = true; body = body } in
        ap (λ (l : List Block). is_behind true (map mark_of l)) is ∙ ap (is_behind true) (marks-append first (block ∷ [])) ∙ is_behind-append true (map mark_of first) (mark_of block ∷ [])

    by : (batches : List (List Record)) → All IsBatch batches → count ≡ b.records + length (records_of batches) → (b.records == count) ≡ not (is_behind false (map mark_of (map block_of batches)))
    by [] valid counts = at b.records count (omega (arith, counts)) where
      at : (n m : ℕ) → m ≡ n → (n == m) ≡ true
      at n m is = grind (arith, nat_tests)
    by (batch ∷ batches) valid counts = at b.records count (omega (arith, counts, some_records batch batches valid)) ∙ sym (ap not (batches_last batches)) where
      at : (n m : ℕ) → n + 1 ≤ m → (n == m) ≡ false
      at n m lt = grind (arith, nat_tests)

-- as many records stand before a scan as its base has
before_count : (base : Option Base) (before : List Record) → IsPassed base before → records_before base ≡ length before
before_count None before none = sym (ap length none)
before_count (Some b) before of_it = (is_base before b of_it).records_are

-- the journal that a scan leaves at its end
abbrev pub finished : ScanState → JournalState
finished scan = record { capacity = scan.capacity; count = scan.count; gate = scan.gate; rolled = is_rolled scan.base scan.count; whole = true }

pub finished_holds : (scan : ScanState) (batches : List (List Record)) (disk : List ℕ) (capacity : ℕ) (records : List Record) → IsTrue scan.is_closed → HasRead scan batches disk → Holds disk capacity records
    → Represents (finished scan) records disk
finished_holds scan batches disk capacity records is_closed read holds =
    let p = read.leads in
    let zero = read.closed is_closed in
    let valid = batches_valid batches p.prefix p.spelled in
    let mine : Passes scan.capacity scan.gate (p.passed ++ map block_of batches) disk (0 ∷ zero.0) = followed (all_passed p) (0 ∷ zero.0) zero.1 in
    let h = holds.held in
    let one = alone.blocks disk scan.capacity scan.gate (p.passed ++ map block_of batches) zero.0 capacity holds.gate h.blocks h.rest mine h.passes in
    let all = led holds p in
    let whole = all.all zero.0 zero.1 in
    record {
      held = record { blocks = h.blocks; rest = h.rest; passes = rw (one.0, one.2) h.passes; in_turn = h.in_turn; adds = h.adds };
      count = omega (arith, read.count, before_count scan.base all.before all.passed, ap length whole, length-append (records_of batches) all.before);
      rolled = rolled_is scan.base scan.capacity scan.count p.passed batches p.ends valid read.count ∙ ap (λ (l : List Block). not (is_behind true (map mark_of l))) one.1;
    }

pub finished_of_disk : (scan : ScanState) (known : Option (List ℕ)) → IsTrue scan.is_closed → IsScanOf scan known → IsOfDisk (finished scan) known
finished_of_disk scan known is_closed of_disk disk is =
    let read = (of_disk disk is).1 in
    let zero = read.closed is_closed in
    record { blocks = read.leads.passed ++ map block_of (of_disk disk is).0; rest = zero.0; passes = followed (all_passed read.leads) (0 ∷ zero.0) zero.1 }
