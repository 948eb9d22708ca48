-- A journal whose last block is the base of all that it holds.
use Rattle.std.proofs.Common.{◌≡◌, ℕ, ◌+◌, Bool, true, false, true≢false, List, [], ◌∷◌, ◌++◌, length, map, refl, sym, ap, subst, ◌∙◌, length-append, arith}
use Rattle.std.specs.Prelude.{All, IsTrue, Option, Some, None, not}
use Rattle.std.proofs.lemmas.Bool.Decides.{nat_tests}
use Rattle.std.proofs.lemmas.List.{append-nil}
use Rattle.std.proofs.lemmas.List.Elements.{All-cons, All-head, All-nil, All-tail, All-weaker}
use Rattle.host_core.specs.Outside.{Outside}
use Rattle.wire_in.specs.Bases.{IsInRange}
use Rattle.wire_in.specs.Laws.{IsSound}
use Rattle.wire_in.specs.Spelling.{InRange}
use Rattle.wire_in.specs.declared.base.Base.{Base}
use Rattle.wire_in.specs.declared.record.Record.{Record}
use Rattle.journal_core.specs.declared.mark.Mark.{Mark}
use Rattle.journal_core.specs.Journal.{JournalState, Represents}
use Rattle.journal_core.specs.Layout.{AddBlocks, AddsBody, Block, Holds, HoldsTo, mark_of, records_of, with_batch}
use Rattle.journal_core.specs.Laws.{IsPassed}
use Rattle.journal_core.specs.Scan.{is_rolled, records_before}
use Rattle.journal_core.specs.Walk.{IsWalkedThrough, is_behind}
use Rattle.journal_core.proofs.Starts.{held_walk, split_at}
use Rattle.rulebook.specs.Admission.{IsLawful}
use Rattle.rulebook.specs.Base.{base_of}
use Rattle.rulebook.proofs.Bases.{is_base}
use Rattle.rulebook.proofs.Short.{base_has_ranges}
use Rattle.recovery_core.specs.declared.recovery.Recovery.{Recovery}
use Rattle.recovery_core.specs.Recoveries.{Recovers}
use Rattle.recovery_core.proofs.Behind.{with_more}
use Rattle.recovery_core.proofs.Held.{held_is, one_base, read_from, whole_read}
use Rattle.recovery_core.proofs.OneDamage.{lawful_few}
use Rattle.roll_core.specs.Rolled.{IsRolled}

abbrev base_of_body : List ℕ → Block
base_of_body body = record { is_base = true; body = body }

-- these blocks end with a base
abbrev EndsWithBase : List Block → Type 0
EndsWithBase blocks = (before : List Block) × (body : List ℕ) × (blocks ≡ before ++ base_of_body body ∷ [])

last_alone : (is_base : Bool) (body : List ℕ) → not is_base ≡ false → EndsWithBase (record { is_base = is_base; body = body } ∷ [])
last_alone true body is = ([], body, refl)
last_alone false body is = absurd (true≢false is)

last_is_base : (blocks : List Block) → is_behind true (map mark_of blocks) ≡ false → EndsWithBase blocks
last_is_base [] is = absurd (true≢false is)
last_is_base (block ∷ []) is = last_alone block.is_base block.body is
last_is_base (block ∷ next ∷ later) is =
    let rest = last_is_base (next ∷ later) is in
    (block ∷ rest.0, rest.1, ap (λ (bs : List Block). block ∷ bs) rest.2)

not_true : (b : Bool) → not b ≡ true → b ≡ false
not_true true is = sym is
not_true false is = refl

-- a list that is held up to a gate behind a base
rolled_to : {capacity gate : ℕ} {held : List Record} {disk : List ℕ} → IsLawful capacity held → (h : HoldsTo capacity gate held disk) → EndsWithBase h.blocks → IsRolled capacity held disk
rolled_to {capacity} {gate} {held} {disk} lawful h (before, body, split) = by parts.0 parts.2 where
  parts : (middle : List Record) × AddBlocks before [] middle × AddBlocks (base_of_body body ∷ []) middle held
  parts = split_at before (base_of_body body ∷ []) [] held (subst (λ (bs : List Block). AddBlocks bs [] held) split h.adds)

  by : (middle : List Record) → AddBlocks (base_of_body body ∷ []) middle held → IsRolled capacity held disk
  by middle (next, (b, spells, of_it, is), last) =
      let all : held ≡ middle = last ∙ is in
      record {
        holds = record { gate = gate; held = h };
        base = b;
        base_is = ap base_of all ∙ of_it;
        gate = gate;
        rest = h.rest;
        leads = record {
          passed = h.blocks;
          ends = (before, body, split, spells, omega (arith, (is_base middle b of_it).records_are, ap length all, lawful_few capacity held lawful));
          start = gate;
          prefix = [];
          passes = h.passes;
          spelled = refl;
          offset = omega arith;
          later = [];
          last = All-nil (λ (m : Mark). m.is_base ≡ false);
          walk = subst (λ (marks : List Mark). IsWalkedThrough capacity marks disk) (sym (append-nil (map mark_of h.blocks))) (held_walk h (lawful_few capacity held lawful));
        };
      }

-- a rolled journal that represents the list
pub rolled_journal : (journal : JournalState) {capacity : ℕ} {held : List Record} {disk : List ℕ} → journal.capacity ≡ capacity → IsLawful capacity held → Represents journal held disk → journal.rolled ≡ true
    → IsRolled capacity held disk
rolled_journal journal {capacity} {held} {disk} limit lawful r is =
    subst (λ (c : ℕ). IsLawful c held → IsRolled c held disk) limit
    (λ lawful. rolled_to lawful r.held (last_is_base r.held.blocks (not_true (is_behind true (map mark_of r.held.blocks)) (sym r.rolled ∙ is)))) lawful

-- the newest records of a list, behind one that has its base, are none
none_newer : (base : Base) (held later before : List Record) → held ≡ later ++ before → base_of held ≡ Some base → base_of before ≡ Some base → length later ≡ 0
none_newer base held later before whole is of_it =
    omega (arith, (is_base held base is).records_are, (is_base before base of_it).records_are, ap length whole, length-append later before)

-- the journal of a scan that was read through such a disk is rolled
pub rolled_scan : {text : Option Base → List Record → List ℕ} {begin : Option (List ℕ)} {disk : List ℕ} {recovery : Recovery} {now : Outside} → Recovers text begin disk recovery now
    → IsTrue recovery.scan.is_closed → {capacity : ℕ} {held : List Record} → IsRolled capacity held disk → is_rolled recovery.scan.base recovery.scan.count ≡ true
rolled_scan {recovery = recovery} r is_closed {held = held} rolled =
    let base : recovery.scan.base ≡ Some rolled.base = one_base (read_from r.read) (record { capacity = _; gate = rolled.gate; batches = []; rest = _; leads = rolled.leads }) in
    let read = whole_read r rolled.holds is_closed in
    let none = none_newer rolled.base held (records_of r.batches) read.1.before (held_is r rolled.holds is_closed) rolled.base_is (subst (λ (b : Option Base). IsPassed b read.1.before) base read.1.passed) in
    at_base recovery.scan.base recovery.scan.count (length (records_of r.batches)) base r.read.count none
  where
    at_base : (base : Option Base) (count more : ℕ) → base ≡ Some rolled.base → count ≡ records_before base + more → more ≡ 0 → is_rolled base count ≡ true
    at_base None count more is counted none = absurd cc
    at_base (Some b) count more is counted none = grind (arith, nat_tests, counted, none)

-- Each record of a list that is held is in its ranges, and so is its base.

ranges_with : (batch held : List Record) → All InRange batch → All InRange held → All InRange (with_batch held batch)
ranges_with [] held batch_in held_in = held_in
ranges_with (x ∷ batch) held batch_in held_in =
    subst (All InRange) (sym (with_more held x batch)) (ranges_with batch (x ∷ held) (All-tail InRange x batch batch_in) (All-cons InRange x held (All-head InRange x batch batch_in) held_in))

body_ranges : (is_base : Bool) (body : List ℕ) (held next : List Record) → AddsBody is_base body held next → All InRange held → All InRange next
body_ranges false body held next (batch, valid, spelled, is) in_range =
    subst (All InRange) (sym is) (ranges_with batch held (All-weaker IsSound InRange (λ x sound. sound.ranges) batch valid.sound) in_range)
body_ranges true body held next (b, spells, of_it, is) in_range = subst (All InRange) (sym is) in_range

blocks_ranges : (blocks : List Block) (held all : List Record) → AddBlocks blocks held all → All InRange held → All InRange all
blocks_ranges [] held all is in_range = subst (All InRange) (sym is) in_range
blocks_ranges (block ∷ later) held all (next, adds, rest) in_range = blocks_ranges later next all rest (body_ranges block.is_base block.body held next adds in_range)

pub held_base : (base : Base) {capacity : ℕ} {held : List Record} {disk : List ℕ} → Holds disk capacity held → IsLawful capacity held → base_of held ≡ Some base → IsInRange base
held_base base {capacity} {held} holds lawful is =
    base_has_ranges base held capacity lawful holds.held.passes.range.most (blocks_ranges holds.held.blocks [] held holds.held.adds (All-nil InRange)) is
