-- A disk that holds a list is read from one base on.
use Rattle.std.proofs.Common.{◌≡◌, ◌⊎◌, inl, inr, ⊎_elim, ℕ, ◌+◌, ◌≤◌, Bool, true, false, List, [], ◌∷◌, ◌++◌, length, map, refl, sym, ◌∙◌, ap, subst, arith, append_assoc, length-append}
use Rattle.std.specs.Prelude.{Option, Some, None}
use Rattle.std.proofs.lemmas.List.{append-nil}
use Rattle.std.proofs.lemmas.List.Elements.{All-nil, All-cons}
use Rattle.wire_in.specs.declared.base.Base.{Base}
use Rattle.wire_in.specs.declared.record.Record.{Record}
use Rattle.rulebook.proofs.Bases.{is_base}
use Rattle.journal_core.specs.declared.mark.Mark.{Mark}
use Rattle.journal_core.specs.Layout.{AddBlocks, AddsBody, AreBlocks, Block, Holds, HoldsTo, OpensBlock, Passes, block_of, content_of, header_of, mark_of}
use Rattle.journal_core.specs.Scan.{EndsWith, LeadsTo}
use Rattle.journal_core.specs.Walk.{AreOfBatches, IsWalkedThrough}
use Rattle.journal_core.proofs.Images.{from_gate}
use Rattle.journal_core.proofs.Starts.{grows, held_walk, split_at}

abbrev base_of_body : List ℕ → Block
base_of_body body = record { is_base = true; body = body }

-- these blocks are none, or the last of them is a base
abbrev IsLastBlock : List Block → Type 0
IsLastBlock passed = (passed ≡ []) ⊎ ((before : List Block) × (body : List ℕ) × (passed ≡ before ++ base_of_body body ∷ []))

-- some blocks up to their last base, and the batches behind it
record LastOf (blocks : List Block) : Type 0 where
  passed : List Block
  later : List Block
  same : blocks ≡ passed ++ later
  last : AreOfBatches (map mark_of later)
  ends : IsLastBlock passed

last_of : (blocks : List Block) → LastOf blocks
last_of [] = record { passed = []; later = []; same = refl; last = All-nil (λ (m : Mark). m.is_base ≡ false); ends = inl refl }
last_of (block ∷ blocks) = by (last_of blocks) where
  at_first : (is_base : Bool) (body : List ℕ) (l : LastOf blocks) → l.passed ≡ [] → LastOf (record { is_base = is_base; body = body } ∷ blocks)
  at_first true body l none = record {
    passed = base_of_body body ∷ [];
    later = l.later;
    same = ap (λ (bs : List Block). base_of_body body ∷ bs) (l.same ∙ ap (λ (bs : List Block). bs ++ l.later) none);
    last = l.last;
    ends = inr ([], body, refl);
  }
  at_first false body l none = record {
    passed = [];
    later = record { is_base = false; body = body } ∷ l.later;
    same = ap (λ (bs : List Block). record { is_base = false; body = body } ∷ bs) (l.same ∙ ap (λ (bs : List Block). bs ++ l.later) none);
    last = All-cons (λ (m : Mark). m.is_base ≡ false) (mark_of (record { is_base = false; body = body })) (map mark_of l.later) refl l.last;
    ends = inl refl;
  }

  by : LastOf blocks → LastOf (block ∷ blocks)
  by l = ⊎_elim (λ none. at_first block.is_base block.body l none)
      (λ some. record {
        passed = block ∷ l.passed;
        later = l.later;
        same = ap (λ (bs : List Block). block ∷ bs) l.same;
        last = l.last;
        ends = inr (block ∷ some.0, some.1, ap (λ (bs : List Block). block ∷ bs) some.2);
      }) l.ends

-- the bytes of the first blocks, and those of the later ones
record SplitBytes (first later : List Block) (bytes : List ℕ) : Type 0 where
  head : List ℕ
  tail : List ℕ
  same : bytes ≡ head ++ tail
  spelled : AreBlocks first head

split_bytes : (first later : List Block) (bytes : List ℕ) → AreBlocks (first ++ later) bytes → SplitBytes first later bytes
split_bytes [] later bytes spelled = record { head = []; tail = bytes; same = refl; spelled = refl }
split_bytes (block ∷ first) later bytes (rest, opens, spelled) =
    let more = split_bytes first later rest spelled in
    record {
      head = opens.gate ∷ (content_of block ++ more.head);
      tail = more.tail;
      same = opens.whole ∙ ap (λ (l : List ℕ). opens.gate ∷ (content_of block ++ l)) more.same ∙ ap (λ (l : List ℕ). opens.gate ∷ l) (sym (append_assoc (content_of block) more.head more.tail));
      spelled = (more.head, record { gate = opens.gate; not_closed = opens.not_closed; form = opens.form; whole = refl }, more.spelled);
    }

map-blocks : (a b : List Block) → map mark_of (a ++ b) ≡ map mark_of a ++ map mark_of b
map-blocks [] b = refl
map-blocks (x ∷ a) b = ap (λ (l : List Mark). mark_of x ∷ l) (map-blocks a b)

-- where some blocks lead to records within a capacity, the last base among them spells one that has no more
spelled_base : (capacity : ℕ) (passed later : List Block) (records : List Record) → AddBlocks (passed ++ later) [] records → length records ≤ capacity → IsLastBlock passed → (base : Option Base) × EndsWith capacity base passed
spelled_base capacity passed later records adds few (inl none) = (None, none)
spelled_base capacity passed later records adds few (inr (before, body, is)) =
    let parts = split_at passed later [] records adds in
    let inner = split_at before (base_of_body body ∷ []) [] parts.0 (subst (λ (l : List Block). AddBlocks l [] parts.0) is parts.1) in
    by inner.0 parts.0 (grows later parts.0 records parts.2) inner.2
  where
    by : (middle all : List Record) → (more : List Record) × (records ≡ more ++ all) → AddBlocks (base_of_body body ∷ []) middle all → (base : Option Base) × EndsWith capacity base passed
    by middle all more (next, (b, spells, of_it, same), last) =
        let count : b.records ≡ length middle = (is_base middle b of_it).records_are in
        (Some b, (before, body, is, spells, omega (arith, few, count, ap length same, ap length last, ap length more.1, length-append more.0 all)))

regroup : (a b c d e : List ℕ) → b ≡ c ++ d → (a ++ b) ++ e ≡ (a ++ c) ++ (d ++ e)
regroup a b c d e is = ap (λ (l : List ℕ). (a ++ l) ++ e) is ∙ assoc a c d e where
  assoc : (a c d e : List ℕ) → (a ++ (c ++ d)) ++ e ≡ (a ++ c) ++ (d ++ e)
  assoc a c d e = simp append_assoc

-- a disk that holds a list within its capacity is read from its last base on, or from its first gate
pub held_start : (disk : List ℕ) (capacity : ℕ) (records : List Record) → Holds disk capacity records → length records ≤ capacity
    → (gate : ℕ) × (base : Option Base) × (rest : List ℕ) × LeadsTo capacity gate base [] disk rest
held_start disk capacity records holds few =
    let h = holds.held in
    let l = last_of h.blocks in
    let bytes = split_bytes l.passed l.later h.passes.prefix (subst (λ (bs : List Block). AreBlocks bs h.passes.prefix) l.same h.passes.spelled) in
    let base = spelled_base capacity l.passed l.later records (subst (λ (bs : List Block). AddBlocks bs [] records) l.same h.adds) few l.ends in (
      16 + length bytes.head,
      base.0,
      bytes.tail ++ 0 ∷ h.rest,
      record {
        passed = l.passed;
        ends = base.1;
        start = 16 + length bytes.head;
        prefix = [];
        passes = record {
          is_second = h.passes.is_second;
          range = h.passes.range;
          prefix = bytes.head;
          spelled = bytes.spelled;
          offset = refl;
          whole = h.passes.whole ∙ regroup (header_of h.passes.is_second capacity) h.passes.prefix bytes.head bytes.tail (0 ∷ h.rest) bytes.same;
        };
        spelled = refl;
        offset = omega arith;
        later = map mark_of l.later;
        last = l.last;
        walk = subst (λ (marks : List Mark). IsWalkedThrough capacity marks disk) (ap (map mark_of) l.same ∙ map-blocks l.passed l.later) (held_walk h few);
      },
    )

-- from its first gate, where all of its blocks are batches
pub first_start : (disk : List ℕ) (capacity : ℕ) (records : List Record) (holds : Holds disk capacity records) → AreOfBatches (map mark_of holds.held.blocks) → length records ≤ capacity
    → (rest : List ℕ) × LeadsTo capacity 16 None [] disk rest
first_start disk capacity records holds batches few =
    let h = holds.held in (
      h.passes.prefix ++ 0 ∷ h.rest,
      record {
        passed = [];
        ends = refl;
        start = 16;
        prefix = [];
        passes = record {
          is_second = h.passes.is_second;
          range = h.passes.range;
          prefix = [];
          spelled = refl;
          offset = refl;
          whole = h.passes.whole ∙ regroup (header_of h.passes.is_second capacity) h.passes.prefix [] h.passes.prefix (0 ∷ h.rest) refl;
        };
        spelled = refl;
        offset = refl;
        later = map mark_of h.blocks;
        last = batches;
        walk = held_walk h few;
      },
    )
