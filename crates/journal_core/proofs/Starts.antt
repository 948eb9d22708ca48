-- A disk is read from one start on, or is damaged at one offset.
use Rattle.std.proofs.Common.{◌≡◌, ◌⊎◌, inl, inr, ⊎_elim, ℕ, ◌+◌, ◌<◌, ◌≤◌, Bool, true, false, cond, List, [], ◌∷◌, ◌++◌, length, map, get_or, take, drop, refl, sym, ◌∙◌, ap, subst, true≢false, arith, append_assoc, length-append}
use Rattle.std.specs.Prelude.{Option, Some, None, nat_lt, reverse}
use Rattle.std.specs.Int.{w64}
use Rattle.std.proofs.lemmas.Bool.Decides.{nat_tests}
use Rattle.std.proofs.lemmas.List.{take_at, drop_at, drop-drop, length-reverse}
use Rattle.std.proofs.lemmas.List.Elements.{All-head, All-tail}
use Rattle.wire_core.specs.Fields.{number}
use Rattle.wire_core.proofs.Cells.{wide64}
use Rattle.wire_in.specs.Bases.{SpellsBase}
use Rattle.wire_in.specs.declared.base.Base.{Base}
use Rattle.wire_in.specs.declared.record.Record.{Record}
use Rattle.wire_in.proofs.OneBase.{base_is_alone}
use Rattle.rulebook.proofs.Bases.{is_base}
use Rattle.journal_core.specs.declared.mark.Mark.{Mark}
use Rattle.journal_core.specs.Layout.{AddBlocks, AddsBody, AreBlocks, AreInTurn, Block, HoldsTo, Holds, IsLimit, OpensBlock, Passes, content_of, header_of, mark_of}
use Rattle.journal_core.specs.Walk.{AreMarks, AreOfBatches, HasBadBaseAt, HasHeader, HasNoHeader, HasNoWay, IsBrokenAt, IsUnreadableAt, IsWalked, IsWalkedThrough, batch_count, is_behind, may_follow, next_of}
use Rattle.journal_core.specs.Scan.{EndsWith, LeadsTo}
use Rattle.journal_core.specs.Laws.{HasOneStart}
use Rattle.journal_core.proofs.Batches.{GoesOn, batches_first}
use Rattle.journal_core.proofs.Images.{from_gate}
use Rattle.journal_core.proofs.Marks.{Further, MarksGoOn, beyond, blocks_marked, closed_alike, count-append, marks_first, no_mark, no_mark_in_none, one_mark, turn_there}

-- The header

pub has_header : {capacity gate : ℕ} {blocks : List Block} {disk rest : List ℕ} → Passes capacity gate blocks disk rest → 0 < length rest → HasHeader capacity disk
has_header {capacity} {gate} {blocks} {disk} {rest} p some = record {
  long = omega (arith, some, ap length p.whole, length-append (header_of p.is_second capacity ++ p.prefix) rest, length-append (header_of p.is_second capacity) p.prefix);
  signed = (p.is_second, ap (take 8) p.whole);
  limit_is = ap (number w64 8) p.whole ∙ wide64.read capacity (omega (arith, p.range.most));
  range = p.range;
}

pub headed : {capacity : ℕ} {disk : List ℕ} → HasHeader capacity disk → HasNoHeader disk → ⊥
headed h (inl short) = omega (arith, short, h.long)
headed h (inr (inl unsigned)) = unsigned h.signed
headed h (inr (inr outside)) = outside (subst IsLimit (sym h.limit_is) h.range)

-- what follows the header
pub behind_header : {capacity gate : ℕ} {blocks : List Block} {disk rest : List ℕ} (p : Passes capacity gate blocks disk rest) → drop 16 disk ≡ p.prefix ++ rest
behind_header p = ap (drop 16) p.whole

-- the marks of blocks on a disk
pub passes_marked : {capacity gate : ℕ} {blocks : List Block} {disk rest : List ℕ} (p : Passes capacity gate blocks disk rest)
    → AreMarks 16 (map mark_of blocks) disk × (next_of 16 (map mark_of blocks) ≡ gate)
passes_marked {capacity} {gate} {blocks} {disk} {rest} p =
    let m = blocks_marked 16 blocks p.prefix rest disk p.spelled (behind_header p) in
    (m.stand, m.place ∙ p.offset)

-- Walks

-- a mark among others may follow those before it
may_by : (capacity count : ℕ) (behind is_base : Bool) → cond is_base behind true ≡ true → count + cond is_base 0 1 ≤ capacity → cond is_base behind (nat_lt count capacity) ≡ true
may_by capacity count behind true turn few = turn
may_by capacity count behind false turn few = grind (arith, nat_tests)

may_there : {capacity : ℕ} {marks : List Mark} {disk : List ℕ} (before later : List Mark) (mark : Mark) → IsWalked capacity marks disk → marks ≡ before ++ mark ∷ later → may_follow capacity before mark ≡ true
may_there {capacity} {marks} before later mark walked is =
    let turn = turn_there false before mark later (subst (λ (l : List Mark). AreInTurn false l) is walked.in_turn) in
    let few : batch_count before + cond mark.is_base 0 1 ≤ capacity = omega (arith, walked.few, ap batch_count is, count-append before (mark ∷ later)) in
    may_by capacity (batch_count before) (is_behind false before) mark.is_base turn few

-- where a walk went on, there is a way on
way_on : {capacity : ℕ} {seen marks : List Mark} {disk : List ℕ} → IsWalked capacity marks disk → Further 16 seen marks disk → HasNoWay capacity seen (drop (next_of 16 seen) disk) → ⊥
way_on walked on (inl none) = no_mark_in_none on.there none
way_on walked on (inr (inl none)) = none.no_mark on.mark on.rest on.there
way_on {capacity} {seen} walked on (inr (inr (mark, rest, there, refused))) =
    let same : mark ≡ on.mark = (one_mark there on.there).0 in
    true≢false (sym (may_there seen on.later on.mark walked on.same) ∙ ap (may_follow capacity seen) (sym same) ∙ refused)

-- a closed gate is an end, and not no way on
not_closed : (capacity : ℕ) (marks : List Mark) {bytes : List ℕ} (rest : List ℕ) → HasNoWay capacity marks bytes → bytes ≡ 0 ∷ rest → ⊥
not_closed capacity marks rest (inl none) closed = omega (arith, ap length (sym none ∙ closed))
not_closed capacity marks rest (inr (inl none)) closed = none.not_closed (ap (λ (l : List ℕ). get_or l 0 0) (sym none.whole ∙ closed))
not_closed capacity marks rest (inr (inr (mark, more, there, refused))) closed = no_mark there closed

one_capacity : {capacity capacity' : ℕ} {disk : List ℕ} → HasHeader capacity disk → HasHeader capacity' disk → capacity ≡ capacity'
one_capacity p q = sym p.limit_is ∙ q.limit_is

no_way_at : {capacity at : ℕ} {disk : List ℕ} (b : IsBrokenAt capacity at disk) → HasNoWay capacity b.marks (drop (next_of 16 b.marks) disk)
no_way_at {capacity} {at} {disk} b = subst (λ (k : ℕ). HasNoWay capacity b.marks (drop k disk)) (sym b.place) b.why

-- where there is no way on, no walk comes through
broken_through : {capacity at limit : ℕ} {marks : List Mark} {disk : List ℕ} → IsBrokenAt capacity at disk → IsWalkedThrough limit marks disk → ⊥
broken_through {capacity} {at} {limit} {marks} {disk} b walk = by (marks_first 16 b.marks marks disk b.walked.stand walk.walked.stand) where
  walked : IsWalked capacity marks disk
  walked = subst (λ (l : ℕ). IsWalked l marks disk) (one_capacity walk.walked.header b.walked.header) walk.walked

  by : MarksGoOn b.marks marks ⊎ MarksGoOn marks b.marks → ⊥
  by (inl on) = ⊎_elim (λ is. not_closed capacity b.marks walk.rest (no_way_at b) (ap (λ (l : List Mark). drop (next_of 16 l) disk) (sym is) ∙ walk.closed)) (λ further. way_on walked further (no_way_at b)) (beyond 16 b.marks marks disk walk.walked.stand on)
  by (inr on) = ⊎_elim (λ is. not_closed capacity b.marks walk.rest (no_way_at b) (ap (λ (l : List Mark). drop (next_of 16 l) disk) is ∙ walk.closed)) (λ further. no_mark further.there walk.closed) (beyond 16 marks b.marks disk b.walked.stand on)

broken_broken : {capacity at capacity' at' : ℕ} {disk : List ℕ} → IsBrokenAt capacity at disk → IsBrokenAt capacity' at' disk → at ≡ at'
broken_broken {capacity} {at} {capacity'} {at'} {disk} b c = by (marks_first 16 b.marks c.marks disk b.walked.stand c.walked.stand) where
  same : capacity ≡ capacity'
  same = one_capacity b.walked.header c.walked.header

  by : MarksGoOn b.marks c.marks ⊎ MarksGoOn c.marks b.marks → at ≡ at'
  by (inl on) = ⊎_elim (λ is. sym b.place ∙ ap (next_of 16) (sym is) ∙ c.place)
      (λ further. absurd (way_on (subst (λ (l : ℕ). IsWalked l c.marks disk) (sym same) c.walked) further (no_way_at b))) (beyond 16 b.marks c.marks disk c.walked.stand on)
  by (inr on) = ⊎_elim (λ is. sym b.place ∙ ap (next_of 16) is ∙ c.place)
      (λ further. absurd (way_on (subst (λ (l : ℕ). IsWalked l b.marks disk) same b.walked) further (no_way_at c))) (beyond 16 c.marks b.marks disk b.walked.stand on)

-- One mark is the last that is not of a batch.

pub of_batch : (before later : List Mark) (mark : Mark) → AreOfBatches (before ++ mark ∷ later) → mark.is_base ≡ false
of_batch [] later mark all = All-head (λ (m : Mark). m.is_base ≡ false) mark later all
of_batch (m ∷ before) later mark all = of_batch before later mark (All-tail (λ (m : Mark). m.is_base ≡ false) m (before ++ mark ∷ later) all)

record SameLast (before before' later later' : List Mark) (count count' : ℕ) : Type 0 where
  first : before ≡ before'
  counts : count ≡ count'
  rest : later ≡ later'

abbrev base_mark : ℕ → Mark
base_mark count = record { is_base = true; count = count }

one_last : (before before' later later' : List Mark) (count count' : ℕ) → before ++ base_mark count ∷ later ≡ before' ++ base_mark count' ∷ later' → AreOfBatches later → AreOfBatches later'
    → SameLast before before' later later' count count'
one_last [] [] later later' count count' is last last' = record { first = refl; counts = ap (λ (l : List Mark). (get_or l 0 (base_mark 0)).count) is; rest = ap (drop 1) is }
one_last [] (m ∷ before') later later' count count' is last last' =
    absurd (true≢false (of_batch before' later' (base_mark count') (subst AreOfBatches (ap (drop 1) is) last)))
one_last (m ∷ before) [] later later' count count' is last last' =
    absurd (true≢false (of_batch before later (base_mark count) (subst AreOfBatches (sym (ap (drop 1) is)) last')))
one_last (m ∷ before) (n ∷ before') later later' count count' is last last' =
    let more = one_last before before' later later' count count' (ap (drop 1) is) last last' in
    record { first = ap (λ (k : Mark). k ∷ before) (ap (λ (l : List Mark). get_or l 0 m) is) ∙ ap (λ (l : List Mark). n ∷ l) more.first; counts = more.counts; rest = more.rest }

-- Blocks on a disk at the places that their marks say

opens_more : {block : Block} {bytes tail : List ℕ} (rest : List ℕ) → OpensBlock block bytes tail → OpensBlock block (bytes ++ rest) (tail ++ rest)
opens_more {block} {bytes} {tail} rest opens = record {
  gate = opens.gate;
  not_closed = opens.not_closed;
  form = opens.form;
  whole = ap (λ (l : List ℕ). l ++ rest) opens.whole ∙ ap (λ (l : List ℕ). opens.gate ∷ l) (append_assoc (content_of block) tail rest);
}

-- what stands behind a block
behind_block : (at : ℕ) (disk : List ℕ) {block : Block} {rest : List ℕ} → OpensBlock block (drop at disk) rest → drop (at + 5 + length block.body) disk ≡ rest
behind_block at disk {block} {rest} opens =
    sym (drop-drop (length block.body) (at + 5) disk) ∙ ap (drop (length block.body)) (sym (drop-drop 5 at disk) ∙ ap (drop 5) opens.whole) ∙ drop_at block.body rest (length block.body) refl

pub body_there : (at : ℕ) (disk : List ℕ) {block : Block} {rest : List ℕ} → OpensBlock block (drop at disk) rest → take (length block.body) (drop (at + 5) disk) ≡ block.body
body_there at disk {block} {rest} opens =
    ap (take (length block.body)) (sym (drop-drop 5 at disk) ∙ ap (drop 5) opens.whole) ∙ take_at block.body rest (length block.body) refl

pub block_there : (at : ℕ) (before later : List Block) (block : Block) (prefix rest disk : List ℕ) → AreBlocks (before ++ block ∷ later) prefix → drop at disk ≡ prefix ++ rest
    → (tail : List ℕ) × OpensBlock block (drop (next_of at (map mark_of before)) disk) tail
block_there at [] later block prefix rest disk (tail, opens, spelled) is = (tail ++ rest, subst (λ (l : List ℕ). OpensBlock block l (tail ++ rest)) (sym is) (opens_more rest opens))
block_there at (b ∷ before) later block prefix rest disk (tail, opens, spelled) is =
    let here : OpensBlock b (drop at disk) (tail ++ rest) = subst (λ (l : List ℕ). OpensBlock b l (tail ++ rest)) (sym is) (opens_more rest opens) in
    block_there (at + 5 + length b.body) before later block tail rest disk spelled (behind_block at disk here)

map-marks : (before : List Block) (block : Block) (later : List Block) → map mark_of (before ++ block ∷ later) ≡ map mark_of before ++ mark_of block ∷ map mark_of later
map-marks [] block later = refl
map-marks (b ∷ before) block later = ap (λ (l : List Mark). mark_of b ∷ l) (map-marks before block later)

-- A start

module _ {capacity gate : ℕ} {base : Option Base} {batches : List (List Record)} {disk rest : List ℕ} (p : LeadsTo capacity gate base batches disk rest) where
  pub started : next_of 16 (map mark_of p.passed) ≡ p.start
  started = (passes_marked p.passes).1

  pub from_start : drop p.start disk ≡ p.prefix ++ rest
  from_start = from_gate p.passes

  pub led_from : drop gate disk ≡ rest
  led_from = ap (λ (k : ℕ). drop k disk) (sym p.offset) ∙ sym (drop-drop (length p.prefix) p.start disk) ∙ ap (drop (length p.prefix)) from_start ∙ drop_at p.prefix rest (length p.prefix) refl

-- the last base stands where the marks say
record LastBase (b : Base) (capacity : ℕ) (first : List Mark) (disk : List ℕ) : Type 0 where
  before : List Mark
  count : ℕ
  same : first ≡ before ++ base_mark count ∷ []
  spelled : SpellsBase (take count (drop (next_of 16 before + 5) disk)) b
  few : b.records ≤ capacity

last_base : {capacity gate : ℕ} {disk rest : List ℕ} (b : Base) (passed : List Block) → Passes capacity gate passed disk rest → EndsWith capacity (Some b) passed → LastBase b capacity (map mark_of passed) disk
last_base {capacity} {gate} {disk} {rest} b passed p (first, body, is, spelled, few) =
    let block : Block = record { is_base = true; body = body } in
    let there = block_there 16 first [] block p.prefix rest disk (subst (λ (l : List Block). AreBlocks l p.prefix) is p.spelled) (behind_header p) in
    record {
      before = map mark_of first;
      count = length body;
      same = ap (map mark_of) is ∙ map-marks first block [];
      spelled = subst (λ (l : List ℕ). SpellsBase l b) (sym (body_there (next_of 16 (map mark_of first)) disk there.1)) spelled;
      few = few;
    }

with_later : {b : Base} {capacity : ℕ} {first : List Mark} {disk : List ℕ} (l : LastBase b capacity first disk) (later : List Mark) → first ++ later ≡ l.before ++ base_mark l.count ∷ later
with_later l later = ap (λ (m : List Mark). m ++ later) l.same ∙ append_assoc l.before (base_mark l.count ∷ []) later

-- no base stands among marks of batches
no_base : {A : Type 0} (count : ℕ) (before later : List Mark) → AreOfBatches (before ++ base_mark count ∷ later) → A
no_base count before later all = absurd (true≢false (of_batch before later (base_mark count) all))

-- of two spellings of the marks up to the last base
bases_alike : (base base' : Option Base) {capacity capacity' gate gate' : ℕ} (passed passed' : List Block) (later later' : List Mark) {disk rest rest' : List ℕ}
    → Passes capacity gate passed disk rest → Passes capacity' gate' passed' disk rest' → EndsWith capacity base passed → EndsWith capacity' base' passed' → AreOfBatches later → AreOfBatches later'
    → map mark_of passed ++ later ≡ map mark_of passed' ++ later' → (base ≡ base') × (map mark_of passed ≡ map mark_of passed')
bases_alike None None passed passed' later later' p p' ends ends' last last' is = (refl, ap (map mark_of) (ends ∙ sym ends'))
bases_alike None (Some b) passed passed' later later' p p' ends ends' last last' is =
    let there = last_base b passed' p' ends' in
    let all : later ≡ there.before ++ base_mark there.count ∷ later' = ap (λ (l : List Block). map mark_of l ++ later) (sym ends) ∙ is ∙ with_later there later' in
    no_base there.count there.before later' (subst AreOfBatches all last)
bases_alike (Some b) None passed passed' later later' p p' ends ends' last last' is =
    let there = last_base b passed p ends in
    let all : later' ≡ there.before ++ base_mark there.count ∷ later = ap (λ (l : List Block). map mark_of l ++ later') (sym ends') ∙ sym is ∙ with_later there later in
    no_base there.count there.before later (subst AreOfBatches all last')
bases_alike (Some b) (Some b') passed passed' later later' {disk = disk} p p' ends ends' last last' is =
    let one = last_base b passed p ends in
    let two = last_base b' passed' p' ends' in
    let same = one_last one.before two.before later later' one.count two.count (sym (with_later one later) ∙ is ∙ with_later two later') last last' in
    let there : SpellsBase (take two.count (drop (next_of 16 two.before + 5) disk)) b =
    subst (λ (n : ℕ). SpellsBase (take n (drop (next_of 16 two.before + 5) disk)) b) same.counts (subst (λ (l : List Mark). SpellsBase (take one.count (drop (next_of 16 l + 5) disk)) b) same.first one.spelled) in
    (ap Some (base_is_alone _ b b' there two.spelled), one.same ∙ (λ i. same.first i ++ base_mark (same.counts i) ∷ []) ∙ sym two.same)

pub record SameStart (capacity capacity' : ℕ) (base base' : Option Base) (start start' : ℕ) : Type 0 where
  pub capacities : capacity ≡ capacity'
  pub bases : base ≡ base'
  pub starts : start ≡ start'

pub same_start : {capacity gate : ℕ} {base : Option Base} {batches : List (List Record)} {disk rest : List ℕ} {capacity' gate' : ℕ} {base' : Option Base} {batches' : List (List Record)} {rest' : List ℕ}
    (p : LeadsTo capacity gate base batches disk rest) (q : LeadsTo capacity' gate' base' batches' disk rest') → SameStart capacity capacity' base base' p.start q.start
same_start {base = base} {disk = disk} {base' = base'} p q =
    let marks = closed_alike 16 (map mark_of p.passed ++ p.later) (map mark_of q.passed ++ q.later) disk p.walk.rest q.walk.rest p.walk.walked.stand p.walk.closed q.walk.walked.stand q.walk.closed in
    let alike = bases_alike base base' p.passed q.passed p.later q.later p.passes q.passes p.ends q.ends p.last q.last marks in
    record {
      capacities = one_capacity p.walk.walked.header q.walk.walked.header;
      bases = alike.0;
      starts = sym (started p) ∙ ap (next_of 16) alike.1 ∙ started q;
    }

-- batches behind one start go on, those of one or those of the other
pub one_on : {capacity gate : ℕ} {base : Option Base} {batches : List (List Record)} {disk rest : List ℕ} {capacity' gate' : ℕ} {base' : Option Base} {batches' : List (List Record)} {rest' : List ℕ}
    → LeadsTo capacity gate base batches disk rest → LeadsTo capacity' gate' base' batches' disk rest' → GoesOn batches batches' rest rest' ⊎ GoesOn batches' batches rest' rest
one_on {batches = batches} {disk = disk} {rest = rest} {batches' = batches'} {rest' = rest'} p q =
    let same = same_start p q in
    batches_first batches batches' p.prefix q.prefix rest rest' p.spelled q.spelled (sym (from_start p) ∙ ap (λ (k : ℕ). drop k disk) same.starts ∙ from_start q)

pub one_limit : {capacity gate : ℕ} {base : Option Base} {batches : List (List Record)} {disk rest : List ℕ} {capacity' gate' : ℕ} {base' : Option Base} {batches' : List (List Record)} {rest' : List ℕ}
    → LeadsTo capacity gate base batches disk rest → LeadsTo capacity' gate' base' batches' disk rest' → capacity ≡ capacity'
one_limit p q = (same_start p q).capacities

pub one_gate : {capacity gate : ℕ} {base : Option Base} {batches : List (List Record)} {disk rest : List ℕ} {capacity' gate' : ℕ} {base' : Option Base} {batches' : List (List Record)} {rest' : List ℕ}
    → LeadsTo capacity gate base batches disk rest → LeadsTo capacity' gate' base' batches' disk rest' → rest ≡ rest' → gate ≡ gate'
one_gate {disk = disk} {rest = rest} {rest' = rest'} p q is =
    let same = same_start p q in
    let bytes : p.prefix ++ rest ≡ q.prefix ++ rest' = sym (from_start p) ∙ ap (λ (k : ℕ). drop k disk) same.starts ∙ from_start q in
    omega (arith, p.offset, q.offset, same.starts, ap length bytes, ap length is, length-append p.prefix rest, length-append q.prefix rest')

-- A bad base

bad_bad : {capacity at capacity' at' : ℕ} {disk : List ℕ} → HasBadBaseAt capacity at disk → HasBadBaseAt capacity' at' disk → at ≡ at'
bad_bad {disk = disk} b c =
    let marks = closed_alike 16 (b.before ++ base_mark b.count ∷ b.later) (c.before ++ base_mark c.count ∷ c.later) disk b.walk.rest c.walk.rest b.walk.walked.stand b.walk.closed c.walk.walked.stand c.walk.closed in
    let same = one_last b.before c.before b.later c.later b.count c.count marks b.last c.last in
    sym b.place ∙ ap (next_of 16) same.first ∙ c.place

-- a base that is there is not bad
not_bad : {capacity at limit : ℕ} {disk : List ℕ} (bad : HasBadBaseAt capacity at disk) (b : Base) (before : List Mark) (count : ℕ) → bad.before ≡ before → bad.count ≡ count
    → SpellsBase (take count (drop (next_of 16 before + 5) disk)) b → b.records ≤ limit → limit ≡ capacity → ⊥
not_bad {capacity} {at} {limit} {disk} bad b before count first counts spelled few limits =
    let there : SpellsBase (take bad.count (drop (at + 5) disk)) b =
    subst (λ (k : ℕ). SpellsBase (take bad.count (drop (k + 5) disk)) b) (ap (next_of 16) (sym first) ∙ bad.place)
    (subst (λ (n : ℕ). SpellsBase (take n (drop (next_of 16 before + 5) disk)) b) (sym counts) spelled) in
    omega (arith, bad.bad b there, few, limits)

bad_led : {capacity at limit gate : ℕ} {base : Option Base} {batches : List (List Record)} {disk rest : List ℕ} → HasBadBaseAt capacity at disk → LeadsTo limit gate base batches disk rest → ⊥
bad_led {capacity} {at} {limit} {gate} {base} {batches} {disk} {rest} bad p = by base p.ends where
  marks : bad.before ++ base_mark bad.count ∷ bad.later ≡ map mark_of p.passed ++ p.later
  marks = closed_alike 16 (bad.before ++ base_mark bad.count ∷ bad.later) (map mark_of p.passed ++ p.later) disk bad.walk.rest p.walk.rest bad.walk.walked.stand bad.walk.closed p.walk.walked.stand p.walk.closed

  by : (base : Option Base) → EndsWith limit base p.passed → ⊥
  by None ends = no_base bad.count bad.before bad.later (subst AreOfBatches (sym (marks ∙ ap (λ (l : List Block). map mark_of l ++ p.later) ends)) p.last)
  by (Some b) ends =
      let there = last_base b p.passed p.passes ends in
      let same = one_last bad.before there.before bad.later p.later bad.count there.count (marks ∙ with_later there p.later) bad.last p.last in
      not_bad bad b there.before there.count same.first same.counts there.spelled there.few (one_capacity p.walk.walked.header bad.walk.walked.header)

-- The law

one_damage : (disk : List ℕ) (capacity at capacity' at' : ℕ) → IsUnreadableAt capacity at disk → IsUnreadableAt capacity' at' disk → (capacity ≡ capacity') × (at ≡ at')
one_damage disk capacity at capacity' at' (inl b) (inl c) = (one_capacity b.walked.header c.walked.header, broken_broken b c)
one_damage disk capacity at capacity' at' (inl b) (inr c) = absurd (broken_through b c.walk)
one_damage disk capacity at capacity' at' (inr b) (inl c) = absurd (broken_through c b.walk)
one_damage disk capacity at capacity' at' (inr b) (inr c) = (one_capacity b.walk.walked.header c.walk.walked.header, bad_bad b c)

pub unreadable_led : {capacity at limit gate : ℕ} {base : Option Base} {batches : List (List Record)} {disk rest : List ℕ} → IsUnreadableAt capacity at disk → LeadsTo limit gate base batches disk rest → ⊥
unreadable_led (inl b) p = broken_through b p.walk
unreadable_led (inr b) p = bad_led b p

unreadable_headed : (disk : List ℕ) (capacity at : ℕ) → IsUnreadableAt capacity at disk → HasNoHeader disk → ⊥
unreadable_headed disk capacity at (inl b) none = headed b.walked.header none
unreadable_headed disk capacity at (inr b) none = headed b.walk.walked.header none

pub one_start : HasOneStart
one_start = record {
  one = one_damage;
  header = unreadable_headed;
  unread = λ disk capacity at limit gate base batches rest damage p. unreadable_led damage p;
  base = λ disk capacity gate base batches rest capacity' gate' base' batches' rest' p q. let same = same_start p q in (same.capacities, same.bases);
}

-- A disk that holds a list is walked through, where the list is within the capacity, and its last base is not bad.

-- each batch adds a record
batches_few : (blocks : List Block) (held all : List Record) → AddBlocks blocks held all → batch_count (map mark_of blocks) + length held ≤ length all
batches_few [] held all is = omega (arith, ap length is)
batches_few (block ∷ later) held all (next, adds, rest) =
    let more = batches_few later next all rest in
    let one = grows_by block.is_base block.body held next adds in
    omega (arith, more, one)
  where
    grows_by : (is_base : Bool) (body : List ℕ) (held next : List Record) → AddsBody is_base body held next → cond is_base 0 1 + length held ≤ length next
    grows_by false body held next (batch, valid, spelled, is) = omega (arith, ap length is, length-append (reverse batch) held, length-reverse batch, valid.least)
    grows_by true body held next (b, spells, of_it, is) = omega (arith, ap length is)

pub held_walk : {capacity gate : ℕ} {records : List Record} {disk : List ℕ} (h : HoldsTo capacity gate records disk) → length records ≤ capacity → IsWalkedThrough capacity (map mark_of h.blocks) disk
held_walk {capacity} {gate} {records} {disk} h few =
    let marked = passes_marked h.passes in
    record {
      walked = record { header = has_header h.passes (omega arith); stand = marked.0; in_turn = h.in_turn; few = omega (arith, batches_few h.blocks [] records h.adds, few) };
      rest = h.rest;
      closed = ap (λ (k : ℕ). drop k disk) marked.1 ∙ from_gate h.passes;
    }

-- the block that has a mark among those of others
record MarkOf (blocks : List Block) (before later : List Mark) (count : ℕ) : Type 0 where
  first : List Block
  body : List ℕ
  more : List Block
  same : blocks ≡ first ++ record { is_base = true; body = body } ∷ more
  marks : map mark_of first ≡ before
  size : length body ≡ count

mark_at : (blocks : List Block) (before later : List Mark) (count : ℕ) → map mark_of blocks ≡ before ++ base_mark count ∷ later → MarkOf blocks before later count
mark_at [] [] later count is = absurd (omega (arith, ap length is))
mark_at [] (m ∷ before) later count is = absurd (omega (arith, ap length is))
mark_at (b ∷ blocks) [] later count is =
    let same : mark_of b ≡ base_mark count = ap (λ (l : List Mark). get_or l 0 (mark_of b)) is in
    record {
      first = [];
      body = b.body;
      more = blocks;
      same = λ i. record { is_base = (same i).is_base; body = b.body } ∷ blocks;
      marks = refl;
      size = ap (λ (m : Mark). m.count) same;
    }
mark_at (b ∷ blocks) (m ∷ before) later count is =
    let rest = mark_at blocks before later count (ap (drop 1) is) in
    record {
      first = b ∷ rest.first;
      body = rest.body;
      more = rest.more;
      same = ap (λ (l : List Block). b ∷ l) rest.same;
      marks = ap (λ (k : Mark). k ∷ map mark_of rest.first) (ap (λ (l : List Mark). get_or l 0 m) is) ∙ ap (λ (l : List Mark). m ∷ l) rest.marks;
      size = rest.size;
    }

pub split_at : (first later : List Block) (held all : List Record) → AddBlocks (first ++ later) held all → (middle : List Record) × AddBlocks first held middle × AddBlocks later middle all
split_at [] later held all add = (held, refl, add)
split_at (block ∷ first) later held all (next, adds, rest) =
    let split = split_at first later next all rest in
    (split.0, (next, adds, split.1), split.2)

grows_one : (is_base : Bool) (body : List ℕ) (held next : List Record) → AddsBody is_base body held next → (more : List Record) × (next ≡ more ++ held)
grows_one false body held next (batch, valid, spelled, is) = (reverse batch, is)
grows_one true body held next (b, spells, of_it, is) = ([], is)

-- blocks add records, and take none away
pub grows : (blocks : List Block) (held all : List Record) → AddBlocks blocks held all → (more : List Record) × (all ≡ more ++ held)
grows [] held all add = ([], add)
grows (block ∷ later) held all (next, adds, rest) =
    let first = grows_one block.is_base block.body held next adds in
    let others = grows later next all rest in
    (others.0 ++ first.0, others.1 ∙ ap (λ (l : List Record). others.0 ++ l) first.1 ∙ sym (append_assoc others.0 first.0 held))

bad_held : {capacity at limit gate : ℕ} {records : List Record} {disk : List ℕ} → HasBadBaseAt capacity at disk → (h : HoldsTo limit gate records disk) → length records ≤ limit → ⊥
bad_held {capacity} {at} {limit} {gate} {records} {disk} bad h few = by split.2 where
  walk : IsWalkedThrough limit (map mark_of h.blocks) disk
  walk = held_walk h few

  there : MarkOf h.blocks bad.before bad.later bad.count
  there = mark_at h.blocks bad.before bad.later bad.count (closed_alike 16 (map mark_of h.blocks) (bad.before ++ base_mark bad.count ∷ bad.later) disk walk.rest bad.walk.rest walk.walked.stand walk.closed bad.walk.walked.stand bad.walk.closed)

  block : Block
  block = record { is_base = true; body = there.body }

  split : (middle : List Record) × AddBlocks there.first [] middle × AddBlocks (block ∷ there.more) middle records
  split = split_at there.first (block ∷ there.more) [] records (subst (λ (l : List Block). AddBlocks l [] records) there.same h.adds)

  by : AddBlocks (block ∷ there.more) split.0 records → ⊥
  by (next, (b, spells, of_it, is), rest) =
      let more = grows there.more next records rest in
      let stands = block_there 16 there.first there.more block h.passes.prefix (0 ∷ h.rest) disk (subst (λ (l : List Block). AreBlocks l h.passes.prefix) there.same h.passes.spelled) (behind_header h.passes) in
      let spelled : SpellsBase (take (length there.body) (drop (next_of 16 (map mark_of there.first) + 5) disk)) b = subst (λ (l : List ℕ). SpellsBase l b) (sym (body_there (next_of 16 (map mark_of there.first)) disk stands.1)) spells in
      let count : b.records ≡ length split.0 = (is_base split.0 b of_it).records_are in
      not_bad bad b (map mark_of there.first) (length there.body) (sym there.marks) (sym there.size) spelled
      (omega (arith, count, few, ap length is, ap length more.1, length-append more.0 next)) (one_capacity walk.walked.header bad.walk.walked.header)

pub held_unreadable : (disk : List ℕ) (capacity : ℕ) (records : List Record) (limit at : ℕ) → Holds disk capacity records → length records ≤ capacity → IsUnreadableAt limit at disk → ⊥
held_unreadable disk capacity records limit at holds few (inl b) = broken_through b (held_walk holds.held few)
held_unreadable disk capacity records limit at holds few (inr b) = bad_held b holds.held few
