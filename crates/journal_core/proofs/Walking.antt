-- A walk from gate to gate, and what it leaves to a scan.
use Rattle.std.proofs.Common.{◌≡◌, ◌≢◌, ◌⊎◌, inl, inr, ⊎_elim, ℕ, ◌+◌, ◌-◌, ◌<◌, ◌≤◌, Bool, true, false, cond, List, [], ◌∷◌, ◌++◌, length, map, get_or, take, drop, refl, sym, ◌∙◌, ap, subst, true≢false, add-zero, arith, append_assoc, length-append, take-append-drop}
use Rattle.std.specs.Prelude.{Option, Some, None, IfSome, Result, Ok, Err, IfOk, nat_lt}
use Rattle.std.specs.Int.{w32, to_be_bytes}
use Rattle.std.proofs.lemmas.Bool.Decides.{nat_tests}
use Rattle.std.proofs.lemmas.List.{append-nil, drop-drop, drop_more, drop-append-le, take-append-le, length-drop, nil_from_length, take_rest}
use Rattle.std.proofs.lemmas.List.Elements.{All-nil, All-cons, All-append}
use Rattle.wire_in.specs.Bases.{SpellsBase}
use Rattle.wire_in.specs.declared.base.Base.{Base}
use Rattle.journal_core.specs.declared.mark.Mark.{Mark}
use Rattle.journal_core.specs.declared.walk.BaseAt.{BaseAt}
use Rattle.journal_core.specs.declared.walk.Walk.{Walk}
use Rattle.journal_core.specs.Layout.{Block, IsLength, OpensMark, Passes, content_of, header_of, mark_of, marked}
use Rattle.journal_core.specs.Scan.{ScanState, HasRead, LeadsTo, records_before}
use Rattle.journal_core.specs.Walk.{AreMarks, AreOfBatches, HasBadBaseAt, HasBase, HasNoMark, IsBrokenAt, IsWalked, IsWalkedThrough, batch_count, is_behind, may_follow, next_of}
use Rattle.journal_core.specs.Walking.{HasWalked, IsClosedAt, IsLastBase, IsThere, IsWalking, IsWithin, passed, takes}
use Rattle.journal_core.proofs.Images.{map-more, followed, opened}
use Rattle.journal_core.proofs.Marks.{HasBody, Spelled, count-append, has_body, is_behind-more, marks-append, marks-split, next_of-append, spelled_of, turn_more}

-- What was read at the gate

-- the disk from an offset on begins with what was read from there on
pub at_place : (walk : Walk) (disk : List ℕ) (h : HasWalked walk disk) (at : ℕ) → walk.start ≤ at → at - walk.start ≤ length walk.ahead → drop at disk ≡ drop (at - walk.start) walk.ahead ++ h.rest
at_place walk disk h at started within =
    let k = at - walk.start in
    ap (λ (n : ℕ). drop n disk) (omega (arith, started)) ∙ sym (drop-drop k walk.start disk) ∙ ap (drop k) h.read ∙ drop-append-le k walk.ahead h.rest within

-- At the gate.
module _ (walk : Walk) (w : IsWalking walk) (there : IsThere walk) where
  reaches : walk.gate < walk.start + length walk.ahead
  reaches = ⊎_elim (λ mark. omega (arith, mark)) (λ end. omega (arith, end, w.inside)) there

  pub some_there : 0 < length (drop (walk.gate - walk.start) walk.ahead)
  some_there = omega (arith, reaches, w.started, length-drop (walk.gate - walk.start) walk.ahead)

  pub from_the_gate : (disk : List ℕ) (h : HasWalked walk disk) → drop walk.gate disk ≡ drop (walk.gate - walk.start) walk.ahead ++ h.rest
  from_the_gate disk h = at_place walk disk h walk.gate w.started (omega (arith, reaches, w.started))

-- the end of a slice
pub slice_is : (items ahead : List ℕ) (k : ℕ) → items ≡ ahead → take (length items - k) (drop k items) ≡ drop k ahead
slice_is items ahead k is = take_rest items k ∙ ap (drop k) is

-- and with the whole of its mark, or there is no more
pub enough : (walk : Walk) (disk : List ℕ) (h : HasWalked walk disk) → walk.start ≤ walk.gate → IsThere walk → (h.rest ≡ []) ⊎ (5 ≤ length (drop (walk.gate - walk.start) walk.ahead))
enough walk disk h started (inl there) = inr (omega (arith, there, started, length-drop (walk.gate - walk.start) walk.ahead))
enough walk disk h started (inr end) =
    inl (nil_from_length h.rest (omega (arith, end, h.size, ap length h.read, length-drop walk.start disk, length-append walk.ahead h.rest)))

pub closed_there : (bytes rest : List ℕ) (disk : List ℕ) (gate : ℕ) → drop gate disk ≡ bytes ++ rest → 0 < length bytes → get_or bytes 0 0 ≡ 0 → IsClosedAt gate disk
closed_there bytes rest disk gate is some zero =
    (drop 1 bytes ++ rest, is ∙ ap (λ (l : List ℕ). l ++ rest) (drop_more bytes 0 0 some ∙ ap (λ (b : ℕ). b ∷ drop 1 bytes) zero))

-- a mark is read in its first bytes
pub mark_on : (mark : Mark) (bytes more rest : List ℕ) → OpensMark mark bytes rest → OpensMark mark (bytes ++ more) (rest ++ more)
mark_on mark bytes more rest opens = record { gate = opens.gate; not_closed = opens.not_closed; form = opens.form; whole = ap (λ (l : List ℕ). l ++ more) opens.whole }

-- so one that was read stands on the disk
pub mark_there : (walk : Walk) (disk : List ℕ) (h : HasWalked walk disk) (mark : Mark) (bytes : List ℕ) → bytes ≡ drop (walk.gate - walk.start) walk.ahead → drop walk.gate disk ≡ drop (walk.gate - walk.start) walk.ahead ++ h.rest
    → OpensMark mark bytes (drop 5 bytes) → OpensMark mark (drop walk.gate disk) (drop 5 bytes ++ h.rest)
mark_there walk disk h mark bytes is there opens =
    subst (λ (l : List ℕ). OpensMark mark l (drop 5 bytes ++ h.rest)) (ap (λ (l : List ℕ). l ++ h.rest) is ∙ sym there) (mark_on mark bytes h.rest (drop 5 bytes) opens)

mark_within : (mark : Mark) (bytes more rest : List ℕ) → (more ≡ []) ⊎ (5 ≤ length bytes) → OpensMark mark (bytes ++ more) rest → OpensMark mark bytes (drop 5 bytes)
mark_within mark bytes more rest long opens = record {
  gate = opens.gate;
  not_closed = opens.not_closed;
  form = opens.form;
  whole = sym (take-append-drop 5 bytes) ∙ ap (λ (l : List ℕ). l ++ drop 5 bytes) (first long ∙ ap (take 5) opens.whole);
}
  where
    first : (more ≡ []) ⊎ (5 ≤ length bytes) → take 5 bytes ≡ take 5 (bytes ++ more)
    first (inl none) = ap (take 5) (sym (append-nil bytes) ∙ ap (λ (l : List ℕ). bytes ++ l) (sym none))
    first (inr long) = sym (take-append-le 5 bytes more long)

pub no_mark_there : (bytes more : List ℕ) → 0 < length bytes → get_or bytes 0 0 ≢ 0 → (more ≡ []) ⊎ (5 ≤ length bytes) → ((mark : Mark) (rest : List ℕ) → ¬ OpensMark mark bytes rest) → HasNoMark (bytes ++ more)
no_mark_there bytes more some is_open long none = record {
  gate = get_or bytes 0 0;
  rest = drop 1 bytes ++ more;
  whole = ap (λ (l : List ℕ). l ++ more) (drop_more bytes 0 0 some);
  not_closed = is_open;
  no_mark = λ mark rest opens. none mark (drop 5 bytes) (mark_within mark bytes more rest long opens);
}

-- What may follow

module _ (walk : Walk) (disk : List ℕ) (h : HasWalked walk disk) where
  -- what the walk has counted is what stands there
  pub follows : (mark : Mark) → may_follow walk.capacity h.marks mark ≡ takes walk mark
  follows mark = λ i. cond mark.is_base (h.behind i) (nat_lt (h.batches i) walk.capacity)

  pub broken_here : (bytes : List ℕ) → drop walk.gate disk ≡ bytes → HasNoMark bytes → IsBrokenAt walk.capacity walk.gate disk
  broken_here bytes is none = record { marks = h.marks; walked = h.walked; place = h.place; why = inr (inl (subst HasNoMark (sym is) none)) }

  pub refused_here : (mark : Mark) (rest : List ℕ) → OpensMark mark (drop walk.gate disk) rest → takes walk mark ≡ false → IsBrokenAt walk.capacity walk.gate disk
  refused_here mark rest there refused = record { marks = h.marks; walked = h.walked; place = h.place; why = inr (inr (mark, rest, there, follows mark ∙ refused)) }

turn_by : (is_base behind fewer : Bool) → cond is_base behind fewer ≡ true → cond is_base behind true ≡ true
turn_by true behind fewer may = may
turn_by false behind fewer may = refl

few_by : (is_base behind : Bool) (count capacity : ℕ) → count ≤ capacity → cond is_base behind (nat_lt count capacity) ≡ true → count + (cond is_base 0 1 + 0) ≤ capacity
few_by true behind count capacity le may = omega (arith, le)
few_by false behind count capacity le may = grind (arith, nat_tests)

count_by : (is_base : Bool) (count : ℕ) → count + (cond is_base 0 1 + 0) ≡ cond is_base count (count + 1)
count_by true count = omega arith
count_by false count = omega arith

module _ (walk : Walk) (disk : List ℕ) (h : HasWalked walk disk) (mark : Mark) (rest : List ℕ) (there : OpensMark mark (drop walk.gate disk) rest) (may : takes walk mark ≡ true) where
  may_too : may_follow walk.capacity h.marks mark ≡ true
  may_too = follows walk disk h mark ∙ may

  walked_on : IsWalked walk.capacity (h.marks ++ mark ∷ []) disk
  walked_on = record {
    header = h.walked.header;
    stand = marks-append 16 h.marks (mark ∷ []) disk h.walked.stand ((rest, subst (λ (k : ℕ). OpensMark mark (drop k disk) rest) (sym h.place) there), tt);
    in_turn = turn_more false h.marks mark h.walked.in_turn (turn_by mark.is_base (is_behind false h.marks) (nat_lt (batch_count h.marks) walk.capacity) may_too);
    few = omega (arith, few_by mark.is_base (is_behind false h.marks) (batch_count h.marks) walk.capacity h.walked.few may_too, count-append h.marks (mark ∷ []));
  }

  place_on : next_of 16 (h.marks ++ mark ∷ []) ≡ walk.gate + 5 + mark.count
  place_on = next_of-append 16 h.marks (mark ∷ []) ∙ ap (λ (k : ℕ). k + 5 + mark.count) h.place

  -- the block runs to the end of the disk, or past it
  pub too_far : walk.size ≤ walk.gate + 5 + mark.count → IsBrokenAt walk.capacity (walk.gate + 5 + mark.count) disk
  too_far past = record {
    marks = h.marks ++ mark ∷ [];
    walked = walked_on;
    place = place_on;
    why = inl (nil_from_length (drop (walk.gate + 5 + mark.count) disk) (omega (arith, past, h.size, length-drop (walk.gate + 5 + mark.count) disk)));
  }

  last_by : (is_base : Bool) → mark.is_base ≡ is_base → IsLastBase (cond is_base (Some (record { gate = walk.gate; count = mark.count })) walk.base) (h.marks ++ mark ∷ [])
  last_by true is = (h.marks, [], ap (λ (m : Mark). h.marks ++ m ∷ []) same, All-nil (λ (m : Mark). m.is_base ≡ false), h.place) where
    same : mark ≡ record { is_base = true; count = mark.count }
    same = λ i. record { is_base = is i; count = mark.count }
  last_by false is = by walk.base h.base where
    one : AreOfBatches (mark ∷ [])
    one = All-cons (λ (m : Mark). m.is_base ≡ false) mark [] is (All-nil (λ (m : Mark). m.is_base ≡ false))

    by : (base : Option BaseAt) → IsLastBase base h.marks → IsLastBase base (h.marks ++ mark ∷ [])
    by None all = All-append (λ (m : Mark). m.is_base ≡ false) h.marks (mark ∷ []) all one
    by (Some base) (before, later, same, last, place) = (
      before,
      later ++ mark ∷ [],
      ap (λ (l : List Mark). l ++ mark ∷ []) same ∙ append_assoc before (record { is_base = true; count = base.count } ∷ later) (mark ∷ []),
      All-append (λ (m : Mark). m.is_base ≡ false) later (mark ∷ []) last one,
      place,
    )

  pub went_on : HasWalked (passed walk mark) disk
  went_on = record {
    size = h.size;
    begins = h.begins;
    marks = h.marks ++ mark ∷ [];
    walked = walked_on;
    place = place_on;
    batches = count-append h.marks (mark ∷ []) ∙ ap (λ (n : ℕ). n + (cond mark.is_base 0 1 + 0)) h.batches ∙ count_by mark.is_base walk.batches;
    behind = is_behind-more false h.marks mark;
    base = last_by mark.is_base refl;
    rest = h.rest;
    read = h.read;
  }

-- and over every host
pub keeps_walking : (walk : Walk) (mark : Mark) → IsWalking walk → IsLength mark.is_base mark.count → walk.gate + 5 + mark.count < walk.size → IsWalking (passed walk mark)
keeps_walking walk mark w form inside = record {
  range = w.range;
  small = w.small;
  inside = inside;
  first = omega (arith, w.first);
  started = omega (arith, w.started);
  read = w.read;
  base = by mark.is_base form;
}
  where
    next : ℕ
    next = walk.gate + 5 + mark.count

    wider : (base : Option BaseAt) → IfSome base (IsWithin walk.gate) → IfSome base (IsWithin next)
    wider None within = within
    wider (Some base) within = record { least = within.least; most = within.most; before = omega (arith, within.before) }

    by : (is_base : Bool) → IsLength is_base mark.count → IfSome (cond is_base (Some (record { gate = walk.gate; count = mark.count })) walk.base) (IsWithin next)
    by true form = record { least = form.0; most = form.1; before = omega arith }
    by false form = wider walk.base w.base

-- What was read ahead may be other bytes.
pub reads_ahead : (walk : Walk) (start : ℕ) (ahead rest : List ℕ) (disk : List ℕ) → HasWalked walk disk → drop start disk ≡ ahead ++ rest → HasWalked (record walk { start = start; ahead = ahead }) disk
reads_ahead walk start ahead rest disk h is = record {
  size = h.size;
  begins = h.begins;
  marks = h.marks;
  walked = h.walked;
  place = h.place;
  batches = h.batches;
  behind = h.behind;
  base = h.base;
  rest = rest;
  read = is;
}

-- What is left to a scan

module _ (walk : Walk) (disk : List ℕ) (h : HasWalked walk disk) (closed : IsClosedAt walk.gate disk) where
  through : IsWalkedThrough walk.capacity h.marks disk
  through = record { walked = h.walked; rest = closed.0; closed = ap (λ (k : ℕ). drop k disk) h.place ∙ closed.1 }

  -- where no base was passed
  pub from_first : (scan : ScanState) (rest : List ℕ) → IsLastBase None h.marks → drop 16 disk ≡ scan.ahead ++ rest → scan.capacity ≡ walk.capacity → scan.base ≡ None → scan.count ≡ 0 → scan.gate ≡ 16 → scan.is_closed ≡ false → scan.size ≡ walk.size
      → HasRead scan [] disk
  from_first scan rest none is limits bases counts gates closes sizes = record {
    size = sizes ∙ h.size;
    rest = rest;
    leads = rw (limits, bases, gates) first;
    count = counts ∙ ap records_before (sym bases) ∙ sym (add-zero (records_before scan.base));
    closed = λ is_closed. absurd (true≢false (sym is_closed ∙ closes));
  }
    where
      first : LeadsTo walk.capacity 16 None [] disk (scan.ahead ++ rest)
      first = record {
        passed = [];
        ends = refl;
        start = 16;
        prefix = [];
        passes = record {
          is_second = h.begins.0;
          range = h.walked.header.range;
          prefix = [];
          spelled = refl;
          offset = refl;
          whole = h.begins.1 ∙ ap (λ (l : List ℕ). header_of h.begins.0 walk.capacity ++ l) is ∙ ap (λ (l : List ℕ). l ++ (scan.ahead ++ rest)) (sym (append-nil (header_of h.begins.0 walk.capacity)));
        };
        spelled = refl;
        offset = refl;
        later = h.marks;
        last = none;
        walk = through;
      }

  -- behind the last base
  module _ (base : BaseAt) (last : IsLastBase (Some base) h.marks) (within : base.gate + 5 + base.count ≤ length disk) where
    abbrev base_mark : Mark
    base_mark = record { is_base = true; count = base.count }

    stand : AreMarks 16 (last.0 ++ base_mark ∷ last.1) disk
    stand = subst (λ (l : List Mark). AreMarks 16 l disk) last.2 h.walked.stand

    parts : AreMarks 16 last.0 disk × AreMarks (next_of 16 last.0) (base_mark ∷ last.1) disk
    parts = marks-split 16 last.0 (base_mark ∷ last.1) disk stand

    first : Spelled 16 last.0 disk
    first = spelled_of 16 last.0 disk parts.0 (omega (arith, within, last.4))

    all_through : IsWalkedThrough walk.capacity (last.0 ++ base_mark ∷ last.1) disk
    all_through = subst (λ (l : List Mark). IsWalkedThrough walk.capacity l disk) last.2 through

    pub has_base : HasBase disk
    has_base = record { capacity = walk.capacity; before = last.0; count = base.count; later = last.1; walk = all_through }

    pub bad_base : ((b : Base) → SpellsBase (take base.count (drop (base.gate + 5) disk)) b → walk.capacity < b.records) → HasBadBaseAt walk.capacity base.gate disk
    bad_base bad = record { before = last.0; count = base.count; later = last.1; walk = all_through; last = last.3; place = last.4; bad = bad }

    -- the blocks before it, and it
    there : OpensMark base_mark (drop base.gate disk) parts.1.0.0
    there = subst (λ (k : ℕ). OpensMark base_mark (drop k disk) parts.1.0.0) last.4 parts.1.0.1

    body : HasBody base.gate base_mark disk parts.1.0.0
    body = has_body base.gate base_mark disk parts.1.0.0 there within

    abbrev block : Block
    block = record { is_base = true; body = take base.count parts.1.0.0 }

    same_mark : mark_of block ≡ base_mark
    same_mark = λ i. record { is_base = true; count = body.len i }

    abbrev next : ℕ
    next = base.gate + 5 + base.count

    before : Passes walk.capacity base.gate first.blocks disk (there.gate ∷ (content_of block ++ drop next disk))
    before = record {
      is_second = h.begins.0;
      range = h.walked.header.range;
      prefix = first.prefix;
      spelled = first.spelled;
      offset = first.place ∙ last.4;
      whole = h.begins.1
          ∙ ap (λ (l : List ℕ). header_of h.begins.0 walk.capacity ++ l)
          (first.whole ∙ ap (λ (k : ℕ). first.prefix ++ drop k disk) last.4
          ∙ ap (λ (l : List ℕ). first.prefix ++ l) (there.whole ∙ ap (λ (m : Mark). there.gate ∷ (to_be_bytes w32 (marked m) ++ parts.1.0.0)) (sym same_mark)
          ∙ ap (λ (l : List ℕ). there.gate ∷ (to_be_bytes w32 (marked (mark_of block)) ++ l)) body.whole))
          ∙ sym (append_assoc (header_of h.begins.0 walk.capacity) first.prefix (there.gate ∷ (content_of block ++ drop next disk)));
    }

    up_to : Passes walk.capacity next (first.blocks ++ block ∷ []) disk (drop next disk)
    up_to = subst (λ (k : ℕ). Passes walk.capacity k (first.blocks ++ block ∷ []) disk (drop next disk)) (omega (arith, body.len))
        (opened block (drop next disk) before there.not_closed (subst (λ (k : ℕ). IsLength true k) (sym body.len) there.form))

    marks_are : h.marks ≡ map mark_of (first.blocks ++ block ∷ []) ++ last.1
    marks_are =
        let have : map mark_of first.blocks ++ mark_of block ∷ [] ≡ last.0 ++ base_mark ∷ [] = λ i. first.have i ++ same_mark i ∷ [] in
        last.2 ∙ sym (append_assoc last.0 (base_mark ∷ []) last.1) ∙ ap (λ (l : List Mark). l ++ last.1) (sym have ∙ sym (map-more first.blocks block))

    pub from_base : (b : Base) → SpellsBase (take base.count (drop (base.gate + 5) disk)) b → b.records ≤ walk.capacity
        → (scan : ScanState) (rest : List ℕ) → drop next disk ≡ scan.ahead ++ rest → scan.capacity ≡ walk.capacity → scan.base ≡ Some b → scan.count ≡ b.records → scan.gate ≡ next → scan.is_closed ≡ false → scan.size ≡ walk.size
        → HasRead scan [] disk
    from_base b spelled few scan rest is limits bases counts gates closes sizes = record {
      size = sizes ∙ h.size;
      rest = rest;
      leads = rw (limits, bases, gates) leads;
      count = counts ∙ ap records_before (sym bases) ∙ sym (add-zero (records_before scan.base));
      closed = λ is_closed. absurd (true≢false (sym is_closed ∙ closes));
    }
      where
        leads : LeadsTo walk.capacity next (Some b) [] disk (scan.ahead ++ rest)
        leads = record {
          passed = first.blocks ++ block ∷ [];
          ends = (first.blocks, take base.count parts.1.0.0, refl, subst (λ (l : List ℕ). SpellsBase l b) (sym body.body) spelled, few);
          start = next;
          prefix = [];
          passes = followed up_to (scan.ahead ++ rest) is;
          spelled = refl;
          offset = add-zero next;
          later = last.1;
          last = last.3;
          walk = subst (λ (l : List Mark). IsWalkedThrough walk.capacity l disk) marks_are through;
        }

-- what a call answers is right whatever its disk is
pub whenever_known : {T E : Type 0} (result : Result T E) (known : Option (List ℕ)) (P : T → List ℕ → Type 0) → ((disk : List ℕ) → known ≡ Some disk → IfOk result (λ x. P x disk))
    → IfOk result (λ x. (disk : List ℕ) → known ≡ Some disk → P x disk)
whenever_known (Ok x) known P right = right
whenever_known (Err e) known P right = tt
