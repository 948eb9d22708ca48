-- Marks: those of a disk are one list, and blocks have them.
use Rattle.std.proofs.Common.{◌≡◌, ◌≢◌, ◌⊎◌, inl, inr, ⊎_elim, ℕ, ◌+◌, ◌^◌, ◌<◌, ◌≤◌, Bool, true, false, not, cond, List, [], ◌∷◌, ◌++◌, length, map, get_or, take, drop, refl, sym, ◌∙◌, ap, subst, arith, append_assoc, length-append}
use Rattle.std.specs.Prelude.{Option, Some, None, MatchOption}
use Rattle.std.specs.Int.{w32, to_be_bytes, from_be_bytes}
use Rattle.std.proofs.lemmas.List.{append-nil, take_at, drop_at, drop_more, drop-drop, length-drop, length-take-le, take-append-drop}
use Rattle.wire_core.specs.Fields.{number}
use Rattle.wire_core.proofs.Cells.{IsBytes, cell, wide32}
use Rattle.journal_core.specs.declared.mark.Mark.{Mark}
use Rattle.journal_core.specs.Layout.{AreBlocks, AreInTurn, Block, IsLength, OpensBlock, OpensMark, mark_of, marked}
use Rattle.journal_core.specs.Walk.{AreMarks, batch_count, is_behind, next_of}

-- two lists that begin with parts of one length
pub prefix_of : (a b c d : List ℕ) → a ++ b ≡ c ++ d → length a ≡ length c → (a ≡ c) × (b ≡ d)
prefix_of a b c d is len = (
  sym (take_at a b (length a) refl) ∙ ap (take (length a)) is ∙ take_at c d (length a) (sym len),
  sym (drop_at a b (length a) refl) ∙ ap (drop (length a)) is ∙ drop_at c d (length a) (sym len),
)

-- One mark stands behind a gate.

number-small : (is_base : Bool) (n : ℕ) → IsLength is_base n → cond is_base (2147483648 + n) n < 2 ^ 32
number-small true n form = omega (arith, form.1)
number-small false n form = omega (arith, form.1)

one_number : (x y : Bool) (n m : ℕ) → IsLength x n → IsLength y m → cond x (2147483648 + n) n ≡ cond y (2147483648 + m) m → (x ≡ y) × (n ≡ m)
one_number true true n m hx hy e = (refl, omega (arith, e))
one_number false false n m hx hy e = (refl, e)
one_number true false n m hx hy e = absurd (omega (arith, e, hy.1))
one_number false true n m hx hy e = absurd (omega (arith, e, hx.1))

pub marked-small : (mark : Mark) → IsLength mark.is_base mark.count → marked mark < 2 ^ 32
marked-small mark form = number-small mark.is_base mark.count form

pub one_mark : {mark mark' : Mark} {bytes rest rest' : List ℕ} → OpensMark mark bytes rest → OpensMark mark' bytes rest' → (mark ≡ mark') × (rest ≡ rest')
one_mark {mark} {mark'} {bytes} {rest} {rest'} p q =
    let m = marked mark in
    let n = marked mark' in
    let behind : to_be_bytes w32 m ++ rest ≡ to_be_bytes w32 n ++ rest' = ap (drop 1) (sym p.whole ∙ q.whole) in
    let parts = prefix_of (to_be_bytes w32 m) rest (to_be_bytes w32 n) rest' behind refl in
    let same : m ≡ n = sym (wide32.read m (marked-small mark p.form)) ∙ ap (λ bytes. from_be_bytes w32 bytes) parts.0 ∙ wide32.read n (marked-small mark' q.form) in
    let kind = one_number mark.is_base mark'.is_base mark.count mark'.count p.form q.form same in
    (λ i. record { is_base = kind.0 i; count = kind.1 i }, parts.1)

-- a mark that was read by its number
pub read_by : (found : Option Mark) (bytes : List ℕ) (n : ℕ) → IsBytes bytes → 5 ≤ length bytes → get_or bytes 0 0 ≢ 0 → n ≡ number w32 1 bytes
    → MatchOption found ((mark : Mark) → IsLength mark.is_base mark.count → marked mark ≢ n) (λ mark. IsLength mark.is_base mark.count × (marked mark ≡ n))
    → MatchOption found ((mark : Mark) (rest : List ℕ) → ¬ OpensMark mark bytes rest) (λ mark. OpensMark mark bytes (drop 5 bytes))
read_by None bytes n range long is_open is none = λ mark rest opens.
    none mark opens.form (sym (is ∙ ap (number w32 1) opens.whole ∙ wide32.read (marked mark) (marked-small mark opens.form)))
read_by (Some mark) bytes n range long is_open is found = record {
  gate = get_or bytes 0 0;
  not_closed = is_open;
  form = found.0;
  whole = drop_more bytes 0 0 (omega (arith, long)) ∙ ap (λ (l : List ℕ). get_or bytes 0 0 ∷ l) (cell wide32 1 bytes (drop 5 bytes) (marked mark) range (sym is ∙ sym found.1) (omega (arith, long)) refl);
}

-- a block has its mark
pub has_mark : {block : Block} {bytes rest : List ℕ} → OpensBlock block bytes rest → OpensMark (mark_of block) bytes (block.body ++ rest)
has_mark {block} {bytes} {rest} p = record { gate = p.gate; not_closed = p.not_closed; form = p.form; whole = p.whole }

pub one_block : {a b : Block} {bytes rest rest' : List ℕ} → OpensBlock a bytes rest → OpensBlock b bytes rest' → (a ≡ b) × (rest ≡ rest')
one_block {a} {b} {bytes} {rest} {rest'} p q =
    let same = one_mark (has_mark p) (has_mark q) in
    let parts = prefix_of a.body rest b.body rest' same.1 (ap (λ (m : Mark). m.count) same.0) in
    (λ i. record { is_base = (same.0 i).is_base; body = parts.0 i }, parts.1)

-- nothing but a closed gate stands at a closed gate
pub no_mark : {mark : Mark} {bytes rest rest' : List ℕ} → OpensMark mark bytes rest → bytes ≡ 0 ∷ rest' → ⊥
no_mark p closed = p.not_closed (ap (λ (l : List ℕ). get_or l 0 0) (sym p.whole ∙ closed))

pub no_mark_in_none : {mark : Mark} {bytes rest : List ℕ} → OpensMark mark bytes rest → bytes ≡ [] → ⊥
no_mark_in_none p none = omega (arith, ap length (sym p.whole ∙ none))

-- Marks behind marks

pub next_of-later : (at : ℕ) (marks : List Mark) → at ≤ next_of at marks
next_of-later at [] = omega arith
next_of-later at (m ∷ later) = let more = next_of-later (at + 5 + m.count) later in omega (arith, more)

pub next_of-append : (at : ℕ) (a b : List Mark) → next_of at (a ++ b) ≡ next_of (next_of at a) b
next_of-append at [] b = refl
next_of-append at (m ∷ a) b = next_of-append (at + 5 + m.count) a b

pub marks-append : (at : ℕ) (a b : List Mark) (disk : List ℕ) → AreMarks at a disk → AreMarks (next_of at a) b disk → AreMarks at (a ++ b) disk
marks-append at [] b disk p q = q
marks-append at (m ∷ a) b disk p q = (p.0, marks-append (at + 5 + m.count) a b disk p.1 q)

pub marks-split : (at : ℕ) (a b : List Mark) (disk : List ℕ) → AreMarks at (a ++ b) disk → AreMarks at a disk × AreMarks (next_of at a) b disk
marks-split at [] b disk p = (tt, p)
marks-split at (m ∷ a) b disk p = let more = marks-split (at + 5 + m.count) a b disk p.1 in ((p.0, more.0), more.1)

pub count-append : (a b : List Mark) → batch_count (a ++ b) ≡ batch_count a + batch_count b
count-append [] b = omega arith
count-append (m ∷ a) b = omega (arith, count-append a b)

pub is_behind-more : (before : Bool) (a : List Mark) (m : Mark) → is_behind before (a ++ m ∷ []) ≡ not m.is_base
is_behind-more before [] m = refl
is_behind-more before (k ∷ a) m = is_behind-more (not k.is_base) a m

-- behind some marks it does not matter what stood before them
pub is_behind-same : (b c : Bool) (m : Mark) (later : List Mark) → is_behind b (m ∷ later) ≡ is_behind c (m ∷ later)
is_behind-same b c m later = refl

pub turn_more : (before : Bool) (a : List Mark) (m : Mark) → AreInTurn before a → cond m.is_base (is_behind before a) true ≡ true → AreInTurn before (a ++ m ∷ [])
turn_more before [] m turn last = (last, tt)
turn_more before (k ∷ a) m turn last = (turn.0, turn_more (not k.is_base) a m turn.1 last)

pub turn_there : (before : Bool) (a : List Mark) (m : Mark) (later : List Mark) → AreInTurn before (a ++ m ∷ later) → cond m.is_base (is_behind before a) true ≡ true
turn_there before [] m later turn = turn.0
turn_there before (k ∷ a) m later turn = turn_there (not k.is_base) a m later turn.1

-- One disk has one list of marks.

pub record MarksGoOn (seen longer : List Mark) : Type 0 where
  pub later : List Mark
  pub same : longer ≡ seen ++ later

pub marks_first : (at : ℕ) (a b : List Mark) (disk : List ℕ) → AreMarks at a disk → AreMarks at b disk → MarksGoOn a b ⊎ MarksGoOn b a
marks_first at [] b disk p q = inl (record { later = b; same = refl })
marks_first at (m ∷ a) [] disk p q = inr (record { later = m ∷ a; same = refl })
marks_first at (m ∷ a) (n ∷ b) disk p q =
    let same = (one_mark p.0.1 q.0.1).0 in
    by same (marks_first (at + 5 + m.count) a b disk p.1 (subst (λ (k : Mark). AreMarks (at + 5 + k.count) b disk) (sym same) q.1))
  where
    longer : {seen longer : List Mark} {x y : Mark} → x ≡ y → MarksGoOn seen longer → MarksGoOn (x ∷ seen) (y ∷ longer)
    longer {seen} {longer} {x} {y} same on = record { later = on.later; same = ap (λ (z : Mark). z ∷ longer) (sym same) ∙ ap (λ (zs : List Mark). x ∷ zs) on.same }

    by : m ≡ n → MarksGoOn a b ⊎ MarksGoOn b a → MarksGoOn (m ∷ a) (n ∷ b) ⊎ MarksGoOn (n ∷ b) (m ∷ a)
    by same (inl on) = inl (longer same on)
    by same (inr on) = inr (longer (sym same) on)

-- where the longer list goes on behind the other, a mark stands
pub record Further (at : ℕ) (seen longer : List Mark) (disk : List ℕ) : Type 0 where
  pub mark : Mark
  pub later : List Mark
  pub same : longer ≡ seen ++ mark ∷ later
  pub rest : List ℕ
  pub there : OpensMark mark (drop (next_of at seen) disk) rest

pub beyond : (at : ℕ) (seen longer : List Mark) (disk : List ℕ) → AreMarks at longer disk → MarksGoOn seen longer → (longer ≡ seen) ⊎ Further at seen longer disk
beyond at seen longer disk p on = by on.later on.same where
  by : (later : List Mark) → longer ≡ seen ++ later → (longer ≡ seen) ⊎ Further at seen longer disk
  by [] is = inl (is ∙ append-nil seen)
  by (m ∷ later) is =
      let there = (marks-split at seen (m ∷ later) disk (subst (λ (l : List Mark). AreMarks at l disk) is p)).1 in
      inr (record { mark = m; later = later; same = is; rest = there.0.0; there = there.0.1 })

-- marks up to a closed gate are all
pub up_to_closed : (at : ℕ) (a b : List Mark) (disk rest : List ℕ) → AreMarks at a disk → drop (next_of at a) disk ≡ 0 ∷ rest → AreMarks at b disk → (later : List Mark) × (a ≡ b ++ later)
up_to_closed at a b disk rest p closed q = by (marks_first at a b disk p q) where
  ended : (b ≡ a) ⊎ Further at a b disk → (later : List Mark) × (a ≡ b ++ later)
  ended (inl is) = ([], sym is ∙ sym (append-nil b))
  ended (inr further) = absurd (no_mark further.there closed)

  by : MarksGoOn a b ⊎ MarksGoOn b a → (later : List Mark) × (a ≡ b ++ later)
  by (inl on) = ended (beyond at a b disk q on)
  by (inr on) = (on.later, on.same)

pub closed_alike : (at : ℕ) (a b : List Mark) (disk rest rest' : List ℕ) → AreMarks at a disk → drop (next_of at a) disk ≡ 0 ∷ rest → AreMarks at b disk → drop (next_of at b) disk ≡ 0 ∷ rest' → a ≡ b
closed_alike at a b disk rest rest' p closed q closed' = by (marks_first at a b disk p q) where
  by : MarksGoOn a b ⊎ MarksGoOn b a → a ≡ b
  by (inl on) = ⊎_elim (λ is. sym is) (λ further. absurd (no_mark further.there closed)) (beyond at a b disk q on)
  by (inr on) = ⊎_elim (λ is. is) (λ further. absurd (no_mark further.there closed')) (beyond at b a disk p on)

-- Blocks have marks, and marks are those of blocks.

pub record Marked (at : ℕ) (blocks : List Block) (prefix disk : List ℕ) : Type 0 where
  pub stand : AreMarks at (map mark_of blocks) disk
  pub place : next_of at (map mark_of blocks) ≡ at + length prefix

pub blocks_marked : (at : ℕ) (blocks : List Block) (prefix rest disk : List ℕ) → AreBlocks blocks prefix → drop at disk ≡ prefix ++ rest → Marked at blocks prefix disk
blocks_marked at [] prefix rest disk none is = record { stand = tt; place = omega (arith, ap length none) }
blocks_marked at (b ∷ blocks) prefix rest disk (tail, opens, spelled) is =
    let n = length b.body in
    let there : drop at disk ≡ opens.gate ∷ (to_be_bytes w32 (marked (mark_of b)) ++ (b.body ++ (tail ++ rest))) =
    is ∙ ap (λ (l : List ℕ). l ++ rest) opens.whole
    ∙ ap (λ (l : List ℕ). opens.gate ∷ (to_be_bytes w32 (marked (mark_of b)) ++ l)) (append_assoc b.body tail rest) in
    let behind : drop (at + 5 + n) disk ≡ tail ++ rest =
    sym (drop-drop n (at + 5) disk) ∙ ap (drop n) (sym (drop-drop 5 at disk) ∙ ap (drop 5) there) ∙ drop_at b.body (tail ++ rest) n refl in
    let more = blocks_marked (at + 5 + n) blocks tail rest disk spelled behind in
    record {
      stand = ((b.body ++ (tail ++ rest), record { gate = opens.gate; not_closed = opens.not_closed; form = opens.form; whole = there }), more.stand);
      place = omega (arith, more.place, ap length opens.whole, length-append b.body tail);
    }

-- the blocks that have these marks
pub record Spelled (at : ℕ) (marks : List Mark) (disk : List ℕ) : Type 0 where
  pub blocks : List Block
  pub have : map mark_of blocks ≡ marks
  pub prefix : List ℕ
  pub spelled : AreBlocks blocks prefix
  pub whole : drop at disk ≡ prefix ++ drop (next_of at marks) disk
  pub place : at + length prefix ≡ next_of at marks

-- of a mark, the body that stands behind it
pub record HasBody (at : ℕ) (mark : Mark) (disk rest : List ℕ) : Type 0 where
  pub len : length (take mark.count rest) ≡ mark.count
  pub body : take mark.count rest ≡ take mark.count (drop (at + 5) disk)
  pub whole : rest ≡ take mark.count rest ++ drop (at + 5 + mark.count) disk

pub has_body : (at : ℕ) (mark : Mark) (disk rest : List ℕ) → OpensMark mark (drop at disk) rest → at + 5 + mark.count ≤ length disk → HasBody at mark disk rest
has_body at mark disk rest opens within =
    let n = mark.count in
    let is : drop (at + 5) disk ≡ rest = sym (drop-drop 5 at disk) ∙ ap (drop 5) opens.whole in
    record {
      len = length-take-le n rest (omega (arith, ap length is, length-drop (at + 5) disk, within));
      body = ap (take n) (sym is);
      whole = sym (take-append-drop n rest) ∙ ap (λ (l : List ℕ). take n rest ++ l) (ap (drop n) (sym is) ∙ drop-drop n (at + 5) disk);
    }

pub spelled_of : (at : ℕ) (marks : List Mark) (disk : List ℕ) → AreMarks at marks disk → next_of at marks ≤ length disk → Spelled at marks disk
spelled_of at [] disk stand within = record { blocks = []; have = refl; prefix = []; spelled = refl; whole = refl; place = omega arith }
spelled_of at (m ∷ later) disk ((rest, opens), stand) within =
    let next = at + 5 + m.count in
    let more = spelled_of next later disk stand within in
    let here = has_body at m disk rest opens (omega (arith, within, next_of-later next later)) in
    let body = take m.count rest in
    let block : Block = record { is_base = m.is_base; body = body } in
    let behind : rest ≡ body ++ (more.prefix ++ drop (next_of next later) disk) = here.whole ∙ ap (λ (l : List ℕ). body ++ l) more.whole in
    let same : mark_of block ≡ m = λ i. record { is_base = m.is_base; count = here.len i } in
    let first : List ℕ = opens.gate ∷ (to_be_bytes w32 (marked (mark_of block)) ++ body) in
    record {
      blocks = block ∷ more.blocks;
      have = λ i. same i ∷ more.have i;
      prefix = first ++ more.prefix;
      spelled = (
        more.prefix,
        record { gate = opens.gate; not_closed = opens.not_closed; form = subst (λ (k : ℕ). IsLength m.is_base k) (sym here.len) opens.form; whole = refl },
        more.spelled,
      );
      whole = opens.whole
          ∙ ap (λ (k : Mark). opens.gate ∷ (to_be_bytes w32 (marked k) ++ rest)) (sym same)
          ∙ ap (λ (l : List ℕ). opens.gate ∷ (to_be_bytes w32 (marked (mark_of block)) ++ l)) behind
          ∙ ap (λ (l : List ℕ). opens.gate ∷ (to_be_bytes w32 (marked (mark_of block)) ++ l)) (sym (append_assoc body more.prefix (drop (next_of next later) disk)));
      place = omega (arith, more.place, here.len, length-append body more.prefix);
    }
