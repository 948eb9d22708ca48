-- What writes behind a gate and of a gate make of an image, whole and cut short.
use Rattle.std.proofs.Common.{◌≡◌, ◌≢◌, ◌⊎◌, inl, inr, ℕ, ◌+◌, ◌<◌, true, false, cond, List, [], ◌∷◌, ◌++◌, length, map, get_or, take, drop, refl, sym, ◌∙◌, ap, subst, arith, append_assoc, length-append, take-append-drop}
use Rattle.std.specs.Int.{w32, to_be_bytes}
use Rattle.std.proofs.lemmas.Bool.{cases_eq}
use Rattle.std.proofs.lemmas.List.{append-nil, take_at, drop_at, drop_more}
use Rattle.host_core.specs.Outside.{written, Torn}
use Rattle.wire_in.specs.declared.record.Record.{Record}
use Rattle.journal_core.specs.declared.mark.Mark.{Mark}
use Rattle.journal_core.specs.Layout.{AddBlocks, AddsBody, AreBlocks, AreInTurn, Block, HoldsTo, IsLength, IsLimit, Passes, content_of, header_of, mark_of, marked}
use Rattle.journal_core.specs.Walk.{is_behind}
use Rattle.journal_core.proofs.Marks.{turn_more}

module _ {capacity gate : ℕ} {blocks : List Block} {image rest : List ℕ} (p : Passes capacity gate blocks image rest) where
  -- the same blocks in another image
  pub moved : (other other_rest : List ℕ) → other ≡ header_of p.is_second capacity ++ p.prefix ++ other_rest → Passes capacity gate blocks other other_rest
  moved other other_rest is = record { is_second = p.is_second; range = p.range; prefix = p.prefix; spelled = p.spelled; offset = p.offset; whole = is }

  -- what follows is spelled in another way
  pub followed : (other : List ℕ) → rest ≡ other → Passes capacity gate blocks image other
  followed other is = moved image other (p.whole ∙ ap (λ (l : List ℕ). header_of p.is_second capacity ++ p.prefix ++ l) is)

  pub long : length (header_of p.is_second capacity ++ p.prefix) ≡ gate
  long = omega (arith, p.offset)

  pub to_gate : take gate image ≡ header_of p.is_second capacity ++ p.prefix
  to_gate = ap (take gate) p.whole ∙ take_at (header_of p.is_second capacity ++ p.prefix) rest gate long

  pub from_gate : drop gate image ≡ rest
  from_gate = ap (drop gate) p.whole ∙ drop_at (header_of p.is_second capacity ++ p.prefix) rest gate long

module _ {capacity gate : ℕ} {blocks : List Block} {image : List ℕ} {mark : ℕ} {rest : List ℕ} (p : Passes capacity gate blocks image (mark ∷ rest)) where
  pub room : gate < length image
  room = omega (arith, p.offset, ap length p.whole, length-append (header_of p.is_second capacity ++ p.prefix) (mark ∷ rest))

  with_mark : image ≡ ((header_of p.is_second capacity ++ p.prefix) ++ mark ∷ []) ++ rest
  with_mark = p.whole ∙ sym (append_assoc (header_of p.is_second capacity ++ p.prefix) (mark ∷ []) rest)

  behind : length ((header_of p.is_second capacity ++ p.prefix) ++ mark ∷ []) ≡ gate + 1
  behind = omega (arith, p.offset, length-append (header_of p.is_second capacity ++ p.prefix) (mark ∷ []))

  past_gate : take (gate + 1) image ≡ (header_of p.is_second capacity ++ p.prefix) ++ mark ∷ []
  past_gate = ap (take (gate + 1)) with_mark ∙ take_at ((header_of p.is_second capacity ++ p.prefix) ++ mark ∷ []) rest (gate + 1) behind

  behind_gate : drop (gate + 1) image ≡ rest
  behind_gate = ap (drop (gate + 1)) with_mark ∙ drop_at ((header_of p.is_second capacity ++ p.prefix) ++ mark ∷ []) rest (gate + 1) behind

  pub torn_behind : (n : ℕ) (other : List ℕ) (torn : Torn (gate + 1) n image other) → Passes capacity gate blocks other (mark ∷ torn.rest)
  torn_behind n other torn = moved p other (mark ∷ torn.rest) (torn.before ∙ ap (λ l. l ++ torn.rest) past_gate ∙ append_assoc (header_of p.is_second capacity ++ p.prefix) (mark ∷ []) torn.rest)

  pub written_behind : (piece : List ℕ) → Passes capacity gate blocks (written (gate + 1) piece image) (mark ∷ (piece ++ drop (gate + 1 + length piece) image))
  written_behind piece = moved p (written (gate + 1) piece image) (mark ∷ (piece ++ drop (gate + 1 + length piece) image))
      (ap (λ l. l ++ piece ++ drop (gate + 1 + length piece) image) past_gate
      ∙ append_assoc ((header_of p.is_second capacity ++ p.prefix) ++ mark ∷ []) piece (drop (gate + 1 + length piece) image)
      ∙ append_assoc (header_of p.is_second capacity ++ p.prefix) (mark ∷ []) (piece ++ drop (gate + 1 + length piece) image))

  pub torn_gate : (other : List ℕ) (torn : Torn gate 1 image other) → Passes capacity gate blocks other (get_or other gate 0 ∷ (rest ++ torn.more))
  torn_gate other torn =
      let same : take gate other ≡ header_of p.is_second capacity ++ p.prefix =
      ap (take gate) (torn.before ∙ ap (λ l. l ++ torn.rest) (to_gate p)) ∙ take_at (header_of p.is_second capacity ++ p.prefix) torn.rest gate (long p) in
      let at_gate : drop gate other ≡ get_or other gate 0 ∷ drop (gate + 1) other = drop_more other gate 0 (omega (arith, room, torn.no_shorter)) in
      moved p other (get_or other gate 0 ∷ (rest ++ torn.more))
      (sym (take-append-drop gate other)
      ∙ ap (λ l. l ++ drop gate other) same
      ∙ ap (λ l. (header_of p.is_second capacity ++ p.prefix) ++ l) (at_gate ∙ ap (λ l. get_or other gate 0 ∷ l) (torn.after ∙ ap (λ l. l ++ torn.more) behind_gate)))

  pub written_gate : (new : ℕ) → Passes capacity gate blocks (written gate (new ∷ []) image) (new ∷ rest)
  written_gate new = moved p (written gate (new ∷ []) image) (new ∷ rest)
      (ap (λ l. l ++ (new ∷ []) ++ drop (gate + 1) image) (to_gate p)
      ∙ append_assoc (header_of p.is_second capacity ++ p.prefix) (new ∷ []) (drop (gate + 1) image)
      ∙ ap (λ l. (header_of p.is_second capacity ++ p.prefix) ++ new ∷ l) behind_gate)

-- one block more
pub one_more : (blocks : List Block) (prefix : List ℕ) (mark : ℕ) (block : Block) → mark ≢ 0 → IsLength block.is_base (length block.body) → AreBlocks blocks prefix
    → AreBlocks (blocks ++ block ∷ []) (prefix ++ mark ∷ content_of block)
one_more [] prefix mark block open_mark form is = (
  [],
  record { gate = mark; not_closed = open_mark; form = form; whole = ap (λ l. l ++ mark ∷ content_of block) is ∙ ap (λ l. mark ∷ l) (sym (append-nil (content_of block))) },
  refl,
)
one_more (first ∷ blocks) prefix mark block open_mark form (rest, opens, spelled) = (
  rest ++ mark ∷ content_of block,
  record {
    gate = opens.gate;
    not_closed = opens.not_closed;
    form = opens.form;
    whole = ap (λ l. l ++ mark ∷ content_of block) opens.whole ∙ append_assoc (opens.gate ∷ content_of first) rest (mark ∷ content_of block);
  },
  one_more blocks rest mark block open_mark form spelled,
)

-- a gate other than 0 before the content of a block
pub opened : {capacity gate : ℕ} {blocks : List Block} {image : List ℕ} {mark : ℕ} (block : Block) (after : List ℕ)
    → Passes capacity gate blocks image (mark ∷ (content_of block ++ after)) → mark ≢ 0 → IsLength block.is_base (length block.body)
    → Passes capacity (gate + (length block.body + 5)) (blocks ++ block ∷ []) image after
opened {capacity} {gate} {blocks} {image} {mark} block after p open_mark form = record {
  is_second = p.is_second;
  range = p.range;
  prefix = p.prefix ++ mark ∷ content_of block;
  spelled = one_more blocks p.prefix mark block open_mark form p.spelled;
  offset = omega (arith, p.offset, length-append p.prefix (mark ∷ content_of block), length-append (to_be_bytes w32 (marked (mark_of block))) block.body);
  whole = p.whole ∙ regroup (header_of p.is_second capacity) p.prefix (content_of block) after mark;
}
  where
    regroup : (a b c d : List ℕ) (m : ℕ) → (a ++ b) ++ m ∷ (c ++ d) ≡ (a ++ (b ++ m ∷ c)) ++ d
    regroup a b c d m = simp append_assoc

add_more : (blocks : List Block) (block : Block) (held middle next : List Record) → AddBlocks blocks held middle → AddsBody block.is_base block.body middle next → AddBlocks (blocks ++ block ∷ []) held next
add_more [] block held middle next same adds = (next, subst (λ (l : List Record). AddsBody block.is_base block.body l next) same adds, refl)
add_more (b ∷ blocks) block held middle next (after, first, rest) adds = (after, first, add_more blocks block after middle next rest adds)

-- a block that may stand behind these, and leads from some records to others
pub record MayAdd (block : Block) (blocks : List Block) (records next : List Record) : Type 0 where
  pub form : IsLength block.is_base (length block.body)
  pub adds : AddsBody block.is_base block.body records next
  pub turn : cond block.is_base (is_behind false (map mark_of blocks)) true ≡ true

pub map-more : (blocks : List Block) (block : Block) → map mark_of (blocks ++ block ∷ []) ≡ map mark_of blocks ++ mark_of block ∷ []
map-more [] block = refl
map-more (b ∷ blocks) block = ap (λ (l : List Mark). mark_of b ∷ l) (map-more blocks block)

pub turn_with : {block : Block} {blocks : List Block} {records next : List Record} → AreInTurn false (map mark_of blocks) → MayAdd block blocks records next → AreInTurn false (map mark_of (blocks ++ block ∷ []))
turn_with {block} {blocks} turn may = subst (λ (l : List Mark). AreInTurn false l) (sym (map-more blocks block)) (turn_more false (map mark_of blocks) (mark_of block) turn may.turn)

pub adds_with : {block : Block} {blocks : List Block} {records next : List Record} → AddBlocks blocks [] records → MayAdd block blocks records next → AddBlocks (blocks ++ block ∷ []) [] next
adds_with {block} {blocks} {records} {next} adds may = add_more blocks block [] records next adds may.adds

module _ {capacity gate : ℕ} {records : List Record} {image other : List ℕ} (h : HoldsTo capacity gate records image) where
  -- an image with the same blocks and a closed gate behind them
  pub closed : {rest : List ℕ} → Passes capacity gate h.blocks other (0 ∷ rest) → HoldsTo capacity gate records other
  closed {rest} p = record { blocks = h.blocks; rest = rest; passes = p; in_turn = h.in_turn; adds = h.adds }

  -- and one in which a block and a closed gate stand from there on
  pub grown : {mark : ℕ} {next : List Record} (block : Block) (more : List ℕ) → Passes capacity gate h.blocks other (mark ∷ (content_of block ++ 0 ∷ more)) → mark ≢ 0 → MayAdd block h.blocks records next
      → HoldsTo capacity (gate + (length block.body + 5)) next other
  grown {mark} {next} block more p open_mark may = record {
    blocks = h.blocks ++ block ∷ [];
    rest = more;
    passes = opened block (0 ∷ more) p open_mark may.form;
    in_turn = turn_with h.in_turn may;
    adds = adds_with h.adds may;
  }

  -- whatever a torn write leaves of a gate before the content of a block
  pub either_to : {mark : ℕ} {next : List Record} (block : Block) (more : List ℕ) → Passes capacity gate h.blocks other (mark ∷ (content_of block ++ 0 ∷ more)) → MayAdd block h.blocks records next
      → HoldsTo capacity gate records other ⊎ HoldsTo capacity (gate + (length block.body + 5)) next other
  either_to {mark} {next} block more p may = elim (cases_eq mark 0) [
    | inl is ↦ inl (closed (followed p (0 ∷ (content_of block ++ 0 ∷ more)) (ap (λ (m : ℕ). m ∷ (content_of block ++ 0 ∷ more)) is)))
    | inr open_mark ↦ inr (grown block more p open_mark may)
  ]

-- the bytes of a journal that was just made
pub fresh : (capacity : ℕ) (rest : List ℕ) → IsLimit capacity → HoldsTo capacity 16 [] (header_of true capacity ++ 0 ∷ rest)
fresh capacity rest range = record {
  blocks = [];
  rest = rest;
  passes = record { is_second = true; range = range; prefix = []; spelled = refl; offset = refl; whole = ap (λ l. l ++ 0 ∷ rest) (sym (append-nil (header_of true capacity))) };
  in_turn = tt;
  adds = refl;
}
