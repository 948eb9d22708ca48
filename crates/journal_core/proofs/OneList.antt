-- An image holds at most one list.
use Rattle.std.proofs.Common.{◌≡◌, ◌⊎◌, inl, inr, ℕ, Bool, true, false, List, [], ◌∷◌, ◌++◌, length, get_or, drop, refl, sym, ◌∙◌, ap, subst, arith, append_assoc, length-append}
use Rattle.std.specs.Int.{w64, to_be_bytes, from_be_bytes}
use Rattle.std.proofs.lemmas.List.{append-nil}
use Rattle.wire_core.proofs.Cells.{wide64}
use Rattle.wire_in.specs.declared.record.Record.{Record}
use Rattle.journal_core.specs.Layout.{AddBlocks, AddsBody, AreBlocks, Block, IsLimit, OpensBlock, Passes, content_of, header_of, with_batch}
use Rattle.journal_core.specs.Laws.{HoldsOneList}
use Rattle.journal_core.proofs.FrameLemmas.{frames_alone}
use Rattle.journal_core.proofs.Marks.{one_block, prefix_of}

-- what follows some blocks begins with more blocks, and this follows it
pub record BlocksGoOn (seen longer : List Block) (rest more : List ℕ) : Type 0 where
  pub later : List Block
  pub same : longer ≡ seen ++ later
  pub bytes : List ℕ
  pub spelled : AreBlocks later bytes
  pub whole : rest ≡ bytes ++ more

-- what a block and the blocks behind it open, before more bytes
opens_on : {block : Block} {bytes tail : List ℕ} (rest : List ℕ) → OpensBlock block bytes tail → OpensBlock block (bytes ++ rest) (tail ++ rest)
opens_on {block} {bytes} {tail} rest opens = record {
  gate = opens.gate;
  not_closed = opens.not_closed;
  form = opens.form;
  whole = ap (λ (l : List ℕ). l ++ rest) opens.whole ∙ ap (λ (l : List ℕ). opens.gate ∷ l) (append_assoc (content_of block) tail rest);
}

-- of two lists of blocks that one text begins with, one begins with the other
one_first : (as_ bs : List Block) (f g rest more : List ℕ) → AreBlocks as_ f → AreBlocks bs g → f ++ rest ≡ g ++ more → BlocksGoOn as_ bs rest more ⊎ BlocksGoOn bs as_ more rest
one_first [] bs f g rest more hf hg is = inl (record { later = bs; same = refl; bytes = g; spelled = hg; whole = ap (λ (l : List ℕ). l ++ rest) (sym hf) ∙ is })
one_first (a ∷ as_) [] f g rest more hf hg is = inr (record { later = a ∷ as_; same = refl; bytes = f; spelled = hf; whole = ap (λ (l : List ℕ). l ++ more) (sym hg) ∙ sym is })
one_first (a ∷ as_) (b ∷ bs) f g rest more (tail, opens, spelled) (tail', opens', spelled') is =
    let there : OpensBlock a (g ++ more) (tail ++ rest) = subst (λ (l : List ℕ). OpensBlock a l (tail ++ rest)) is (opens_on rest opens) in
    let same = one_block there (opens_on more opens') in
    by same.0 (one_first as_ bs tail tail' rest more spelled spelled' same.1)
  where
    longer : {seen longer : List Block} {x y : Block} {left right : List ℕ} → x ≡ y → BlocksGoOn seen longer left right → BlocksGoOn (x ∷ seen) (y ∷ longer) left right
    longer {seen} {longer} {x} {y} same on = record {
      later = on.later;
      same = ap (λ (z : Block). z ∷ longer) (sym same) ∙ ap (λ (zs : List Block). x ∷ zs) on.same;
      bytes = on.bytes;
      spelled = on.spelled;
      whole = on.whole;
    }

    by : a ≡ b → BlocksGoOn as_ bs rest more ⊎ BlocksGoOn bs as_ more rest → BlocksGoOn (a ∷ as_) (b ∷ bs) rest more ⊎ BlocksGoOn (b ∷ bs) (a ∷ as_) more rest
    by same (inl on) = inl (longer same on)
    by same (inr on) = inr (longer (sym same) on)

-- where no block follows, the others are all
module _ {seen longer : List Block} {rest more : List ℕ} (on : BlocksGoOn seen longer rest more) where
  pub ends_there : on.later ≡ [] → (seen ≡ longer) × (rest ≡ more)
  ends_there none =
      let empty : on.bytes ≡ [] = subst (λ (l : List Block). AreBlocks l on.bytes) none on.spelled in
      (sym (on.same ∙ ap (λ (l : List Block). seen ++ l) none ∙ append-nil seen), on.whole ∙ ap (λ (l : List ℕ). l ++ more) empty)

  -- as behind a closed gate
  pub ends_closed : (tail : List ℕ) → rest ≡ 0 ∷ tail → (seen ≡ longer) × (rest ≡ more)
  ends_closed tail closed = ends_there (by on.later on.spelled) where
    by : (later : List Block) → AreBlocks later on.bytes → later ≡ []
    by [] spelled = refl
    by (b ∷ later) (tail', opens, spelled) =
        absurd (opens.not_closed (sym (ap (λ (l : List ℕ). get_or l 0 0) (sym closed ∙ on.whole ∙ ap (λ (l : List ℕ). l ++ more) opens.whole))))

-- an image that begins with two lists of blocks
module _ {image : List ℕ} {capacity gate : ℕ} {blocks : List Block} {rest : List ℕ} {capacity' gate' : ℕ} {blocks' : List Block} {rest' : List ℕ}
    (p : Passes capacity gate blocks image rest) (q : Passes capacity' gate' blocks' image rest') where
  parts : (header_of p.is_second capacity ≡ header_of q.is_second capacity') × (p.prefix ++ rest ≡ q.prefix ++ rest')
  parts = prefix_of (header_of p.is_second capacity) (p.prefix ++ rest) (header_of q.is_second capacity') (q.prefix ++ rest')
      (sym (append_assoc (header_of p.is_second capacity) p.prefix rest) ∙ sym p.whole ∙ q.whole ∙ append_assoc (header_of q.is_second capacity') q.prefix rest') refl

  pub one_capacity : capacity ≡ capacity'
  one_capacity =
      let read : (n : ℕ) → IsLimit n → from_be_bytes w64 (to_be_bytes w64 n) ≡ n = λ n range. wide64.read n (omega (arith, range.most)) in
      sym (read capacity p.range) ∙ ap (λ (bytes : List ℕ). from_be_bytes w64 (drop 8 bytes)) parts.0 ∙ read capacity' q.range

  pub blocks_on : BlocksGoOn blocks blocks' rest rest' ⊎ BlocksGoOn blocks' blocks rest' rest
  blocks_on = one_first blocks blocks' p.prefix q.prefix rest rest' p.spelled q.spelled parts.1

  pub same_gate : rest ≡ rest' → gate ≡ gate'
  same_gate same = omega (arith, p.offset, q.offset, ap length parts.1, ap length same, length-append p.prefix rest, length-append q.prefix rest')

  -- blocks up to a closed gate are all
  pub all_blocks : (tail : List ℕ) → rest ≡ 0 ∷ tail → (later : List Block) × (blocks ≡ blocks' ++ later)
  all_blocks tail closed = by blocks_on where
    by : BlocksGoOn blocks blocks' rest rest' ⊎ BlocksGoOn blocks' blocks rest' rest → (later : List Block) × (blocks ≡ blocks' ++ later)
    by (inl on) = ([], (ends_closed on tail closed).0 ∙ sym (append-nil blocks'))
    by (inr on) = (on.later, on.same)

one_way : (image : List ℕ) (capacity gate : ℕ) (blocks : List Block) (rest : List ℕ) (capacity' gate' : ℕ) (blocks' : List Block) (rest' : List ℕ)
    → Passes capacity gate blocks image (0 ∷ rest) → Passes capacity' gate' blocks' image (0 ∷ rest') → (capacity ≡ capacity') × (blocks ≡ blocks') × (gate ≡ gate')
one_way image capacity gate blocks rest capacity' gate' blocks' rest' p q = by (blocks_on p q) where
  by : BlocksGoOn blocks blocks' (0 ∷ rest) (0 ∷ rest') ⊎ BlocksGoOn blocks' blocks (0 ∷ rest') (0 ∷ rest) → (capacity ≡ capacity') × (blocks ≡ blocks') × (gate ≡ gate')
  by (inl on) = let end = ends_closed on rest refl in (one_capacity p q, end.0, same_gate p q end.1)
  by (inr on) = let end = ends_closed on rest' refl in (one_capacity p q, sym end.0, same_gate p q (sym end.1))

-- blocks lead to one list
one_added : (is_base : Bool) (body : List ℕ) (held next next' : List Record) → AddsBody is_base body held next → AddsBody is_base body held next' → next ≡ next'
one_added false body held next next' (batch, valid, spelled, is) (batch', valid', spelled', is') =
    is ∙ ap (with_batch held) (frames_alone batch batch' valid.sound valid'.sound (sym spelled ∙ spelled')) ∙ sym is'
one_added true body held next next' (b, spells, of_it, is) (b', spells', of_it', is') = is ∙ sym is'

pub one_all : (blocks : List Block) (held all all' : List Record) → AddBlocks blocks held all → AddBlocks blocks held all' → all ≡ all'
one_all [] held all all' is is' = is ∙ sym is'
one_all (block ∷ later) held all all' (next, adds, rest) (next', adds', rest') =
    one_all later next all all' rest (subst (λ (n : List Record). AddBlocks later n all') (sym (one_added block.is_base block.body held next next' adds adds')) rest')

pub alone : HoldsOneList
alone = record {
  blocks = one_way;
  records = λ image capacity capacity' records records' holds holds'.
      let p = holds.held in
      let q = holds'.held in
      let way = one_way image capacity holds.gate p.blocks p.rest capacity' holds'.gate q.blocks q.rest p.passes q.passes in
      (way.0, one_all p.blocks [] records records' p.adds (subst (λ (l : List Block). AddBlocks l [] records') (sym way.1) q.adds));
}
