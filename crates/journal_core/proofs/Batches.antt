-- Batches as blocks.
use Rattle.std.proofs.Common.{◌≡◌, ◌≢◌, ◌⊎◌, inl, inr, ℕ, List, [], ◌∷◌, ◌++◌, map, get_or, refl, sym, ◌∙◌, ap, subst, append_assoc}
use Rattle.std.specs.Prelude.{All, reverse}
use Rattle.std.specs.List.{flat_map}
use Rattle.std.proofs.lemmas.Grind.{flat_map-append}
use Rattle.std.proofs.lemmas.List.{append-nil, reverse-append}
use Rattle.std.proofs.lemmas.List.Elements.{All-nil, All-cons, All-head, All-tail}
use Rattle.wire_in.specs.declared.record.Record.{Record}
use Rattle.journal_core.specs.Layout.{AddBlocks, AreBatches, AreBlocks, Block, IsBatch, Opens, OpensBlock, block_of, content, records_of, with_batch}
use Rattle.journal_core.proofs.FrameLemmas.{batch_form, frames_alone}
use Rattle.journal_core.proofs.Marks.{one_block}

-- a batch opens its block
pub opens_block : {batch : List Record} {bytes rest : List ℕ} → Opens batch bytes rest → OpensBlock (block_of batch) bytes rest
opens_block {batch} {bytes} {rest} opens = record { gate = opens.gate; not_closed = opens.not_closed; form = batch_form batch opens.valid; whole = opens.whole }

-- and one batch stands behind a gate
pub one_batch : {a b : List Record} {bytes rest rest' : List ℕ} → Opens a bytes rest → Opens b bytes rest' → (a ≡ b) × (rest ≡ rest')
one_batch {a} {b} {bytes} {rest} {rest'} p q =
    let same = one_block (opens_block p) (opens_block q) in
    (frames_alone a b p.valid.sound q.valid.sound (ap (λ (block : Block). block.body) same.0), same.1)

pub batches_blocks : (batches : List (List Record)) (bytes : List ℕ) → AreBatches batches bytes → AreBlocks (map block_of batches) bytes
batches_blocks [] bytes none = none
batches_blocks (batch ∷ batches) bytes (rest, opens, spelled) = (rest, opens_block opens, batches_blocks batches rest spelled)

pub batches_valid : (batches : List (List Record)) (bytes : List ℕ) → AreBatches batches bytes → All IsBatch batches
batches_valid [] bytes none = All-nil IsBatch
batches_valid (batch ∷ batches) bytes (rest, opens, spelled) = All-cons IsBatch batch batches opens.valid (batches_valid batches rest spelled)

-- one batch more
pub batch_more : (batches : List (List Record)) (prefix : List ℕ) (mark : ℕ) (batch : List Record) → mark ≢ 0 → IsBatch batch → AreBatches batches prefix
    → AreBatches (batches ++ batch ∷ []) (prefix ++ mark ∷ content batch)
batch_more [] prefix mark batch open_mark valid is = (
  [],
  record { gate = mark; not_closed = open_mark; valid = valid; whole = ap (λ l. l ++ mark ∷ content batch) is ∙ ap (λ l. mark ∷ l) (sym (append-nil (content batch))) },
  refl,
)
batch_more (first ∷ batches) prefix mark batch open_mark valid (rest, opens, spelled) = (
  rest ++ mark ∷ content batch,
  record {
    gate = opens.gate;
    not_closed = opens.not_closed;
    valid = opens.valid;
    whole = ap (λ l. l ++ mark ∷ content batch) opens.whole ∙ append_assoc (opens.gate ∷ content first) rest (mark ∷ content batch);
  },
  batch_more batches rest mark batch open_mark valid spelled,
)

-- the records of all batches have those of the first ones behind them
pub records_first : (batches later : List (List Record)) → records_of (batches ++ later) ≡ records_of later ++ records_of batches
records_first batches later =
    ap reverse (flat_map-append (λ (b : List Record). b) batches later) ∙ reverse-append (flat_map (λ (b : List Record). b) batches) (flat_map (λ (b : List Record). b) later)

-- the records of some batches, and of one more
pub records_more : (batches : List (List Record)) (batch : List Record) → records_of (batches ++ batch ∷ []) ≡ with_batch (records_of batches) batch
records_more batches batch = records_first batches (batch ∷ []) ∙ ap (λ (r : List Record). reverse r ++ records_of batches) (append-nil batch)

-- What follows some batches begins with more batches, and this follows them.
pub record GoesOn (seen longer : List (List Record)) (rest more : List ℕ) : Type 0 where
  pub later : List (List Record)
  pub same : longer ≡ seen ++ later
  pub bytes : List ℕ
  pub spelled : AreBatches later bytes
  pub whole : rest ≡ bytes ++ more

opens_on : {batch : List Record} {bytes tail : List ℕ} (rest : List ℕ) → Opens batch bytes tail → Opens batch (bytes ++ rest) (tail ++ rest)
opens_on {batch} {bytes} {tail} rest opens = record {
  gate = opens.gate;
  not_closed = opens.not_closed;
  valid = opens.valid;
  whole = ap (λ (l : List ℕ). l ++ rest) opens.whole ∙ ap (λ (l : List ℕ). opens.gate ∷ l) (append_assoc (content batch) tail rest);
}

-- of two lists of batches that one text begins with, one begins with the other
pub batches_first : (as_ bs : List (List Record)) (f g rest more : List ℕ) → AreBatches as_ f → AreBatches bs g → f ++ rest ≡ g ++ more → GoesOn as_ bs rest more ⊎ GoesOn bs as_ more rest
batches_first [] bs f g rest more hf hg is = inl (record { later = bs; same = refl; bytes = g; spelled = hg; whole = ap (λ (l : List ℕ). l ++ rest) (sym hf) ∙ is })
batches_first (a ∷ as_) [] f g rest more hf hg is = inr (record { later = a ∷ as_; same = refl; bytes = f; spelled = hf; whole = ap (λ (l : List ℕ). l ++ more) (sym hg) ∙ sym is })
batches_first (a ∷ as_) (b ∷ bs) f g rest more (tail, opens, spelled) (tail', opens', spelled') is =
    let there : Opens a (g ++ more) (tail ++ rest) = subst (λ (l : List ℕ). Opens a l (tail ++ rest)) is (opens_on rest opens) in
    let same = one_batch there (opens_on more opens') in
    by same.0 (batches_first as_ bs tail tail' rest more spelled spelled' same.1)
  where
    longer : {seen longer : List (List Record)} {x y : List Record} {left right : List ℕ} → x ≡ y → GoesOn seen longer left right → GoesOn (x ∷ seen) (y ∷ longer) left right
    longer {seen} {longer} {x} {y} same on = record {
      later = on.later;
      same = ap (λ (z : List Record). z ∷ longer) (sym same) ∙ ap (λ (zs : List (List Record)). x ∷ zs) on.same;
      bytes = on.bytes;
      spelled = on.spelled;
      whole = on.whole;
    }

    by : a ≡ b → GoesOn as_ bs rest more ⊎ GoesOn bs as_ more rest → GoesOn (a ∷ as_) (b ∷ bs) rest more ⊎ GoesOn (b ∷ bs) (a ∷ as_) more rest
    by same (inl on) = inl (longer same on)
    by same (inr on) = inr (longer (sym same) on)

-- where no batch follows, the others are all
module _ {seen longer : List (List Record)} {rest more : List ℕ} (on : GoesOn seen longer rest more) where
  pub ends_there : on.later ≡ [] → (seen ≡ longer) × (rest ≡ more)
  ends_there none =
      let empty : on.bytes ≡ [] = subst (λ (l : List (List Record)). AreBatches l on.bytes) none on.spelled in
      (sym (on.same ∙ ap (λ (l : List (List Record)). seen ++ l) none ∙ append-nil seen), on.whole ∙ ap (λ (l : List ℕ). l ++ more) empty)

  pub no_batch_follows : ((b : List Record) (tail : List ℕ) → ¬ Opens b rest tail) → (seen ≡ longer) × (rest ≡ more)
  no_batch_follows no_batch = ends_there (by on.later on.spelled) where
    by : (later : List (List Record)) → AreBatches later on.bytes → later ≡ []
    by [] spelled = refl
    by (b ∷ later) (tail, opens, spelled) = absurd (no_batch b (tail ++ more) (record {
      gate = opens.gate;
      not_closed = opens.not_closed;
      valid = opens.valid;
      whole = on.whole ∙ ap (λ (l : List ℕ). l ++ more) opens.whole ∙ ap (λ (l : List ℕ). opens.gate ∷ l) (append_assoc (content b) tail more);
    }))

-- no batch stands at a closed gate
pub closed_gate : (rest : List ℕ) (b : List Record) (tail : List ℕ) → ¬ Opens b (0 ∷ rest) tail
closed_gate rest b tail opens = opens.not_closed (sym (ap (λ (l : List ℕ). get_or l 0 0) opens.whole))

-- batches lead to their records, behind those that are held
pub batches_add : (batches : List (List Record)) (held all : List Record) → All IsBatch batches → AddBlocks (map block_of batches) held all → all ≡ records_of batches ++ held
batches_add [] held all valid add = add
batches_add (batch ∷ batches) held all valid (next, (found, is_batch, spelled, is), rest) =
    let same : batch ≡ found = frames_alone batch found (All-head IsBatch batch batches valid).sound is_batch.sound spelled in
    batches_add batches next all (All-tail IsBatch batch batches valid) rest
    ∙ ap (λ (l : List Record). records_of batches ++ l) (is ∙ ap (with_batch held) (sym same))
    ∙ sym (append_assoc (records_of batches) (reverse batch) held)
    ∙ ap (λ (l : List Record). l ++ held) (sym (records_first (batch ∷ []) batches ∙ ap (λ (l : List Record). records_of batches ++ reverse l) (append-nil batch)))
