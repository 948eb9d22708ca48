-- The two steps of an append and of a roll, over what a host exposes before, between and after them.
use Rattle.std.proofs.Common.{◌≡◌, ◌⊎◌, inl, inr, ℕ, ◌+◌, ◌-◌, ◌<◌, ◌≤◌, Bool, true, false, not, List, [], ◌∷◌, ◌++◌, length, map, get_or, drop, refl, sym, ◌∙◌, ap, subst, arith, append_assoc, length-append}
use Rattle.std.specs.Prelude.{All, Option, Some, option_map}
use Rattle.std.proofs.lemmas.List.{append-nil}
use Rattle.std.proofs.lemmas.List.Elements.{All-nil, All-cons}
use Rattle.host_core.specs.Outside.{Outside, Agrees, MayLeave, Elapses, Stays, Changes, IsSettled, Torn, written}
use Rattle.host_core.proofs.Moments.{ended}
use Rattle.host_core.proofs.Torns.{torn_none, torn_whole, torn_within, torn_twice}
use Rattle.wire_in.specs.Bases.{SpellsBase, base_bytes}
use Rattle.wire_in.specs.declared.base.Base.{Base}
use Rattle.wire_in.specs.declared.record.Record.{Record}
use Rattle.rulebook.specs.Base.{base_of}
use Rattle.journal_core.specs.Layout.{AddBlocks, Block, IsBatch, IsLength, HoldsTo, Holds, Passes, base_block, block_of, content, content_of, frames_of, mark_of, stored_batch, with_batch}
use Rattle.journal_core.specs.Extended.{HaveAtMost, IsGrown, opened_batches}
use Rattle.journal_core.specs.Journal.{JournalState, Represents, IsAtRest, IsSettledAt, Adds, Appends, Stages}
use Rattle.journal_core.specs.Walk.{is_behind}
use Rattle.journal_core.proofs.FrameLemmas.{base_form, batch_form}
use Rattle.journal_core.proofs.Images.{MayAdd, closed, either_to, opened, torn_behind, torn_gate, written_behind, written_gate}

-- a batch as it is written is one batch and the closed gate behind it
pub stored_is : (batch : List Record) → stored_batch batch ≡ opened_batches (batch ∷ []) ++ 0 ∷ []
stored_is batch = sym (ap (λ (l : List ℕ). l ++ 0 ∷ []) (append-nil (1 ∷ content batch)))

-- no batch was written yet
pub grown_none : {capacity gate most : ℕ} {records : List Record} {image : List ℕ} → HoldsTo capacity gate records image → IsGrown capacity gate most records [] image image
grown_none {gate = gate} {most = most} {image = image} holds =
    record { next = gate; holds = holds; behind = omega arith; valid = All-nil IsBatch; few = All-nil (λ (batch : List Record). length batch ≤ most); torn = torn_none gate (gate - gate + 1) image }

-- what is written behind the gate of a block
abbrev pub body_of : Block → List ℕ
body_of block = content_of block ++ 0 ∷ []

-- The two steps of any block

-- a stop in the first
pub first_stage : (old : Outside) (gate : ℕ) (body image bytes : List ℕ) → Changes (Torn (gate + 1) (length body)) old image bytes → Stages gate body old image bytes
first_stage old gate body image bytes step = record { before = step.before; was = step.was; torn = inl step.changed; sent = step.sent }

-- and in the second
pub second_stage : (old mid : Outside) (gate : ℕ) (body : List ℕ) → IsSettled old → mid.disk ≡ option_map (written (gate + 1) body) old.disk → IsSettled mid → mid.sent ≡ old.sent
    → Elapses old mid (Changes (Torn (gate + 1) (length body)) old) → (image bytes : List ℕ) → Changes (Torn gate 1) mid image bytes → Stages gate body old image bytes
second_stage old mid gate body rest first settled same run image bytes step = record {
  before = at_end.before;
  was = at_end.was;
  torn = inr (subst (λ (d : List ℕ). Torn gate 1 d image) (sym there) step.changed);
  sent = rw (sym same) step.sent;
}
  where
    at_end : Changes (Torn (gate + 1) (length body)) old step.before step.was.bytes
    at_end = ended run step.was

    alike : {known : Option (List ℕ)} {a b : List ℕ} → known ≡ Some a → known ≡ Some b → a ≡ b
    alike p q = cc

    there : written (gate + 1) body at_end.before ≡ step.before
    there = alike (first ∙ ap (option_map (written (gate + 1) body)) (rest.only at_end.before at_end.was)) (settled.only step.before step.was)

-- a block that may follow is there or not, whatever a stop leaves
module _ {capacity gate : ℕ} {records : List Record} (block : Block) where
  pub staged : {disk : List ℕ} (h : HoldsTo capacity gate records disk) → Passes capacity gate h.blocks (written (gate + 1) (body_of block) disk) (0 ∷ (content_of block ++ 0 ∷ drop (gate + 1 + length (body_of block)) disk))
  staged {disk} h =
      subst (λ l. Passes capacity gate h.blocks (written (gate + 1) (body_of block) disk) (0 ∷ l)) (append_assoc (content_of block) (0 ∷ []) (drop (gate + 1 + length (body_of block)) disk)) (written_behind h.passes (body_of block))

  pub stays_behind : {disk image : List ℕ} (h : HoldsTo capacity gate records disk) → Torn (gate + 1) (length (body_of block)) disk image → HoldsTo capacity gate records image
  stays_behind {disk} {image} h torn = closed h (torn_behind h.passes (length (body_of block)) image torn)

  pub either_there : {next : List Record} {disk image : List ℕ} (h : HoldsTo capacity gate records disk) → MayAdd block h.blocks records next → Torn gate 1 (written (gate + 1) (body_of block) disk) image
      → HoldsTo capacity gate records image ⊎ HoldsTo capacity (gate + (length block.body + 5)) next image
  either_there {next} {disk} {image} h may torn =
      let more = drop (gate + 1 + length (body_of block)) disk ++ torn.more in
      let opened_torn : Passes capacity gate h.blocks image (get_or image gate 0 ∷ (content_of block ++ 0 ∷ more)) =
      subst (λ l. Passes capacity gate h.blocks image (get_or image gate 0 ∷ l)) (append_assoc (content_of block) (0 ∷ drop (gate + 1 + length (body_of block)) disk) torn.more) (torn_gate (staged h) image torn) in
      either_to h block more opened_torn may

-- and raw, by the bytes alone
pub passes_there : {capacity gate : ℕ} {disk rest : List ℕ} {blocks : List Block} (block : Block) → Passes capacity gate blocks disk (0 ∷ rest) → IsLength block.is_base (length block.body)
    → Passes capacity (gate + (length block.body + 5)) (blocks ++ block ∷ []) (written gate (1 ∷ []) (written (gate + 1) (body_of block) disk)) (0 ∷ drop (gate + 1 + length (body_of block)) disk)
passes_there {capacity} {gate} {disk} {rest} {blocks} block p form =
    let behind = written_behind p (body_of block) in
    let more = drop (gate + 1 + length (body_of block)) disk in
    opened block (0 ∷ more)
    (written_gate (subst (λ l. Passes capacity gate blocks (written (gate + 1) (body_of block) disk) (0 ∷ l)) (append_assoc (content_of block) (0 ∷ []) more) behind) 1)
    (omega arith) form

-- A batch

pub batch_may : (batch : List Record) (blocks : List Block) (records : List Record) → IsBatch batch → MayAdd (block_of batch) blocks records (with_batch records batch)
batch_may batch blocks records valid = record { form = batch_form batch valid; adds = (batch, valid, refl, refl); turn = refl }

-- where the next gate stands
abbrev pub next_gate : ℕ → List Record → ℕ
next_gate gate batch = gate + (length (frames_of batch) + 5)

-- a journal at rest has its gate at rest
pub settled_at : {now : Outside} {records : List Record} (journal : JournalState) (gate : ℕ) → gate ≡ journal.gate → IsAtRest journal records now → IsSettledAt journal.capacity gate records now
settled_at {now} {records} journal gate is rest = record {
  settled = rest.settled;
  holds = λ disk known. subst (λ (g : ℕ). HoldsTo journal.capacity g records disk) (sym is) (rest.keeps disk known).held;
}

-- and so it is by a wider test
pub adds_by : {holds wider : List Record → List (List Record) → Type 0} {records batch : List Record} → ((held : List Record) (pending : List (List Record)) → holds held pending → wider held pending)
    → Adds holds records batch → Adds wider records batch
adds_by more (inl same) = inl (more _ _ same)
adds_by more (inr (inl part)) = inr (inl (more _ _ part))
adds_by more (inr (inr all)) = inr (inr (more _ _ all))

-- what is held up to a gate is held
some_gate : {capacity gate : ℕ} {records : List Record} (batch : List Record) {before image : List ℕ}
    → Adds (λ held pending. IsGrown capacity gate (length batch) held pending before image) records batch → Holds image capacity records ⊎ Holds image capacity (with_batch records batch)
some_gate batch (inl same) = inl (record { gate = same.next; held = same.holds })
some_gate batch (inr (inl part)) = inl (record { gate = part.next; held = part.holds })
some_gate batch (inr (inr more)) = inr (record { gate = more.next; held = more.holds })

appends : {capacity gate : ℕ} {records batch : List Record} {old : Outside} {image bytes : List ℕ} (before : List ℕ) → MayLeave old before
    → Adds (λ held pending. IsGrown capacity gate (length batch) held pending before image) records batch → Agrees old.sent bytes → Appends capacity gate records batch old image bytes
appends {batch = batch} before was grows sent = record { holds = some_gate batch grows; before = before; was = was; grown = grows; sent = sent }

pub before_steps : (old : Outside) (capacity gate : ℕ) (records batch : List Record) → IsSettledAt capacity gate records old → (image bytes : List ℕ) → Stays old image bytes → Appends capacity gate records batch old image bytes
before_steps old capacity gate records batch rest image bytes stays =
    appends image stays.was (inl (grown_none (rest.holds image (rest.settled.only image stays.was)))) stays.sent

module _ (old : Outside) (capacity gate : ℕ) (records batch : List Record) (valid : IsBatch batch) (rest : IsSettledAt capacity gate records old) where
  pending : All IsBatch (batch ∷ [])
  pending = All-cons IsBatch batch [] valid (All-nil IsBatch)

  -- it is the batch itself that is pending
  itself : HaveAtMost (length batch) (batch ∷ [])
  itself = All-cons (λ (one : List Record). length one ≤ length batch) batch [] (omega arith) (All-nil (λ (one : List Record). length one ≤ length batch))

  offset : (n : ℕ) → n + length (opened_batches (batch ∷ []) ++ 0 ∷ []) ≡ n + length (stored_batch batch)
  offset n = ap (λ (l : List ℕ). n + length l) (sym (stored_is batch))

  -- a stop leaves the batch out or whole
  pub batch_stages : (image bytes : List ℕ) → Stages gate (body_of (block_of batch)) old image bytes → Appends capacity gate records batch old image bytes
  batch_stages image bytes step = appends step.before step.was (by step.torn) step.sent where
    held : HoldsTo capacity gate records step.before
    held = rest.holds step.before (rest.settled.only step.before step.was)

    whole : List ℕ
    whole = written (gate + 1) (body_of (block_of batch)) step.before

    size : length (content batch ++ 0 ∷ []) ≡ length (content batch) + 1
    size = length-append (content batch) (0 ∷ [])

    within : (n : ℕ) → length (stored_batch batch) ≤ n → Torn gate 1 whole image → Torn gate n step.before image
    within n le torn =
        torn_twice gate n (torn_within gate n (gate + 1) (length (content batch ++ 0 ∷ [])) (omega arith) (omega (arith, le)) (torn_whole (gate + 1) (content batch ++ 0 ∷ []) step.before))
        (torn_within gate n gate 1 (omega arith) (omega (arith, le)) torn)

    found : Torn gate 1 whole image → HoldsTo capacity gate records image ⊎ HoldsTo capacity (next_gate gate batch) (with_batch records batch) image
        → Adds (λ held pending. IsGrown capacity gate (length batch) held pending step.before image) records batch
    found torn (inl holds) = inr (inl (record {
      next = gate;
      holds = holds;
      behind = omega arith;
      valid = pending;
      few = itself;
      torn = within (gate - gate + length (opened_batches (batch ∷ []) ++ 0 ∷ [])) (omega (arith, offset 0)) torn;
    }))
    found torn (inr holds) = inr (inr (record {
      next = next_gate gate batch;
      holds = holds;
      behind = omega arith;
      valid = All-nil IsBatch;
      few = All-nil (λ (one : List Record). length one ≤ length batch);
      torn = within (next_gate gate batch - gate + 1) (omega (arith, size)) torn;
    }))

    by : Torn (gate + 1) (length (body_of (block_of batch))) step.before image ⊎ Torn gate 1 whole image → Adds (λ held pending. IsGrown capacity gate (length batch) held pending step.before image) records batch
    by (inl torn) = inr (inl (record {
      next = gate;
      holds = stays_behind (block_of batch) held torn;
      behind = omega arith;
      valid = pending;
      few = itself;
      torn = torn_within gate (gate - gate + length (opened_batches (batch ∷ []) ++ 0 ∷ [])) (gate + 1) (length (body_of (block_of batch))) (omega arith) (omega (arith, offset 0)) torn;
    }))
    by (inr torn) = found torn (either_there (block_of batch) held (batch_may batch held.blocks records valid) torn)

-- A base

-- behind some blocks that are no base's last, a batch is the last
unrolled : (blocks : List Block) → false ≡ not (is_behind true (map mark_of blocks)) → (0 < length blocks) → is_behind false (map mark_of blocks) ≡ true
unrolled [] isnt some = absurd (omega (arith, some))
unrolled (b ∷ blocks) isnt some = by (is_behind (not b.is_base) (map mark_of blocks)) isnt where
  by : (last : Bool) → false ≡ not last → last ≡ true
  by true isnt = refl
  by false isnt = cc

some_blocks : (blocks : List Block) (records : List Record) → AddBlocks blocks [] records → 0 < length records → 0 < length blocks
some_blocks [] records is some = absurd (omega (arith, ap length is, some))
some_blocks (b ∷ blocks) records is some = omega arith

pub base_may : (b : Base) {journal : JournalState} {records : List Record} {disk : List ℕ} (rep : Represents journal records disk) → journal.rolled ≡ false → SpellsBase (base_bytes b) b → base_of records ≡ Some b
    → MayAdd (base_block b) rep.held.blocks records records
base_may b {journal} {records} {disk} rep isnt spelled of_it = record {
  form = base_form (base_bytes b) b spelled;
  adds = (b, spelled, of_it, refl);
  turn = unrolled rep.held.blocks (sym isnt ∙ rep.rolled) (some_blocks rep.held.blocks records rep.held.adds (some records of_it));
}
  where
    some : (records : List Record) → base_of records ≡ Some b → 0 < length records
    some [] of_it = cc
    some (x ∷ records) of_it = omega arith

-- a stop leaves the records
pub base_stages : (b : Base) (journal : JournalState) (records : List Record) (old : Outside) → IsAtRest journal records old → journal.rolled ≡ false → SpellsBase (base_bytes b) b → base_of records ≡ Some b
    → (image bytes : List ℕ) → Stages journal.gate (body_of (base_block b)) old image bytes → Holds image journal.capacity records
base_stages b journal records old rest isnt spelled of_it image bytes step = by step.torn where
  rep : Represents journal records step.before
  rep = rest.keeps step.before (rest.settled.only step.before step.was)

  both : HoldsTo journal.capacity journal.gate records image ⊎ HoldsTo journal.capacity (journal.gate + (length (base_bytes b) + 5)) records image → Holds image journal.capacity records
  both (inl held) = record { gate = journal.gate; held = held }
  both (inr held) = record { gate = journal.gate + (length (base_bytes b) + 5); held = held }

  by : Torn (journal.gate + 1) (length (body_of (base_block b))) step.before image ⊎ Torn journal.gate 1 (written (journal.gate + 1) (body_of (base_block b)) step.before) image → Holds image journal.capacity records
  by (inl torn) = record { gate = journal.gate; held = stays_behind (base_block b) rep.held torn }
  by (inr torn) = both (either_there (base_block b) rep.held (base_may b rep isnt spelled of_it) torn)
