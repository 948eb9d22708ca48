-- A disk that holds a list is read to its end.
use Rattle.std.proofs.Common.{◌≡◌, ⊎_elim, ℕ, Bool, true, false, List, [], ◌∷◌, ◌++◌, map, drop, refl, sym, ap, subst, ◌∙◌, true≢false, arith, append_assoc, length-append}
use Rattle.std.specs.Prelude.{Option, Some, None}
use Rattle.wire_in.specs.declared.base.Base.{Base}
use Rattle.wire_in.specs.declared.record.Record.{Record}
use Rattle.wire_in.proofs.OneBase.{base_is_alone}
use Rattle.rulebook.specs.Base.{base_of}
use Rattle.journal_core.specs.declared.mark.Mark.{Mark}
use Rattle.journal_core.specs.Layout.{AddBlocks, AddsBody, AreBlocks, Block, Holds, OpensBlock, Passes, block_of, content_of, header_of, mark_of, records_of}
use Rattle.journal_core.specs.AtGate.{IsDamaged}
use Rattle.journal_core.specs.Walk.{AreOfBatches}
use Rattle.journal_core.specs.Scan.{EndsWith, ScanState, HasRead, LeadsTo}
use Rattle.journal_core.specs.Laws.{IsPassed, IsReadOf, IsReadable}
use Rattle.journal_core.proofs.Based.{first_start, held_start}
use Rattle.journal_core.proofs.Batches.{batches_add, batches_blocks, batches_valid}
use Rattle.journal_core.proofs.Images.{from_gate}
use Rattle.journal_core.proofs.Marks.{closed_alike}
use Rattle.journal_core.proofs.OneList.{all_blocks, blocks_on, ends_closed, one_all, one_capacity}
use Rattle.journal_core.proofs.Starts.{grows, has_header, headed, held_unreadable, led_from, of_batch, passes_marked, split_at}

blocks_append : (a b : List Block) (f g : List ℕ) → AreBlocks a f → AreBlocks b g → AreBlocks (a ++ b) (f ++ g)
blocks_append [] b f g none q = subst (λ (l : List ℕ). AreBlocks b (l ++ g)) (sym none) q
blocks_append (block ∷ a) b f g (rest, opens, spelled) q = (
  rest ++ g,
  record {
    gate = opens.gate;
    not_closed = opens.not_closed;
    form = opens.form;
    whole = ap (λ (l : List ℕ). l ++ g) opens.whole ∙ ap (λ (l : List ℕ). opens.gate ∷ l) (append_assoc (content_of block) rest g);
  },
  blocks_append a b rest g spelled q,
)

-- all blocks that lead to a gate
pub all_passed : {capacity gate : ℕ} {base : Option Base} {batches : List (List Record)} {disk rest : List ℕ} (p : LeadsTo capacity gate base batches disk rest)
    → Passes capacity gate (p.passed ++ map block_of batches) disk rest
all_passed {capacity} {gate} {base} {batches} {disk} {rest} p =
    let q = p.passes in
    record {
      is_second = q.is_second;
      range = q.range;
      prefix = q.prefix ++ p.prefix;
      spelled = blocks_append p.passed (map block_of batches) q.prefix p.prefix q.spelled (batches_blocks batches p.prefix p.spelled);
      offset = omega (arith, q.offset, p.offset, length-append q.prefix p.prefix);
      whole = q.whole ∙ regroup (header_of q.is_second capacity) q.prefix p.prefix rest;
    }
  where
    regroup : (a b c d : List ℕ) → (a ++ b) ++ (c ++ d) ≡ (a ++ (b ++ c)) ++ d
    regroup a b c d = simp append_assoc

-- blocks that end with a base lead to a list with that base
passed_base : (capacity : ℕ) (base : Option Base) (passed : List Block) (before : List Record) → EndsWith capacity base passed → AddBlocks passed [] before → IsPassed base before
passed_base capacity None passed before ends add = subst (λ (l : List Block). AddBlocks l [] before) ends add
passed_base capacity (Some b) passed before (first, body, is, spells, few) add =
    let split = split_at first (record { is_base = true; body = body } ∷ []) [] before (subst (λ (l : List Block). AddBlocks l [] before) is add) in
    at split.0 split.2
  where
    at : (middle : List Record) → AddBlocks (record { is_base = true; body = body } ∷ []) middle before → base_of before ≡ Some b
    at middle (next, (c, spells', of_it, same), last) = ap base_of (last ∙ same) ∙ of_it ∙ ap (λ (d : Base). Some d) (base_is_alone body c b spells' spells)

-- what was read of a disk that holds a list
pub record IsLed (records : List Record) (base : Option Base) (batches : List (List Record)) (rest : List ℕ) : Type 0 where
  pub before : List Record
  pub passed : IsPassed base before
  pub more : List Record
  pub whole : records ≡ more ++ (records_of batches ++ before)
  pub all : (tail : List ℕ) → rest ≡ 0 ∷ tail → records ≡ records_of batches ++ before

module _ {disk : List ℕ} {capacity : ℕ} {records : List Record} (holds : Holds disk capacity records) {limit gate : ℕ} {base : Option Base} {batches : List (List Record)} {rest : List ℕ} (p : LeadsTo limit gate base batches disk rest) where
  following : (later : List Block) × (holds.held.blocks ≡ (p.passed ++ map block_of batches) ++ later)
  following = all_blocks holds.held.passes (all_passed p) holds.held.rest refl

  ordered : AddBlocks (p.passed ++ (map block_of batches ++ following.0)) [] records
  ordered = subst (λ (l : List Block). AddBlocks l [] records) (following.1 ∙ append_assoc p.passed (map block_of batches) following.0) holds.held.adds

  first : (middle : List Record) × AddBlocks p.passed [] middle × AddBlocks (map block_of batches ++ following.0) middle records
  first = split_at p.passed (map block_of batches ++ following.0) [] records ordered

  second : (middle : List Record) × AddBlocks (map block_of batches) first.0 middle × AddBlocks following.0 middle records
  second = split_at (map block_of batches) following.0 first.0 records first.2

  read_is : second.0 ≡ records_of batches ++ first.0
  read_is = batches_add batches first.0 second.0 (batches_valid batches p.prefix p.spelled) second.1

  at_end : (tail : List ℕ) → rest ≡ 0 ∷ tail → records ≡ records_of batches ++ first.0
  at_end tail closed = ⊎_elim (λ on. by (ends_closed on tail closed).0) (λ on. by (sym (ends_closed on holds.held.rest refl).0)) (blocks_on (all_passed p) holds.held.passes) where
    by : p.passed ++ map block_of batches ≡ holds.held.blocks → records ≡ records_of batches ++ first.0
    by same =
        let whole_add : AddBlocks (p.passed ++ map block_of batches) [] records = subst (λ (l : List Block). AddBlocks l [] records) (sym same) holds.held.adds in
        let split = split_at p.passed (map block_of batches) [] records whole_add in
        batches_add batches split.0 records (batches_valid batches p.prefix p.spelled) split.2 ∙ ap (λ (l : List Record). records_of batches ++ l) (one_all p.passed [] split.0 first.0 split.1 first.1)

  pub led : IsLed records base batches rest
  led =
      let more = grows following.0 second.0 records second.2 in
      record {
        before = first.0;
        passed = passed_base limit base p.passed first.0 p.ends first.1;
        more = more.0;
        whole = more.1 ∙ ap (λ (l : List Record). more.0 ++ l) read_is;
        all = at_end;
      }

  pub led_capacity : limit ≡ capacity
  led_capacity = one_capacity p.passes holds.held.passes

  -- and what follows the batches is not damaged
  pub led_undamaged : IsDamaged rest → ⊥
  led_undamaged damaged = ⊎_elim (λ on. by on.later on.bytes on.spelled on.same on.whole) (λ on. damaged.not_closed holds.held.rest (sym (ends_closed on holds.held.rest refl).1)) (blocks_on (all_passed p) holds.held.passes) where
    marks : map mark_of holds.held.blocks ≡ map mark_of p.passed ++ p.later
    marks =
        let marked = passes_marked holds.held.passes in
        closed_alike 16 (map mark_of holds.held.blocks) (map mark_of p.passed ++ p.later) disk holds.held.rest p.walk.rest marked.0 (ap (λ (k : ℕ). drop k disk) marked.1 ∙ from_gate holds.held.passes) p.walk.walked.stand p.walk.closed

    map-append : (a b : List Block) → map mark_of (a ++ b) ≡ map mark_of a ++ map mark_of b
    map-append [] b = refl
    map-append (x ∷ a) b = ap (λ (l : List Mark). mark_of x ∷ l) (map-append a b)

    cut : (a b c : List Mark) → a ++ b ≡ a ++ c → b ≡ c
    cut [] b c is = is
    cut (x ∷ a) b c is = cut a b c (ap (drop 1) is)

    -- the next block is no base
    a_batch : (block : Block) (later : List Block) → holds.held.blocks ≡ (p.passed ++ map block_of batches) ++ block ∷ later → block.is_base ≡ false
    a_batch block later same =
        let behind : p.later ≡ map mark_of (map block_of batches) ++ mark_of block ∷ map mark_of later =
        cut (map mark_of p.passed) p.later _
        (sym marks ∙ ap (map mark_of) (same ∙ append_assoc p.passed (map block_of batches) (block ∷ later)) ∙ map-append p.passed (map block_of batches ++ block ∷ later)
        ∙ ap (λ (l : List Mark). map mark_of p.passed ++ l) (map-append (map block_of batches) (block ∷ later))) in
        of_batch (map mark_of (map block_of batches)) (map mark_of later) (mark_of block) (subst AreOfBatches behind p.last)

    -- and as a batch it is none that is damaged
    opens : (is_base : Bool) (body : List ℕ) (held next : List Record) (tail : List ℕ) → is_base ≡ false → OpensBlock (record { is_base = is_base; body = body }) rest tail → AddsBody is_base body held next → ⊥
    opens true body held next tail isnt there adds = absurd (true≢false isnt)
    opens false body held next tail isnt there (batch, valid, spelled, is) =
        damaged.no_batch batch tail (record {
          gate = there.gate;
          not_closed = there.not_closed;
          valid = valid;
          whole = subst (λ (l : List ℕ). rest ≡ there.gate ∷ (content_of (record { is_base = false; body = l }) ++ tail)) spelled there.whole;
        })

    by : (later : List Block) (bytes : List ℕ) → AreBlocks later bytes → holds.held.blocks ≡ (p.passed ++ map block_of batches) ++ later → rest ≡ bytes ++ 0 ∷ holds.held.rest → ⊥
    by [] bytes spelled same is = damaged.not_closed holds.held.rest (is ∙ ap (λ (l : List ℕ). l ++ 0 ∷ holds.held.rest) spelled)
    by (block ∷ later) bytes (tail, there, spelled) same is =
        let split = split_at (p.passed ++ map block_of batches) (block ∷ later) [] records (subst (λ (l : List Block). AddBlocks l [] records) same holds.held.adds) in
        opens block.is_base block.body split.0 split.2.0 (tail ++ 0 ∷ holds.held.rest) (a_batch block later same)
        (record {
          gate = there.gate;
          not_closed = there.not_closed;
          form = there.form;
          whole = is ∙ ap (λ (l : List ℕ). l ++ 0 ∷ holds.held.rest) there.whole ∙ ap (λ (l : List ℕ). there.gate ∷ l) (append_assoc (content_of block) tail (0 ∷ holds.held.rest));
        }) split.2.1

read_of : (disk : List ℕ) (capacity : ℕ) (records : List Record) (scan : ScanState) (batches : List (List Record)) → Holds disk capacity records → HasRead scan batches disk → (scan.capacity ≡ capacity) × IsReadOf records scan batches
read_of disk capacity records scan batches holds read =
    let l = led holds read.leads in
    (led_capacity holds read.leads, record { before = l.before; passed = l.passed; more = l.more; whole = l.whole; all = λ is_closed. let zero = read.closed is_closed in l.all zero.0 zero.1 })

undamaged : (disk : List ℕ) (capacity : ℕ) (records : List Record) (scan : ScanState) (batches : List (List Record)) → Holds disk capacity records → HasRead scan batches disk → IsDamaged (drop scan.gate disk) → ⊥
undamaged disk capacity records scan batches holds read damaged = led_undamaged holds read.leads (subst IsDamaged (led_from read.leads) damaged)

pub readable : IsReadable
readable = record {
  header = λ disk capacity records holds none. headed (has_header holds.held.passes (omega arith)) none;
  begun = held_unreadable;
  undamaged = undamaged;
  all = read_of;
  start = held_start;
  first = first_start;
}
