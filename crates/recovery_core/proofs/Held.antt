-- A journal that holds a lawful list, and one that was read to its end.
use Rattle.std.proofs.Common.{◌≡◌, ◌⊎◌, inl, inr, ℕ, ◌+◌, Bool, true, false, List, [], ◌∷◌, ◌++◌, length, map, refl, sym, ap, subst, ◌∙◌, append_assoc, length-append, arith}
use Rattle.std.specs.Prelude.{All, IsTrue, Option, Some, None, reverse}
use Rattle.std.proofs.lemmas.List.{append-nil}
use Rattle.std.proofs.lemmas.List.Elements.{All-head, All-tail}
use Rattle.host_core.specs.Outside.{Outside}
use Rattle.wire_in.specs.declared.base.Base.{Base}
use Rattle.wire_in.specs.declared.record.Record.{Record}
use Rattle.wire_out.specs.declared.message.Frame.TheVariants.{Hello}
use Rattle.wire_out.specs.Spelling.{spelling}
use Rattle.journal_core.specs.Layout.{AddBlocks, AreInTurn, Holds, IsBatch, block_of, mark_of, records_of, with_batch}
use Rattle.journal_core.specs.Laws.{IsPassed, IsReadOf}
use Rattle.journal_core.specs.Scan.{HasRead, LeadsTo, ScanState, messages_before}
use Rattle.journal_core.specs.Walk.{HasBase, HasNoHeader}
use Rattle.journal_core.proofs.Batches.{batches_valid, records_first}
use Rattle.journal_core.proofs.Readable.{all_passed, readable}
use Rattle.journal_core.proofs.Starts.{headed, one_start, unreadable_led}
use Rattle.rulebook.specs.Admission.{IsLawful}
use Rattle.rulebook.specs.Base.{IsLawfulAfter, messages_after, sent_above, whole}
use Rattle.rulebook.specs.Book.{messages_of}
use Rattle.rulebook.specs.Sent.{hello, spelled}
use Rattle.rulebook.proofs.Bases.{is_base}
use Rattle.rulebook.proofs.Origins.{lawful-both, messages-over, messages_after-same}
use Rattle.engine_core.specs.EngineState.{Represents}
use Rattle.recovery_core.specs.declared.recovery.Recovery.{Recovery}
use Rattle.recovery_core.specs.Damage.{IsDamagedAt}
use Rattle.recovery_core.specs.Origins.{IsReadFrom, again, hello_after, newest_of, opening, origin_of}
use Rattle.recovery_core.specs.Recoveries.{IsReadThrough, Recovers, StarvesAgain, StarvesOn}
use Rattle.recovery_core.specs.Starved.{StarvedAtBase, StarvedAtRecord, StarvedBehind}
use Rattle.recovery_core.proofs.Behind.{again_whole, represents_whole, same_origin}
use Rattle.recovery_core.proofs.OneDamage.{IsBehind, behind_held, covers_damaged, lawful_few}

-- The last base of a disk

pub read_from : {scan : ScanState} {batches : List (List Record)} {disk : List ℕ} → HasRead scan batches disk → IsReadFrom scan.base disk
read_from {scan} {batches} read = record { capacity = scan.capacity; gate = scan.gate; batches = batches; rest = scan.ahead ++ read.rest; leads = read.leads }

pub one_base : {base base' : Option Base} {disk : List ℕ} → IsReadFrom base disk → IsReadFrom base' disk → base ≡ base'
one_base {disk = disk} p q = (one_start.base disk _ _ _ _ _ _ _ _ _ _ p.leads q.leads).1

-- a disk that holds a lawful list has one, and a part of the list stands behind it
pub held_from : {disk : List ℕ} {capacity : ℕ} {held : List Record} → Holds disk capacity held → IsLawful capacity held → (base : Option Base) × IsReadFrom base disk × IsBehind held base disk
held_from {disk} {capacity} {held} holds lawful =
    let start = readable.start disk capacity held holds (lawful_few capacity held lawful) in
    (start.1, record { capacity = capacity; gate = start.0; batches = []; rest = start.2; leads = start.3 }, behind_held holds start.3)

-- damage stands behind it
pub damaged_base : {capacity at : ℕ} {base base' : Option Base} {before : List Record} {disk : List ℕ} → IsDamagedAt capacity at base before disk → IsReadFrom base' disk → base ≡ base'
damaged_base (inl none) q = absurd (unreadable_led none.unreadable q.leads)
damaged_base {disk = disk} (inr d) q = (one_start.base disk _ _ _ _ _ _ _ _ _ _ d.leads q.leads).1

pub damaged_headed : {capacity at : ℕ} {base : Option Base} {before : List Record} {disk : List ℕ} → IsDamagedAt capacity at base before disk → HasNoHeader disk → ⊥
damaged_headed {capacity} {at} {disk = disk} (inl none) missing = one_start.header disk capacity at none.unreadable missing
damaged_headed (inr d) missing = headed d.leads.walk.walked.header missing

pub based_headed : {disk : List ℕ} → HasBase disk → HasNoHeader disk → ⊥
based_headed has missing = headed has.walk.walked.header missing

pub origin_messages : (base : Option Base) → (origin_of base).messages ≡ messages_before base
origin_messages None = refl
origin_messages (Some b) = refl

-- Want of memory

pub short_held : {workers : ℕ} {from : Option ℕ} {begin : Option (List ℕ)} {disk : List ℕ} (new : Outside) {capacity : ℕ} {held : List Record} → Holds disk capacity held → StarvesOn workers from begin disk new
    → StarvedAtBase disk begin new.sent ⊎ StarvedBehind workers from disk held begin new.sent
short_held new holds (inl short) = inl short
short_held new holds (inr (base, last, hungry)) =
    let behind = behind_held holds last.leads in
    inr (record { base = base; last = last; before = behind.before; passed = behind.passed; later = behind.later; parts = behind.whole; short = hungry behind.later behind.covers })

pub short_damaged : {workers : ℕ} (from : Option ℕ) {begin : Option (List ℕ)} {disk : List ℕ} (new : Outside) {capacity at : ℕ} {base : Option Base} {before : List Record} → IsDamagedAt capacity at base before disk
    → StarvesOn workers from begin disk new → StarvedAtBase disk begin new.sent ⊎ StarvedAtRecord workers (again from base) before begin new.sent
short_damaged from new damage (inl short) = inl short
short_damaged {workers} from {begin} {disk} new {base = base} {before = before} damage (inr (other, last, hungry)) =
    let same : base ≡ other = damaged_base damage last in
    inr (subst (λ (b : Option Base). StarvesAgain workers from b begin disk new) (sym same) hungry before (covers_damaged damage))

-- A lawful list that the disk holds

lawful_first : (capacity : ℕ) (later before : List Record) → IsLawful capacity (later ++ before) → IsLawful capacity before
lawful_first capacity [] before lawful = lawful
lawful_first capacity (x ∷ later) before lawful = lawful_first capacity later before lawful.1

-- how many records and messages there are behind a base are those of the whole list
hello_whole : (base : Option Base) (later before : List Record) → IsPassed base before → hello_after (origin_of base) later ≡ hello (later ++ before)
hello_whole base later before is =
    let same = same_origin base before is in
    let records : (origin_of base).records + length later ≡ length (later ++ before) = omega (arith, same.records_are, length-append later before) in
    let messages : (origin_of base).messages + length (messages_after (origin_of base) later) ≡ length (messages_of (later ++ before)) = omega (
      arith,
      same.messages_are,
      ap length (messages_after-same (origin_of base) (whole before) later same),
      ap length (messages-over later before),
      length-append (messages_of before) (messages_after (whole before) later),
    ) in
    λ i. Hello (records i) (messages i)

-- the newest record behind a base is that of the whole list
newest_whole : (base : Option Base) (later before : List Record) → IsPassed base before → newest_of base later ≡ newest_of None (later ++ before)
newest_whole base (x ∷ later) before is = refl
newest_whole None [] before none = ap (newest_of None) (sym none)
newest_whole (Some b) [] before is = ap (newest_of None) (sym (is_base before b is).list)

module _ {text : Option Base → List Record → List ℕ} {begin : Option (List ℕ)} {disk : List ℕ} {recovery : Recovery} {now : Outside} (r : Recovers text begin disk recovery now) where
  -- where the disk holds a list, it is what was read and what the base stands for
  module _ {capacity : ℕ} {held : List Record} (holds : Holds disk capacity held) (is_closed : IsTrue recovery.scan.is_closed) where
    pub whole_read : (recovery.scan.capacity ≡ capacity) × IsReadOf held recovery.scan r.batches
    whole_read = readable.all disk capacity held recovery.scan r.batches holds r.read

    pub capacity_is : recovery.scan.capacity ≡ capacity
    capacity_is = whole_read.0

    pub held_is : held ≡ records_of r.batches ++ whole_read.1.before
    held_is = whole_read.1.all is_closed

    pub held_represents : IsLawful capacity held → Represents recovery.engine recovery.scan.capacity held held
    held_represents lawful =
        let before = whole_read.1.before in
        subst (λ (l : List Record). Represents recovery.engine recovery.scan.capacity l l) (sym held_is)
        (represents_whole capacity before whole_read.1.passed (lawful_first capacity (records_of r.batches) before (subst (IsLawful capacity) held_is lawful)) r.admits)

    pub held_newest : recovery.newest ≡ newest_of None held
    held_newest = r.newest_is ∙ newest_whole recovery.scan.base (records_of r.batches) whole_read.1.before whole_read.1.passed ∙ ap (newest_of None) (sym held_is)

    pub held_opening : (from : Option ℕ) → opening from recovery.scan.base (records_of r.batches) ≡ spelled (sent_above (messages_before recovery.scan.base) from held) ++ spelling (hello held)
    held_opening from =
        let before = whole_read.1.before in
        let first = again_whole from recovery.scan.base (records_of r.batches) before whole_read.1.passed in
        (λ i. first i ++ spelling (hello_whole recovery.scan.base (records_of r.batches) before whole_read.1.passed i))
        ∙ (λ i. spelled (sent_above (origin_messages recovery.scan.base i) from (sym held_is i)) ++ spelling (hello (sym held_is i)))

-- A disk without a base that was read to its end

turn_of_batches : (behind : Bool) (batches : List (List Record)) → AreInTurn behind (map mark_of (map block_of batches))
turn_of_batches behind [] = tt
turn_of_batches behind (batch ∷ batches) = (refl, turn_of_batches true batches)

batches_lead : (batches : List (List Record)) (held : List Record) → All IsBatch batches → AddBlocks (map block_of batches) held (records_of batches ++ held)
batches_lead [] held valid = refl
batches_lead (batch ∷ batches) held valid = (
  with_batch held batch,
  (batch, All-head IsBatch batch batches valid, refl, refl),
  subst (λ (l : List Record). AddBlocks (map block_of batches) (with_batch held batch) l) (sym same) (batches_lead batches (with_batch held batch) (All-tail IsBatch batch batches valid)),
)
  where
    same : records_of (batch ∷ batches) ++ held ≡ records_of batches ++ (reverse batch ++ held)
    same =
        ap (λ (l : List Record). l ++ held) (records_first (batch ∷ []) batches ∙ ap (λ (l : List Record). records_of batches ++ reverse l) (append-nil batch))
        ∙ append_assoc (records_of batches) (reverse batch) held

held_by : {capacity gate : ℕ} {batches : List (List Record)} {disk rest : List ℕ} → LeadsTo capacity gate None batches disk (0 ∷ rest) → Holds disk capacity (records_of batches)
held_by {capacity} {gate} {batches} {disk} {rest} p = record {
  gate = gate;
  held = record {
    blocks = map block_of batches;
    rest = rest;
    passes = rw (p.ends) at (all_passed p);
    in_turn = turn_of_batches false batches;
    adds = subst (λ (l : List Record). AddBlocks (map block_of batches) [] l) (append-nil (records_of batches)) (batches_lead batches [] (batches_valid batches p.prefix p.spelled));
  };
}

lawful_whole : (capacity : ℕ) (records : List Record) → IsLawfulAfter (origin_of None) capacity records → IsLawful capacity records
lawful_whole capacity records lawful = subst (IsLawful capacity) (append-nil records) (lawful-both capacity records [] lawful tt)

pub read_through : {text : Option Base → List Record → List ℕ} {begin : Option (List ℕ)} {disk : List ℕ} {recovery : Recovery} {now : Outside} → Recovers text begin disk recovery now → IsTrue recovery.scan.is_closed
    → IsReadThrough disk
read_through {disk = disk} {recovery = recovery} r is_closed =
    let zero = r.read.closed is_closed in
    let scan = recovery.scan in
    let leads : LeadsTo scan.capacity scan.gate scan.base r.batches disk (0 ∷ zero.0) = subst (λ (l : List ℕ). LeadsTo scan.capacity scan.gate scan.base r.batches disk l) zero.1 r.read.leads in
    record {
      capacity = scan.capacity;
      gate = scan.gate;
      base = scan.base;
      batches = r.batches;
      rest = zero.0;
      leads = leads;
      lawful = r.admits.lawful;
      whole = λ none. (
        held_by (subst (λ (b : Option Base). LeadsTo scan.capacity scan.gate b r.batches disk (0 ∷ zero.0)) none leads),
        lawful_whole scan.capacity (records_of r.batches) (subst (λ (b : Option Base). IsLawfulAfter (origin_of b) scan.capacity (records_of r.batches)) none r.admits.lawful),
      );
    }
