-- What a standby did, whatever ended it.
use Rattle.std.proofs.Common.{◌≡◌, ◌≢◌, ◌⊎◌, inl, inr, ⊎_elim, ℕ, ◌+◌, List, [], ◌++◌, length, take, drop, refl, sym, ap, subst, ◌∙◌, append_assoc, arith}
use Rattle.std.specs.Prelude.{Option, Some}
use Rattle.std.proofs.lemmas.List.{append-nil, take-append-drop}
use Rattle.host_core.specs.declared.status.Status.{Status}
use Rattle.host_core.specs.declared.status.Status.TheVariants.{ReadFault, SendFault, DiskFault, Damaged, NoJournal, NoMemory}
use Rattle.host_core.specs.Outside.{Outside, Agrees, MayLeave, Elapses, Ends, IsSettled, Stays, Continues}
use Rattle.host_core.proofs.Causes.{faultless, no_fault}
use Rattle.host_core.proofs.Chains.{reads_nothing}
use Rattle.host_core.proofs.Moments.{widened, goes_on, returned, further}
use Rattle.wire_in.specs.Cutting.{bodies_of}
use Rattle.wire_in.specs.declared.base.Base.{Base}
use Rattle.wire_in.specs.declared.record.Record.{Record}
use Rattle.journal_core.specs.Extended.{Extends}
use Rattle.journal_core.specs.Layout.{Holds}
use Rattle.journal_core.specs.Walk.{HasBase, HasNoHeader}
use Rattle.journal_core.proofs.Extending.{extends_on, extends_same}
use Rattle.journal_core.proofs.Readable.{readable}
use Rattle.stream_core.specs.Asking.{Prompt}
use Rattle.stream_core.specs.Pending.{SentPrefix}
use Rattle.stream_core.specs.Taking.{ReadsAtMost}
use Rattle.stream_core.proofs.Asking.{more_asks, no_ask}
use Rattle.stream_core.proofs.Taken.{takes_between, takes_none}
use Rattle.engine_core.specs.Ends.{Told}
use Rattle.recovery_core.specs.Damage.{IsDamagedAt}
use Rattle.recovery_core.specs.Ends.{TellsDamage}
use Rattle.recovery_core.specs.Recoveries.{HasDamage, Hinders, IsReadThrough}
use Rattle.recovery_core.proofs.OneDamage.{lawful_undamaged, one_damage, read_headed, read_undamaged}
use Rattle.recovery_core.proofs.Recovering.{why_at}
use Rattle.standby_core.specs.declared.standing.Standby.{Standby}
use Rattle.standby_core.specs.Kept.{replies}
use Rattle.standby_core.specs.Running.{HasBegun, HasTaken, IsOpened, IsUnopened, Takes}
use Rattle.standby_core.specs.StoodBy.{Begin, Begins, IsAnswer, IsLeftAlone, IsSafe, IsSafeOrPending, IsUnbegun, StoodBy, held_after, replies_to}
use Rattle.standby_core.proofs.OneFrame.{replies-append}
use Rattle.standby_core.proofs.Opened.{one_disk, unopened_at_once}

-- The stops

-- while the disk is only read
still_pending : {begin : Begin} {input : List ℕ} {old mid : Outside} → Begins begin input old → Elapses old mid (Stays old) → (bodies : List (List ℕ)) → Elapses old mid (IsSafeOrPending old begin bodies)
still_pending {begin} {old = old} begins run bodies = widened run (IsSafeOrPending old begin bodies) (λ image bytes stays. inr (record { was = stays.was; unsent = stays.sent begin.sent begins.sent_known }))

-- where nothing was pending, each stop is safe
settle : {begin : Begin} {input : List ℕ} (start : Outside) → Begins begin input start → IsSettled start → (bodies : List (List ℕ)) (image bytes : List ℕ)
    → IsSafeOrPending start begin bodies image bytes → IsSafe begin bodies image bytes
settle start begins settled bodies image bytes (inl safe) = safe
settle {begin} start begins settled bodies image bytes (inr pending) = record {
  count = 0;
  within = omega arith;
  holds = subst (λ (i : List ℕ). Holds i begin.capacity begin.held) (one_disk begins.disk_known (settled.only image pending.was)) begins.holds;
  since = [];
  unsent = [];
  sent = pending.unsent ∙ sym (append-nil begin.sent);
  prefix = refl;
}

-- what was sent at a stop
part_of_stop : (start : Outside) (begin : Begin) (bodies : List (List ℕ)) (image bytes : List ℕ) → IsSafeOrPending start begin bodies image bytes
    → SentPrefix (Some begin.sent) (Some bytes) (replies_to begin bodies)
part_of_stop start begin bodies image bytes (inl safe) =
    let first = take safe.count bodies in
    let later = drop safe.count bodies in
    let more = replies begin.capacity (1 + length first) (held_after begin first) later in
    record {
      since = safe.since;
      unsent = safe.unsent ++ more;
      sent = ap (λ (b : List ℕ). Some b) safe.sent;
      prefix = sym (append_assoc safe.since safe.unsent more) ∙ ap (λ (b : List ℕ). b ++ more) safe.prefix
          ∙ sym (replies-append begin.capacity 1 begin.held first later) ∙ ap (λ (b : List (List ℕ)). replies_to begin b) (take-append-drop safe.count bodies);
    }
part_of_stop start begin bodies image bytes (inr pending) =
    record { since = []; unsent = replies_to begin bodies; sent = ap (λ (b : List ℕ). Some b) (pending.unsent ∙ sym (append-nil begin.sent)); prefix = refl }

-- The answers

answers : (status : Status) (old new : Outside) → Told status old new → IsAnswer status
answers status old new told = grind arith

tells_damage : (damaged : ℕ → Type 0) (missing starved : Type 0) (s : Status) (old new : Outside) (at : ℕ) → Hinders damaged missing starved s old new → ¬ missing → ((other : ℕ) → damaged other → other ≡ at)
    → TellsDamage at s
tells_damage damaged missing starved (Damaged other) old new at why has offset = inl (ap (λ (k : ℕ). Damaged k) (offset other why.1))
tells_damage damaged missing starved s old new at why has offset = grind arith

module _ (here : Type 0) (batch most : ℕ) (status : Status) (old new : Outside)
    (sent_now : (image bytes : List ℕ) → new.leaves new.moment image bytes → Agrees new.sent bytes) (read_passes : (disk : List ℕ) → new.disk ≡ Some disk → MayLeave new disk) where
  -- all was left alone where the journal was not opened
  left_alone : IsUnopened here status old new → IsLeftAlone old new
  left_alone u = record {
    input = u.reads.input;
    sent = u.reads.sent;
    disk = u.reads.disk;
    moments = widened u.reads.moments _ (λ image bytes stays. (stays.was, stays.sent));
  }

  -- A standby, by its stops and its status, and by what it left where no journal was opened.
  module _ (moments : (begin : Begin) (input : List ℕ) → Begins begin input old → Elapses old new (IsSafeOrPending old begin (bodies_of (take most input)))) (continues : Continues old new) (told : Told status old new)
      (unbegun : IsUnbegun status → IsUnopened here status old new) (unsound : (disk : List ℕ) → old.disk ≡ Some disk → ¬ IsReadThrough disk → IsUnopened here status old new) where
    told_at : (s : Status) → status ≡ s → Told s old new
    told_at s is = subst (λ s. Told s old new) is told

    ends : (begin : Begin) (input : List ℕ) → Begins begin input old → Ends (IsSafeOrPending old begin (bodies_of (take most input))) new
    ends begin input begins = returned (moments begin input begins) continues sent_now read_passes begins.disk begin.sent begins.disk_known begins.sent_known

    part : (begin : Begin) (input : List ℕ) → Begins begin input old → SentPrefix old.sent new.sent (replies_to begin (bodies_of (take most input)))
    part begin input begins =
        let e = ends begin input begins in
        rw (begins.sent_known, e.sent_known) (part_of_stop old begin (bodies_of (take most input)) e.image e.bytes e.left)

    headless : (disk : List ℕ) → old.disk ≡ Some disk → HasNoHeader disk → IsUnopened here status old new
    headless disk known none = unsound disk known (λ read. read_headed read none)

    damaged : {capacity at : ℕ} {base : Option Base} {before : List Record} {disk : List ℕ} → old.disk ≡ Some disk → IsDamagedAt capacity at base before disk → IsUnopened here status old new
    damaged {disk = disk} known damage = unsound disk known (λ read. read_undamaged damage read)

    -- why it was not opened
    why : (s : Status) → status ≡ s → IsUnbegun s → Hinders (λ at. (disk : List ℕ) → old.disk ≡ Some disk → HasDamage at disk) ((disk : List ℕ) → old.disk ≡ Some disk → HasNoHeader disk)
        (here ⊎ ((disk : List ℕ) → old.disk ≡ Some disk → HasBase disk)) s old new
    why s is un = why_at _ _ _ old new s is (unbegun (subst IsUnbegun (sym is) un)).hinders

    undamaged : (begin : Begin) (input : List ℕ) → Begins begin input old → (at : ℕ) → status ≢ Damaged at
    undamaged begin input begins at is = lawful_undamaged ((why (Damaged at) is tt).1 begins.disk begins.disk_known).3 begins.holds begins.lawful

    unread : (begin : Begin) (input : List ℕ) → Begins begin input old → status ≢ NoJournal
    unread begin input begins is = readable.header begins.disk begin.capacity begin.held begins.holds ((why NoJournal is tt).1 begins.disk begins.disk_known)

    stood : ((begin : Begin) (input : List ℕ) → Begins begin input old → Takes begin input most status old new) → Extends batch old new → ReadsAtMost most old.input new.input → StoodBy here batch most status old new
    stood takes extends bytes = record {
      moments = moments;
      settled = λ begin input begins settled. widened (moments begin input begins) _ (settle old begins settled (bodies_of (take most input)));
      at_return = ends;
      exact = λ begin input begins. (takes begin input begins).exact;
      unread = λ begin input begins. (takes begin input begins).unread;
      part = part;
      prompt = λ begin input begins.
          subst (λ (sent : Option (List ℕ)). Prompt (λ read. replies_to begin (bodies_of read)) sent input old.asks new.asks) (sym begins.sent_known) (takes begin input begins).prompt;
      short = λ disk known is. ⊎_elim (λ now. inl now) (λ has. inr (record { base = has disk known; unsent = (unbegun (subst IsUnbegun (sym is) tt)).reads.sent })) (why NoMemory is tt).1;
      alone = λ un. left_alone (unbegun un);
      no_journal = λ is. (why NoJournal is tt).1;
      no_header = λ disk known none. ((headless disk known none).no_header disk known none, left_alone (headless disk known none));
      no_header_starved = λ disk known none. (headless disk known none).no_header_starved disk known none;
      damaged = λ at is. (why (Damaged at) is tt).1;
      undamaged = undamaged;
      damage_is_told = λ capacity at base before disk known damage has.
          tells_damage _ _ _ status old new at (damaged known damage).hinders (λ missing. has (missing disk known)) (λ other there. one_damage (there disk known).3 damage);
      damage_is_left = λ capacity at base before disk known damage. left_alone (damaged known damage);
      extends = extends;
      bytes = bytes;
      complete = λ begin input begins memory no_reads no_sends no_disks.
          let journal = unread begin input begins in
          grind (arith, told, journal, undamaged begin input begins, memory, no_reads, no_sends, no_disks);
      read_cause = told_at ReadFault;
      send_cause = told_at SendFault;
      disk_cause = told_at DiskFault;
      memory = told_at NoMemory;
      kind = answers status old new told;
      continues = continues;
    }

  -- A standby whose journal was not opened.
  pub unopened_stood : IsUnopened here status old new → StoodBy here batch most status old new
  unopened_stood u =
      stood (λ begin input begins. still_pending begins u.reads.moments (bodies_of (take most input))) u.reads.continues (grind (arith, u.hinders)) (λ un. u) (λ disk known un. u)
      (λ begin input begins. record {
        exact = λ end. absurd (grind (arith, u.hinders));
        unread = λ is. absurd (why_at _ _ _ old new ReadFault is u.hinders);
        prompt = no_ask (λ read. replies_to begin (bodies_of read)) (Some begin.sent) input u.reads.asks;
      })
      (extends_same u.reads.disk u.reads.continues.storing) (takes_none most old.input new.input u.reads.input)

  -- A standby that took its input.
  module _ {mid : Outside} (standby : Standby) (o : IsOpened standby old mid) (t : HasTaken most standby status mid new) (frames : standby.round.most ≡ batch) where
    has_begun : (begin : Begin) (input : List ℕ) → Begins begin input old → HasBegun begin input most standby mid
    has_begun begin input begins = record { input_left = o.reads.input ∙ begins.input_known; there = omega arith; reads = o.follows begin input most begins }

    takes : (begin : Begin) (input : List ℕ) → Begins begin input old → Takes begin input most status old new
    takes begin input begins =
        let taken = t.takes begin input (has_begun begin input begins) in
        record {
          exact = taken.exact;
          unread = taken.unread;
          prompt = more_asks (λ read. replies_to begin (bodies_of read)) (Some begin.sent) input (no_ask (λ read. replies_to begin (bodies_of read)) (Some begin.sent) input o.reads.asks) taken.prompt;
        }

    pub taken_stood : StoodBy here batch most status old new
    taken_stood =
        stood (λ begin input begins. goes_on (still_pending begins o.reads.moments (bodies_of (take most input))) (t.moments begin input (has_begun begin input begins)) (λ image bytes safe. inl safe))
        (further o.reads.continues t.continues) (grind (arith, faultless, o.none, t.told)) (λ un. absurd (t.begun un)) (λ disk known un. absurd (un (o.sound disk known)))
        takes (extends_on batch old mid new (extends_same o.reads.disk o.reads.continues.storing) (subst (λ (n : ℕ). Extends n mid new) frames t.extends)) (takes_between most old.input mid.input new.input new.input o.reads.input refl t.bytes)

-- memory ran out before anything happened
pub roomless : (here : Type 0) → here → (now : Outside) → ((image bytes : List ℕ) → now.leaves now.moment image bytes → Agrees now.sent bytes) → IsUnopened here NoMemory now now
roomless here before now sent_now = unopened_at_once here NoMemory (reads_nothing now sent_now) (inl (inr (inr refl))) (no_fault now, inl before)
