-- Adding a base to a journal, from its parts.
use Rattle.std.proofs.Common.{◌≡◌, ◌≢◌, ◌⊎◌, inl, inr, ⊎_elim, ℕ, Bool, true, false, true≢false, List, [], ◌∷◌, refl, sym, ap, subst, ◌∙◌, arith}
use Rattle.std.specs.Prelude.{Option, Some, None, IsTrue}
use Rattle.host_core.specs.declared.status.Status.{Status}
use Rattle.host_core.specs.declared.status.Status.TheVariants.{Done, SendFault, DiskFault, Damaged, NoJournal, NoMemory, NotAtDay}
use Rattle.host_core.specs.Outside.{Outside, Agrees, Changes, MayLeave, Elapses, IsSettled, NoFault}
use Rattle.host_core.specs.Frames.{OnlyReadsDisk}
use Rattle.host_core.proofs.Moments.{ended, further, goes_on, nothing, widened}
use Rattle.host_core.proofs.Causes.{faultless, no_fault}
use Rattle.host_core.proofs.Chains.{reads_nothing, reads_on, writes_nothing}
use Rattle.host_core.proofs.Known.{still_known}
use Rattle.wire_in.specs.Bases.{IsInRange}
use Rattle.wire_in.specs.Records.{is_day}
use Rattle.wire_in.specs.declared.base.Base.{Base}
use Rattle.wire_in.specs.declared.record.Record.{Record}
use Rattle.journal_core.specs.Journal.{JournalState, IsAtRest, Represents}
use Rattle.journal_core.specs.Layout.{Holds}
use Rattle.journal_core.specs.Scan.{HasRead, is_rolled}
use Rattle.journal_core.specs.Walk.{HasBase, HasNoHeader}
use Rattle.journal_core.proofs.Readable.{readable}
use Rattle.rulebook.specs.Base.{base_of}
use Rattle.evaluator_core.specs.Evaluating.{workers_of}
use Rattle.engine_core.specs.EngineState as engines
use Rattle.recovery_core.specs.declared.recovery.Recovery.{Recovery}
use Rattle.recovery_core.specs.Damage.{IsDamagedAt}
use Rattle.recovery_core.specs.Ends.{TellsDamage, TellsNoStart}
use Rattle.recovery_core.specs.Held.{IsHeld}
use Rattle.recovery_core.specs.Origins.{again, newest_of}
use Rattle.recovery_core.specs.Recoveries.{HasDamage, Hinders, IsReadThrough, Recovers, StarvesAgain, StarvesOn}
use Rattle.recovery_core.proofs.Held.{based_headed, capacity_is, damaged_headed, held_newest, held_represents, read_from, read_through, short_damaged, short_held}
use Rattle.recovery_core.proofs.OneDamage.{lawful_undamaged, one_damage, read_headed, read_undamaged}
use Rattle.recovery_core.proofs.Recovering.{hinders_on, why_at}
use Rattle.roll_core.specs.InternalRoll.{Adds, AddsBase, IsAdded, IsAllRead, IsBaseFor, IsGathered, IsUngathered}
use Rattle.roll_core.specs.Rolled.{IsRoll, IsRollAtDay, IsRollElsewhere, IsRolled, LeavesList, Rolled, is_at_day}
use Rattle.roll_core.proofs.LastBlock.{held_base, rolled_journal, rolled_scan}

one_disk : {known : Option (List ℕ)} {a b : List ℕ} → known ≡ Some a → known ≡ Some b → a ≡ b
one_disk first second = cc

-- what holds of the disk holds of each image that a stop may leave, where nothing is pending
settled_holds : {capacity : ℕ} {held : List Record} {now : Outside} → IsHeld capacity held now → IsSettled now → {image : List ℕ} → MayLeave now image → Holds image capacity held
settled_holds {capacity} {held} h settled {image} left = subst (λ (d : List ℕ). Holds d capacity held) (one_disk h.known (settled.only image left)) h.holds

-- Reading it

start_unsent : {status : Status} → TellsNoStart status → status ≢ SendFault
start_unsent (inl (inl told)) is = cc (told, is)
start_unsent (inl (inr (inl told))) is = cc (told, is)
start_unsent (inl (inr (inr told))) is = cc (told, is)
start_unsent (inr (at, told)) is = cc (told, is)

-- no journal was begun
pub ungathered_at_once : (here : Type 0) (status : Status) {old mid : Outside} → OnlyReadsDisk old mid → TellsNoStart status
    → Hinders (λ at. (disk : List ℕ) → mid.disk ≡ Some disk → HasDamage at disk) ((disk : List ℕ) → mid.disk ≡ Some disk → HasNoHeader disk)
    (here ⊎ ((disk : List ℕ) → mid.disk ≡ Some disk → HasBase disk)) status old mid → IsUngathered here status old mid
ungathered_at_once here status {old} {mid} reads tells why = record {
  no_header = λ disk known missing.
      ⊎_elim (λ told. told) (λ there. absurd (damaged_headed ((why_at _ _ _ old mid (Damaged there.0) there.1 why).1 disk (reads.disk ∙ known)).3 missing)) tells;
  no_header_starved = λ disk known missing is. ⊎_elim (λ now. now) (λ has. absurd (based_headed (has disk (reads.disk ∙ known)) missing)) (why_at _ _ _ old mid NoMemory is why).1;
  unsent = start_unsent tells;
  reads = reads;
  hinders = hinders_on _ _ (no_fault old) (λ at there disk known. there disk (reads.disk ∙ known)) (λ missing disk known. missing disk (reads.disk ∙ known))
      (⊎_elim (λ before. inl before) (λ has. inr (λ disk known. inl (record { base = has disk (reads.disk ∙ known); unsent = reads.sent })))) why;
}

-- A journal was begun, and then read.
module _ {old mid new : Outside} {recovery : Recovery} (first : OnlyReadsDisk old mid) (none : NoFault old mid)
    (begun : (from : Option ℕ) (disk : List ℕ) → mid.disk ≡ Some disk → Recovers (again from) mid.sent disk recovery mid) (second : OnlyReadsDisk mid new) where
  pub begun_at : (disk : List ℕ) → old.disk ≡ Some disk → Recovers (again None) old.sent disk recovery mid
  begun_at disk known = subst (λ b. Recovers (again None) b disk recovery mid) first.sent (begun None disk (first.disk ∙ known))

  -- but not to its end
  pub ungathered : (here : Type 0) (status : Status) → status ≢ SendFault → workers_of recovery.engine.evaluator ≡ 1 → ((disk : List ℕ) → mid.disk ≡ Some disk → ¬ HasNoHeader disk)
      → Hinders (λ at. (begin : Option (List ℕ)) (disk : List ℕ) → Recovers (again None) begin disk recovery mid → HasDamage at disk) ⊥
      ((begin : Option (List ℕ)) (disk : List ℕ) → Recovers (again None) begin disk recovery mid → StarvesAgain (workers_of recovery.engine.evaluator) None recovery.scan.base begin disk new) status mid new
      → IsUngathered here status old new
  ungathered here status unsent alone header why = record {
    no_header = λ disk known missing. absurd (header disk (first.disk ∙ known) missing);
    no_header_starved = λ disk known missing is. absurd (header disk (first.disk ∙ known) missing);
    unsent = unsent;
    reads = reads_on first second;
    hinders = hinders_on _ _ none (λ at there disk known. there old.sent disk (begun_at disk known)) (λ missing. absurd missing)
        (λ hungry. inr (λ disk known.
        let there = begun_at disk known in
        inr (recovery.scan.base, read_from there.read, subst (λ (n : ℕ). StarvesAgain n None recovery.scan.base old.sent disk new) alone (hungry old.sent disk there)))) why;
  }

-- Adding the base

-- at each stop the image holds the list, and nothing more was sent
pub both_moments : {old new : Outside} {P : List ℕ → Type 0} {change : List ℕ → List ℕ → Type 0} → Elapses old new (λ image bytes. P image) → Elapses old new (Changes change old) → Elapses old new (λ image bytes. P image × Agrees old.sent bytes)
both_moments holds within = record {
  later = holds.later;
  kept = holds.kept;
  no_more = holds.no_more;
  during = λ image bytes stop. (holds.during image bytes stop, (within.during image bytes stop).sent);
}

-- the first of a list, by the newest that was read
first_is : (held : List Record) (x : Record) → Some x ≡ newest_of None held → (earlier : List Record) × (held ≡ x ∷ earlier)
first_is [] x is = absurd cc
first_is (y ∷ earlier) x is = let same : y ≡ x = cc in (earlier, ap (λ (z : Record). z ∷ earlier) same)

none_first : (held : List Record) → None ≡ newest_of None held → is_at_day held ≡ false
none_first [] is = refl
none_first (y ∷ earlier) is = absurd cc

-- All of the journal was read.
module _ {recovery : Recovery} (is_closed : IsTrue recovery.scan.is_closed) {old : Outside} where
  newest_none : recovery.newest ≡ None → (capacity : ℕ) (held : List Record) → IsAllRead capacity held recovery old → is_at_day held ≡ false
  newest_none none capacity held a = none_first held (sym none ∙ held_newest a.recovers a.is_held.holds is_closed)

  newest_some : {x : Record} → recovery.newest ≡ Some x → (capacity : ℕ) (held : List Record) → IsAllRead capacity held recovery old → (earlier : List Record) × (held ≡ x ∷ earlier)
  newest_some {x} some capacity held a = first_is held x (sym some ∙ held_newest a.recovers a.is_held.holds is_closed)

  newest_day : {x : Record} (answer : Bool) → recovery.newest ≡ Some x → is_day x ≡ answer → (capacity : ℕ) (held : List Record) → IsAllRead capacity held recovery old → is_at_day held ≡ answer
  newest_day answer some day capacity held a = ap is_at_day (newest_some some capacity held a).1 ∙ day

  -- what the engine gives as the base is that of the list
  base_is : {x : Record} {b : Base} → recovery.newest ≡ Some x → is_day x ≡ true → IsBaseFor recovery.engine x b → (capacity : ℕ) (held : List Record) → IsAllRead capacity held recovery old → base_of held ≡ Some b
  base_is {x} {b} some day made capacity held a =
      let first = newest_some some capacity held a in
      let engine = held_represents a.recovers a.is_held.holds is_closed a.is_held.lawful in
      subst (λ (l : List Record). base_of l ≡ Some b) (sym first.1)
      (made.of_list recovery.scan.capacity first.0 day (subst (λ (l : List Record). engines.Represents recovery.engine recovery.scan.capacity l l) first.1 engine))

  -- The host is left alone.
  module _ (sent_now : (image bytes : List ℕ) → old.leaves old.moment image bytes → Agrees old.sent bytes) where
    stays : (capacity : ℕ) (held : List Record) → IsAllRead capacity held recovery old → Elapses old old (λ image bytes. Holds image capacity held × Agrees old.sent bytes)
    stays capacity held a = widened (nothing old sent_now) (λ image bytes. Holds image capacity held × Agrees old.sent bytes) (λ image bytes stop. (settled_holds a.is_held a.recovers.rests.settled stop.was, stop.sent))

    -- since no day was read last
    adds_elsewhere : ((capacity : ℕ) (held : List Record) → IsAllRead capacity held recovery old → is_at_day held ≡ false) → Adds recovery NotAtDay old old
    adds_elsewhere no_day = record {
      moments = stays;
      exact = λ capacity held a is. absurd cc;
      again = λ capacity held a rolled. reads_nothing old sent_now;
      day = λ capacity held a other. absurd (other refl);
      no_day = λ capacity held a is. no_day capacity held a;
      undamaged = λ capacity held a at is. cc is;
      unwritten = λ not_done not_fault. reads_nothing old sent_now;
      keeps = writes_nothing old;
      ends = no_fault old;
    }

    pub adds_to_none : recovery.newest ≡ None → Adds recovery NotAtDay old old
    adds_to_none none = adds_elsewhere (newest_none none)

    pub adds_to_other : {x : Record} → recovery.newest ≡ Some x → is_day x ≡ false → Adds recovery NotAtDay old old
    adds_to_other some other = adds_elsewhere (newest_day false some other)

    module _ {x : Record} (some : recovery.newest ≡ Some x) (day : is_day x ≡ true) where
      -- since it ends with its base
      pub adds_again : (journal : JournalState) → journal.capacity ≡ recovery.scan.capacity
          → ((batches : List (List Record)) (disk : List ℕ) (capacity : ℕ) (records : List Record) → HasRead recovery.scan batches disk → Holds disk capacity records → Represents journal records disk)
          → journal.rolled ≡ true → Adds recovery Done old old
      adds_again journal limit keeps rolled = record {
        moments = stays;
        exact = λ capacity held a is disk known.
            subst (IsRolled capacity held) (one_disk a.is_held.known known)
            (rolled_journal journal (limit ∙ capacity_is a.recovers a.is_held.holds is_closed) a.is_held.lawful (keeps a.recovers.batches a.is_held.disk capacity held a.recovers.read a.is_held.holds) rolled);
        again = λ capacity held a was. reads_nothing old sent_now;
        day = λ capacity held a other. newest_day true some day capacity held a;
        no_day = λ capacity held a is. cc is;
        undamaged = λ capacity held a at is. cc is;
        unwritten = λ not_done not_fault. reads_nothing old sent_now;
        keeps = writes_nothing old;
        ends = no_fault old;
      }

      -- since memory is short
      pub adds_starved : Adds recovery NoMemory old old
      adds_starved = record {
        moments = stays;
        exact = λ capacity held a is. absurd cc;
        again = λ capacity held a was. reads_nothing old sent_now;
        day = λ capacity held a other. newest_day true some day capacity held a;
        no_day = λ capacity held a is. cc is;
        undamaged = λ capacity held a at is. cc is;
        unwritten = λ not_done not_fault. reads_nothing old sent_now;
        keeps = writes_nothing old;
        ends = no_fault old;
      }

      -- since what it holds has no base in its ranges
      pub adds_unlawful : (at : ℕ) (b : Base) → IsBaseFor recovery.engine x b → (IsInRange b → ⊥) → Adds recovery (Damaged at) old old
      adds_unlawful at b made outside = record {
        moments = stays;
        exact = λ capacity held a is. absurd cc;
        again = λ capacity held a was. reads_nothing old sent_now;
        day = λ capacity held a other. newest_day true some day capacity held a;
        no_day = λ capacity held a is. cc is;
        undamaged = λ capacity held a other is. outside (held_base b a.is_held.holds a.is_held.lawful (base_is some day made capacity held a));
        unwritten = λ not_done not_fault. reads_nothing old sent_now;
        keeps = writes_nothing old;
        ends = no_fault old;
      }

  -- it is written
  module _ {x : Record} (some : recovery.newest ≡ Some x) (day : is_day x ≡ true) (journal : JournalState) (limit : journal.capacity ≡ recovery.scan.capacity) (fresh : journal.rolled ≡ false)
      (rolled_is : journal.rolled ≡ is_rolled recovery.scan.base recovery.scan.count)
      (keeps : (batches : List (List Record)) (disk : List ℕ) (capacity : ℕ) (records : List Record) → HasRead recovery.scan batches disk → Holds disk capacity records → Represents journal records disk) where
    at_rest : (capacity : ℕ) (held : List Record) → IsAllRead capacity held recovery old → IsAtRest journal held old
    at_rest capacity held a = record {
      settled = a.recovers.rests.settled;
      keeps = λ disk known.
          let there = one_disk a.is_held.known known in
          keeps a.recovers.batches disk capacity held (subst (λ (d : List ℕ). HasRead recovery.scan a.recovers.batches d) there a.recovers.read) (subst (λ (d : List ℕ). Holds d capacity held) there a.is_held.holds);
    }

    pub adds_base : {b : Base} {new : Outside} (status : Status) → IsBaseFor recovery.engine x b → AddsBase journal b status old new → Adds recovery status old new
    adds_base {b} {new} status made adds = record {
      moments = λ capacity held a.
          subst (λ (c : ℕ). Elapses old new (λ image bytes. Holds image c held × Agrees old.sent bytes)) (limit ∙ capacity_is a.recovers a.is_held.holds is_closed)
          (adds.moments held (at_rest capacity held a) (base_is some day made capacity held a));
      exact = λ capacity held a is disk known.
          let done = adds.done is held (at_rest capacity held a) (base_is some day made capacity held a) in
          rolled_journal done.0 (done.1 ∙ limit ∙ capacity_is a.recovers a.is_held.holds is_closed) a.is_held.lawful (done.3.keeps disk known) done.2;
      again = λ capacity held a was. absurd (true≢false (sym (rolled_scan a.recovers is_closed was) ∙ sym rolled_is ∙ fresh));
      day = λ capacity held a other. newest_day true some day capacity held a;
      no_day = λ capacity held a is. ⊎_elim (λ done. cc (done, is)) (λ fault. cc (fault, is)) adds.kind;
      undamaged = λ capacity held a at is. ⊎_elim (λ done. cc (done, is)) (λ fault. cc (fault, is)) adds.kind;
      unwritten = λ not_done not_fault. ⊎_elim (λ done. absurd (not_done done)) (λ fault. absurd (not_fault fault)) adds.kind;
      keeps = adds.keeps;
      ends = adds.ends;
    }

-- The whole command.

elsewhere : (damaged : ℕ → Type 0) (missing starved : Type 0) (old new : Outside) (s : Status) → ((at : ℕ) → ¬ damaged at) → ¬ missing → s ≢ SendFault → Hinders damaged missing starved s old new → IsRollAtDay s × IsRollElsewhere s
elsewhere damaged missing starved old new SendFault undamaged there unsent why = absurd (unsent refl)
elsewhere damaged missing starved old new DiskFault undamaged there unsent why = (tt, tt)
elsewhere damaged missing starved old new NoMemory undamaged there unsent why = (tt, tt)
elsewhere damaged missing starved old new NoJournal undamaged there unsent why = absurd (there why.1)
elsewhere damaged missing starved old new (Damaged at) undamaged there unsent why = absurd (undamaged at why.1)
elsewhere damaged missing starved old new s undamaged there unsent why = grind arith

hindered_kind : (damaged : ℕ → Type 0) (missing starved : Type 0) (old new : Outside) (s : Status) → s ≢ SendFault → Hinders damaged missing starved s old new → IsRoll s
hindered_kind damaged missing starved old new SendFault unsent why = absurd (unsent refl)
hindered_kind damaged missing starved old new s unsent why = grind arith

added_kind : (old new : Outside) (s : Status) → IsAdded s old new → IsRoll s
added_kind old new s ends = grind arith

added_at_day : (old new : Outside) (s : Status) → IsAdded s old new → s ≢ NotAtDay → ((at : ℕ) → s ≢ Damaged at) → IsRollAtDay s
added_at_day old new NotAtDay ends other undamaged = absurd (other refl)
added_at_day old new (Damaged at) ends other undamaged = absurd (undamaged at refl)
added_at_day old new s ends other undamaged = grind arith

added_elsewhere : (old new : Outside) (s : Status) → IsAdded s old new → (s ≢ NotAtDay → ⊥) → IsRollElsewhere s
added_elsewhere old new Done ends only = absurd (only (λ is. cc is))
added_elsewhere old new (Damaged at) ends only = absurd (only (λ is. cc is))
added_elsewhere old new s ends only = grind arith

module _ (here : Type 0) (status : Status) (old new : Outside) where
  -- it was not read to its end
  pub unread_rolled : IsUngathered here status old new → Rolled here status old new
  unread_rolled u = record {
    moments = λ capacity held h. widened u.reads.moments (LeavesList capacity held old) (λ image bytes stop. record { left = inr stop.was; sent = stop.sent });
    settled = λ capacity held h settled. widened u.reads.moments (λ image bytes. Holds image capacity held) (λ image bytes stop. settled_holds h settled stop.was);
    kept = λ capacity held h. record { disk = h.disk; known = u.reads.disk ∙ h.known; holds = h.holds; lawful = h.lawful };
    exact = λ capacity held h is. absurd (at Done is);
    sound = λ disk known. ⊎_elim (λ is. absurd (at Done is)) (λ is. absurd (at NotAtDay is));
    as_before = λ capacity held h was. u.reads;
    day = λ capacity held h is. (kinds capacity held h).0;
    no_day = λ capacity held h is. (kinds capacity held h).1;
    unwritten = λ not_done not_fault. u.reads;
    sent = u.reads.sent;
    input = u.reads.input;
    asks = u.reads.asks;
    short = λ capacity held h is.
        ⊎_elim (λ now. inl now) (λ hungry. inr (⊎_elim (λ based. inl based) (λ behind. inr (inl behind)) (short_held new h.holds (hungry h.disk h.known)))) (at NoMemory is).1;
    no_journal = λ is. (at NoJournal is).1;
    no_header = u.no_header;
    no_header_starved = u.no_header_starved;
    damaged = λ offset is disk known. inl ((at (Damaged offset) is).1 disk known);
    undamaged = λ capacity held h offset is. lawful_undamaged ((at (Damaged offset) is).1 h.disk h.known).3 h.holds h.lawful;
    damage_is_told = λ capacity offset base before disk known damage has. tells disk known damage has status u.hinders;
    damage_is_left = λ capacity offset base before disk known damage. u.reads;
    damage_short = λ capacity offset base before disk known damage is. ⊎_elim (λ now. inl now) (λ hungry. inr (short_damaged None new damage (hungry disk known))) (at NoMemory is).1;
    disk_cause = at DiskFault;
    memory = λ is. (at NoMemory is).0;
    kind = hindered_kind _ _ _ old new status u.unsent u.hinders;
    continues = u.reads.continues;
  }
    where
      at : (s : Status) → status ≡ s → Hinders (λ at. (disk : List ℕ) → old.disk ≡ Some disk → HasDamage at disk) ((disk : List ℕ) → old.disk ≡ Some disk → HasNoHeader disk)
          (here ⊎ ((disk : List ℕ) → old.disk ≡ Some disk → StarvesOn 1 None old.sent disk new)) s old new
      at s is = why_at _ _ _ old new s is u.hinders

      kinds : (capacity : ℕ) (held : List Record) → IsHeld capacity held old → IsRollAtDay status × IsRollElsewhere status
      kinds capacity held h =
          elsewhere _ _ _ old new status (λ offset damaged. lawful_undamaged (damaged h.disk h.known).3 h.holds h.lawful) (λ missing. readable.header h.disk capacity held h.holds (missing h.disk h.known)) u.unsent u.hinders

      tells : {capacity offset : ℕ} {base : Option Base} {before : List Record} (disk : List ℕ) → old.disk ≡ Some disk → IsDamagedAt capacity offset base before disk → ¬ HasNoHeader disk
          → (s : Status) → Hinders (λ at. (disk : List ℕ) → old.disk ≡ Some disk → HasDamage at disk) ((disk : List ℕ) → old.disk ≡ Some disk → HasNoHeader disk)
          (here ⊎ ((disk : List ℕ) → old.disk ≡ Some disk → StarvesOn 1 None old.sent disk new)) s old new → TellsDamage offset s
      tells disk known damage has (Damaged other) why = inl (ap (λ k. Damaged k) (one_damage (why.1 disk known).3 damage))
      tells disk known damage has NoJournal why = absurd (has (why.1 disk known))
      tells disk known damage has s why = grind arith

  -- it was read to its end, and then a base was added or not
  pub gathered_rolled : ((disk : List ℕ) → new.disk ≡ Some disk → MayLeave new disk) → {mid : Outside} (recovery : Recovery) → IsGathered recovery old mid → Adds recovery status mid new → Rolled here status old new
  gathered_rolled read_passes {mid} recovery g a = record {
    moments = λ capacity held h.
        goes_on (widened g.reads.moments (LeavesList capacity held old) (λ image bytes stop. record { left = inr stop.was; sent = stop.sent })) (a.moments capacity held (all h))
        (λ image bytes stop. record { left = inl stop.0; sent = subst (λ (s : Option (List ℕ)). Agrees s bytes) g.reads.sent stop.1 });
    settled = λ capacity held h settled.
        goes_on (widened g.reads.moments (λ image bytes. Holds image capacity held) (λ image bytes stop. settled_holds h settled stop.was)) (a.moments capacity held (all h)) (λ image bytes stop. stop.0);
    kept = kept;
    exact = λ capacity held h. a.exact capacity held (all h);
    sound = λ disk known either. through disk known;
    as_before = λ capacity held h was. reads_on g.reads (a.again capacity held (all h) was);
    day = λ capacity held h is. added_at_day mid new status a.ends (λ other. true≢false (sym is ∙ a.no_day capacity held (all h) other)) (a.undamaged capacity held (all h));
    no_day = λ capacity held h is. added_elsewhere mid new status a.ends (λ other. true≢false (sym (a.day capacity held (all h) other) ∙ is));
    unwritten = λ not_done not_fault. reads_on g.reads (a.unwritten not_done not_fault);
    sent = a.keeps.sent ∙ g.reads.sent;
    input = a.keeps.input ∙ g.reads.input;
    asks = a.keeps.asks ∙ g.reads.asks;
    short = λ capacity held h is. inr (inr (inr (a.day capacity held (all h) (λ other. cc (is, other)))));
    no_journal = λ is. absurd (at NoJournal is);
    no_header = λ disk known missing. absurd (read_headed (through disk known) missing);
    no_header_starved = λ disk known missing. absurd (read_headed (through disk known) missing);
    damaged = λ offset is disk known. inr (record {
      read = through disk known;
      none = λ capacity held holds lawful. a.undamaged capacity held (all (record { disk = disk; known = known; holds = holds; lawful = lawful })) offset is;
    });
    undamaged = λ capacity held h. a.undamaged capacity held (all h);
    damage_is_told = λ capacity offset base before disk known damage has. absurd (read_undamaged damage (through disk known));
    damage_is_left = λ capacity offset base before disk known damage. absurd (read_undamaged damage (through disk known));
    damage_short = λ capacity offset base before disk known damage is. absurd (read_undamaged damage (through disk known));
    disk_cause = λ is. rw (g.none.storing) at (at DiskFault is);
    memory = λ is. faultless g.none (at NoMemory is);
    kind = added_kind mid new status a.ends;
    continues = further g.reads.continues a.keeps.continues;
  }
    where
      all : {capacity : ℕ} {held : List Record} → IsHeld capacity held old → IsAllRead capacity held recovery mid
      all h = record {
        is_held = record { disk = h.disk; known = g.reads.disk ∙ h.known; holds = h.holds; lawful = h.lawful };
        begin = old.sent;
        recovers = g.recovers h.disk h.known;
      }

      through : (disk : List ℕ) → old.disk ≡ Some disk → IsReadThrough disk
      through disk known = read_through (g.recovers disk known) g.closed

      at : (s : Status) → status ≡ s → IsAdded s mid new
      at s is = subst (λ (s : Status). IsAdded s mid new) is a.ends

      kept : (capacity : ℕ) (held : List Record) → IsHeld capacity held old → IsHeld capacity held new
      kept capacity held h =
          let now = still_known mid.disk new.disk a.keeps.continues.disk h.disk (g.reads.disk ∙ h.known) in
          record { disk = now.0; known = now.1; holds = (ended (a.moments capacity held (all h)) (read_passes now.0 now.1)).0; lawful = h.lawful }
