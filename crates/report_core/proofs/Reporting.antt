-- Telling what a journal holds, from its parts.
use Rattle.std.proofs.Common.{◌≡◌, ◌⊎◌, inl, inr, ⊎_elim, ℕ, List, [], ◌∷◌, ◌++◌, refl, sym, ap, subst, ◌∙◌, arith}
use Rattle.std.specs.Prelude.{Option, Some, None, IsTrue}
use Rattle.std.specs.Io.KnownBytes.{append_known}
use Rattle.std.proofs.lemmas.List.{append-nil}
use Rattle.host_core.specs.declared.status.Status.{Status}
use Rattle.host_core.specs.declared.status.Status.TheVariants.{Done, SendFault, DiskFault, Damaged, NoJournal, NoMemory}
use Rattle.host_core.specs.Outside.{Outside, Agrees, MayLeave, Elapses, NoFault, Sends}
use Rattle.host_core.specs.Frames.{OnlyReadsDisk, OnlySends}
use Rattle.host_core.proofs.Moments.{widened, ended}
use Rattle.host_core.proofs.Causes.{faultless, no_fault}
use Rattle.host_core.proofs.Known.{append_known-nil}
use Rattle.wire_in.specs.declared.base.Base.{Base}
use Rattle.wire_in.specs.declared.record.Record.{Record}
use Rattle.journal_core.specs.Walk.{HasBase, HasNoHeader}
use Rattle.engine_core.specs.EngineState.{Represents}
use Rattle.stream_core.specs.Pending.{SendsPrefix, SentPrefix}
use Rattle.stream_core.proofs.Pending.{prefix_sent, sends_none}
use Rattle.stream_core.proofs.Sending.{sends_longer, sends_on, sends_prefix}
use Rattle.recovery_core.specs.declared.recovery.Recovery.{Recovery}
use Rattle.recovery_core.specs.Damage.{IsDamagedAt}
use Rattle.recovery_core.specs.Ends.{TellsDamage, TellsNoStart}
use Rattle.recovery_core.specs.Held.{IsHeld}
use Rattle.recovery_core.specs.Origins.{IsReadFrom, again}
use Rattle.evaluator_core.specs.Evaluating.{workers_of}
use Rattle.recovery_core.specs.Starved.{StarvedAtBase, StarvedBehind}
use Rattle.recovery_core.specs.Recoveries.{Covers, SendsAgain, StarvesAgain, StarvesOn, IsReadThrough, Recovers, OnlyRecovers, HasDamage, Hinders}
use Rattle.report_core.specs.InternalReport.{Tells, IsTold, IsGathered, IsUngathered}
use Rattle.report_core.specs.Reported.{Reported, IsReport, report_of}
use Rattle.recovery_core.proofs.Held.{based_headed, capacity_is, damaged_base, damaged_headed, held_from, held_represents, one_base, read_from, read_through, short_damaged, short_held}
use Rattle.recovery_core.proofs.OneDamage.{covers_damaged, one_damage, lawful_undamaged, read_headed, read_undamaged}
use Rattle.recovery_core.proofs.Recovering.{sends_then, only_read, recovers_on, hinders_on, why_at}

nothing_left : (a b : List ℕ) → a ++ b ≡ [] → a ≡ []
nothing_left [] b is = refl
nothing_left (x ∷ a) b is = cc is

-- while the disk is only read, nothing is sent again
sends_nothing : {old mid : Outside} → OnlyReadsDisk old mid → Elapses old mid (SendsPrefix old.sent [] old)
sends_nothing {old} reads = widened reads.moments (SendsPrefix old.sent [] old) (sends_none [] old)

reads_still : {old mid : Outside} → OnlyReadsDisk old mid → (base : Option Base) (disk : List ℕ) → SendsAgain None base old.sent disk old mid
reads_still reads base disk all covers = sends_nothing reads

-- no journal was begun
pub ungathered_at_once : (here : Type 0) (status : Status) {old mid : Outside} → OnlyReadsDisk old mid → TellsNoStart status
    → Hinders (λ at. (disk : List ℕ) → mid.disk ≡ Some disk → HasDamage at disk) ((disk : List ℕ) → mid.disk ≡ Some disk → HasNoHeader disk)
    (here ⊎ ((disk : List ℕ) → mid.disk ≡ Some disk → HasBase disk)) status old mid → IsUngathered here status old mid
ungathered_at_once here status {old} {mid} reads tells why = record {
  moments = λ base disk known from. reads_still reads base disk;
  damage_moments = λ capacity at base before disk known damage. sends_nothing reads;
  no_header = λ disk known missing.
      ⊎_elim (λ told. told) (λ there. absurd (damaged_headed ((why_at _ _ _ old mid (Damaged there.0) there.1 why).1 disk (reads.disk ∙ known)).3 missing)) tells;
  no_header_starved = λ disk known missing is. ⊎_elim (λ now. now) (λ has. absurd (based_headed (has disk (reads.disk ∙ known)) missing)) (why_at _ _ _ old mid NoMemory is why).1;
  unsent = λ is. reads.sent;
  keeps = only_read reads;
  hinders = hinders_on _ _ (no_fault old) (λ at there disk known. there disk (reads.disk ∙ known)) (λ missing disk known. missing disk (reads.disk ∙ known))
      (⊎_elim (λ before. inl before) (λ has. inr (λ disk known. inl (record { base = has disk (reads.disk ∙ known); unsent = reads.sent })))) why;
}

-- A journal was begun, and then read.
module _ {old mid new : Outside} {recovery : Recovery} (reads : OnlyReadsDisk old mid) (none : NoFault old mid)
    (begun : (from : Option ℕ) (disk : List ℕ) → mid.disk ≡ Some disk → Recovers (again from) mid.sent disk recovery mid) (keeps : OnlyRecovers mid new)
    (moments : (begin : Option (List ℕ)) (disk : List ℕ) → Recovers (again None) begin disk recovery mid → SendsAgain None recovery.scan.base begin disk mid new) where
  begun_at : (disk : List ℕ) → old.disk ≡ Some disk → Recovers (again None) old.sent disk recovery mid
  begun_at disk known = subst (λ b. Recovers (again None) b disk recovery mid) reads.sent (begun None disk (reads.disk ∙ known))

  all_moments : (base : Option Base) (disk : List ℕ) → old.disk ≡ Some disk → IsReadFrom base disk → SendsAgain None base old.sent disk old new
  all_moments base disk known from all covers =
      let first = begun_at disk known in
      sends_then (sends_nothing reads) (moments old.sent disk first all (subst (λ (b : Option Base). Covers b disk all) (one_base from (read_from first.read)) covers))

  damage_moments : (capacity at : ℕ) (base : Option Base) (before : List Record) (disk : List ℕ) → old.disk ≡ Some disk → IsDamagedAt capacity at base before disk → Elapses old new (SendsPrefix old.sent [] old)
  damage_moments capacity at base before disk known damage =
      let from = read_from (begun_at disk known).read in
      all_moments recovery.scan.base disk known from before (subst (λ (b : Option Base). Covers b disk before) (damaged_base damage from) (covers_damaged damage))

  -- but not to its end
  pub ungathered : (here : Type 0) (status : Status) → workers_of recovery.engine.evaluator ≡ 1 → ((disk : List ℕ) → mid.disk ≡ Some disk → ¬ HasNoHeader disk)
      → Hinders (λ at. (begin : Option (List ℕ)) (disk : List ℕ) → Recovers (again None) begin disk recovery mid → HasDamage at disk) ⊥
      ((begin : Option (List ℕ)) (disk : List ℕ) → Recovers (again None) begin disk recovery mid → StarvesAgain (workers_of recovery.engine.evaluator) None recovery.scan.base begin disk new) status mid new
      → IsUngathered here status old new
  ungathered here status alone header why = record {
    moments = all_moments;
    damage_moments = damage_moments;
    no_header = λ disk known missing. absurd (header disk (reads.disk ∙ known) missing);
    no_header_starved = λ disk known missing is. absurd (header disk (reads.disk ∙ known) missing);
    unsent = λ is. absurd (why_at _ _ _ mid new NoJournal is why).1;
    keeps = recovers_on (only_read reads) keeps;
    hinders = hinders_on _ _ none (λ at there disk known. there old.sent disk (begun_at disk known)) (λ missing. absurd missing)
        (λ hungry. inr (λ disk known.
        let first = begun_at disk known in
        inr (recovery.scan.base, read_from first.read, subst (λ (n : ℕ). StarvesAgain n None recovery.scan.base old.sent disk new) alone (hungry old.sent disk first)))) why;
  }

  -- to its end
  module _ (after : Recovery) (all_read : (begin : Option (List ℕ)) (disk : List ℕ) → Recovers (again None) begin disk recovery mid → Recovers (again None) begin disk after new)
      (is_closed : IsTrue after.scan.is_closed) (more : NoFault mid new) where
    done : (disk : List ℕ) → old.disk ≡ Some disk → Recovers (again None) old.sent disk after new
    done disk known = all_read old.sent disk (begun_at disk known)

    unsent : (disk : List ℕ) → old.disk ≡ Some disk → new.sent ≡ old.sent
    unsent disk known =
        let waits = (done disk known).pending_is in
        waits.known ∙ ap (append_known old.sent) (nothing_left waits.sent after.outbox waits.whole) ∙ append_known-nil old.sent

    represents : (capacity : ℕ) (held : List Record) → IsHeld capacity held old → (after.scan.capacity ≡ capacity) × Represents after.engine after.scan.capacity held held
    represents capacity held h =
        let d = done h.disk h.known in
        (capacity_is d h.holds is_closed, held_represents d h.holds is_closed h.lawful)

    pub gathered : IsGathered after old new
    gathered = record {
      sound = λ disk known. read_through (done disk known) is_closed;
      represents = represents;
      unsent = λ capacity held h. unsent h.disk h.known;
      moments = all_moments;
      keeps = recovers_on (only_read reads) keeps;
      none = faultless none more;
    }

-- over a disk that holds a lawful list nothing was sent
unsent_run : {old new : Outside} → ((base : Option Base) (disk : List ℕ) → old.disk ≡ Some disk → IsReadFrom base disk → SendsAgain None base old.sent disk old new)
    → {capacity : ℕ} {held : List Record} → IsHeld capacity held old → Elapses old new (SendsPrefix old.sent [] old)
unsent_run moments h =
    let from = held_from h.holds h.lawful in
    moments from.0 h.disk h.known from.1 from.2.later from.2.covers

-- The whole command.
module _ (here : Type 0) (status : Status) (old new : Outside) (sent_now : (image bytes : List ℕ) → new.leaves new.moment image bytes → Agrees new.sent bytes)
    (stops_now : (sent : List ℕ) → new.sent ≡ Some sent → (image : List ℕ) × MayLeave new image) (keeps : OnlyRecovers old new) where
  -- what was sent at the end is a prefix of what may be sent at each stop
  part_of : (text : List ℕ) → Elapses old new (SendsPrefix old.sent text old) → SentPrefix old.sent new.sent text
  part_of text run = prefix_sent old old.sent new.sent text keeps.continues.sent (λ sent is.
      let now = stops_now sent is in (
        now.0,
        subst (λ bytes. SendsPrefix old.sent text old now.0 bytes) (sent_now now.0 now.1.bytes now.1.left sent is) (ended run now.1),
      ))

  nothing_sent : Elapses old new (SendsPrefix old.sent [] old) → new.sent ≡ old.sent
  nothing_sent run =
      let part = part_of [] run in
      part.sent ∙ ap (append_known old.sent) (nothing_left part.since part.unsent part.prefix) ∙ append_known-nil old.sent

  kind_by : (damaged : ℕ → Type 0) (missing starved : Type 0) (s : Status) → Hinders damaged missing starved s old new → IsReport s
  kind_by damaged missing starved s why = grind arith

  -- it was not read to its end
  pub unread_reported : IsUngathered here status old new → Reported here status old new
  unread_reported u = record {
    exact = λ capacity held h is. absurd (at Done is);
    sound = λ disk known is. absurd (at Done is);
    moments = moments;
    part = λ capacity held h. part_of (report_of capacity held) (moments capacity held h);
    short = λ capacity held h is. ⊎_elim (λ now. inl now) (λ hungry. inr (short_held new h.holds (hungry h.disk h.known))) (at NoMemory is).1;
    starved = λ capacity held h short. nothing_sent (unsent_run u.moments h);
    no_journal = λ is. (at NoJournal is).1;
    no_header = u.no_header;
    no_header_starved = u.no_header_starved;
    unsent = u.unsent;
    damaged = λ offset is. (at (Damaged offset) is).1;
    undamaged = λ capacity held h offset is. lawful_undamaged ((at (Damaged offset) is).1 h.disk h.known).3 h.holds h.lawful;
    damage_is_told = λ capacity offset base before disk known damage has. tells disk known damage has status u.hinders;
    damage_is_unsent = λ offset disk is known.
        let damage = (at (Damaged offset) is).1 disk known in
        nothing_sent (u.damage_moments damage.0 offset damage.1 damage.2 disk known damage.3);
    damage_short = λ capacity offset base before disk known damage is. ⊎_elim (λ now. inl now) (λ hungry. inr (short_damaged None new damage (hungry disk known))) (at NoMemory is).1;
    damage_starved = λ capacity offset base before disk known damage short. nothing_sent (u.damage_moments capacity offset base before disk known damage);
    disk = keeps.disk;
    input = keeps.input;
    asks = keeps.asks;
    send_cause = at SendFault;
    disk_cause = at DiskFault;
    memory = λ is. (at NoMemory is).0;
    kind = kind_by _ _ _ status u.hinders;
    continues = keeps.continues;
  }
    where
      at : (s : Status) → status ≡ s → Hinders (λ at. (disk : List ℕ) → old.disk ≡ Some disk → HasDamage at disk) ((disk : List ℕ) → old.disk ≡ Some disk → HasNoHeader disk)
          (here ⊎ ((disk : List ℕ) → old.disk ≡ Some disk → StarvesOn 1 None old.sent disk new)) s old new
      at s is = why_at _ _ _ old new s is u.hinders

      moments : (capacity : ℕ) (held : List Record) → IsHeld capacity held old → Elapses old new (SendsPrefix old.sent (report_of capacity held) old)
      moments capacity held h = sends_longer [] (report_of capacity held) (report_of capacity held) refl (unsent_run u.moments h)

      tells : {capacity offset : ℕ} {base : Option Base} {before : List Record} (disk : List ℕ) → old.disk ≡ Some disk → IsDamagedAt capacity offset base before disk → ¬ HasNoHeader disk
          → (s : Status) → Hinders (λ at. (disk : List ℕ) → old.disk ≡ Some disk → HasDamage at disk) ((disk : List ℕ) → old.disk ≡ Some disk → HasNoHeader disk)
          (here ⊎ ((disk : List ℕ) → old.disk ≡ Some disk → StarvesOn 1 None old.sent disk new)) s old new → TellsDamage offset s
      tells disk known damage has (Damaged other) why = inl (ap (λ k. Damaged k) (one_damage (why.1 disk known).3 damage))
      tells disk known damage has NoJournal why = absurd (has (why.1 disk known))
      tells disk known damage has s why = grind arith

  -- it was read to its end, and then told
  module _ {mid : Outside} (recovery : Recovery) (gathered : IsGathered recovery old mid) (sends : OnlySends mid new) (told : IsTold status mid new)
      (tells : (held : List Record) → Represents recovery.engine recovery.scan.capacity held held → Tells (report_of recovery.scan.capacity held) status mid new) where
    told_at : (s : Status) → status ≡ s → IsTold s mid new
    told_at s is = subst (λ s. IsTold s mid new) is told

    tells_held : (capacity : ℕ) (held : List Record) → IsHeld capacity held old → Tells (report_of capacity held) status mid new
    tells_held capacity held h =
        let r = gathered.represents capacity held h in
        subst (λ c. Tells (report_of c held) status mid new) r.0 (tells held r.1)

    run : (capacity : ℕ) (held : List Record) → IsHeld capacity held old → Elapses old new (SendsPrefix old.sent (report_of capacity held) old)
    run capacity held h =
        let text = report_of capacity held in
        sends_on (sends_longer [] text text refl (unsent_run gathered.moments h)) text [] (append-nil text)
        (subst (λ b. Elapses mid new (SendsPrefix b text mid)) (gathered.unsent capacity held h) (tells_held capacity held h).moments)

    pub told_reported : Reported here status old new
    told_reported = record {
      exact = λ capacity held h is.
          (tells_held capacity held h).done is ∙ ap (λ b. append_known b (report_of capacity held)) (gathered.unsent capacity held h);
      sound = λ disk known is. gathered.sound disk known;
      moments = run;
      part = λ capacity held h. part_of (report_of capacity held) (run capacity held h);
      short = λ capacity held h is. absurd (told_at NoMemory is);
      starved = λ capacity held h is. absurd (told_at NoMemory is);
      no_journal = λ is. absurd (told_at NoJournal is);
      no_header = λ disk known missing. absurd (read_headed (gathered.sound disk known) missing);
      no_header_starved = λ disk known missing is. absurd (told_at NoMemory is);
      unsent = λ is. absurd (told_at NoJournal is);
      damaged = λ offset is. absurd (told_at (Damaged offset) is);
      undamaged = λ capacity held h offset is. absurd (told_at (Damaged offset) is);
      damage_is_told = λ capacity offset base before disk known damage has. absurd (read_undamaged damage (gathered.sound disk known));
      damage_is_unsent = λ offset disk is known. absurd (told_at (Damaged offset) is);
      damage_short = λ capacity offset base before disk known damage is. absurd (told_at NoMemory is);
      damage_starved = λ capacity offset base before disk known damage is. absurd (told_at NoMemory is);
      disk = keeps.disk;
      input = keeps.input;
      asks = keeps.asks;
      send_cause = λ is. rw (gathered.none.sending) at (told_at SendFault is);
      disk_cause = λ is. absurd (told_at DiskFault is);
      memory = λ is. absurd (told_at NoMemory is);
      kind = told_kind status told;
      continues = keeps.continues;
    }
      where
        told_kind : (s : Status) → IsTold s mid new → IsReport s
        told_kind s t = grind arith

-- The parts of the sending.

-- a piece that is this text was sent
module _ {old new : Outside} (piece text : List ℕ) (same : piece ≡ text) (run : Elapses old new (Sends piece old)) where
  piece_moments : Elapses old new (SendsPrefix old.sent text old)
  piece_moments = widened run _ (sends_prefix old.sent old piece text text (record { sent = []; known = sym (append_known-nil old.sent); whole = refl }) same)

  pub told_all : new.sent ≡ append_known old.sent piece → Tells text Done old new
  told_all sent = record { done = λ is. sent ∙ ap (append_known old.sent) same; moments = piece_moments }

  pub told_in_part : Tells text SendFault old new
  told_in_part = record { done = λ is. cc is; moments = piece_moments }
