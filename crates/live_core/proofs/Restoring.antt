-- A session over a journal that was read to its end, or was not.
use Rattle.std.proofs.Common.{◌≡◌, ◌⊎◌, inl, inr, ⊎_elim, ℕ, List, [], ◌++◌, refl, sym, ap, subst, ◌∙◌}
use Rattle.std.specs.Prelude.{Option, Some, IsTrue}
use Rattle.host_core.specs.declared.status.Status.{Status}
use Rattle.host_core.specs.Outside.{Outside, Elapses, Stays, IsSettled, NoFault}
use Rattle.host_core.specs.Frames.{OnlyReadsDisk}
use Rattle.host_core.proofs.Moments.{goes_on, widened}
use Rattle.host_core.proofs.Causes.{faultless, no_fault}
use Rattle.wire_in.specs.declared.base.Base.{Base}
use Rattle.wire_in.specs.declared.record.Record.{Record}
use Rattle.wire_out.specs.Spelling.{spelling}
use Rattle.journal_core.specs.Journal.{IsAtRest}
use Rattle.journal_core.specs.Scan.{messages_before}
use Rattle.journal_core.specs.Walk.{HasBase, HasNoHeader}
use Rattle.rulebook.specs.Base.{sent_above}
use Rattle.rulebook.specs.Sent.{hello, spelled}
use Rattle.evaluator_core.specs.Evaluating.{workers_of}
use Rattle.stream_core.specs.Pending.{Expects, SendsPrefix}
use Rattle.stream_core.proofs.Pending.{expects_same, sends_none}
use Rattle.stream_core.proofs.Sending.{prefix_of_longer, sends_same}
use Rattle.engine_core.specs.EngineState.{Represents}
use Rattle.engine_core.specs.Rounds.{RoundState}
use Rattle.engine_core.specs.Serving.{Reads}
use Rattle.engine_core.specs.Unwritten.{WritesNothing}
use Rattle.engine_core.proofs.Beginning as engine
use Rattle.engine_core.proofs.Expecting.{expected-none, safe_sends}
use Rattle.engine_core.proofs.Unwritten.{sending, still_nothing}
use Rattle.recovery_core.specs.declared.recovery.Recovery.{Recovery}
use Rattle.recovery_core.specs.Damage.{IsDamagedAt}
use Rattle.recovery_core.specs.Ends.{TellsNoStart}
use Rattle.recovery_core.specs.Origins.{IsReadFrom, again, opening}
use Rattle.recovery_core.specs.Recoveries.{SendsAgain, StarvesAgain, IsReading, Recovers, OnlyRecovers, HasDamage, Hinders}
use Rattle.recovery_core.proofs.Behind.{again_whole}
use Rattle.recovery_core.proofs.Held.{based_headed, capacity_is, damaged_base, held_opening, held_represents, one_base, origin_messages, read_from, read_through}
use Rattle.recovery_core.proofs.OneDamage.{IsBehind, behind_held, covers_damaged}
use Rattle.recovery_core.proofs.Recovering.{sends_then, rebased, only_read, recovers_on, hinders_on}
use Rattle.live_core.specs.declared.start.Serving.{Serving}
use Rattle.live_core.specs.Safe.{Begin, Begins, start_of, IsSafeOrPending}
use Rattle.live_core.specs.InternalServing.{IsFinished, IsRestored, IsUnread}

pub one_disk : {known : Option (List ℕ)} {a b : List ℕ} → known ≡ Some a → known ≡ Some b → a ≡ b
one_disk first second = cc

-- what is asked for again, of the messages behind those of the base
abbrev asked : Begin → List ℕ
asked begin = spelled (sent_above begin.passed begin.from begin.held)

-- The stops of a start.
module _ (begin : Begin) {input : List ℕ} {old : Outside} (begins : Begins begin input old) where
  pending_still : {mid : Outside} → Elapses old mid (Stays old) → Elapses old mid (IsSafeOrPending old begin [])
  pending_still run =
      widened run (IsSafeOrPending old begin []) (λ image bytes stays. inr (record { was = stays.was; unsent = stays.sent begin.sent begins.sent_known }))

  safe_opening : {mid : Outside} → mid.disk ≡ old.disk → IsSettled mid → (image bytes : List ℕ)
      → SendsPrefix (Some begin.sent) (asked begin) mid image bytes → IsSafeOrPending old begin [] image bytes
  safe_opening {mid} disk settled image bytes stop =
      let held = rw (one_disk (disk ∙ begins.disk_known) (settled.only image stop.was)) at begins.holds in
      inl (safe_sends _ (start_of begin) [] mid image bytes held (prefix_of_longer (asked begin) (spelling (hello begin.held)) _ (sym (expected-none (start_of begin))) image bytes stop.was stop))

  -- the messages of the base from which the disk is read are those that are passed
  passed_is : {base : Option Base} → IsReadFrom base begins.disk → messages_before base ≡ begin.passed
  passed_is from =
      let last : IsReadFrom begins.based.base begins.disk = record { capacity = begins.based.capacity; gate = begins.based.start; batches = []; rest = begins.based.rest; leads = begins.based.leads } in
      ap messages_before (one_base from last) ∙ begins.based.is

  -- and what is asked for again behind it is what is asked for again of the whole list
  asked_is : {base : Option Base} → (from : Option ℕ) → begin.from ≡ from → IsReadFrom base begins.disk → (behind : IsBehind begin.held base begins.disk) → again from base behind.later ≡ asked begin
  asked_is {base} from same read behind =
      again_whole from base behind.later behind.before behind.passed
      ∙ (λ i. spelled (sent_above ((origin_messages base ∙ passed_is read) i) (sym same i) (sym behind.whole i)))

-- while the disk is only read, nothing of a text is sent
none_sent : {old mid : Outside} → OnlyReadsDisk old mid → (text : List ℕ) → Elapses old mid (SendsPrefix old.sent text old)
none_sent {old} reads text = widened reads.moments (SendsPrefix old.sent text old) (sends_none text old)

pub reads_only : {old mid : Outside} → OnlyReadsDisk old mid → WritesNothing old mid
reads_only reads = sending (none_sent reads []) reads.disk

-- no journal was begun
pub unbegun : (here : Type 0) (workers : ℕ) (from : Option ℕ) (status : Status) {old mid : Outside} → OnlyReadsDisk old mid → TellsNoStart status
    → Hinders (λ at. (disk : List ℕ) → mid.disk ≡ Some disk → HasDamage at disk) ((disk : List ℕ) → mid.disk ≡ Some disk → HasNoHeader disk)
    (here ⊎ ((disk : List ℕ) → mid.disk ≡ Some disk → HasBase disk)) status old mid → IsUnread here workers from status old mid
unbegun here workers from status {old} {mid} reads tells why = record {
  moments = λ begin input same begins. pending_still begin begins reads.moments;
  nothing = λ begin input same begins. reads_only reads;
  damage_moments = λ capacity at base before disk known damaged. none_sent reads (again from base before);
  no_header = λ disk known missing.
      (tells, λ is. ⊎_elim (λ now. now) (λ has. absurd (based_headed (has disk (reads.disk ∙ known)) missing)) (rw is at why).1, reads);
  keeps = only_read reads;
  hinders = hinders_on _ _ (no_fault old) (λ at there disk known. there disk (reads.disk ∙ known)) (λ missing. (reads, λ disk known. missing disk (reads.disk ∙ known)))
      (⊎_elim (λ before. inl before) (λ has. inr (λ disk known. inl (record { base = has disk (reads.disk ∙ known); unsent = reads.sent })))) why;
}

-- A journal was begun, and then read.
module _ (from : Option ℕ) {old mid new : Outside} {recovery : Recovery} (reads : OnlyReadsDisk old mid) (none : NoFault old mid)
    (begun : (from : Option ℕ) (disk : List ℕ) → mid.disk ≡ Some disk → Recovers (again from) mid.sent disk recovery mid) (keeps : OnlyRecovers mid new)
    (moments : (begin : Option (List ℕ)) (disk : List ℕ) → Recovers (again from) begin disk recovery mid → SendsAgain from recovery.scan.base begin disk mid new) where
  begun_at : {sent : Option (List ℕ)} {disk : List ℕ} → old.sent ≡ sent → old.disk ≡ Some disk → Recovers (again from) sent disk recovery mid
  begun_at {sent} {disk} is known = subst (λ b. Recovers (again from) b disk recovery mid) (reads.sent ∙ is) (begun from disk (reads.disk ∙ known))

  -- a prefix of what is asked for again is sent
  sends_asked : (begin : Begin) (input : List ℕ) → begin.from ≡ from → Begins begin input old → Elapses mid new (SendsPrefix (Some begin.sent) (asked begin) mid)
  sends_asked begin input same begins =
      let first = begun_at begins.sent_known begins.disk_known in
      let behind = behind_held begins.holds first.read.leads in
      sends_same _ (asked begin) (asked_is begin begins from same (read_from first.read) behind) (moments (Some begin.sent) begins.disk first behind.later behind.covers)

  start_moments : (begin : Begin) (input : List ℕ) → begin.from ≡ from → Begins begin input old → Elapses old new (IsSafeOrPending old begin [])
  start_moments begin input same begins =
      goes_on (pending_still begin begins reads.moments) (sends_asked begin input same begins) (safe_opening begin begins reads.disk (begun_at begins.sent_known begins.disk_known).rests.settled)

  start_nothing : (begin : Begin) (input : List ℕ) → begin.from ≡ from → Begins begin input old → WritesNothing old new
  start_nothing begin input same begins = still_nothing (reads_only reads) (sending (sends_asked begin input same begins) keeps.disk)

  sends_before_damage : (capacity at : ℕ) (base : Option Base) (before : List Record) (disk : List ℕ) → old.disk ≡ Some disk → IsDamagedAt capacity at base before disk
      → Elapses old new (SendsPrefix old.sent (again from base before) old)
  sends_before_damage capacity at base before disk known damaged =
      let first = begun_at refl known in
      sends_then (none_sent reads (again from base before))
      (rebased from (sym (damaged_base damaged (read_from first.read))) (moments old.sent disk first) before (covers_damaged damaged))

  -- but not to its end
  pub unread : (here : Type 0) {workers : ℕ} (status : Status) → workers_of recovery.engine.evaluator ≡ workers → ((disk : List ℕ) → mid.disk ≡ Some disk → ¬ HasNoHeader disk)
      → Hinders (λ at. (begin : Option (List ℕ)) (disk : List ℕ) → Recovers (again from) begin disk recovery mid → HasDamage at disk) ⊥
      ((begin : Option (List ℕ)) (disk : List ℕ) → Recovers (again from) begin disk recovery mid → StarvesAgain (workers_of recovery.engine.evaluator) from recovery.scan.base begin disk new) status mid new
      → IsUnread here workers from status old new
  unread here status workers_are header why = record {
    moments = start_moments;
    nothing = start_nothing;
    damage_moments = sends_before_damage;
    no_header = λ disk known missing. absurd (header disk (reads.disk ∙ known) missing);
    keeps = recovers_on (only_read reads) keeps;
    hinders = hinders_on _ _ none (λ at there disk known. there old.sent disk (begun_at refl known)) (λ missing. absurd missing)
        (λ hungry. inr (λ disk known.
        let first = begun_at refl known in
        inr (recovery.scan.base, read_from first.read, rw workers_are at (hungry old.sent disk first)))) why;
  }

  -- to its end
  module _ {after : Recovery} (all_read : (begin : Option (List ℕ)) (disk : List ℕ) → Recovers (again from) begin disk recovery mid → Recovers (opening from) begin disk after new)
      (alone : workers_of after.engine.evaluator ≡ 1) (is_closed : IsTrue after.scan.is_closed)
      (serving : Serving) {round : RoundState} (unfilled : round.outcomes ≡ []) (finished : IsFinished after round serving) where
    module _ (begin : Begin) (input : List ℕ) (same : begin.from ≡ from) (begins : Begins begin input old) where
      abbrev done : Recovers (opening from) (Some begin.sent) begins.disk after new
      done = all_read (Some begin.sent) begins.disk (begun_at begins.sent_known begins.disk_known)

      at_rest : IsAtRest serving.keeper.journal begin.held new
      at_rest = record {
        settled = done.rests.settled;
        keeps = λ disk known. rw (one_disk done.rests.known known) at (finished.keeps done.batches begins.disk begin.capacity begin.held done.read begins.holds);
      }

      limit_is : after.scan.capacity ≡ begin.capacity
      limit_is = capacity_is done begins.holds is_closed

      -- what waits or was sent is what a session of the list that the disk holds begins with
      opens : Expects (Some begin.sent) new.sent after.outbox (start_of begin).opening
      opens =
          let passed = passed_is begin begins (read_from done.read) in
          expects_same _ _ (held_opening done begins.holds is_closed from ∙ (λ i. spelled (sent_above (passed i) (sym same i) begin.held) ++ spelling (hello begin.held))) done.pending_is

      session_reads : Reads (IsAtRest serving.keeper.journal) (start_of begin) input 0 serving.session new
      session_reads =
          let represents = subst (λ (c : ℕ). Represents after.engine c begin.held begin.held) limit_is (held_represents done begins.holds is_closed begins.lawful) in
          subst (λ s. Reads (IsAtRest serving.keeper.journal) (start_of begin) input 0 s new) (sym finished.session)
          (engine.begins (IsAtRest serving.keeper.journal) (start_of begin) input _ new refl unfilled refl
          represents alone done.idle at_rest opens (keeps.input ∙ reads.input ∙ begins.input_known))

    pub restored : IsReading after.scan after.engine 0 new.disk → NoFault mid new → IsRestored from serving old new
    restored reading more = record {
      moments = start_moments;
      nothing = start_nothing;
      reads = session_reads;
      capacity = λ begin input same begins. finished.capacity ∙ limit_is begin input same begins;
      sound = λ disk known. read_through (all_read old.sent disk (begun_at refl known)) is_closed;
      ready = finished.ready new.disk reading;
      empty = ap (λ s. s.round.outcomes) finished.session ∙ unfilled;
      answered = ap (λ s. s.answered) finished.session;
      keeps = recovers_on (only_read reads) keeps;
      none = faultless none more;
    }
