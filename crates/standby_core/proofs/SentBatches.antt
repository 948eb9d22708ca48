-- The records of a journal, sent batch by batch.
use Rattle.std.proofs.Common.{◌≡◌, ◌≢◌, ◌⊎◌, inl, inr, ⊎_elim, ℕ, ◌+◌, List, [], ◌∷◌, ◌++◌, length, refl, sym, ap, subst, ◌∙◌, arith}
use Rattle.std.specs.Prelude.{Option, Some, Result, Err, IfErr, IsTrue}
use Rattle.std.specs.Io.KnownBytes.{append_known}
use Rattle.std.proofs.lemmas.List.{append-nil}
use Rattle.host_core.specs.declared.fault.Fault.{Fault}
use Rattle.host_core.specs.declared.fault.Fault.TheVariants as fault
use Rattle.host_core.specs.declared.status.Status.{Status}
use Rattle.host_core.specs.declared.status.Status.TheVariants.{NoJournal, NoMemory, Damaged}
use Rattle.host_core.specs.Outside.{Outside, Elapses, NoFault}
use Rattle.host_core.specs.Frames.{OnlyReadsDisk, OnlySends}
use Rattle.host_core.proofs.Causes.{no_fault, faultless}
use Rattle.host_core.proofs.Known.{append_known-nil}
use Rattle.host_core.proofs.Moments.{widened}
use Rattle.wire_in.specs.declared.base.Base.{Base}
use Rattle.wire_in.specs.declared.record.Record.{Record}
use Rattle.journal_core.specs.Layout.{records_of, with_batch}
use Rattle.journal_core.specs.Scan.{LeadsTo, records_before}
use Rattle.journal_core.specs.Walk.{HasBase, HasNoHeader}
use Rattle.journal_core.proofs.Batches.{records_more}
use Rattle.rulebook.specs.Base.{IsLawfulAfter}
use Rattle.stream_core.specs.Pending.{Expects, SendsPrefix}
use Rattle.stream_core.proofs.Pending.{expects_still, sends_none}
use Rattle.stream_core.proofs.Sending.{sends_whole, waits}
use Rattle.recovery_core.specs.Damage.{IsDamagedAt}
use Rattle.recovery_core.specs.Ends.{TellsNoStart}
use Rattle.recovery_core.specs.Origins.{IsReadFrom, origin_of}
use Rattle.recovery_core.specs.Recoveries.{HasDamage, Hinders, OnlyRecovers}
use Rattle.recovery_core.proofs.Held.{based_headed, damaged_base, damaged_headed, one_base, read_from}
use Rattle.recovery_core.proofs.OneDamage.{covers_damaged}
use Rattle.recovery_core.proofs.Recovering.{hinders_on, only_read, recovers_on, why_at}
use Rattle.standby_core.specs.declared.reading.Reading.{Reading}
use Rattle.standby_core.specs.Reading.{Reads}
use Rattle.standby_core.specs.Shipped.{parts_behind}
use Rattle.standby_core.specs.Shipping.{HasShipped, IsShipped, IsUnshipped, Ships}
use Rattle.standby_core.proofs.Admitting.{reads_still}
use Rattle.standby_core.proofs.PartTexts.{origin_records, ships_part}
use Rattle.standby_core.proofs.Through.{ships_through}

-- one run after another
pub ships_then : (from : ℕ) (base : Option Base) {begin : Option (List ℕ)} {disk : List ℕ} {old mid new : Outside} → Ships from base begin disk old mid → Ships from base begin disk mid new → Ships from base begin disk old new
ships_then from base first second all covers = sends_whole (first all covers) (second all covers)

-- behind the same base
pub ships_behind : (from : ℕ) {base same : Option Base} → base ≡ same → {begin : Option (List ℕ)} {disk : List ℕ} {old new : Outside} → Ships from base begin disk old new → Ships from same begin disk old new
ships_behind from is {begin} {disk} {old} {new} = subst (λ (b : Option Base). Ships from b begin disk old new) is

-- while the disk is only read, nothing is sent
pub sends_nothing : {old mid : Outside} → OnlyReadsDisk old mid → Elapses old mid (SendsPrefix old.sent [] old)
sends_nothing {old} reads = widened reads.moments (SendsPrefix old.sent [] old) (sends_none [] old)

pub ships_nothing : (from : ℕ) {base : Option Base} {disk : List ℕ} {old mid : Outside} → OnlyReadsDisk old mid → Ships from base old.sent disk old mid
ships_nothing from {base} reads all covers = ships_part (records_before base) from (record { more = all; whole = append-nil all }) (sends_nothing reads)

-- Some batches were read, and their Parts are expected.
module _ {from : ℕ} {begin : Option (List ℕ)} {disk : List ℕ} {reading : Reading} {outbox : List ℕ} {now : Outside} (s : HasShipped from begin disk reading outbox now) where
  -- all that were read stand in each list that covers the disk
  pub ships_all : {old new : Outside} → Elapses old new (SendsPrefix begin (parts_behind (records_before reading.scan.base) from (records_of s.batches)) old) → Ships from reading.scan.base begin disk old new
  ships_all run all covers =
      ships_part (records_before reading.scan.base) from (covers _ _ _ _ _ s.reads.read.leads (record { more = []; whole = refl }) s.reads.admits.lawful) run

  -- while the disk is only read
  pub ships_on : {new : Outside} → OnlyReadsDisk now new → Ships from reading.scan.base begin disk now new
  ships_on reads = ships_all (widened reads.moments _ (waits begin now outbox _ s.pending_is))

  -- the end was read
  pub shipped_end : {new : Outside} → OnlyReadsDisk now new → (after : Reading) → after.scan.base ≡ reading.scan.base → Reads s.batches disk after new → HasShipped from begin disk after outbox new
  shipped_end {new} reads after same read = record {
    batches = s.batches;
    reads = read;
    pending_is = subst (λ (b : Option Base). Expects begin new.sent outbox (parts_behind (records_before b) from (records_of s.batches))) (sym same) (expects_still new.sent reads.sent s.pending_is);
  }

  -- A further batch was read, and then its Parts are appended.
  module _ {mid : Outside} (reads : OnlyReadsDisk now mid) (after : Reading) (same : after.scan.base ≡ reading.scan.base) {list : List Record} (is : list ≡ after.batch) (read : Reads (s.batches ++ after.batch ∷ []) disk after mid) where
    pub before_is : {before : ℕ} → before ≡ reading.admission.count → before ≡ records_before reading.scan.base + length (records_of s.batches)
    before_is counted = counted ∙ s.reads.admits.count ∙ ap (λ (n : ℕ). n + length (records_of s.batches)) (origin_records reading.scan.base)

    pub expects_mid : Expects begin mid.sent outbox (parts_behind (records_before reading.scan.base) from (records_of s.batches))
    expects_mid = expects_still mid.sent reads.sent s.pending_is

    more_is : with_batch (records_of s.batches) list ≡ records_of (s.batches ++ after.batch ∷ [])
    more_is = ap (λ (b : List Record). with_batch (records_of s.batches) b) is ∙ sym (records_more s.batches after.batch)

    text_is : parts_behind (records_before reading.scan.base) from (with_batch (records_of s.batches) list) ≡ parts_behind (records_before after.scan.base) from (records_of (s.batches ++ after.batch ∷ []))
    text_is = λ i. parts_behind (records_before (sym same i)) from (more_is i)

    pub shipped_batch : {new : Outside} (next : List ℕ) → OnlySends mid new → Expects begin new.sent next (parts_behind (records_before reading.scan.base) from (with_batch (records_of s.batches) list)) → HasShipped from begin disk after next new
    shipped_batch {new} next sends expects = record {
      batches = s.batches ++ after.batch ∷ [];
      reads = reads_still read sends;
      pending_is = subst (λ (t : List ℕ). Expects begin new.sent next t) text_is expects;
    }

    pub ships_batch : {new : Outside} → Elapses mid new (SendsPrefix begin (parts_behind (records_before reading.scan.base) from (with_batch (records_of s.batches) list)) mid) → Ships from reading.scan.base begin disk mid new
    ships_batch {new} run all covers =
        let lawful : IsLawfulAfter (origin_of reading.scan.base) after.scan.capacity (records_of (s.batches ++ after.batch ∷ [])) =
        subst (λ (b : Option Base). IsLawfulAfter (origin_of b) after.scan.capacity (records_of (s.batches ++ after.batch ∷ []))) same read.admits.lawful in
        let leads : LeadsTo after.scan.capacity after.scan.gate reading.scan.base (s.batches ++ after.batch ∷ []) disk (after.scan.ahead ++ read.read.rest) =
        subst (λ (b : Option Base). LeadsTo after.scan.capacity after.scan.gate b (s.batches ++ after.batch ∷ []) disk (after.scan.ahead ++ read.read.rest)) same read.read.leads in
        ships_part (records_before reading.scan.base) from (covers _ _ _ _ _ leads (record { more = []; whole = refl }) lawful)
        (subst (λ (l : List Record). Elapses mid new (SendsPrefix begin (parts_behind (records_before reading.scan.base) from l) mid)) more_is run)

-- what waits is sent
pub flushed_moments : {from : ℕ} {start mid new : Outside} {reading after : Reading} {outbox waiting : List ℕ} → after.scan.base ≡ reading.scan.base
    → ((begin : Option (List ℕ)) (disk : List ℕ) → HasShipped from begin disk reading outbox start → Ships from reading.scan.base begin disk start mid)
    → ((begin : Option (List ℕ)) (disk : List ℕ) → HasShipped from begin disk reading outbox start → HasShipped from begin disk after waiting mid)
    → ((begin : Option (List ℕ)) (text : List ℕ) → Expects begin mid.sent waiting text → Elapses mid new (SendsPrefix begin text mid))
    → (begin : Option (List ℕ)) (disk : List ℕ) → HasShipped from begin disk reading outbox start → Ships from reading.scan.base begin disk start new
flushed_moments {from} {reading = reading} same moments ships sends begin disk first =
    let s = ships begin disk first in
    ships_then from reading.scan.base (moments begin disk first) (ships_behind from same (ships_all s (sends begin _ s.pending_is)))

-- a call that fails for sending alone
pub unread : {T : Type 0} (r : Result T Fault) → IfErr r (λ f. f ≡ fault.Send) → r ≢ Err fault.Read
unread r sends = grind arith

pub unstarved : {T : Type 0} (r : Result T Fault) → IfErr r (λ f. f ≡ fault.Send) → r ≢ Err fault.Memory
unstarved r sends = grind arith

-- nothing waits yet
pub ships_first : {from : ℕ} {disk : List ℕ} {reading : Reading} {outbox : List ℕ} {now : Outside} → outbox ≡ [] → Reads [] disk reading now → HasShipped from now.sent disk reading outbox now
ships_first {now = now} none reads = record { batches = []; reads = reads; pending_is = record { sent = []; known = sym (append_known-nil now.sent); whole = none } }

-- The whole journal

-- no journal was begun
pub unshipped_at_once : (here : Type 0) (from : ℕ) (status : Status) {old mid : Outside} → OnlyReadsDisk old mid → TellsNoStart status
    → Hinders (λ at. (disk : List ℕ) → mid.disk ≡ Some disk → HasDamage at disk) ((disk : List ℕ) → mid.disk ≡ Some disk → HasNoHeader disk)
    (here ⊎ ((disk : List ℕ) → mid.disk ≡ Some disk → HasBase disk)) status old mid → IsUnshipped here from status old mid
unshipped_at_once here from status {old} {mid} reads tells why = record {
  moments = λ base disk known is. ships_nothing from reads;
  damage_moments = λ capacity at base before disk known damage. ships_part (records_before base) from (record { more = before; whole = append-nil before }) (sends_nothing reads);
  no_header = λ disk known missing.
      ⊎_elim (λ told. told) (λ there. absurd (damaged_headed ((why_at _ _ _ old mid (Damaged there.0) there.1 why).1 disk (reads.disk ∙ known)).3 missing)) tells;
  no_header_starved = λ disk known missing is. ⊎_elim (λ now. now) (λ has. absurd (based_headed (has disk (reads.disk ∙ known)) missing)) (why_at _ _ _ old mid NoMemory is why).1;
  unsent = λ is. reads.sent;
  starved = λ is. reads.sent;
  keeps = only_read reads;
  hinders = hinders_on _ _ (no_fault old) (λ at there disk known. there disk (reads.disk ∙ known)) (λ missing disk known. missing disk (reads.disk ∙ known))
      (⊎_elim (λ now. inl now) (λ has. inr (λ disk known. has disk (reads.disk ∙ known)))) why;
}

-- A journal was begun, and then read.
module _ {from : ℕ} {old mid new : Outside} {reading : Reading} (reads : OnlyReadsDisk old mid) (none : NoFault old mid)
    (begun : (disk : List ℕ) → mid.disk ≡ Some disk → Reads [] disk reading mid) (outbox : List ℕ) (empty : outbox ≡ []) (keeps : OnlyRecovers mid new)
    (moments : (begin : Option (List ℕ)) (disk : List ℕ) → HasShipped from begin disk reading outbox mid → Ships from reading.scan.base begin disk mid new) where
  pub begun_at : (disk : List ℕ) → old.disk ≡ Some disk → HasShipped from old.sent disk reading outbox mid
  begun_at disk known = subst (λ b. HasShipped from b disk reading outbox mid) reads.sent (ships_first empty (begun disk (reads.disk ∙ known)))

  all_moments : (base : Option Base) (disk : List ℕ) → old.disk ≡ Some disk → IsReadFrom base disk → Ships from base old.sent disk old new
  all_moments base disk known is =
      let first = begun_at disk known in
      ships_behind from (one_base (read_from first.reads.read) is) (ships_then from reading.scan.base (ships_nothing from reads) (moments old.sent disk first))

  damage_moments : (capacity at : ℕ) (base : Option Base) (before : List Record) (disk : List ℕ) → old.disk ≡ Some disk → IsDamagedAt capacity at base before disk
      → Elapses old new (SendsPrefix old.sent (parts_behind (records_before base) from before) old)
  damage_moments capacity at base before disk known damage =
      let is = read_from (begun_at disk known).reads.read in
      all_moments base disk known (subst (λ (b : Option Base). IsReadFrom b disk) (sym (damaged_base damage is)) is) before (covers_damaged damage)

  -- but not to its end
  pub unshipped : (here : Type 0) (status : Status) → ((disk : List ℕ) → mid.disk ≡ Some disk → ¬ HasNoHeader disk)
      → Hinders (λ at. (begin : Option (List ℕ)) (disk : List ℕ) → HasShipped from begin disk reading outbox mid → HasDamage at disk) ⊥ ⊥ status mid new → IsUnshipped here from status old new
  unshipped here status header why = record {
    moments = all_moments;
    damage_moments = damage_moments;
    no_header = λ disk known missing. absurd (header disk (reads.disk ∙ known) missing);
    no_header_starved = λ disk known missing is. absurd (header disk (reads.disk ∙ known) missing);
    unsent = λ is. absurd (why_at _ _ _ mid new NoJournal is why).1;
    starved = λ is. absurd (why_at _ _ _ mid new NoMemory is why).1;
    keeps = recovers_on (only_read reads) keeps;
    hinders = hinders_on _ _ none (λ at there disk known. there old.sent disk (begun_at disk known)) (λ missing. absurd missing) (λ short. absurd short) why;
  }

  -- to its end, and all was sent
  module _ (after : Reading) (waiting : List ℕ) {last : Outside} (all_read : (begin : Option (List ℕ)) (disk : List ℕ) → HasShipped from begin disk reading outbox mid → HasShipped from begin disk after waiting last)
      (is_closed : IsTrue after.scan.is_closed) (sent : (begin : Option (List ℕ)) (text : List ℕ) → Expects begin last.sent waiting text → new.sent ≡ append_known begin text) (more : NoFault mid new) where
    pub shipped_all : IsShipped from old new
    shipped_all = record {
      sound = λ disk known.
          let done = all_read old.sent disk (begun_at disk known) in
          ships_through from done.reads is_closed (sent old.sent _ done.pending_is);
      moments = all_moments;
      keeps = recovers_on (only_read reads) keeps;
      none = faultless none more;
    }
