-- What the calls of a host in memory leave as it was, whether they are done or fail.
use Rattle.std.proofs.Common.{◌≡◌, ℕ, List, [], ◌∷◌, ◌++◌, length, refl, sym, ◌∙◌, ap, subst, arith}
use Rattle.std.specs.Prelude.{Some, Result, Ok, Err, IsErr}
use Rattle.host_core.specs.declared.counts.FaultCounts.{FaultCounts}
use Rattle.host_core.specs.declared.counts.Side.{Side}
use Rattle.host_core.specs.declared.counts.Side.TheVariants.{Input, Sink, Disk}
use Rattle.host_core.specs.declared.failed.Failed.{Failed}
use Rattle.host_core.specs.Counts.{faulted, NoneFalls}
use Rattle.host_core.specs.Outside.{Outside, Ask, Elapses, Stays, Changes, Sends, Torn, Grows, Rose, Continues}
use Rattle.host_core.specs.Frames.{OnlyReadsInput, OnlyReadsDisk, OnlySends, OnlyWrites}
use Rattle.host_core.specs.HostCalls.{ReadsInput, SendsPiece, MeasuresDisk, ReadsDisk, WritesDisk, SyncsDisk}
use Rattle.host_core.proofs.Chains.{sends_left}
use Rattle.memory_host.specs.declared.effect.Effect.{Effect}
use Rattle.memory_host.specs.Effects.{sent_of, disk_of, remembered}
use Rattle.memory_host.specs.declared.effect.Effect.TheVariants.{Synced}
use Rattle.memory_host.proofs.Remembered.{idle, synced}

-- one more of a side failed
pub record OneMore (side : Side) (old new : FaultCounts) : Type 0 where
  pub is : new ≡ faulted side old
  pub later : NoneFalls old new

pub one_more : {old mid new : FaultCounts} (side : Side) → mid ≡ old → new ≡ faulted side mid → NoneFalls mid new
    → OneMore side old new
one_more {new = new} side same more later = record {
  is = more ∙ ap (faulted side) same;
  later = subst (λ (counts : FaultCounts). NoneFalls counts new) same later;
}

-- no count but that of one side rose, and none fell
abbrev pub OthersStay : Side → FaultCounts → FaultCounts → Type 0
OthersStay Input old new = (new.sending ≡ old.sending) × (new.storing ≡ old.storing)
OthersStay Sink old new = (new.reading ≡ old.reading) × (new.storing ≡ old.storing)
OthersStay Disk old new = (new.reading ≡ old.reading) × (new.sending ≡ old.sending)

pub record OnlyOne (side : Side) (old new : FaultCounts) : Type 0 where
  pub others : OthersStay side old new
  pub later : NoneFalls old new

module _ (old new : FaultCounts) where
  others_stay : (side : Side) → new ≡ faulted side old → OthersStay side old new
  others_stay Input is = (ap (λ (c : FaultCounts). c.sending) is, ap (λ (c : FaultCounts). c.storing) is)
  others_stay Sink is = (ap (λ (c : FaultCounts). c.reading) is, ap (λ (c : FaultCounts). c.storing) is)
  others_stay Disk is = (ap (λ (c : FaultCounts). c.reading) is, ap (λ (c : FaultCounts). c.sending) is)

  all_stay : (side : Side) → new ≡ old → OthersStay side old new
  all_stay Input is = (ap (λ (c : FaultCounts). c.sending) is, ap (λ (c : FaultCounts). c.storing) is)
  all_stay Sink is = (ap (λ (c : FaultCounts). c.reading) is, ap (λ (c : FaultCounts). c.storing) is)
  all_stay Disk is = (ap (λ (c : FaultCounts). c.reading) is, ap (λ (c : FaultCounts). c.sending) is)

  pub none_rose : (side : Side) → new ≡ old → OnlyOne side old new
  none_rose side is = record {
    others = all_stay side is;
    later = subst (λ (c : FaultCounts). NoneFalls old c) (sym is)
        (record { reading = omega arith; sending = omega arith; storing = omega arith });
  }

module _ {old new : FaultCounts} where
  pub one_rose : {side : Side} → OneMore side old new → OnlyOne side old new
  one_rose {side} more = record { others = others_stay old new side more.is; later = more.later }

  pub input_rose : OneMore Input old new → Rose old.reading new.reading
  input_rose more = omega (arith, ap (λ (c : FaultCounts). c.reading) more.is)

  pub sink_rose : OneMore Sink old new → Rose old.sending new.sending
  sink_rose more = omega (arith, ap (λ (c : FaultCounts). c.sending) more.is)

  pub disk_rose : OneMore Disk old new → Rose old.storing new.storing
  disk_rose more = omega (arith, ap (λ (c : FaultCounts). c.storing) more.is)

-- an answer of Failed
module _ {old new : Outside} where
  pub measure_failed : (result : Result ℕ Failed) → IsErr result → OnlyReadsDisk old new → Rose old.disk_faults new.disk_faults
      → MeasuresDisk result old new
  measure_failed (Ok n) failed keeps up = cc
  measure_failed (Err e) failed keeps up = record { len = tt; keeps = keeps; cause = up; faultless = tt }

  pub read_failed : (result : Result (Unit {0}) Failed) (at many : ℕ) (into : List ℕ) → IsErr result → OnlyReadsDisk old new
      → Rose old.disk_faults new.disk_faults → ReadsDisk result at many into old new
  read_failed (Ok done) at many into failed keeps up = cc
  read_failed (Err e) at many into failed keeps up = record { bytes = tt; keeps = keeps; cause = up; faultless = tt }

  pub sync_failed : (result : Result (Unit {0}) Failed) → IsErr result → OnlyReadsDisk old new → Rose old.disk_faults new.disk_faults
      → SyncsDisk result old new
  sync_failed (Ok done) failed keeps up = cc
  sync_failed (Err e) failed keeps up = record { settled = tt; keeps = keeps; cause = up; faultless = tt }

  pub write_failed : (result : Result (Unit {0}) Failed) (at : ℕ) (piece : List ℕ) → IsErr result
      → Elapses old new (Changes (Torn at (length piece)) old) → OnlyWrites old new → Rose old.disk_faults new.disk_faults
      → WritesDisk result at piece old new
  write_failed (Ok done) at piece failed moments keeps up = cc
  write_failed (Err e) at piece failed moments keeps up =
      record { written_is = tt; moments = moments; keeps = keeps; cause = up; faultless = tt }

  pub send_failed : (result : Result ℕ Failed) (piece : List ℕ) → IsErr result → Grows old.sent new.sent piece 0
      → Elapses old new (Sends piece old) → OnlySends old new → Rose old.send_faults new.send_faults
      → SendsPiece result piece old new
  send_failed (Ok n) piece failed none moments keeps up = cc
  send_failed (Err e) piece failed none moments keeps up =
      record { sent = (0, none); moments = moments; keeps = keeps; cause = up; faultless = tt }

  pub take_failed : (result : Result ℕ Failed) (into : List ℕ) → IsErr result → new.input ≡ old.input → new.asks ≡ old.asks
      → OnlyReadsInput old new → Rose old.read_faults new.read_faults → ReadsInput result into old new
  take_failed (Ok n) into failed input asks keeps up = cc
  take_failed (Err e) into failed input asks keeps up =
      record { read = input; asks = asks; keeps = keeps; cause = up; faultless = tt }

-- what each kind of call leaves as it was
module _ (input sent disk start : List ℕ) (effects : List Effect) (asks : List Ask) (counts : FaultCounts) where
  abbrev old : Outside
  old = remembered input sent disk start effects asks counts.reading counts.sending counts.storing

  abbrev after : List ℕ → List ℕ → List ℕ → List Effect → List Ask → FaultCounts → Outside
  after input' sent' disk' later asks' counts' =
      remembered input' sent' disk' start later asks' counts'.reading counts'.sending counts'.storing

  continues : (input' sent' disk' : List ℕ) (later : List Effect) (asks' : List Ask) (counts' : FaultCounts) → NoneFalls counts counts'
      → Continues old (after input' sent' disk' later asks' counts')
  continues input' sent' disk' later asks' counts' falls =
      record { reading = falls.reading; sending = falls.sending; storing = falls.storing; input = refl; sent = refl; disk = refl }

  module _ (later : List Effect) (asks' : List Ask) (counts' : FaultCounts) where
    takes : (input' : List ℕ) → OnlyOne Input counts counts' → Elapses old (after input' sent disk later asks' counts') (Stays old)
        → OnlyReadsInput old (after input' sent disk later asks' counts')
    takes input' one moments = record {
      sent = refl;
      disk = refl;
      moments = moments;
      send_faults = one.others.0;
      disk_faults = one.others.1;
      continues = continues input' sent disk later asks' counts' one.later;
    }

    reads : asks' ≡ asks → OnlyOne Disk counts counts' → Elapses old (after input sent disk later asks' counts') (Stays old)
        → OnlyReadsDisk old (after input sent disk later asks' counts')
    reads same one moments = record {
      input = refl;
      asks = ap Some same;
      sent = refl;
      disk = refl;
      moments = moments;
      read_faults = one.others.0;
      send_faults = one.others.1;
      continues = continues input sent disk later asks' counts' one.later;
    }

    pub writes : (disk' : List ℕ) → asks' ≡ asks → OnlyOne Disk counts counts'
        → OnlyWrites old (after input sent disk' later asks' counts')
    writes disk' same one = record {
      input = refl;
      asks = ap Some same;
      sent = refl;
      read_faults = one.others.0;
      send_faults = one.others.1;
      continues = continues input sent disk' later asks' counts' one.later;
    }

    pub sends : (sent' piece : List ℕ) → asks' ≡ asks → OnlyOne Sink counts counts'
        → Elapses old (after input sent' disk later asks' counts') (Sends piece old)
        → OnlySends old (after input sent' disk later asks' counts')
    sends sent' piece same one moments = record {
      input = refl;
      asks = ap Some same;
      disk = refl;
      left = sends_left moments;
      read_faults = one.others.0;
      disk_faults = one.others.1;
      continues = continues input sent' disk later asks' counts' one.later;
    }

  -- the disk and the sink are as they were, or were synced
  module _ (sent_is : sent ≡ sent_of [] effects) (disk_is : disk ≡ disk_of start effects)
      (later : List Effect) (asks' : List Ask) (counts' : FaultCounts) where
    pub idle_takes : (input' : List ℕ) → later ≡ effects → OnlyOne Input counts counts'
        → OnlyReadsInput old (after input' sent disk later asks' counts')
    idle_takes input' is one = takes later asks' counts' input' one
        (idle input sent disk start effects asks counts.reading counts.sending counts.storing sent_is disk_is later is _ _ _ _ _ _ _)

    pub idle_reads : later ≡ effects → asks' ≡ asks → OnlyOne Disk counts counts'
        → OnlyReadsDisk old (after input sent disk later asks' counts')
    idle_reads is same one = reads later asks' counts' same one
        (idle input sent disk start effects asks counts.reading counts.sending counts.storing sent_is disk_is later is _ _ _ _ _ _ _)

    pub synced_reads : later ≡ effects ++ Synced ∷ [] → asks' ≡ asks → OnlyOne Disk counts counts'
        → OnlyReadsDisk old (after input sent disk later asks' counts')
    synced_reads is same one = reads later asks' counts' same one
        (synced input sent disk start effects asks counts.reading counts.sending counts.storing sent_is disk_is later is _ _ _ _)
