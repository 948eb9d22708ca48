-- A journal that keeps what a session accepts.
use Rattle.std.specs.Prelude.{◌≡◌, ℕ, ◌+◌, ◌≤◌, IsTrue, List, [], Option}
use Rattle.std.proofs.Common.{sym, subst, ◌∙◌}
use Rattle.std.proofs.Math.Nat.{le_refl, le_trans}
use Rattle.host_core.specs.Outside.{Outside, MayLeave}
use Rattle.wire_in.specs.declared.record.Record.{Record}
use Rattle.journal_core.specs.Layout.{Holds}
use Rattle.journal_core.specs.Journal.{JournalState, IsOfDisk, IsAtRest}
use Rattle.journal_core.specs.Extended.{Extends, IsGrown}
use Rattle.journal_core.proofs.Extending.{extends_same, extends_on, extends_wider}
use Rattle.journal_core.proofs.Appended.{grown_none}

-- the journal may be written, is of this disk, where it is known, and takes up to so many records more
pub record HasRoom (journal : JournalState) (known : Option (List ℕ)) (more : ℕ) : Type 0 where
  pub whole : IsTrue journal.whole
  pub of_disk : IsOfDisk journal known
  pub room : (n : ℕ) → n ≤ more → journal.count + n ≤ journal.capacity

pub room_for_fewer : (journal : JournalState) (known : Option (List ℕ)) (fewer more : ℕ) → fewer ≤ more → HasRoom journal known more → HasRoom journal known fewer
room_for_fewer journal known fewer more le has = record { whole = has.whole; of_disk = has.of_disk; room = λ n few. has.room n (le_trans few le) }

-- the journal rests where nothing is written
pub rests_still : (journal : JournalState) (records : List Record) (old new : Outside) → IsAtRest journal records old → new.disk ≡ old.disk
    → ((image : List ℕ) → MayLeave new image → MayLeave old image) → IsAtRest journal records new
rests_still journal records old new rest same left = record {
  settled = record { only = λ image now. same ∙ rest.settled.only image (left image now) };
  keeps = λ disk known. rest.keeps disk (sym same ∙ known);
}

-- and a stop leaves what it holds
pub held_now : (journal : JournalState) (records : List Record) (now : Outside) (image : List ℕ) → IsAtRest journal records now → MayLeave now image
    → Holds image journal.capacity records
held_now journal records now image rest left = record { gate = journal.gate; held = (rest.keeps image (rest.settled.only image left)).held }

-- what is done to the file where nothing is written, and by one run after another
pub extends_still : (most : ℕ) (old new : Outside) → new.disk ≡ old.disk → new.disk_faults ≡ old.disk_faults → Extends most old new
extends_still most old new same faults = extends_same same (subst (λ (n : ℕ). old.disk_faults ≤ n) (sym faults) (le_refl old.disk_faults))

pub extends_both : (most : ℕ) (old mid new : Outside) → Extends most old mid → Extends most mid new → Extends most old new
extends_both = extends_on

-- by larger batches as well
pub extends_more : (fewer more : ℕ) (old new : Outside) → fewer ≤ more → Extends fewer old new → Extends more old new
extends_more = extends_wider

-- an image holds these records while these batches are added, of at most so many records, and grew from one that a stop now may
-- leave
pub record Regains (journal : JournalState) (now : Outside) (records : List Record) (pending : List (List Record)) (image : List ℕ) : Type 0 where
  pub before : List ℕ
  pub was : MayLeave now before
  pub most : ℕ
  pub grown : IsGrown journal.capacity journal.gate most records pending before image

pub regained_before : (journal : JournalState) (records : List Record) (pending : List (List Record)) (image : List ℕ) (old new : Outside)
    → ((image : List ℕ) → MayLeave new image → MayLeave old image) → Regains journal new records pending image → Regains journal old records pending image
regained_before journal records pending image old new left regained = record { before = regained.before; was = left regained.before regained.was; most = regained.most; grown = regained.grown }

pub regained_now : (journal : JournalState) (records : List Record) (now : Outside) (image : List ℕ) → IsAtRest journal records now → MayLeave now image → Regains journal now records [] image
regained_now journal records now image rest left = record { before = image; was = left; most = 0; grown = grown_none (rest.keeps image (rest.settled.only image left)).held }
