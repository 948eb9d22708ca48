-- The journal of a standby that was read to its end, or was not.
use Rattle.std.proofs.Common.{◌≡◌, ◌⊎◌, inl, inr, ⊎_elim, ℕ, ◌≤◌, ◌<◌, ◌^◌, List, [], refl, sym, ap, subst, ◌∙◌, arith}
use Rattle.std.specs.Prelude.{IsTrue, Option, Some}
use Rattle.std.proofs.lemmas.List.{append-nil}
use Rattle.host_core.specs.declared.status.Status.{Status}
use Rattle.host_core.specs.declared.status.Status.TheVariants.{Damaged, NoMemory}
use Rattle.host_core.specs.Outside.{Outside, NoFault}
use Rattle.host_core.specs.Frames.{OnlyReadsDisk}
use Rattle.host_core.proofs.Causes.{faultless, no_fault}
use Rattle.host_core.proofs.Chains.{reads_on}
use Rattle.wire_in.specs.Cutting.{pending}
use Rattle.journal_core.specs.Journal.{IsAtRest}
use Rattle.journal_core.specs.Layout.{Holds, records_of}
use Rattle.journal_core.specs.Laws.{IsReadOf}
use Rattle.journal_core.specs.Scan.{HasRead}
use Rattle.journal_core.specs.Walk.{HasBase, HasNoHeader}
use Rattle.journal_core.proofs.Readable.{readable}
use Rattle.recovery_core.specs.Ends.{TellsNoStart}
use Rattle.recovery_core.specs.Recoveries.{HasDamage, Hinders}
use Rattle.recovery_core.proofs.Held.{based_headed, damaged_headed}
use Rattle.recovery_core.proofs.Recovering.{hinders_on, why_at}
use Rattle.standby_core.specs.declared.reading.Reading.{Reading}
use Rattle.standby_core.specs.declared.standing.Standby.{Standby}
use Rattle.market_core.specs.AdmissionState.{AdmissionState}
use Rattle.standby_core.specs.Reading.{Admits, IsInStep, Reads}
use Rattle.standby_core.specs.Rounds.{RoundState}
use Rattle.standby_core.specs.Running.{IsFinished, IsOpened, IsRead, IsUnopened, given_of}
use Rattle.standby_core.specs.Standing.{Follows, HasAdmitted, IsReady, frames_of}
use Rattle.standby_core.specs.StoodBy.{Begin, Begins}
use Rattle.standby_core.proofs.Spelling.{some_is}
use Rattle.standby_core.proofs.Through.{read_through}

pub one_disk : {known : Option (List ℕ)} {a b : List ℕ} → known ≡ Some a → known ≡ Some b → a ≡ b
one_disk first second = some_is _ _ (sym first ∙ second)

-- no journal was begun
pub unopened_at_once : (here : Type 0) (status : Status) {old new : Outside} → OnlyReadsDisk old new → TellsNoStart status
    → Hinders (λ at. (disk : List ℕ) → new.disk ≡ Some disk → HasDamage at disk) ((disk : List ℕ) → new.disk ≡ Some disk → HasNoHeader disk)
    (here ⊎ ((disk : List ℕ) → new.disk ≡ Some disk → HasBase disk)) status old new → IsUnopened here status old new
unopened_at_once here status {old} {new} reads tells why = record {
  no_header = λ disk known missing.
      ⊎_elim (λ told. told) (λ there. absurd (damaged_headed ((why_at _ _ _ old new (Damaged there.0) there.1 why).1 disk (reads.disk ∙ known)).3 missing)) tells;
  no_header_starved = λ disk known missing is. ⊎_elim (λ now. now) (λ has. absurd (based_headed (has disk (reads.disk ∙ known)) missing)) (why_at _ _ _ old new NoMemory is why).1;
  reads = reads;
  hinders = hinders_on _ _ (no_fault old) (λ at there disk known. there disk (reads.disk ∙ known)) (λ missing disk known. missing disk (reads.disk ∙ known))
      (⊎_elim (λ now. inl now) (λ has. inr (λ disk known. has disk (reads.disk ∙ known)))) why;
}

-- A journal was begun, and then read.
module _ {old mid new : Outside} {reading : Reading} (reads : OnlyReadsDisk old mid) (none : NoFault old mid) (begun : (disk : List ℕ) → mid.disk ≡ Some disk → Reads [] disk reading mid)
    (more : OnlyReadsDisk mid new) where
  begun_at : (disk : List ℕ) → old.disk ≡ Some disk → IsRead disk reading mid
  begun_at disk known = record { batches = []; reads = begun disk (reads.disk ∙ known) }

  -- but not to its end
  pub unopened : (here : Type 0) (status : Status) → ((disk : List ℕ) → mid.disk ≡ Some disk → ¬ HasNoHeader disk)
      → Hinders (λ at. (disk : List ℕ) → IsRead disk reading mid → HasDamage at disk) ⊥ ⊥ status mid new → IsUnopened here status old new
  unopened here status header why = record {
    no_header = λ disk known missing. absurd (header disk (reads.disk ∙ known) missing);
    no_header_starved = λ disk known missing is. absurd (header disk (reads.disk ∙ known) missing);
    reads = reads_on reads more;
    hinders = hinders_on _ _ none (λ at there disk known. there disk (begun_at disk known)) (λ missing. absurd missing) (λ short. absurd short) why;
  }

  -- to its end
  module _ {after : Reading} (all_read : (disk : List ℕ) → IsRead disk reading mid → IsRead disk after new) (is_closed : IsTrue after.scan.is_closed) (in_step : IsInStep after.scan after.admission new.disk)
      (still : NoFault mid new) {round : RoundState} (standby : Standby) (f : IsFinished after round standby) where
    module _ (begin : Begin) (input : List ℕ) (begins : Begins begin input old) where
      abbrev done : IsRead begins.disk after new
      done = all_read begins.disk (begun_at begins.disk begins.disk_known)

      -- the disk holds what was read and what the base stands for
      all : (after.scan.capacity ≡ begin.capacity) × IsReadOf begin.held after.scan done.batches
      all = readable.all begins.disk begin.capacity begin.held after.scan done.batches begins.holds done.reads.read

      admitted : HasAdmitted begin.capacity begin.held after.admission
      admitted = record {
        base = after.scan.base;
        later = records_of done.batches;
        before = all.1.before;
        passed = all.1.passed;
        whole = sym (all.1.all is_closed);
        admits = subst (λ (c : ℕ). Admits c after.scan.base (records_of done.batches) after.admission) all.0 done.reads.admits;
      }

      at_rest : IsAtRest standby.journal begin.held new
      at_rest = record {
        settled = done.reads.rests.settled;
        keeps = λ disk known.
            let there = one_disk done.reads.rests.known known in
            f.keeps done.batches disk begin.capacity begin.held (subst (λ (d : List ℕ). HasRead after.scan done.batches d) there done.reads.read)
            (subst (λ (d : List ℕ). Holds d begin.capacity begin.held) there begins.holds);
      }

      -- so it follows the input from its begin
      follows : (most : ℕ) → Follows (given_of begin input most) 0 [] standby new
      follows most = record {
        cutter = ap (λ (held : List ℕ). pending held) f.cutter;
        admitted = subst (λ (a : AdmissionState). HasAdmitted begin.capacity begin.held a) (sym f.admission) admitted;
        at_rest = at_rest;
        limit = f.capacity ∙ all.0;
        answered = f.answered;
        pending_is = record { sent = []; known = (more.sent ∙ reads.sent ∙ begins.sent_known) ∙ ap (λ (s : List ℕ). Some s) (sym (append-nil begin.sent)); whole = refl };
        more = frames_of (given_of begin input most);
        frames = refl;
      }

    module _ (no_replies : round.replies ≡ []) (no_records : round.records ≡ []) (frames : (1 ≤ round.most) × (round.most ≤ 64)) where
      ready : (more : ℕ) → more < 2 ^ 62 → IsReady more standby new
      ready n below = record {
        whole = f.whole;
        of_disk = f.of_disk new.disk in_step.of_disk;
        capacity = ap (λ (a : AdmissionState). a.capacity) f.admission ∙ sym in_step.capacity ∙ sym f.capacity;
        count = ap (λ (a : AdmissionState). a.count) f.admission ∙ sym in_step.count ∙ sym f.count;
        within = omega (arith, ap (λ (a : AdmissionState). a.count) f.admission, ap (λ (a : AdmissionState). a.capacity) f.admission, in_step.within);
        replies = ap (λ (r : RoundState). r.replies) f.gathers ∙ no_replies;
        records = ap (λ (r : RoundState). r.records) f.gathers ∙ no_records;
        some = omega (arith, frames.0, ap (λ (r : RoundState). r.most) f.gathers);
        most = omega (arith, frames.1, ap (λ (r : RoundState). r.most) f.gathers);
        few = omega (arith, f.answered, below);
      }

      pub opened : IsOpened standby old new
      opened = record {
        follows = λ begin input most begins. follows begin input begins most;
        ready = ready;
        sound = λ disk known. read_through (all_read disk (begun_at disk known)).reads is_closed;
        reads = reads_on reads more;
        none = faultless none still;
      }
