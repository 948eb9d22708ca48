-- Records that are admitted behind a base, and a journal that is read batch by batch.
use Rattle.std.proofs.Common.{◌≡◌, inl, inr, ℕ, ◌+◌, ◌<◌, List, [], ◌∷◌, ◌++◌, length, get_or, drop, refl, sym, ap, subst, ◌∙◌, arith}
use Rattle.std.specs.Prelude.{Option, Some, None}
use Rattle.std.proofs.lemmas.List.{drop_more}
use Rattle.host_core.specs.Outside.{Outside}
use Rattle.host_core.specs.Frames.{OnlyReadsDisk, OnlySends}
use Rattle.host_core.proofs.Chains.{still_settled}
use Rattle.wire_in.specs.declared.base.Base.{Base}
use Rattle.wire_in.specs.declared.record.Record.{Record}
use Rattle.wire_in.specs.declared.record.Refusal.{Refusal}
use Rattle.journal_core.specs.AtGate.{IsDamaged}
use Rattle.journal_core.specs.Layout.{records_of, with_batch}
use Rattle.journal_core.specs.Scan.{ScanState, HasRead, LeadsTo}
use Rattle.journal_core.proofs.Batches.{records_more}
use Rattle.journal_core.proofs.Starts.{led_from}
use Rattle.rulebook.specs.Admission.{verdict_at}
use Rattle.rulebook.specs.Base.{stand_in, verdict_after}
use Rattle.market_core.specs.AdmissionState.{AdmissionState, Represents, Stands}
use Rattle.recovery_core.specs.Damage.{HasBadBatch}
use Rattle.recovery_core.specs.Origins.{origin_of}
use Rattle.recovery_core.specs.Recoveries.{Refuses, Rests}
use Rattle.recovery_core.proofs.Recovering.{sends_rests}
use Rattle.standby_core.specs.declared.reading.Reading.{Reading}
use Rattle.standby_core.specs.Reading.{Admits, Reads}

-- what stands at an index, and what stands behind it
pub drop_one : {X : Type 0} (xs : List X) (i : ℕ) (x : X) → i < length xs → x ≡ get_or xs i x → drop i xs ≡ x ∷ drop (i + 1) xs
drop_one {X} xs i x lt is = drop_more xs i x lt ∙ ap (λ (y : X). y ∷ drop (i + 1) xs) (sym is)

-- the verdict of admission is that behind the base
pub judges : {capacity : ℕ} {base : Option Base} {accepted : List Record} {admission : AdmissionState} → Admits capacity base accepted admission → (x : Record) {verdict : Option Refusal}
    → ((admitted : List Record) → Stands admission admitted → verdict ≡ verdict_at admission.capacity admission.count admitted x) → verdict ≡ verdict_after (origin_of base) capacity accepted x
judges {capacity} {base} {accepted} a x exact =
    exact (accepted ++ (origin_of base).list) a.stands ∙ (λ i. verdict_at (a.limit i) (a.count i) (accepted ++ (origin_of base).list) x)

-- the admission of no records, and that of a base

pub fresh_admits : (limit : ℕ) {capacity : ℕ} {base : Option Base} (fresh next : AdmissionState) → limit ≡ capacity → base ≡ None → next ≡ record fresh { capacity = limit } → Represents fresh []
    → Admits capacity base [] next
fresh_admits limit {capacity} fresh next same none is r =
    let s = r.stands in
    subst (λ (b : Option Base). Admits capacity b [] next) (sym none) (record {
      limit = ap (λ (a : AdmissionState). a.capacity) is ∙ same;
      stands = subst (λ (a : AdmissionState). Stands a []) (sym is) (record { day = s.day; last = s.last; directory = s.directory; listed = s.listed; begun = s.begun; numbers = s.numbers });
      count = ap (λ (a : AdmissionState). a.count) is ∙ r.count;
      lawful = tt;
    })

pub based_admits : (limit : ℕ) {capacity : ℕ} {base : Option Base} (b : Base) (a : AdmissionState) → limit ≡ capacity → base ≡ Some b → a.capacity ≡ limit → a.count ≡ b.records → Stands a (stand_in b)
    → Admits capacity base [] a
based_admits limit {capacity} b a same some capacity_is count stands =
    subst (λ (base : Option Base). Admits capacity base [] a) (sym some)
    (record { limit = capacity_is ∙ same; stands = stands; count = omega (arith, count); lawful = tt })

-- Some batches were read.
module _ {batches : List (List Record)} {disk : List ℕ} {reading : Reading} {now : Outside} (r : Reads batches disk reading now) where
  -- what was sent leaves them as they were
  pub reads_still : {new : Outside} → OnlySends now new → Reads batches disk reading new
  reads_still sends = record { rests = sends_rests sends r.rests; read = r.read; admits = r.admits }

  module _ {new : Outside} (reads : OnlyReadsDisk now new) (scan : ScanState) (same : scan.capacity ≡ reading.scan.capacity) (based : scan.base ≡ reading.scan.base) where
    rests_still : Rests disk new
    rests_still = record { known = reads.disk ∙ r.rests.known; settled = still_settled reads.moments reads.disk r.rests.settled }

    -- it is read on to the end
    pub reads_end : (batch : List Record) → HasRead scan batches disk → Reads batches disk (record { scan = scan; admission = reading.admission; batch = batch }) new
    reads_end batch read = record { rests = rests_still; read = read; admits = rw (same, based) r.admits }

    -- a batch is read
    module _ {list batch : List Record} (is : list ≡ batch) (read : HasRead scan (batches ++ batch ∷ []) disk) where
      -- all of it was admitted
      pub reads_batch : (admission : AdmissionState) → Admits reading.scan.capacity reading.scan.base (with_batch (records_of batches) list) admission
          → Reads (batches ++ batch ∷ []) disk (record { scan = scan; admission = admission; batch = batch }) new
      reads_batch admission admits =
          let more : with_batch (records_of batches) list ≡ records_of (batches ++ batch ∷ []) = ap (λ (b : List Record). with_batch (records_of batches) b) is ∙ sym (records_more batches batch) in
          record {
            rests = rests_still;
            read = read;
            admits = rw (same, based) (subst (λ (l : List Record). Admits reading.scan.capacity reading.scan.base l admission) more admits);
          }

      -- a record of it may not follow
      pub bad_record_there : scan.at ≡ reading.scan.gate → (b : Refuses reading.scan.capacity reading.scan.base (records_of batches) list) → HasBadBatch reading.scan.capacity scan.at reading.scan.base (with_batch (records_of batches) b.good) disk
      bad_record_there at b = record {
        batches = batches;
        rest = reading.scan.ahead ++ r.read.rest;
        leads = rw at r.read.leads;
        lawful = b.lawful;
        why = inr (record {
          good = b.good;
          bad = b.bad;
          later = b.later;
          next = scan.gate;
          rest = scan.ahead ++ read.rest;
          leads = subst (λ (l : List Record). LeadsTo reading.scan.capacity scan.gate reading.scan.base (batches ++ l ∷ []) disk (scan.ahead ++ read.rest)) (sym (b.parts ∙ is))
              (rw (same, based) at read.leads);
          same = refl;
          refused = b.refused;
        });
      }

  -- neither a closed gate nor a batch stands there
  pub bad_form_there : (at : ℕ) → at ≡ reading.scan.gate → IsDamaged (drop at disk) → HasBadBatch reading.scan.capacity at reading.scan.base (records_of batches) disk
  bad_form_there at there damaged = record {
    batches = batches;
    rest = reading.scan.ahead ++ r.read.rest;
    leads = rw there r.read.leads;
    lawful = r.admits.lawful;
    why = inl (record { same = refl; damaged = subst IsDamaged (ap (λ (gate : ℕ). drop gate disk) there ∙ led_from r.read.leads) damaged });
  }
