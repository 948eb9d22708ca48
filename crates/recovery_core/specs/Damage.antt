-- A journal that is damaged: what it holds before the first damage.
use Rattle.std.specs.Prelude.{◌≡◌, ◌≢◌, ◌⊎◌, ℕ, List, [], ◌∷◌, ◌++◌, Option, None}
use Rattle.host_core.specs.Outside.{Outside}
use Rattle.wire_in.specs.declared.base.Base.{Base}
use Rattle.wire_in.specs.declared.record.Record.{Record}
use Rattle.journal_core.specs.Layout.{records_of, with_batch}
use Rattle.journal_core.specs.AtGate.{IsDamaged}
use Rattle.journal_core.specs.Scan.{LeadsTo}
use Rattle.journal_core.specs.Walk.{IsUnreadableAt}
use Rattle.rulebook.specs.Base.{IsLawfulAfter, verdict_after}
use Rattle.stream_core.specs.Pending.{SentPrefix}
use Rattle.recovery_core.specs.Origins.{again, origin_of}

-- behind these batches, which have the records, stands neither a closed gate nor a batch
pub record HasBadForm (batches : List (List Record)) (before : List Record) (rest : List ℕ) : Type 0 where
  pub same : before ≡ records_of batches
  pub damaged : IsDamaged rest

-- Behind the base and these batches a batch stands whose next record may not follow the records: those of the batches, and the
-- first of this batch.
pub record HasBadRecord (capacity : ℕ) (base : Option Base) (batches : List (List Record)) (before : List Record) (disk : List ℕ) : Type 0 where
  pub good : List Record
  pub bad : Record
  pub later : List Record
  pub next : ℕ
  pub rest : List ℕ
  pub leads : LeadsTo capacity next base (batches ++ (good ++ bad ∷ later) ∷ []) disk rest
  pub same : before ≡ with_batch (records_of batches) good
  pub refused : verdict_after (origin_of base) capacity before bad ≢ None

-- The disk begins with a header and blocks up to its last base, and behind it with batches up to this gate, at which the first damage
-- stands. These records, which are lawful behind the base, stand between it and the damage.
pub record HasBadBatch (capacity at : ℕ) (base : Option Base) (before : List Record) (disk : List ℕ) : Type 0 where
  pub batches : List (List Record)
  pub rest : List ℕ
  pub leads : LeadsTo capacity at base batches disk rest
  pub lawful : IsLawfulAfter (origin_of base) capacity before
  pub why : HasBadForm batches before rest ⊎ HasBadRecord capacity base batches before disk

-- no scan of the disk begins for damage at this gate, and so no base is found and no record read
pub record HasNoStart (capacity at : ℕ) (base : Option Base) (before : List Record) (disk : List ℕ) : Type 0 where
  pub unreadable : IsUnreadableAt capacity at disk
  pub no_base : base ≡ None
  pub no_record : before ≡ []

-- the disk is damaged there, and before the damage these records are read behind this base
abbrev pub IsDamagedAt : ℕ → ℕ → Option Base → List Record → List ℕ → Type 0
IsDamagedAt capacity at base before disk = HasNoStart capacity at base before disk ⊎ HasBadBatch capacity at base before disk

-- the disk is damaged there, and since the begin a prefix of the messages was sent that are asked for again of the records
-- before the damage
pub record StopsAtDamage (from : Option ℕ) (begin : Option (List ℕ)) (at : ℕ) (disk : List ℕ) (now : Outside) : Type 0 where
  pub capacity : ℕ
  pub base : Option Base
  pub before : List Record
  pub damaged : IsDamagedAt capacity at base before disk
  pub part : SentPrefix begin now.sent (again from base before)
