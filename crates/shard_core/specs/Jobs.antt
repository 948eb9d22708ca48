-- The parts of a market as jobs.
use Rattle.std.specs.Prelude.{◌≡◌, ℕ, ◌+◌, ◌==◌, false, Some, List, Vec, length, slice_get}
use Rattle.std.specs.Global.{Global}
use Rattle.wire_in.specs.declared.record.Record.{Record}
use Rattle.market_core.specs.Sections.{SectionState}
use Rattle.shard_core.specs.declared.job.PartJob.{PartJob}
use Rattle.shard_core.specs.declared.part.Ids.{Ids}
use Rattle.merge_core.specs.declared.tagged.Tagged.{Tagged}
use Rattle.shard_core.specs.declared.turns.Turn.{Turn}
use Rattle.shard_core.specs.Turns.{first_id}

-- the ids of a part
abbrev pub ids_of : List SectionState → ℕ → Ids
ids_of parts k = record { start = first_id parts k; is_last = k + 1 == length parts }

-- a job takes the turns of a block over a part as it was
pub record IsJobOf (index : ℕ) (ids : Ids) (was : SectionState) (xs : List Record) (turns : List Turn) (job : PartJob) : Type 0 where
  pub at : job.index ≡ index
  pub before : job.before.value ≡ was
  pub own : job.ids ≡ ids
  pub records : job.xs.now ≡ xs
  pub turned : job.turns.now ≡ turns

-- and each of several jobs over its part
abbrev pub AreJobsOf : List SectionState → List Record → List Turn → List PartJob → Type 0
AreJobsOf parts xs turns jobs = (k : ℕ) (job : PartJob) → slice_get jobs k ≡ Some job → (was : SectionState) × (slice_get parts k ≡ Some was) × IsJobOf k (ids_of parts k) was xs turns job

-- a job found memory, and the part of its index has its stocks and its messages
pub record IsBack (k : ℕ) (parts : List SectionState) (told : List (Vec Tagged Global)) (job : PartJob) : Type 0 where
  pub memory : job.lacks_memory ≡ false
  pub part : slice_get parts k ≡ Some job.section
  pub list : slice_get told k ≡ Some job.told

-- and so it is for each of several jobs
abbrev pub AreBack : List PartJob → List SectionState → List (Vec Tagged Global) → Type 0
AreBack jobs parts told = (k : ℕ) (job : PartJob) → slice_get jobs k ≡ Some job → IsBack k parts told job
