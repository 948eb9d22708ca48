-- Parts that were worked as jobs tell what parts tell that were worked one after the other.
use Rattle.std.proofs.Common.{◌≡◌, ℕ, zero, suc, ◌+◌, ◌<◌, ◌≤◌, Bool, true, false, List, [], ◌∷◌, ◌++◌, length, Result, Ok, Err, Some, refl, sym, ap, subst, ◌∙◌, arith}
use Rattle.std.specs.Prelude.{OnOk, Vec, map, nat_le, slice_get, slice_set}
use Rattle.std.specs.Global.{Global}
use Rattle.std.proofs.Math.Logic.{∥∥₁_map}
use Rattle.std.proofs.lemmas.Bool.Decides.{nat_tests}
use Rattle.std.proofs.lemmas.Option.{slice_get_within}
use Rattle.price_core.specs.declared.error.NoMemory.{NoMemory}
use Rattle.wire_in.specs.declared.record.Record.{Record}
use Rattle.market_core.specs.Sections.{SectionState}
use Rattle.market_core.proofs.Appending.{get-before, get-set_other, get-set_same}
use Rattle.yard_core.specs.YardState.{HasPlace}
use Rattle.yard_core.proofs.Pushed.{each_pushed}
use Rattle.shard_core.specs.declared.job.PartJob.{PartJob}
use Rattle.shard_core.specs.declared.part.Ids.{Ids}
use Rattle.merge_core.specs.declared.tagged.Tagged.{Tagged}
use Rattle.shard_core.specs.declared.turns.Turn.{Turn}
use Rattle.shard_core.specs.Jobs.{AreBack, AreJobsOf, IsBack, IsJobOf, ids_of}
use Rattle.shard_core.specs.Turns.{PartsTell, Tells, noted}
use Rattle.shard_core.proofs.Working.{one_of, part_tells}

some_at : {A : Type 0} (xs : List A) (k : ℕ) → k < length xs → (x : A) × (slice_get xs k ≡ Some x)
some_at [] k near = absurd (omega arith)
some_at (x ∷ xs) zero near = (x, refl)
some_at (x ∷ xs) (suc k) near = some_at xs k (omega arith)

mapped_at : {A B : Type 0} (f : A → B) (xs : List A) (k : ℕ) (x : A) → slice_get xs k ≡ Some x → slice_get (map f xs) k ≡ Some (f x)
mapped_at f [] k x e = absurd cc
mapped_at f (y ∷ xs) zero x e =
    let same : y ≡ x = cc in
    ap (λ (z : _). Some (f z)) same
mapped_at f (y ∷ xs) (suc k) x e = mapped_at f xs k x e

-- one job more

pub one_job : (olds : List SectionState) (xs : List Record) (turns : List Turn) (jobs : List PartJob) (job : PartJob) (was : SectionState) → AreJobsOf olds xs turns jobs
    → slice_get olds (length jobs) ≡ Some was → IsJobOf (length jobs) (ids_of olds (length jobs)) was xs turns job → AreJobsOf olds xs turns (jobs ++ job ∷ [])
one_job olds xs turns jobs job was each found own =
    each_pushed (λ k j. (before : SectionState) × (slice_get olds k ≡ Some before) × IsJobOf k (ids_of olds k) before xs turns j) jobs job each (was, found, own)

-- one job less that is to be put back

at_least : (a b : ℕ) → nat_le a b ≡ true → a ≤ b
at_least a b e = grind (arith, nat_tests)

less : (a b : ℕ) → nat_le a b ≡ false → b < a
less a b e = grind (arith, nat_tests)

-- the jobs that are left are the first ones of all
abbrev pub AreFirst : List PartJob → List PartJob → Type 0
AreFirst left all = (k : ℕ) (job : PartJob) → slice_get left k ≡ Some job → slice_get all k ≡ Some job

-- and those behind them are back
abbrev pub BackFrom : ℕ → List PartJob → List SectionState → List (Vec Tagged Global) → Type 0
BackFrom from all parts told = (k : ℕ) (job : PartJob) → from ≤ k → slice_get all k ≡ Some job → IsBack k parts told job

pub first_less : (all old new : List PartJob) (job : PartJob) → old ≡ new ++ job ∷ [] → AreFirst old all → AreFirst new all
first_less all old new job is first = λ k own found.
    first k own (ap (λ (js : List PartJob). slice_get js k) is ∙ get-before new job k (slice_get_within new k own found) ∙ found)

last_of : (xs : List PartJob) (x : PartJob) → slice_get (xs ++ x ∷ []) (length xs) ≡ Some x
last_of [] x = refl
last_of (y ∷ xs) x = last_of xs x

pub back_less : (all old new : List PartJob) (job : PartJob) (parts : List SectionState) (told : List (Vec Tagged Global)) → old ≡ new ++ job ∷ [] → length old ≡ length new + 1
    → length new < length parts → length new < length told → job.lacks_memory ≡ false → AreFirst old all → BackFrom (length old) all parts told
    → BackFrom (length new) all (slice_set parts (length new) job.section) (slice_set told (length new) job.told)
back_less all old new job parts told is many part_at list_at memory first back = λ k own le found. by k own le found (nat_le (length old) k) refl where
  here : slice_get all (length new) ≡ Some job
  here = first (length new) job (ap (λ (js : List PartJob). slice_get js (length new)) is ∙ last_of new job)

  by : (k : ℕ) (own : PartJob) → length new ≤ k → slice_get all k ≡ Some own → (b : Bool) → nat_le (length old) k ≡ b → IsBack k (slice_set parts (length new) job.section) (slice_set told (length new) job.told) own
  by k own le found true e =
      let behind : length old ≤ k = at_least (length old) k e in
      let before = back k own behind found in
      record {
        memory = before.memory;
        part = get-set_other parts (length new) job.section k (omega (arith, many)) ∙ before.part;
        list = get-set_other told (length new) job.told k (omega (arith, many)) ∙ before.list;
      }
  by k own le found false e =
      let until : k < length old = less (length old) k e in
      let same : k ≡ length new = omega (arith, many) in
      let job_is : job ≡ own = one_of (slice_get all (length new)) job own here (ap (slice_get all) (sym same) ∙ found) in
      subst (λ (n : ℕ). IsBack n (slice_set parts (length new) job.section) (slice_set told (length new) job.told) own) (sym same)
      (subst (λ (j : PartJob). IsBack (length new) (slice_set parts (length new) job.section) (slice_set told (length new) job.told) j) job_is (record {
        memory = memory;
        part = get-set_same parts (length new) job.section part_at;
        list = get-set_same told (length new) job.told list_at;
      }))

-- all jobs are back

abbrev pub place_of : PartJob → ℕ
place_of job = job.index

abbrev pub origin_of : PartJob → SectionState × Ids × List Record × List Turn
origin_of job = (job.before.value, job.ids, job.xs.now, job.turns.now)

abbrev pub HasResult : PartJob → Type 0
HasResult job = (job.is_done ≡ true) × (job.lacks_memory ≡ false → ∥ Tells job.ids.start job.ids.is_last (noted job.xs.now job.turns.now) job.before.value.symbols job.section.symbols job.told.items ∥₁)

abbrev AreWorked : List PartJob → List PartJob → Type 0
AreWorked jobs done = (k : ℕ) (job : PartJob) → slice_get done k ≡ Some job → HasPlace place_of origin_of (map origin_of jobs) k job × HasResult job

all_back : (olds news : List SectionState) (told : List (Vec Tagged Global)) (xs : List Record) (turns : List Turn) (jobs done : List PartJob) → length jobs ≡ length olds → length done ≡ length jobs
    → AreJobsOf olds xs turns jobs → AreWorked jobs done → AreBack done news told → PartsTell 0 (length olds) (noted xs turns) olds news (map (λ (list : Vec Tagged Global). list.items) told)
all_back olds news told xs turns jobs done many as_many made worked back = λ k was is items below found left says.
    let at = some_at done k (omega (arith, many, as_many)) in
    let job = at.0 in
    let own = back k job at.1 in
    let result = worked k job at.1 in
    let first = some_at jobs k (omega (arith, many)) in
    let from = made k first.0 first.1 in
    let origin : origin_of first.0 ≡ origin_of job = one_of (slice_get (map origin_of jobs) k) (origin_of first.0) (origin_of job) (mapped_at origin_of jobs k first.0 first.1) result.0.1 in
    let was_is : job.before.value ≡ was = sym (ap (λ o. o.0) origin) ∙ (from.2.before ∙ one_of (slice_get olds k) from.0 was from.1 found) in
    let ids_are : job.ids ≡ ids_of olds k = sym (ap (λ o. o.1) origin) ∙ from.2.own in
    let xs_are : job.xs.now ≡ xs = sym (ap (λ o. o.2) origin) ∙ from.2.records in
    let turns_are : job.turns.now ≡ turns = sym (ap (λ o. o.3) origin) ∙ from.2.turned in
    let is_is : job.section ≡ is = one_of (slice_get news k) job.section is own.part left in
    let items_are : job.told.items ≡ items = one_of (slice_get (map (λ (list : Vec Tagged Global). list.items) told) k) job.told.items items (mapped_at (λ (list : Vec Tagged Global). list.items) told k job.told own.list) says in
    ∥∥₁_map (result.1.1 own.memory) (λ tells. part_tells k job.ids.start job.ids.is_last (noted xs turns) olds was is items (ap (λ (ids : Ids). ids.start) ids_are) (ap (λ (ids : Ids). ids.is_last) ids_are)
    (subst (λ (ts : List Turn). Tells job.ids.start job.ids.is_last (noted xs ts) was.symbols is.symbols items) turns_are
    (subst (λ (ys : List Record). Tells job.ids.start job.ids.is_last (noted ys job.turns.now) was.symbols is.symbols items) xs_are
    (subst (λ (s : SectionState). Tells job.ids.start job.ids.is_last (noted job.xs.now job.turns.now) s.symbols is.symbols items) was_is
    (subst (λ (s : SectionState). Tells job.ids.start job.ids.is_last (noted job.xs.now job.turns.now) job.before.value.symbols s.symbols items) is_is
    (subst (λ (ms : List Tagged). Tells job.ids.start job.ids.is_last (noted job.xs.now job.turns.now) job.before.value.symbols job.section.symbols ms) items_are tells))))))

pub all_tell : (r : Result (Unit {0}) NoMemory) (olds news : List SectionState) (told : List (Vec Tagged Global)) (xs : List Record) (turns : List Turn) (jobs done : List PartJob)
    → length jobs ≡ length olds → length done ≡ length jobs → AreJobsOf olds xs turns jobs → AreWorked jobs done
    → OnOk r (AreBack done news told) → OnOk r (PartsTell 0 (length olds) (noted xs turns) olds news (map (λ (list : Vec Tagged Global). list.items) told))
all_tell (Err e) olds news told xs turns jobs done many as_many made worked back = tt
all_tell (Ok u) olds news told xs turns jobs done many as_many made worked back = all_back olds news told xs turns jobs done many as_many made worked back
