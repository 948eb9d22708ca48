-- What changes a run, and what it leaves of it.
use Rattle.std.proofs.Common.{◌≡◌, Bool, true, false, refl}
use Rattle.std.specs.Prelude.{Option, Some, None, if◌then◌else◌, is_some, option_and_then, option_map, unwrap_or}
use Rattle.std.specs.Option.{option_map_or}
use Rattle.refprice_core.specs.ReferenceState.{ReferenceState}
use Rattle.symbol_core.specs.declared.state.Run.{Run}

abbrev pub reference_in : Option Run → ReferenceState
reference_in o = option_map_or (λ run. run.reference) o (record { begun = 0; last = None })

-- a value of a run that a change leaves
pub run_keeps : {X : Type 0} (value : Option Run → X) (change : Run → Run) → ((run : Run) → value (Some (change run)) ≡ value (Some run)) → (o : Option Run) → value (option_map change o) ≡ value o
run_keeps value change leaves None = refl
run_keeps value change leaves (Some run) = leaves run

pub same_run : (o : Option Run) → option_map (λ run. run) o ≡ o
same_run None = refl
same_run (Some run) = refl

pub has_begun : (o : Option Run) → is_some o ≡ is_some (option_map (λ run. run.reference.begun) o)
has_begun None = refl
has_begun (Some run) = refl

-- the reference price of a run, by its begin and its last adoption
pub begun_is : (o : Option Run) → unwrap_or (option_map (λ run. run.reference.begun) o) 0 ≡ (reference_in o).begun
begun_is None = refl
begun_is (Some run) = refl

pub adopted_is : (o : Option Run) → option_and_then (λ run. run.reference.last) o ≡ (reference_in o).last
adopted_is None = refl
adopted_is (Some run) = refl

-- a value by a test
pub by_test : {X Y : Type 0} (value : X → Y) (b : Bool) (x y : X) → value (if b then x else y) ≡ (if b then value x else value y)
by_test value true x y = refl
by_test value false x y = refl
