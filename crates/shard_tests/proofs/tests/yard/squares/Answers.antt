use Rattle.std.proofs.Common.{◌≡◌, Some, subst, arith}
use Rattle.std.specs.Prelude.{slice_get}
use Rattle.yard_core.proofs.Pushed.{each_pushed}
use Rattle.shard_tests.proofs.tests.yard.squares.Goals as goal

pub loop-place-preserved : goal.loop-place-preserved
loop-place-preserved c =
    let inv = c.loop-place.invariant in
    let pushed = c.push_reserved.ensures in (
      omega (arith, pushed.len, inv.0),
      omega (arith, pushed.capacity, inv.1),
      λ k job at. each_pushed (λ n j. j.place ≡ n) c.loop-place.jobs.items c.square_of.result inv.2 (omega (arith, c.square_of.ensures.0, inv.0, c.loop-place.jobs.ok.0)) k job (subst (λ xs. slice_get xs k ≡ Some job) pushed.items at),
    )
