use Rattle.std.proofs.Common.{ℕ, List, ◌∷◌, [], length, length-append, ap, ◌∙◌, arith}
use Rattle.std.specs.Prelude.{slice_index}
use Rattle.std.proofs.Math.ListN.{get_or-append}
use Rattle.market_core.proofs.section.make_places.Goals as goal

pub loop-place-preserved : goal.loop-place-preserved
loop-place-preserved c =
    let alarms = c.loop-place.alarms in
    let pushed = (c.in_ok-push.ensures).ok in
    record {
      more = omega (arith, ap length pushed, length-append alarms (18446744073709551615 ∷ []), c.loop-place.invariant.more);
      same = λ place lt.
          ap (λ (xs : List ℕ). slice_index xs place) pushed ∙ get_or-append alarms (18446744073709551615 ∷ []) 0 place (omega (arith, lt, c.loop-place.invariant.more)) ∙ c.loop-place.invariant.same place lt;
    }

pub returns-in_err-push-clause-none : goal.returns-in_err-push-clause-none
returns-in_err-push-clause-none c = λ none. absurd (omega (arith, none, c.loop-place-test.true))
