use Rattle.std.proofs.Common.{◌≡◌, ℕ, ◌<◌, ◌∷◌, Some, ap, sym, ◌∙◌, subst, arith}
use Rattle.std.specs.Prelude.{slice_get}
use Rattle.std.proofs.lemmas.Option.{slice_get_within}
use Rattle.std.proofs.lemmas.List.{length-map}
use Rattle.atomic_table.specs.Table.{rest}
use Rattle.yard_core.proofs.GiveStep.{seat_gives, bit_is}
use Rattle.yard_core.proofs.yard.Yard.give.Goals as goal

pub fetch_or-requires : goal.fetch_or-requires
fetch_or-requires g c =
    let seat = c.requires.seat in
    let taken = c.requires.taken in
    let its = c.requires.job in
    let yard = c.args.self.now in
    let old = c.args.seat.now.seat.me in
    let k : ℕ = c.args.piece in
    let job = c.args.job in
    let at = c.exchange.ensures in
    let near : k < 64 = omega (arith, slice_get_within _ k _ its.1, length-map yard.table.shared.key.jobs.value.items g.J.Job.origin_of, yard.counted, yard.sized.2) in
    let some_seat : 0 < old.0.seats = omega (arith, seat.one) in (
      at.0 ∙ seat.table,
      omega (arith, yard.sized.0),
      seat_gives _ _ _ _ _ _ _ k _ _ old.0 job (bit_is k near) (at.3 ∙ ap (λ l. (old.0, (k, Some job) ∷ rest l)) taken.0) some_seat taken.1
          (its.0, subst (λ os. slice_get os k ≡ Some (g.J.Job.origin_of job)) (sym seat.origins) its.1) c.requires.worked,
    )
