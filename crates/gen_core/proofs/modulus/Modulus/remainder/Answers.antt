use Rattle.std.proofs.Common.{ℕ, ◌*◌, ◌/◌, ◌%◌, ◌^◌, ap, ◌∙◌}
use Rattle.gen_core.proofs.Reciprocals.{remainder_is}
use Rattle.gen_core.proofs.modulus.Modulus.remainder.Goals as goal

pub returns-clause-value : goal.returns-clause-value
returns-clause-value c =
    (λ i. c.from.ensures i * c.from-2.ensures i / 2 ^ 64)
    ∙ remainder_is c.self.inside.number c.self.inside.reciprocal c.args.number c.self.invariant c.requires
    ∙ ap (λ (n : ℕ). c.args.number % n) c.self.view_is
