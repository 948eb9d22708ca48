use Rattle.std.proofs.Common.{◌≡◌, suc, ◌+◌, ◌-◌, ap, ◌∙◌, arith}
use Rattle.std.specs.Prelude.{Some}
use Rattle.gen_core.specs.Generated.{listing}
use Rattle.gen_core.proofs.Listed.{begins_with_day, has_listing, has_session_record}
use Rattle.gen_core.proofs.law.a_day_by_indexes.Goals as goal

pub returns-clause-day : goal.returns-clause-day
returns-clause-day c plan = begins_with_day plan

pub returns-clause-listings : goal.returns-clause-listings
returns-clause-listings c plan symbol lt =
    let same : 1 + symbol - 1 ≡ symbol = omega arith in
    has_listing plan (1 + symbol) (omega arith) (omega arith) ∙ ap (λ j. Some (listing j)) same

pub returns-clause-session : goal.returns-clause-session
returns-clause-session c plan k lt =
    let at : 1 + plan.symbols + k ≡ suc (plan.symbols + k) = omega arith in
    has_session_record plan (1 + plan.symbols + k) k at lt
