use Rattle.std.proofs.Common.{ap, ◌∙◌, arith}
use Rattle.market_core.specs.AdmissionState.{AdmissionState}
use Rattle.market_core.proofs.Admitting.{counted_stands}
use Rattle.market_core.proofs.admission.Admission.admit.Goals as goal

pub returns-clause-stands_on : goal.returns-clause-stands_on
returns-clause-stands_on c = λ admitted s.
    let kept : AdmissionState = record {
      capacity = c.self.inside.capacity;
      count = c.self.inside.count;
      day = c.self.inside.day;
      begun = c.self.inside.begun;
      last = c.self.inside.last;
      directory = c.self.inside.directory;
      listed = c.self.inside.listed.items;
    } in
    counted_stands kept c.args.self.now c.moment-self-inside.result admitted c.args.x.now s (c.self.view_is ∙ c.take_in.ensures) c.moment-self-inside.ensures

pub returns-clause-stands : goal.returns-clause-stands
returns-clause-stands c = λ admitted r. record { count = omega (arith, r.count, ap (λ (a : AdmissionState). a.count) c.self.view_is, ap (λ (a : AdmissionState). a.count) c.take_in.ensures); stands = returns-clause-stands_on c admitted r.stands }
