use Rattle.std.proofs.Common.{List, ℕ, sym, subst}
use Rattle.std.specs.Prelude.{Option}
use Rattle.engine_core.proofs.Starving.{not_read, not_short}
use Rattle.recovery_core.specs.Recoveries.{IsReading}
use Rattle.recovery_core.proofs.Behind.{own_past}
use Rattle.recovery_core.proofs.Recovering.{again_then, rebased, alone, none_fails, reads_alone, sends_greeting, greeted, answered_on, fault_hinders}
use Rattle.recovery_core.proofs.recovery.Recovery.recover.Goals as goal

pub returns-in_err-read-clause-hindered : goal.returns-in_err-read-clause-hindered
returns-in_err-read-clause-hindered g c = answered_on _ c.from_residual.result c.from_residual.ensures.1 c.in_err-read.ensures.hindered

pub returns-in_default-clause-moments : goal.returns-in_default-clause-moments
returns-in_default-clause-moments g c = λ begin disk first. c.read.ensures.moments begin disk first

-- it takes no memory
pub returns-in_default-clause-hindered : goal.returns-in_default-clause-hindered
returns-in_default-clause-hindered g c = (
  c.in_ok-read.ensures.none,
  λ begin disk first.
      let read = c.in_ok-read.ensures.recovers begin disk first in
      let ok = c.unite.ensures.succeeds _ _ _ (read.admits.stands _ (own_past c.read.new.self.scan.base)) read.idle read.working in
      none_fails c.unite.result ok c.in_default.not-Ok,
)

pub returns-in_err-greet-clause-moments : goal.returns-in_err-greet-clause-moments
returns-in_err-greet-clause-moments g c = λ begin disk first.
    let read = c.in_ok-read.ensures.recovers begin disk first in
    again_then c.args.from _ (c.read.ensures.moments begin disk first) (rebased c.args.from c.read.ensures.base (sends_greeting c.args.from (alone c.args.from read c.unite.new.self c.unite.ensures.rest c.in-Ok.ensures.stands c.in-Ok.ensures.idle c.in-Ok.ensures.working) c.greet.ensures.moments))

pub returns-in_err-greet-clause-hindered : goal.returns-in_err-greet-clause-hindered
returns-in_err-greet-clause-hindered g c =
    answered_on _ c.from_residual-in_err-greet.result c.from_residual-in_err-greet.ensures.1
    (fault_hinders _ _ _ _ c.in_err-greet.was (not_read c.greet.result c.greet.ensures.outside.fault) (λ short. absurd (not_short c.greet.result c.greet.ensures.outside.fault short))
    c.in_ok-read.ensures.none c.in_err-greet.ensures.outside.causes)

pub returns-clause-recovers : goal.returns-clause-recovers
returns-clause-recovers g c = λ begin disk first.
    greeted c.args.from (alone c.args.from (c.in_ok-read.ensures.recovers begin disk first) c.unite.new.self c.unite.ensures.rest c.in-Ok.ensures.stands c.in-Ok.ensures.idle c.in-Ok.ensures.working) c.greet.ensures.outside.keeps c.greet.new.outbox
    c.in_ok-greet.ensures.pending

pub returns-clause-moments : goal.returns-clause-moments
returns-clause-moments g c = λ begin disk first.
    let read = c.in_ok-read.ensures.recovers begin disk first in
    again_then c.args.from _ (c.read.ensures.moments begin disk first) (rebased c.args.from c.read.ensures.base (sends_greeting c.args.from (alone c.args.from read c.unite.new.self c.unite.ensures.rest c.in-Ok.ensures.stands c.in-Ok.ensures.idle c.in-Ok.ensures.working) c.greet.ensures.moments))

pub returns-clause-reading : goal.returns-clause-reading
returns-clause-reading g c =
    subst (λ (known : Option (List ℕ)). IsReading c.read.new.self.scan c.unite.new.self 0 known) (sym c.greet.ensures.outside.keeps.disk) (reads_alone c.unite.new.self c.unite.ensures.rest c.in-Ok.ensures.roomy c.in_ok-read.ensures.reading)
