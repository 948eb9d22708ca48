use Rattle.std.proofs.Common.{ap}
use Rattle.recovery_core.proofs.Recovering.{answered_on}
use Rattle.standby_core.specs.Rounds.{RoundState}
use Rattle.standby_core.proofs.Opened.{opened, unopened, unopened_at_once}
use Rattle.standby_core.proofs.opening.open.Goals as goal

pub returns-in_err-reading-clause-unopened : goal.returns-in_err-reading-clause-unopened
returns-in_err-reading-clause-unopened g c =
    answered_on _ c.from_residual.result c.from_residual.ensures.1
    (unopened_at_once _ _ c.begin.ensures.keeps c.in_err-reading.ensures.kind c.in_err-reading.ensures.hindered)

pub returns-in_err-read_all-clause-unopened : goal.returns-in_err-read_all-clause-unopened
returns-in_err-read_all-clause-unopened g c =
    answered_on _ c.from_residual-in_err-read_all.result c.from_residual-in_err-read_all.ensures.1
    (unopened c.begin.ensures.keeps c.in_ok-reading.ensures.none c.in_ok-reading.ensures.reads c.read_all.ensures.keeps _ _ c.in_ok-reading.ensures.header c.in_err-read_all.ensures.hindered)

pub returns-clause-opened : goal.returns-clause-opened
returns-clause-opened g c =
    opened c.begin.ensures.keeps c.in_ok-reading.ensures.none c.in_ok-reading.ensures.reads c.read_all.ensures.keeps
    c.in_ok-read_all.ensures.reads c.in_ok-read_all.ensures.closed c.in_ok-read_all.ensures.in_step c.in_ok-read_all.ensures.none c.finish.result c.finish.ensures
    c.requires.replies c.requires.records c.requires.most

pub returns-clause-frames : goal.returns-clause-frames
returns-clause-frames g c = ap (λ (r : RoundState). r.most) c.finish.ensures.gathers
