use Rattle.std.proofs.Common.{ℕ, List, subst}
use Rattle.std.specs.Io.BufRead.{strip_last}
use Rattle.cross_chart.specs.Lines.{Says}
use Rattle.cross_chart.proofs.Reading.{has_read_more, stops_there, answered_on}
use Rattle.cross_chart.proofs.input.read_turn.Goals as goal

pub returns-in_ok-take_line-clause-goes : goal.returns-in_ok-take_line-clause-goes
returns-in_ok-take_line-clause-goes g c is text read =
    let told = (c.in_ok-take_line.ensures).told in
    let says = subst (λ (line : List ℕ). Says (strip_last 10 line) told.0) c.deref.ensures.value told.1 in
    has_read_more text _ _ c.args.before c.next_line.new.line.items c.args.sketch.now _ told.0 read
    ((c.in_ok-next_line.ensures).more (cc)) (c.in_ok-next_line.ensures).given (c.in_ok-next_line.ensures).rest says told.2

pub returns-in_err-take_line-clause-stopped : goal.returns-in_err-take_line-clause-stopped
returns-in_err-take_line-clause-stopped g c =
    answered_on _ c.from_residual-in_err-take_line.result c.from_residual-in_err-take_line.ensures.1
    (λ text read. stops_there text _ c.args.before c.next_line.new.line.items _ c.args.sketch.now _ read
    ((c.in_ok-next_line.ensures).more (cc)) (c.in_ok-next_line.ensures).given c.deref.ensures.value (c.in_err-take_line.ensures).stopped)
