use Rattle.std.proofs.Common.{ℕ, List, subst}
use Rattle.std.specs.Io.BufRead.{strip_last}
use Rattle.text_core.specs.Lines.{PrintsFrame}
use Rattle.picture_core.proofs.Lines.{has_read_more}
use Rattle.picture_core.proofs.reading.read_turn.Goals as goal

pub returns-in_ok-take_line-clause-goes : goal.returns-in_ok-take_line-clause-goes
returns-in_ok-take_line-clause-goes g c is text read =
    let printed = (c.in_ok-take_line.ensures).printed in
    let first = subst (λ (line : List ℕ). PrintsFrame (strip_last 10 line) printed.0) c.deref.ensures.value printed.1 in
    has_read_more c.args.wanted text _ _ c.args.before c.next_line.new.line.items c.args.days.now _ printed.0 read
    ((c.in_ok-next_line.ensures).more (cc)) (c.in_ok-next_line.ensures).given (c.in_ok-next_line.ensures).rest first printed.2
