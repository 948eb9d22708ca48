use Rattle.std.proofs.Common.{◌∙◌, arith}
use Rattle.text_core.proofs.Units.{keep_prefix}
use Rattle.text_core.proofs.line.Line.keep.Goals as goal

pub returns : goal.returns
returns c =
    c.append.ensures.text
    ∙ rw (c.min-count.ensures, c.len.ensures.value) (keep_prefix c.args.self.now c.args.bytes.now (omega (arith, c.len.ensures.short, c.len.ensures.value)))
