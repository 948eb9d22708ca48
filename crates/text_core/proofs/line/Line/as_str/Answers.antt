use Rattle.std.proofs.Common.{arith}
use Rattle.std.proofs.lemmas.Str.{IsUtf8-from_ascii}
use Rattle.text_core.proofs.line.Line.as_str.Goals as goal

pub returns : goal.returns
returns c = grind (arith, IsUtf8-from_ascii)
