use Rattle.std.proofs.Common.{arith}
use Rattle.std.proofs.lemmas.Str.{IsUtf8-from_ascii}
use Rattle.text_core.specs.Words.{name_word}
use Rattle.text_core.proofs.Plain.{name_plain, visible_ascii}
use Rattle.text_core.proofs.word.name_text.Goals as goal

pub returns-clause-word : goal.returns-clause-word
unfolding name_word
returns-clause-word c = grind (arith, IsUtf8-from_ascii, visible_ascii (name_word c.args.name.now) (name_plain c.args.name.now).visible)
