use Rattle.std.proofs.Common.{arith}
use Rattle.std.proofs.lemmas.Grind.{common_steps}
use Rattle.std.proofs.lemmas.Str.{IsUtf8-from_ascii}
use Rattle.text_core.specs.Words.{price_word}
use Rattle.text_core.proofs.Plain.{price_plain, visible_ascii}
use Rattle.text_core.proofs.price_text.behind_blank.Goals as goal

pub returns : goal.returns
returns c =
    let plain = price_plain c.args.units (omega (arith, c.requires.range)) in
    grind (arith, common_steps, IsUtf8-from_ascii, visible_ascii (price_word c.args.units) plain.visible)
