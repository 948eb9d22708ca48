use Rattle.std.proofs.Common.{arith}
use Rattle.words_core.proofs.Ranges.{number_small}
use Rattle.words_core.proofs.options.Options.small_number.Goals as goal

pub overflow_cast-result : goal.overflow_cast-result
overflow_cast-result c = omega (arith, number_small c.args.verb c.args.setting c.args.self c.requires.within c.requires.small, c.number.ensures)
