use Rattle.std.proofs.Common.{arith}
use Rattle.std.proofs.lemmas.Slice.Eq.{bytes_eq-Decides}
use Rattle.text_core.proofs.Values.{time_found, prints_time}
use Rattle.text_core.proofs.value_reading.read_time.Goals as goal

pub returns-in_default-clause-only : goal.returns-in_default-clause-only
returns-in_default-clause-only c = λ x p. grind (arith, time_found c.args.word.now x p)

pub returns-then-is_time_word-clause-found : goal.returns-then-is_time_word-clause-found
returns-then-is_time_word-clause-found c = prints_time c.args.word.now _ c.moment.result c.in-Some.is c.is_time_word.result c.if-is_time_word.true c.moment.ensures c.is_time_word.ensures

pub returns-then-is_time_word-clause-only : goal.returns-then-is_time_word-clause-only
returns-then-is_time_word-clause-only c = λ x p. grind (arith, time_found c.args.word.now x p)

pub returns-else-is_time_word-clause-only : goal.returns-else-is_time_word-clause-only
returns-else-is_time_word-clause-only c = λ x p. grind (arith, time_found c.args.word.now x p, bytes_eq-Decides)
