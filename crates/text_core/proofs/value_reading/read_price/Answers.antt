use Rattle.std.proofs.Common.{arith}
use Rattle.std.proofs.lemmas.Slice.Eq.{bytes_eq-Decides}
use Rattle.text_core.proofs.Values.{price_found, prints_price}
use Rattle.text_core.proofs.value_reading.read_price.Goals as goal

pub returns-in_default-clause-only : goal.returns-in_default-clause-only
returns-in_default-clause-only c = λ x p. grind (arith, price_found c.args.word.now x p)

pub returns-then-is_price_word-clause-found : goal.returns-then-is_price_word-clause-found
returns-then-is_price_word-clause-found c = prints_price c.args.word.now _ c.price.result c.in-Some.is c.is_price_word.result c.if-is_price_word.true c.price.ensures c.is_price_word.ensures

pub returns-then-is_price_word-clause-only : goal.returns-then-is_price_word-clause-only
returns-then-is_price_word-clause-only c = λ x p. grind (arith, price_found c.args.word.now x p)

pub returns-else-is_price_word-clause-only : goal.returns-else-is_price_word-clause-only
returns-else-is_price_word-clause-only c = λ x p. grind (arith, price_found c.args.word.now x p, bytes_eq-Decides)
