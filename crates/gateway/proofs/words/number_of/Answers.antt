use Rattle.std.proofs.Common.{◌≡◌, rules, tests, arith}
use Rattle.std.proofs.lemmas.Fmt.{parse-decimal}
use Rattle.gateway.proofs.words.number_of.Goals as goal

pub returns-in_default-clause-found : goal.returns-in_default-clause-found
returns-in_default-clause-found c number small is =
    let read = parse-decimal 64 number c.args.word.now c.parse.result small (omega arith) is c.parse.ensures.value.0 in cc

pub returns-then-eq-clause-found : goal.returns-then-eq-clause-found
returns-then-eq-clause-found c number small is =
    let read = parse-decimal 64 number c.args.word.now c.parse.result small (omega arith) is c.parse.ensures.value.0 in cc

pub returns-else-eq-clause-found : goal.returns-else-eq-clause-found
returns-else-eq-clause-found c number small is =
    let read = parse-decimal 64 number c.args.word.now c.parse.result small (omega arith) is c.parse.ensures.value.0 in
    let same : c.format.result.now ≡ c.args.word.now = cc in
    search (rules, tests, same)
