use Rattle.std.proofs.Common.{arith}
use Rattle.market_core.proofs.section.Section.split_off.Goals as goal

pub invariant_of-rest : goal.invariant_of-rest
invariant_of-rest c = (omega (arith, (c.in_ok-rest-inside.ensures).tail_len, (c.in_ok-make_places.ensures).more, c.len.ensures), λ place held e. tt)
