use Rattle.std.proofs.Common.{◌≡◌, true, false, sym, ◌∙◌}
use Rattle.symbol_core.proofs.state.Kept.due.Goals as goal

pub returns-then-is_out : goal.returns-then-is_out
returns-then-is_out c = λ inside. let both : true ≡ false = sym c.if-is_out.true ∙ c.is_out.ensures ∙ inside in absurd cc

pub returns-then-is_settled : goal.returns-then-is_settled
returns-then-is_settled c = c.due_within.ensures (c.is_settled.ensures c.if-is_settled.true) c.waits.ensures
