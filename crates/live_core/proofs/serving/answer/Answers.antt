use Rattle.std.proofs.Common.{arith}
use Rattle.engine_core.proofs.Statuses.{at_an_end, at_a_read, at_no_memory, told_of}
use Rattle.live_core.proofs.serving.answer.Goals as goal

pub returns : goal.returns
returns g c = rw c.answer_of.ensures (record {
  exact = λ start input same reads. at_an_end c.serve_input.result _ (c.serve_input.ensures.exact start input same reads);
  unread = λ start input same reads is. c.serve_input.ensures.unread start input same reads (at_a_read c.serve_input.result c.serve_input.ensures.end is);
  grows = c.serve_input.ensures.moments;
  nothing = c.serve_input.ensures.nothing;
  extends = c.serve_input.ensures.touches;
  prompt = c.serve_input.ensures.prompt;
  starved = λ start input same reads is. c.serve_input.ensures.starved start input same reads (at_no_memory c.serve_input.result c.serve_input.ensures.end is);
  bytes = c.serve_input.ensures.bytes;
  continues = c.serve_input.ensures.continues;
  served = grind (arith, c.serve_input.ensures.end);
  told = told_of c.serve_input.result _ _ c.serve_input.ensures.end c.serve_input.ensures.causes;
})
