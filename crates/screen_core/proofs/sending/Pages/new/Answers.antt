use Rattle.std.proofs.Common.{arith}
use Rattle.screen_core.proofs.sending.Pages.new.Goals as goal

pub returns : goal.returns
returns c = record {
  empty = c.in_ok-rows.ensures.items;
  rows = c.in_ok-rows.ensures.capacity;
  line = omega (arith, c.in_ok-line.ensures.capacity);
}
