use Rattle.std.proofs.Common.{refl}
use Rattle.screen_core.proofs.screen.Screen.new.Goals as goal

pub returns : goal.returns
returns c = record {
  keeps = record {
    within = c.in_ok-admission.ensures.capacity;
    admission = c.in_ok-admission.ensures.stands;
    market = c.in_ok-market.ensures;
    lawful = tt;
    published = c.in_ok-desk.ensures;
  };
  room = c.in_ok-messages.ensures.capacity;
  shows = refl;
}
