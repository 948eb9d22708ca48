use Rattle.std.proofs.Common.{inl, inr, refl}
use Rattle.host_core.proofs.Chains.{writes_faultless}
use Rattle.roll_core.proofs.Adding.{both_moments}
use Rattle.roll_core.proofs.rolling.add_base.Goals as goal

pub returns-in-Ok : goal.returns-in-Ok
returns-in-Ok g c = record {
  moments = λ held rest is. both_moments (c.roll.ensures.moments held rest is) c.roll.ensures.within;
  done = λ done held rest is. (c.roll.new.self, c.roll.ensures.capacity, c.in-Ok.ensures.rolled, c.in-Ok.ensures.stored held rest is);
  kind = inl refl;
  keeps = c.roll.ensures.keeps;
  ends = writes_faultless c.roll.ensures.keeps c.in-Ok.ensures.faultless;
}

pub returns-in-Err : goal.returns-in-Err
returns-in-Err g c = record {
  moments = λ held rest is. both_moments (c.roll.ensures.moments held rest is) c.roll.ensures.within;
  done = λ done held rest is. absurd cc;
  kind = inr refl;
  keeps = c.roll.ensures.keeps;
  ends = c.in-Err.ensures.cause;
}
