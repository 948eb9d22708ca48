use Rattle.std.proofs.Common.{◌∙◌, sym, arith}
use Rattle.wire_out.proofs.RoundTrip.{frame_again}
use Rattle.wire_out.proofs.DecodesOnly.{frame_found}
use Rattle.wire_out.proofs.decoding.get_frame.Goals as goal

pub returns-in-Some-clause-found : goal.returns-in-Some-clause-found
returns-in-Some-clause-found c = frame_found c.args.body.now c.in-Some.f (λ i. omega (arith, c.type_inv.body i)) (sym c.frame.ensures ∙ c.in-Some.is)

pub returns-in-Some-clause-only : goal.returns-in-Some-clause-only
returns-in-Some-clause-only c = λ f s. let e = frame_again c.args.body.now f s in cc

pub returns-in-None-clause-only : goal.returns-in-None-clause-only
returns-in-None-clause-only c = λ f s. let e = frame_again c.args.body.now f s in absurd cc
