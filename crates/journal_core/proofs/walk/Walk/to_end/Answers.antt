use Rattle.std.proofs.Common.{Ok, refl, sym, ap, ◌∙◌, arith}
use Rattle.host_core.proofs.Chains.{reads_nothing, reads_on}
use Rattle.journal_core.proofs.walk.Walk.to_end.Goals as goal

pub gates-init : goal.gates-init
gates-init g c = record {
  walking = c.requires.walking;
  reaches = c.requires.size;
  walked = λ disk known h. h;
  capacity = refl;
  size = refl;
  faultless = refl;
  keeps = reads_nothing _ (g.met.H.Host.sent_now c.args.host.now);
}

pub gates-preserved : goal.gates-preserved
gates-preserved g c =
    let before = c.gates.invariant in
    record {
      walking = c.next.ensures.walking;
      reaches = λ disk known. omega (arith, before.reaches disk (sym c.next.ensures.keeps.disk ∙ known), c.next.ensures.size);
      walked = λ disk known h. c.in_ok-more.ensures.walked disk (before.keeps.disk ∙ known) (before.walked disk known h);
      capacity = c.next.ensures.capacity ∙ before.capacity;
      size = c.next.ensures.size ∙ before.size;
      faultless = c.next.ensures.faultless (λ is. cc (c.in_ok-more.was, is)) ∙ before.faultless;
      keeps = reads_on before.keeps c.next.ensures.keeps;
    }

pub returns-in_err-more-clause-keeps : goal.returns-in_err-more-clause-keeps
returns-in_err-more-clause-keeps g c = reads_on c.gates.invariant.keeps c.next.ensures.keeps

pub returns-then-not-more-clause-closed : goal.returns-then-not-more-clause-closed
returns-then-not-more-clause-closed g c disk known h =
    c.next.ensures.closed (c.in_ok-more.was ∙ ap Ok c.if-not-more.true) disk (c.gates.invariant.keeps.disk ∙ known) (c.gates.invariant.walked disk known h)

pub returns-then-not-more-clause-keeps : goal.returns-then-not-more-clause-keeps
returns-then-not-more-clause-keeps g c = reads_on c.gates.invariant.keeps c.next.ensures.keeps
