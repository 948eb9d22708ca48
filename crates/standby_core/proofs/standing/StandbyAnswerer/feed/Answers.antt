use Rattle.std.proofs.Common.{◌+◌, ℕ, take, ap, subst, arith, rules}
use Rattle.host_core.proofs.Causes.{no_fault, faultless}
use Rattle.stream_core.proofs.Pieces.{exchanges_none, leaves_none}
use Rattle.stream_core.proofs.Pieces as pieces
use Rattle.stream_core.proofs.Sending.{sends_none}
use Rattle.standby_core.specs.Rounds.{RoundState}
use Rattle.standby_core.specs.Standing.{Follows, does_both, does_exchange, leaves_both, sends_leave}
use Rattle.standby_core.proofs.Settling.{does_as, ready_of, serves_on, sound_of}
use Rattle.standby_core.proofs.standing.StandbyAnswerer.feed.Goals as goal

pub loop-at-init : goal.loop-at-init
loop-at-init g c = record {
  within = omega arith;
  sound = sound_of _ c.requires.ready;
  replies = c.requires.ready.replies;
  records = c.requires.ready.records;
  few = omega arith;
  follows = λ given count follows next. (
    subst (λ (n : ℕ). Follows given n c.args.outbox.now c.args.self.now (g.H.Host.outside c.args.host.now)) (omega arith) follows,
    sends_leave given count _ c.args.self.now _ _ follows (sends_none (g.H.Host.outside c.args.host.now) (g.met.H.Host.sent_now c.args.host.now) _ _ follows.pending_is),
  );
  does = does_exchange _ _ _ (exchanges_none _);
  keeps = leaves_none _;
  none = no_fault _;
}

pub fill-at-requires : goal.fill-at-requires
fill-at-requires g c = record {
  some = omega (arith, c.requires.ready.some, c.loop-at.invariant.does.most);
  empty = c.loop-at.invariant.replies;
  left = c.loop-at-test.true;
  few = omega (arith, c.loop-at.invariant.few, c.requires.ready.few, c.loop-at-test.true);
}

pub settle-requires : goal.settle-requires
settle-requires g c = record {
  sound = c.fill-at.ensures.sound _ c.loop-at.invariant.sound;
  few = omega (arith, c.fill-at.ensures.answered, c.loop-at.invariant.few, c.requires.ready.few, c.loop-at-test.true);
}

pub loop-at-preserved : goal.loop-at-preserved
loop-at-preserved g c = record {
  within = c.fill-at.ensures.offset.1;
  sound = c.in_ok-settle.ensures.sound;
  replies = ap (λ (r : RoundState). r.replies) c.in_ok-settle.ensures.round;
  records = ap (λ (r : RoundState). r.records) c.in_ok-settle.ensures.round;
  few = omega (arith, c.loop-at.invariant.few, c.in_ok-settle.ensures.answered, c.fill-at.ensures.few, c.fill-at.ensures.answered);
  follows = λ given count follows next.
      let was = c.loop-at.invariant.follows given count follows next in
      let serves = serves_on given next (omega (arith, c.fill-at.ensures.offset.0)) c.fill-at.ensures.offset.1 was.0 c.loop-at.invariant.replies c.loop-at.invariant.records c.fill-at.ensures.journal (c.fill-at.ensures.gathers given _ (take count given.input)) in
      (c.in_ok-settle.ensures.follows given (count + c.fill-at.result) serves, leaves_both given _ _ _ was.1 (c.settle.ensures.leaves given (count + c.fill-at.result) serves));
  does = does_both _ _ _ _ _ _ (does_as c.loop-at.invariant.does c.fill-at.ensures.most) c.settle.ensures.does;
  keeps = pieces.leaves_both c.loop-at.invariant.keeps c.settle.ensures.keeps;
  none = faultless c.loop-at.invariant.none c.in_ok-settle.ensures.causes;
}

pub returns-in_err-settle-clause-runs : goal.returns-in_err-settle-clause-runs
returns-in_err-settle-clause-runs g c = λ given count follows next. search rules

pub returns-in_err-settle-clause-leaves : goal.returns-in_err-settle-clause-leaves
returns-in_err-settle-clause-leaves g c = λ given count follows next.
    let was = c.loop-at.invariant.follows given count follows next in
    let serves = serves_on given next (omega (arith, c.fill-at.ensures.offset.0)) c.fill-at.ensures.offset.1 was.0 c.loop-at.invariant.replies c.loop-at.invariant.records c.fill-at.ensures.journal (c.fill-at.ensures.gathers given _ (take count given.input)) in
    leaves_both given _ _ _ was.1 (c.settle.ensures.leaves given (count + c.fill-at.result) serves)

pub returns-in_err-settle-clause-does : goal.returns-in_err-settle-clause-does
returns-in_err-settle-clause-does g c = does_both _ _ _ _ _ _ (does_as c.loop-at.invariant.does c.fill-at.ensures.most) c.settle.ensures.does

pub returns-in_err-settle-clause-keeps : goal.returns-in_err-settle-clause-keeps
returns-in_err-settle-clause-keeps g c = pieces.leaves_both c.loop-at.invariant.keeps c.settle.ensures.keeps

pub returns-clause-reads : goal.returns-clause-reads
returns-clause-reads g c = λ given count follows next.
    subst (λ (n : ℕ). Follows given (count + n) c.loop-at.outbox c.loop-at.self (g.H.Host.outside c.loop-at.host)) (omega (arith, c.loop-at.invariant.within, c.loop-at-test.false)) (c.loop-at.invariant.follows given count follows next).0

pub returns-clause-runs : goal.returns-clause-runs
returns-clause-runs g c = λ given count follows next. (c.loop-at.invariant.follows given count follows next).1

pub returns-clause-leaves : goal.returns-clause-leaves
returns-clause-leaves g c = λ given count follows next. (c.loop-at.invariant.follows given count follows next).1

pub returns-clause-ready : goal.returns-clause-ready
returns-clause-ready g c = λ more ready.
    ready_of more c.loop-at.invariant.sound c.loop-at.invariant.replies c.loop-at.invariant.records (omega (arith, ready.some, c.loop-at.invariant.does.most)) (omega (arith, ready.most, c.loop-at.invariant.does.most))
    (omega (arith, ready.few, c.loop-at.invariant.few, c.loop-at.invariant.within))
