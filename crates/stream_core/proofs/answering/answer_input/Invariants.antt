use Rattle.std.proofs.Common.{◌≡◌, ◌+◌, ◌-◌, ◌≤◌, ℕ, true, false, cond}
use Rattle.host_core.specs.Outside.{Continues, NoFault}
use Rattle.stream_core.specs.Asking.{Prompt}
use Rattle.stream_core.specs.Taking.{ReadsAtMost}
use Rattle.stream_core.specs.Answering.{HasRead, IsThrough}
use Rattle.stream_core.proofs.answering.answer_input.Given as goal

abbrev pub invariant-loop-open : goal.invariant-loop-open
invariant-loop-open g l = record {
  within : l.read ≤ l.most;
  goes_on : l.open ≡ true → g.A.Answerer.goes_on l.answerer ≡ true;
  ready : (more : ℕ) → l.read + more ≤ l.most → g.A.Answerer.ready l.answerer (g.H.Host.outside l.host) more;
  reads : (given : g.A.Answerer.Given) → g.A.Answerer.limit given ≡ l.most → HasRead (g.A.Answerer.reads l.initial.answerer given) (g.A.Answerer.input given) 0 l.initial.outbox (g.H.Host.outside l.initial.host)
      → HasRead (g.A.Answerer.reads l.answerer given) (g.A.Answerer.input given) l.read l.outbox (g.H.Host.outside l.host);
  runs : (given : g.A.Answerer.Given) → g.A.Answerer.limit given ≡ l.most → HasRead (g.A.Answerer.reads l.initial.answerer given) (g.A.Answerer.input given) 0 l.initial.outbox (g.H.Host.outside l.initial.host)
      → g.A.Answerer.runs given l.initial.answerer (g.H.Host.outside l.initial.host) l.answerer (g.H.Host.outside l.host);
  prompt : (given : g.A.Answerer.Given) → g.A.Answerer.limit given ≡ l.most → HasRead (g.A.Answerer.reads l.initial.answerer given) (g.A.Answerer.input given) 0 l.initial.outbox (g.H.Host.outside l.initial.host)
      → Prompt (g.A.Answerer.text given) (g.A.Answerer.begin given) (g.A.Answerer.input given) (g.H.Host.outside l.initial.host).asks (g.H.Host.outside l.host).asks;
  through : (given : g.A.Answerer.Given) → g.A.Answerer.limit given ≡ l.most → HasRead (g.A.Answerer.reads l.initial.answerer given) (g.A.Answerer.input given) 0 l.initial.outbox (g.H.Host.outside l.initial.host) → l.open ≡ false
      → IsThrough (g.A.Answerer.text given) (g.A.Answerer.begin given) (g.A.Answerer.goes_on l.answerer) (g.A.Answerer.input given) l.read l.most (g.H.Host.outside l.host);
  taken : ReadsAtMost l.read (g.H.Host.outside l.initial.host).input (g.H.Host.outside l.host).input;
  does : g.A.Answerer.does l.initial.answerer (g.H.Host.outside l.initial.host) l.answerer (g.H.Host.outside l.host);
  continues : Continues (g.H.Host.outside l.initial.host) (g.H.Host.outside l.host);
  none : NoFault (g.H.Host.outside l.initial.host) (g.H.Host.outside l.host);
}

abbrev pub decreases-loop-open : goal.decreases-loop-open
decreases-loop-open g l = l.most - l.read + cond l.open 1 0
