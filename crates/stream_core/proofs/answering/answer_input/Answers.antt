use Rattle.std.proofs.Common.{◌≡◌, inl, inr, ◌+◌, ◌≤◌, length, take, refl, sym, ap, ◌∙◌, arith, rules}
use Rattle.std.proofs.lemmas.List.{length-take, length-take-le, length-drop}
use Rattle.host_core.proofs.Moments.{further, unchanged}
use Rattle.host_core.proofs.Causes.{no_fault, faultless}
use Rattle.stream_core.specs.Asking.{Prompt}
use Rattle.stream_core.specs.Answering.{HasRead, IsNext}
use Rattle.stream_core.proofs.Asking.{no_ask, more_asks}
use Rattle.stream_core.proofs.Sending.{sends_none}
use Rattle.stream_core.proofs.Taken.{takes_none, takes_on}
use Rattle.stream_core.proofs.Pieces.{exchanges_none, if_ok, is_next, left_more, there_more}
use Rattle.stream_core.proofs.answering.answer_input.Given.{Over}
use Rattle.stream_core.proofs.answering.answer_input.Goals.{After-exchange, In_ok-count}
use Rattle.stream_core.proofs.answering.answer_input.Goals as goal

pub loop-open-init : goal.loop-open-init
loop-open-init g c = record {
  within = omega arith;
  goes_on = λ on. c.requires.goes_on;
  ready = λ more le. g.A.Answerer.ready_for_fewer _ _ more c.args.most (omega (arith, le)) c.requires.ready;
  reads = λ given same was. was;
  runs = λ given same was.
      g.A.Answerer.runs_sending _ given 0 _ _ _ was.reads
      (sends_none (g.H.Host.outside c.args.host.now) (g.met.H.Host.sent_now c.args.host.now) _ _ (g.A.Answerer.expects _ given 0 _ _ was.reads)) (exchanges_none _);
  prompt = λ given same was. no_ask _ _ _ refl;
  through = λ given same was closed. absurd cc;
  taken = takes_none 0 _ _ refl;
  does = g.A.Answerer.does_exchange _ _ _ (exchanges_none _);
  continues = unchanged _;
  none = no_fault _;
}

-- what waited is sent, and a piece may be read
module _ (g : Over) (c : After-exchange g) (given : g.A.Answerer.Given) (same : g.A.Answerer.limit given ≡ c.args.most)
    (was : HasRead (g.A.Answerer.reads c.args.answerer.now given) (g.A.Answerer.input given) 0 c.args.outbox.now (g.H.Host.outside c.args.host.now)) where
  sends : g.A.Answerer.runs given c.args.answerer.now (g.H.Host.outside c.args.host.now) c.loop-open.answerer (g.H.Host.outside c.exchange.new.host)
  sends =
      let reads = (c.loop-open.invariant.reads given same was).reads in
      let moments = c.exchange.ensures.moments (g.A.Answerer.begin given) _ (g.A.Answerer.expects _ given c.loop-open.read _ _ reads) in
      g.A.Answerer.runs_on given _ _ _ _ _ _ (c.loop-open.invariant.runs given same was) (g.A.Answerer.runs_sending _ given c.loop-open.read _ _ _ reads moments c.exchange.ensures.keeps)

  asks : Prompt (g.A.Answerer.text given) (g.A.Answerer.begin given) (g.A.Answerer.input given) (g.H.Host.outside c.args.host.now).asks (g.H.Host.outside c.exchange.new.host).asks
  asks =
      let now = c.loop-open.invariant.reads given same was in
      more_asks _ _ _ (c.loop-open.invariant.prompt given same was)
      (c.exchange.ensures.prompt (g.A.Answerer.text given) _ _ c.loop-open.read now.input_left now.there (g.A.Answerer.expects _ given c.loop-open.read _ _ now.reads))

pub returns-in_err-count-clause-leaves : goal.returns-in_err-count-clause-leaves
returns-in_err-count-clause-leaves g c given same was =
    g.A.Answerer.leaves_so given _ _ _ _ (sends g (goal.at.returns-in_err-count-clause-leaves g c).After-exchange given same was)

pub returns-in_err-count-clause-unread : goal.returns-in_err-count-clause-unread
returns-in_err-count-clause-unread g c given same was failed =
    let now = c.loop-open.invariant.reads given same was in (
      c.loop-open.read,
      omega (arith, c.exchange.ensures.asked (search rules), c.min-room.ensures),
      record {
        input_left = c.in_err-count.ensures.untaken ∙ now.input_left;
        there = now.there;
        sent = c.exchange.ensures.unread (g.A.Answerer.begin given) _ (g.A.Answerer.expects _ given c.loop-open.read _ _ now.reads) (search rules);
      },
      g.A.Answerer.held_on _ given c.loop-open.read _ _ _ now.reads c.exchange.ensures.keeps,
    )

pub returns-in_err-count-clause-prompt : goal.returns-in_err-count-clause-prompt
returns-in_err-count-clause-prompt g c given same was = asks g (goal.at.returns-in_err-count-clause-prompt g c).After-exchange given same was

pub returns-in_err-count-clause-does : goal.returns-in_err-count-clause-does
returns-in_err-count-clause-does g c = g.A.Answerer.does_on _ _ _ _ _ _ c.loop-open.invariant.does (g.A.Answerer.does_exchange _ _ _ c.exchange.ensures.keeps)

-- all that waited was sent, and these bytes are the next ones
module _ (g : Over) (c : In_ok-count g) (given : g.A.Answerer.Given) (same : g.A.Answerer.limit given ≡ c.args.most)
    (was : HasRead (g.A.Answerer.reads c.args.answerer.now given) (g.A.Answerer.input given) 0 c.args.outbox.now (g.H.Host.outside c.args.host.now)) where
  mid : g.A.Answerer.reads c.loop-open.answerer given c.loop-open.read c.exchange.new.outbox (g.H.Host.outside c.exchange.new.host)
  mid =
      let now = c.loop-open.invariant.reads given same was in
      let sent = c.in_ok-count.ensures.sent (g.A.Answerer.begin given) _ (g.A.Answerer.expects _ given c.loop-open.read _ _ now.reads) in
      rw c.in_ok-count.ensures.empty (g.A.Answerer.sent_on _ given c.loop-open.read _ _ _ now.reads c.exchange.ensures.keeps sent)

  next : IsNext (g.A.Answerer.input given) (g.A.Answerer.limit given) c.loop-open.read (take c.in_ok-count.count c.exchange.new.buffer)
  next =
      is_next (c.loop-open.invariant.reads given same was) c.in_ok-count.ensures.taken (g.A.Answerer.limit given) (omega (arith, same, c.loop-open.invariant.within, c.min-room.ensures))
      (omega (arith, c.in_ok-count.ensures.taken.within, c.min-room.ensures, c.exchange.auto.buffer))

-- nothing was read
pub loop-open-preserved-then-count-eq0 : goal.loop-open-preserved-then-count-eq0
loop-open-preserved-then-count-eq0 g c =
    let at = goal.at.loop-open-preserved-then-count-eq0 g c in
    let took = c.in_ok-count.ensures.taken in
    let same_read : c.loop-open.read + c.in_ok-count.count ≡ c.loop-open.read = omega (arith, c.if-count-eq0.true) in
    record {
      within = c.loop-open.invariant.within;
      goes_on = λ on. c.loop-open.invariant.goes_on c.loop-open-test.true;
      ready = λ more le. g.A.Answerer.ready_on _ _ _ _ c.exchange.ensures.keeps (c.loop-open.invariant.ready more le);
      reads = λ given same was.
          let now = c.loop-open.invariant.reads given same was in
          record { input_left = rw same_read at (left_more now took); there = now.there; reads = mid g at.In_ok-count given same was };
      runs = λ given same was. sends g at.After-exchange given same was;
      prompt = λ given same was. asks g at.After-exchange given same was;
      through = λ given same was closed.
          let now = c.loop-open.invariant.reads given same was in
          record {
            there = now.there;
            within = c.loop-open.invariant.within;
            ended = inr (
              c.in_ok-count.ensures.sent (g.A.Answerer.begin given) _ (g.A.Answerer.expects _ given c.loop-open.read _ _ now.reads),
              elim (took.end _ now.input_left c.if-count-eq0.true) [
                | inl nothing ↦ inl (omega (arith, now.there, length-drop c.loop-open.read (g.A.Answerer.input given), ap length nothing))
                | inr full ↦ inr (omega (arith, full, c.min-room.ensures, c.loop-open.auto.buffer, c.requires.buffer, c.loop-open.invariant.within))
              ],
            );
          };
      taken = takes_on c.loop-open.read c.in_ok-count.count _ _ _ _ (omega (arith, same_read)) c.loop-open.invariant.taken
          (record { count = c.in_ok-count.count; within = omega arith; left = took.left });
      does = g.A.Answerer.does_on _ _ _ _ _ _ c.loop-open.invariant.does (g.A.Answerer.does_exchange _ _ _ c.exchange.ensures.keeps);
      continues = further c.loop-open.invariant.continues c.exchange.ensures.keeps.continues;
      none = faultless c.loop-open.invariant.none c.in_ok-count.ensures.causes;
    }

-- a piece was read, and is answered
pub feed-requires-clause-ready : goal.feed-requires-clause-ready
feed-requires-clause-ready g c =
    g.A.Answerer.ready_on _ _ _ _ c.exchange.ensures.keeps
    (c.loop-open.invariant.ready _ (omega (arith, length-take c.in_ok-count.count c.exchange.new.buffer, c.in_ok-count.ensures.taken.within, c.min-room.ensures, c.loop-open.invariant.within)))

pub returns-in_err-feed-clause-leaves : goal.returns-in_err-feed-clause-leaves
returns-in_err-feed-clause-leaves g c given same was =
    let at = goal.at.returns-in_err-feed-clause-leaves g c in
    g.A.Answerer.leaves_on given _ _ _ _ _ _ (sends g at.After-exchange given same was)
    (c.feed.ensures.leaves given c.loop-open.read (mid g at.In_ok-count given same was) (next g at.In_ok-count given same was))

pub returns-in_err-feed-clause-starved : goal.returns-in_err-feed-clause-starved
returns-in_err-feed-clause-starved g c given same was short =
    let at = (goal.at.returns-in_err-feed-clause-starved g c).In_ok-count in
    c.feed.ensures.starved given c.loop-open.read (mid g at given same was) (next g at given same was) (search rules)

pub returns-in_err-feed-clause-prompt : goal.returns-in_err-feed-clause-prompt
returns-in_err-feed-clause-prompt g c given same was =
    more_asks _ _ _ (asks g (goal.at.returns-in_err-feed-clause-prompt g c).After-exchange given same was) (no_ask _ _ _ c.feed.ensures.keeps.asks)

pub returns-in_err-feed-clause-bytes : goal.returns-in_err-feed-clause-bytes
returns-in_err-feed-clause-bytes g c =
    takes_on c.loop-open.read c.in_ok-count.count _ _ _ _ (omega (arith, c.loop-open.invariant.within, c.in_ok-count.ensures.taken.within, c.min-room.ensures)) c.loop-open.invariant.taken
    (record { count = c.in_ok-count.count; within = omega arith; left = c.feed.ensures.keeps.input ∙ c.in_ok-count.ensures.taken.left })

pub returns-in_err-feed-clause-does : goal.returns-in_err-feed-clause-does
returns-in_err-feed-clause-does g c =
    g.A.Answerer.does_on _ _ _ _ _ _ c.loop-open.invariant.does (g.A.Answerer.does_on _ _ _ _ _ _ (g.A.Answerer.does_exchange _ _ _ c.exchange.ensures.keeps) c.feed.ensures.does)

pub loop-open-preserved : goal.loop-open-preserved
loop-open-preserved g c =
    let n = c.in_ok-count.count in
    let at = goal.at.loop-open-preserved g c in
    let took = c.in_ok-count.ensures.taken in
    let within : c.loop-open.read + n ≤ c.args.most = omega (arith, c.loop-open.invariant.within, took.within, c.min-room.ensures) in
    let whole = length-take-le n c.exchange.new.buffer (omega (arith, took.within, c.min-room.ensures, c.exchange.auto.buffer)) in
    record {
      within = within;
      goes_on = λ on. sym c.goes_on-open.ensures ∙ on;
      ready = λ more le. c.in_ok-feed.ensures.ready more (g.A.Answerer.ready_on _ _ _ _ c.exchange.ensures.keeps (c.loop-open.invariant.ready _ (omega (arith, whole, le))));
      reads = λ given same was. record {
        input_left = c.feed.ensures.keeps.input ∙ left_more (c.loop-open.invariant.reads given same was) took;
        there = there_more (c.loop-open.invariant.reads given same was) took;
        reads = rw whole at (c.in_ok-feed.ensures.reads given c.loop-open.read (mid g at.In_ok-count given same was) (next g at.In_ok-count given same was));
      };
      runs = λ given same was.
          g.A.Answerer.runs_on given _ _ _ _ _ _ (sends g at.After-exchange given same was)
          (c.in_ok-feed.ensures.runs given c.loop-open.read (mid g at.In_ok-count given same was) (next g at.In_ok-count given same was));
      prompt = λ given same was. more_asks _ _ _ (asks g at.After-exchange given same was) (no_ask _ _ _ c.feed.ensures.keeps.asks);
      through = λ given same was closed. record {
        there = there_more (c.loop-open.invariant.reads given same was) took;
        within = within;
        ended = inl (sym c.goes_on-open.ensures ∙ closed);
      };
      taken = takes_on c.loop-open.read n _ _ _ _ (omega arith) c.loop-open.invariant.taken (record { count = n; within = omega arith; left = c.feed.ensures.keeps.input ∙ took.left });
      does = g.A.Answerer.does_on _ _ _ _ _ _ c.loop-open.invariant.does (g.A.Answerer.does_on _ _ _ _ _ _ (g.A.Answerer.does_exchange _ _ _ c.exchange.ensures.keeps) c.feed.ensures.does);
      continues = further c.loop-open.invariant.continues (further c.exchange.ensures.keeps.continues c.feed.ensures.keeps.continues);
      none = faultless c.loop-open.invariant.none (faultless c.in_ok-count.ensures.causes c.in_ok-feed.ensures.causes);
    }

pub returns-clause-leaves : goal.returns-clause-leaves
returns-clause-leaves g c given same was =
    g.A.Answerer.leaves_on given _ _ _ _ _ _ (c.loop-open.invariant.runs given same was)
    (c.finish.ensures.leaves given same (c.loop-open.invariant.reads given same was).reads (c.loop-open.invariant.through given same was c.loop-open-test.false))

pub returns-clause-prompt : goal.returns-clause-prompt
returns-clause-prompt g c given same was = more_asks _ _ _ (c.loop-open.invariant.prompt given same was) (no_ask _ _ _ c.finish.ensures.keeps.asks)

pub returns-clause-does : goal.returns-clause-does
returns-clause-does g c = g.A.Answerer.does_on _ _ _ _ _ _ c.loop-open.invariant.does c.finish.ensures.does

pub returns-clause-end : goal.returns-clause-end
returns-clause-end g c = if_ok c.finish.result (λ status end. g.A.Answerer.ends_on _ _ _ _ status c.loop-open.invariant.does end) c.finish.ensures.end
