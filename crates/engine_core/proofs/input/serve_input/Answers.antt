use Rattle.std.proofs.Common.{◌≡◌, ◌+◌, ℕ, min, List, [], length, take, take_all, drop, length-take, length-drop, drop-drop, Some, option_map, refl, ap, ◌∙◌, add-zero, arith, rules, true≢false}
use Rattle.std.proofs.lemmas.Bool.Decides.{nat_tests}
use Rattle.host_core.proofs.Moments.{widened, unchanged, further}
use Rattle.host_core.proofs.Causes.{no_fault, faultless}
use Rattle.stream_core.proofs.Pending.{expects_nothing, on_ok2, whenever_ok}
use Rattle.stream_core.proofs.Taken.{takes_none, takes_on}
use Rattle.engine_core.specs.Sessions.{Start, Prompt, answers_to, expected}
use Rattle.engine_core.specs.Serving.{Reads, Runs}
use Rattle.engine_core.proofs.Expecting.{at_rest, safe_sends}
use Rattle.engine_core.proofs.Reading.{up_to, all_answered, expects_all, held_all, answered_by, piece_is, idles, runs_on}
use Rattle.engine_core.proofs.Asking.{no_ask, more_asks}
use Rattle.engine_core.proofs.Unwritten.{sending}
use Rattle.engine_core.proofs.input.serve_input.Given.{Over}
use Rattle.engine_core.proofs.input.serve_input.Goals.{After-exchange, After-feed}
use Rattle.engine_core.proofs.input.serve_input.Goals as goal

pub loop-open-init : goal.loop-open-init
loop-open-init g c = record {
  within = omega arith;
  answered = omega (arith, c.requires.fresh);
  buffer = c.requires.buffer;
  empty = c.requires.empty;
  most = refl;
  ready = c.requires.ready;
  polls = λ start input same reads. record {
    reads = reads;
    runs = idles reads.serves _ (up_to 0 c.args.most input (omega arith)) (g.met.H.Host.sent_now c.args.host.now) (λ records image held left. g.K.Keeper.recovers_now c.args.keeper.now records _ image held left);
    prompt = no_ask start input refl;
    end = λ closed. absurd (true≢false closed);
  };
  taken = takes_none 0 _ _ refl;
  touches = g.K.Keeper.untouched _ _ _ refl refl;
  continues = unchanged _;
  none = no_fault _;
}

-- what waited was sent and a piece was read, or one of the two ended the run
module _ (g : Over) (c : After-exchange g) (start : Start) (input : List ℕ) (same : start.acknowledges ≡ g.K.Keeper.acknowledges)
    (reads : Reads (g.K.Keeper.holds c.args.keeper.now) start input 0 c.args.session.now (g.H.Host.outside c.args.host.now)) where
  swept : Runs c.args.session.now.round.most (g.K.Keeper.holds c.loop-open.keeper) (g.K.Keeper.recovers c.args.keeper.now (g.H.Host.outside c.args.host.now)) (g.K.Keeper.recovers c.loop-open.keeper (g.H.Host.outside c.exchange.new.host)) start (take c.loop-open.read input) (take c.args.most input)
      c.exchange.result (record c.loop-open.session { outbox = c.exchange.new.outbox }) (g.H.Host.outside c.args.host.now) (g.H.Host.outside c.exchange.new.host)
  swept =
      let was = c.loop-open.invariant.polls start input same reads in
      let expects = expects_all was.reads c.loop-open.invariant.empty in
      let run = c.exchange.ensures.moments start.sent _ expects in
      runs_on (up_to c.loop-open.read c.args.most input c.loop-open.invariant.within) was.runs (record {
        serves = on_ok2 c.exchange.result c.exchange.ensures.empty (c.exchange.ensures.sent start.sent _ expects) (λ empty sent.
            let pending = expects_nothing start.sent (g.H.Host.outside c.exchange.new.host).sent _ (expected start was.reads.serves.answered) empty (rw (all_answered was.reads c.loop-open.invariant.empty) sent) in
            let held = g.K.Keeper.still_held c.loop-open.keeper _ _ _ was.reads.serves.held c.exchange.ensures.keeps.disk c.exchange.ensures.keeps.left in
            record { answered = was.reads.serves.answered; judges = assumption; held = held });
        before = whenever_ok c.exchange.result (λ records pending image recovered. g.K.Keeper.recovered_before c.loop-open.keeper records pending image _ _ c.exchange.ensures.keeps.left recovered);
        moments = widened run _ (λ image bytes stop. safe_sends _ start _ _ image bytes (at_rest [] refl (g.K.Keeper.recovers_now c.loop-open.keeper _ _ image (held_all was.reads c.loop-open.invariant.empty) stop.was)) stop);
        nothing = λ none. sending run c.exchange.ensures.keeps.disk;
        starved = λ is. absurd (c.exchange.ensures.unstarved is);
      })

  asked : Prompt start input (g.H.Host.outside c.args.host.now).asks (g.H.Host.outside c.exchange.new.host).asks
  asked =
      let was = c.loop-open.invariant.polls start input same reads in
      more_asks start input was.prompt (c.exchange.ensures.prompt (answers_to start) start.sent input c.loop-open.read was.reads.input_left was.reads.there (expects_all was.reads c.loop-open.invariant.empty))

-- and the frames of the piece were answered, or ended the run
fed : (g : Over) (c : After-feed g) (start : Start) (input : List ℕ) → start.acknowledges ≡ g.K.Keeper.acknowledges
    → Reads (g.K.Keeper.holds c.args.keeper.now) start input 0 c.args.session.now (g.H.Host.outside c.args.host.now)
    → Runs c.args.session.now.round.most (g.K.Keeper.holds c.loop-open.keeper) (g.K.Keeper.recovers c.args.keeper.now (g.H.Host.outside c.args.host.now)) (g.K.Keeper.recovers c.loop-open.keeper (g.H.Host.outside c.exchange.new.host)) start (take c.loop-open.read input) (take c.args.most input)
    c.exchange.result (record c.loop-open.session { outbox = c.exchange.new.outbox }) (g.H.Host.outside c.args.host.now) (g.H.Host.outside c.exchange.new.host)
    → Runs c.args.session.now.round.most (g.K.Keeper.holds c.feed.new.keeper) (g.K.Keeper.recovers c.args.keeper.now (g.H.Host.outside c.args.host.now)) (g.K.Keeper.recovers c.feed.new.keeper (g.H.Host.outside c.feed.new.host)) start (take (c.loop-open.read + c.in_ok-count.count) input) (take c.args.most input)
    c.feed.result c.feed.new.session (g.H.Host.outside c.args.host.now) (g.H.Host.outside c.feed.new.host)
fed g c start input same reads swept =
    let took = c.in_ok-count.ensures.taken in
    let begun = rw c.in_ok-count.was at swept in
    runs_on (up_to (c.loop-open.read + c.in_ok-count.count) c.args.most input (omega (arith, c.loop-open.invariant.within, took.within, c.min-room.ensures))) begun
    (rw (c.loop-open.invariant.most, piece_is (c.loop-open.invariant.polls start input same reads).reads took) at (c.feed.ensures.runs start _ same begun.serves))

pub loop-open-preserved : goal.loop-open-preserved
loop-open-preserved g c =
    let n = c.in_ok-count.count in
    let took = c.in_ok-count.ensures.taken in
    record {
      within = omega (arith, c.loop-open.invariant.within, took.within, c.min-room.ensures);
      answered = omega (arith, c.loop-open.invariant.answered, c.in_ok-feed.ensures.few, length-take n c.exchange.new.buffer);
      buffer = omega (arith, c.loop-open.invariant.buffer, c.exchange.auto.buffer);
      empty = c.in_ok-feed.ensures.empty;
      most = c.in_ok-feed.ensures.most ∙ c.loop-open.invariant.most;
      ready = c.in_ok-feed.ensures.ready;
      polls = λ start input same reads.
          let was = c.loop-open.invariant.polls start input same reads in
          let sent = c.in_ok-count.ensures.sent start.sent _ (expects_all was.reads c.loop-open.invariant.empty) in
          let at = goal.at.loop-open-preserved g c in
          let runs = rw c.in_ok-feed.was at (fed g at.After-feed start input same reads (swept g at.After-exchange start input same reads)) in
          let next : Reads _ start input (c.loop-open.read + n) c.feed.new.session (g.H.Host.outside c.feed.new.host) = record {
            input_left = c.feed.ensures.keeps.input ∙ took.left ∙ ap (option_map (λ (bytes : List ℕ). drop n bytes)) was.reads.input_left ∙ ap (λ (bytes : List ℕ). Some bytes) (drop-drop n c.loop-open.read input);
            there = omega (arith, took.there _ was.reads.input_left, was.reads.there, length-drop c.loop-open.read input);
            serves = runs.serves;
          } in
          record {
            reads = next;
            runs = runs;
            prompt = rw c.feed.ensures.keeps.asks (asked g at.After-exchange start input same reads);
            end = λ closed.
                let none : n ≡ 0 = grind (arith, nat_tests) in (
                  grind (arith, took.end _ was.reads.input_left none, length-drop c.loop-open.read input, none, was.reads.there, c.min-room.ensures, c.loop-open.invariant.buffer, c.loop-open.invariant.within),
                  answered_by next c.in_ok-feed.ensures.empty _ refl
                      (rw (none, add-zero) (c.in_ok-feed.ensures.still (omega (arith, none, length-take n c.exchange.new.buffer)) ∙ sent))
                      (λ records held. held),
                );
          };
      taken = takes_on c.loop-open.read n _ _ _ _ (omega arith) c.loop-open.invariant.taken (record { count = n; within = omega arith; left = c.feed.ensures.keeps.input ∙ took.left });
      touches = g.K.Keeper.touches_both _ _ _ _ c.loop-open.invariant.touches
          (g.K.Keeper.touches_both _ _ _ _ (g.K.Keeper.untouched _ _ _ c.exchange.ensures.keeps.disk c.exchange.ensures.keeps.disk_faults)
          (rw c.loop-open.invariant.most at c.feed.ensures.keeps.to_disk));
      continues = further c.loop-open.invariant.continues (further c.exchange.ensures.keeps.continues c.feed.ensures.keeps.continues);
      none = faultless c.loop-open.invariant.none (faultless c.in_ok-count.ensures.causes c.in_ok-feed.ensures.causes);
    }

-- what waits could not be sent, or no piece be read
pub returns-in_err-count-clause-moments : goal.returns-in_err-count-clause-moments
returns-in_err-count-clause-moments g c start input same reads = (swept g (goal.at.returns-in_err-count-clause-moments g c).After-exchange start input same reads).moments

pub returns-in_err-count-clause-nothing : goal.returns-in_err-count-clause-nothing
returns-in_err-count-clause-nothing g c start input same reads = (swept g (goal.at.returns-in_err-count-clause-nothing g c).After-exchange start input same reads).nothing

pub returns-in_err-count-clause-prompt : goal.returns-in_err-count-clause-prompt
returns-in_err-count-clause-prompt g c = asked g (goal.at.returns-in_err-count-clause-prompt g c).After-exchange

pub returns-in_err-count-clause-unread : goal.returns-in_err-count-clause-unread
returns-in_err-count-clause-unread g c start input same reads failed =
    let now = (c.loop-open.invariant.polls start input same reads).reads in (
      c.loop-open.read,
      omega (arith, c.exchange.ensures.asked (search rules), c.min-room.ensures),
      answered_by now c.loop-open.invariant.empty _ (c.in_err-count.ensures).untaken (c.exchange.ensures.unread start.sent _ (expects_all now c.loop-open.invariant.empty) (search rules))
          (λ records held. g.K.Keeper.still_held c.loop-open.keeper records _ _ held c.exchange.ensures.keeps.disk c.exchange.ensures.keeps.left),
    )

pub returns-in_err-count-clause-touches : goal.returns-in_err-count-clause-touches
returns-in_err-count-clause-touches g c =
    g.K.Keeper.touches_both _ _ _ _ c.loop-open.invariant.touches (g.K.Keeper.untouched _ _ _ c.exchange.ensures.keeps.disk c.exchange.ensures.keeps.disk_faults)

-- a round could not be kept or answered
pub returns-in_err-feed-clause-moments : goal.returns-in_err-feed-clause-moments
returns-in_err-feed-clause-moments g c start input same reads =
    let at = goal.at.returns-in_err-feed-clause-moments g c in
    (fed g at.After-feed start input same reads (swept g at.After-exchange start input same reads)).moments

pub returns-in_err-feed-clause-nothing : goal.returns-in_err-feed-clause-nothing
returns-in_err-feed-clause-nothing g c start input same reads =
    let at = goal.at.returns-in_err-feed-clause-nothing g c in
    (fed g at.After-feed start input same reads (swept g at.After-exchange start input same reads)).nothing

pub returns-in_err-feed-clause-starved : goal.returns-in_err-feed-clause-starved
returns-in_err-feed-clause-starved g c start input same reads is =
    let at = goal.at.returns-in_err-feed-clause-starved g c in
    (fed g at.After-feed start input same reads (swept g at.After-exchange start input same reads)).starved (search rules)

pub returns-in_err-feed-clause-prompt : goal.returns-in_err-feed-clause-prompt
returns-in_err-feed-clause-prompt g c = rw c.feed.ensures.keeps.asks (asked g (goal.at.returns-in_err-feed-clause-prompt g c).After-exchange)

pub returns-in_err-feed-clause-bytes : goal.returns-in_err-feed-clause-bytes
returns-in_err-feed-clause-bytes g c =
    takes_on c.loop-open.read c.in_ok-count.count _ _ _ _ (omega (arith, c.loop-open.invariant.within, c.in_ok-count.ensures.taken.within, c.min-room.ensures)) c.loop-open.invariant.taken
    (record { count = c.in_ok-count.count; within = omega arith; left = c.feed.ensures.keeps.input ∙ c.in_ok-count.ensures.taken.left })

pub returns-in_err-feed-clause-touches : goal.returns-in_err-feed-clause-touches
returns-in_err-feed-clause-touches g c =
    g.K.Keeper.touches_both _ _ _ _ c.loop-open.invariant.touches
    (g.K.Keeper.touches_both _ _ _ _ (g.K.Keeper.untouched _ _ _ c.exchange.ensures.keeps.disk c.exchange.ensures.keeps.disk_faults)
    (rw c.loop-open.invariant.most at c.feed.ensures.keeps.to_disk))

-- the session was closed
pub returns-clause-exact : goal.returns-clause-exact
returns-clause-exact g c start input same reads =
    let was = c.loop-open.invariant.polls start input same reads in
    let at_end = was.end c.loop-open-test.false in
    let is = c.ending.ensures.status (take c.loop-open.read input) was.reads.serves.judges.cutter in
    let all : c.loop-open.read ≡ min c.args.most (length input) = omega (arith, c.loop-open.invariant.within, at_end.0, at_end.1.there) in
    (grind (arith, nat_tests, take_all, is, at_end.0, at_end.1.there), rw all at at_end.1)

pub returns-clause-moments : goal.returns-clause-moments
returns-clause-moments g c start input same reads = (c.loop-open.invariant.polls start input same reads).runs.moments

pub returns-clause-prompt : goal.returns-clause-prompt
returns-clause-prompt g c start input same reads = (c.loop-open.invariant.polls start input same reads).prompt
