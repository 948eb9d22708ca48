use Rattle.std.proofs.Common.{◌≡◌, [], rules}
use Rattle.live_core.proofs.start.finish.Goals as goal

pub returns : goal.returns
returns c =
    let session : c.new.result ≡ record { cutter = []; engine = c.args.recovery.engine; round = c.args.round; outbox = c.args.recovery.outbox; answered = 0 } = λ i. record {
      cutter = c.new.ensures.cutter i;
      engine = c.new.ensures.engine i;
      round = c.new.ensures.round i;
      outbox = c.new.ensures.outbox i;
      answered = c.new.ensures.answered i;
    } in
    search (rules, session, c.finish.ensures.of_disk)
