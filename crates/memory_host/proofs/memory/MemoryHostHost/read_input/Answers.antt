use Rattle.std.proofs.Common.{List, refl, ap, ◌∙◌, arith}
use Rattle.std.proofs.lemmas.Grind.{common_steps}
use Rattle.std.specs.Prelude.{Some, map}
use Rattle.host_core.specs.declared.counts.FaultCounts.{FaultCounts}
use Rattle.host_core.specs.declared.counts.Side.TheVariants.{Input}
use Rattle.memory_host.specs.declared.effect.Request.{Request}
use Rattle.memory_host.specs.Requests.{ask_of}
use Rattle.memory_host.proofs.Requested.{asks_one, one_behind}
use Rattle.memory_host.proofs.Answered.{one_more, one_rose, none_rose, input_rose, take_failed, idle_takes}
use Rattle.memory_host.proofs.memory.MemoryHostHost.read_input.Goals as goal

pub returns-then-begin-clause-reads : goal.returns-then-begin-clause-reads
returns-then-begin-clause-reads c =
    let host = c.args.self.now in
    let more = one_more Input c.begin.ensures.faults c.fail.ensures.faults c.fail.ensures.later in
    let keeps = idle_takes _ _ _ _ _ _ host.ledger.faults host.sent_is host.disk_is _ _ c.fail.new.self.faults _ refl (one_rose more) in
    take_failed c.fail.result c.args.into.now c.fail.ensures.failed refl refl keeps (input_rose more)

pub invariant_of-self-in-Ok-clause-behind : goal.invariant_of-self-in-Ok-clause-behind
invariant_of-self-in-Ok-clause-behind c =
    let host = c.args.self.now in
    one_behind host.input.items host.sent.items host.requests.items _ _ (c.len.ensures ∙ host.sent.ok.0) _ c.in-Ok.ensures.request host.behind

pub returns-in-Ok-clause-reads : goal.returns-in-Ok-clause-reads
returns-in-Ok-clause-reads c =
    let host = c.args.self.now in
    let same = c.begin.ensures.faults in
    record {
      read = grind (arith, common_steps);
      asks = asks_one host.input.items host.sent.items host.requests.items _ _ (c.len.ensures ∙ host.sent.ok.0) _ c.in-Ok.ensures.request;
      keeps = idle_takes _ _ _ _ _ _ host.ledger.faults
          host.sent_is host.disk_is _ _ c.begin.new.self.faults _ refl (none_rose _ _ Input same);
      cause = tt;
      faultless = ap (λ (f : FaultCounts). f.reading) same;
    }

pub returns-in-Err-clause-reads : goal.returns-in-Err-clause-reads
returns-in-Err-clause-reads c =
    let host = c.args.self.now in
    let more = one_more Input c.begin.ensures.faults c.starve.ensures.faults c.starve.ensures.later in
    let keeps = idle_takes _ _ _ _ _ _ host.ledger.faults host.sent_is host.disk_is _ _ c.starve.new.self.faults _ refl (one_rose more) in
    let asks = ap (λ (requests : List Request). Some (map (ask_of host.input.items host.sent.items) requests)) c.in-Err.ensures.same in
    take_failed c.starve.result c.args.into.now c.starve.ensures.failed refl asks keeps (input_rose more)
