use Rattle.std.proofs.Common.{ℕ, ◌+◌, ◌∷◌, [], drop, length, length-append, refl, ap, ◌∙◌, rules}
use Rattle.wire_in.specs.Records.{moment_of}
use Rattle.market_core.specs.Leads.{rulings}
use Rattle.market_core.specs.Ruled.{stamped}
use Rattle.shard_core.proofs.Turning.{all_led, none_led, one_led}
use Rattle.shard_core.proofs.Working.{begun_at, begun_on}
use Rattle.shard_core.proofs.turns.lead_all.Goals as goal

pub loop-input-init : goal.loop-input-init
loop-input-init c =
    let none = (c.in_ok-reserve.ensures).items ∙ c.clear.ensures.items in record {
      leads = none_led c.args.lead.now c.args.lead.now c.clear-2.new.self.items refl c.clear-2.ensures.items;
      count = ap length none;
      len = search rules;
      room = search rules;
      begun = c.requires.day;
    }

pub lead_one-requires : goal.lead_one-requires
lead_one-requires c = record {
  day = λ other. begun_at c.loop-input.input c.args.xs.now c.index-xs-input.result c.loop-input.lead.today c.loop-input-test.true c.index-xs-input.is c.loop-input.invariant.begun other;
}

pub loop-input-preserved : goal.loop-input-preserved
loop-input-preserved c =
    let x = c.index-xs-input.result in
    let one = c.in_ok-turn.ensures in record {
      leads = one_led c.loop-input.input c.args.xs.now c.loop-input.turns.items c.push_reserved.new.self.items c.in_ok-turn.turn x c.args.lead.now c.loop-input.lead c.lead_one.new.lead
          (stamped (moment_of x) (rulings x c.loop-input.lead.today)) c.loop-input.market.items c.lead_one.new.market.items
          c.loop-input-test.true c.loop-input.invariant.count c.loop-input.invariant.leads one.turn one.led refl one.said c.push_reserved.ensures.items c.index-xs-input.is;
      count = ap length c.push_reserved.ensures.items ∙ length-append c.loop-input.turns.items (c.in_ok-turn.turn ∷ []) ∙ ap (λ (n : ℕ). n + 1) c.loop-input.invariant.count;
      len = search rules;
      room = search rules;
      begun = begun_on (drop (c.loop-input.input + 1) c.args.xs.now) c.lead_one.new.lead.today one.begun;
    }

pub returns-clause-leads : goal.returns-clause-leads
returns-clause-leads c =
    all_led c.loop-input.input c.args.xs.now c.loop-input.turns.items c.args.lead.now c.loop-input.lead c.loop-input.market.items c.loop-input-test.false c.loop-input.invariant.leads
