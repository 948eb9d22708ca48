use Rattle.std.proofs.Common.{List, [], ◌++◌, refl, sym, ap, ◌∙◌}
use Rattle.std.proofs.lemmas.List.{append-nil}
use Rattle.wire_out.specs.declared.message.Stamped.{Stamped}
use Rattle.shard_core.specs.Block.{tagged}
use Rattle.shard_core.proofs.Taking.{none_takes}
use Rattle.shard_core.proofs.Turning.{all_told, none_told, one_told}
use Rattle.shard_core.proofs.part.take_turns.Goals as goal

pub loop-input-init : goal.loop-input-init
loop-input-init c = record {
  tells = none_told c.args.ids.start c.args.ids.is_last c.args.section.now.symbols c.args.section.now.symbols c.clear.new.self.items refl c.clear.ensures.items;
  few = c.requires.few;
}

pub loop-input-preserved : goal.loop-input-preserved
loop-input-preserved c = record {
  tells = one_told c.args.ids.start c.args.ids.is_last c.loop-input.input c.args.xs.now c.args.turns.now c.index-xs-input.result c.index-turns-input.result c.args.section.now.symbols
      c.loop-input.section.symbols c.take_turn.new.section.symbols c.take_turn.new.said.items c.loop-input.told.items c.tag.new.out.items
      c.loop-input-test.true c.requires.count c.index-xs-input.is c.index-turns-input.is c.loop-input.invariant.tells (c.in_ok-take_turn.ensures).takes
      (c.in_ok-tag.ensures ∙ ap (λ (ms : List Stamped). c.loop-input.told.items ++ tagged c.loop-input.input ms) c.deref.ensures.value);
  few = c.take_turn.ensures.few;
}

pub loop-input-preserved-then-not-is_for : goal.loop-input-preserved-then-not-is_for
loop-input-preserved-then-not-is_for c = record {
  tells = one_told c.args.ids.start c.args.ids.is_last c.loop-input.input c.args.xs.now c.args.turns.now c.index-xs-input.result c.index-turns-input.result c.args.section.now.symbols
      c.loop-input.section.symbols c.loop-input.section.symbols [] c.loop-input.told.items c.loop-input.told.items
      c.loop-input-test.true c.requires.count c.index-xs-input.is c.index-turns-input.is c.loop-input.invariant.tells
      (none_takes c.index-turns-input.result.target c.args.ids.start c.len.result c.args.ids.is_last c.index-turns-input.result.view c.index-xs-input.result c.loop-input.section.symbols
      (sym c.is_for.ensures ∙ c.if-not-is_for.true) (sym c.len.ensures))
      (sym (append-nil c.loop-input.told.items));
  few = c.loop-input.invariant.few;
}

pub returns-clause-tells : goal.returns-clause-tells
returns-clause-tells c =
    all_told c.args.ids.start c.args.ids.is_last c.loop-input.input c.args.xs.now c.args.turns.now c.args.section.now.symbols c.loop-input.section.symbols c.loop-input.told.items
    c.loop-input-test.false c.requires.count c.loop-input.invariant.tells
