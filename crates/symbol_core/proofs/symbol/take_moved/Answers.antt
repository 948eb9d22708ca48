use Rattle.std.proofs.Common.{◌≡◌, sym, ap, subst, ℕ}
use Rattle.rulebook.specs.Book.{symbol_rules}
use Rattle.window_core.specs.Deals.{live}
use Rattle.symbol_core.specs.declared.state.OpenStep.{OpenStep}
use Rattle.symbol_core.specs.declared.state.Step.{Step}
use Rattle.symbol_core.specs.Idle.{MeanMoves}
use Rattle.symbol_core.specs.InStep.{in_step}
use Rattle.symbol_core.specs.Stands.{ObeysAll}
use Rattle.symbol_core.proofs.Dealt.{awaits-price, mean-moves, moved-recent, moved-steps}
use Rattle.symbol_core.proofs.symbol.take_moved.Goals as goal

pub returns-clause-steps : goal.returns-clause-steps
returns-clause-steps c = λ was kept has gone.
    let step = c.step_of-step.result in
    let deal = c.args.deal.now in
    moved-steps was c.args.k.now (in_step c.obey_moved.new.self c.obey_moved.new.opened) c.args.market.now c.args.x.now step deal kept c.args.deals.now.deals c.keep_deals.new.deals.deals c.args.out.now c.obey_moved.new.out c.step_of-step.ensures c.requires.moves has gone
    (subst (λ (opened : OpenStep). ObeysAll c.args.deals.now.deals symbol_rules step (in_step c.args.k.now opened) (in_step c.obey_moved.new.self c.obey_moved.new.opened) c.args.out.now c.obey_moved.new.out) c.begin-opened.ensures c.obey_moved.ensures.obeys)
    c.keep_deals.ensures.same

pub returns-clause-recent : goal.returns-clause-recent
returns-clause-recent c =
    let at = ap (λ (s : Step). s.moment) c.step_of-step.ensures in
    subst (λ (t : ℕ). live t c.keep_deals.new.deals.deals ≡ c.keep_deals.new.deals.deals) at
    (c.keep_deals.ensures.recent (moved-recent c.args.k.now c.args.market.now c.args.x.now c.args.deal.now c.step_of-step.result.moment c.requires.moves at))

pub obey_moved-requires-clause-awaits : goal.obey_moved-requires-clause-awaits
obey_moved-requires-clause-awaits c = awaits-price c.args.k.now c.args.market.now c.args.x.now c.args.deal.now c.step_of-step.result c.step_of-step.ensures c.requires.moves c.requires.trading

pub obey_moved-requires-clause-moves : goal.obey_moved-requires-clause-moves
obey_moved-requires-clause-moves c =
    subst (λ (opened : OpenStep). MeanMoves (in_step c.args.k.now opened) c.args.deals.now.deals c.step_of-step.result) (sym c.begin-opened.ensures)
    (mean-moves c.args.market.now c.args.x.now c.args.k.now c.args.deals.now.deals c.args.deal.now c.step_of-step.result c.step_of-step.ensures c.requires.moves c.requires.mean)

pub returns-clause-due : goal.returns-clause-due
returns-clause-due c = c.due_within.ensures c.obey_moved.ensures.settled c.waits.ensures
