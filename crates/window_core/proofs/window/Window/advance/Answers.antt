use Rattle.std.proofs.Common.{◌≡◌, arith, rules, sym, ◌∙◌}
use Rattle.window_core.specs.Deals.{live}
use Rattle.window_core.proofs.RepresentsCalls.{represents-advanced}
use Rattle.window_core.proofs.window.Window.advance.Goals as goal

pub returns-then-are_live-clause-stands : goal.returns-then-are_live-clause-stands
returns-then-are_live-clause-stands c = λ calls later stands.
    represents-advanced c.args.self.now c.args.self.now c.args.t calls later (sym (c.are_live.ensures c.if-are_live.true)) stands

pub returns-clause-deals : goal.returns-clause-deals
returns-clause-deals c =
    let same : live c.args.t c.loop-test.self.deals ≡ live c.args.t c.args.self.now.deals = search rules in
    c.drop_others.ensures.deals ∙ same

pub returns-clause-stands : goal.returns-clause-stands
returns-clause-stands c = λ calls later stands.
    represents-advanced c.args.self.now _ c.args.t calls later (returns-clause-deals c) stands
