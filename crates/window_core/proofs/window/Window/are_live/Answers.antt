use Rattle.std.proofs.Common.{◌≡◌, arith, subst}
use Rattle.window_core.specs.Deals.{live}
use Rattle.window_core.specs.WindowState.{WindowState}
use Rattle.window_core.proofs.Lasting.{live_before}
use Rattle.window_core.proofs.Moves.{below}
use Rattle.window_core.proofs.window.Window.are_live.Goals as goal

pub returns : goal.returns
returns c = λ young.
    let before = below c.nanos.result c.self.inside.until young in
    subst (λ (held : WindowState). live c.args.t held.deals ≡ held.deals) c.self.view_is
    (live_before c.args.t c.self.inside.until c.self.inside.items.items (omega arith) c.self.invariant.lasting)
