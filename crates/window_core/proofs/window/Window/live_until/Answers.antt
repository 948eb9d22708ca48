use Rattle.std.proofs.Common.{◌≡◌, subst}
use Rattle.window_core.specs.Deals.{live}
use Rattle.window_core.specs.WindowState.{WindowState}
use Rattle.window_core.proofs.Lasting.{live_before}
use Rattle.window_core.proofs.window.Window.live_until.Goals as goal

pub returns : goal.returns
returns c = λ u before.
    subst (λ (held : WindowState). live u held.deals ≡ held.deals) c.self.view_is
    (live_before u c.self.inside.until c.self.inside.items.items before c.self.invariant.lasting)
