-- A window represents one more call.
use Rattle.std.proofs.Common.{◌≡◌, ◌≤◌, ℕ, List, [], ◌∷◌, filter, sym, ap, ◌∙◌}
use Rattle.window_core.specs.Deals.{live, stays}
use Rattle.window_core.specs.Calls.{Call, Advance, Cancel, moment_in, deals_in}
use Rattle.window_core.specs.WindowState.{WindowState, Represents}
use Rattle.window_core.proofs.Deals.{live-live, live-cancelled}

pub represents-advanced : (held next : WindowState) (t : ℕ) (calls : List Call) → moment_in calls ≤ t → next.deals ≡ live t held.deals → Represents held calls
    → Represents next (Advance t ∷ calls)
represents-advanced held next t calls later items s = record {
  timely = (later, s.timely);
  deals = items ∙ ap (live t) s.deals ∙ live-live (moment_in calls) t later (deals_in [] calls);
}

pub represents-cancelled : (held next : WindowState) (number : ℕ) (calls : List Call) → next.deals ≡ filter (stays number) held.deals → Represents held calls
    → Represents next (Cancel number ∷ calls)
represents-cancelled held next number calls items s = record {
  timely = s.timely;
  deals = items ∙ ap (filter (stays number)) s.deals ∙ sym (live-cancelled (moment_in calls) number calls);
}
