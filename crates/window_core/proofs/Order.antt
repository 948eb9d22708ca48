-- The deals of timely calls stand in the order of their moments, so the first of them has the least.
use Rattle.std.proofs.Common.{◌≡◌, ℕ, ◌≤◌, Bool, true, false, List, [], ◌∷◌, ◌++◌, refl, sym, ap, ◌∙◌, arith}
use Rattle.std.specs.Prelude.{Option, Some, if◌then◌else◌, option_map, slice_get, min, ◌==◌}
use Rattle.std.specs.List.{list_any}
use Rattle.std.specs.Option.{option_map_or}
use Rattle.window_core.specs.declared.window.Deal.{Deal}
use Rattle.window_core.specs.Calls.{Call, Advance, Add, Cancel, Restart, deals_in, moment_in, window}
use Rattle.window_core.specs.Deals.{is_live, least_moment}
use Rattle.window_core.specs.Summed.{AllUpTo, InOrder}
use Rattle.window_core.specs.WindowState.{AreTimely}
use Rattle.window_core.proofs.Sums.{late_push, order_push, order_some}

later_still : (t u : ℕ) (deals : List Deal) → t ≤ u → AllUpTo t deals → AllUpTo u deals
later_still t u [] le all = tt
later_still t u (d ∷ deals) le all = let before = all.0 in (omega arith, later_still t u deals le all.1)

one_more : (cancelled : Bool) (t : ℕ) (d : Deal) (deals : List Deal) → d.moment ≡ t → InOrder deals × AllUpTo t deals
    → InOrder (if cancelled then deals else deals ++ d ∷ []) × AllUpTo t (if cancelled then deals else deals ++ d ∷ [])
one_more true t d deals now both = both
one_more false t d deals now (order, late) = (order_push t deals d order late (omega arith), late_push t t deals d late (omega arith) (omega arith))

timely_order : (cancelled : List ℕ) (calls : List Call) → AreTimely calls → InOrder (deals_in cancelled calls) × AllUpTo (moment_in calls) (deals_in cancelled calls)
timely_order cancelled [] timely = (tt, tt)
timely_order cancelled (Advance t ∷ earlier) (later, timely) =
    let both = timely_order cancelled earlier timely in (both.0, later_still (moment_in earlier) t (deals_in cancelled earlier) later both.1)
timely_order cancelled (Add d ∷ earlier) (now, timely) =
    one_more (list_any (λ number. d.number == number) cancelled) (moment_in earlier) d (deals_in cancelled earlier) now (timely_order cancelled earlier timely)
timely_order cancelled (Cancel number ∷ earlier) timely = timely_order (number ∷ cancelled) earlier timely
timely_order cancelled (Restart ∷ earlier) timely = (tt, tt)

least_of_two : (d e : Deal) (least : Option ℕ) → d.moment ≤ e.moment → least ≡ Some e.moment → option_map_or (min d.moment) least d.moment ≡ d.moment
least_of_two d e least before is = ap (λ (o : Option ℕ). option_map_or (min d.moment) o d.moment) is ∙ omega arith

least-first : (d : Deal) (deals : List Deal) → InOrder (d ∷ deals) → least_moment (d ∷ deals) ≡ Some d.moment
least-first d [] order = refl
least-first d (e ∷ deals) order = ap Some (least_of_two d e (least_moment (e ∷ deals)) order.0.0 (least-first e deals order.1))

least-ordered : (deals : List Deal) → InOrder deals → option_map (λ d. d.moment) (slice_get deals 0) ≡ least_moment deals
least-ordered [] order = refl
least-ordered (d ∷ deals) order = sym (least-first d deals order)

pub oldest_is : (calls : List Call) → AreTimely calls → option_map (λ d. d.moment) (slice_get (window calls) 0) ≡ least_moment (window calls)
oldest_is calls timely = least-ordered (window calls) (order_some (is_live (moment_in calls)) (deals_in [] calls) (timely_order [] calls timely).0)
