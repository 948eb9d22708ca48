-- Until when no deal is five minutes old, as deals come and leave.
use Rattle.std.proofs.Common.{arith, ◌≡◌, ℕ, ◌+◌, ◌≤◌, ◌<◌, Bool, true, List, [], ◌∷◌, ◌++◌, filter, refl, ap}
use Rattle.std.specs.Prelude.{Some, None, drop, slice_get}
use Rattle.std.proofs.lemmas.Bool.Decides.{nat_tests}
use Rattle.std.proofs.lemmas.List.Elements.{All-cons, All-drop, All-filter, All-nil, All-push, All-same, All-weaker}
use Rattle.session_core.specs.Durations.{five_minutes}
use Rattle.window_core.specs.declared.window.Deal.{Deal}
use Rattle.window_core.specs.Deals.{is_live, live}
use Rattle.window_core.specs.Summed.{AllFrom, InOrder, LastUntil}

abbrev Lasts : ℕ → Deal → Type 0
Lasts until d = until ≤ d.moment + five_minutes

one_live : (t until : ℕ) (d : Deal) → t < until → Lasts until d → is_live t d ≡ true
one_live t until d before lasts = grind (arith, nat_tests)

-- before that moment each deal is live
pub live_before : (t until : ℕ) (deals : List Deal) → t < until → LastUntil until deals → live t deals ≡ deals
live_before t until [] before all = refl
live_before t until (d ∷ deals) before all =
    simp (one_live t until d before (all 0 d (omega arith))) (ap (λ (ds : List Deal). d ∷ ds) (live_before t until deals before (All-drop (Lasts until) 1 (d ∷ deals) all)))

pub lasts_none : (until : ℕ) (deals : List Deal) → slice_get deals 0 ≡ None → LastUntil until deals
lasts_none until [] none = All-nil (Lasts until)
lasts_none until (d ∷ deals) none = absurd cc

-- One deal more.

pub lasts_push : (old until : ℕ) (deals after : List Deal) (d : Deal) → after ≡ deals ++ d ∷ [] → until ≤ old → until ≤ d.moment + five_minutes → LastUntil old deals → LastUntil until after
lasts_push old until deals after d pushed sooner own all =
    All-same (Lasts until) after (deals ++ d ∷ []) pushed
    (All-push (Lasts until) deals d (All-weaker (Lasts old) (Lasts until) (λ e lasts. omega arith) deals all) own)

-- Some of the deals.

pub lasts_some : (until : ℕ) (test : Deal → Bool) (deals some : List Deal) → some ≡ filter test deals → LastUntil until deals → LastUntil until some
lasts_some until test deals some is all = All-same (Lasts until) some (filter test deals) is (All-filter test (Lasts until) deals all)

pub lasts_rest : (until : ℕ) (deals rest : List Deal) → rest ≡ drop 1 deals → LastUntil until deals → LastUntil until rest
lasts_rest until deals rest is all = All-same (Lasts until) rest (drop 1 deals) is (All-drop (Lasts until) 1 deals all)

-- Deals in order: the first is the first to be five minutes old.

from_lasts : (t until : ℕ) (deals : List Deal) → until ≤ t + five_minutes → AllFrom t deals → LastUntil until deals
from_lasts t until [] le all = All-nil (Lasts until)
from_lasts t until (d ∷ deals) le all =
    let later = all.0 in
    All-cons (Lasts until) d deals (omega arith) (from_lasts t until deals le all.1)

pub lasts_by_first : (until : ℕ) (deals : List Deal) (d : Deal) → InOrder deals → slice_get deals 0 ≡ Some d → until ≤ d.moment + five_minutes → LastUntil until deals
lasts_by_first until [] d order is le = absurd cc
lasts_by_first until (e ∷ deals) d order is le =
    let same : e ≡ d = cc in
    let moment : e.moment ≡ d.moment = ap (λ (x : Deal). x.moment) same in
    All-cons (Lasts until) e deals (omega arith) (from_lasts e.moment until deals (omega arith) order.0)
