-- A stock at a quotation, a trade or a tick at which no rule says anything.
use Rattle.std.proofs.Common.{arith, ◌≡◌, ℕ, ◌<◌, ◌≤◌, Bool, true, false, List, [], ◌∷◌, ◌++◌, refl, sym, ap, ◌∙◌, subst}
use Rattle.std.specs.Prelude.{Option, Some, None, IfSome, is_some, option_map}
use Rattle.price_core.specs.declared.quote.Quotation.{Quotation}
use Rattle.wire_in.specs.declared.record.Record.{Record}
use Rattle.wire_in.specs.declared.record.Record.TheVariants as in_
use Rattle.wire_out.specs.declared.message.Message.{Message}
use Rattle.window_core.specs.declared.window.Deal.{Deal}
use Rattle.window_core.specs.Deals.{live, mean_of}
use Rattle.rulebook.specs.Book.{symbol_rules}
use Rattle.rulebook.specs.History.{publish}
use Rattle.rulebook.specs.Rules.{asks_to_pause}
use Rattle.session_core.specs.declared.day.Day.{Day}
use Rattle.symbol_core.specs.declared.due.Due.{Due}
use Rattle.symbol_core.specs.declared.state.Kept.{Kept}
use Rattle.symbol_core.specs.declared.state.Step.{Step}
use Rattle.symbol_core.specs.declared.symbol.MarketView.{MarketView}
use Rattle.symbol_core.specs.Idle.{AwaitsPrice, IsDue, IsQuiet, IsSettled, Waits, WaitsAt, changes_bands, comes_often, is_out}
use Rattle.symbol_core.specs.InStep.{InStep}
use Rattle.symbol_core.specs.Kept.{announcing, quoted_by, requoted}
use Rattle.symbol_core.specs.Pricing.{reference}
use Rattle.symbol_core.specs.Stands.{ObeysAll, Says, Speaks, Stands}
use Rattle.symbol_core.specs.Taken.{taken}
use Rattle.symbol_core.specs.Window.{window}
use Rattle.symbol_core.proofs.Chains.{none, obeys_all}
use Rattle.symbol_core.proofs.Runs.{run_keeps}
use Rattle.symbol_core.proofs.Unmoved.{IsQuietEarly, early-nothing, early_rules, quiet-nothing}

announces_nothing : (k : Kept) (x : Record) → comes_often x ≡ true → announcing k x ≡ []
announces_nothing held (in_.Day t d c) e = absurd cc
announces_nothing held (in_.Listing t name k l c) e = absurd cc
announces_nothing held (in_.Trade t i n p q f) e = refl
announces_nothing held (in_.Cancel t i n) e = absurd cc
announces_nothing held (in_.Quote t i b o y z) e = refl
announces_nothing held (in_.IndexTick t v) e = refl
announces_nothing held (in_.Clock t) e = refl
announces_nothing held (in_.Notice t i kind) e = absurd cc
announces_nothing held (in_.Indication t i p u) e = absurd cc

asks_nothing : (s : ℕ) (x : Record) → comes_often x ≡ true → asks_to_pause s x ≡ false
asks_nothing s (in_.Day t d c) e = absurd cc
asks_nothing s (in_.Listing t name k l c) e = absurd cc
asks_nothing s (in_.Trade t i n p q f) e = refl
asks_nothing s (in_.Cancel t i n) e = absurd cc
asks_nothing s (in_.Quote t i b o y z) e = refl
asks_nothing s (in_.IndexTick t v) e = refl
asks_nothing s (in_.Clock t) e = refl
asks_nothing s (in_.Notice t i kind) e = absurd cc
asks_nothing s (in_.Indication t i p u) e = absurd cc

-- Time brings nothing once the record is taken in, nor at the end of the step.

-- the bands that time brings, once a quotation is taken in
bands_taken : (k : Kept) (quote : Option Quotation) (later : Step) → changes_bands (record k { run = option_map (requoted quote) k.run }) later ≡ changes_bands k later
bands_taken k quote later = run_keeps (λ o. changes_bands (record k { run = o }) later) (requoted quote) (λ run. refl) k.run

waits_taken : (k : Kept) (step : Step) (day : Day) (stopped : Bool) (from until : ℕ) (x : Record) → x ≡ step.input → comes_often x ≡ true → Waits k day stopped from until → Waits (taken k step).kept day stopped from until
waits_taken held step day stopped from until (in_.Day t d c) is e w = absurd cc
waits_taken held step day stopped from until (in_.Listing t name k l c) is e w = absurd cc
waits_taken held step day stopped from until (in_.Trade t i n p q f) is e w = subst (λ (y : Record). Waits (taken held (record step { input = y })).kept day stopped from until) is (record { closes = w.closes; starts = w.starts; pauses = w.pauses; reopens = w.reopens; bands = λ later on le lt. bands_taken held (quoted_by held.id (in_.Trade t i n p q f)) later ∙ w.bands later on le lt })
waits_taken held step day stopped from until (in_.Cancel t i n) is e w = absurd cc
waits_taken held step day stopped from until (in_.Quote t i b o y z) is e w = subst (λ (y : Record). Waits (taken held (record step { input = y })).kept day stopped from until) is (record { closes = w.closes; starts = w.starts; pauses = w.pauses; reopens = w.reopens; bands = λ later on le lt. bands_taken held (quoted_by held.id (in_.Quote t i b o y z)) later ∙ w.bands later on le lt })
waits_taken held step day stopped from until (in_.IndexTick t v) is e w = subst (λ (y : Record). Waits (taken held (record step { input = y })).kept day stopped from until) is (record { closes = w.closes; starts = w.starts; pauses = w.pauses; reopens = w.reopens; bands = λ later on le lt. bands_taken held (quoted_by held.id (in_.IndexTick t v)) later ∙ w.bands later on le lt })
waits_taken held step day stopped from until (in_.Clock t) is e w = subst (λ (y : Record). Waits (taken held (record step { input = y })).kept day stopped from until) is (record { closes = w.closes; starts = w.starts; pauses = w.pauses; reopens = w.reopens; bands = λ later on le lt. bands_taken held (quoted_by held.id (in_.Clock t)) later ∙ w.bands later on le lt })
waits_taken held step day stopped from until (in_.Notice t i kind) is e w = absurd cc
waits_taken held step day stopped from until (in_.Indication t i p u) is e w = absurd cc

pub waits-taken : (k : Kept) (step : Step) (o : Option ℕ) → IfSome o (λ until. WaitsAt k step until) → IfSome o (λ until. WaitsAt (taken k step).kept step until)
waits-taken k step None w = tt
waits-taken k step (Some until) w = record { often = w.often; later = w.later; waits = waits_taken k step step.day step.stopped step.moment until step.input refl w.often w.waits }

-- the moments of a step that is waited at
pub waits-left : (k : Kept) (step : Step) (o : Option ℕ) → IfSome o (λ until. WaitsAt k step until) → IfSome o (λ until. Waits k step.day step.stopped step.moment until)
waits-left k step None w = tt
waits-left k step (Some until) w = w.waits

-- by when the stock was due
pub waits-due : (k : Kept) (deals : List Deal) (due : Due) (step : Step) → comes_often step.input ≡ true → due.from ≤ step.moment → step.moment < due.waits → record { day = step.day; stopped = step.stopped } ≡ due.market → IsDue (Some due) k deals → is_out k ≡ false
    → WaitsAt k step due.waits
waits-due k deals due step often from until same is inside = record {
  often = often;
  later = until;
  waits = subst (λ (m : MarketView). Waits k m.day m.stopped step.moment due.waits) (sym same) (from_now (is inside).waits);
} where
  from_now : Waits k due.market.day due.market.stopped due.from due.waits → Waits k due.market.day due.market.stopped step.moment due.waits
  from_now w = record { closes = w.closes; starts = w.starts; pauses = w.pauses; reopens = w.reopens; bands = λ u day le lt. w.bands u day (omega arith) lt }

-- No rule says anything.

quiet_at : (k : InStep) (deals : List Deal) (step : Step) (until : ℕ) → WaitsAt k.kept step until → IsSettled k.kept step.stopped → reference k step (mean_of (live step.moment (window k deals))) ≡ None → k.opened.restricts ≡ false → IsQuiet k deals step
quiet_at k deals step until w settled prices restricts = record {
  settled = settled;
  closes = w.waits.closes step.moment w.later;
  starts = w.waits.starts step.moment w.later;
  pauses = w.waits.pauses step.moment w.later;
  asks = asks_nothing k.kept.id step.input w.often;
  reopens = w.waits.reopens step.moment w.later;
  prices = prices;
  bands = w.waits.bands step refl (omega arith) w.later;
  restricts = restricts;
}

append_nothing : (xs : List Message) → xs ≡ xs ++ []
append_nothing [] = refl
append_nothing (m ∷ xs) = ap (λ (ys : List Message). m ∷ ys) (append_nothing xs)

-- nothing is announced at such a record
pub announces-none : (k : InStep) (step : Step) (before : List Message) → comes_often step.input ≡ true → Says (announcing k.kept step.input) step k k before before
announces-none k step before often = subst (λ (ms : List Message). Says ms step k k before before) (sym (announces_nothing k.kept step.input often)) (none step k before)

obeys_quiet : (k : InStep) (deals : List Deal) (step : Step) (before : List Message) → IsQuiet k deals step → ObeysAll deals symbol_rules step k k before before
obeys_quiet k deals step before quiet =
    record {
      says = λ mine h s. append_nothing before ∙ ap (λ (ms : List Message). before ++ ms) (sym (quiet-nothing k deals step quiet mine h s));
      stands = λ mine h s. subst (λ (ms : List Message). Stands mine k deals step (publish ms h)) (sym (quiet-nothing k deals step quiet mine h s)) s;
      id = refl;
    }

pub speaks-quiet : (k : InStep) (deals : List Deal) (step : Step) (before : List Message) (o : Option ℕ) → is_some o ≡ true → IfSome o (λ until. WaitsAt k.kept step until) → IsSettled k.kept step.stopped → reference k step (mean_of (live step.moment (window k deals))) ≡ None → k.opened.restricts ≡ false
    → Speaks deals step k k before before
speaks-quiet k deals step before None some w settled prices restricts = absurd cc
speaks-quiet k deals step before (Some until) some w settled prices restricts =
    record {
      said = k;
      between = before;
      announces = subst (λ (ms : List Message). Says ms step k k before before) (sym (announces_nothing k.kept step.input w.often)) (none step k before);
      obeys = obeys_quiet k deals step before (quiet_at k deals step until w settled prices restricts);
    }

pub waits-known : (k : Kept) (step : Step) (due : Due) (before : Option Due) (o : Option ℕ) → before ≡ Some due → is_out k ≡ false → IfSome o (λ until. (l : Kept) (deals : List Deal) → IsDue (Some due) l deals → is_out l ≡ false → WaitsAt l step until)
    → IfSome o (λ until. (deals : List Deal) → IsDue before k deals → WaitsAt k step until)
waits-known k step due before None is inside w = tt
waits-known k step due before (Some until) is inside w = λ deals d. w k deals (subst (λ (o : Option Due). IsDue o k deals) is d) inside

pub waits-held : (k : Kept) (deals : List Deal) (step : Step) (before : Option Due) (o : Option ℕ) → IsDue before k deals → IfSome o (λ until. (deals : List Deal) → IsDue before k deals → WaitsAt k step until) → IfSome o (λ until. WaitsAt k step until)
waits-held k deals step before None d w = tt
waits-held k deals step before (Some until) d w = w deals d

-- Only a new reference price is awaited.

early_at : (k : Kept) (step : Step) → AwaitsPrice k step → IsQuietEarly k step
early_at k step awaits =
    let w = awaits.waits in
    record {
      settled = awaits.settled;
      closes = w.waits.closes step.moment w.later;
      starts = w.waits.starts step.moment w.later;
      pauses = w.waits.pauses step.moment w.later;
      asks = asks_nothing k.id step.input w.often;
      reopens = w.waits.reopens step.moment w.later;
    }

pub obeys-early : (k : InStep) (deals : List Deal) (step : Step) (before : List Message) → AwaitsPrice k.kept step → ObeysAll deals early_rules step k k before before
obeys-early k deals step before awaits = obeys_all deals early_rules (none step k before) (early-nothing k deals step (early_at k.kept step awaits))
