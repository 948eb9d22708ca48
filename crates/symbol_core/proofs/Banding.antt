-- Once the rule of bands is obeyed, time gives no other bands at the same step.
use Rattle.std.proofs.Common.{◌≡◌, arith, ℕ, Bool, true, false, refl, sym, ap, ◌∙◌}
use Rattle.std.specs.Prelude.{Option, Some, None, IfSome, ◌&&◌, ◌==◌, not, is_some, option_map}
use Rattle.std.specs.Option.{option_map_or}
use Rattle.std.proofs.lemmas.Bool.Decides.{nat_tests}
use Rattle.price_core.specs.declared.quote.Bands.{Bands}
use Rattle.session_core.specs.declared.state.Phase.{Phase}
use Rattle.pause_core.specs.Phases.{is_done, is_trading}
use Rattle.rulebook.specs.declared.symbol.Banded.{Banded}
use Rattle.rulebook.specs.declared.symbol.Terms.{Terms}
use Rattle.rulebook.specs.Rules.{differs}
use Rattle.rulebook.specs.Symbol.{bands_of}
use Rattle.symbol_core.specs.declared.state.Kept.{Kept}
use Rattle.symbol_core.specs.declared.state.OpenStep.{OpenStep}
use Rattle.symbol_core.specs.declared.state.Run.{Run}
use Rattle.symbol_core.specs.declared.state.Step.{Step}
use Rattle.symbol_core.specs.Idle.{WaitsAt, changes_bands}
use Rattle.symbol_core.specs.InStep.{InStep, in_step}
use Rattle.symbol_core.specs.Kept.{banded, run_banded}
use Rattle.symbol_core.specs.Pricing.{time_changes}
use Rattle.symbol_core.specs.Runs.{run_band}
use Rattle.symbol_core.proofs.Waiting.{bands-never, nothing_and}

same_number : (n : ℕ) → (n == n) ≡ true
same_number n = grind (arith, nat_tests)

same_bands : (b : Bands) → differs b b ≡ false
same_bands b = λ i. not (same_number b.lower i && same_number b.upper i)

pub trading-goes_on : (p : Phase) → is_trading p ≡ true → is_done p ≡ false
trading-goes_on p e = grind arith

-- where it has just given bands of the time of day
pub bands-said : (k : Kept) (opened : OpenStep) (step : Step) (b : Banded) (listed : Terms) (new : InStep) → k.terms ≡ Some listed → b.bands ≡ bands_of listed step.day step.moment b.reference → new ≡ banded (in_step k opened) step b
    → changes_bands new.kept step ≡ false
bands-said k opened step b listed new is_listed of becomes =
    ap (λ (l : InStep). changes_bands l.kept step) becomes ∙ by k.run ∙ nothing_and (is_trading k.phase)
  where
    same : time_changes k step b ≡ false
    same =
        (λ i. option_map_or (λ (l : Terms). differs (bands_of l step.day step.moment b.reference) (of i)) (is_listed i) false)
        ∙ same_bands (bands_of listed step.day step.moment b.reference)

    by : (o : Option Run) → changes_bands (record k { run = option_map (run_banded step b) o }) step ≡ (is_trading k.phase && false)
    by None = refl
    by (Some run) = ap (λ (c : Bool). is_trading k.phase && c) same

pub bands-unlisted : (k : Kept) (step : Step) → k.terms ≡ None → changes_bands k step ≡ false
bands-unlisted k step none = by (run_band k) where
  by : (o : Option Banded) → (is_trading k.phase && option_map_or (time_changes k step) o false) ≡ false
  by None = nothing_and (is_trading k.phase)
  by (Some last) =
      (λ i. is_trading k.phase && option_map_or (λ (l : Terms). differs (bands_of l step.day step.moment last.reference) last.bands) (none i) false)
      ∙ nothing_and (is_trading k.phase)

-- where it says nothing
pub bands-none : (k : Kept) (step : Step) → run_band k ≡ None → changes_bands k step ≡ false
bands-none k step none =
    ap (λ (o : Option Banded). is_trading k.phase && option_map_or (time_changes k step) o false) none ∙ nothing_and (is_trading k.phase)

pub bands-last : (k : Kept) (step : Step) (last : Banded) → run_band k ≡ Some last → (is_trading k.phase && time_changes k step last) ≡ false → changes_bands k step ≡ false
bands-last k step last is stays =
    ap (λ (o : Option Banded). is_trading k.phase && option_map_or (time_changes k step) o false) is ∙ stays

-- nor outside trading
pub bands-turned : (k : Kept) (step : Step) (p : Phase) → k.phase ≡ p → is_trading p ≡ false → changes_bands k step ≡ false
bands-turned k step p is rests = bands-never k step (ap is_trading is ∙ rests)

pub bands-done : (k : Kept) (step : Step) → is_done k.phase ≡ true → changes_bands k step ≡ false
bands-done k step done = bands-never k step (by k.phase done) where
  by : (p : Phase) → is_done p ≡ true → is_trading p ≡ false
  by p e = grind arith

pub bands-trading : (k : Kept) (step : Step) → is_trading k.phase ≡ true → changes_bands k step ≡ false → option_map_or (time_changes k step) (run_band k) false ≡ false
bands-trading k step trades none = (λ i. sym trades i && option_map_or (time_changes k step) (run_band k) false) ∙ none

-- where it is known to bring none
pub bands-waited : (k : Kept) (step : Step) (o : Option ℕ) → is_some o ≡ true → IfSome o (λ until. WaitsAt k step until) → changes_bands k step ≡ false
bands-waited k step None some w = absurd cc
bands-waited k step (Some until) some w = w.waits.bands step refl (omega arith) w.later
