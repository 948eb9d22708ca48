-- A stock keeps its alarm where it passes over a record, and else has another one.
use Rattle.std.proofs.Common.{◌≡◌, ℕ, ◌<◌, ◌≤◌, List, [], length, Option, Some, None, sym, subst, ◌∙◌, arith}
use Rattle.std.specs.Prelude.{IfSome, slice_get, slice_index, slice_set}
use Rattle.std.proofs.lemmas.List.{append-nil, get_or-set_other, get_or-set_same, length-set}
use Rattle.wire_in.specs.declared.record.Record.{Record}
use Rattle.wire_out.specs.declared.message.Message.{Message}
use Rattle.wire_out.specs.declared.message.Stamped.{Stamped}
use Rattle.symbol_core.specs.declared.symbol.MarketView.{MarketView}
use Rattle.symbol_core.specs.Evaluates.{Evaluates}
use Rattle.symbol_core.specs.Rests.{SymbolState}
use Rattle.symbol_core.specs.Ticks.{Idles}
use Rattle.market_core.specs.declared.since.Since.{Since}
use Rattle.market_core.specs.Applied.{Appends, AppendsOne}
use Rattle.market_core.specs.Sections.{EachIdles, IdlesUntil}
use Rattle.market_core.proofs.Appending.{at_each, get-set_other, get-set_same}
use Rattle.market_core.proofs.OwnSteps.{apart_ids}

-- ticks that brought one that passes over it nothing still do
pub idles-passed : (since : Option Since) (t moment : ℕ) (old new : SymbolState) → t ≡ moment → IfSome since (λ s. t ≤ s.from)
    → ((over : MarketView) (from until : ℕ) → moment ≤ from → Idles over from until old → Idles over from until new) → (alarm : ℕ) → IdlesUntil since alarm old → IdlesUntil since alarm new
idles-passed None t moment old new is later passes = λ alarm idles. tt
idles-passed (Some s) t moment old new is later passes = λ alarm idles. let le : t ≤ s.from = later in passes s.market s.from alarm (omega (arith, le, is)) idles

pub each-passed : (before since : Option Since) (alarms : List ℕ) (stocks : List SymbolState) (index : ℕ) (old new : SymbolState) → index < length stocks → slice_get stocks index ≡ Some old
    → ((alarm : ℕ) (held : SymbolState) → IdlesUntil before alarm held → IdlesUntil since alarm held) → ((alarm : ℕ) → IdlesUntil since alarm old → IdlesUntil since alarm new)
    → EachIdles before alarms stocks → EachIdles since alarms (slice_set stocks index new)
each-passed before since alarms stocks index old new within at pass passes each =
    at_each (λ (place : ℕ) (held : SymbolState). IdlesUntil since (slice_index alarms place) held) index new (slice_set stocks index new) (get-set_same stocks index new within)
    (passes (slice_index alarms index) (pass (slice_index alarms index) old (each index old at)))
    (λ place held other e. pass (slice_index alarms place) held (each place held (sym (get-set_other stocks index new place (apart_ids place index other)) ∙ e)))

-- of one that is evaluated the alarm is set anew
pub each-evaluated : (before since : Option Since) (alarms : List ℕ) (stocks : List SymbolState) (index alarm : ℕ) (new : SymbolState) → index < length stocks → length stocks ≤ length alarms
    → ((alarm : ℕ) (held : SymbolState) → IdlesUntil before alarm held → IdlesUntil since alarm held) → IdlesUntil since alarm new → EachIdles before alarms stocks
    → EachIdles since (slice_set alarms index alarm) (slice_set stocks index new)
each-evaluated before since alarms stocks index alarm new within covers pass own each =
    at_each (λ (place : ℕ) (held : SymbolState). IdlesUntil since (slice_index (slice_set alarms index alarm) place) held) index new (slice_set stocks index new) (get-set_same stocks index new within)
    (subst (λ (a : ℕ). IdlesUntil since a new) (sym (get_or-set_same alarms index alarm 0 (omega (arith, within, covers)))) own)
    (λ place held other e.
    let apart = apart_ids place index other in
    subst (λ (a : ℕ). IdlesUntil since a held) (sym (get_or-set_other alarms index place alarm 0 apart))
    (pass (slice_index alarms place) held (each place held (sym (get-set_other stocks index new place apart) ∙ e))))

pub one-evaluated : (index : ℕ) (market : MarketView) (x : Record) (stocks : List SymbolState) (old new : SymbolState) (before after : List Stamped) → index < length stocks → slice_get stocks index ≡ Some old → Appends market x old new before after
    → AppendsOne index market x stocks (slice_set stocks index new) before after
one-evaluated index market x stocks old new before after within at appends = record {
  count = length-set stocks index new;
  at = record { was = old; is = new; found = at; left = get-set_same stocks index new within; appends = appends };
  others = λ k other. get-set_other stocks index new k other;
}

-- one that passes over it says nothing
pub says-nothing : (market : MarketView) (x : Record) (old new : SymbolState) (before : List Stamped) → ((said : List Message) → Evaluates market x old new said said) → Appends market x old new before before
says-nothing market x old new before nothing = record { said = []; evaluates = nothing []; items = sym (append-nil before) }
