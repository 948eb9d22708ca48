-- A stock in a run that takes a quotation in, whose moment may bring a new reference price and nothing else.
use Rattle.std.proofs.Common.{◌≡◌, ℕ, ◌<◌, ◌≤◌, Bool, true, false, List, [], refl, sym, subst, ◌∙◌}
use Rattle.std.specs.Prelude.{Option, Some, None, if◌then◌else◌, is_some, option_map}
use Rattle.price_core.specs.declared.quote.Quotation.{Quotation}
use Rattle.wire_in.specs.declared.record.Record.{Record}
use Rattle.wire_in.specs.declared.record.Record.TheVariants as in_
use Rattle.wire_in.specs.Records.{is_day, moment_of}
use Rattle.window_core.specs.declared.window.Deal.{Deal}
use Rattle.window_core.specs.Deals.{live}
use Rattle.symbol_core.specs.declared.due.Due.{Due}
use Rattle.symbol_core.specs.declared.state.Kept.{Kept}
use Rattle.symbol_core.specs.declared.symbol.MarketView.{MarketView}
use Rattle.symbol_core.specs.Idle.{HasTaken, IsDue, IsIdle, IsSettled, IsSettledAt, MayMove, Waits, comes_often, has_price, is_out}
use Rattle.symbol_core.specs.InStep.{in_step, just_opened}
use Rattle.symbol_core.specs.Kept.{quoted_by, requoted, with_quote}
use Rattle.symbol_core.proofs.Evaluated.{away}
use Rattle.symbol_core.proofs.Quoted.{kept_quoted, quoted-due}

-- a record is a quotation of the stock, which is all that it leaves for the rules
pub record IsQuotation (k : Kept) (market : MarketView) (x : Record) (quote : Quotation) : Type 0 where
  pub has : HasTaken k (with_quote k quote) market x None
  pub often : comes_often x ≡ true
  pub no_day : is_day x ≡ false
  pub here : away x k.terms ≡ false

pub is-quotation : (k : Kept) (market : MarketView) (x : Record) (quote : Quotation) → quoted_by k.id x ≡ Some quote → IsQuotation k market x quote
is-quotation k market (in_.Quote t i bid offer y z) quote is = record {
  has = record { takes = λ j. in_step (record k { run = option_map (requoted (is j)) k.run }) (just_opened None false); cancels = refl };
  often = refl;
  no_day = refl;
  here = refl;
}
is-quotation k market (in_.Day t d c) quote is = absurd cc
is-quotation k market (in_.Listing t name tier l c) quote is = absurd cc
is-quotation k market (in_.Trade t i n p q f) quote is = absurd cc
is-quotation k market (in_.Cancel t i n) quote is = absurd cc
is-quotation k market (in_.IndexTick t v) quote is = absurd cc
is-quotation k market (in_.Clock t) quote is = absurd cc
is-quotation k market (in_.Notice t i kind) quote is = absurd cc
is-quotation k market (in_.Indication t i p u) quote is = absurd cc

no_deal : (b : Bool) (none : List Deal) → none ≡ [] → (if b then none else []) ≡ none
no_deal true none is = refl
no_deal false none is = sym is

-- before time brings anything but a new reference price
pub quoted-moves : (market : MarketView) (x : Record) (k : Kept) (deals : List Deal) (due : Due) (quote : Quotation) → IsDue (Some due) k deals → due.from ≤ moment_of x → moment_of x < due.waits → market ≡ due.market
    → comes_often x ≡ true → has_price k ≡ true → is_out k ≡ false → is_some k.run ≡ true → IsSettledAt k (Some quote) market.stopped → MayMove (with_quote k quote) market x None
quoted-moves market x k deals due quote is from later same often priced inside run settled = by (quoted-due k deals due (moment_of x) quote market is from same run settled inside) where
  by : IsIdle (with_quote k quote) (live (moment_of x) deals) (record due { from = moment_of x }) → MayMove (with_quote k quote) market x None
  by idle = record {
    often = often;
    settled = subst (λ (m : MarketView). IsSettled (with_quote k quote) m.stopped) (sym same) idle.settled;
    until = due.waits;
    later = later;
    waits = subst (λ (m : MarketView). Waits (with_quote k quote) m.day m.stopped (moment_of x) due.waits) (sym same) idle.waits;
    recent = refl;
    priced = kept_quoted has_price k quote (λ run other. refl) ∙ priced;
    counts = no_deal (is_some (with_quote k quote).run) [] refl;
  }
