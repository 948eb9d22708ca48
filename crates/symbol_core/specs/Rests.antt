-- What is kept of a symbol between steps.
use Rattle.std.specs.Prelude.{◌≡◌, ℕ, Bool, false, List, []}
use Rattle.std.specs.Option.{option_map_or}
use Rattle.window_core.specs.declared.window.Deal.{Deal}
use Rattle.rulebook.specs.declared.event.Event.{Event}
use Rattle.rulebook.specs.History.{now, today, records}
use Rattle.rulebook.specs.Market.{day_record}
use Rattle.rulebook.specs.Rules as rules
use Rattle.rulebook.specs.Rules.{triggered_in}
use Rattle.rulebook.specs.Symbol as of
use Rattle.rulebook.specs.Symbol.{deals_of}
use Rattle.symbol_core.specs.declared.state.Kept.{Kept}
use Rattle.symbol_core.specs.Auctions.{auction_of}
use Rattle.symbol_core.specs.Runs.{adoption_by, run_adopted, run_band, run_begun, run_quote}
use Rattle.symbol_core.specs.Window.{SameLive}

-- the kept state, the kept deals, and for how many more of them there is room
pub record SymbolState : Type 0 where
  pub kept : Kept
  pub deals : List Deal
  pub spare : ℕ

-- whether a trade of the day of the last day record triggered the short sale restriction
abbrev pub triggered_today : (List ℕ → Bool) → ℕ → List Event → Bool
triggered_today own s h = option_map_or (λ day. triggered_in own day.0 s (records h)) (day_record (records h)) false

-- the deals of that day that count
abbrev pub deals_today : ℕ → List Event → List Deal
deals_today s h = option_map_or (λ day. deals_of day.0 h s) (day_record (records h)) []

-- The kept state and the kept deals are what the history says of the symbol whose names are those of a test.
pub record Rests (own : List ℕ → Bool) (held : SymbolState) (h : List Event) : Type 0 where
  pub terms : held.kept.terms ≡ of.terms h own
  pub phase : held.kept.phase ≡ of.phase h held.kept.id
  pub since : held.kept.since ≡ of.since h held.kept.id
  pub begun : run_begun held.kept ≡ of.begun_in held.kept.id (today h)
  pub quote : run_quote held.kept ≡ of.quote h held.kept.id
  pub band : run_band held.kept ≡ of.last_band h held.kept.id
  pub adopted : run_adopted held.kept ≡ adoption_by (of.adopted h held.kept.id) (of.last_band h held.kept.id)
  pub straddling : held.kept.straddling ≡ of.was_straddling h held.kept.id
  pub halted : held.kept.halted ≡ of.is_under_regulatory_halt h held.kept.id
  pub auction : held.kept.auction ≡ auction_of h held.kept.id
  pub prior_close : held.kept.short.prior_close ≡ of.prior_close h own
  pub triggered : held.kept.short.triggered ≡ triggered_today own held.kept.id h
  pub carried : held.kept.short.carried ≡ rules.is_carried h own held.kept.id
  pub deals : SameLive (now h) held.deals (deals_today held.kept.id h)
