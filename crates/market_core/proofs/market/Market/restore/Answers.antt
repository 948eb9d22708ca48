use Rattle.std.proofs.Common.{◌≡◌, ℕ, List, None, length, ap, subst, ◌∙◌}
use Rattle.wire_in.specs.declared.base.Base.{Base}
use Rattle.symbol_core.specs.Rests.{SymbolState}
use Rattle.market_core.specs.Fresh.{AreFresh}
use Rattle.market_core.specs.Leads.{LeadState, today_led}
use Rattle.market_core.proofs.Restoring.{IsFresh, base-represents, stand_in-represents}
use Rattle.market_core.proofs.market.Market.restore.Goals as goal

-- a market of the restored lead and the restored stocks is one in which nothing was said since the day of the base began
restored : (b : Base) (lead : LeadState) (symbols : List SymbolState) (carried : List ℕ) (count : ℕ) → lead ≡ record { directory = b.names; today = today_led b.day None }
    → carried ≡ b.carried → count ≡ length lead.directory → AreFresh carried count symbols → IsFresh (record { directory = lead.directory; today = lead.today; symbols = symbols }) b.day b.names b.carried
restored b lead symbols carried count is ids many fresh = record {
  directory_is = ap (λ (l : LeadState). l.directory) is;
  today_is = ap (λ (l : LeadState). l.today) is;
  symbols = subst (λ (n : ℕ). AreFresh b.carried n symbols) (many ∙ ap (λ (l : LeadState). length l.directory) is) (subst (λ (c : List ℕ). AreFresh c count symbols) ids fresh);
}

pub returns-clause-stands : goal.returns-clause-stands
returns-clause-stands c = λ capacity applied e lawful.
    base-represents c.args.base.now _ applied capacity e lawful (restored c.args.base.now c.restore-lead.result c.restore-section.result.symbols c.list.result.now c.names.result c.restore-lead.ensures.kept c.list.ensures c.names.ensures.names c.restore-section.ensures.fresh)

pub returns-clause-stand_in : goal.returns-clause-stand_in
returns-clause-stand_in c =
    stand_in-represents c.args.base.now _ c.requires.range (restored c.args.base.now c.restore-lead.result c.restore-section.result.symbols c.list.result.now c.names.result c.restore-lead.ensures.kept c.list.ensures c.names.ensures.names c.restore-section.ensures.fresh)
