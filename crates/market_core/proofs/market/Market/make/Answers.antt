use Rattle.std.proofs.Common.{◌∷◌, [], ◌++◌, refl, subst, sym}
use Rattle.std.proofs.lemmas.Result.{IfOk-at_ok}
use Rattle.market_core.specs.Applied.{Finds}
use Rattle.market_core.specs.Leads.{LeadState}
use Rattle.market_core.proofs.Appending.{makes}
use Rattle.market_core.proofs.market.Market.make.Goals as goal

pub returns-clause-finds : goal.returns-clause-finds
returns-clause-finds c =
    let lead = c.self.inside.lead in
    subst (λ (kept : LeadState). Finds c.args.name c.push-id.result c.args.self.now (record { directory = kept.directory; today = kept.today; symbols = c.push.new.self.symbols })) (sym c.push-id.ensures.kept)
    (makes c.args.name c.push-id.result c.names.result c.args.self.now lead.directory (lead.directory ++ c.args.name ∷ []) lead.today c.self.inside.section.symbols c.push.new.self.symbols c.unwrap-symbol.result
    c.self.view_is c.requires.new c.self.invariant.0 c.push-id.ensures.id c.names.ensures.names
    (IfOk-at_ok _ c.unwrap-symbol.ensures c.new.ensures.id) (IfOk-at_ok _ c.unwrap-symbol.ensures c.new.ensures.rests) refl c.push.ensures.symbols)
