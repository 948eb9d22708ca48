use Rattle.std.proofs.Common.{◌∷◌, ◌++◌, subst, sym, ◌∙◌}
use Rattle.market_core.specs.Leads.{IsLed, LeadState}
use Rattle.market_core.proofs.Leading.{lead_gives, lead_stands, viewed}
use Rattle.market_core.proofs.lead.Lead.lead.Goals as goal

pub returns-clause-given : goal.returns-clause-given
returns-clause-given c = λ capacity before stands passed.
    c.take_in.ensures.given ∙ (λ i. c.reserve.ensures.items i ++ lead_gives capacity c.args.x.now before c.args.self.now stands passed i)

pub returns-clause-leads : goal.returns-clause-leads
returns-clause-leads c = λ capacity before stands passed.
    subst (λ (kept : LeadState). IsLed kept (c.args.x.now ∷ before)) (sym c.take_in.ensures.kept) (lead_stands capacity c.args.x.now before c.args.self.now stands passed)

pub returns-clause-view : goal.returns-clause-view
returns-clause-view c = λ capacity before stands passed.
    viewed (c.args.x.now ∷ before) c.take_in.new.self c.unwrap.result
    (subst (λ (kept : LeadState). IsLed kept (c.args.x.now ∷ before)) (sym c.take_in.ensures.kept) (lead_stands capacity c.args.x.now before c.args.self.now stands passed))
    (sym c.view.ensures ∙ c.unwrap.ensures)
