use Rattle.market_core.specs.Leads.{lead_of}
use Rattle.market_core.proofs.Leading.{call_leads, call_says, call_views}
use Rattle.market_core.proofs.market.Market.lead.Goals as goal

pub returns-clause-given : goal.returns-clause-given
returns-clause-given c = λ capacity before stands passed.
    call_says c.keep_lead.result capacity c.args.x.now before (lead_of c.args.self.now) _ _ stands passed c.keep_lead.ensures.said

pub returns-clause-leads : goal.returns-clause-leads
returns-clause-leads c = λ capacity before stands passed.
    call_leads c.keep_lead.result capacity c.args.x.now before (lead_of c.args.self.now) (lead_of c.keep_lead.new.self) stands passed c.keep_lead.ensures.kept

pub returns-clause-view : goal.returns-clause-view
returns-clause-view c = λ capacity before stands passed.
    call_views c.keep_lead.result capacity c.args.x.now before (lead_of c.args.self.now) (lead_of c.keep_lead.new.self) stands passed c.keep_lead.ensures.kept c.keep_lead.ensures.seen
