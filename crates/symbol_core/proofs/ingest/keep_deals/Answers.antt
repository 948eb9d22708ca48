use Rattle.std.specs.Prelude.{[], if◌then◌else◌, is_some, option_to_list}
use Rattle.symbol_core.proofs.Live.{same-added, live-added, live-counted}
use Rattle.symbol_core.proofs.ingest.keep_deals.Goals as goal

pub returns-clause-same : goal.returns-clause-same
returns-clause-same c =
    rw (c.add_deal.ensures, c.advance.ensures.deals, c.begin_window.ensures.items)
    (same-added c.args.t (if c.args.is_fresh then [] else c.args.deals.now.deals) (if is_some c.args.k.now.run then option_to_list c.args.deal.now else []))

pub returns-clause-recent : goal.returns-clause-recent
returns-clause-recent c = λ own.
    rw (c.add_deal.ensures, c.advance.ensures.deals)
    (live-added c.args.t c.begin_window.new.deals.deals (if is_some c.args.k.now.run then option_to_list c.args.deal.now else []) (live-counted c.args.t (is_some c.args.k.now.run) (option_to_list c.args.deal.now) own))
