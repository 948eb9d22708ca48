use Rattle.std.proofs.Common.{sym, subst}
use Rattle.wire_in.specs.declared.record.Record.{Record}
use Rattle.symbol_core.specs.InStep.{in_step}
use Rattle.symbol_core.specs.Kept.{announcing}
use Rattle.symbol_core.specs.Stands.{Says}
use Rattle.symbol_core.proofs.state.Kept.announce.Goals as goal

pub returns-in-Listing-clause-says : goal.returns-in-Listing-clause-says
returns-in-Listing-clause-says c = λ opened.
    let k = c.args.self.now in
    subst (λ (x : Record). Says (announcing k x) c.args.step.now (in_step k opened) (in_step c.announce_name.new.self opened) c.args.out.now c.announce_name.new.out) (sym c.in-Listing.is)
    (c.announce_name.ensures.says opened)
