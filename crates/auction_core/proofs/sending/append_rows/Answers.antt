use Rattle.std.proofs.Common.{List, map, ap}
use Rattle.std.proofs.lemmas.List.{take_all}
use Rattle.cross_core.specs.declared.order.Row.{Row}
use Rattle.auction_core.specs.Lines.{line_of_row}
use Rattle.auction_core.specs.Texts.{text_of_lines}
use Rattle.auction_core.proofs.Appending.{appends_less, appends_none, appends_ok, appends_on, appends_same, made, text_more, text_rest}
use Rattle.auction_core.proofs.sending.append_rows.Goals as goal

pub loop-row-init : goal.loop-row-init
loop-row-init g c = record { appends = appends_none (g.H.Host.outside c.args.host.now) (g.met.H.Host.sent_now c.args.host.now) _ }

pub loop-row-preserved : goal.loop-row-preserved
loop-row-preserved g c = record {
  appends = appends_same _ _ (text_more line_of_row c.args.rows.now c.loop-row.row-index c.row-item.result c.row-item.result c.loop-row-test.true c.row-item.is)
      (appends_on made c.loop-row.invariant.appends (appends_ok c.append_row.result _ c.in_ok-append_row.was c.append_row.ensures.appends));
}

pub returns-in_err-append_row : goal.returns-in_err-append_row
returns-in_err-append_row g c =
    let rest = text_rest line_of_row c.args.rows.now c.loop-row.row-index c.row-item.result c.row-item.result c.loop-row-test.true c.row-item.is in
    record {
      appends = appends_same _ _ rest.1
          (appends_less c.append_row.result _ c.from_residual.result rest.0 _ c.in_err-append_row.was c.from_residual.ensures.1 (appends_on c.append_row.result c.loop-row.invariant.appends c.append_row.ensures.appends));
    }

pub returns : goal.returns
returns g c = record {
  appends = appends_same _ _ (ap (λ (rows : List Row). text_of_lines (map line_of_row rows)) (take_all c.loop-row.row-index c.args.rows.now c.loop-row-test.false)) c.loop-row.invariant.appends;
}
