use Rattle.std.proofs.Common.{List, ap, map}
use Rattle.cross_core.specs.declared.order.Row.{Row}
use Rattle.auction_core.specs.Lines.{line_of_row}
use Rattle.auction_core.specs.Texts.{text_of_lines}
use Rattle.auction_core.proofs.Appending.{appends_less, appends_ok, appends_on, appends_same, cross_text}
use Rattle.auction_core.proofs.sending.append_cross.Goals as goal

pub returns-in_err-append_head : goal.returns-in_err-append_head
returns-in_err-append_head g c = record {
  appends = appends_same _ _ (cross_text c.args.auction.now c.args.crossed.now c.args.fills.now)
      (appends_less c.append_head.result _ c.from_residual.result _ _ c.in_err-append_head.was c.from_residual.ensures.1 c.append_head.ensures.appends);
}

pub returns-in_err-append_rows : goal.returns-in_err-append_rows
returns-in_err-append_rows g c = record {
  appends = appends_same _ _ (cross_text c.args.auction.now c.args.crossed.now c.args.fills.now)
      (appends_on c.from_residual-in_err-append_rows.result (appends_ok c.append_head.result _ c.in_ok-append_head.was c.append_head.ensures.appends)
      (appends_less c.append_rows.result _ c.from_residual-in_err-append_rows.result _ _ c.in_err-append_rows.was c.from_residual-in_err-append_rows.ensures.1
      (appends_same _ _ (ap (λ (rows : List Row). text_of_lines (map line_of_row rows)) c.list.ensures) c.append_rows.ensures.appends)));
}

pub returns : goal.returns
returns g c = record {
  appends = appends_same _ _ (cross_text c.args.auction.now c.args.crossed.now c.args.fills.now)
      (appends_on c.append_fills.result (appends_ok c.append_head.result _ c.in_ok-append_head.was c.append_head.ensures.appends)
      (appends_on c.append_fills.result
      (appends_ok c.append_rows.result _ c.in_ok-append_rows.was (appends_same _ _ (ap (λ (rows : List Row). text_of_lines (map line_of_row rows)) c.list.ensures) c.append_rows.ensures.appends))
      c.append_fills.ensures.appends));
}
