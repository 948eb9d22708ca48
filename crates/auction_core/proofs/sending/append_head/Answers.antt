use Rattle.auction_core.proofs.Appending.{appends_less, appends_ok, appends_on}
use Rattle.auction_core.proofs.sending.append_head.Goals as goal

pub returns-in_err-append_indication : goal.returns-in_err-append_indication
returns-in_err-append_indication g c = record {
  appends = appends_less c.append_indication.result _ c.from_residual.result _ _ c.in_err-append_indication.was c.from_residual.ensures.1 c.append_indication.ensures.appends;
}

pub returns-in_err-append_number : goal.returns-in_err-append_number
returns-in_err-append_number g c = record {
  appends = appends_on c.from_residual-in_err-append_number.result (appends_ok c.append_indication.result _ c.in_ok-append_indication.was c.append_indication.ensures.appends)
      (appends_less c.append_number.result _ c.from_residual-in_err-append_number.result _ _ c.in_err-append_number.was c.from_residual-in_err-append_number.ensures.1 c.append_number.ensures.appends);
}

pub returns : goal.returns
returns g c = record {
  appends = appends_on c.append_number-2.result (appends_ok c.append_indication.result _ c.in_ok-append_indication.was c.append_indication.ensures.appends)
      (appends_on c.append_number-2.result (appends_ok c.append_number.result _ c.in_ok-append_number.was c.append_number.ensures.appends) c.append_number-2.ensures.appends);
}
