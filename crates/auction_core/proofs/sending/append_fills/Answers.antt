use Rattle.std.proofs.Common.{rules, ℕ, List, map, ap}
use Rattle.std.proofs.lemmas.List.{take_all}
use Rattle.std.specs.Prelude.{codes}
use Rattle.auction_core.specs.Lines.{number_line}
use Rattle.auction_core.specs.Texts.{text_of_lines}
use Rattle.auction_core.proofs.Appending.{appends_less, appends_none, appends_ok, appends_on, appends_same, made, text_more, text_rest}
use Rattle.auction_core.proofs.sending.append_fills.Goals as goal

pub loop-fill-init : goal.loop-fill-init
loop-fill-init g c = record { appends = appends_none (g.H.Host.outside c.args.host.now) (g.met.H.Host.sent_now c.args.host.now) _ }

pub loop-fill-preserved : goal.loop-fill-preserved
loop-fill-preserved g c = record {
  appends = appends_same _ _ (text_more (number_line (codes "fill")) c.args.fills.now c.loop-fill.fill-index c.from.result 0 c.loop-fill-test.true (search rules))
      (appends_on made c.loop-fill.invariant.appends (appends_ok c.append_number.result _ c.in_ok-append_number.was c.append_number.ensures.appends));
}

pub returns-in_err-append_number : goal.returns-in_err-append_number
returns-in_err-append_number g c =
    let rest = text_rest (number_line (codes "fill")) c.args.fills.now c.loop-fill.fill-index c.from.result 0 c.loop-fill-test.true (search rules) in
    record {
      appends = appends_same _ _ rest.1
          (appends_less c.append_number.result _ c.from_residual.result rest.0 _ c.in_err-append_number.was c.from_residual.ensures.1 (appends_on c.append_number.result c.loop-fill.invariant.appends c.append_number.ensures.appends));
    }

pub returns : goal.returns
returns g c = record {
  appends = appends_same _ _ (ap (λ (fills : List ℕ). text_of_lines (map (number_line (codes "fill")) fills)) (take_all c.loop-fill.fill-index c.args.fills.now c.loop-fill-test.false)) c.loop-fill.invariant.appends;
}
