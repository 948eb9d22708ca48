use Rattle.std.proofs.Common.{◌≡◌, ℕ, List, ◌++◌, sym, ap, subst, ◌∙◌}
use Rattle.std.specs.Prelude.{option_to_list}
use Rattle.wire_in.specs.Records.{moment_of}
use Rattle.window_core.specs.declared.window.Deal.{Deal}
use Rattle.window_core.specs.Deals.{live}
use Rattle.symbol_core.specs.Steps.{Steps, step_for}
use Rattle.symbol_core.proofs.Dealt.{keeps-at, kept-steps}
use Rattle.symbol_core.proofs.Live.{live-added}
use Rattle.symbol_core.proofs.symbol.take_deal.Goals as goal

pub returns-then-keeps_price-clause-steps : goal.returns-then-keeps_price-clause-steps
returns-then-keeps_price-clause-steps c = λ was has.
    let x = c.args.x.now in
    let market = c.args.market.now in
    let k = c.args.k.now in
    let deals = c.args.deals.now.deals in
    let deal = c.args.deal.now in
    let before = c.args.out.now in
    let gone : c.drop_old.new.deals.deals ≡ live (moment_of x) deals = c.drop_old.ensures.deals ∙ ap (λ (t : ℕ). live t deals) c.moment-t.ensures in
    let added : c.add_one.new.deals.deals ≡ live (moment_of x) deals ++ option_to_list deal = c.add_one.ensures ∙ ap (λ (ds : List Deal). ds ++ option_to_list deal) gone in
    subst (λ (ds : List Deal). Steps (step_for market x) was k deals ds before before) (sym added)
    (kept-steps market x was k deals deal c.requires.moves has
    (keeps-at k c.drop_old.new.deals.deals (live (moment_of x) deals) deal c.moment-t.result (moment_of x) c.keeps_price.result c.moment-t.ensures gone c.keeps_price.ensures c.if-keeps_price.true) before)

pub returns-then-keeps_price-clause-recent : goal.returns-then-keeps_price-clause-recent
returns-then-keeps_price-clause-recent c =
    let t = moment_of c.args.x.now in
    let deals = c.args.deals.now.deals in
    let deal = c.args.deal.now in
    let gone : c.drop_old.new.deals.deals ≡ live t deals = c.drop_old.ensures.deals ∙ ap (λ (u : ℕ). live u deals) c.moment-t.ensures in
    let added : c.add_one.new.deals.deals ≡ live t deals ++ option_to_list deal = c.add_one.ensures ∙ ap (λ (ds : List Deal). ds ++ option_to_list deal) gone in
    ap (live t) added ∙ live-added t deals (option_to_list deal) c.requires.moves.recent ∙ sym added
