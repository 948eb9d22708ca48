use Rattle.std.proofs.Common.{◌≡◌, ℕ, ◌+◌, ◌-◌, ◌≤◌, ◌++◌, List, length, drop, take, refl, sym, ap, subst, ◌∙◌, arith}
use Rattle.std.specs.Prelude.{slice_set}
use Rattle.std.proofs.lemmas.List.{length-set}
use Rattle.rulebook.specs.Admission.{most_names}
use Rattle.symbol_core.specs.Rests.{SymbolState}
use Rattle.shard_core.proofs.Dealing.{dealt_all, dealt_more, drop_fewer, none_dealt, take_fewer}
use Rattle.shard_core.proofs.Gathered.{stocks_of}
use Rattle.shard_core.proofs.Working.{few_on}
use Rattle.shard_core.proofs.anew.deal.Goals as goal

pub loop-k-init : goal.loop-k-init
loop-k-init c = record {
  all = none_dealt c.args.parts.now (length c.args.parts.now - 1 + 1) c.args.all.symbols (omega (arith, c.requires.some));
  index = omega (arith, c.requires.some);
  parts = refl;
  stocks = c.requires.stocks;
  few = c.requires.few;
}

pub loop-k-preserved : goal.loop-k-preserved
loop-k-preserved c =
    let k = c.loop-k.k in
    let end = c.min-end.result in
    let now = c.loop-k.parts in
    let left = c.loop-k.left.symbols in
    let part = c.in_ok-parts.field-0 in
    let inv = c.loop-k.invariant in
    let split = c.in_ok-parts.ensures in
    let back : k - 1 + 1 ≡ k = omega (arith, c.loop-k-test.true) in
    let earlier : c.split_off.new.self.symbols ≡ take end left = split.earlier in
    let later : part.symbols ≡ drop end left = split.later in
    let fewer = take_fewer end left in
    let rest = drop_fewer end left in
    record {
      all = ap (λ (xs : List SymbolState). xs ++ stocks_of (drop (k - 1 + 1) (slice_set now k part))) earlier ∙ ap (λ (n : ℕ). take end left ++ stocks_of (drop n (slice_set now k part))) back
          ∙ dealt_more now k end left part inv.index later ∙ inv.all;
      index = omega (arith, length-set now k part, inv.index);
      parts = length-set now k part ∙ inv.parts;
      stocks = subst (λ (xs : List SymbolState). length xs ≤ most_names) (sym earlier) (omega (arith, fewer, inv.stocks));
      few = few_on k now part inv.few (subst (λ (xs : List SymbolState). length xs ≤ most_names) (sym later) (omega (arith, rest, inv.stocks)));
    }

pub returns-clause-all : goal.returns-clause-all
returns-clause-all c =
    let first : c.loop-k.k ≡ 0 = omega (arith, c.loop-k-test.false) in
    dealt_all c.loop-k.parts c.loop-k.left c.args.all.symbols (omega (arith, c.loop-k.invariant.index))
    (subst (λ (n : ℕ). c.loop-k.left.symbols ++ stocks_of (drop (n + 1) c.loop-k.parts) ≡ c.args.all.symbols) first c.loop-k.invariant.all)

pub returns-clause-few : goal.returns-clause-few
returns-clause-few c = few_on 0 c.loop-k.parts c.loop-k.left c.loop-k.invariant.few c.loop-k.invariant.stocks
