-- Ranges of stocks, one behind the other, are evaluated as all stocks are.
use Rattle.std.proofs.Common.{◌≡◌, ◌≢◌, ℕ, zero, suc, ◌+◌, List, [], ◌∷◌, ◌++◌, length, Some, length-append, refl, sym, ap, subst, ◌∙◌, arith}
use Rattle.std.specs.Prelude.{slice_get}
use Rattle.wire_in.specs.declared.record.Record.{Record}
use Rattle.wire_out.specs.declared.message.Stamped.{Stamped}
use Rattle.symbol_core.specs.declared.symbol.MarketView.{MarketView}
use Rattle.symbol_core.specs.Rests.{SymbolState}
use Rattle.market_core.specs.Applied.{AppendsBelow}
use Rattle.market_core.specs.Ranges.{OneOfARangeIsOneOfAll, RangesInTurnAreAll}

get-front : {X : Type 0} (xs ys : List X) (k : ℕ) (v : X) → slice_get xs k ≡ Some v → slice_get (xs ++ ys) k ≡ Some v
get-front [] ys k v e = absurd cc
get-front (x ∷ xs) ys zero v e = e
get-front (x ∷ xs) ys (suc k) v e = get-front xs ys k v e

get-behind : {X : Type 0} (xs ys : List X) (k : ℕ) → slice_get (xs ++ ys) (length xs + k) ≡ slice_get ys k
get-behind [] ys k = ap (slice_get ys) (omega arith)
get-behind (x ∷ xs) ys k =
    let place : suc (length xs + k) ≡ length (x ∷ xs) + k = omega arith in
    ap (slice_get (x ∷ xs ++ ys)) (sym place) ∙ get-behind xs ys k

-- the stocks of a front of all
widen : (n : ℕ) (market : MarketView) (x : Record) (old new old_rest new_rest : List SymbolState) (before after : List Stamped)
    → AppendsBelow n market x old new before after → AppendsBelow n market x (old ++ old_rest) (new ++ new_rest) before after
widen zero market x old new old_rest new_rest before after unsaid = unsaid
widen (suc n) market x old new old_rest new_rest before after (middle, earlier, at) = (
  middle,
  widen n market x old new old_rest new_rest before middle earlier,
  record { was = at.was; is = at.is; found = get-front old old_rest n at.was at.found; left = get-front new new_rest n at.is at.left; appends = at.appends },
)

-- and those of the next range behind them
behind : (n : ℕ) (market : MarketView) (x : Record) (first first' second second' : List SymbolState) (before middle after : List Stamped) → length first' ≡ length first
    → AppendsBelow (length first) market x first first' before middle → AppendsBelow n market x second second' middle after
    → AppendsBelow (length first + n) market x (first ++ second) (first' ++ second') before after
behind zero market x first first' second second' before middle after same earlier unsaid =
    let none : length first ≡ length first + 0 = omega arith in
    subst (λ (n : ℕ). AppendsBelow n market x (first ++ second) (first' ++ second') before after) none
    (subst (λ (said : List Stamped). AppendsBelow (length first) market x (first ++ second) (first' ++ second') before said) (sym unsaid)
    (widen (length first) market x first first' second second' before middle earlier))
behind (suc n) market x first first' second second' before middle after same earlier (between, others, at) =
    let more : suc (length first + n) ≡ length first + suc n = omega arith in
    let place : length first' + n ≡ length first + n = omega (arith, same) in
    subst (λ (m : ℕ). AppendsBelow m market x (first ++ second) (first' ++ second') before after) more (
      between,
      behind n market x first first' second second' before middle between same earlier others,
      record {
        was = at.was;
        is = at.is;
        found = get-behind first second n ∙ at.found;
        left = ap (slice_get (first' ++ second')) (sym place) ∙ get-behind first' second' n ∙ at.left;
        appends = at.appends;
      },
    )

pub ranges_in_turn : RangesInTurnAreAll
ranges_in_turn market x first first' second second' before middle after same earlier later =
    subst (λ (n : ℕ). AppendsBelow n market x (first ++ second) (first' ++ second') before after) (sym (length-append first second))
    (behind (length second) market x first first' second second' before middle after same earlier later)

-- Two lists that agree at a place agree there with others around them.

agree-front : {X : Type 0} (xs ys rest : List X) (k : ℕ) → length xs ≡ length ys → slice_get xs k ≡ slice_get ys k → slice_get (xs ++ rest) k ≡ slice_get (ys ++ rest) k
agree-front [] [] rest k same e = refl
agree-front [] (y ∷ ys) rest k same e = absurd (omega (arith, same))
agree-front (x ∷ xs) [] rest k same e = absurd (omega (arith, same))
agree-front (x ∷ xs) (y ∷ ys) rest zero same e = e
agree-front (x ∷ xs) (y ∷ ys) rest (suc k) same e = agree-front xs ys rest k (omega (arith, same)) e

agree-behind : {X : Type 0} (earlier xs ys : List X) (s : ℕ) → ((k : ℕ) → k ≢ s → slice_get xs k ≡ slice_get ys k) → (k : ℕ) → k ≢ length earlier + s → slice_get (earlier ++ xs) k ≡ slice_get (earlier ++ ys) k
agree-behind [] xs ys s others k apart = others k (λ e. apart (e ∙ omega arith))
agree-behind (x ∷ earlier) xs ys s others zero apart = refl
agree-behind (x ∷ earlier) xs ys s others (suc k) apart = agree-behind earlier xs ys s others k (λ e. apart (omega (arith, e)))

pub one_of_all : OneOfARangeIsOneOfAll
one_of_all place market x earlier old new later before after one =
    let at = one.at in
    record {
      count =
          length-append earlier (new ++ later) ∙ ap (λ (n : ℕ). length earlier + n) (length-append new later ∙ ap (λ (n : ℕ). n + length later) one.count ∙ sym (length-append old later))
          ∙ sym (length-append earlier (old ++ later));
      at = record {
        was = at.was;
        is = at.is;
        found = get-behind earlier (old ++ later) place ∙ get-front old later place at.was at.found;
        left = get-behind earlier (new ++ later) place ∙ get-front new later place at.is at.left;
        appends = at.appends;
      };
      others = agree-behind earlier (new ++ later) (old ++ later) place (λ k apart. agree-front new old later k one.count (one.others k apart));
    }
