-- What is kept behind a record more.
use Rattle.std.proofs.Common.{◌≡◌, ℕ, ◌+◌, ◌<◌, Bool, true, false, List, [], ◌∷◌, ◌++◌, length, get_or, sym, refl, ap, ◌∙◌, eq-eqb, ne_eqb, arith, length-set, get_or-set_other}
use Rattle.std.proofs.Math.Nat.{mod-lt}
use Rattle.std.proofs.lemmas.Grind.{get_or-set_at}
use Rattle.std.proofs.lemmas.List.Folds.{list_any-append}
use Rattle.std.proofs.lemmas.List.Sums.{sum_by-append, sum_by-cons}
use mathlib.Core.Logic.{dite}
use native.Mathlib.Decide.{ℕ_discrete}
use Rattle.std.specs.Prelude.{◌||◌, sum_by, slice_index}
use Rattle.std.specs.List.{list_any}
use Rattle.wire_in.specs.declared.record.Record.{Record}
use Rattle.wire_in.specs.declared.record.Record.TheVariants.{Trade}
use Rattle.gen_core.specs.declared.plan.DayPlan.{DayPlan}
use Rattle.gen_core.specs.Draws.{number_after}
use Rattle.gen_core.specs.Generated.{draws_of, is_trade_of, flags_of, flags_behind, symbol_drawn, session_record, record_behind}
use Rattle.gen_core.specs.InternalState.{IsBehind, flags_after}
use Rattle.gen_core.proofs.Numbers.{number_after-add}

or_false : (b : Bool) → (b || false) ≡ b
or_false true = refl
or_false false = refl

or_true : (b : Bool) → (b || true) ≡ true
or_true true = refl
or_true false = refl

-- one record more in a search
any_more : (p : Record → Bool) (before : List Record) (x : Record) → list_any p (before ++ x ∷ []) ≡ (list_any p before || p x)
any_more p before x = list_any-append p before (x ∷ []) ∙ ap (λ b. list_any p before || b) (or_false (p x))

no_trade : (p : Record → Bool) (before : List Record) (x : Record) → p x ≡ false → flags_of (list_any p (before ++ x ∷ [])) ≡ flags_of (list_any p before)
no_trade p before x none = ap flags_of (any_more p before x ∙ (ap (λ b. list_any p before || b) none ∙ or_false (list_any p before)))

a_trade : (p : Record → Bool) (before : List Record) (x : Record) → p x ≡ true → flags_of (list_any p (before ++ x ∷ [])) ≡ 0
a_trade p before x is = ap flags_of (any_more p before x ∙ (ap (λ b. list_any p before || b) is ∙ or_true (list_any p before)))

flags_more : (before : List Record) (x : Record) (flags : List ℕ) (symbol : ℕ) → symbol < length flags → get_or flags symbol 0 ≡ flags_behind before symbol
    → get_or (flags_after x flags) symbol 0 ≡ flags_behind (before ++ x ∷ []) symbol
flags_more before (Trade m s n p z f) flags symbol lt is = dite (ℕ_discrete symbol s)
    (λ same. get_or-set_at flags s symbol 0 0 same (omega arith) ∙ sym (a_trade (is_trade_of symbol) before (Trade m s n p z f) (eq-eqb s symbol (sym same))))
    (λ ne. get_or-set_other flags s symbol 0 0 (λ e. ne e) ∙ (is ∙ sym (no_trade (is_trade_of symbol) before (Trade m s n p z f) (ne_eqb s symbol (λ e. ne (sym e))))))
flags_more before x flags symbol lt is = is ∙ sym (no_trade (is_trade_of symbol) before x refl)

flags_length : (x : Record) (flags : List ℕ) → length (flags_after x flags) ≡ length flags
flags_length (Trade m s n p z f) flags = length-set flags s 0
flags_length x flags = refl

draws_more : (before : List Record) (x : Record) → sum_by draws_of (before ++ x ∷ []) ≡ draws_of x + sum_by draws_of before
draws_more before x = omega (arith, sum_by-append draws_of before (x ∷ []), sum_by-cons draws_of x [])

-- the record that is drawn is the one behind those before it
pub drawn_behind : (plan : DayPlan) (before : List Record) (number : ℕ) (flags : List ℕ) (k : ℕ) → 0 < plan.symbols → IsBehind plan before number flags
    → session_record plan k number (slice_index flags (symbol_drawn plan number)) ≡ record_behind plan before k
unfolding record_behind
drawn_behind plan before number flags k some state =
    ap (session_record plan k number) (state.flags_are (symbol_drawn plan number) (mod-lt _ some))
    ∙ ap (λ n. session_record plan k n (flags_behind before (symbol_drawn plan n))) state.number_is

-- what is kept goes on with it
pub behind_more : (plan : DayPlan) (before : List Record) (number : ℕ) (flags : List ℕ) (x : Record) (number' : ℕ) (flags' : List ℕ) → IsBehind plan before number flags
    → number' ≡ number_after number (draws_of x) → flags' ≡ flags_after x flags → IsBehind plan (before ++ x ∷ []) number' flags'
behind_more plan before number flags x number' flags' state drawn kept = record {
  number_is = drawn ∙ (ap (λ n. number_after n (draws_of x)) state.number_is
      ∙ (number_after-add plan.seed (sum_by draws_of before) (draws_of x) ∙ ap (number_after plan.seed) (sym (draws_more before x))));
  symbols = ap length kept ∙ (flags_length x flags ∙ state.symbols);
  flags_are = λ symbol lt. ap (λ fs. get_or fs symbol 0) kept ∙ flags_more before x flags symbol (omega (arith, state.symbols)) (state.flags_are symbol lt);
}
