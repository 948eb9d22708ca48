-- A generator gives the record behind those that it has given.
use Rattle.std.proofs.Common.{◌≡◌, ℕ, suc, ◌+◌, ◌-◌, ◌<◌, ◌≤◌, List, [], ◌∷◌, ◌++◌, length, drop, replicate, get_or, sym, refl, ap, ◌∙◌, subst, arith}
use Rattle.std.proofs.lemmas.List.{drop_all, length-replicate, get_or-replicate}
use Rattle.std.specs.Prelude.{Some, slice_get, slice_index}
use Rattle.std.proofs.Math.Nat.{mod-lt}
use Rattle.wire_in.specs.declared.record.Record.{Record}
use Rattle.wire_in.specs.Spelling.{InRange}
use Rattle.gen_core.specs.declared.plan.DayPlan.{DayPlan}
use Rattle.gen_core.specs.Draws.{number_after}
use Rattle.gen_core.specs.Generated.{IsPlan, day_record, listing, draws_of, symbol_drawn, session_record, session_records, record_behind, generated}
use Rattle.gen_core.specs.InternalState.{IsBehind, IsGenerator, Steps, flags_after}
use Rattle.gen_core.proofs.Listed.{generated_length, begins_with_day, has_listing, has_session_record, session_none, session_more}
use Rattle.gen_core.proofs.Behind.{drawn_behind, behind_more}
use Rattle.gen_core.proofs.Ranges.{day_in_range, listing_in_range, session_in_range, flags_in_range}

-- at the start nothing is kept of a session
pub started : (plan : DayPlan) (given number : ℕ) (flags : List ℕ) → IsGenerator plan given number flags → given ≤ plan.symbols → IsGenerator plan (given + 1) number flags
started plan given number flags state start =
    let same : given - (1 + plan.symbols) ≡ given + 1 - (1 + plan.symbols) = omega arith in record {
      plan_is = state.plan_is;
      within = omega arith;
      behind = subst (λ j. IsBehind plan (session_records plan j) number flags) same state.behind;
    }

pub day_given : (plan : DayPlan) (given number : ℕ) (flags : List ℕ) → IsGenerator plan given number flags → given ≡ 0 → Steps plan given day_record number flags
day_given plan given number flags state first = record {
  at = ap (slice_get (generated plan)) first ∙ begins_with_day plan;
  range = day_in_range;
  state = started plan given number flags state (omega arith);
}

pub listing_given : (plan : DayPlan) (given number : ℕ) (flags : List ℕ) → IsGenerator plan given number flags → 0 < given → given ≤ plan.symbols
    → Steps plan given (listing (given - 1)) number flags
listing_given plan given number flags state some start = record {
  at = has_listing plan given some start;
  range = listing_in_range (given - 1);
  state = started plan given number flags state start;
}

pub session_given : (plan : DayPlan) (given number : ℕ) (flags : List ℕ) (x : Record) (number' : ℕ) (flags' : List ℕ) → IsGenerator plan given number flags
    → plan.symbols < given → given < 1 + plan.symbols + plan.records
    → x ≡ session_record plan (given - 1 - plan.symbols) number (slice_index flags (symbol_drawn plan number))
    → number' ≡ number_after number (draws_of x) → flags' ≡ flags_after x flags → Steps plan given x number' flags'
session_given plan given number flags x number' flags' state later within drawn counted kept =
    let k : ℕ = given - (1 + plan.symbols) in
    let same : given - 1 - plan.symbols ≡ k = omega arith in
    let before : List Record = session_records plan k in
    let some : 0 < plan.symbols = state.plan_is.some_symbol in
    let is : x ≡ record_behind plan before k =
    drawn ∙ (ap (λ j. session_record plan j number (slice_index flags (symbol_drawn plan number))) same ∙ drawn_behind plan before number flags k some state.behind) in
    let next : given + 1 - (1 + plan.symbols) ≡ suc k = omega arith in
    let few : slice_index flags (symbol_drawn plan number) ≤ 1023 =
    subst (λ n. n ≤ 1023) (sym (state.behind.flags_are (symbol_drawn plan number) (mod-lt _ some))) (flags_in_range before (symbol_drawn plan number)) in
    record {
      at = has_session_record plan given k (omega arith) (omega arith) ∙ ap Some (sym is);
      range = subst InRange (sym drawn) (session_in_range plan (given - 1 - plan.symbols) number _ few);
      state = record {
        plan_is = state.plan_is;
        within = omega arith;
        behind = subst (λ records. IsBehind plan records number' flags')
            (ap (λ r. session_records plan k ++ r ∷ []) is ∙ (sym (session_more plan k) ∙ ap (session_records plan) (sym next)))
            (behind_more plan before number flags x number' flags' state.behind counted kept);
      };
    }

-- a new generator has given nothing
pub fresh : (plan : DayPlan) (flags : List ℕ) → IsPlan plan → flags ≡ replicate plan.symbols 1 → IsGenerator plan 0 plan.seed flags
fresh plan flags is filled = record {
  plan_is = is;
  within = omega arith;
  behind = subst (λ records. IsBehind plan records plan.seed flags) (sym (ap (session_records plan) none ∙ session_none plan)) record {
    number_is = refl;
    symbols = ap length filled ∙ length-replicate plan.symbols 1;
    flags_are = λ symbol lt. ap (λ fs. get_or fs symbol 0) filled ∙ get_or-replicate plan.symbols symbol 1 0 lt;
  };
}
  where
    none : 0 - (1 + plan.symbols) ≡ 0
    none = omega arith

-- all were given
pub none_left : (plan : DayPlan) (given : ℕ) → given ≡ 1 + plan.symbols + plan.records → drop given (generated plan) ≡ []
none_left plan given all = drop_all given (generated plan) (omega (arith, generated_length plan))
