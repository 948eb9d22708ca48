-- Stocks that a tick brings nothing are left as they are, and are evaluated all the same.
use Rattle.std.proofs.Common.{◌≡◌, ◌≢◌, ℕ, Bool, true, false, zero, suc, ◌+◌, ◌-◌, ◌<◌, ◌≤◌, List, [], ◌∷◌, ◌++◌, length, Option, Some, None, refl, sym, ap, subst, ◌∙◌, add-one, arith}
use Rattle.std.specs.Prelude.{drop, nat_le, replicate, slice_get, slice_index, slice_set}
use Rattle.std.proofs.lemmas.Bool.Decides.{nat_tests}
use Rattle.std.proofs.lemmas.List.{append-nil, get_or-set_other, get_or-set_same}
use Rattle.std.proofs.lemmas.Option.{slice_get_within}
use Rattle.alarms.specs.Due.{NoneDue}
use Rattle.wire_in.specs.declared.record.Record.{Record}
use Rattle.wire_in.specs.Records.{is_tick, moment_of}
use Rattle.wire_out.specs.declared.message.Message.{Message}
use Rattle.wire_out.specs.declared.message.Stamped.{Stamped}
use Rattle.symbol_core.specs.declared.symbol.MarketView.{MarketView}
use Rattle.symbol_core.specs.Evaluates.{Evaluates}
use Rattle.symbol_core.specs.Idle.{IsQuiet}
use Rattle.symbol_core.specs.InStep.{at_rest}
use Rattle.symbol_core.specs.Rests.{SymbolState}
use Rattle.symbol_core.specs.Steps.{step_for}
use Rattle.symbol_core.specs.Ticks.{Idles}
use Rattle.symbol_core.proofs.Unmoved.{evaluated-idle}
use Rattle.market_core.specs.declared.since.Since.{Since}
use Rattle.market_core.specs.Applied.{AppendsBelow, AppendsOne}
use Rattle.market_core.specs.Sections.{EachIdles, IdlesUntil, NoneMoves, SectionState}
use Rattle.market_core.proofs.Appending.{get-before, get-last}

-- An alarm that holds from one moment on holds from a later one on.

pub idles-included : (a b : Since) (alarm : ℕ) (held : SymbolState) → a.from ≤ b.from → a.market ≡ b.market → Idles a.market a.from alarm held → Idles b.market b.from alarm held
idles-included a b alarm held le same idles = λ inside x tick from until. subst (λ (m : MarketView). IsQuiet (at_rest held.kept) held.deals (step_for m x)) same (idles inside x tick (omega arith) until)

pub idles-later : (since : Option Since) (s : Since) (t alarm : ℕ) (held : SymbolState) → since ≡ Some s → s.from ≤ t → IdlesUntil since alarm held → Idles s.market t alarm held
idles-later since s t alarm held e le idles =
    let own : Idles s.market s.from alarm held = subst (λ (o : Option Since). IdlesUntil o alarm held) e idles in
    λ inside x tick from until. own inside x tick (omega arith) until

-- and one that is always due holds in any case
pub idles-always : (since : Option Since) (alarm : ℕ) (held : SymbolState) → alarm ≡ 0 → IdlesUntil since alarm held
idles-always None alarm held none = tt
idles-always (Some s) alarm held none = λ inside x tick from until. absurd (omega arith)

pub each-always : (since : Option Since) (before alarms : List ℕ) (stocks : List SymbolState) (n : ℕ) → alarms ≡ replicate n 0 ++ drop n before → length stocks ≤ n → EachIdles since alarms stocks
each-always since before alarms stocks n due within =
    λ place held e.
    idles-always since (slice_index alarms place) held
    (ap (λ (xs : List ℕ). slice_index xs place) due ∙ index-due n place (drop n before) (omega (arith, slice_get_within stocks place held e, within)))
  where
    index-due : (n place : ℕ) (later : List ℕ) → place < n → slice_index (replicate n 0 ++ later) place ≡ 0
    index-due zero place later lt = absurd (omega (arith, lt))
    index-due (suc n) zero later lt = refl
    index-due (suc n) (suc place) later lt = index-due n place later (omega (arith, lt))

pub each-pass : (before after : Option Since) (alarms : List ℕ) (stocks : List SymbolState) → ((alarm : ℕ) (held : SymbolState) → IdlesUntil before alarm held → IdlesUntil after alarm held)
    → EachIdles before alarms stocks → EachIdles after alarms stocks
each-pass before after alarms stocks pass each = λ place held e. pass (slice_index alarms place) held (each place held e)

-- A stock is added with an alarm that is always due.

at_least : (a b : ℕ) → nat_le a b ≡ true → a ≤ b
at_least a b e = grind (arith, nat_tests)

less : (a b : ℕ) → nat_le a b ≡ false → b < a
less a b e = grind (arith, nat_tests)

pub each-push : (since : Option Since) (alarms with : List ℕ) (stocks : List SymbolState) (stock : SymbolState) (index : ℕ) → index ≡ length stocks → index < length alarms → with ≡ slice_set alarms index 0
    → EachIdles since alarms stocks → EachIdles since with (stocks ++ stock ∷ [])
each-push since alarms with stocks stock index is within set each = λ place held e. by place held e (nat_le (length stocks) place) refl where
  by : (place : ℕ) (held : SymbolState) → slice_get (stocks ++ stock ∷ []) place ≡ Some held → (b : Bool) → nat_le (length stocks) place ≡ b → IdlesUntil since (slice_index with place) held
  by place held e true behind =
      let at = get-last stocks stock held place (at_least (length stocks) place behind) e in
      let own : place ≡ index = at.0 ∙ sym is in
      idles-always since (slice_index with place) held ((λ i. slice_index (set i) (own i)) ∙ get_or-set_same alarms index 0 0 within)
  by place held e false before =
      let below = less (length stocks) place before in
      let other : place ≢ index = λ same. absurd (omega arith) in
      subst (λ (alarm : ℕ). IdlesUntil since alarm held) (sym (ap (λ (xs : List ℕ). slice_index xs place) set ∙ get_or-set_other alarms index place 0 0 other))
      (each place held (sym (get-before stocks stock place below) ∙ e))

-- Of which no alarm is due, the tick brings nothing.

pub none-moves : (state : SectionState) (stocks : List SymbolState) (spare : ℕ) (since : Option Since) (alarms : List ℕ) (market : MarketView) (x : Record) (t from before : ℕ)
    → record { symbols = stocks; spare = spare; since = since } ≡ state → length stocks ≤ length alarms → EachIdles since alarms stocks → is_tick x ≡ true
    → state.since ≡ Some (record { from = moment_of x; market = market }) → t ≡ moment_of x → NoneDue t from before alarms → NoneMoves market x from before state.symbols
none-moves state stocks spare since alarms market x t from before seen covers each tick now at none =
    subst (λ (s : SectionState). NoneMoves market x from before s.symbols) seen
    (λ place held after until e said.
    let inside : place < length stocks = slice_get_within stocks place held e in
    let later : t < slice_index alarms place = none place after until (omega arith) in
    let on : since ≡ Some (record { from = moment_of x; market = market }) = ap (λ (s : SectionState). s.since) seen ∙ now in
    let idles : IdlesUntil (Some (record { from = moment_of x; market = market })) (slice_index alarms place) held = subst (λ (o : Option Since). IdlesUntil o (slice_index alarms place) held) on (each place held e) in
    evaluated-idle market x held (moment_of x) (slice_index alarms place) said idles tick (omega arith) (omega arith))

-- A stock that moves nothing is evaluated as it stands.

none-within : {X : Type 0} (xs : List X) (i : ℕ) → i < length xs → slice_get xs i ≡ None → ⊥
none-within [] i lt e = omega arith
none-within (x ∷ xs) zero lt e = cc
none-within (x ∷ xs) (suc i) lt e = none-within xs i (omega arith) e

skip_one : (i : ℕ) (market : MarketView) (x : Record) (old new : List SymbolState) (before after : List Stamped) → i < length new → ((k : ℕ) → i ≤ k → slice_get new k ≡ slice_get old k)
    → ((held : SymbolState) → slice_get new i ≡ Some held → (said : List Message) → Evaluates market x held held said said) → AppendsBelow i market x old new before after → AppendsBelow (suc i) market x old new before after
skip_one i market x old new before after within later idles earlier = by (slice_get new i) refl where
  by : (o : Option SymbolState) → slice_get new i ≡ o → AppendsBelow (suc i) market x old new before after
  by None e = absurd (none-within new i within e)
  by (Some held) e = (
    after,
    earlier,
    record { was = held; is = held; found = sym (later i (omega arith)) ∙ e; left = e; appends = record { said = []; evaluates = idles held e []; items = sym (append-nil after) } },
  )

skips : (n i : ℕ) (market : MarketView) (x : Record) (old new : List SymbolState) (before after : List Stamped) → i + n ≤ length new → ((k : ℕ) → i ≤ k → slice_get new k ≡ slice_get old k)
    → NoneMoves market x i (i + n) new → AppendsBelow i market x old new before after → AppendsBelow (i + n) market x old new before after
skips zero i market x old new before after le later none earlier = subst (λ (m : ℕ). AppendsBelow m market x old new before after) (omega arith) earlier
skips (suc n) i market x old new before after le later none earlier =
    subst (λ (m : ℕ). AppendsBelow m market x old new before after) (omega arith)
    (skips n (suc i) market x old new before after (omega arith) (λ k from. later k (omega arith)) (λ place held from before e said. none place held (omega arith) (omega arith) e said)
    (skip_one i market x old new before after (omega arith) later (λ held e said. none i held (omega arith) (omega arith) e said) earlier))

pub skip_to : (i j : ℕ) (market : MarketView) (x : Record) (old new : List SymbolState) (before after : List Stamped) → i ≤ j → j ≤ length new → ((k : ℕ) → i ≤ k → slice_get new k ≡ slice_get old k)
    → NoneMoves market x i j new → AppendsBelow i market x old new before after → AppendsBelow j market x old new before after
skip_to i j market x old new before after le within later none earlier =
    let more : i + (j - i) ≡ j = omega arith in
    subst (λ (m : ℕ). AppendsBelow m market x old new before after) more
    (skips (j - i) i market x old new before after (omega arith) later (λ place held from until e said. none place held from (omega arith) e said) earlier)

-- at the start of a tick
pub first_on : (j : ℕ) (market : MarketView) (x : Record) (old begun new : List SymbolState) (before : List Stamped) → begun ≡ old → new ≡ begun → j ≤ length begun → NoneMoves market x 0 j begun → AppendsBelow j market x old new before before
first_on j market x old begun new before as_begun same within none =
    subst (λ (stocks : List SymbolState). AppendsBelow j market x stocks new before before) as_begun
    (subst (λ (stocks : List SymbolState). AppendsBelow j market x begun stocks before before) (sym same) (skip_to 0 j market x begun begun before before (omega arith) within (λ k from. refl) none refl))

below_others : (n s : ℕ) (market : MarketView) (x : Record) (old new next : List SymbolState) (before after : List Stamped) → n ≤ s → ((k : ℕ) → k ≢ s → slice_get next k ≡ slice_get new k)
    → AppendsBelow n market x old new before after → AppendsBelow n market x old next before after
below_others zero s market x old new next before after le others t = t
below_others (suc n) s market x old new next before after le others (middle, earlier, last) = (
  middle,
  below_others n s market x old new next before middle (omega arith) others earlier,
  record { was = last.was; is = last.is; found = last.found; left = others n (omega arith) ∙ last.left; appends = last.appends },
)

-- and from one stock that is due to the next
pub next_on : (i j : ℕ) (market : MarketView) (x : Record) (old now next new : List SymbolState) (before middle after : List Stamped) → ((k : ℕ) → i ≤ k → slice_get now k ≡ slice_get old k)
    → AppendsBelow i market x old now before middle → AppendsOne i market x now next middle after → new ≡ next → i + 1 ≤ j → j ≤ length next → NoneMoves market x (i + 1) j next → AppendsBelow j market x old new before after
next_on i j market x old now next new before middle after later earlier one same le within none =
    let at = one.at in
    let own : AppendsBelow (i + 1) market x old next before after = subst (λ (n : ℕ). AppendsBelow n market x old next before after) (sym (add-one i))
    (middle, below_others i i market x old now next before middle (omega arith) one.others earlier, record { was = at.was; is = at.is; found = sym (later i (omega arith)) ∙ at.found; left = at.left; appends = at.appends }) in
    subst (λ (stocks : List SymbolState). AppendsBelow j market x old stocks before after) (sym same)
    (skip_to (i + 1) j market x old next before after le within (λ k from. one.others k (omega arith) ∙ later k (omega arith)) none own)

pub later_on : (i j : ℕ) (market : MarketView) (x : Record) (old now next new : List SymbolState) (middle after : List Stamped) → ((k : ℕ) → i ≤ k → slice_get now k ≡ slice_get old k)
    → AppendsOne i market x now next middle after → new ≡ next → i + 1 ≤ j → (k : ℕ) → j ≤ k → slice_get new k ≡ slice_get old k
later_on i j market x old now next new middle after later one same le = λ k from. ap (λ (stocks : List SymbolState). slice_get stocks k) same ∙ one.others k (omega arith) ∙ later k (omega arith)
