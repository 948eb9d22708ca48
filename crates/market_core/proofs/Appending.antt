-- Symbols that are evaluated one after the other.
use Rattle.std.proofs.Common.{◌≡◌, ℕ, Bool, true, false, zero, suc, ◌+◌, ◌<◌, ◌≤◌, ◌≢◌, List, [], ◌∷◌, length, get_or, ◌++◌, length-append, Option, Some, None, Result, Ok, Err, refl, sym, ap, subst, ◌∙◌, add-one, true≢false, arith}
use Rattle.std.specs.Prelude.{OnOk, option_map, slice_get, slice_set, position, unwrap_or, ◌==◌}
use Rattle.std.specs.Str.{bytes_eq}
use Rattle.std.proofs.lemmas.List.Quantifiers.{position-Some}
use Rattle.std.proofs.lemmas.Option.{slice_get-get_or}
use Rattle.price_core.specs.declared.error.NoMemory.{NoMemory}
use Rattle.wire_in.specs.declared.record.Record.{Record}
use Rattle.wire_in.specs.declared.record.Record.TheVariants as in_
use Rattle.wire_in.specs.Records.{is_tick, symbol_of}
use Rattle.wire_in.proofs.RecordKinds.{IsOther, of_symbol, tick}
use Rattle.wire_out.specs.declared.message.Stamped.{Stamped}
use Rattle.symbol_core.specs.declared.symbol.MarketView.{MarketView}
use Rattle.rulebook.specs.declared.event.Event.{Event}
use Rattle.rulebook.proofs.Ids.{same_id}
use Rattle.symbol_core.specs.Rests.{Rests, SymbolState}
use Rattle.symbol_core.specs.Silent.{SaysNothing}
use Rattle.market_core.specs.declared.lead.Today.{Today}
use Rattle.market_core.specs.Applied.{Appends, AppendsBelow, AppendsOne, OneEvaluated, Evaluated, Ticks, ByTarget, Applies, Finds, Lists, OnToday}
use Rattle.market_core.specs.AdmissionState.{added}
use Rattle.market_core.specs.MarketState.{MarketState}
use Rattle.market_core.specs.Ruled.{view_of}

pub get-set_other : {X : Type 0} (xs : List X) (i : ℕ) (v : X) (k : ℕ) → k ≢ i → slice_get (slice_set xs i v) k ≡ slice_get xs k
get-set_other [] i v k ne = refl
get-set_other (x ∷ xs) zero v zero ne = absurd (ne refl)
get-set_other (x ∷ xs) zero v (suc k) ne = refl
get-set_other (x ∷ xs) (suc i) v zero ne = refl
get-set_other (x ∷ xs) (suc i) v (suc k) ne = get-set_other xs i v k (λ e. ne (ap suc e))

pub get-set_same : {X : Type 0} (xs : List X) (i : ℕ) (v : X) → i < length xs → slice_get (slice_set xs i v) i ≡ Some v
get-set_same [] i v lt = absurd (omega arith)
get-set_same (x ∷ xs) zero v lt = refl
get-set_same (x ∷ xs) (suc i) v lt = get-set_same xs i v (omega arith)

-- what holds of the element at s, and of each other element at its index, holds of each
pub at_each : {X : Type 0} (P : ℕ → X → Type 0) (s : ℕ) (is : X) (xs : List X) → slice_get xs s ≡ Some is → P s is
    → ((k : ℕ) (x : X) → (k == s) ≡ false → slice_get xs k ≡ Some x → P k x) → (k : ℕ) (x : X) → slice_get xs k ≡ Some x → P k x
at_each P s is xs at here others k x e = by (k == s) refl where
  by : (b : Bool) → (k == s) ≡ b → P k x
  by true same =
      let index : k ≡ s = same_id k s same in
      let there : slice_get xs k ≡ Some is = subst (λ (j : ℕ). slice_get xs j ≡ Some is) (sym index) at in
      let element : is ≡ x = cc in
      subst (P k) element (subst (λ (j : ℕ). P j is) (sym index) here)
  by false apart = others k x apart e

below_set : (n : ℕ) (market : MarketView) (x : Record) (old new : List SymbolState) (i : ℕ) (v : SymbolState) (before after : List Stamped) → n ≤ i
    → AppendsBelow n market x old new before after → AppendsBelow n market x old (slice_set new i v) before after
below_set zero market x old new i v before after le t = t
below_set (suc n) market x old new i v before after le (middle, earlier, last) =
    (middle, below_set n market x old new i v before middle (omega arith) earlier, record { was = last.was; is = last.is; found = last.found; left = get-set_other new i v n (omega arith) ∙ last.left; appends = last.appends })

-- the next symbol, where the code has it as the element at its index
pub one_more : (r : Result (Unit {0}) NoMemory) (y : Unit {0}) (i : ℕ) (market : MarketView) (x : Record) (old new : List SymbolState) (d is : SymbolState) (before middle after : List Stamped) → i < length new
    → ((k : ℕ) → i ≤ k → slice_get new k ≡ slice_get old k) → AppendsBelow i market x old new before middle
    → r ≡ Ok y → OnOk r (Appends market x (get_or new i d) is middle after) → AppendsBelow (i + 1) market x old (slice_set new i is) before after
one_more (Ok u) y i market x old new d is before middle after lt later earlier e appends =
    let here : slice_get new i ≡ Some (get_or new i d) = slice_get-get_or new i d lt in
    subst (λ (n : ℕ). AppendsBelow n market x old (slice_set new i is) before after) (sym (add-one i))
    (middle, below_set i market x old new i is before middle (omega arith) earlier, record { was = get_or new i d; is = is; found = sym (later i (omega arith)) ∙ here; left = get-set_same new i is lt; appends = appends })
one_more (Err u) y i market x old new d is before middle after lt later earlier e appends = absurd cc

pub later_more : (i : ℕ) (old new : List SymbolState) (is : SymbolState) → ((k : ℕ) → i ≤ k → slice_get new k ≡ slice_get old k) → (k : ℕ) → i + 1 ≤ k → slice_get (slice_set new i is) k ≡ slice_get old k
later_more i old new is later k le = get-set_other new i is k (omega arith) ∙ later k (omega arith)

-- one symbol of a market is evaluated, and the others are left as they were
pub one_evaluated : (r : Result (Unit {0}) NoMemory) (s : ℕ) (x : Record) (old : MarketState) (directory : List (List ℕ)) (on : Option Today) (symbols with : List SymbolState) (market : MarketView)
    (begun before after : List Stamped) → record { directory = directory; today = on; symbols = symbols } ≡ old → option_map view_of on ≡ Some market
    → begun ≡ before → OnOk r (AppendsOne s market x symbols with begun after)
    → OnOk r (Evaluated s x old (record { directory = directory; today = on; symbols = with }) before after)
one_evaluated (Ok u) s x old directory on symbols with market begun before after seen view unsaid one =
    subst (λ (k : MarketState). Evaluated s x k (record { directory = directory; today = on; symbols = with }) before after) seen
    (λ now e within.
    let both : Some market ≡ Some (view_of now) = sym view ∙ ap (option_map view_of) e in
    let same : market ≡ view_of now = cc in
    let own : AppendsOne s (view_of now) x symbols with before after =
    subst (λ (m : MarketView). AppendsOne s m x symbols with before after) same (subst (λ (b : List Stamped). AppendsOne s market x symbols with b after) unsaid one) in
    record { directory = refl; today_is = refl; count = own.count; appends = own.at; others = own.others })
one_evaluated (Err u) s x old directory on symbols with market begun before after seen view unsaid one = tt

-- a record that begins no day and lists no name is applied to the symbol that it names, or to all
applies_other : (x : Record) (old new : MarketState) (before after : List Stamped) → IsOther x → ByTarget (symbol_of x) x old new before after
    → Applies x old new before after
applies_other (in_.Day t d c) old new before after is by = absurd (true≢false is.no_day)
applies_other (in_.Listing t n k l c) old new before after is by = absurd (let no = is.no_name in cc)
applies_other (in_.Trade t i n p q f) old new before after is by = by
applies_other (in_.Cancel t i n) old new before after is by = by
applies_other (in_.Quote t i b o y z) old new before after is by = by
applies_other (in_.IndexTick t v) old new before after is by = by
applies_other (in_.Clock t) old new before after is by = by
applies_other (in_.Notice t i k) old new before after is by = by
applies_other (in_.Indication t i p u) old new before after is by = by

pub own_applies : (r : Result (Unit {0}) NoMemory) (s : ℕ) (x : Record) (old new : MarketState) (before after : List Stamped) → symbol_of x ≡ Some s
    → OnOk r (Evaluated s x old new before after) → OnOk r (Applies x old new before after)
own_applies (Err u) s x old new before after e one = tt
own_applies (Ok u) s x old new before after e one =
    applies_other x old new before after (of_symbol x s e).other (subst (λ (o : Option ℕ). ByTarget o x old new before after) (sym e) one)

pub tick_applies : (r : Result (Unit {0}) NoMemory) (x : Record) (old new : MarketState) (before after : List Stamped) → is_tick x ≡ true
    → OnOk r (Ticks x old new before after) → OnOk r (Applies x old new before after)
tick_applies (Err u) x old new before after e ticks = tt
tick_applies (Ok u) x old new before after e ticks =
    let only = tick x e in
    applies_other x old new before after only.other (subst (λ (o : Option ℕ). ByTarget o x old new before after) (sym only.no_symbol) ticks)

-- the id that is found for a name is that of a symbol
pub id_within : (name : List ℕ) (s : ℕ) (old new : MarketState) → Finds name s old new → s < length new.symbols
id_within name s old new f = by (position (bytes_eq name) old.directory) refl f.id (f.count ∙ ap length f.directory) where
  by : (o : Option ℕ) → position (bytes_eq name) old.directory ≡ o → s ≡ unwrap_or o (length old.directory) → length new.symbols ≡ length (added old.directory o name) → s < length new.symbols
  by None e id count = omega (arith, length-append old.directory (name ∷ []))
  by (Some i) e id count = let at = (position-Some (bytes_eq name) old.directory i [] e).0 in omega arith

-- and the symbol of a listed name is evaluated
pub lists : (r : Result (Unit {0}) NoMemory) (y : Unit {0}) (name : List ℕ) (s : ℕ) (x : Record) (old middle new : MarketState) (begun before after : List Stamped) → begun ≡ before → r ≡ Ok y
    → Finds name s old middle → OnOk r (Evaluated s x middle new begun after) → OnToday old (λ today. Lists name today x old new before after)
lists (Ok u) y name s x old middle new begun before after unsaid e f one = λ today on. record {
  symbol = s;
  with_name = middle;
  finds = f;
  evaluated = subst (λ (b : List Stamped). OneEvaluated s today x middle new b after) unsaid (one today (f.today ∙ on) (id_within name s old middle f));
}
lists (Err u) y name s x old middle new begun before after unsaid e f one = absurd cc

-- The symbol of a new name.

pub get-before : {X : Type 0} (xs : List X) (y : X) (k : ℕ) → k < length xs → slice_get (xs ++ y ∷ []) k ≡ slice_get xs k
get-before [] y k lt = absurd (omega arith)
get-before (x ∷ xs) y zero lt = refl
get-before (x ∷ xs) y (suc k) lt = get-before xs y k (omega arith)

-- what stands behind the others is the last
pub get-last : {X : Type 0} (xs : List X) (y z : X) (k : ℕ) → length xs ≤ k → slice_get (xs ++ y ∷ []) k ≡ Some z → (k ≡ length xs) × (z ≡ y)
get-last [] y z zero le e = (refl, cc)
get-last [] y z (suc k) le e = absurd cc
get-last (x ∷ xs) y z zero le e = absurd (omega arith)
get-last (x ∷ xs) y z (suc k) le e = let rest = get-last xs y z k (omega arith) e in (ap suc rest.0, rest.1)

pub makes : (name : List ℕ) (id index : ℕ) (old : MarketState) (directory with_name : List (List ℕ)) (on : Option Today) (symbols with_symbol : List SymbolState) (held : SymbolState)
    → record { directory = directory; today = on; symbols = symbols } ≡ old → position (bytes_eq name) old.directory ≡ None → length symbols ≡ length directory → id ≡ length directory → index ≡ length directory
    → held.kept.id ≡ index → ((own : List ℕ → Bool) (h : List Event) → SaysNothing own index h → Rests own held h) → with_name ≡ directory ++ name ∷ []
    → with_symbol ≡ symbols ++ held ∷ []
    → Finds name id old (record { directory = with_name; today = on; symbols = with_symbol })
makes name id index old directory with_name on symbols with_symbol held seen fresh as_many id_is index_is held_is rests named last =
    subst (λ (xs : List SymbolState). Finds name id old (record { directory = with_name; today = on; symbols = xs })) (sym last)
    (subst (λ (k : MarketState). Finds name id k (record { directory = with_name; today = on; symbols = symbols ++ held ∷ [] })) seen found)
  where
    new : position (bytes_eq name) directory ≡ None
    new = ap (λ (k : MarketState). position (bytes_eq name) k.directory) seen ∙ fresh

    found : Finds name id (record { directory = directory; today = on; symbols = symbols }) (record { directory = with_name; today = on; symbols = symbols ++ held ∷ [] })
    found = record {
      id = id_is ∙ sym (ap (λ (o : Option ℕ). unwrap_or o (length directory)) new);
      directory = named ∙ sym (ap (λ (o : Option ℕ). added directory o name) new);
      today = refl;
      count = length-append symbols (held ∷ []) ∙ ap (λ (n : ℕ). n + 1) as_many ∙ sym (ap length named ∙ length-append directory (name ∷ []));
      earlier = λ k below. get-before symbols held k below;
      later = λ k other behind e.
          let at = get-last symbols held other k behind e in
          let is_index : index ≡ k = index_is ∙ sym as_many ∙ sym at.0 in
          record {
            id = ap (λ (q : SymbolState). q.kept.id) at.1 ∙ held_is ∙ is_index;
            rests = λ own h nothing. subst (λ (q : SymbolState). Rests own q h) (sym at.1) (rests own h (subst (λ (n : ℕ). SaysNothing own n h) (sym is_index) nothing));
          };
    }
