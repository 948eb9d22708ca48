-- What is found at the end of a parse that passes: a row for each default, and first values that passed.
use Rattle.std.proofs.Common.{◌≡◌, ◌∙◌, ◌⊎◌, inl, inr, Bool, cond, true, false, refl, sym, ap, subst, arith, List, [], ◌∷◌, Option, Some, None, is_some, true≢false, ne_eqb}
use Rattle.std.specs.Prelude.{◌||◌, slice_get, option_and_then, unwrap_or}
use Rattle.std.specs.List.{find, fold, list_all}
use Rattle.std.specs.Str.{bytes_eq}
use Rattle.clap.specs.Facts.{parser_of_value}
use Rattle.clap.specs.Kinds.{or_else, request_kinds, value_kinds}
use Rattle.clap.specs.Walk.{Row, Rule, Text, action_of, default_rows, first_of, has_row, is_empty, nothing_held, reading_by, rows_after, settled, walk, walk_from, with_default}
use Rattle.clap.specs.Simple.{Shape}
use Rattle.clap.specs.Faults.{check_fault, default_fault, defaults_fault, level_fault, settle_fault, values_fault, walk_fault}
use Rattle.clap.specs.declared.parser.matches.ValueSource.TheVariants.{DefaultValue}
use Rattle.words_core.proofs.Passing.{AllTold, Passes, Told, first_none, first_passes, is_sound, second_none, some≢none, with_told}
use Rattle.words_core.proofs.Walking.{settled_told, walk_told}

-- ---- defaults

-- what passes one of these rules is told of all rules
abbrev Tells : List Rule → List Rule → Type 0
Tells c [] = Unit {0}
Tells c (a ∷ later) = ((values : List Text) → Passes a values → Told c a.id values) × Tells c later

tells_more : (b : Rule) (c later : List Rule) → Tells c later → Tells (b ∷ c) later
tells_more b c [] t = tt
tells_more b c (a ∷ later) t = ((λ values p. inr (t.0 values p)), tells_more b c later t.1)

tells_all : (c : List Rule) → Tells c c
tells_all [] = tt
tells_all (a ∷ c) = ((λ values p. inl (refl, p)), tells_more a c c (tells_all c))

not_empty : (d : Text) (ds : List Text) → is_empty (d ∷ ds) ≡ false
not_empty d ds = ne_eqb _ 0 (λ e. omega (arith, e))

default_told : (c : List Rule) (rows : List Row) (a : Rule) → ((values : List Text) → Passes a values → Told c a.id values) → default_fault rows a ≡ [] → AllTold c rows
    → AllTold c (with_default rows a)
default_told c rows a tell e all = go (has_row a.id rows) a.defaults e
  where
    go : (b : Bool) (ds : List Text) → cond (b || is_empty ds) [] (or_else (request_kinds (action_of a)) (values_fault a ds)) ≡ []
        → AllTold c (cond b rows (default_rows a.id (reading_by a) ds rows))
    go true ds e = all
    go false [] e = all
    go false (d ∷ ds) e =
        with_told c a.id (reading_by a) DefaultValue (d ∷ ds) rows (tell (d ∷ ds) (first_passes a (d ∷ ds) (omega arith) (second_none (request_kinds (action_of a)) _ (rw (not_empty d ds) at e)))) all

defaults_told : (c later : List Rule) (rows : List Row) → Tells c later → defaults_fault rows later ≡ [] → AllTold c rows → AllTold c (fold with_default rows later)
unfolding defaults_fault
defaults_told c [] rows t e all = all
defaults_told c (a ∷ later) rows t e all =
    defaults_told c later (with_default rows a) t.1 (second_none (default_fault rows a) _ e) (default_told c rows a t.0 (first_none _ _ e) all)

-- a level that passes: its rows, and what it checks at its end
pub level_told : (s : Shape) (words : List Text) → list_all is_sound s.rules ≡ true → level_fault s [] nothing_held words false [] ≡ []
    → AllTold s.rules (rows_after s.rules [] words) × (check_fault s (rows_after s.rules [] words) false ≡ [])
level_told s words sound e =
    let end = (walk s.rules [] nothing_held words).held in
    let walks = first_none (walk_fault s [] (walk_from nothing_held) words) _ e in
    let after = second_none (walk_fault s [] (walk_from nothing_held) words) _ e in
    let settles = first_none (settle_fault s.rules s.args_override_self end) _ after in
    let last = second_none (settle_fault s.rules s.args_override_self end) _ after in
    let fills = first_none (defaults_fault (settled s.rules end).rows s.rules) _ last in
    let all = settled_told s.rules s.args_override_self sound end settles (walk_told s sound [] (walk_from nothing_held) words walks tt) in
    (defaults_told s.rules s.rules (settled s.rules end).rows (tells_all s.rules) fills all, second_none (defaults_fault (settled s.rules end).rows s.rules) _ last)

-- ---- what is read of them

-- the rule with this id takes the value, where there is one
abbrev pub OneOf : Bool → Type 0 → Type 0 → Type 0
OneOf true P Q = P ⊎ Q
OneOf false P Q = Q

abbrev pub Takes : List Rule → Text → Text → Type 0
Takes [] id v = ⊥
Takes (a ∷ c) id v = OneOf (bytes_eq a.id id) (value_kinds a.ignore_case (parser_of_value a.parser) v ≡ []) (Takes c id v)

takes_by : (c : List Rule) (key id v : Text) (vs : List Text) → bytes_eq key id ≡ true → Told c key (v ∷ vs) → Takes c id v
takes_by [] key id v vs is t = absurd t
takes_by (a ∷ c) key id v vs is (inl p) =
    let here : true ≡ bytes_eq a.id id = sym (ap (λ k. bytes_eq k id) p.0 ∙ is) in
    subst (λ b. OneOf b (value_kinds a.ignore_case (parser_of_value a.parser) v ≡ []) (Takes c id v)) here (inl p.1)
takes_by (a ∷ c) key id v vs is (inr t) = go (bytes_eq a.id id) (takes_by c key id v vs is t)
  where
    go : (b : Bool) → Takes c id v → OneOf b (value_kinds a.ignore_case (parser_of_value a.parser) v ≡ []) (Takes c id v)
    go true later = inr later
    go false later = later

-- a first value that its rule takes
abbrev pub Reads : List Rule → Text → Option Text → Type 0
Reads c id None = ⊥
Reads c id (Some v) = Takes c id v

row_reads : (c : List Rule) (id : Text) (r : Row) → bytes_eq r.id id ≡ true → Told c r.id r.values → Reads c id (slice_get r.values 0)
row_reads c id r is t = go r.values t
  where
    none : (c : List Rule) → Told c r.id [] → ⊥
    none [] t = t
    none (a ∷ c) (inl p) = p.1
    none (a ∷ c) (inr t) = none c t

    go : (vs : List Text) → Told c r.id vs → Reads c id (slice_get vs 0)
    go [] t = none c t
    go (v ∷ vs) t = takes_by c r.id id v vs is t

found_reads : (c : List Rule) (id : Text) (rows : List Row) (r : Row) → AllTold c rows → find (λ r. bytes_eq r.id id) rows ≡ Some r → Reads c id (slice_get r.values 0)
found_reads c id [] r all is = absurd (some≢none r is)
found_reads c id (x ∷ rows) r all is = go (bytes_eq x.id id) refl is (found_reads c id rows r all.1)
  where
    go : (b : Bool) → bytes_eq x.id id ≡ b → cond b (Some x) (find (λ r. bytes_eq r.id id) rows) ≡ Some r
        → (find (λ r. bytes_eq r.id id) rows ≡ Some r → Reads c id (slice_get r.values 0)) → Reads c id (slice_get r.values 0)
    go true here found later = subst (λ (y : Row). Reads c id (slice_get y.values 0)) (ap (λ o. unwrap_or o x) found) (row_reads c id x here all.0)
    go false here found later = later found

-- there is a row, so there is a value
pub there_reads : (c : List Rule) (id : Text) (rows : List Row) → AllTold c rows → has_row id rows ≡ true → Reads c id (first_of id rows)
there_reads c id rows all e = go (find (λ r. bytes_eq r.id id) rows) refl (found_some rows e)
  where
    found_some : (rows : List Row) → has_row id rows ≡ true → is_some (find (λ r. bytes_eq r.id id) rows) ≡ true
    found_some [] e = e
    found_some (r ∷ rows) e = by (bytes_eq r.id id) e (found_some rows)
      where
        by : (b : Bool) → (b || has_row id rows) ≡ true → (has_row id rows ≡ true → is_some (find (λ r. bytes_eq r.id id) rows) ≡ true)
            → is_some (cond b (Some r) (find (λ r. bytes_eq r.id id) rows)) ≡ true
        by true e later = refl
        by false e later = later e

    go : (o : Option Row) → find (λ r. bytes_eq r.id id) rows ≡ o → is_some o ≡ true → Reads c id (option_and_then (λ r. slice_get r.values 0) o)
    go None is some = absurd (true≢false (sym some))
    go (Some r) is some = found_reads c id rows r all is

-- what is read where there may be none
abbrev pub MayRead : List Rule → Text → Option Text → Type 0
MayRead c id None = Unit {0}
MayRead c id (Some v) = Takes c id v

pub may_read : (c : List Rule) (id : Text) (rows : List Row) → AllTold c rows → MayRead c id (first_of id rows)
may_read c id rows all = go (find (λ r. bytes_eq r.id id) rows) refl
  where
    weaker : (o : Option Text) → Reads c id o → MayRead c id o
    weaker None t = tt
    weaker (Some v) t = t

    go : (o : Option Row) → find (λ r. bytes_eq r.id id) rows ≡ o → MayRead c id (option_and_then (λ r. slice_get r.values 0) o)
    go None is = tt
    go (Some r) is = weaker (slice_get r.values 0) (found_reads c id rows r all is)
