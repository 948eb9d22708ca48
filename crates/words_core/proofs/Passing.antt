-- The first value of a use that passes is one that the parser of its argument takes.
use Rattle.std.proofs.Common.{◌≡◌, ◌<◌, ◌++◌, ◌⊎◌, inl, inr, Bool, cond, true, false, refl, sym, ap, subst, arith, List, [], ◌∷◌, length, Some, None, nat_lt, ltb-true, true≢false}
use Rattle.std.specs.Prelude.{unwrap_or, is_some}
use Rattle.std.specs.List.{find, list_all}
use Rattle.std.specs.Str.{bytes_eq}
use Rattle.clap.specs.Facts.{parser_of_value, unwrap_or_range}
use Rattle.clap.specs.Kinds.{Kinds, or_else, range_kinds, value_kinds}
use Rattle.clap.specs.Walk.{Row, Rule, Text, action_of, more_values, most_values, reading_by, used, used_as, values_or_missing, with_values, without}
use Rattle.clap.specs.Faults.{action_fault, use_fault, values_fault}
use Rattle.clap.specs.declared.builder.action.ArgAction.{ArgAction}
use Rattle.clap.specs.declared.builder.action.ArgAction.TheVariants as action
use Rattle.clap.specs.declared.builder.value_parser.Reading.{Reading}
use Rattle.clap.specs.declared.error.kind.ErrorKind.{ErrorKind}
use Rattle.clap.specs.declared.parser.matches.ValueSource.{ValueSource}
use Rattle.clap.specs.declared.parser.matches.ValueSource.TheVariants.{CommandLine}
use Rattle.clap.proofs.WalkLemmas.{both}

-- ---- kinds of the first step that fails

pub some_kind : (k : ErrorKind) (ks : Kinds) → k ∷ ks ≡ [] → ⊥
some_kind k ks e = omega (arith, ap length e)

pub first_none : (a b : Kinds) → or_else a b ≡ [] → a ≡ []
first_none [] b e = refl
first_none (k ∷ ks) b e = e

pub second_none : (a b : Kinds) → or_else a b ≡ [] → b ≡ []
second_none [] b e = e
second_none (k ∷ ks) b e = absurd (some_kind k ks e)

-- ---- values

-- there is a first value, and it passes
abbrev pub Passes : Rule → List Text → Type 0
Passes a [] = ⊥
Passes a (v ∷ vs) = value_kinds a.ignore_case (parser_of_value a.parser) v ≡ []

passes_more : (a : Rule) (xs ys : List Text) → Passes a xs → Passes a (xs ++ ys)
passes_more a [] ys p = absurd p
passes_more a (v ∷ vs) ys p = p

pub first_passes : (a : Rule) (vs : List Text) → 0 < length vs → values_fault a vs ≡ [] → Passes a vs
first_passes a [] some e = absurd (omega (arith, some))
first_passes a (v ∷ vs) some e = first_none _ _ e

-- one of the rules has the id, and the first value passes it
abbrev pub Told : List Rule → Text → List Text → Type 0
Told [] id values = ⊥
Told (a ∷ c) id values = ((a.id ≡ id) × Passes a values) ⊎ Told c id values

told_more : (c : List Rule) (id : Text) (xs ys : List Text) → Told c id xs → Told c id (xs ++ ys)
told_more [] id xs ys t = absurd t
told_more (a ∷ c) id xs ys (inl p) = inl (p.0, passes_more a xs ys p.1)
told_more (a ∷ c) id xs ys (inr t) = inr (told_more c id xs ys t)

pub some≢none : {X : Type 0} (x : X) → None ≡ Some x → ⊥
some≢none x e = true≢false (sym (ap is_some e))

pub found_holds : (p q : Rule → Bool) (c : List Rule) (a : Rule) → list_all p c ≡ true → find q c ≡ Some a → p a ≡ true
found_holds p q [] a all is = absurd (some≢none a is)
found_holds p q (x ∷ c) a all is = go (q x) is (λ later. found_holds p q c a (both _ _ all).1 later)
  where
    go : (b : Bool) → cond b (Some x) (find q c) ≡ Some a → (find q c ≡ Some a → p a ≡ true) → p a ≡ true
    go true here later = subst (λ r. p r ≡ true) (ap (λ o. unwrap_or o x) here) (both (p x) _ all).0
    go false here later = later here

pub found_told : (q : Rule → Bool) (c : List Rule) (a : Rule) (values : List Text) → find q c ≡ Some a → Passes a values → Told c a.id values
found_told q [] a values is p = absurd (some≢none a is)
found_told q (x ∷ c) a values is p = go (q x) is (λ later. found_told q c a values later p)
  where
    go : (b : Bool) → cond b (Some x) (find q c) ≡ Some a → (find q c ≡ Some a → Told c a.id values) → Told (x ∷ c) a.id values
    go true here later =
        let same : x ≡ a = ap (λ o. unwrap_or o x) here in
        inl (ap (λ r. r.id) same, subst (λ r. Passes r values) (sym same) p)
    go false here later = inr (later here)

-- ---- rows

abbrev pub AllTold : List Rule → List Row → Type 0
AllTold c [] = Unit {0}
AllTold c (r ∷ rows) = Told c r.id r.values × AllTold c rows

pub with_told : (c : List Rule) (id : Text) (how : Reading) (s : ValueSource) (values : List Text) (rows : List Row) → Told c id values → AllTold c rows
    → AllTold c (with_values id how s values rows)
with_told c id how s values [] t all = (t, tt)
with_told c id how s values (r ∷ rows) t all = go (bytes_eq r.id id) (with_told c id how s values rows t all.1)
  where
    go : (b : Bool) → AllTold c (with_values id how s values rows) → AllTold c (cond b (more_values s values r ++ rows) (r ∷ with_values id how s values rows))
    go true later = (told_more c r.id r.values values all.0, all.1)
    go false later = (all.0, later)

without_told : (c : List Rule) (id : Text) (rows : List Row) → AllTold c rows → AllTold c (without id rows)
without_told c id [] all = tt
without_told c id (r ∷ rows) all = go (bytes_eq r.id id) (without_told c id rows all.1)
  where
    go : (b : Bool) → AllTold c (without id rows) → AllTold c (cond b rows (r ∷ without id rows))
    go true later = all.1
    go false later = (all.0, later)

-- ---- one use

-- a use that passes has a first value
abbrev pub is_sound_as : ArgAction → Rule → Bool
is_sound_as action.Set a = nat_lt 0 (unwrap_or_range a.range).start_inclusive
is_sound_as action.SetTrue a = nat_lt 0 (length a.missing)
is_sound_as action.Help a = true
is_sound_as other a = false

abbrev pub is_sound : Rule → Bool
is_sound a = is_sound_as (action_of a) a

set_has_value : (a : Rule) (values : List Text) → nat_lt 0 (unwrap_or_range a.range).start_inclusive ≡ true
    → range_kinds (unwrap_or_range a.range).start_inclusive (most_values a) (length values) ≡ [] → 0 < length (values_or_missing a values)
set_has_value a [] sound e = absurd (some_kind _ _ (rw sound at e))
set_has_value a (v ∷ vs) sound e = omega arith

flag_has_value : (a : Rule) (values : List Text) → nat_lt 0 (length a.missing) ≡ true → 0 < length (values_or_missing a values)
flag_has_value a [] sound = ltb-true _ _ sound
flag_has_value a (v ∷ vs) sound = omega arith

abbrev Sets : Rule → ArgAction → List Text → List Row → Type 0
Sets a x values rows = Passes a (values_or_missing a values)
    × (used_as x a.id (reading_by a) (values_or_missing a values) rows ≡ with_values a.id (reading_by a) CommandLine (values_or_missing a values) (without a.id rows))

sets_as : (x : ArgAction) (again : Bool) (a : Rule) (values : List Text) (rows : List Row) → is_sound_as x a ≡ true
    → range_kinds (unwrap_or_range a.range).start_inclusive (most_values a) (length values) ≡ [] → action_fault x again a (values_or_missing a values) rows ≡ [] → Sets a x values rows
sets_as action.Set again a values rows sound range e = (first_passes a _ (set_has_value a values sound range) (second_none _ _ e), refl)
sets_as action.SetTrue again a values rows sound range e = (first_passes a _ (flag_has_value a values sound) (second_none _ _ e), refl)
sets_as action.Help again a values rows sound range e = absurd (some_kind _ _ e)
sets_as action.Append again a values rows sound range e = absurd (true≢false (sym sound))
sets_as action.SetFalse again a values rows sound range e = absurd (true≢false (sym sound))
sets_as action.Count again a values rows sound range e = absurd (true≢false (sym sound))
sets_as action.HelpShort again a values rows sound range e = absurd (true≢false (sym sound))
sets_as action.HelpLong again a values rows sound range e = absurd (true≢false (sym sound))
sets_as action.Version again a values rows sound range e = absurd (true≢false (sym sound))

pub use_told : (c : List Rule) (again : Bool) (q : Rule → Bool) (a : Rule) (values : List Text) (rows : List Row) → list_all is_sound c ≡ true → find q c ≡ Some a
    → use_fault again a values rows ≡ [] → AllTold c rows → AllTold c (used a values rows)
use_told c again q a values rows sound is e all =
    let sets = sets_as (action_of a) again a values rows (found_holds is_sound q c a sound is) (first_none _ _ e)
    (second_none (range_kinds (unwrap_or_range a.range).start_inclusive (most_values a) (length values)) _ e) in
    subst (AllTold c) (sym sets.1) (with_told c a.id (reading_by a) CommandLine _ _ (found_told q c a _ is sets.0) (without_told c a.id rows all))
