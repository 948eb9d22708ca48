-- The four kinds of records.
use Rattle.std.proofs.Common.{◌≡◌, ℕ, Bool, true, false, cond, List, Option, Some, None, is_some, refl, sym, ap, subst, ◌∙◌, true≢false}
use Rattle.price_core.specs.declared.quote.Tier.{Tier}
use Rattle.session_core.specs.declared.day.Day.{Day}
use Rattle.wire_in.specs.declared.record.Record.{Record}
use Rattle.wire_in.specs.declared.record.Record.TheVariants as in_
use Rattle.wire_in.specs.declared.record.RecordKind.{RecordKind}
use Rattle.wire_in.specs.declared.record.RecordKind.TheVariants as kinds
use Rattle.wire_in.specs.Records.{kind_of, is_day, is_tick, name_of, symbol_of}
use Rattle.wire_in.specs.Laws.{Does, IsOfKind, KindIsUnique}

pub of_kind : (x : Record) → IsOfKind (kind_of x) x
of_kind (in_.Day t d v) = record { begins_day = refl; lists_name = refl; is_a_tick = refl; names_symbol = refl }
of_kind (in_.Listing t n k l c) = record { begins_day = refl; lists_name = refl; is_a_tick = refl; names_symbol = refl }
of_kind (in_.Trade t s n p z f) = record { begins_day = refl; lists_name = refl; is_a_tick = refl; names_symbol = refl }
of_kind (in_.Cancel t s n) = record { begins_day = refl; lists_name = refl; is_a_tick = refl; names_symbol = refl }
of_kind (in_.Quote t s b o x y) = record { begins_day = refl; lists_name = refl; is_a_tick = refl; names_symbol = refl }
of_kind (in_.IndexTick t v) = record { begins_day = refl; lists_name = refl; is_a_tick = refl; names_symbol = refl }
of_kind (in_.Clock t) = record { begins_day = refl; lists_name = refl; is_a_tick = refl; names_symbol = refl }
of_kind (in_.Notice t s k) = record { begins_day = refl; lists_name = refl; is_a_tick = refl; names_symbol = refl }
of_kind (in_.Indication t s p u) = record { begins_day = refl; lists_name = refl; is_a_tick = refl; names_symbol = refl }

-- the kind by what the record does
abbrev kind_by : Record → RecordKind
kind_by x = cond (is_day x) kinds.Day (cond (is_some (name_of x)) kinds.Listing (cond (is_tick x) kinds.Tick kinds.OfSymbol))

kind-by : (x : Record) → kind_of x ≡ kind_by x
kind-by (in_.Day t d v) = refl
kind-by (in_.Listing t n k l c) = refl
kind-by (in_.Trade t s n p z f) = refl
kind-by (in_.Cancel t s n) = refl
kind-by (in_.Quote t s b o x y) = refl
kind-by (in_.IndexTick t v) = refl
kind-by (in_.Clock t) = refl
kind-by (in_.Notice t s k) = refl
kind-by (in_.Indication t s p u) = refl

kind-does : {day name tick symbol : Bool} (x : Record) → Does day name tick symbol x
    → kind_of x ≡ cond day kinds.Day (cond name kinds.Listing (cond tick kinds.Tick kinds.OfSymbol))
kind-does x d =
    kind-by x ∙ (λ i. cond (d.begins_day i) kinds.Day (cond (d.lists_name i) kinds.Listing (cond (d.is_a_tick i) kinds.Tick kinds.OfSymbol)))

pub kind_is_unique : KindIsUnique
kind_is_unique x kind = (λ e. subst (λ (k : RecordKind). IsOfKind k x) e (of_kind x), by kind) where
  by : (kind : RecordKind) → IsOfKind kind x → kind_of x ≡ kind
  by kinds.Day d = kind-does x d
  by kinds.Listing d = kind-does x d
  by kinds.Tick d = kind-does x d
  by kinds.OfSymbol d = kind-does x d

-- Records by what they do.

pub by_kind : {P : Type 0} (x : Record) → (IsOfKind kinds.Day x → P) → (IsOfKind kinds.Listing x → P) → (IsOfKind kinds.Tick x → P)
    → (IsOfKind kinds.OfSymbol x → P) → P
by_kind {P} x day lists ticks names = by (kind_of x) (of_kind x) where
  by : (kind : RecordKind) → IsOfKind kind x → P
  by kinds.Day d = day d
  by kinds.Listing d = lists d
  by kinds.Tick d = ticks d
  by kinds.OfSymbol d = names d

-- where there is no value
pub is_none : {X : Type 0} (o : Option X) → is_some o ≡ false → o ≡ None
is_none None e = refl
is_none (Some x) e = absurd (true≢false e)

-- a record that begins no day and lists no name
pub record IsOther (x : Record) : Type 0 where
  pub no_day : is_day x ≡ false
  pub no_name : name_of x ≡ None

-- a clock or an index tick begins no day, lists no name and names no symbol
pub record OnlyTicks (x : Record) : Type 0 where
  pub other : IsOther x
  pub no_symbol : symbol_of x ≡ None

pub tick : (x : Record) → is_tick x ≡ true → OnlyTicks x
tick x e =
    by_kind x (λ d. absurd (true≢false (sym e ∙ d.is_a_tick))) (λ d. absurd (true≢false (sym e ∙ d.is_a_tick)))
    (λ d. record {
      other = record { no_day = d.begins_day; no_name = is_none (name_of x) d.lists_name };
      no_symbol = is_none (symbol_of x) d.names_symbol;
    })
    (λ d. absurd (true≢false (sym e ∙ d.is_a_tick)))

-- a listing names no symbol by its id
pub listing : (x : Record) (name : List ℕ) → name_of x ≡ Some name → symbol_of x ≡ None
listing x name e =
    let lists : is_some (name_of x) ≡ true = ap is_some e in
    by_kind x (λ d. absurd (true≢false (sym lists ∙ d.lists_name))) (λ d. is_none (symbol_of x) d.names_symbol)
    (λ d. absurd (true≢false (sym lists ∙ d.lists_name))) (λ d. absurd (true≢false (sym lists ∙ d.lists_name)))

-- a record that begins no day, lists no name and names no symbol is a tick
pub other_tick : (x : Record) → IsOther x → symbol_of x ≡ None → is_tick x ≡ true
other_tick x o e =
    by_kind x (λ d. absurd (true≢false (sym d.begins_day ∙ o.no_day))) (λ d. absurd (true≢false (sym d.lists_name ∙ ap is_some o.no_name)))
    (λ d. d.is_a_tick) (λ d. absurd (true≢false (sym d.names_symbol ∙ ap is_some e)))

-- one that names a symbol by its id is no tick
pub record OnlyNames (x : Record) : Type 0 where
  pub other : IsOther x
  pub no_tick : is_tick x ≡ false

pub of_symbol : (x : Record) (s : ℕ) → symbol_of x ≡ Some s → OnlyNames x
of_symbol x s e =
    let names : is_some (symbol_of x) ≡ true = ap is_some e in
    by_kind x (λ d. absurd (true≢false (sym names ∙ d.names_symbol))) (λ d. absurd (true≢false (sym names ∙ d.names_symbol)))
    (λ d. absurd (true≢false (sym names ∙ d.names_symbol)))
    (λ d. record { other = record { no_day = d.begins_day; no_name = is_none (name_of x) d.lists_name }; no_tick = d.is_a_tick })

-- what holds of a clock and of an index tick holds of each tick
pub by_tick : (P : Record → Type 0) → ((t : ℕ) → P (in_.Clock t)) → ((t v : ℕ) → P (in_.IndexTick t v)) → (x : Record) → is_tick x ≡ true → P x
by_tick P clock index (in_.Day t d v) e = absurd (true≢false (sym e))
by_tick P clock index (in_.Listing t n k l c) e = absurd (true≢false (sym e))
by_tick P clock index (in_.Trade t s n p z f) e = absurd (true≢false (sym e))
by_tick P clock index (in_.Cancel t s n) e = absurd (true≢false (sym e))
by_tick P clock index (in_.Quote t s b o x y) e = absurd (true≢false (sym e))
by_tick P clock index (in_.IndexTick t v) e = index t v
by_tick P clock index (in_.Clock t) e = clock t
by_tick P clock index (in_.Notice t s k) e = absurd (true≢false (sym e))
by_tick P clock index (in_.Indication t s p u) e = absurd (true≢false (sym e))

-- what holds of each day, of each listing and of each other record holds of each record
pub by_listing : (P : Record → Type 0) → ((t : ℕ) (d : Day) (v : ℕ) → P (in_.Day t d v))
    → ((t : ℕ) (n : List ℕ) (k : Tier) (l : ℕ) (c : Option ℕ) → P (in_.Listing t n k l c))
    → ((x : Record) → IsOther x → P x) → (x : Record) → P x
by_listing P day listing other (in_.Day t d v) = day t d v
by_listing P day listing other (in_.Listing t n k l c) = listing t n k l c
by_listing P day listing other (in_.Trade t s n p z f) = other _ (record { no_day = refl; no_name = refl })
by_listing P day listing other (in_.Cancel t s n) = other _ (record { no_day = refl; no_name = refl })
by_listing P day listing other (in_.Quote t s b o x y) = other _ (record { no_day = refl; no_name = refl })
by_listing P day listing other (in_.IndexTick t v) = other _ (record { no_day = refl; no_name = refl })
by_listing P day listing other (in_.Clock t) = other _ (record { no_day = refl; no_name = refl })
by_listing P day listing other (in_.Notice t s k) = other _ (record { no_day = refl; no_name = refl })
by_listing P day listing other (in_.Indication t s p u) = other _ (record { no_day = refl; no_name = refl })

-- what holds of each listing and of each record that lists no name holds of each record
pub by_name : (P : Record → Type 0) → ((t : ℕ) (n : List ℕ) (k : Tier) (l : ℕ) (c : Option ℕ) → P (in_.Listing t n k l c))
    → ((x : Record) → name_of x ≡ None → P x) → (x : Record) → P x
by_name P listing other x = by_listing P (λ t d v. other (in_.Day t d v) refl) listing (λ y o. other y o.no_name) x
