-- The records that concern a symbol, and the messages for it.
use Rattle.std.proofs.Common.{◌≡◌, ℕ, Bool, true, false, cond, List, [], ◌∷◌, ◌++◌, Option, Some, None, is_some, refl, sym, ap, ◌∙◌}
use Rattle.std.specs.Prelude.{◌==◌, ◌||◌, filter}
use Rattle.std.specs.List.{list_any}
use Rattle.std.specs.Option.{option_map_or}
use Rattle.wire_in.specs.declared.record.Record.{Record}
use Rattle.wire_in.specs.Records.{is_day, is_tick, name_of, symbol_of}
use Rattle.wire_in.proofs.RecordKinds.{IsOther, by_listing, by_name}
use Rattle.wire_out.specs.declared.message.Message.{Message}
use Rattle.wire_out.specs.declared.message.Message.TheVariants as out
use Rattle.wire_out.specs.declared.message.Stamped.{Stamped}
use Rattle.rulebook.specs.declared.event.Event.{Event}
use Rattle.rulebook.specs.declared.event.Event.TheVariants.{Accepted}
use Rattle.rulebook.specs.Admission.{id_of, names, since_day}
use Rattle.rulebook.specs.Isolation.{isolated, concerns, for_symbol, isolated_history, is_for, is_listed_in_view, is_listing, view}
use Rattle.rulebook.specs.Book.{evaluate, evaluate_market, evaluate_own, named}
use Rattle.rulebook.specs.History.{records}
use Rattle.rulebook.specs.Symbol.{terms_in}
use Rattle.rulebook.proofs.Histories.{evaluate-part, evaluate_market-part, evaluate_own-part, market_part, own_part, part, records-publish}
use Rattle.rulebook.proofs.Ids.{Agree, earlier_agree, own-kept, own_id}
use Rattle.rulebook.proofs.Listings.{among_own}
use Rattle.rulebook.proofs.OtherRecords.{leaves}
use Rattle.rulebook.proofs.OfSymbol.{AllBy, AllOfSymbols, NoneBy, by_other, is_by, of_symbol, speaker}
use Rattle.market_core.specs.Ruled.{stamped}

-- Records.

-- whether a record names s, by a test of its name or by its id
abbrev names_s : (List ℕ → Bool) → ℕ → Option ℕ → Option (List ℕ) → Bool
names_s own s symbol None = option_map_or (λ id. id == s) symbol false
names_s own s symbol (Some name) = own name

-- a record is market-wide, or of s by its id or by a test of its name
abbrev concerns_by : (List ℕ → Bool) → ℕ → Record → Bool
concerns_by own s x = is_day x || is_tick x || names_s own s (symbol_of x) (name_of x)

concerns-by : (A : List Record) (s : ℕ) (x : Record) → concerns A s x ≡ concerns_by (named A s).own s x
concerns-by A s x = ap (λ (b : Bool). is_day x || is_tick x || b) (by (name_of x)) where
  by : (o : Option (List ℕ)) → option_map_or (λ id. id == s) (elim o [ Some name ↦ id_of A name | None ↦ symbol_of x ]) false
      ≡ names_s (named A s).own s (symbol_of x) o
  by None = refl
  by (Some name) = refl

by-agree : (own other : List ℕ → Bool) (s : ℕ) (x : Record) (A : List Record) → Agree own other (x ∷ A) → concerns_by own s x ≡ concerns_by other s x
by-agree own other s x A e =
    by_name (λ y. Agree own other (y ∷ A) → concerns_by own s y ≡ concerns_by other s y) (λ t name k l c e. e.at name (among_own (names A) name))
    (λ y none e. (λ i. is_day y || is_tick y || names_s own s (symbol_of y) (none i))
    ∙ sym (λ i. is_day y || is_tick y || names_s other s (symbol_of y) (none i))) x e

filter-agree : (own other : List ℕ → Bool) (s : ℕ) (A : List Record) → Agree own other A → filter (concerns_by own s) A ≡ filter (concerns_by other s) A
filter-agree own other s [] e = refl
filter-agree own other s (x ∷ A) e =
    let rest = filter-agree own other s A (earlier_agree own other x A e) in
    λ i. cond (by-agree own other s x A e i) (x ∷ rest i) (rest i)

-- a further record changes for no earlier one whether it is in the view
view-kept : (x : Record) (A : List Record) (s : ℕ) → filter (concerns (x ∷ A) s) A ≡ view A s
view-kept x A s =
    (λ i. filter (λ y. concerns-by (x ∷ A) s y i) A)
    ∙ sym (filter-agree (named A s).own (named (x ∷ A) s).own s A (own-kept x A s))
    ∙ (λ i. filter (λ y. sym (concerns-by A s y) i) A)

pub view-more : (x : Record) (A : List Record) (s : ℕ) (b : Bool) → concerns (x ∷ A) s x ≡ b → view (x ∷ A) s ≡ cond b (x ∷ view A s) (view A s)
view-more x A s b e = λ i. cond (e i) (x ∷ view-kept x A s i) (view-kept x A s i)

-- the records of a symbol's own history are those that it is of
pub records-isolated : (s : ℕ) (v : List Record) → records (isolated_history s v) ≡ v
records-isolated s [] = refl
records-isolated s (x ∷ v) = by (is_day x) (is_tick x) (is_listed_in_view (records (Accepted x ∷ isolated_history s v))) ∙ ap (λ (earlier : List Record). x ∷ earlier) (records-isolated s v) where
  h : List Event
  h = Accepted x ∷ isolated_history s v

  market : records (evaluate_market x h) ≡ records h
  market = ap records (evaluate_market-part x h) ∙ records-publish (market_part x h) h

  by : (day tick listed : Bool)
      → records (cond day h (cond tick (cond listed (evaluate x (isolated s) (evaluate_market x h)) (evaluate_market x h)) (evaluate_own x (isolated s) h))) ≡ records h
  by true tick listed = refl
  by false true true = ap records (evaluate-part x (isolated s) (evaluate_market x h)) ∙ records-publish (part x (isolated s) (evaluate_market x h)) (evaluate_market x h) ∙ market
  by false true false = market
  by false false listed = ap records (evaluate_own-part x (isolated s) h) ∙ records-publish (own_part x (isolated s) h) h

-- alone, a symbol has terms where there is a listing
pub terms-isolated : (v : List Record) → is_some (terms_in (λ name. true) v) ≡ is_listed_in_view v
terms-isolated [] = refl
terms-isolated (x ∷ v) =
    by_listing (λ y. is_some (terms_in (λ name. true) (y ∷ v)) ≡ is_listed_in_view (y ∷ v)) (λ t d c. refl) (λ t name k l c. refl)
    (λ y o. ap is_some ((leaves y v o).terms (λ name. true)) ∙ terms-isolated v ∙ sym (unlisted y o)) x
  where
    unlisted : (y : Record) → IsOther y → is_listed_in_view (y ∷ v) ≡ is_listed_in_view v
    unlisted y o =
        ap (λ (b : Bool). list_any is_listing (cond b (y ∷ []) (y ∷ since_day v))) o.no_day
        ∙ ap (λ (n : Option (List ℕ)). option_map_or (λ name. true) n false || list_any is_listing (since_day v)) o.no_name

-- Messages.

abbrev pub NotFor : ℕ → List Message → Type 0
NotFor s [] = Unit {0}
NotFor s (m ∷ ms) = (is_for s m ≡ false) × NotFor s ms

abbrev pub AllFor : ℕ → List Message → Type 0
AllFor s [] = Unit {0}
AllFor s (m ∷ ms) = (is_for s m ≡ true) × AllFor s ms

pub NotFor-append : (s : ℕ) (a b : List Message) → NotFor s a → NotFor s b → NotFor s (a ++ b)
NotFor-append s [] b first second = second
NotFor-append s (m ∷ a) b first second = (first.0, NotFor-append s a b first.1 second)

one_not_for : (s : ℕ) (m : Message) → is_some (speaker m) ≡ true → is_by s m ≡ false → is_for s m ≡ false
one_not_for s (out.Listed i name) of e = e
one_not_for s (out.State i p) of e = e
one_not_for s (out.Band i why reference lower upper) of e = e
one_not_for s (out.Straddle i on) of e = e
one_not_for s (out.Collar i round lower upper) of e = e
one_not_for s (out.Release i price) of e = e
one_not_for s (out.Short i kind) of e = e
one_not_for s (out.Breaker level index) of e = absurd cc
one_not_for s out.MarketResume of e = absurd cc

-- messages of symbols, none of them s
pub not_for : (s : ℕ) (ms : List Message) → AllOfSymbols ms → NoneBy s ms → NotFor s ms
not_for s [] all none = tt
not_for s (m ∷ ms) all none = (one_not_for s m all.0 none.0, not_for s ms all.1 none.1)

pub others_for : (s k : ℕ) (ms : List Message) → (k == s) ≡ false → AllBy (Some k) ms → NotFor s ms
others_for s k ms apart all = not_for s ms (of_symbol k ms all) (by_other s k ms apart all)

one_by : (s : ℕ) (m : Message) → is_for s m ≡ false → is_by s m ≡ false
one_by s (out.Listed i name) e = e
one_by s (out.State i p) e = e
one_by s (out.Band i why reference lower upper) e = e
one_by s (out.Straddle i on) e = e
one_by s (out.Collar i round lower upper) e = e
one_by s (out.Release i price) e = e
one_by s (out.Short i kind) e = e
one_by s (out.Breaker level index) e = absurd cc
one_by s out.MarketResume e = absurd cc

pub none_by : (s : ℕ) (ms : List Message) → NotFor s ms → NoneBy s ms
none_by s [] none = tt
none_by s (m ∷ ms) none = (one_by s m none.0, none_by s ms none.1)

one_own : (s i : ℕ) → Some i ≡ Some s → (i == s) ≡ true
one_own s i e = let same : i ≡ s = cc in ap (λ (k : ℕ). k == s) same ∙ own_id s

one_for : (s : ℕ) (m : Message) → speaker m ≡ Some s → is_for s m ≡ true
one_for s (out.Listed i name) e = one_own s i e
one_for s (out.State i p) e = one_own s i e
one_for s (out.Band i why reference lower upper) e = one_own s i e
one_for s (out.Straddle i on) e = one_own s i e
one_for s (out.Collar i round lower upper) e = one_own s i e
one_for s (out.Release i price) e = one_own s i e
one_for s (out.Short i kind) e = one_own s i e
one_for s (out.Breaker level index) e = absurd cc
one_for s out.MarketResume e = absurd cc

pub own_for : (s : ℕ) (ms : List Message) → AllBy (Some s) ms → AllFor s ms
own_for s [] all = tt
own_for s (m ∷ ms) all = (one_for s m all.0, own_for s ms all.1)

one_market : (s : ℕ) (m : Message) → speaker m ≡ None → is_for s m ≡ true
one_market s (out.Listed i name) e = absurd cc
one_market s (out.State i p) e = absurd cc
one_market s (out.Band i why reference lower upper) e = absurd cc
one_market s (out.Straddle i on) e = absurd cc
one_market s (out.Collar i round lower upper) e = absurd cc
one_market s (out.Release i price) e = absurd cc
one_market s (out.Short i kind) e = absurd cc
one_market s (out.Breaker level index) e = refl
one_market s out.MarketResume e = refl

pub market_for : (s : ℕ) (ms : List Message) → AllBy None ms → AllFor s ms
market_for s [] all = tt
market_for s (m ∷ ms) all = (one_market s m all.0, market_for s ms all.1)

pub filter-all : (s : ℕ) (ms : List Message) → AllFor s ms → filter (is_for s) ms ≡ ms
filter-all s [] all = refl
filter-all s (m ∷ ms) all = let rest = filter-all s ms all.1 in λ i. cond (all.0 i) (m ∷ rest i) (rest i)

pub filter-none : (s : ℕ) (ms : List Message) → NotFor s ms → filter (is_for s) ms ≡ []
filter-none s [] none = refl
filter-none s (m ∷ ms) none = let rest = filter-none s ms none.1 in λ i. cond (none.0 i) (m ∷ rest i) (rest i)

pub for-stamped : (s t : ℕ) (ms : List Message) → for_symbol s (stamped t ms) ≡ stamped t (filter (is_for s) ms)
for-stamped s t [] = refl
for-stamped s t (m ∷ ms) = by (is_for s m) (for-stamped s t ms) where
  one : Stamped
  one = record { moment = t; message = m }

  by : (b : Bool) → for_symbol s (stamped t ms) ≡ stamped t (filter (is_for s) ms)
      → cond b (one ∷ for_symbol s (stamped t ms)) (for_symbol s (stamped t ms)) ≡ stamped t (cond b (m ∷ filter (is_for s) ms) (filter (is_for s) ms))
  by true rest = ap (λ (later : List Stamped). one ∷ later) rest
  by false rest = rest
