-- What is restored from a base stands for each list with that base: a market that begins with a day alone, an admission and a lead.
use Rattle.std.proofs.Common.{nat_cmp, ◌≡◌, ◌≢◌, ℕ, zero, suc, ◌+◌, ◌<◌, ◌≤◌, Bool, true, false, cond, List, [], ◌∷◌, ◌++◌, length, map, get_or, take, replicate, Option, Some, None, is_some, Result, Ok, Err, refl, sym, ap, subst, ◌∙◌, true≢false, arith, append_assoc, length-append}
use Rattle.std.specs.Prelude.{MatchResult, ◌==◌, ◌||◌, filter, is_ok, nat_le, nat_lt, option_map, position, slice_get}
use Rattle.std.specs.List.{All, list_any}
use Rattle.std.specs.Option.{option_map_or}
use Rattle.std.specs.Str.{bytes_eq}
use Rattle.std.proofs.lemmas.Bool.Decides.{nat_tests}
use Rattle.std.proofs.lemmas.List.{append-nil, length-replicate}
use Rattle.std.proofs.lemmas.Option.{slice_get_read}
use Rattle.std.proofs.lemmas.List.Elements.{All-get_or, All-replicate, filter-append}
use Rattle.std.proofs.lemmas.List.Quantifiers.{position-Some}
use Rattle.std.proofs.lemmas.List.Sorted.{searched}
use Rattle.std.specs.List.Sorted.{IsBinarySearchResult}
use Rattle.wire_in.specs.declared.base.Base.{Base}
use Rattle.wire_in.specs.declared.record.Record.{Record}
use Rattle.wire_in.specs.Bases.{AreNew, AreRising, IsInRange}
use Rattle.wire_in.specs.Records.{is_day, is_tick, moment_of, name_of, symbol_of}
use Rattle.wire_in.proofs.RecordKinds.{by_listing}
use Rattle.wire_out.specs.declared.message.Message.{Message}
use Rattle.rulebook.specs.declared.event.Event.{Event}
use Rattle.rulebook.specs.declared.event.Event.TheVariants.{Accepted}
use Rattle.rulebook.specs.Admission.{IsLawful, id_of, is_listed, is_listed_name, last_day, names}
use Rattle.rulebook.specs.Base.{base_of, carried_ids, carries, stand_in}
use Rattle.rulebook.specs.Book.{named, ids_below, history, listed_ids, messages_of, target}
use Rattle.rulebook.specs.History.{publish}
use Rattle.rulebook.specs.Market.{day_record}
use Rattle.rulebook.specs.Rules.{is_carried}
use Rattle.rulebook.proofs.Histories.{market_part, own_part, parts, record_part, records-history, step-part}
use Rattle.rulebook.proofs.Bases.{carried-is, carries-is, has, is_base}
use Rattle.rulebook.proofs.Ids.{listed-below}
use Rattle.rulebook.proofs.StandIn.{AllKnown, carried-stand_in, known-stand_in, names-stand_in}
use Rattle.rulebook.proofs.OfSymbol.{NoneBy, NoneBy-append, by_market, by_other, market_part-by, own_part-by, parts-below}
use Rattle.rulebook.proofs.Positions.{is_some-position}
use Rattle.symbol_core.specs.declared.state.Kept.{Kept}
use Rattle.symbol_core.specs.Fresh as symbols
use Rattle.symbol_core.specs.Rests.{Rests, SymbolState}
use Rattle.symbol_core.specs.Silent.{SaysNothing}
use Rattle.symbol_core.proofs.Resting.{rests-fresh}
use Rattle.market_core.specs.AdmissionState.{AdmissionState, Stands}
use Rattle.market_core.specs.Fresh.{AreFresh, is_marked}
use Rattle.market_core.specs.Leads.{IsLed, LeadState, today_led}
use Rattle.market_core.specs.MarketState.{MarketState, Represents, day_of}
use Rattle.market_core.proofs.Admitting.{map-constant}
use Rattle.market_core.proofs.Appending.{get-before, get-last}
use Rattle.market_core.proofs.Applying.{is_known}
use Rattle.market_core.proofs.OwnSteps.{agree-before}
use Rattle.market_core.proofs.RecordsOfOthers.{of_another, says-on}

-- Ids that no name has.

pub lawful-known : (capacity : ℕ) (A : List Record) → IsLawful capacity A → AllKnown A
lawful-known capacity [] lawful = tt
lawful-known capacity (x ∷ A) lawful = (λ id e. listed-below A id (is_known capacity A x id lawful.0 e), lawful-known capacity A lawful.1)

names-grow : (x : Record) (A : List Record) → length (names A) ≤ length (names (x ∷ A))
names-grow x A = Rattle.market_core.proofs.Applying.names-grow x A

-- the id that a record is for
target-within : (x : Record) (A : List Record) → ((id : ℕ) → symbol_of x ≡ Some id → id < length (names A)) → (id : ℕ) → target (x ∷ A) x ≡ Some id → id < length (names (x ∷ A))
target-within x A known id = by (name_of x) refl where
  by : (o : Option (List ℕ)) → name_of x ≡ o → elim o [ Some name ↦ id_of (x ∷ A) name | None ↦ symbol_of x ] ≡ Some id → id < length (names (x ∷ A))
  by (Some name) is e = (position-Some (bytes_eq name) (names (x ∷ A)) id [] e).0
  by None is e = let below = known id e in let grown = names-grow x A in omega arith

none-said : (s : ℕ) (x : Record) (A : List Record) → ((id : ℕ) → symbol_of x ≡ Some id → id < length (names A)) → length (names (x ∷ A)) ≤ s → NoneBy s (record_part x (Accepted x ∷ history A))
none-said s x A known le = subst (NoneBy s) (sym (ap said (records-history A))) (by (is_day x) (is_tick x) (target (x ∷ A) x) refl) where
  h : List Event
  h = Accepted x ∷ history A

  said_by : List Record → Bool → Bool → Option ℕ → List Message
  said_by B day tick id = cond day [] (cond tick (market_part x h ++ parts x (listed_ids (x ∷ B)) (publish (market_part x h) h)) (option_map_or (λ k. own_part x (named (x ∷ B) k) h) id []))

  said : List Record → List Message
  said B = said_by B (is_day x) (is_tick x) (target (x ∷ B) x)

  apart : (a b n : ℕ) → a < n → n ≤ b → (a == b) ≡ false
  apart a b n lt le = grind (arith, nat_tests)

  by : (day tick : Bool) (id : Option ℕ) → target (x ∷ A) x ≡ id → NoneBy s (said_by A day tick id)
  by true tick id e = tt
  by false true id e =
      NoneBy-append s (market_part x h) (parts x (listed_ids (x ∷ A)) (publish (market_part x h) h)) (by_market s (market_part x h) (market_part-by x h))
      (parts-below x (is_listed (x ∷ A)) (length (names (x ∷ A))) s (publish (market_part x h) h) le)
  by false false None e = tt
  by false false (Some k) e = by_other s k (own_part x (named (x ∷ A) k) h) (apart k s (length (names (x ∷ A))) (target-within x A known k e) le) (own_part-by x (named (x ∷ A) k) h)

pub known-silent : (A : List Record) (s : ℕ) → AllKnown A → length (names A) ≤ s → SaysNothing (named A s).own s (history A)
known-silent [] s known le = tt
known-silent (x ∷ A) s known le =
    subst (SaysNothing (named (x ∷ A) s).own s) (sym (step-part x (history A)))
    (says-on (named A s).own (named (x ∷ A) s).own s x (record_part x (Accepted x ∷ history A)) (history A) (agree-before x A s)
    (of_another A x s (others (target (x ∷ A) x) refl)) (none-said s x A known.0 le) (known-silent A s known.1 (let grown = names-grow x A in omega arith)))
  where
    apart : (a b n : ℕ) → a < n → n ≤ b → (a == b) ≡ false
    apart a b n lt le = grind (arith, nat_tests)

    others : (o : Option ℕ) → target (x ∷ A) x ≡ o → option_map_or (λ id. id == s) o false ≡ false
    others None e = refl
    others (Some k) e = apart k s (length (names (x ∷ A))) (target-within x A known.0 k e) le

-- A market.

-- a market in which nothing was said since the day of a base began
pub record IsFresh (kept : MarketState) (x : Record) (directory : List (List ℕ)) (carried : List ℕ) : Type 0 where
  pub directory_is : kept.directory ≡ directory
  pub today_is : kept.today ≡ today_led x None
  pub symbols : AreFresh carried (length directory) kept.symbols

history-day : (x : Record) (A : List Record) → is_day x ≡ true → history (x ∷ A) ≡ Accepted x ∷ history A
history-day x A = by_listing (λ x. is_day x ≡ true → history (x ∷ A) ≡ Accepted x ∷ history A) (λ t d c is. refl) (λ t n k l c is. absurd (true≢false (sym is))) (λ y o is. absurd (true≢false (sym is ∙ o.no_day))) x

pub today-fresh : (x : Record) (A : List Record) → is_day x ≡ true → today_led x None ≡ option_map (day_of (x ∷ A)) (day_record (x ∷ A))
today-fresh x A = by_listing (λ x. is_day x ≡ true → today_led x None ≡ option_map (day_of (x ∷ A)) (day_record (x ∷ A)))
    (λ t day c is. refl) (λ t n k l c is. absurd (true≢false (sym is))) (λ y o is. absurd (true≢false (sym is ∙ o.no_day))) x

-- it stands for each list that ends with that day, has those names and carries those restrictions
pub fresh-represents : (kept : MarketState) (x : Record) (A : List Record) (carried : List ℕ) → is_day x ≡ true → IsFresh kept x (names (x ∷ A)) carried
    → ((s : ℕ) → is_carried (history (x ∷ A)) (named (x ∷ A) s).own s ≡ has carried s) → AllKnown (x ∷ A) → Represents kept (x ∷ A)
fresh-represents kept x A carried begins is carries known = record {
  directory = is.directory_is;
  today = is.today_is ∙ today-fresh x A begins;
  count = is.symbols.count_is;
  symbols = record {
    ids = λ s held e. ap (λ (k : Kept). k.id) (is.symbols.each s held e).kept;
    rests = λ s held e.
        subst (Rests (named (x ∷ A) s).own held) (sym (history-day x A begins))
        (rests-fresh (named (x ∷ A) s).own s (has carried s) held x (history A) (is.symbols.each s held e) begins (ap (λ (h : List Event). is_carried h (named (x ∷ A) s).own s) (sym (history-day x A begins)) ∙ carries s));
  };
  others = λ s le. known-silent (x ∷ A) s known le;
}

-- So it is of a base: what is restored from one stands for each lawful list with that base, and for the base's stand-in.
pub base-represents : (b : Base) (kept : MarketState) (A : List Record) (capacity : ℕ) → base_of A ≡ Some b → IsLawful capacity A → IsFresh kept b.day b.names b.carried → Represents kept A
base-represents b kept A capacity e lawful is =
    let of_it = is_base A b e in
    let same = of_it.list in
    subst (Represents kept) (sym same)
    (fresh-represents kept b.day of_it.earlier b.carried of_it.begins (subst (λ ns. IsFresh kept b.day ns b.carried) (of_it.names_are ∙ ap names same) is)
    (λ s. subst (λ (B : List Record). carries B s ≡ has b.carried s) same (carries-is A s ∙ carried-is A s ∙ ap (λ ids. has ids s) (sym of_it.carried_are)))
    (subst AllKnown same (lawful-known capacity A lawful)))

pub stand_in-represents : (b : Base) (kept : MarketState) → IsInRange b → IsFresh kept b.day b.names b.carried → Represents kept (stand_in b)
stand_in-represents b kept range is =
    fresh-represents kept b.day _ b.carried range.begins (subst (λ ns. IsFresh kept b.day ns b.carried) (sym (names-stand_in b range.begins range.different)) is)
    (λ s. carries-is (stand_in b) s ∙ carried-stand_in b s range.begins range.different range.below) (known-stand_in b range)

-- The market's part of it.

leads-day : (kept : LeadState) (x : Record) (A : List Record) → is_day x ≡ true → kept.directory ≡ names (x ∷ A) → kept.today ≡ today_led x None → IsLed kept (x ∷ A)
leads-day kept x A begins directory today = record { directory = directory; today = today ∙ today-fresh x A begins }

pub base-led : (b : Base) (kept : LeadState) (A : List Record) → base_of A ≡ Some b → kept ≡ record { directory = b.names; today = today_led b.day None } → IsLed kept A
base-led b kept A e is =
    let of_it = is_base A b e in
    let same = of_it.list in
    subst (IsLed kept) (sym same)
    (leads-day kept b.day of_it.earlier of_it.begins (ap (λ (lead : LeadState). lead.directory) is ∙ of_it.names_are ∙ ap names same) (ap (λ (lead : LeadState). lead.today) is))

pub stand_in-led : (b : Base) (kept : LeadState) → IsInRange b → kept ≡ record { directory = b.names; today = today_led b.day None } → IsLed kept (stand_in b)
stand_in-led b kept range is =
    leads-day kept b.day _ range.begins (ap (λ (lead : LeadState). lead.directory) is ∙ sym (names-stand_in b range.begins range.different)) (ap (λ (lead : LeadState). lead.today) is)

-- Its admission.

none_after : (begun n : ℕ) → map (nat_lt begun) (replicate n 0) ≡ map (λ _. false) (replicate {A = ℕ} n 0)
none_after begun zero = refl
none_after begun (suc n) = (λ i. before i ∷ none_after begun n i) where
  before : nat_lt begun 0 ≡ false
  before = grind (arith, nat_tests)

day-behind : (x : Record) (A : List Record) → is_day x ≡ true → last_day (x ∷ []) ≡ last_day (x ∷ A)
day-behind x A = by_listing (λ x. is_day x ≡ true → last_day (x ∷ []) ≡ last_day (x ∷ A)) (λ t d c is. refl) (λ t n k l c is. absurd (true≢false (sym is))) (λ y o is. absurd (true≢false (sym is ∙ o.no_day))) x

none-listed : (x : Record) (A : List Record) (ns : List (List ℕ)) → is_day x ≡ true → map (λ _. false) ns ≡ map (is_listed_name (x ∷ A)) ns
none-listed x A ns = by_listing (λ x. is_day x ≡ true → map (λ _. false) ns ≡ map (is_listed_name (x ∷ A)) ns) (λ t d c is. refl) (λ t n k l c is. absurd (true≢false (sym is))) (λ y o is. absurd (true≢false (sym is ∙ o.no_day))) x

-- what an admission keeps that begins with a day alone
pub record BeginsDay (a : AdmissionState) (x : Record) (directory : List (List ℕ)) : Type 0 where
  pub day_is : a.day ≡ last_day (x ∷ [])
  pub begun_is : a.begun ≡ a.count
  pub last_is : a.last ≡ moment_of x
  pub directory_is : a.directory ≡ directory
  pub listed_is : a.listed ≡ replicate (length directory) 0

admits-day : (a : AdmissionState) (x : Record) (A : List Record) → is_day x ≡ true → BeginsDay a x (names (x ∷ A)) → Stands a (x ∷ A)
admits-day a x A begins is =
    let ns = names (x ∷ A) in
    record {
      day = is.day_is ∙ day-behind x A begins;
      last = is.last_is;
      directory = is.directory_is;
      listed = ap (map (nat_lt a.begun)) is.listed_is ∙ none_after a.begun (length ns)
          ∙ map-constant false (replicate {A = ℕ} (length ns) 0) ns (length-replicate (length ns) 0) ∙ none-listed x A ns begins;
      begun = omega (arith, is.begun_is);
      numbers = subst (All (λ number. number ≤ a.count)) (sym is.listed_is) (All-replicate (λ number. number ≤ a.count) (length ns) 0 (omega arith));
    }

pub base-admits : (b : Base) (a : AdmissionState) (A : List Record) → base_of A ≡ Some b → BeginsDay a b.day b.names → Stands a A
base-admits b a A e is =
    let of_it = is_base A b e in
    subst (Stands a) (sym of_it.list) (admits-day a b.day of_it.earlier of_it.begins (subst (BeginsDay a b.day) (of_it.names_are ∙ ap names of_it.list) is))

pub stand_in-admits : (b : Base) (a : AdmissionState) → IsInRange b → BeginsDay a b.day b.names → Stands a (stand_in b)
stand_in-admits b a range is = admits-day a b.day _ range.begins (subst (BeginsDay a b.day) (sym (names-stand_in b range.begins range.different)) is)

-- The base that a market gives.

get-within : (symbols : List SymbolState) (s : ℕ) → s < length symbols → (held : SymbolState) × (slice_get symbols s ≡ Some held)
get-within [] s lt = absurd (omega arith)
get-within (held ∷ symbols) zero lt = (held, refl)
get-within (held ∷ symbols) (suc s) lt = get-within symbols s (omega arith)

marked-is : (kept : MarketState) (A : List Record) (s : ℕ) → Represents kept A → s < length (names A) → is_marked kept.symbols s ≡ carries A s
marked-is kept A s stands lt =
    let found = get-within kept.symbols s (subst (λ (n : ℕ). s < n) (sym stands.count) lt) in
    ap (λ (o : Option SymbolState). option_map_or (λ held. held.kept.short.carried) o false) found.1
    ∙ (stands.symbols.rests s found.0 found.1).carried
    ∙ ap (λ (n : ℕ). is_carried (history A) (named A s).own n) (stands.symbols.ids s found.0 found.1)

filter-same : (p q : ℕ → Bool) (n : ℕ) → ((s : ℕ) → s < n → p s ≡ q s) → filter p (ids_below n) ≡ filter q (ids_below n)
filter-same p q zero e = refl
filter-same p q (suc n) e =
    filter-append p (ids_below n) (n ∷ []) ∙ (λ i. filter-same p q n (λ s lt. e s (omega arith)) i ++ cond (e n (omega arith) i) (n ∷ []) []) ∙ sym (filter-append q (ids_below n) (n ∷ []))

-- the ids below one more
marked_more : (symbols : List SymbolState) (n : ℕ) (b : Bool) → is_marked symbols n ≡ b
    → filter (is_marked symbols) (ids_below (suc n)) ≡ filter (is_marked symbols) (ids_below n) ++ cond b (n ∷ []) []
marked_more symbols n b e = filter-append (is_marked symbols) (ids_below n) (n ∷ []) ∙ ap (λ (m : Bool). filter (is_marked symbols) (ids_below n) ++ cond m (n ∷ []) []) e

next-below : (symbols : List SymbolState) (n : ℕ) → filter (is_marked symbols) (ids_below (n + 1)) ≡ filter (is_marked symbols) (ids_below (suc n))
next-below symbols n = let next : n + 1 ≡ suc n = omega arith in ap (λ (k : ℕ). filter (is_marked symbols) (ids_below k)) next

pub marked_yes : (symbols : List SymbolState) (n : ℕ) → is_marked symbols n ≡ true → filter (is_marked symbols) (ids_below (n + 1)) ≡ filter (is_marked symbols) (ids_below n) ++ n ∷ []
marked_yes symbols n e = next-below symbols n ∙ marked_more symbols n true e

pub marked_no : (symbols : List SymbolState) (n : ℕ) → is_marked symbols n ≡ false → filter (is_marked symbols) (ids_below (n + 1)) ≡ filter (is_marked symbols) (ids_below n)
marked_no symbols n e = next-below symbols n ∙ marked_more symbols n false e ∙ append-nil (filter (is_marked symbols) (ids_below n))

pub marked_at : (symbols : List SymbolState) (n : ℕ) (held : SymbolState) → n < length symbols → held ≡ get_or symbols n held → is_marked symbols n ≡ held.kept.short.carried
marked_at symbols n held lt is = ap (λ (o : Option SymbolState). option_map_or (λ h. h.kept.short.carried) o false) (slice_get_read symbols (length symbols) n held refl lt is)

pub base-of-kept : (kept : MarketState) (A earlier : List Record) (x : Record) (count messages : ℕ) → Represents kept A → A ≡ x ∷ earlier → is_day x ≡ true → count ≡ length A → messages ≡ length (messages_of A)
    → base_of A ≡ Some (record { records = count; messages = messages; day = x; names = kept.directory; carried = filter (is_marked kept.symbols) (ids_below (length kept.symbols)) })
base-of-kept kept A earlier x count messages stands last begins count_is messages_are =
    ap base_of last
    ∙ ap (λ b. cond b (Some (base_at (length (x ∷ earlier)) (length (messages_of (x ∷ earlier))) (names (x ∷ earlier)) (carried_ids (x ∷ earlier)))) None) begins
    ∙ ap (λ (B : List Record). Some (base_at (length B) (length (messages_of B)) (names B) (carried_ids B))) (sym last)
    ∙ (λ i. Some (base_at (sym count_is i) (sym messages_are i) (sym stands.directory i) (carried i)))
  where
    base_at : ℕ → ℕ → List (List ℕ) → List ℕ → Base
    base_at n m ns ids = record { records = n; messages = m; day = x; names = ns; carried = ids }

    carried : carried_ids A ≡ filter (is_marked kept.symbols) (ids_below (length kept.symbols))
    carried =
        sym (filter-same (is_marked kept.symbols) (carries A) (length (names A)) (λ s lt. marked-is kept A s stands lt))
        ∙ ap (λ (n : ℕ). filter (is_marked kept.symbols) (ids_below n)) (sym stands.count)

-- one more stock at the day of a base
pub fresh-push : (ids : List ℕ) (n : ℕ) (symbol : SymbolState) (old new : List SymbolState) → new ≡ old ++ symbol ∷ [] → symbols.IsFresh n (has ids n) symbol → AreFresh ids n old → AreFresh ids (n + 1) new
fresh-push ids n symbol old new pushed fresh before = subst (AreFresh ids (n + 1)) (sym pushed) (record {
  count_is = omega (arith, length-append old (symbol ∷ []), before.count_is);
  each = λ s held e. by s held e (nat_le (length old) s) refl;
}) where
  at_least : (a b : ℕ) → nat_le a b ≡ true → a ≤ b
  at_least a b e = grind (arith, nat_tests)

  less : (a b : ℕ) → nat_le a b ≡ false → b < a
  less a b e = grind (arith, nat_tests)

  by : (s : ℕ) (held : SymbolState) → slice_get (old ++ symbol ∷ []) s ≡ Some held → (b : Bool) → nat_le (length old) s ≡ b → symbols.IsFresh s (has ids s) held
  by s held e true behind =
      let at = get-last old symbol held s (at_least (length old) s behind) e in
      let index : s ≡ n = at.0 ∙ before.count_is in
      subst (λ (k : ℕ). symbols.IsFresh k (has ids k) held) (sym index) (subst (symbols.IsFresh n (has ids n)) (sym at.1) fresh)
  by s held e false within = before.each s held (sym (get-before old symbol s (less (length old) s within)) ∙ e)

pub fresh-none : (ids : List ℕ) (symbols : List SymbolState) → symbols ≡ [] → AreFresh ids 0 symbols
fresh-none ids symbols none = subst (AreFresh ids 0) (sym none) (record { count_is = refl; each = λ s held e. absurd cc })

-- Rising ids are searched.

any_at : (xs : List ℕ) (x i : ℕ) → i < length xs → get_or xs i 0 ≡ x → list_any (λ t. t == x) xs ≡ true
any_at [] x i lt is = absurd (omega (arith, lt))
any_at (y ∷ xs) x zero lt is = ap (λ (b : Bool). b || list_any (λ t. t == x) xs) (same y x is) where
  same : (a b : ℕ) → a ≡ b → (a == b) ≡ true
  same a b e = grind (arith, nat_tests)
any_at (y ∷ xs) x (suc i) lt is = ap (λ (b : Bool). (y == x) || b) (any_at xs x i (omega (arith, lt)) is) ∙ or-true (y == x) where
  or-true : (b : Bool) → (b || true) ≡ true
  or-true true = refl
  or-true false = refl

none_at : (xs : List ℕ) (x : ℕ) → ((i : ℕ) → i < length xs → get_or xs i 0 ≢ x) → list_any (λ t. t == x) xs ≡ false
none_at [] x none = refl
none_at (y ∷ xs) x none = (λ i. other y x (none 0 (omega arith)) i || none_at xs x (λ j lt. none (suc j) (omega (arith, lt))) i) where
  other : (a b : ℕ) → a ≢ b → (a == b) ≡ false
  other a b ne = grind (arith, nat_tests)

rises : (xs : List ℕ) → AreRising xs → (i j : ℕ) → i ≤ j → j < length xs → get_or xs i 0 ≤ get_or xs j 0
rises [] rising i j le lt = absurd (omega (arith, lt))
rises (x ∷ xs) rising zero zero le lt = omega arith
rises (x ∷ xs) rising zero (suc j) le lt = let more = All-get_or (λ t. x < t) xs j 0 (omega (arith, lt)) rising.0 in omega (arith, more)
rises (x ∷ xs) rising (suc i) zero le lt = absurd (omega (arith, le))
rises (x ∷ xs) rising (suc i) (suc j) le lt = rises xs rising.1 i j (omega (arith, le)) (omega (arith, lt))

pub found : (ids : List ℕ) (id : ℕ) (r : Result ℕ ℕ) → IsBinarySearchResult (λ y. nat_cmp y id) ids r → AreRising ids → is_ok r ≡ list_any (λ t. t == id) ids
found ids id r is rising = by r (searched ids id r is (rises ids rising)) where
  by : (r : Result ℕ ℕ) → MatchResult r (λ i. (i < length ids) × (get_or ids i 0 ≡ id)) (λ i. (i ≤ length ids) × ((k : ℕ) → k < i → get_or ids k 0 < id) × ((k : ℕ) → i ≤ k → k < length ids → id < get_or ids k 0))
      → is_ok r ≡ list_any (λ t. t == id) ids
  by (Ok i) at = sym (any_at ids id i at.0 at.1)
  by (Err i) apart = sym (none_at ids id (λ k lt is. side k lt is (nat_le i k) refl)) where
    side : (k : ℕ) → k < length ids → get_or ids k 0 ≡ id → (b : Bool) → nat_le i k ≡ b → ⊥
    side k lt is true le = let above = apart.2 k (grind (arith, nat_tests)) lt in omega (arith, above, is)
    side k lt is false le = let below = apart.1 k (grind (arith, nat_tests)) in omega (arith, below, is)

-- Names that are new.

none : {X : Type 0} (o : Option X) → is_some o ≡ false → o ≡ None
none None e = refl
none (Some x) e = absurd (true≢false e)

new-at : (before ns : List (List ℕ)) (i : ℕ) (name : List ℕ) → AreNew before ns → slice_get ns i ≡ Some name → list_any (bytes_eq name) (before ++ take i ns) ≡ false
new-at before [] i name new e = absurd cc
new-at before (n ∷ ns) zero name new e = let same : n ≡ name = cc in ap (λ (l : List (List ℕ)). list_any (bytes_eq name) l) (append-nil before) ∙ subst (λ (m : List ℕ). list_any (bytes_eq m) before ≡ false) same new.0
new-at before (n ∷ ns) (suc i) name new e = ap (λ (l : List (List ℕ)). list_any (bytes_eq name) l) (sym (append_assoc before (n ∷ []) (take i ns))) ∙ new-at (before ++ n ∷ []) ns i name new.1 e

pub is_new : (ns : List (List ℕ)) (i : ℕ) (name : List ℕ) → AreNew [] ns → slice_get ns i ≡ Some name → position (bytes_eq name) (take i ns) ≡ None
is_new ns i name new e = none (position (bytes_eq name) (take i ns)) (is_some-position (bytes_eq name) (take i ns) ∙ new-at [] ns i name new e)
