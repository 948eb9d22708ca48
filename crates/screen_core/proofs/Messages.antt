-- What a record publishes: of which symbols, and how many messages of each.
use Rattle.std.proofs.Common.{◌≡◌, ℕ, zero, suc, ◌+◌, ◌*◌, ◌<◌, ◌≤◌, Bool, true, false, cond, List, [], ◌∷◌, ◌++◌, length, Option, Some, None, refl, sym, ap, subst, ◌∙◌, arith}
use Rattle.std.specs.Prelude.{All, filter, ◌==◌, if◌then◌else◌}
use Rattle.std.specs.Option.{option_map_or}
use Rattle.std.proofs.lemmas.Bool.Decides.{nat_tests}
use Rattle.std.proofs.lemmas.List.{map-append}
use Rattle.std.proofs.lemmas.List.Elements.{All-nil, All-cons, All-head, All-tail, All-append, filter-append}
use Rattle.std.proofs.lemmas.Option.{slice_get_within}
use Rattle.wire_in.specs.declared.record.Record.{Record}
use Rattle.wire_in.specs.Records.{moment_of, is_day, is_tick, name_of, symbol_of}
use Rattle.wire_out.specs.declared.message.Message.{Message}
use Rattle.wire_out.specs.declared.message.Message.TheVariants as out
use Rattle.wire_out.specs.declared.message.Stamped.{Stamped}
use Rattle.rulebook.specs.declared.event.Event.{Event}
use Rattle.rulebook.specs.declared.event.Event.TheVariants.{Accepted}
use Rattle.rulebook.specs.Admission.{IsLawful, id_of, is_listed, most_names, names}
use Rattle.rulebook.specs.Book as book
use Rattle.rulebook.specs.Book.{history, ids_below, listed_ids, named, newest_messages, target}
use Rattle.rulebook.specs.History.{publish, records}
use Rattle.rulebook.proofs.Histories.{market_part, own_part, part, parts, record_part, records-history, stamped, step_messages-step, tick_part}
use Rattle.rulebook.proofs.Ids.{listed-below, name-at}
use Rattle.rulebook.proofs.Lawful.{few_names}
use Rattle.rulebook.proofs.OfSymbol.{AllBy, market_part-by, own_part-by, part-by, speaker}
use Rattle.rulebook.proofs.Sending.{messages_of-more}
use Rattle.rulebook.proofs.StandIn.{ids-within}
use Rattle.market_core.proofs.Applying.{is_known}
use Rattle.board_core.specs.Entries.{is_of, messages_of}
use Rattle.board_core.specs.Seats.{IsOn, IsWhole}
use Rattle.screen_core.specs.Screened.{said}
use Rattle.screen_core.specs.InternalDesk.{CanPublish, said_in}
use Rattle.screen_core.proofs.Few.{IsFew, market-few, own-few, part-few}

-- Messages of one symbol.

pub count-append : (s : ℕ) (a b : List Message) → messages_of s (a ++ b) ≡ messages_of s a + messages_of s b
count-append s [] b = omega arith
count-append s (m ∷ a) b = omega (arith, count-append s a b)

-- a message is of the symbol that it speaks of
is_of-speaker : (s : ℕ) (m : Message) → is_of s m ≡ option_map_or (λ id. id == s) (speaker m) false
is_of-speaker s (out.Listed t name) = refl
is_of-speaker s (out.State t p) = refl
is_of-speaker s (out.Band t why reference lower upper) = refl
is_of-speaker s (out.Straddle t on) = refl
is_of-speaker s (out.Collar t round lower upper) = refl
is_of-speaker s (out.Release t price) = refl
is_of-speaker s (out.Short t kind) = refl
is_of-speaker s (out.Breaker level index) = refl
is_of-speaker s out.MarketResume = refl

on_id : (n s t : ℕ) → Some t ≡ Some s → s < n → t < n
on_id n s t e below = let same : t ≡ s = cc in omega arith

-- and on a board that has it
is_on : (n s : ℕ) (m : Message) → speaker m ≡ Some s → s < n → IsOn n m
is_on n s (out.Listed t name) e below = on_id n s t e below
is_on n s (out.State t p) e below = on_id n s t e below
is_on n s (out.Band t why reference lower upper) e below = on_id n s t e below
is_on n s (out.Straddle t on) e below = on_id n s t e below
is_on n s (out.Collar t round lower upper) e below = on_id n s t e below
is_on n s (out.Release t price) e below = on_id n s t e below
is_on n s (out.Short t kind) e below = on_id n s t e below
is_on n s (out.Breaker level index) e below = tt
is_on n s out.MarketResume e below = tt

is_on_any : (n : ℕ) (m : Message) → speaker m ≡ None → IsOn n m
is_on_any n (out.Listed t name) e = absurd cc
is_on_any n (out.State t p) e = absurd cc
is_on_any n (out.Band t why reference lower upper) e = absurd cc
is_on_any n (out.Straddle t on) e = absurd cc
is_on_any n (out.Collar t round lower upper) e = absurd cc
is_on_any n (out.Release t price) e = absurd cc
is_on_any n (out.Short t kind) e = absurd cc
is_on_any n (out.Breaker level index) e = tt
is_on_any n out.MarketResume e = tt

-- messages of one symbol may be published
each_on : (n s : ℕ) (ms : List Message) → s < n → AllBy (Some s) ms → All IsWhole ms → All (CanPublish n) ms
each_on n s [] below by whole = All-nil (CanPublish n)
each_on n s (m ∷ ms) below by whole =
    All-cons (CanPublish n) m ms (record { on = is_on n s m by.0 below; whole = All-head IsWhole m ms whole })
    (each_on n s ms below by.1 (All-tail IsWhole m ms whole))

each_on_any : (n : ℕ) (ms : List Message) → AllBy None ms → All IsWhole ms → All (CanPublish n) ms
each_on_any n [] by whole = All-nil (CanPublish n)
each_on_any n (m ∷ ms) by whole =
    All-cons (CanPublish n) m ms (record { on = is_on_any n m by.0; whole = All-head IsWhole m ms whole })
    (each_on_any n ms by.1 (All-tail IsWhole m ms whole))

-- and are counted at it alone
abbrev times_one : ℕ → ℕ → ℕ
times_one s t = if t == s then 1 else 0

count_one : (k : ℕ) (b : Bool) (n : ℕ) → n ≤ k * (if b then 1 else 0) → (if b then 1 else 0) + n ≤ suc k * (if b then 1 else 0)
count_one k true n le = omega arith
count_one k false n le = omega arith

counted : (s t : ℕ) (ms : List Message) → AllBy (Some t) ms → messages_of s ms ≤ length ms * times_one s t
counted s t [] by = omega arith
counted s t (m ∷ ms) by =
    subst (λ (b : Bool). (if b then 1 else 0) + messages_of s ms ≤ suc (length ms) * times_one s t)
    (sym (is_of-speaker s m ∙ ap (λ (o : Option ℕ). option_map_or (λ id. id == s) o false) by.0))
    (count_one (length ms) (t == s) (messages_of s ms) (counted s t ms by.1))

counted_none : (s : ℕ) (ms : List Message) → AllBy None ms → messages_of s ms ≡ 0
counted_none s [] by = refl
counted_none s (m ∷ ms) by =
    let first = ap (λ (b : Bool). (if b then 1 else 0) + messages_of s ms) (is_of-speaker s m ∙ ap (λ (o : Option ℕ). option_map_or (λ id. id == s) o false) by.0) in
    let rest = counted_none s ms by.1 in
    omega (arith, first, rest)

at_most_one : (b : Bool) → (if b then 1 else 0) ≤ 1
at_most_one true = omega arith
at_most_one false = omega arith

within : (k l c n : ℕ) → n ≤ l * c → l ≤ k → n ≤ k * c
within k l zero n le few = omega (arith, le)
within k l (suc c) n le few = let rest = within k l c (l * c) (omega arith) few in omega (arith, le, rest, few)

-- How often an id stands in a list.

abbrev times : ℕ → List ℕ → ℕ
times s [] = 0
times s (t ∷ ids) = times_one s t + times s ids

times-append : (s : ℕ) (a b : List ℕ) → times s (a ++ b) ≡ times s a + times s b
times-append s [] b = omega arith
times-append s (t ∷ a) b = omega (arith, times-append s a b)

apart : (t s : ℕ) → t < s → times_one s t ≡ 0
apart t s lt = ap (λ (b : Bool). if b then 1 else 0) (different t s lt) where
  different : (t s : ℕ) → t < s → (t == s) ≡ false
  different t s lt = grind (arith, nat_tests)

times_kept : (p : ℕ → Bool) (n s : ℕ) → times s (filter p (n ∷ [])) ≤ times_one s n
times_kept p n s = by (p n) where
  by : (b : Bool) → times s (cond b (n ∷ []) []) ≤ times_one s n
  by true = omega arith
  by false = omega arith

times_more : (p : ℕ → Bool) (n s : ℕ) → times s (filter p (ids_below (suc n))) ≤ times s (filter p (ids_below n)) + times_one s n
times_more p n s =
    let e : times s (filter p (ids_below (suc n))) ≡ times s (filter p (ids_below n)) + times s (filter p (n ∷ [])) = ap (times s) (filter-append p (ids_below n) (n ∷ [])) ∙ times-append s (filter p (ids_below n)) (filter p (n ∷ [])) in
    let last = times_kept p n s in
    omega (arith, e, last)

times_below : (p : ℕ → Bool) (n s : ℕ) → n ≤ s → times s (filter p (ids_below n)) ≡ 0
times_below p zero s le = refl
times_below p (suc n) s le =
    let more = times_more p n s in
    let before = times_below p n s (omega arith) in
    let here = apart n s (omega arith) in
    omega (arith, more, before, here)

-- an id stands once at most among those below n that pass
times_once : (p : ℕ → Bool) (n s : ℕ) → times s (filter p (ids_below n)) ≤ 1
times_once p zero s = omega arith
times_once p (suc n) s = by (n == s) refl (times_once p n s) where
  same : (a b : ℕ) → (a == b) ≡ true → a ≡ b
  same a b e = grind (arith, nat_tests)

  by : (b : Bool) → (n == s) ≡ b → times s (filter p (ids_below n)) ≤ 1 → times s (filter p (ids_below (suc n))) ≤ 1
  by true e rest =
      let more = times_more p n s in
      let before = times_below p n s (let is = same n s e in omega (arith, is)) in
      let here = at_most_one (n == s) in
      omega (arith, more, before, here)
  by false e rest =
      let more = times_more p n s in
      let here : times_one s n ≡ 0 = ap (λ (b : Bool). if b then 1 else 0) e in
      omega (arith, more, rest, here)

-- The parts of a step.

-- on a board of so many symbols all may be published, and each symbol has so many of them at most
pub record IsFine (n k : ℕ) (ms : List Message) : Type 0 where
  pub each : All (CanPublish n) ms
  pub few : (s : ℕ) → messages_of s ms ≤ k

fine_none : (n k : ℕ) → IsFine n k []
fine_none n k = record { each = All-nil (CanPublish n); few = λ s. omega arith }

fine_one : (n k s : ℕ) (ms : List Message) → s < n → AllBy (Some s) ms → IsFew k ms → IsFine n k ms
fine_one n k s ms below by few = record {
  each = each_on n s ms below by few.whole;
  few = λ t.
      let most = within k (length ms) (times_one t s) (messages_of t ms) (counted t s ms by) few.few in
      let once = at_most_one (s == t) in
      in_all k (times_one t s) (messages_of t ms) most once;
} where
  in_all : (k c n : ℕ) → n ≤ k * c → c ≤ 1 → n ≤ k
  in_all k zero n le one = omega (arith, le)
  in_all k (suc zero) n le one = omega (arith, le)
  in_all k (suc (suc c)) n le one = absurd (omega (arith, one))

fine_all : (n : ℕ) (x : Record) (ids : List ℕ) (h : List Event) → All (λ s. s < n) ids → All (CanPublish n) (parts x ids h)
fine_all n x [] h below = All-nil (CanPublish n)
fine_all n x (s ∷ ids) h below =
    let ms = part x (named (records h) s) h in
    All-append (CanPublish n) ms (parts x ids (publish ms h))
    (each_on n s ms (All-head (λ s. s < n) s ids below) (part-by x (named (records h) s) h) (part-few x (named (records h) s) h).whole)
    (fine_all n x ids (publish ms h) (All-tail (λ s. s < n) s ids below))

count_all : (x : Record) (ids : List ℕ) (h : List Event) (t : ℕ) → messages_of t (parts x ids h) ≤ 13 * times t ids
count_all x [] h t = omega arith
count_all x (s ∷ ids) h t =
    let ms = part x (named (records h) s) h in
    let sum = count-append t ms (parts x ids (publish ms h)) in
    let first = within 13 (length ms) (times_one t s) (messages_of t ms) (counted t s ms (part-by x (named (records h) s) h)) (part-few x (named (records h) s) h).few in
    let rest = count_all x ids (publish ms h) t in
    omega (arith, sum, first, rest)

fine_tick : (n : ℕ) (x : Record) (h : List Event) → length (names (records h)) ≤ n → IsFine n 15 (tick_part x h)
fine_tick n x h few =
    let market = market_part x h in
    let ids = listed_ids (records h) in
    let stocks = parts x ids (publish market h) in
    record {
      each = All-append (CanPublish n) market stocks (each_on_any n market (market_part-by x h) (market-few x h).whole)
          (fine_all n x ids (publish market h) (ids-within (is_listed (records h)) (length (names (records h))) n few));
      few = λ s.
          let sum = count-append s market stocks in
          let none = counted_none s market (market_part-by x h) in
          let all = count_all x ids (publish market h) s in
          let once = times_once (is_listed (records h)) (length (names (records h))) s in
          omega (arith, sum, none, all, once);
    }

fine_record : (n : ℕ) (x : Record) (h : List Event) → length (names (records h)) ≤ n → ((s : ℕ) → target (records h) x ≡ Some s → s < n) → IsFine n 15 (record_part x h)
fine_record n x h few named_below = by (is_day x) (is_tick x) (target (records h) x) refl where
  by : (day tick : Bool) (id : Option ℕ) → target (records h) x ≡ id
      → IsFine n 15 (cond day [] (cond tick (tick_part x h) (option_map_or (λ s. own_part x (named (records h) s) h) id [])))
  by true tick id is = fine_none n 15
  by false true id is = fine_tick n x h few
  by false false None is = fine_none n 15
  by false false (Some s) is = fine_one n 15 s (own_part x (named (records h) s) h) (named_below s is) (own_part-by x (named (records h) s) h) (own-few x (named (records h) s) h)

-- A lawful list.

-- an admissible record is of a symbol that has a name
target_below : (capacity : ℕ) (A : List Record) (x : Record) → IsLawful capacity (x ∷ A) → (s : ℕ) → target (x ∷ A) x ≡ Some s → s < most_names
target_below capacity A x lawful s = by (name_of x) where
  by : (o : Option (List ℕ)) → elim o [ Some name ↦ id_of (x ∷ A) name | None ↦ symbol_of x ] ≡ Some s → s < most_names
  by (Some name) e =
      let there = slice_get_within (names (x ∷ A)) s name (name-at (x ∷ A) s name e) in
      let few = few_names capacity (x ∷ A) lawful in
      omega (arith, there, few)
  by None e =
      let there = listed-below A s (is_known capacity A x s lawful.0 e) in
      let few = few_names capacity A lawful.1 in
      omega (arith, there, few)

unstamped : (t : ℕ) (ms : List Message) → said_in (stamped t ms) ≡ ms
unstamped t [] = refl
unstamped t (m ∷ ms) = ap (λ (later : List Message). m ∷ later) (unstamped t ms)

-- what its newest record publishes
newest-part : (x : Record) (A : List Record) → said_in (newest_messages (x ∷ A)) ≡ record_part x (Accepted x ∷ history A)
newest-part x A = ap said_in (step_messages-step x (history A)) ∙ unstamped (moment_of x) (record_part x (Accepted x ∷ history A))

pub newest_fine : (capacity : ℕ) (x : Record) (A : List Record) → IsLawful capacity (x ∷ A) → IsFine most_names 15 (said_in (newest_messages (x ∷ A)))
newest_fine capacity x A lawful =
    let same : records (Accepted x ∷ history A) ≡ x ∷ A = ap (λ (B : List Record). x ∷ B) (records-history A) in
    subst (IsFine most_names 15) (sym (newest-part x A))
    (fine_record most_names x (Accepted x ∷ history A) (subst (λ (B : List Record). length (names B) ≤ most_names) (sym same) (few_names capacity (x ∷ A) lawful))
    (λ s e. target_below capacity A x lawful s (ap (λ (B : List Record). target B x) (sym same) ∙ e)))

pub said-more : (x : Record) (A : List Record) → said (x ∷ A) ≡ said A ++ said_in (newest_messages (x ∷ A))
said-more x A = ap said_in (messages_of-more x A) ∙ map-append (λ (m : Stamped). m.message) (book.messages_of A) (newest_messages (x ∷ A))

-- each record has at most 15 messages of a symbol
pub few_of_symbol : (capacity : ℕ) (A : List Record) → IsLawful capacity A → (s : ℕ) → messages_of s (said A) ≤ 15 * length A
few_of_symbol capacity [] lawful s = omega arith
few_of_symbol capacity (x ∷ A) lawful s =
    let sum : messages_of s (said (x ∷ A)) ≡ messages_of s (said A) + messages_of s (said_in (newest_messages (x ∷ A))) = ap (messages_of s) (said-more x A) ∙ count-append s (said A) (said_in (newest_messages (x ∷ A))) in
    let before = few_of_symbol capacity A lawful.1 s in
    let last = (newest_fine capacity x A lawful).few s in
    omega (arith, sum, before, last)
