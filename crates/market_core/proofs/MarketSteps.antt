-- All symbols of a market at a record of no symbol: a day, a clock or an index tick.
use Rattle.std.proofs.Common.{◌≡◌, ◌≢◌, ℕ, zero, suc, ◌<◌, ◌≤◌, Bool, true, false, cond, List, [], ◌∷◌, ◌++◌, Some, is_some, not, refl, sym, ap, subst, ◌∙◌, append_assoc, arith}
use Rattle.std.specs.Prelude.{◌&&◌, ◌==◌, filter, slice_get}
use Rattle.std.specs.Option.{option_map_or}
use Rattle.std.proofs.lemmas.List.{append-nil, map-append}
use Rattle.std.proofs.lemmas.List.Elements.{filter-append}
use Rattle.session_core.specs.declared.day.Day.{Day}
use Rattle.wire_in.specs.declared.record.Record.{Record}
use Rattle.wire_in.specs.declared.record.Record.TheVariants as in_
use Rattle.wire_in.specs.Records.{moment_of, is_tick, name_of}
use Rattle.wire_in.proofs.RecordKinds.{tick as only_ticks}
use Rattle.wire_out.specs.declared.message.Message.{Message}
use Rattle.wire_out.specs.declared.message.Stamped.{Stamped}
use Rattle.rulebook.specs.declared.event.Event.{Event}
use Rattle.rulebook.specs.declared.event.Event.TheVariants.{Accepted}
use Rattle.rulebook.specs.Admission.{is_listed}
use Rattle.rulebook.specs.Book.{Named, named, all_obeyed, announced, symbol_rules, ids_below, history}
use Rattle.rulebook.specs.History.{now, records, publish}
use Rattle.rulebook.specs.Market.{day_record, is_market_halted}
use Rattle.rulebook.specs.Symbol.{terms, terms_in}
use Rattle.rulebook.proofs.Histories.{part, parts, market_part, publish-append}
use Rattle.rulebook.proofs.Ids.{terms-listed}
use Rattle.rulebook.proofs.OtherRecords.{leaves}
use Rattle.rulebook.proofs.OfSymbol.{AllBy, NoneBy, NoneBy-append, by_market, by_other, all_obeyed-by, rules_speak, market_part-by, parts-append, parts-below, parts-of_symbols, market_halt-publish}
use Rattle.symbol_core.specs.declared.symbol.MarketView.{MarketView}
use Rattle.symbol_core.specs.Evaluates.{Opens, open_history, part_of}
use Rattle.symbol_core.specs.Rests.{Rests, SymbolState}
use Rattle.symbol_core.specs.Stands as symbol
use Rattle.market_core.specs.Applied.{AppendsAt, AppendsBelow}
use Rattle.market_core.specs.MarketState.{SymbolsRepresent}
use Rattle.market_core.specs.Ruled.{stamped}
use Rattle.market_core.proofs.Appending.{at_each}
use Rattle.market_core.proofs.RecordsOfOthers.{rests-publish}
use Rattle.market_core.proofs.OwnSteps.{opened, records-opened, part-on, same_named, Begun, ready, apart_ids, swap_ids}

-- the open step of a tick after the market-wide rules
abbrev pub ruled_history : Record → List Record → List Event
ruled_history x A = publish (market_part x (opened x A)) (opened x A)

-- what the listed symbols of the ids below n publish then
abbrev pub parts_to : ℕ → Record → List Record → List Message
parts_to n x A = parts x (filter (is_listed (x ∷ A)) (ids_below n)) (ruled_history x A)

abbrev pub history_to : ℕ → Record → List Record → List Event
history_to n x A = publish (parts_to n x A) (ruled_history x A)

-- all that the step has published before the symbol of an id
abbrev pub before_id : ℕ → Record → List Record → List Message
before_id n x A = market_part x (opened x A) ++ parts_to n x A

pub history-before : (n : ℕ) (x : Record) (A : List Record) → publish (before_id n x A) (opened x A) ≡ history_to n x A
history-before n x A = publish-append (market_part x (opened x A)) (parts_to n x A) (opened x A)

-- and it says nothing of a symbol from n on
pub none-before : (n s : ℕ) (x : Record) (A : List Record) → n ≤ s → NoneBy s (before_id n x A)
none-before n s x A le =
    NoneBy-append s (market_part x (opened x A)) (parts_to n x A) (by_market s (market_part x (opened x A)) (market_part-by x (opened x A)))
    (parts-below x (is_listed (x ∷ A)) n s (ruled_history x A) le)

-- What one symbol publishes.

abbrev pub said_if : Bool → Day → Named → Record → List Event → List Message
said_if listed day s x h = cond listed (all_obeyed day s x symbol_rules h) []

pub said_if-own : (listed : Bool) (day : Day) (s : Named) (x : Record) (h : List Event) → AllBy (Some s.symbol) (said_if listed day s x h)
said_if-own true day s x h = all_obeyed-by day s x symbol_rules h rules_speak
said_if-own false day s x h = tt

said_if-by : (listed : Bool) (day : Day) (s : Named) (x : Record) (h : List Event) (k : ℕ) → (s.symbol == k) ≡ false → NoneBy k (said_if listed day s x h)
said_if-by listed day s x h k apart = by_other k s.symbol (said_if listed day s x h) apart (said_if-own listed day s x h)

-- the market tick of a known day
pub record Ticked (x : Record) (A : List Record) (d : Day × ℕ) (market : MarketView) : Type 0 where
  pub tick : is_tick x ≡ true
  pub on : day_record A ≡ Some d
  pub day : market.day ≡ d.0
  pub stopped : market.stopped ≡ is_market_halted (ruled_history x A)
  pub later : now (history A) ≤ moment_of x

pub tick_name : (own : List ℕ → Bool) (x : Record) → is_tick x ≡ true → option_map_or own (name_of x) true ≡ true
tick_name own x e = ap (λ o. option_map_or own o true) (only_ticks x e).other.no_name

tick_announces : (s : Named) (x : Record) (h : List Event) → is_tick x ≡ true → announced s x h ≡ []
tick_announces s x h e = (leaves x [] (only_ticks x e).other).announces s h

pub part_of-tick : (day : Day) (s : Named) (x : Record) (h : List Event) (listed : Bool) → is_tick x ≡ true → is_some (terms h s.own) ≡ listed → part_of day s x h ≡ said_if listed day s x h
part_of-tick day s x h listed e is =
    (λ i. cond (e i && not (is i)) [] (tick_announces s x h e i ++ all_obeyed day s x symbol_rules (publish (tick_announces s x h e i) h))) ∙ by listed
  where
    by : (b : Bool) → cond (not b) [] (all_obeyed day s x symbol_rules h) ≡ said_if b day s x h
    by true = refl
    by false = refl

-- a symbol has terms where it is listed
pub listed-open : (ms : List Message) (x : Record) (A : List Record) (s : ℕ) → is_some (terms (publish ms (opened x A)) (named (x ∷ A) s).own) ≡ is_listed (x ∷ A) s
listed-open ms x A s = ap (λ (B : List Record). is_some (terms_in (named (x ∷ A) s).own B)) (records-opened ms x A) ∙ terms-listed (x ∷ A) s

said-tick : (x : Record) (A : List Record) (d : Day × ℕ) (market : MarketView) (n id : ℕ) → Ticked x A d market → id ≡ n
    → part_of market.day (symbol.named (named (x ∷ A) n).own id) x (open_history x (before_id n x A) (history A)) ≡ said_if (is_listed (x ∷ A) n) d.0 (named (x ∷ A) n) x (history_to n x A)
said-tick x A d market n id k is =
    let S = named (x ∷ A) n in
    let h = publish (before_id n x A) (opened x A) in
    (λ i. part_of (k.day i) (same_named x A id n is i) x h)
    ∙ part_of-tick d.0 S x h (is_listed (x ∷ A) n) k.tick (listed-open (before_id n x A) x A n)
    ∙ ap (λ (g : List Event). said_if (is_listed (x ∷ A) n) d.0 S x g) (history-before n x A)

-- and one more symbol's part of the step
pub parts-more : (x : Record) (A : List Record) (d : Day × ℕ) (market : MarketView) (n : ℕ) → Ticked x A d market
    → parts_to (suc n) x A ≡ parts_to n x A ++ said_if (is_listed (x ∷ A) n) d.0 (named (x ∷ A) n) x (history_to n x A)
parts-more x A d market n k =
    let listed = is_listed (x ∷ A) in
    ap (λ ids. parts x ids (ruled_history x A)) (filter-append listed (ids_below n) (n ∷ []))
    ∙ parts-append x (filter listed (ids_below n)) (filter listed (n ∷ [])) (ruled_history x A)
    ∙ ap (λ (ms : List Message). parts_to n x A ++ ms) (by (listed n))
  where
    records_are : records (history_to n x A) ≡ x ∷ A
    records_are = ap records (sym (history-before n x A)) ∙ records-opened (before_id n x A) x A

    one : part x (named (records (history_to n x A)) n) (history_to n x A) ≡ all_obeyed d.0 (named (x ∷ A) n) x symbol_rules (history_to n x A)
    one =
        ap (λ (B : List Record). part x (named B n) (history_to n x A)) records_are
        ∙ ap (λ (h : List Event). part x (named (x ∷ A) n) h) (sym (history-before n x A))
        ∙ part-on x (named (x ∷ A) n) (before_id n x A) A d (only_ticks x k.tick).other.no_day k.on
        ∙ ap (λ (h : List Event). all_obeyed d.0 (named (x ∷ A) n) x symbol_rules h) (history-before n x A)

    by : (b : Bool) → parts x (cond b (n ∷ []) []) (history_to n x A) ≡ said_if b d.0 (named (x ∷ A) n) x (history_to n x A)
    by true = append-nil (part x (named (records (history_to n x A)) n) (history_to n x A)) ∙ one
    by false = refl

-- the symbols of the ids below n have been evaluated
pub record ToldBelow (n : ℕ) (x : Record) (A : List Record) (new : List SymbolState) (before after : List Stamped) : Type 0 where
  pub items : after ≡ before ++ stamped (moment_of x) (parts_to n x A)
  pub ids : (k : ℕ) (held : SymbolState) → k < n → slice_get new k ≡ Some held → held.kept.id ≡ k
  pub rests : (k : ℕ) (held : SymbolState) → k < n → slice_get new k ≡ Some held → Rests (named (x ∷ A) k).own held (history_to n x A)

one_told : (n : ℕ) (x : Record) (A : List Record) (d : Day × ℕ) (market : MarketView) (old new : List SymbolState) (before middle after : List Stamped) → Ticked x A d market → SymbolsRepresent old A
    → AppendsAt n market x old new middle after → ToldBelow n x A new before middle → ToldBelow (suc n) x A new before after
one_told n x A d market old new before middle after tick stand at told =
    record {
      items = at.appends.items ∙ ap (λ (ms : List Message). middle ++ stamped t ms) said_is ∙ ap (λ (ms : List Stamped). ms ++ stamped t said) told.items
          ∙ append_assoc before (stamped t (parts_to n x A)) (stamped t said)
          ∙ ap (λ (ms : List Stamped). before ++ ms) (sym (map-append _ (parts_to n x A) said) ∙ ap (stamped t) (sym more));
      ids = λ k held below e. at_each (λ k held. k < suc n → held.kept.id ≡ k) n at.is new at.left (λ here. at.appends.evaluates.id ∙ id_is)
          (λ k held apart e below. let ne : k ≢ n = apart_ids k n apart in told.ids k held (omega arith) e) k held e below;
      rests = λ k held below e. subst (Rests (named (x ∷ A) k).own held) (sym history_more)
          (at_each (λ k held. k < suc n → Rests (named (x ∷ A) k).own held (publish said (history_to n x A))) n at.is new at.left (λ here. own_rests)
          rests_other k held e below);
    }
  where
    t : ℕ
    t = moment_of x

    S : Named
    S = named (x ∷ A) n

    said : List Message
    said = said_if (is_listed (x ∷ A) n) d.0 S x (history_to n x A)

    more : parts_to (suc n) x A ≡ parts_to n x A ++ said
    more = parts-more x A d market n tick

    history_more : history_to (suc n) x A ≡ publish said (history_to n x A)
    history_more = ap (λ (ms : List Message). publish ms (ruled_history x A)) more ∙ publish-append (parts_to n x A) said (ruled_history x A)

    id_is : at.was.kept.id ≡ n
    id_is = stand.ids n at.was at.found

    begun : Begun x A d market (before_id n x A)
    begun = record {
      no_day = (only_ticks x tick.tick).other.no_day;
      on = tick.on;
      day = tick.day;
      stopped = tick.stopped ∙ sym (ap is_some (market_halt-publish (parts_to n x A) (ruled_history x A) (parts-of_symbols x (filter (is_listed (x ∷ A)) (ids_below n)) (ruled_history x A)))) ∙ ap is_market_halted (sym (history-before n x A));
      later = tick.later;
    }

    opens : Opens S.own at.was market x (before_id n x A) (history A)
    opens = ready x A d market n at.was (before_id n x A) begun (none-before n n x A (omega arith)) id_is (tick_name S.own x tick.tick) (stand.rests n at.was at.found)

    said_is : at.appends.said ≡ said
    said_is = at.appends.evaluates.says S.own (before_id n x A) (history A) opens ∙ said-tick x A d market n at.was.kept.id tick id_is

    own_rests : Rests S.own at.is (publish said (history_to n x A))
    own_rests =
        subst (λ (h : List Event). Rests S.own at.is (publish said h)) (history-before n x A)
        (subst (λ (ms : List Message). Rests S.own at.is (publish ms (publish (before_id n x A) (opened x A)))) (said-tick x A d market n at.was.kept.id tick id_is)
        (at.appends.evaluates.rests S.own (before_id n x A) (history A) opens))

    rests_other : (k : ℕ) (held : SymbolState) → (k == n) ≡ false → slice_get new k ≡ Some held → k < suc n
        → Rests (named (x ∷ A) k).own held (publish said (history_to n x A))
    rests_other k held apart e below =
        let ne : k ≢ n = apart_ids k n apart in
        rests-publish (named (x ∷ A) k).own held said (history_to n x A)
        (subst (λ (j : ℕ). NoneBy j said) (sym (told.ids k held (omega arith) e))
        (said_if-by (is_listed (x ∷ A) n) d.0 S x (history_to n x A) k (swap_ids k n apart))) (told.rests k held (omega arith) e)

pub told_below : (n : ℕ) (x : Record) (A : List Record) (d : Day × ℕ) (market : MarketView) (old new : List SymbolState) (before after : List Stamped) → Ticked x A d market → SymbolsRepresent old A
    → AppendsBelow n market x old new before after → ToldBelow n x A new before after
told_below zero x A d market old new before after tick stand unsaid =
    record { items = unsaid ∙ sym (append-nil before); ids = λ k held below e. absurd (omega arith); rests = λ k held below e. absurd (omega arith) }
told_below (suc n) x A d market old new before after tick stand (middle, earlier, at) =
    one_told n x A d market old new before middle after tick stand at (told_below n x A d market old new before middle tick stand earlier)

-- At a day each symbol begins it, and says nothing.

pub record DayBelow (n t : ℕ) (day : Day) (close : ℕ) (A : List Record) (new : List SymbolState) (before after : List Stamped) : Type 0 where
  pub items : after ≡ before
  pub ids : (k : ℕ) (held : SymbolState) → k < n → slice_get new k ≡ Some held → held.kept.id ≡ k
  pub rests : (k : ℕ) (held : SymbolState) → k < n → slice_get new k ≡ Some held → Rests (named A k).own held (Accepted (in_.Day t day close) ∷ history A)

one_day : (n t : ℕ) (day : Day) (close : ℕ) (A : List Record) (market : MarketView) (old new : List SymbolState) (before middle after : List Stamped) → SymbolsRepresent old A
    → AppendsAt n market (in_.Day t day close) old new middle after → DayBelow n t day close A new before middle → DayBelow (suc n) t day close A new before after
one_day n t day close A market old new before middle after stand at told =
    record {
      items = at.appends.items ∙ ap (λ (ms : List Message). middle ++ stamped t ms) (at.appends.evaluates.says_no_day refl) ∙ append-nil middle ∙ told.items;
      ids = λ k held below e. at_each (λ k held. k < suc n → held.kept.id ≡ k) n at.is new at.left
          (λ here. at.appends.evaluates.id ∙ stand.ids n at.was at.found)
          (λ k held apart e below. let ne : k ≢ n = apart_ids k n apart in told.ids k held (omega arith) e) k held e below;
      rests = λ k held below e. at_each (λ k held. k < suc n → Rests (named A k).own held (Accepted (in_.Day t day close) ∷ history A)) n at.is new at.left
          (λ here. at.appends.evaluates.begins refl (named A n).own (history A) (stand.rests n at.was at.found))
          (λ k held apart e below. let ne : k ≢ n = apart_ids k n apart in told.rests k held (omega arith) e) k held e below;
    }

pub day_below : (n t : ℕ) (day : Day) (close : ℕ) (A : List Record) (market : MarketView) (old new : List SymbolState) (before after : List Stamped) → SymbolsRepresent old A
    → AppendsBelow n market (in_.Day t day close) old new before after → DayBelow n t day close A new before after
day_below zero t day close A market old new before after stand unsaid = record { items = unsaid; ids = λ k held below e. absurd (omega arith); rests = λ k held below e. absurd (omega arith) }
day_below (suc n) t day close A market old new before after stand (middle, earlier, at) =
    one_day n t day close A market old new before middle after stand at (day_below n t day close A market old new before middle stand earlier)
