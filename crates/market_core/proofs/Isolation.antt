-- What one symbol publishes among all others it publishes alone. The same kept state rests on the whole history and on the
-- symbol's own, record by record, so the rules give the same on both.
use Rattle.std.proofs.Common.{◌≡◌, ℕ, zero, suc, ◌<◌, ◌≤◌, Bool, true, false, cond, List, [], ◌∷◌, ◌++◌, length, Option, Some, None, Result, Ok, Err, is_some, not, refl, sym, ap, subst, ◌∙◌, append_assoc, true≢false, arith}
use Rattle.std.specs.Prelude.{OnOk, ◌&&◌, ◌==◌, ◌||◌, filter, nat_lt, max}
use Rattle.std.specs.Option.{option_map_or}
use Rattle.std.proofs.lemmas.Bool.Decides.{nat_tests}
use Rattle.std.proofs.lemmas.List.{append-nil}
use Rattle.std.proofs.lemmas.List.Elements.{filter-append}
use Rattle.price_core.specs.declared.error.NoMemory.{NoMemory}
use Rattle.session_core.specs.declared.day.Day.{Day}
use Rattle.wire_in.specs.declared.record.Record.{Record}
use Rattle.wire_in.specs.declared.record.Record.TheVariants as in_
use Rattle.wire_in.specs.Records.{moment_of, is_day, is_tick, name_of}
use Rattle.wire_in.proofs.RecordKinds.{IsOther, by_listing, by_tick, tick as only_ticks}
use Rattle.wire_out.specs.declared.message.Message.{Message}
use Rattle.wire_out.specs.declared.message.Message.TheVariants as out
use Rattle.wire_out.specs.declared.message.Stamped.{Stamped}
use Rattle.breaker_core.specs.declared.breaker.Halt.{Halt}
use Rattle.breaker_core.specs.Levels.{ends, declares, percent_of}
use Rattle.rulebook.specs.declared.event.Event.{Event}
use Rattle.rulebook.specs.declared.event.Event.TheVariants.{Accepted, Published}
use Rattle.rulebook.specs.Admission.{IsLawful, is_listed, names, verdict}
use Rattle.rulebook.specs.Isolation.{isolated, concerns, for_symbol, isolated_history, is_for, is_listed_in_view, view}
use Rattle.rulebook.specs.Book.{all_obeyed, announced, evaluate, evaluate_all, evaluate_market, evaluate_own, history, ids_below, listed_ids, messages_of, named, newest_messages, symbol_rules, target}
use Rattle.rulebook.specs.History.{messages, now, publish, records, step_messages, today}
use Rattle.rulebook.specs.Market.{breaks, day_record, greatest_declared, greatest_in, market_halt_in, is_market_halted, market_halt}
use Rattle.rulebook.specs.Symbol.{terms, terms_in}
use Rattle.rulebook.proofs.Histories.{evaluate-part, evaluate_market-part, evaluate_own-part, in_order, market_part, messages-publish, now-publish, now-today, own_part, part, publish-append, records-history, records-publish, step_messages-publish}
use Rattle.rulebook.proofs.Ids.{listed-below, same_id}
use Rattle.rulebook.proofs.OtherRecords.{day_record-same}
use Rattle.rulebook.proofs.OfSymbol.{AllOfSymbols, NoneBy, NoneBy-append, by_market, greatest-publish, market_halt-publish, market_part-by, of_symbol, own_part-by, parts-below, parts-of_symbols}
use Rattle.symbol_core.specs.declared.symbol.MarketView.{MarketView}
use Rattle.symbol_core.specs.Evaluates.{Opens, part_of, step_of}
use Rattle.symbol_core.specs.Rests.{Rests, SymbolState}
use Rattle.symbol_core.specs.Silent.{IsOfOthers}
use Rattle.symbol_core.proofs.Resting.{rests-new}
use Rattle.symbol_core.proofs.Twins.{Alike, Twins, twins-day, twins-step}
use Rattle.symbol_core.specs.Taken.{renewed}
use Rattle.market_core.specs.Isolation.{EachStepIsIsolated, DependsOnItsView, IsIsolated, newest_isolated}
use Rattle.market_core.specs.Applied.{Applies}
use Rattle.market_core.specs.MarketState.{MarketState, Represents}
use Rattle.market_core.specs.Ruled.{stamped}
use Rattle.market_core.proofs.Applying.{declared, goes, not_early, open_day, step_tick}
use Rattle.market_core.proofs.RecordsOfOthers.{of_another, rests-on, rests-publish, silent}
use Rattle.market_core.proofs.OwnSteps.{agree-before, apart_ids, opened, own_listing, own_said, own_step, ready}
use Rattle.market_core.proofs.MarketSteps.{Ticked, before_id, history-before, history_to, listed-open, part_of-tick, parts-more, parts_to, ruled_history, said_if, said_if-own, tick_name}
use Rattle.market_core.proofs.Views.{NotFor, NotFor-append, filter-all, filter-none, for-stamped, market_for, none_by, not_for, others_for, own_for, records-isolated, terms-isolated, view-more}

-- alone, every name is the symbol's
abbrev every : List ℕ → Bool
every name = true

every_name : (x : Record) → option_map_or every (name_of x) true ≡ true
every_name x = by (name_of x) where
  by : (o : Option (List ℕ)) → option_map_or every o true ≡ true
  by None = refl
  by (Some name) = refl

-- the symbol's own history
abbrev solo : ℕ → List Record → List Event
solo s A = isolated_history s (view A s)

abbrev opened_alone : Record → ℕ → List Record → List Event
opened_alone x s A = Accepted x ∷ solo s A

-- how the whole history and the symbol's own agree
record InStep (s : ℕ) (A : List Record) : Type 0 where
  pub twins : Twins (named A s).own every s (history A) (solo s A)
  pub halt : market_halt (history A) ≡ market_halt (solo s A)
  pub greatest : greatest_declared (history A) ≡ greatest_declared (solo s A)
  pub day : day_record A ≡ day_record (view A s)
  pub later : now (solo s A) ≤ now (history A)
  pub said : for_symbol s (messages_of A) ≡ messages (solo s A)

-- and at one more record, what it publishes
record Goes (s : ℕ) (x : Record) (A : List Record) : Type 0 where
  pub speaks : InStep s (x ∷ A)
  pub newest : for_symbol s (newest_messages (x ∷ A)) ≡ newest_isolated s (x ∷ A)

on_both : {X Y : Type 0} (P : X → Y → Type 0) (a b : X) (c d : Y) → a ≡ b → c ≡ d → P b d → P a c
on_both P a b c d one two p = subst (λ x. P x c) (sym one) (subst (P b) (sym two) p)

-- A record of the symbol, or of the market.

record Both (s : ℕ) (x : Record) (A : List Record) (ms ns : List Message) : Type 0 where
  pub whole : history (x ∷ A) ≡ publish ms (opened x A)
  pub isolated : isolated_history s (x ∷ view A s) ≡ publish ns (opened_alone x s A)
  pub same : filter (is_for s) ms ≡ ns
  pub twins : Twins (named (x ∷ A) s).own every s (publish ms (opened x A)) (publish ns (opened_alone x s A))
  pub halt : market_halt (publish ms (opened x A)) ≡ market_halt (publish ns (opened_alone x s A))
  pub greatest : greatest_declared (publish ms (opened x A)) ≡ greatest_declared (publish ns (opened_alone x s A))
  pub day : day_record (x ∷ A) ≡ day_record (x ∷ view A s)

both_go : (s : ℕ) (x : Record) (A : List Record) (ms ns : List Message) → concerns (x ∷ A) s x ≡ true → InStep s A → Both s x A ms ns → Goes s x A
both_go s x A ms ns e so b =
    record {
      speaks = record {
        twins = on_both (Twins (named (x ∷ A) s).own every s) (history (x ∷ A)) (publish ms H) (solo s (x ∷ A)) (publish ns G) b.whole alone_is b.twins;
        halt = ap market_halt b.whole ∙ b.halt ∙ sym (ap market_halt alone_is);
        greatest = ap greatest_declared b.whole ∙ b.greatest ∙ sym (ap greatest_declared alone_is);
        day = b.day ∙ sym (ap day_record view_is);
        later = let here = ap now b.whole ∙ now-publish ms H in let there = ap now alone_is ∙ now-publish ns G in omega arith;
        said =
            ap (for_symbol s) (ap messages b.whole ∙ messages-publish ms H)
            ∙ filter-append _ (messages_of A) (stamped t ms)
            ∙ (λ i. so.said i ++ (for-stamped s t ms ∙ ap (stamped t) b.same) i)
            ∙ sym (ap messages alone_is ∙ messages-publish ns G);
      };
      newest =
          ap (λ (h : List Event). for_symbol s (step_messages h)) b.whole
          ∙ ap (for_symbol s) (step_messages-publish ms H)
          ∙ for-stamped s t ms ∙ ap (stamped t) b.same
          ∙ sym (ap step_messages alone_is ∙ step_messages-publish ns G)
          ∙ ap (λ (c : Bool). cond c (step_messages (solo s (x ∷ A))) []) (sym e);
    }
  where
    t : ℕ
    t = moment_of x

    H : List Event
    H = opened x A

    G : List Event
    G = opened_alone x s A

    view_is : view (x ∷ A) s ≡ x ∷ view A s
    view_is = view-more x A s true e

    alone_is : solo s (x ∷ A) ≡ publish ns G
    alone_is = ap (isolated_history s) view_is ∙ b.isolated

-- What both have of the market at a record that isn't a day.

halt-record : (x : Record) (h : List Event) → is_day x ≡ false → market_halt (Accepted x ∷ h) ≡ market_halt h
halt-record x h e = ap (λ (b : Bool). market_halt_in (cond b (Accepted x ∷ []) (Accepted x ∷ today h))) e

greatest-record : (x : Record) (h : List Event) → is_day x ≡ false → greatest_declared (Accepted x ∷ h) ≡ greatest_declared h
greatest-record x h e = ap (λ (b : Bool). greatest_in (cond b (Accepted x ∷ []) (Accepted x ∷ today h))) e

halt-more : (ms : List Message) (h g : List Event) → now h ≡ now g → market_halt h ≡ market_halt g → market_halt (publish ms h) ≡ market_halt (publish ms g)
halt-more [] h g t e = e
halt-more (m ∷ ms) h g t e = halt-more ms (Published m ∷ h) (Published m ∷ g) t (by m) where
  by : (m : Message) → market_halt (Published m ∷ h) ≡ market_halt (Published m ∷ g)
  by (out.Breaker level index) = ap (λ (n : ℕ). Some (record { level = level; since = n })) (now-today h ∙ t ∙ sym (now-today g))
  by out.MarketResume = refl
  by (out.Listed i name) = e
  by (out.State i p) = e
  by (out.Band i why reference lower upper) = e
  by (out.Straddle i on) = e
  by (out.Collar i round lower upper) = e
  by (out.Release i price) = e
  by (out.Short i kind) = e

greatest-more : (ms : List Message) (h g : List Event) → greatest_declared h ≡ greatest_declared g → greatest_declared (publish ms h) ≡ greatest_declared (publish ms g)
greatest-more [] h g e = e
greatest-more (m ∷ ms) h g e = greatest-more ms (Published m ∷ h) (Published m ∷ g) (by m) where
  by : (m : Message) → greatest_declared (Published m ∷ h) ≡ greatest_declared (Published m ∷ g)
  by (out.Breaker level index) = ap (λ (n : ℕ). max (percent_of level) n) e
  by out.MarketResume = e
  by (out.Listed i name) = e
  by (out.State i p) = e
  by (out.Band i why reference lower upper) = e
  by (out.Straddle i on) = e
  by (out.Collar i round lower upper) = e
  by (out.Release i price) = e
  by (out.Short i kind) = e

record MarketOf (s : ℕ) (x : Record) (A : List Record) (d : Day × ℕ) : Type 0 where
  pub no_day : is_day x ≡ false
  pub on : day_record A ≡ Some d
  pub isolated : day_record (records (solo s A)) ≡ Some d
  pub halt : market_halt (opened x A) ≡ market_halt (opened_alone x s A)
  pub greatest : greatest_declared (opened x A) ≡ greatest_declared (opened_alone x s A)
  pub later : now (history A) ≤ moment_of x
  pub later_alone : now (solo s A) ≤ moment_of x
  pub day : day_record (x ∷ A) ≡ day_record (x ∷ view A s)

market_of : (capacity s : ℕ) (x : Record) (A : List Record) → is_day x ≡ false → verdict capacity A x ≡ None → InStep s A → (d : Day × ℕ) × MarketOf s x A d
market_of capacity s x A no_day passed so = by (open_day capacity A x no_day passed) where
  later : now (history A) ≤ moment_of x
  later = in_order A x no_day (not_early capacity A x passed)

  by : (d : Day × ℕ) × (day_record A ≡ Some d) → (d : Day × ℕ) × MarketOf s x A d
  by (d, on) = (
    d,
    record {
      no_day = no_day;
      on = on;
      isolated = ap day_record (records-isolated s (view A s)) ∙ sym so.day ∙ on;
      halt = halt-record x (history A) no_day ∙ so.halt ∙ sym (halt-record x (solo s A) no_day);
      greatest = greatest-record x (history A) no_day ∙ so.greatest ∙ sym (greatest-record x (solo s A) no_day);
      later = later;
      later_alone = let before = so.later in let after = later in omega arith;
      day = day_record-same x A no_day ∙ so.day ∙ sym (day_record-same x (view A s) no_day);
    },
  )

-- the rules of the symbol alone, on a known day
part-isolated : (s : ℕ) (x : Record) (A : List Record) (d : Day × ℕ) (ms : List Message) → MarketOf s x A d
    → part x (isolated s) (publish ms (opened_alone x s A)) ≡ all_obeyed d.0 (isolated s) x symbol_rules (publish ms (opened_alone x s A))
part-isolated s x A d ms k =
    let h = publish ms (opened_alone x s A) in
    ap (λ (o : Option (Day × ℕ)). option_map_or (λ day. all_obeyed day.0 (isolated s) x symbol_rules h) o [])
    (ap day_record (records-publish ms (opened_alone x s A)) ∙ day_record-same x (records (solo s A)) k.no_day ∙ k.isolated)

-- the kept state is ready for the record in both
record Ready (s : ℕ) (x : Record) (A : List Record) (d : Day × ℕ) (others more : List Message) (held : SymbolState) : Type 0 where
  pub market : MarketView
  pub day : market.day ≡ d.0
  pub whole : Opens (named (x ∷ A) s).own held market x others (history A)
  pub isolated : Opens every held market x more (solo s A)

both_ready : (s : ℕ) (x : Record) (A : List Record) (d : Day × ℕ) (others more : List Message) (t : Twins (named A s).own every s (history A) (solo s A)) → MarketOf s x A d → NoneBy s others → NoneBy s more
    → option_map_or (named (x ∷ A) s).own (name_of x) true ≡ true → market_halt (publish others (opened x A)) ≡ market_halt (publish more (opened_alone x s A))
    → Ready s x A d others more t.held
both_ready s x A d others more t k none none_more name halt =
    let market : MarketView = record { day = d.0; stopped = is_market_halted (publish others (opened x A)) } in
    record {
      market = market;
      day = refl;
      whole = ready x A d market s t.held others (record { no_day = k.no_day; on = k.on; day = refl; stopped = refl; later = k.later }) none t.id name t.one;
      isolated = record {
        rests = t.two;
        silent = silent t.held.kept.id more (subst (λ (i : ℕ). NoneBy i more) (sym t.id) none_more);
        no_day = k.no_day;
        name = every_name x;
        index = d.1;
        day = k.isolated;
        stopped = ap is_some halt;
        later = k.later_alone;
      };
    }

-- A record of the symbol.

own_both : (s : ℕ) (x : Record) (A : List Record) (d : Day × ℕ) → is_tick x ≡ false → target (x ∷ A) x ≡ Some s → InStep s A → MarketOf s x A d
    → Both s x A (own_part x (named (x ∷ A) s) (opened x A)) (own_part x (isolated s) (opened_alone x s A))
own_both s x A d no_tick own so k =
    record {
      whole = own_step x A s k.no_day no_tick own;
      isolated =
          (λ i. cond (k.no_day i) G (cond (no_tick i) (cond (is_listed_in_view (records G)) (evaluate x (isolated s) (evaluate_market x G)) (evaluate_market x G)) (evaluate_own x (isolated s) G)))
          ∙ evaluate_own-part x (isolated s) G;
      same = filter-all s ms (own_for s ms (own_part-by x (named (x ∷ A) s) H)) ∙ sym whole_is ∙ alike.same ∙ alone_is;
      twins = on_both (Twins (named (x ∷ A) s).own every s) (publish ms H) (publish whole_part H) (publish ns G) (publish alone_part G) (ap (λ (q : List Message). publish q H) (sym whole_is)) (ap (λ (q : List Message). publish q G) (sym alone_is)) alike.twins;
      halt = market_halt-publish ms H (of_symbol s ms (own_part-by x (named (x ∷ A) s) H)) ∙ k.halt ∙ sym (market_halt-publish ns G (of_symbol s ns (own_part-by x (isolated s) G)));
      greatest = greatest-publish ms H (of_symbol s ms (own_part-by x (named (x ∷ A) s) H)) ∙ k.greatest ∙ sym (greatest-publish ns G (of_symbol s ns (own_part-by x (isolated s) G)));
      day = k.day;
    }
  where
    H : List Event
    H = opened x A

    G : List Event
    G = opened_alone x s A

    ms : List Message
    ms = own_part x (named (x ∷ A) s) H

    ns : List Message
    ns = own_part x (isolated s) G

    at : Ready s x A d [] [] so.twins.held
    at = both_ready s x A d [] [] so.twins k tt tt (own_listing x A s own) k.halt

    whole_part : List Message
    whole_part = part_of at.market.day (named (x ∷ A) s) x H

    alone_part : List Message
    alone_part = part_of at.market.day (isolated s) x G

    alike : Alike (named (x ∷ A) s).own every s whole_part alone_part H G
    alike = twins-step (named (x ∷ A) s).own every at.market x s so.twins.held [] [] (history A) (solo s A) so.twins.id at.whole at.isolated

    whole_is : whole_part ≡ ms
    whole_is = own_said x A d at.market s s (record { no_day = k.no_day; on = k.on; day = at.day; stopped = at.whole.stopped; later = k.later }) no_tick refl

    alone_is : alone_part ≡ ns
    alone_is =
        (λ i. part_of (at.day i) (isolated s) x G)
        ∙ ap (λ (t : Bool). cond (t && not (is_some (terms G every))) [] (step_of d.0 (isolated s) x G)) no_tick
        ∙ ap (λ (q : List Message). announced (isolated s) x G ++ q) (sym (part-isolated s x A d (announced (isolated s) x G) k))

-- A record of another symbol.

record Another (s : ℕ) (x : Record) (A : List Record) : Type 0 where
  pub ms : List Message
  pub whole : history (x ∷ A) ≡ publish ms (opened x A)
  pub symbols : AllOfSymbols ms
  pub none : NotFor s ms

another : (s : ℕ) (x : Record) (A : List Record) (o : Option ℕ) → is_day x ≡ false → is_tick x ≡ false → target (x ∷ A) x ≡ o → option_map_or (λ id. id == s) o false ≡ false → Another s x A
another s x A (Some k) no_day no_tick e apart =
    let ms = own_part x (named (x ∷ A) k) (opened x A) in
    let by = own_part-by x (named (x ∷ A) k) (opened x A) in
    record { ms = ms; whole = own_step x A k no_day no_tick e; symbols = of_symbol k ms by; none = others_for s k ms apart by }
another s x A None no_day no_tick e apart =
    record {
      ms = [];
      whole =
          (λ i. cond (no_day i) (opened x A) (cond (no_tick i) (evaluate_all x (listed_ids (records (opened x A))) (evaluate_market x (opened x A)))
          (option_map_or (λ k. evaluate_own x (named (x ∷ records-history A i) k) (opened x A)) (target (x ∷ records-history A i) x) (opened x A))))
          ∙ ap (λ (o : Option ℕ). option_map_or (λ k. evaluate_own x (named (x ∷ A) k) (opened x A)) o (opened x A)) e;
      symbols = tt;
      none = tt;
    }

another_goes : (s : ℕ) (x : Record) (A : List Record) (d : Day × ℕ) → is_tick x ≡ false → option_map_or (λ id. id == s) (target (x ∷ A) x) false ≡ false → concerns (x ∷ A) s x ≡ false
    → InStep s A → MarketOf s x A d → Another s x A → Goes s x A
another_goes s x A d no_tick apart e so k a =
    record {
      speaks = record {
        twins = on_both (Twins (named (x ∷ A) s).own every s) (history (x ∷ A)) (publish a.ms H) (solo s (x ∷ A)) (solo s A) a.whole alone_is
            (record {
              held = held;
              id = so.twins.id;
              one = rests-on (named A s).own (named (x ∷ A) s).own held x a.ms (history A) (agree-before x A s)
                  (subst (λ (i : ℕ). IsOfOthers (named (x ∷ A) s).own i x) (sym so.twins.id) (of_another A x s apart)) k.no_day k.later
                  (subst (λ (i : ℕ). NoneBy i a.ms) (sym so.twins.id) (none_by s a.ms a.none)) so.twins.one;
              two = so.twins.two;
            });
        halt = ap market_halt a.whole ∙ market_halt-publish a.ms H a.symbols ∙ halt-record x (history A) k.no_day ∙ so.halt ∙ sym (ap market_halt alone_is);
        greatest = ap greatest_declared a.whole ∙ greatest-publish a.ms H a.symbols ∙ greatest-record x (history A) k.no_day ∙ so.greatest ∙ sym (ap greatest_declared alone_is);
        day = day_record-same x A k.no_day ∙ so.day ∙ sym (ap day_record view_is);
        later = let here = ap now a.whole ∙ now-publish a.ms H in let there = ap now alone_is in let before = k.later_alone in omega arith;
        said =
            ap (for_symbol s) (ap messages a.whole ∙ messages-publish a.ms H)
            ∙ filter-append _ (messages_of A) (stamped t a.ms)
            ∙ (λ i. so.said i ++ (for-stamped s t a.ms ∙ ap (stamped t) (filter-none s a.ms a.none)) i)
            ∙ append-nil (messages (solo s A)) ∙ sym (ap messages alone_is);
      };
      newest =
          ap (λ (h : List Event). for_symbol s (step_messages h)) a.whole
          ∙ ap (for_symbol s) (step_messages-publish a.ms H)
          ∙ for-stamped s t a.ms ∙ ap (stamped t) (filter-none s a.ms a.none)
          ∙ ap (λ (c : Bool). cond c (step_messages (solo s (x ∷ A))) []) (sym e);
    }
  where
    t : ℕ
    t = moment_of x

    H : List Event
    H = opened x A

    held : SymbolState
    held = so.twins.held

    view_is : view (x ∷ A) s ≡ view A s
    view_is = view-more x A s false e

    alone_is : solo s (x ∷ A) ≡ solo s A
    alone_is = ap (isolated_history s) view_is

-- A clock or an index tick.

-- the market-wide rules publish the same
market_same : (s : ℕ) (x : Record) (A : List Record) (d : Day × ℕ) → is_tick x ≡ true → InStep s A → MarketOf s x A d → market_part x (opened x A) ≡ market_part x (opened_alone x s A)
market_same s x A d tick so k = by_tick (λ y. market_part y (opened y A) ≡ market_part y (opened_alone y s A)) clock index x tick where
  clock : (t : ℕ) → market_part (in_.Clock t) (opened (in_.Clock t) A) ≡ market_part (in_.Clock t) (opened_alone (in_.Clock t) s A)
  clock t = ap (λ o. cond (ends t o) (out.MarketResume ∷ []) [] ++ []) so.halt

  resumed : ℕ → Option Halt → List Message → List Message
  resumed t halt ms = cond (ends t halt) (out.MarketResume ∷ []) [] ++ ms

  index : (t v : ℕ) → market_part (in_.IndexTick t v) (opened (in_.IndexTick t v) A) ≡ market_part (in_.IndexTick t v) (opened_alone (in_.IndexTick t v) s A)
  index t v =
      let whole = market_halt (history A) in
      let own = market_halt (solo s A) in
      ap (resumed t whole) (declared (ends t whole) t v (history A) d (ap day_record (records-history A) ∙ k.on))
      ∙ (λ i. resumed t (so.halt i) (breaks v (declares (cond (ends t (so.halt i)) None (so.halt i)) (so.greatest i) d.1 d.0 t v)))
      ∙ ap (resumed t own) (sym (declared (ends t own) t v (solo s A) d k.isolated))

-- what the symbol publishes after these messages of the tick
abbrev mine_after : ℕ → Record → List Record → Day × ℕ → List Message → List Message
mine_after s x A d before = said_if (is_listed (x ∷ A) s) d.0 (named (x ∷ A) s) x (publish before (ruled_history x A))

-- the messages of all symbols are those of earlier ones, the symbol's and those of later ones
record Split (s : ℕ) (x : Record) (A : List Record) (d : Day × ℕ) (ms : List Message) : Type 0 where
  pub before : List Message
  pub after : List Message
  pub symbols : AllOfSymbols before
  pub none_before : NotFor s before
  pub none_after : NotFor s after
  pub parts : ms ≡ before ++ (mine_after s x A d before ++ after)

-- earlier symbols' messages
below_for : (n s : ℕ) (x : Record) (A : List Record) → n ≤ s → NotFor s (parts_to n x A)
below_for n s x A le =
    not_for s (parts_to n x A) (parts-of_symbols x (filter (is_listed (x ∷ A)) (ids_below n)) (ruled_history x A)) (parts-below x (is_listed (x ∷ A)) n s (ruled_history x A) le)

split_after : (n s : ℕ) (x : Record) (A : List Record) (d : Day × ℕ) (market : MarketView) → Ticked x A d market → s < n → Split s x A d (parts_to n x A)
split_after zero s x A d market tick lt = absurd (omega arith)
split_after (suc n) s x A d market tick lt = by (n == s) refl (split_after n s x A d market tick) where
  said : List Message
  said = said_if (is_listed (x ∷ A) n) d.0 (named (x ∷ A) n) x (history_to n x A)

  by : (same : Bool) → (n == s) ≡ same → (s < n → Split s x A d (parts_to n x A)) → Split s x A d (parts_to (suc n) x A)
  by true e earlier =
      let same = same_id n s e in
      subst (λ (i : ℕ). Split i x A d (parts_to (suc n) x A)) same
      (record {
        before = parts_to n x A;
        after = [];
        symbols = parts-of_symbols x (filter (is_listed (x ∷ A)) (ids_below n)) (ruled_history x A);
        none_before = below_for n n x A (omega arith);
        none_after = tt;
        parts = parts-more x A d market n tick ∙ ap (λ (ms : List Message). parts_to n x A ++ ms) (sym (append-nil said));
      })
  by false e earlier =
      let ne = apart_ids n s e in
      let rest = earlier (omega arith) in
      let mine = mine_after s x A d rest.before in
      record {
        before = rest.before;
        after = rest.after ++ said;
        symbols = rest.symbols;
        none_before = rest.none_before;
        none_after = NotFor-append s rest.after said rest.none_after (others_for s n said e (said_if-own (is_listed (x ∷ A) n) d.0 (named (x ∷ A) n) x (history_to n x A)));
        parts =
            parts-more x A d market n tick ∙ ap (λ (ms : List Message). ms ++ said) rest.parts
            ∙ append_assoc rest.before (mine ++ rest.after) said
            ∙ ap (λ (ms : List Message). rest.before ++ ms) (append_assoc mine rest.after said);
      }

-- a symbol of no name is among none
split : (n s : ℕ) (x : Record) (A : List Record) (d : Day × ℕ) (market : MarketView) → Ticked x A d market → n ≡ length (names (x ∷ A)) → Split s x A d (parts_to n x A)
split n s x A d market tick count = by (nat_lt s n) refl where
  within : (a b : ℕ) → nat_lt a b ≡ true → a < b
  within a b e = grind (arith, nat_tests)

  behind : (a b : ℕ) → nat_lt a b ≡ false → b ≤ a
  behind a b e = grind (arith, nat_tests)

  unlisted : (b : Bool) → is_listed (x ∷ A) s ≡ b → n ≤ s → b ≡ false
  unlisted true e le = let at = listed-below (x ∷ A) s e in absurd (omega arith)
  unlisted false e le = refl

  by : (b : Bool) → nat_lt s n ≡ b → Split s x A d (parts_to n x A)
  by true e = split_after n s x A d market tick (within s n e)
  by false e =
      let le = behind s n e in
      let ms = parts_to n x A in
      record {
        before = ms;
        after = [];
        symbols = parts-of_symbols x (filter (is_listed (x ∷ A)) (ids_below n)) (ruled_history x A);
        none_before = below_for n s x A le;
        none_after = tt;
        parts = sym (append-nil ms) ∙ ap (λ (b : Bool). ms ++ (said_if b d.0 (named (x ∷ A) s) x (publish ms (ruled_history x A)) ++ [])) (sym (unlisted (is_listed (x ∷ A) s) refl le));
      }

-- the symbol is evaluated at a tick in both, the same way
tick_both : (s : ℕ) (x : Record) (A : List Record) (d : Day × ℕ) (n : ℕ) → n ≡ length (names (x ∷ A)) → is_tick x ≡ true → InStep s A → MarketOf s x A d
    → Split s x A d (parts_to n x A)
    → Both s x A (before_id n x A) (market_part x (opened_alone x s A) ++ said_if (is_listed_in_view (records (opened_alone x s A))) d.0 (isolated s) x (publish (market_part x (opened_alone x s A)) (opened_alone x s A)))
tick_both s x A d n count tick so k sp =
    record {
      whole = step_tick x A n k.no_day tick count;
      isolated =
          (λ i. cond (k.no_day i) G (cond (tick i) (cond listed (evaluate x (isolated s) (evaluate_market x G)) (evaluate_market x G)) (evaluate_own x (isolated s) G)))
          ∙ alone_step listed;
      same = filter-append (is_for s) mp (parts_to n x A) ∙ (λ i. (filter-all s mp (market_for s mp (market_part-by x H)) ∙ market_is) i ++ (mine_filtered ∙ sym mine_is ∙ alike.same ∙ nine_is) i);
      twins = record {
        held = alike.twins.held;
        id = alike.twins.id;
        one = subst (Rests own alike.twins.held) whole_is
            (rests-publish own alike.twins.held sp.after (publish whole_part (publish others H)) (subst (λ (i : ℕ). NoneBy i sp.after) (sym alike.twins.id) (none_by s sp.after sp.none_after)) alike.twins.one);
        two = subst (Rests every alike.twins.held) ((λ i. publish (nine_is i) (publish np G)) ∙ sym (publish-append np nine G)) alike.twins.two;
      };
      halt = ap market_halt (history-before n x A) ∙ market_halt-publish (parts_to n x A) (ruled_history x A) all_symbols ∙ halt_ruled
          ∙ sym (ap market_halt (publish-append np nine G) ∙ market_halt-publish nine (publish np G) nine_symbols);
      greatest = ap greatest_declared (history-before n x A) ∙ greatest-publish (parts_to n x A) (ruled_history x A) all_symbols ∙ greatest_ruled
          ∙ sym (ap greatest_declared (publish-append np nine G) ∙ greatest-publish nine (publish np G) nine_symbols);
      day = k.day;
    }
  where
    H : List Event
    H = opened x A

    G : List Event
    G = opened_alone x s A

    own : List ℕ → Bool
    own = (named (x ∷ A) s).own

    mp : List Message
    mp = market_part x H

    np : List Message
    np = market_part x G

    market_is : mp ≡ np
    market_is = market_same s x A d tick so k

    halt_ruled : market_halt (ruled_history x A) ≡ market_halt (publish np G)
    halt_ruled = halt-more mp H G refl k.halt ∙ ap (λ (ms : List Message). market_halt (publish ms G)) market_is

    greatest_ruled : greatest_declared (ruled_history x A) ≡ greatest_declared (publish np G)
    greatest_ruled = greatest-more mp H G k.greatest ∙ ap (λ (ms : List Message). greatest_declared (publish ms G)) market_is

    all_symbols : AllOfSymbols (parts_to n x A)
    all_symbols = parts-of_symbols x (filter (is_listed (x ∷ A)) (ids_below n)) (ruled_history x A)

    others : List Message
    others = mp ++ sp.before

    others_is : publish others H ≡ publish sp.before (ruled_history x A)
    others_is = publish-append mp sp.before H

    at : Ready s x A d others np so.twins.held
    at = both_ready s x A d others np so.twins k
        (NoneBy-append s mp sp.before (by_market s mp (market_part-by x H)) (none_by s sp.before sp.none_before)) (by_market s np (market_part-by x G))
        (tick_name own x tick) (ap market_halt others_is ∙ market_halt-publish sp.before (ruled_history x A) sp.symbols ∙ halt_ruled)

    whole_part : List Message
    whole_part = part_of at.market.day (named (x ∷ A) s) x (publish others H)

    alone_part : List Message
    alone_part = part_of at.market.day (isolated s) x (publish np G)

    alike : Alike own every s whole_part alone_part (publish others H) (publish np G)
    alike = twins-step own every at.market x s so.twins.held others np (history A) (solo s A) so.twins.id at.whole at.isolated

    mine : List Message
    mine = mine_after s x A d sp.before

    mine_is : whole_part ≡ mine
    mine_is =
        (λ i. part_of (at.day i) (named (x ∷ A) s) x (publish others H))
        ∙ part_of-tick d.0 (named (x ∷ A) s) x (publish others H) (is_listed (x ∷ A) s) tick (listed-open others x A s)
        ∙ ap (λ (h : List Event). said_if (is_listed (x ∷ A) s) d.0 (named (x ∷ A) s) x h) others_is

    listed : Bool
    listed = is_listed_in_view (records G)

    nine : List Message
    nine = said_if listed d.0 (isolated s) x (publish np G)

    nine_is : alone_part ≡ nine
    nine_is =
        (λ i. part_of (at.day i) (isolated s) x (publish np G))
        ∙ part_of-tick d.0 (isolated s) x (publish np G) listed tick (ap (λ (v : List Record). is_some (terms_in every v)) (records-publish np G) ∙ terms-isolated (records G))

    nine_symbols : AllOfSymbols nine
    nine_symbols = of_symbol s nine (said_if-own listed d.0 (isolated s) x (publish np G))

    market_step : evaluate_market x G ≡ publish np G
    market_step = evaluate_market-part x G

    alone_step : (b : Bool) → cond b (evaluate x (isolated s) (evaluate_market x G)) (evaluate_market x G) ≡ publish (np ++ said_if b d.0 (isolated s) x (publish np G)) G
    alone_step true =
        ap (evaluate x (isolated s)) market_step ∙ evaluate-part x (isolated s) (publish np G)
        ∙ ap (λ (ms : List Message). publish ms (publish np G)) (part-isolated s x A d np k)
        ∙ sym (publish-append np (all_obeyed d.0 (isolated s) x symbol_rules (publish np G)) G)
    alone_step false = market_step ∙ ap (λ (ms : List Message). publish ms G) (sym (append-nil np))

    mine_filtered : filter (is_for s) (parts_to n x A) ≡ mine
    mine_filtered =
        ap (filter (is_for s)) sp.parts
        ∙ filter-append (is_for s) sp.before (mine ++ sp.after)
        ∙ ap (λ (ms : List Message). ms ++ filter (is_for s) (mine ++ sp.after)) (filter-none s sp.before sp.none_before)
        ∙ filter-append (is_for s) mine sp.after
        ∙ (λ i. filter-all s mine (own_for s mine (said_if-own (is_listed (x ∷ A) s) d.0 (named (x ∷ A) s) x (publish sp.before (ruled_history x A)))) i ++ filter-none s sp.after sp.none_after i)
        ∙ append-nil mine

    whole_is : publish sp.after (publish whole_part (publish others H)) ≡ publish (before_id n x A) H
    whole_is =
        (λ i. publish sp.after (publish (mine_is i) (publish others H)))
        ∙ sym (publish-append mine sp.after (publish others H))
        ∙ sym (publish-append others (mine ++ sp.after) H)
        ∙ ap (λ (ms : List Message). publish ms H) (append_assoc mp sp.before (mine ++ sp.after) ∙ ap (λ (ms : List Message). mp ++ ms) (sym sp.parts))

tick_goes_alone : (capacity s : ℕ) (x : Record) (A : List Record) → is_tick x ≡ true → concerns (x ∷ A) s x ≡ true → verdict capacity A x ≡ None → InStep s A → Goes s x A
tick_goes_alone capacity s x A tick e passed so = by (market_of capacity s x A (only_ticks x tick).other.no_day passed so) where
  n : ℕ
  n = length (names (x ∷ A))

  by : (d : Day × ℕ) × MarketOf s x A d → Goes s x A
  by (d, k) =
      let market : MarketView = record { day = d.0; stopped = is_market_halted (ruled_history x A) } in
      let sp = split n s x A d market (record { tick = tick; on = k.on; day = refl; stopped = refl; later = k.later }) refl in
      both_go s x A (before_id n x A) _ e so (tick_both s x A d n refl tick so k sp)

-- Any record.

own_concerns : (A : List Record) (x : Record) (s : ℕ) (b : Bool) → is_day x ≡ false → is_tick x ≡ false → option_map_or (λ id. id == s) (target (x ∷ A) x) false ≡ b → concerns (x ∷ A) s x ≡ b
own_concerns A x s b no_day no_tick e = (λ i. no_day i || no_tick i || e i)

own_goes_alone : (capacity s : ℕ) (x : Record) (A : List Record) → is_day x ≡ false → is_tick x ≡ false → verdict capacity A x ≡ None → InStep s A → Goes s x A
own_goes_alone capacity s x A no_day no_tick passed so = by (market_of capacity s x A no_day passed so) where
  one : (d : Day × ℕ) → MarketOf s x A d → (o : Option ℕ) → target (x ∷ A) x ≡ o → (b : Bool) → option_map_or (λ id. id == s) o false ≡ b → Goes s x A
  one d k o e false apart =
      let test = ap (λ (q : Option ℕ). option_map_or (λ id. id == s) q false) e ∙ apart in
      another_goes s x A d no_tick test (own_concerns A x s false no_day no_tick test) so k (another s x A o no_day no_tick e apart)
  one d k None e true is = absurd (true≢false (sym is))
  one d k (Some i) e true is =
      let own = e ∙ ap (λ (j : ℕ). Some j) (same_id i s is) in
      let test = ap (λ (q : Option ℕ). option_map_or (λ id. id == s) q false) e ∙ is in
      both_go s x A (own_part x (named (x ∷ A) s) (opened x A)) (own_part x (isolated s) (opened_alone x s A)) (own_concerns A x s true no_day no_tick test) so (own_both s x A d no_tick own so k)

  by : (d : Day × ℕ) × MarketOf s x A d → Goes s x A
  by (d, k) = one d k (target (x ∷ A) x) refl (option_map_or (λ id. id == s) (target (x ∷ A) x) false) refl

day_goes_alone : (s t : ℕ) (day : Day) (c : ℕ) (A : List Record) → InStep s A → Goes s (in_.Day t day c) A
day_goes_alone s t day c A so =
    let x = in_.Day t day c in
    both_go s x A [] [] refl so
    (record {
      whole = refl;
      isolated = refl;
      same = refl;
      twins = twins-day (named A s).own every s x (history A) (solo s A) refl so.twins;
      halt = refl;
      greatest = refl;
      day = refl;
    })

one_goes : (capacity s : ℕ) (x : Record) (A : List Record) → verdict capacity A x ≡ None → InStep s A → Goes s x A
one_goes capacity s x A passed so =
    by_listing (λ y. verdict capacity A y ≡ None → Goes s y A) (λ t day c passed. day_goes_alone s t day c A so)
    (λ t n k l c passed. own_goes_alone capacity s (in_.Listing t n k l c) A refl refl passed so)
    (λ y o passed. by y o (is_tick y) refl passed) x passed
  where
    by : (y : Record) → IsOther y → (b : Bool) → is_tick y ≡ b → verdict capacity A y ≡ None → Goes s y A
    by y o true tick passed = tick_goes_alone capacity s y A tick (λ i. o.no_day i || tick i || option_map_or (λ id. id == s) (target (y ∷ A) y) false) passed so
    by y o false no_tick passed = own_goes_alone capacity s y A o.no_day no_tick passed so

all_go : (capacity s : ℕ) (A : List Record) → IsLawful capacity A → InStep s A
all_go capacity s [] lawful =
    record {
      twins = record { held = record { kept = renewed s false; deals = []; spare = 0 }; id = refl; one = rests-new (named [] s).own s [] tt; two = rests-new every s [] tt };
      halt = refl;
      greatest = refl;
      day = refl;
      later = omega arith;
      said = refl;
    }
all_go capacity s (x ∷ A) lawful = (one_goes capacity s x A lawful.0 (all_go capacity s A lawful.1)).speaks

pub is_isolated : IsIsolated
is_isolated capacity accepted s lawful = (all_go capacity s accepted lawful).said

pub each_step_is_isolated : EachStepIsIsolated
each_step_is_isolated capacity [] s lawful = refl
each_step_is_isolated capacity (x ∷ A) s lawful = (one_goes capacity s x A lawful.0 (all_go capacity s A lawful.1)).newest

-- a symbol's messages depend on its view alone
pub depends_on_its_view : DependsOnItsView
depends_on_its_view capacity a b s first second same =
    is_isolated capacity a s first ∙ ap (λ (v : List Record). messages (isolated_history s v)) same ∙ sym (is_isolated capacity b s second)

-- the same of a call that may have found no memory
pub call_is_isolated : (r : Result (Unit {0}) NoMemory) (capacity : ℕ) (x : Record) (A : List Record) (s : ℕ) (old new : MarketState) (before after : List Stamped) → Represents old A → IsLawful capacity (x ∷ A)
    → OnOk r (Applies x old new before after) → OnOk r (for_symbol s after ≡ for_symbol s before ++ newest_isolated s (x ∷ A))
call_is_isolated (Ok y) capacity x A s old new before after stands lawful a =
    ap (for_symbol s) (goes capacity x A old new before after stands lawful.0 a).0
    ∙ filter-append _ before (newest_messages (x ∷ A))
    ∙ ap (λ (ms : List Stamped). for_symbol s before ++ ms) (each_step_is_isolated capacity (x ∷ A) s lawful)
call_is_isolated (Err y) capacity x A s old new before after stands lawful a = tt
