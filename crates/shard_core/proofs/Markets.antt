-- A market's part that leads a record, and one range of all stocks that takes it, are one market to which it is applied.
use Rattle.std.proofs.Common.{◌≡◌, ℕ, ◌+◌, ◌<◌, Bool, true, false, cond, List, [], ◌∷◌, ◌++◌, length, Option, Some, None, length-append, refl, sym, ap, subst, ◌∙◌, arith}
use Rattle.std.specs.Prelude.{option_map, position, unwrap_or}
use Rattle.std.specs.Str.{bytes_eq}
use Rattle.std.proofs.lemmas.List.Quantifiers.{position-Some}
use Rattle.std.proofs.lemmas.Option.{slice_get_within}
use Rattle.price_core.specs.declared.quote.Tier.{Tier}
use Rattle.breaker_core.specs.BreakerState.{started}
use Rattle.wire_in.specs.declared.record.Record.{Record}
use Rattle.wire_in.specs.declared.record.Record.TheVariants as in_
use Rattle.wire_in.specs.Records.{moment_of}
use Rattle.wire_out.specs.declared.message.Message.{Message}
use Rattle.wire_out.specs.declared.message.Stamped.{Stamped}
use Rattle.symbol_core.specs.declared.symbol.MarketView.{MarketView}
use Rattle.symbol_core.specs.Rests.{SymbolState}
use Rattle.market_core.specs.declared.lead.Today.{Today}
use Rattle.market_core.specs.AdmissionState.{added, is_full_for, lacks_room}
use Rattle.market_core.specs.Applied.{Applies, AppendsAt, AppendsBelow, AppendsOne, Evaluated, IsNew, Lists, Ticks}
use Rattle.market_core.specs.Leads.{LeadState, led, rulings, today_led}
use Rattle.market_core.specs.MarketState.{MarketState}
use Rattle.market_core.proofs.Appending.{get-before, get-last}
use Rattle.market_core.specs.Ruled.{ruled, ruling, stamped, view_of}
use Rattle.shard_core.specs.declared.turns.Target.TheVariants.{Each, One}
use Rattle.shard_core.specs.Parts.{TakesFor, is_for_all}
use Rattle.shard_core.specs.Turns.{target_at, target_of}
use Rattle.shard_core.proofs.Parts.{behind_said}

abbrev pub market_with : LeadState → List SymbolState → MarketState
market_with lead symbols = record { directory = lead.directory; today = lead.today; symbols = symbols }

seen_as : (today : Option Today) (day : Today) (view : MarketView) → today ≡ Some day → option_map view_of today ≡ Some view → view ≡ view_of day
seen_as today day view is seen =
    let both : Some view ≡ Some (view_of day) = sym seen ∙ ap (option_map view_of) is in
    cc

-- at a tick

tick_applies : (x : Record) (lead : LeadState) (old new : List SymbolState) (view : MarketView) (said : List Stamped) → option_map view_of (option_map (ruled x) lead.today) ≡ Some view
    → is_for_all x ≡ true → TakesFor Each 0 true view x old new said
    → Ticks x (market_with lead old) (market_with (record { directory = lead.directory; today = option_map (ruled x) lead.today }) new) [] (stamped (moment_of x) (rulings x lead.today) ++ said)
tick_applies x lead old new view said seen wide (count, told) = λ today on.
    let after : option_map (ruled x) lead.today ≡ Some (ruled x today) = ap (option_map (ruled x)) on in
    let same : view ≡ view_of (ruled x today) = seen_as (option_map (ruled x) lead.today) (ruled x today) view after seen in
    let own : AppendsBelow (length old) view x old new (stamped (moment_of x) (ruling x today)) (stamped (moment_of x) (ruling x today) ++ said) =
    behind_said (length old) view x old new (stamped (moment_of x) (ruling x today)) said (told wide) in
    record {
      directory = refl;
      today_is = after;
      count = count;
      appends = subst (λ (v : MarketView). AppendsBelow (length old) v x old new (stamped (moment_of x) (ruling x today)) (stamped (moment_of x) (rulings x lead.today) ++ said)) same
          (subst (λ (o : Option Today). AppendsBelow (length old) view x old new (stamped (moment_of x) (ruling x today)) (stamped (moment_of x) (rulings x o) ++ said)) (sym on) own);
    }

-- at a record of one stock, at which the market itself says nothing

one_applies : (x : Record) (s : ℕ) (lead : LeadState) (old new : List SymbolState) (view : MarketView) (said : List Stamped) → ((day : Today) → ruling x day ≡ []) → ((day : Today) → ruled x day ≡ day)
    → option_map view_of (option_map (ruled x) lead.today) ≡ Some view → TakesFor (One s) 0 true view x old new said
    → Evaluated s x (market_with lead old) (market_with (record { directory = lead.directory; today = option_map (ruled x) lead.today }) new) [] (stamped (moment_of x) (rulings x lead.today) ++ said)
one_applies x s lead old new view said quiet keeps seen (before, after, one) = λ today on within.
    let then : option_map (ruled x) lead.today ≡ Some today = ap (option_map (ruled x)) on ∙ ap (λ (day : Today). Some day) (keeps today) in
    let same : view ≡ view_of today = seen_as (option_map (ruled x) lead.today) today view then seen in
    let none : rulings x lead.today ≡ [] = ap (rulings x) on ∙ quiet today in
    let own : AppendsOne s (view_of today) x old new [] said = subst (λ (v : MarketView). AppendsOne s v x old new [] said) same (one s (omega arith) within) in
    let at = own.at in
    record {
      directory = refl;
      today_is = then ∙ sym on;
      count = own.count;
      appends = subst (λ (ms : List Message). AppendsAt s (view_of today) x old new [] (stamped (moment_of x) ms ++ said)) (sym none) at;
      others = own.others;
    }

-- at a listing

listing_applies : (t : ℕ) (n : List ℕ) (k : Tier) (l : ℕ) (c : Option ℕ) (lead : LeadState) (old new : List SymbolState) (view : MarketView) (said : List Stamped) → length old ≡ length lead.directory
    → is_full_for lead.directory n ≡ false → option_map view_of (option_map (ruled (in_.Listing t n k l c)) lead.today) ≡ Some view → (o : Option ℕ) → position (bytes_eq n) lead.directory ≡ o
    → TakesFor (target_at o (length lead.directory)) 0 true view (in_.Listing t n k l c) old new said → (today : Today) → lead.today ≡ Some today
    → Lists n today (in_.Listing t n k l c) (market_with lead old) (market_with (led (in_.Listing t n k l c) lead) new) [] (stamped t (rulings (in_.Listing t n k l c) lead.today) ++ said)
listing_applies t n k l c lead old new view said as_many room seen (Some id) e (before, after, one) today on =
    let x = in_.Listing t n k l c in
    let D = lead.directory in
    let then : option_map (ruled x) lead.today ≡ Some today = ap (option_map (ruled x)) on in
    let same : view ≡ view_of today = seen_as (option_map (ruled x) lead.today) today view then seen in
    let none : rulings x lead.today ≡ [] = ap (rulings x) on in
    let within : id < length D = (position-Some (bytes_eq n) D id [] e).0 in
    let own : AppendsOne id (view_of today) x old new [] said = subst (λ (v : MarketView). AppendsOne id v x old new [] said) same (one id (omega arith) (omega (arith, as_many))) in
    let at = own.at in
    record {
      symbol = id;
      with_name = market_with lead old;
      finds = record {
        id = sym (ap (λ (o : Option ℕ). unwrap_or o (length D)) e);
        directory = sym (ap (λ (o : Option ℕ). added D o n) e);
        today = refl;
        count = as_many;
        earlier = λ j lt. refl;
        later = λ j held behind found. absurd (let inside = slice_get_within old j held found in omega arith);
      };
      evaluated = record {
        directory = ap (λ (b : Bool). cond b D (added D (position (bytes_eq n) D) n)) room ∙ ap (λ (o : Option ℕ). added D o n) e;
        today_is = then ∙ sym on;
        count = own.count;
        appends = subst (λ (ms : List Message). AppendsAt id (view_of today) x old new [] (stamped t ms ++ said)) (sym none) at;
        others = own.others;
      };
    }
listing_applies t n k l c lead old new view said as_many room seen None e (stays, adds) today on =
    let x = in_.Listing t n k l c in
    let D = lead.directory in
    let then : option_map (ruled x) lead.today ≡ Some today = ap (option_map (ruled x)) on in
    let same : view ≡ view_of today = seen_as (option_map (ruled x) lead.today) today view then seen in
    let none : rulings x lead.today ≡ [] = ap (rulings x) on in
    let added_one = adds refl in
    let with = old ++ added_one.stock ∷ [] in
    let own : AppendsOne (length old) (view_of today) x with new [] said = subst (λ (v : MarketView). AppendsOne (length old) v x with new [] said) same added_one.one in
    let at = own.at in
    record {
      symbol = length old;
      with_name = record { directory = D ++ n ∷ []; today = lead.today; symbols = with };
      finds = record {
        id = as_many ∙ sym (ap (λ (o : Option ℕ). unwrap_or o (length D)) e);
        directory = sym (ap (λ (o : Option ℕ). added D o n) e);
        today = refl;
        count = length-append old (added_one.stock ∷ []) ∙ ap (λ (i : ℕ). i + 1) as_many ∙ sym (length-append D (n ∷ []));
        earlier = λ j lt. get-before old added_one.stock j lt;
        later = λ j held behind found.
            let last = get-last old added_one.stock held j behind found in
            subst (λ (h : SymbolState). IsNew j h) (sym last.1) (subst (λ (i : ℕ). IsNew i added_one.stock) (sym as_many ∙ sym last.0) added_one.is_new);
      };
      evaluated = record {
        directory = ap (λ (b : Bool). cond b D (added D (position (bytes_eq n) D) n)) room ∙ ap (λ (o : Option ℕ). added D o n) e;
        today_is = then ∙ sym on;
        count = own.count;
        appends = subst (λ (ms : List Message). AppendsAt (length old) (view_of today) x with new [] (stamped t ms ++ said)) (sym none) at;
        others = own.others;
      };
    }

-- at any record

pub applies : (x : Record) (lead : LeadState) (old new : List SymbolState) (view : MarketView) (said : List Stamped) → length old ≡ length lead.directory → lacks_room lead.directory x ≡ false
    → option_map view_of (today_led x lead.today) ≡ Some view → TakesFor (target_of x lead.directory) 0 true view x old new said
    → Applies x (market_with lead old) (market_with (led x lead) new) [] (stamped (moment_of x) (rulings x lead.today) ++ said)
applies (in_.Day t d c) lead old new view said as_many room seen (count, told) =
    let x = in_.Day t d c in
    let today : Today = record { day = d; breaker = started c } in
    let same : view ≡ view_of today = cc in
    record {
      directory = refl;
      today_is = refl;
      count = count;
      appends = subst (λ (ms : List Message). AppendsBelow (length old) (view_of today) x old new [] (stamped t ms ++ said)) (sym (quiet lead.today))
          (subst (λ (v : MarketView). AppendsBelow (length old) v x old new [] said) same (told refl));
    }
  where
    quiet : (o : Option Today) → rulings (in_.Day t d c) o ≡ []
    quiet None = refl
    quiet (Some day) = refl
applies (in_.Listing t n k l c) lead old new view said as_many room seen takes = listing_applies t n k l c lead old new view said as_many room seen (position (bytes_eq n) lead.directory) refl takes
applies (in_.Clock t) lead old new view said as_many room seen takes = tick_applies (in_.Clock t) lead old new view said seen refl takes
applies (in_.IndexTick t v) lead old new view said as_many room seen takes = tick_applies (in_.IndexTick t v) lead old new view said seen refl takes
applies (in_.Trade t s n p q f) lead old new view said as_many room seen takes = one_applies (in_.Trade t s n p q f) s lead old new view said (λ day. refl) (λ day. refl) seen takes
applies (in_.Cancel t s n) lead old new view said as_many room seen takes = one_applies (in_.Cancel t s n) s lead old new view said (λ day. refl) (λ day. refl) seen takes
applies (in_.Quote t s b o y z) lead old new view said as_many room seen takes = one_applies (in_.Quote t s b o y z) s lead old new view said (λ day. refl) (λ day. refl) seen takes
applies (in_.Notice t s k) lead old new view said as_many room seen takes = one_applies (in_.Notice t s k) s lead old new view said (λ day. refl) (λ day. refl) seen takes
applies (in_.Indication t s p u) lead old new view said as_many room seen takes = one_applies (in_.Indication t s p u) s lead old new view said (λ day. refl) (λ day. refl) seen takes
