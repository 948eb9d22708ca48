-- A symbol goes on resting: at a record of others, at further messages of others, at a new day, and before its first listing.
use Rattle.std.proofs.Common.{◌≡◌, ℕ, ◌+◌, ◌≤◌, Bool, true, false, List, [], ◌∷◌, refl, sym, ap, ◌∙◌, subst}
use Rattle.std.specs.Prelude.{Option, Some, None, if◌then◌else◌, option_map, option_and_then, unwrap_or, ◌&&◌, not, is_some}
use Rattle.std.specs.Option.{option_map_or}
use Rattle.price_core.specs.declared.quote.Collars.{Collars}
use Rattle.price_core.specs.declared.quote.Quotation.{Quotation}
use Rattle.session_core.specs.declared.day.Day.{Day}
use Rattle.session_core.specs.declared.state.Phase.{Phase}
use Rattle.session_core.specs.declared.state.Phase.TheVariants.{Shut}
use Rattle.session_core.specs.Durations.{five_minutes}
use Rattle.wire_in.specs.declared.record.Record.{Record}
use Rattle.wire_in.specs.declared.record.Record.TheVariants as in_
use Rattle.wire_in.specs.Records.{is_day, moment_of}
use Rattle.wire_out.specs.declared.message.Message.{Message}
use Rattle.pause_core.specs.Phases.{is_limit, is_trading}
use Rattle.window_core.specs.declared.window.Deal.{Deal}
use Rattle.window_core.specs.Deals.{live}
use Rattle.reopen_core.specs.declared.auction.Indication.{Indication}
use Rattle.wire_in.proofs.RecordKinds.{by_listing}
use Rattle.rulebook.specs.declared.event.Event.{Event}
use Rattle.rulebook.specs.declared.event.Event.TheVariants.{Accepted, Published}
use Rattle.rulebook.specs.declared.symbol.Banded.{Banded}
use Rattle.rulebook.specs.declared.symbol.Terms.{Terms}
use Rattle.rulebook.specs.Auction as auction
use Rattle.rulebook.specs.History.{Found, last, newest, now, publish, records, step_record, today}
use Rattle.rulebook.specs.Market.{day_record}
use Rattle.rulebook.specs.Rules as rules
use Rattle.rulebook.specs.Rules.{or_else}
use Rattle.rulebook.specs.Symbol as of
use Rattle.rulebook.specs.Symbol.{begins_run, counted_in, deals_in, deals_of, is_under_regulatory_halt_in, is_times, phase_in, quote_in}
use Rattle.rulebook.proofs.OtherRecords.{day_record-same}
use Rattle.symbol_core.specs.declared.state.Kept.{Kept}
use Rattle.symbol_core.specs.Auctions.{auction_by}
use Rattle.symbol_core.specs.Kept.{heard}
use Rattle.symbol_core.specs.Fresh.{IsFresh}
use Rattle.symbol_core.specs.Rests.{Rests, SymbolState, deals_today}
use Rattle.symbol_core.specs.Runs.{adoption_by, run_adopted, run_band, run_begun, run_quote}
use Rattle.symbol_core.specs.Silent.{AllSilent, IsOfOthers, IsSilent, SaysNothing}
use Rattle.symbol_core.specs.Taken.{renewed}
use Rattle.symbol_core.specs.Window.{SameLive}
use Rattle.symbol_core.proofs.Deals.{deals_from}
use Rattle.symbol_core.proofs.Histories.{begun-run, last-other, of_begun, on_run}
use Rattle.symbol_core.proofs.Live.{same_later, same_then}
use Rattle.symbol_core.proofs.Others.{deals-others, halted-others, indicated-others, quoted-others, terms-others, triggered-others}
use Rattle.symbol_core.proofs.Taken.{adoption-taken, auction-taken, auction_since, halted-taken, quote-taken, run_taken}

-- one more message that says nothing of it
rests-message : (mine : List ℕ → Bool) (held : SymbolState) (m : Message) (h : List Event) → IsSilent held.kept.id m → Rests mine held h → Rests mine held (Published m ∷ h)
rests-message mine held m h q r =
    record {
      terms = r.terms;
      phase = r.phase ∙ sym phase_is;
      since = r.since ∙ sym (ap (λ (o : Option (Found Phase)). option_map_or (λ state. state.moment) o 0) state_is);
      begun = r.begun ∙ ap (λ (b : Bool). if b then Some (now (today h)) else of.begun_in s (today h)) (sym none_begins);
      quote = r.quote ∙ sym (on_run (quote_in s) s m h none_begins (λ e. refl));
      band = r.band ∙ sym band_is;
      adopted = r.adopted ∙ sym (λ i. adoption_by (adopted_is i) (band_is i));
      straddling = r.straddling ∙ sym (ap (λ (o : Option (Found Bool)). option_map_or (λ straddle. straddle.value) o false) (last-other (of.straddle_of s) m (today h) q.straddle));
      halted = r.halted;
      auction = r.auction ∙ (λ i. auction_by (auction.is_paused (sym phase_is i)) (sym band_is i) (sym round_is i) (origin_is i) (indication_is i));
      prior_close = r.prior_close;
      triggered = r.triggered;
      carried = r.carried;
      deals = subst (λ (ds : List Deal). SameLive (now h) held.deals ds) (sym (deals_stay (day_record (records h)))) r.deals;
    }
  where
    s : ℕ
    s = held.kept.id

    state_is : last (of.state_of s) (Published m ∷ today h) ≡ last (of.state_of s) (today h)
    state_is = last-other (of.state_of s) m (today h) q.state

    none_begins : begins_run s m (today h) ≡ false
    none_begins = ap (λ (o : Option Phase). option_map_or is_trading o false && not (is_limit (phase_in s (today h)))) q.state

    none_pauses : auction.pauses s m ≡ false
    none_pauses = ap (λ (o : Option Phase). option_map_or auction.is_paused o false) q.state

    phase_is : of.phase (Published m ∷ h) s ≡ of.phase h s
    phase_is = ap (λ (o : Option (Found Phase)). option_map_or (λ state. state.value) o Shut) state_is

    band_is : of.last_band (Published m ∷ h) s ≡ of.last_band h s
    band_is = on_run (λ e. option_map (λ b. b.value) (last (of.band_of s) e)) s m h none_begins (λ e. ap (λ (o : Option (Found Banded)). option_map (λ b. b.value) o) (last-other (of.band_of s) m e q.band))

    round_is : auction.last_round (Published m ∷ h) s ≡ auction.last_round h s
    round_is = ap (λ (o : Option (Found (ℕ × Collars))). option_map auction.round_of o) (last-other (auction.collar_of s) m (today h) q.collar)

    origin_is : auction.origin h s ≡ auction.origin (Published m ∷ h) s
    origin_is = ap (λ (b : Bool). if b then auction.origin_of (phase_in s (today h)) else auction.origin_in s (today h)) (sym none_pauses)

    indication_is : auction.indication h s ≡ auction.indication (Published m ∷ h) s
    indication_is = ap (λ (b : Bool). if b then option_and_then (auction.indicated_by s) (newest (today h)) else auction.indication_in s (today h)) (sym none_pauses)

    none_adopts : of.adoption_of s m ≡ None
    none_adopts = ap (λ (o : Option Banded). option_and_then (λ b. if is_times b.cause then None else Some b) o) q.band

    adopted_is : of.adopted (Published m ∷ h) s ≡ of.adopted h s
    adopted_is = on_run (λ e. option_map_or (λ b. b.moment) (last (of.adoption_of s) e) 0) s m h none_begins (λ e. ap (λ (o : Option (Found Banded)). option_map_or (λ b. b.moment) o 0) (last-other (of.adoption_of s) m e none_adopts))

    counts : (day : Day) (t : ℕ) (e : List Event) → deals_from day s t (Published m ∷ e) ≡ deals_from day s t e
    counts day t e = ap (λ (o : Option Banded). deals_in day s [] (if (is_some o && not (is_some (last (of.band_of s) e))) && option_map_or (of.opens_before day s (t + five_minutes)) (newest e) false then Published m ∷ step_record e else Published m ∷ counted_in day s (t + five_minutes) e)) q.band

    deals_stay : (o : Option (Day × ℕ)) → option_map_or (λ day. deals_of day.0 (Published m ∷ h) s) o [] ≡ option_map_or (λ day. deals_of day.0 h s) o []
    deals_stay None = refl
    deals_stay (Some day) = of_begun (deals_from day.0 s) s m h false none_begins (counts day.0)

-- A symbol that rests does so after further messages that say nothing of it.
pub rests-silent : (mine : List ℕ → Bool) (held : SymbolState) (ms : List Message) (h : List Event) → AllSilent held.kept.id ms → Rests mine held h → Rests mine held (publish ms h)
rests-silent mine held [] h q r = r
rests-silent mine held (m ∷ ms) h q r = rests-silent mine held ms (Published m ∷ h) q.1 (rests-message mine held m h q.0 r)

-- other kept deals of which the same are live serve as well
pub rests-same : (mine : List ℕ → Bool) (k : Kept) (deals other : List Deal) (h : List Event) → SameLive (now h) other deals → Rests mine (record { kept = k; deals = deals; spare = 0 }) h → Rests mine (record { kept = k; deals = other; spare = 0 }) h
rests-same mine k deals other h same r =
    record {
      terms = r.terms;
      phase = r.phase;
      since = r.since;
      begun = r.begun;
      quote = r.quote;
      band = r.band;
      adopted = r.adopted;
      straddling = r.straddling;
      halted = r.halted;
      auction = r.auction;
      prior_close = r.prior_close;
      triggered = r.triggered;
      carried = r.carried;
      deals = same_then (now h) other deals (deals_today k.id h) same r.deals;
    }

-- one more record of others
rests-record : (mine : List ℕ → Bool) (held : SymbolState) (x : Record) (h : List Event) → is_day x ≡ false → IsOfOthers mine held.kept.id x → SameLive (moment_of x) held.deals (deals_today held.kept.id h) → Rests mine held h
    → Rests mine held (Accepted x ∷ h)
rests-record mine held x h not_day o same r =
    record {
      terms = r.terms ∙ sym (terms-others mine x (records h) not_day o.name);
      phase = along (λ t. held.kept.phase ≡ of.phase_in s t) r.phase;
      since = along (λ t. held.kept.since ≡ option_map_or (λ state. state.moment) (last (of.state_of s) t) 0) r.since;
      begun = along (λ t. run_begun held.kept ≡ of.begun_in s t) r.begun;
      quote = along (λ t. run_quote held.kept ≡ quote_in s (unwrap_or (of.run_in s t) [])) (r.quote ∙ sym (run_taken (quote_in s) x (of.run_in s (today h)) (λ e. quote-taken s x e ∙ ap (λ (q : Option Quotation). or_else q (quote_in s e)) (quoted-others s x o.symbol))));
      band = along (λ t. run_band held.kept ≡ option_map (λ b. b.value) (last (of.band_of s) (unwrap_or (of.run_in s t) []))) (r.band ∙ sym (run_taken (λ e. option_map (λ b. b.value) (last (of.band_of s) e)) x (of.run_in s (today h)) (λ e. refl)));
      adopted = along (λ t. run_adopted held.kept ≡ adoption_by (option_map_or (λ b. b.moment) (last (of.adoption_of s) (unwrap_or (of.run_in s t) [])) 0) (option_map (λ b. b.value) (last (of.band_of s) (unwrap_or (of.run_in s t) []))))
          (r.adopted ∙ sym (adoption-taken s x (of.run_in s (today h))));
      straddling = along (λ t. held.kept.straddling ≡ option_map_or (λ straddle. straddle.value) (last (of.straddle_of s) t) false) r.straddling;
      halted = along (λ t. held.kept.halted ≡ is_under_regulatory_halt_in s (records t)) (r.halted ∙ sym (halted-taken s x (records (today h)) ∙ halted-others s x (is_under_regulatory_halt_in s (records (today h))) o.symbol));
      auction = along (λ t. held.kept.auction ≡ auction_since s t) (r.auction ∙ sym (auction-taken s x (today h) ∙ ap (λ (i : Option Indication). heard i (auction_since s (today h))) (indicated-others s x o.symbol)));
      prior_close = r.prior_close ∙ ap (λ (o : Option Terms). of.prior_close_of o) (sym (terms-others mine x (records h) not_day o.name));
      triggered =
          r.triggered
          ∙ sym (triggered_stays (day_record (records h)))
          ∙ ap (λ (d : Option (Day × ℕ)). option_map_or (λ day. rules.triggered_in mine day.0 s (x ∷ records h)) d false) (sym (day_record-same x (records h) not_day));
      carried = r.carried ∙ ap (λ (b : Bool). let part = (if b then records h else rules.before_day (records h)) in option_map_or (λ day. rules.triggered_in mine day.0 s part) (day_record part) false) (sym not_day);
      deals =
          subst (λ (d : Option (Day × ℕ)). SameLive (moment_of x) held.deals (option_map_or (λ day. deals_of day.0 (Accepted x ∷ h) s) d [])) (sym (day_record-same x (records h) not_day))
          (subst (λ (ds : List Deal). SameLive (moment_of x) held.deals ds) (sym (deals_stay (day_record (records h)))) same);
    }
  where
    s : ℕ
    s = held.kept.id

    today_is : today (Accepted x ∷ h) ≡ Accepted x ∷ today h
    today_is = ap (λ (b : Bool). if b then Accepted x ∷ [] else Accepted x ∷ today h) not_day

    along : (P : List Event → Type 0) → P (Accepted x ∷ today h) → P (today (Accepted x ∷ h))
    along P p = subst P (sym today_is) p

    triggered_stays : (d : Option (Day × ℕ)) → option_map_or (λ day. rules.triggered_in mine day.0 s (x ∷ records h)) d false ≡ option_map_or (λ day. rules.triggered_in mine day.0 s (records h)) d false
    triggered_stays None = refl
    triggered_stays (Some day) = triggered-others mine day.0 s x (records h) not_day o.symbol

    deals_at : (day : Day) → deals_of day (Accepted x ∷ h) s ≡ deals_of day h s
    deals_at day =
        ap (λ (t : List Event). deals_in day s [] (counted_in day s (unwrap_or (of.begun_in s t) 0 + five_minutes) (unwrap_or (of.run_in s t) []))) today_is
        ∙ run_taken (λ e. deals_in day s [] (counted_in day s (of.begun h s + five_minutes) e)) x (of.run_in s (today h)) (λ e. deals-others day s x (counted_in day s (of.begun h s + five_minutes) e) o.symbol)

    deals_stay : (d : Option (Day × ℕ)) → option_map_or (λ day. deals_of day.0 (Accepted x ∷ h) s) d [] ≡ option_map_or (λ day. deals_of day.0 h s) d []
    deals_stay None = refl
    deals_stay (Some day) = deals_at day.0

-- how much room there is makes no difference
pub rests-with : (mine : List ℕ → Bool) (held : SymbolState) (spare : ℕ) (h : List Event) → Rests mine held h → Rests mine (record held { spare = spare }) h
rests-with mine held spare h r =
    record {
      terms = r.terms;
      phase = r.phase;
      since = r.since;
      begun = r.begun;
      quote = r.quote;
      band = r.band;
      adopted = r.adopted;
      straddling = r.straddling;
      halted = r.halted;
      auction = r.auction;
      prior_close = r.prior_close;
      triggered = r.triggered;
      carried = r.carried;
      deals = r.deals;
    }

-- A symbol that rests does so after a record of others that is no day, as a clock or an index tick at which it isn't evaluated,
-- and messages that say nothing of it.
pub rests-apart : (mine : List ℕ → Bool) (held : SymbolState) (x : Record) (others : List Message) (h : List Event) → is_day x ≡ false → IsOfOthers mine held.kept.id x → AllSilent held.kept.id others → now h ≤ moment_of x
    → Rests mine held h → Rests mine held (publish others (Accepted x ∷ h))
rests-apart mine held x others h not_day o q later r =
    rests-silent mine held others (Accepted x ∷ h) q (rests-record mine held x h not_day o (same_later (now h) (moment_of x) held.deals (deals_today held.kept.id h) later r.deals) r)

-- A new day: nothing is kept but whether the day before triggered.
pub rests-day : (mine : List ℕ → Bool) (held : SymbolState) (t : ℕ) (day : Day) (index : ℕ) (h : List Event) → Rests mine held h
    → Rests mine (record { kept = renewed held.kept.id held.kept.short.triggered; deals = []; spare = 0 }) (Accepted (in_.Day t day index) ∷ h)
rests-day mine held t day index h r =
    record {
      terms = refl;
      phase = refl;
      since = refl;
      begun = refl;
      quote = refl;
      band = refl;
      adopted = refl;
      straddling = refl;
      halted = refl;
      auction = refl;
      prior_close = refl;
      triggered = refl;
      carried = r.triggered;
      deals = record { at = λ u le. refl };
    }

-- the same of a record that is a day
pub rests-renewed : (mine : List ℕ → Bool) (held : SymbolState) (x : Record) (h : List Event) → is_day x ≡ true → Rests mine held h
    → Rests mine (record { kept = renewed held.kept.id held.kept.short.triggered; deals = []; spare = 0 }) (Accepted x ∷ h)
rests-renewed mine held x h e r =
    by_listing (λ y. is_day y ≡ true → Rests mine (record { kept = renewed held.kept.id held.kept.short.triggered; deals = []; spare = 0 }) (Accepted y ∷ h))
    (λ t d c e. rests-day mine held t d c h r) (λ t n k l c e. cc) (λ y o e. let both : true ≡ false = sym e ∙ o.no_day in cc) x e

-- Before its first listing a symbol has said nothing.

rests-empty : (mine : List ℕ → Bool) (s : ℕ) → Rests mine (record { kept = renewed s false; deals = []; spare = 0 }) []
rests-empty mine s =
    record {
      terms = refl;
      phase = refl;
      since = refl;
      begun = refl;
      quote = refl;
      band = refl;
      adopted = refl;
      straddling = refl;
      halted = refl;
      auction = refl;
      prior_close = refl;
      triggered = refl;
      carried = refl;
      deals = record { at = λ u le. refl };
    }

-- outside a run no deals count
none_counts : (s : ℕ) (day : Day) (h : List Event) → None ≡ of.begun_in s (today h) → deals_of day h s ≡ []
none_counts s day h e = by (of.run_in s (today h)) (ap (λ (o : Option ℕ). is_some o) e ∙ begun-run s (today h))
  where
    by : (o : Option (List Event)) → false ≡ is_some o → deals_in day s [] (counted_in day s (of.begun h s + five_minutes) (unwrap_or o [])) ≡ []
    by None f = refl
    by (Some e) f = cc

none_today : (s : ℕ) (h : List Event) → None ≡ of.begun_in s (today h) → deals_today s h ≡ []
none_today s h e = by (day_record (records h))
  where
    by : (d : Option (Day × ℕ)) → option_map_or (λ day. deals_of day.0 h s) d [] ≡ []
    by None = refl
    by (Some day) = none_counts s day.0 h e

pub rests-new : (mine : List ℕ → Bool) (s : ℕ) (h : List Event) → SaysNothing mine s h → Rests mine (record { kept = renewed s false; deals = []; spare = 0 }) h
rests-new mine s [] q = rests-empty mine s
rests-new mine s (Published m ∷ h) q = rests-message mine (record { kept = renewed s false; deals = []; spare = 0 }) m h q.0 (rests-new mine s h q.1)
rests-new mine s (Accepted x ∷ h) q = by (is_day x) refl (rests-new mine s h q.1)
  where
    fresh : SymbolState
    fresh = record { kept = renewed s false; deals = []; spare = 0 }

    by : (b : Bool) → is_day x ≡ b → Rests mine fresh h → Rests mine fresh (Accepted x ∷ h)
    by true e before = rests-renewed mine fresh x h e before
    by false e before = rests-record mine fresh x h e q.0 (record { at = λ u le. ap (λ (ds : List Deal). live u ds) (sym (none_today s h before.begun)) }) before

-- Of what a symbol rested on before a day, nothing is left at it but whether its restriction is carried.

begins_day : (mine : List ℕ → Bool) (s spare : ℕ) (carried : Bool) (x : Record) (h : List Event) → is_day x ≡ true → rules.is_carried (Accepted x ∷ h) mine s ≡ carried
    → Rests mine (record { kept = renewed s carried; deals = []; spare = spare }) (Accepted x ∷ h)
begins_day mine s spare carried x h =
    by_listing
    (λ y. is_day y ≡ true → rules.is_carried (Accepted y ∷ h) mine s ≡ carried → Rests mine (record { kept = renewed s carried; deals = []; spare = spare }) (Accepted y ∷ h))
    (λ t day index is e. record {
      terms = refl;
      phase = refl;
      since = refl;
      begun = refl;
      quote = refl;
      band = refl;
      adopted = refl;
      straddling = refl;
      halted = refl;
      auction = refl;
      prior_close = refl;
      triggered = refl;
      carried = sym e;
      deals = record { at = λ u le. refl };
    })
    (λ t n k l c is e. cc) (λ y o is e. let both : true ≡ false = sym is ∙ o.no_day in cc) x

pub rests-fresh : (mine : List ℕ → Bool) (s : ℕ) (carried : Bool) (held : SymbolState) (x : Record) (h : List Event) → IsFresh s carried held → is_day x ≡ true
    → rules.is_carried (Accepted x ∷ h) mine s ≡ carried → Rests mine held (Accepted x ∷ h)
rests-fresh mine s carried held x h fresh begins e =
    subst (λ (q : SymbolState). Rests mine q (Accepted x ∷ h)) (λ i. record { kept = sym fresh.kept i; deals = sym fresh.deals i; spare = held.spare }) (begins_day mine s held.spare carried x h begins e)
