-- A message that says nothing of the symbol leaves what is kept of it.
use Rattle.std.proofs.Common.{◌≡◌, ℕ, ◌+◌, Bool, false, List, [], ◌∷◌, refl, sym, ap, ◌∙◌, subst}
use Rattle.std.specs.Prelude.{Option, Some, None, if◌then◌else◌, option_map, option_and_then, ◌&&◌, ◌||◌, not, is_some}
use Rattle.std.specs.Option.{option_map_or}
use Rattle.session_core.specs.declared.state.Phase.{Phase}
use Rattle.session_core.specs.declared.state.Phase.TheVariants.{Shut}
use Rattle.wire_out.specs.declared.message.Message.{Message}
use Rattle.rulebook.specs.declared.symbol.Banded.{Banded}
use Rattle.rulebook.specs.declared.event.Event.{Event}
use Rattle.rulebook.specs.declared.event.Event.TheVariants.{Published}
use Rattle.rulebook.specs.History.{Found, now, newest, step_record, open_step, publish, today, last}
use Rattle.rulebook.specs.Market.{is_market_halted}
use Rattle.session_core.specs.Durations.{five_minutes}
use Rattle.rulebook.specs.Symbol.{begins_run, counted_in, is_times, phase_in, deals_in}
use Rattle.pause_core.specs.Phases.{is_trading, is_limit}
use Rattle.window_core.specs.declared.window.Deal.{Deal}
use Rattle.symbol_core.specs.declared.state.Step.{Step}
use Rattle.symbol_core.specs.InStep.{InStep}
use Rattle.symbol_core.specs.Silent.{IsSilent, AllSilent}
use Rattle.symbol_core.specs.Auctions.{auction_by}
use Rattle.symbol_core.specs.Stands.{Stands}
use Rattle.symbol_core.proofs.Deals.{deals_from}
use Rattle.symbol_core.proofs.Histories.{last-other}
use Rattle.symbol_core.proofs.OtherMessages.{RunStays, last_adoption, run_stays}
use Rattle.wire_out.specs.declared.message.Message.TheVariants as out
use Rattle.price_core.specs.declared.quote.Collars.{Collars}
use Rattle.rulebook.specs.Auction as auction
use Rattle.rulebook.specs.Rules as rules
use Rattle.rulebook.specs.Symbol as of

pub stands-apart : (mine : List ℕ → Bool) (k : InStep) (deals : List Deal) (step : Step) (m : Message) (h : List Event) → IsSilent k.kept.id m → Stands mine k deals step h
    → Stands mine k deals (record step { stopped = is_market_halted (Published m ∷ h) }) (Published m ∷ h)
stands-apart mine k deals step m h q s =
    record {
      moment = s.moment;
      stopped = refl;
      input = s.input;
      terms = s.terms;
      phase = s.phase ∙ sym phase_is;
      since = s.since ∙ sym (ap (λ (o : Option (Found Phase)). option_map_or (λ state. state.moment) o 0) state_is);
      begun = s.begun ∙ ap (λ (b : Bool). if b then Some (now (today h)) else of.begun_in k.kept.id (today h)) (sym none_begins);
      quote = s.quote ∙ sym run.quote;
      band = s.band ∙ sym run.band;
      adopted = s.adopted ∙ sym (last_adoption run);
      straddling = s.straddling ∙ sym (ap (λ (o : Option (Found Bool)). option_map_or (λ straddle. straddle.value) o false) (last-other (of.straddle_of k.kept.id) m (today h) q.straddle));
      halted = s.halted;
      auction = s.auction ∙ (λ i. auction_by (auction.is_paused (sym phase_is i)) (sym run.band i) (sym round_is i) (origin_is i) (indication_is i));
      prior_close = s.prior_close;
      triggered = s.triggered;
      carried = s.carried;
      left_limit = s.left_limit ∙ ap (λ (o : Option Phase). (option_map_or is_trading o false && is_limit (of.phase h k.kept.id)) || rules.has_left_limit h k.kept.id) (sym q.state);
      released = s.released ∙ sym (ap (λ (o : Option (Found ℕ)). option_map (λ release. release.value) o) (last-other (rules.release_of k.kept.id) m (open_step h) q.release));
      deal = s.deal;
      restricts = s.restricts;
      window = rw run.deals s.window;
    }
  where
    state_is : last (of.state_of k.kept.id) (Published m ∷ today h) ≡ last (of.state_of k.kept.id) (today h)
    state_is = last-other (of.state_of k.kept.id) m (today h) q.state

    none_begins : begins_run k.kept.id m (today h) ≡ false
    none_begins = ap (λ (o : Option Phase). option_map_or is_trading o false && not (is_limit (phase_in k.kept.id (today h)))) q.state

    none_pauses : auction.pauses k.kept.id m ≡ false
    none_pauses = ap (λ (o : Option Phase). option_map_or auction.is_paused o false) q.state

    phase_is : of.phase (Published m ∷ h) k.kept.id ≡ of.phase h k.kept.id
    phase_is = ap (λ (o : Option (Found Phase)). option_map_or (λ state. state.value) o Shut) state_is

    round_is : auction.last_round (Published m ∷ h) k.kept.id ≡ auction.last_round h k.kept.id
    round_is = ap (λ (o : Option (Found (ℕ × Collars))). option_map auction.round_of o) (last-other (auction.collar_of k.kept.id) m (today h) q.collar)

    origin_is : auction.origin h k.kept.id ≡ auction.origin (Published m ∷ h) k.kept.id
    origin_is = ap (λ (b : Bool). if b then auction.origin_of (phase_in k.kept.id (today h)) else auction.origin_in k.kept.id (today h)) (sym none_pauses)

    indication_is : auction.indication h k.kept.id ≡ auction.indication (Published m ∷ h) k.kept.id
    indication_is = ap (λ (b : Bool). if b then option_and_then (auction.indicated_by k.kept.id) (newest (today h)) else auction.indication_in k.kept.id (today h)) (sym none_pauses)

    none_adopts : of.adoption_of k.kept.id m ≡ None
    none_adopts = ap (λ (o : Option Banded). option_and_then (λ b. if is_times b.cause then None else Some b) o) q.band

    counts : (t : ℕ) (r : List Event) → deals_from step.day k.kept.id t (Published m ∷ r) ≡ deals_from step.day k.kept.id t r
    counts t r = ap (λ (o : Option Banded). deals_in step.day k.kept.id [] (if (is_some o && not (is_some (last (of.band_of k.kept.id) r))) && option_map_or (of.opens_before step.day k.kept.id (t + five_minutes)) (newest r) false then Published m ∷ step_record r else Published m ∷ counted_in step.day k.kept.id (t + five_minutes) r)) q.band

    run : RunStays step.day k.kept.id m h
    run = run_stays step.day k.kept.id m step.input h s.input none_begins (λ r. last-other (of.band_of k.kept.id) m r q.band) (λ r. last-other (of.adoption_of k.kept.id) m r none_adopts) counts

pub stands-others : (mine : List ℕ → Bool) (k : InStep) (deals : List Deal) (step : Step) (ms : List Message) (h : List Event) → AllSilent k.kept.id ms → Stands mine k deals step h
    → Stands mine k deals (record step { stopped = is_market_halted (publish ms h) }) (publish ms h)
stands-others mine k deals step [] h q s = subst (λ (b : Bool). Stands mine k deals (record step { stopped = b }) h) s.stopped s
stands-others mine k deals step (m ∷ ms) h q s = stands-others mine k deals (record step { stopped = is_market_halted (Published m ∷ h) }) ms (Published m ∷ h) q.1 (stands-apart mine k deals step m h q.0 s)

-- that it is listed leaves a symbol as it is
pub stands-listed : (mine : List ℕ → Bool) (k : InStep) (deals : List Deal) (step : Step) (name : List ℕ) (h : List Event) → Stands mine k deals step h → Stands mine k deals step (Published (out.Listed k.kept.id name) ∷ h)
stands-listed mine k deals step name h s =
    subst (λ (b : Bool). Stands mine k deals (record step { stopped = b }) (Published (out.Listed k.kept.id name) ∷ h)) (sym s.stopped)
    (stands-apart mine k deals step (out.Listed k.kept.id name) h (record { state = refl; band = refl; straddle = refl; collar = refl; release = refl }) s)
