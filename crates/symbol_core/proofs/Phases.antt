-- A State message of the symbol: the kept state that the code leaves stands for the history with it.
use Rattle.std.proofs.Common.{◌≡◌, ℕ, Bool, true, false, List, [], ◌∷◌, ◌++◌, refl, sym, ap, ◌∙◌, subst}
use Rattle.std.specs.Prelude.{Option, Some, None, option_and_then, if◌then◌else◌, option_map, ◌&&◌, ◌||◌, not, is_some, option_to_list}
use Rattle.session_core.specs.declared.state.Phase.{Phase}
use Rattle.wire_out.specs.declared.message.Message.{Message}
use Rattle.rulebook.specs.declared.event.Event.{Event}
use Rattle.rulebook.specs.declared.event.Event.TheVariants.{Accepted, Published}
use Rattle.rulebook.specs.History.{now, newest, step_record, today, last, Found}
use Rattle.pause_core.specs.Phases.{is_trading, is_limit}
use Rattle.rulebook.specs.Symbol.{begins_run, phase_in, quote_in, deals_in, deals_of}
use Rattle.window_core.specs.declared.window.Deal.{Deal}
use Rattle.symbol_core.specs.declared.state.Step.{Step}
use Rattle.symbol_core.specs.InStep.{InStep}
use Rattle.reopen_core.specs.declared.auction.Indication.{Indication}
use Rattle.reopen_core.specs.declared.auction.Origin.{Origin}
use Rattle.reopen_core.specs.declared.auction.Round.{Round}
use Rattle.reopen_core.specs.AuctionState.{AuctionState}
use Rattle.reopen_core.specs.Collars.{first_collars}
use Rattle.rulebook.specs.declared.symbol.Banded.{Banded}
use Rattle.price_core.specs.declared.quote.Collars.{Collars}
use Rattle.symbol_core.specs.Auctions.{auction_by, auction_of}
use Rattle.symbol_core.specs.Kept.{auction_begun, begins_auction, turned, quoted_by, begins, run_of, with_auction}
use Rattle.symbol_core.specs.Runs.{adoption_by, run_adopted, run_band, run_begun, run_quote}
use Rattle.symbol_core.specs.Window.{SameLive, counted_deal}
use Rattle.symbol_core.specs.Stands.{Stands}
use Rattle.symbol_core.proofs.Deals.{deals_said, window_begins}
use Rattle.symbol_core.proofs.Runs.{by_test}
use Rattle.symbol_core.proofs.OtherMessages.{RunStays, collared-round, run_stays, stands-collared}
use Rattle.rulebook.proofs.Histories.{now-today}
use Rattle.symbol_core.proofs.Histories.{newest-today, of_run, last-own, state-own, begins-own, pauses-own, record_alone}
use Rattle.session_core.specs.declared.state.Phase.TheVariants.{Shut}
use Rattle.session_core.specs.declared.state.Phase.TheVariants as phase
use Rattle.wire_in.specs.declared.record.Record.{Record}
use Rattle.std.specs.Option.{option_map_or}
use Rattle.wire_out.specs.declared.message.Message.TheVariants as out
use Rattle.rulebook.specs.Auction as auction
use Rattle.rulebook.specs.Symbol as of
use Rattle.wire_in.specs.declared.record.Record.TheVariants as in_

-- the quotation that a record alone has
pub quote-record : (s : ℕ) (x : Record) → quote_in s (Accepted x ∷ []) ≡ quoted_by s x
quote-record s (in_.Day t d c) = refl
quote-record s (in_.Listing t n k l c) = refl
quote-record s (in_.Trade t i n p q f) = refl
quote-record s (in_.Cancel t i n) = refl
quote-record s (in_.Quote t i b o x y) = refl
quote-record s (in_.IndexTick t v) = refl
quote-record s (in_.Clock t) = refl
quote-record s (in_.Notice t i k) = refl
quote-record s (in_.Indication t i p u) = refl

-- the bands that a phase leaves
turned-band : (k : InStep) (step : Step) (p : Phase) → run_band (turned k step p).kept ≡ (if begins k.kept p then None else run_band k.kept)
turned-band k step p = by_test (λ o. option_and_then (λ run. run.band) o) (begins k.kept p) (Some (run_of k.kept.id step)) k.kept.run

-- where this is then the auction
pub stands-turned-with : (mine : List ℕ → Bool) (k : InStep) (deals : List Deal) (step : Step) (p : Phase) (a : Option AuctionState) (h : List Event) → a ≡ auction_of (Published (out.State k.kept.id p) ∷ h) k.kept.id → Stands mine k deals step h
    → Stands mine (with_auction (turned k step p) a) deals step (Published (out.State k.kept.id p) ∷ h)
stands-turned-with mine k deals step p a h is s =
    record {
      moment = s.moment;
      stopped = s.stopped;
      input = s.input;
      terms = s.terms;
      phase = sym (ap (λ (o : Option (Found Phase)). option_map_or (λ state. state.value) o Shut) last_is);
      since = s.moment ∙ sym (now-today h) ∙ sym (ap (λ (o : Option (Found Phase)). option_map_or (λ state. state.moment) o 0) last_is);
      begun = by_test (λ o. option_map (λ run. run.reference.begun) o) (begins k.kept p) (Some (run_of k.kept.id step)) k.kept.run ∙ begun_now;
      quote = by_test (λ o. option_and_then (λ run. run.quote) o) (begins k.kept p) (Some (run_of k.kept.id step)) k.kept.run ∙ quote_now;
      band = turned-band k step p ∙ band_now;
      adopted = by_test (λ o. option_and_then (λ run. run.reference.last) o) (begins k.kept p) (Some (run_of k.kept.id step)) k.kept.run ∙ adoption_now (begins k.kept p) ∙ (λ i. adoption_by (adopted_now i) (band_now i));
      straddling = s.straddling;
      halted = s.halted;
      auction = is;
      prior_close = s.prior_close;
      triggered = s.triggered;
      carried = s.carried;
      left_limit = rw (state-own k.kept.id p, ← s.phase, ← s.left_limit);
      released = s.released;
      deal = s.deal;
      restricts = s.restricts;
      window = rw (deals_said step.day k.kept.id step.input m h (begins k.kept p) begun_is s.input (λ t r. refl)) (subst (λ (own : List Deal). SameLive (now h) ((if begins k.kept p || k.opened.is_fresh then [] else deals) ++ own) (if begins k.kept p then deals_in step.day k.kept.id [] (Accepted step.input ∷ []) else deals_of step.day h k.kept.id)) (sym (own_is (begins k.kept p))) (window_begins (now h) (begins k.kept p) k.opened.is_fresh deals (option_to_list k.opened.deal) (counted_deal k) (deals_in step.day k.kept.id [] (Accepted step.input ∷ [])) (deals_of step.day h k.kept.id) s.deal s.window));
    }
  where
    m : Message
    m = out.State k.kept.id p

    last_is : last (of.state_of k.kept.id) (Published m ∷ today h) ≡ Some (record { moment = now (today h); value = p })
    last_is = last-own (of.state_of k.kept.id) m p (today h) (state-own k.kept.id p)

    begun_is : begins_run k.kept.id m (today h) ≡ begins k.kept p
    begun_is = begins-own k.kept.id p (today h) ∙ ap (λ (q : Phase). is_trading p && not (is_limit q)) (sym s.phase)

    alone : step_record (today h) ≡ Accepted step.input ∷ []
    alone = record_alone step.input h s.input

    in_run : {X : Type 0} (value : List Event → X) → ((r : List Event) → value (Published m ∷ r) ≡ value r) → value (of.run (Published m ∷ h) k.kept.id) ≡ (if begins_run k.kept.id m (today h) then value (step_record (today h)) else value (of.run h k.kept.id))
    in_run value ignores = of_run value m (begins_run k.kept.id m (today h)) (today h) (of.run_in k.kept.id (today h)) ignores

    begun_now : (if begins k.kept p then Some step.moment else run_begun k.kept) ≡ of.begun_in k.kept.id (today (Published m ∷ h))
    begun_now = rw (begun_is, now-today h, ← s.begun, ← s.moment)

    quote_now : (if begins k.kept p then quoted_by k.kept.id step.input else run_quote k.kept) ≡ of.quote (Published m ∷ h) k.kept.id
    quote_now = rw (in_run (quote_in k.kept.id) (λ r. refl), begun_is, alone, quote-record, ← s.quote)

    band_now : (if begins k.kept p then None else run_band k.kept) ≡ of.last_band (Published m ∷ h) k.kept.id
    band_now = rw (in_run (λ r. option_map (λ b. b.value) (last (of.band_of k.kept.id) r)) (λ r. refl), begun_is, alone, ← s.band)

    adopted_now : (if begins k.kept p then 0 else of.adopted h k.kept.id) ≡ of.adopted (Published m ∷ h) k.kept.id
    adopted_now = rw (in_run (λ r. option_map_or (λ b. b.moment) (last (of.adoption_of k.kept.id) r) 0) (λ r. refl), begun_is, alone)

    adoption_now : (b : Bool) → (if b then None else run_adopted k.kept) ≡ adoption_by (if b then 0 else of.adopted h k.kept.id) (if b then None else run_band k.kept)
    adoption_now true = refl
    adoption_now false = s.adopted ∙ ap (adoption_by (of.adopted h k.kept.id)) (sym s.band)

    own_is : (b : Bool) → (if is_some (if b then Some (run_of k.kept.id step) else k.kept.run) then option_to_list k.opened.deal else []) ≡ (if b then option_to_list k.opened.deal else counted_deal k)
    own_is true = refl
    own_is false = refl

-- without an auction
none_begins : (p : Phase) (limit : Bool) (band : Option Banded) (round : Option Round) (o : Origin) (i : Option Indication) → (auction.is_paused p && is_some band) ≡ false → None ≡ auction_by (auction.is_paused p) (if is_trading p && not limit then None else band) round o i
none_begins phase.Shut limit band round o i e = refl
none_begins phase.Trading limit band round o i e = refl
none_begins phase.LimitLow limit band round o i e = refl
none_begins phase.LimitHigh limit band round o i e = refl
none_begins phase.Paused limit None round o i e = refl
none_begins phase.Paused limit (Some b) round o i e = absurd cc
none_begins phase.Closing limit band round o i e = refl
none_begins phase.Halted limit band round o i e = refl
none_begins phase.Stopped limit band round o i e = refl
none_begins phase.Closed limit band round o i e = refl

pub stands-turned : (mine : List ℕ → Bool) (k : InStep) (deals : List Deal) (step : Step) (p : Phase) (h : List Event) → begins_auction k.kept p ≡ false → Stands mine k deals step h → Stands mine (turned k step p) deals step (Published (out.State k.kept.id p) ∷ h)
stands-turned mine k deals step p h alone s = stands-turned-with mine k deals step p None h none_is s
  where
    after : List Event
    after = Published (out.State k.kept.id p) ∷ h

    turns : Stands mine (with_auction (turned k step p) (auction_of after k.kept.id)) deals step after
    turns = stands-turned-with mine k deals step p (auction_of after k.kept.id) h refl s

    none_is : None ≡ auction_of after k.kept.id
    none_is =
        none_begins p (is_limit k.kept.phase) (run_band k.kept) (auction.last_round after k.kept.id) (auction.origin after k.kept.id) (auction.indication after k.kept.id) alone
        ∙ (λ i. auction_by (auction.is_paused (turns.phase i)) ((sym (turned-band k step p) ∙ turns.band) i) (auction.last_round after k.kept.id) (auction.origin after k.kept.id) (auction.indication after k.kept.id))

-- a pause leaves the run as it is
pause_keeps : (p : Phase) (limit : Bool) (band : Option Banded) → auction.is_paused p ≡ true → band ≡ (if is_trading p && not limit then None else band)
pause_keeps phase.Shut limit band e = absurd cc
pause_keeps phase.Trading limit band e = absurd cc
pause_keeps phase.LimitLow limit band e = absurd cc
pause_keeps phase.LimitHigh limit band e = absurd cc
pause_keeps phase.Paused limit band e = refl
pause_keeps phase.Closing limit band e = absurd cc
pause_keeps phase.Halted limit band e = absurd cc
pause_keeps phase.Stopped limit band e = absurd cc
pause_keeps phase.Closed limit band e = absurd cc

-- A pause with an auction: the phase, and then the collars of its first round.
pub stands-paused : (mine : List ℕ → Bool) (k : InStep) (deals : List Deal) (step : Step) (p : Phase) (b : Banded) (h : List Event) → auction.is_paused p ≡ true → run_band k.kept ≡ Some b → Stands mine k deals step h
    → let c = first_collars (auction.origin_of k.kept.phase) b.bands b.reference in Stands mine (with_auction (turned k step p) (Some (auction_begun k.kept step b))) deals step (Published (out.Collar k.kept.id 0 c.lower c.upper) ∷ Published (out.State k.kept.id p) ∷ h)
stands-paused mine k deals step p b h paused banded s = stands-collared mine (with_auction (turned k step p) (auction_of first k.kept.id)) deals step 0 c (Some (auction_begun k.kept step b)) first auction_is turns
  where
    c : Collars
    c = first_collars (auction.origin_of k.kept.phase) b.bands b.reference

    first : List Event
    first = Published (out.State k.kept.id p) ∷ h

    m : Message
    m = out.Collar k.kept.id 0 c.lower c.upper

    turns : Stands mine (with_auction (turned k step p) (auction_of first k.kept.id)) deals step first
    turns = stands-turned-with mine k deals step p (auction_of first k.kept.id) h refl s

    run : RunStays step.day k.kept.id m first
    run = run_stays step.day k.kept.id m step.input first s.input refl (λ r. refl) (λ r. refl) (λ t r. refl)

    is_paused : true ≡ auction.is_paused (of.phase first k.kept.id)
    is_paused = sym paused ∙ ap (λ (q : Phase). auction.is_paused q) turns.phase

    band_is : Some b ≡ of.last_band (Published m ∷ first) k.kept.id
    band_is = sym banded ∙ pause_keeps p (is_limit k.kept.phase) (run_band k.kept) paused ∙ sym (turned-band k step p) ∙ turns.band ∙ sym run.band

    pauses : auction.pauses k.kept.id (out.State k.kept.id p) ≡ true
    pauses = pauses-own k.kept.id p ∙ paused

    origin_is : auction.origin_of k.kept.phase ≡ auction.origin first k.kept.id
    origin_is =
        ap (λ (q : Phase). auction.origin_of q) s.phase
        ∙ ap (λ (v : Bool). if v then auction.origin_of (phase_in k.kept.id (today h)) else auction.origin_in k.kept.id (today h)) (sym pauses)

    indication_is : auction.indicated_by k.kept.id step.input ≡ auction.indication first k.kept.id
    indication_is =
        ap (λ (o : Option Record). option_and_then (auction.indicated_by k.kept.id) o) (sym (newest-today h ∙ s.input))
        ∙ ap (λ (v : Bool). if v then option_and_then (auction.indicated_by k.kept.id) (newest (today h)) else auction.indication_in k.kept.id (today h)) (sym pauses)

    auction_is : Some (auction_begun k.kept step b) ≡ auction_of (Published m ∷ first) k.kept.id
    auction_is = λ i. auction_by (is_paused i) (band_is i) (collared-round k.kept.id 0 step.moment c first s.moment i) (origin_is i) (indication_is i)
