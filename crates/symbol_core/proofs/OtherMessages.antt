-- A message of the symbol that is no State: the kept state that the code leaves stands for the history with it.
use Rattle.std.proofs.Common.{◌≡◌, ℕ, ◌+◌, Bool, true, false, List, [], ◌∷◌, ◌++◌, refl, sym, ap, ◌∙◌, subst}
use Rattle.std.specs.Prelude.{Option, Some, None, if◌then◌else◌, option_map, option_and_then, unwrap_or, is_some, ◌&&◌, ◌||◌, not, option_to_list}
use Rattle.std.specs.Option.{option_map_or}
use Rattle.wire_out.specs.declared.message.Message.{Message}
use Rattle.wire_out.specs.declared.message.ShortKind.{ShortKind}
use Rattle.rulebook.specs.declared.symbol.Banded.{Banded}
use Rattle.price_core.specs.declared.quote.Collars.{Collars}
use Rattle.session_core.specs.declared.state.Phase.{Phase}
use Rattle.reopen_core.specs.declared.auction.Indication.{Indication}
use Rattle.reopen_core.specs.declared.auction.Origin.{Origin}
use Rattle.reopen_core.specs.declared.auction.Round.{Round}
use Rattle.reopen_core.specs.AuctionState.{AuctionState}
use Rattle.rulebook.specs.declared.event.Event.{Event}
use Rattle.rulebook.specs.declared.event.Event.TheVariants.{Accepted, Published}
use Rattle.rulebook.specs.History.{Found, now, newest, open_step, today, last}
use Rattle.rulebook.specs.Symbol.{begins_run, quote_in, is_times, deals_in, deals_of}
use Rattle.window_core.specs.declared.window.Deal.{Deal}
use Rattle.symbol_core.specs.declared.state.Run.{Run}
use Rattle.symbol_core.specs.declared.state.Step.{Step}
use Rattle.symbol_core.specs.InStep.{InStep}
use Rattle.symbol_core.specs.Auctions.{auction_by, auction_of}
use Rattle.symbol_core.specs.Kept.{in_round, straddled, with_auction, released, banded, restarts, run_banded}
use Rattle.symbol_core.specs.Runs.{adoption_by, run_band}
use Rattle.session_core.specs.declared.day.Day.{Day}
use Rattle.wire_in.specs.declared.record.Record.{Record}
use Rattle.session_core.specs.Durations.{five_minutes}
use Rattle.symbol_core.specs.Window.{SameLive, counted_deal}
use Rattle.symbol_core.specs.Stands.{Stands}
use Rattle.symbol_core.proofs.Deals.{deals_from, deals_said, deals_banded, window_begins}
use Rattle.symbol_core.proofs.Histories.{same, newest-today, newest-run, now-run, begun-run, on_run, last-own, last-other}
use Rattle.symbol_core.proofs.Runs.{has_begun, run_keeps}
use Rattle.rulebook.proofs.Histories.{now-today}
use Rattle.wire_out.specs.declared.message.Message.TheVariants as out
use Rattle.rulebook.specs.Auction as auction
use Rattle.rulebook.specs.Rules as rules
use Rattle.rulebook.specs.Symbol as of

-- a message that is neither a State nor a Band leaves what the run has
pub record RunStays (day : Day) (s : ℕ) (m : Message) (h : List Event) : Type 0 where
  pub quote : of.quote (Published m ∷ h) s ≡ of.quote h s
  pub band : of.last_band (Published m ∷ h) s ≡ of.last_band h s
  pub adopted : of.adopted (Published m ∷ h) s ≡ of.adopted h s
  pub deals : deals_of day (Published m ∷ h) s ≡ deals_of day h s

pub run_stays : (day : Day) (s : ℕ) (m : Message) (x : Record) (h : List Event) → newest h ≡ Some x → begins_run s m (today h) ≡ false
    → ((r : List Event) → last (of.band_of s) (Published m ∷ r) ≡ last (of.band_of s) r)
    → ((r : List Event) → last (of.adoption_of s) (Published m ∷ r) ≡ last (of.adoption_of s) r)
    → ((t : ℕ) (r : List Event) → deals_from day s t (Published m ∷ r) ≡ deals_from day s t r)
    → RunStays day s m h
run_stays day s m x h input e bands adoptions counts =
    record {
      quote = on_run (quote_in s) s m h e (λ r. refl);
      band = on_run (λ r. option_map (λ b. b.value) (last (of.band_of s) r)) s m h e (λ r. ap (λ (o : Option (Found Banded)). option_map (λ b. b.value) o) (bands r));
      adopted = on_run (λ r. option_map_or (λ b. b.moment) (last (of.adoption_of s) r) 0) s m h e (λ r. ap (λ (o : Option (Found Banded)). option_map_or (λ b. b.moment) o 0) (adoptions r));
      deals = deals_said day s x m h false e input counts;
    }

-- and its last adoption
pub last_adoption : {day : Day} {s : ℕ} {m : Message} {h : List Event} → RunStays day s m h → adoption_by (of.adopted (Published m ∷ h) s) (of.last_band (Published m ∷ h) s) ≡ adoption_by (of.adopted h s) (of.last_band h s)
last_adoption stays = λ i. adoption_by (stays.adopted i) (stays.band i)

pub stands-straddled : (mine : List ℕ → Bool) (k : InStep) (deals : List Deal) (step : Step) (on : Bool) (h : List Event) → Stands mine k deals step h → Stands mine (straddled k on) deals step (Published (out.Straddle k.kept.id on) ∷ h)
stands-straddled mine k deals step on h s =
    record {
      moment = s.moment;
      stopped = s.stopped;
      input = s.input;
      terms = s.terms;
      phase = s.phase;
      since = s.since;
      begun = s.begun;
      quote = s.quote ∙ sym run.quote;
      band = s.band ∙ sym run.band;
      adopted = s.adopted ∙ sym (last_adoption run);
      straddling = sym (ap (λ (o : Option (Found Bool)). option_map_or (λ straddle. straddle.value) o false) last_is);
      halted = s.halted;
      auction = s.auction ∙ ap (λ (o : Option Banded). auction_by (auction.is_paused (of.phase h k.kept.id)) o (auction.last_round h k.kept.id) (auction.origin h k.kept.id) (auction.indication h k.kept.id)) (sym run.band);
      prior_close = s.prior_close;
      triggered = s.triggered;
      carried = s.carried;
      left_limit = s.left_limit;
      released = s.released;
      deal = s.deal;
      restricts = s.restricts;
      window = rw run.deals s.window;
    }
  where
    m : Message
    m = out.Straddle k.kept.id on

    run : RunStays step.day k.kept.id m h
    run = run_stays step.day k.kept.id m step.input h s.input refl (λ r. refl) (λ r. refl) (λ t r. refl)

    own : of.straddle_of k.kept.id m ≡ Some on
    own = rw (same k.kept.id)

    last_is : last (of.straddle_of k.kept.id) (Published m ∷ today h) ≡ Some (record { moment = now (today h); value = on })
    last_is = last-own (of.straddle_of k.kept.id) m on (today h) own

-- a Collar message, where this is then the auction
pub stands-collared : (mine : List ℕ → Bool) (k : InStep) (deals : List Deal) (step : Step) (number : ℕ) (collars : Collars) (a : Option AuctionState) (h : List Event) → a ≡ auction_of (Published (out.Collar k.kept.id number collars.lower collars.upper) ∷ h) k.kept.id → Stands mine k deals step h
    → Stands mine (with_auction k a) deals step (Published (out.Collar k.kept.id number collars.lower collars.upper) ∷ h)
stands-collared mine k deals step number collars a h is s =
    record {
      moment = s.moment;
      stopped = s.stopped;
      input = s.input;
      terms = s.terms;
      phase = s.phase;
      since = s.since;
      begun = s.begun;
      quote = s.quote ∙ sym run.quote;
      band = s.band ∙ sym run.band;
      adopted = s.adopted ∙ sym (last_adoption run);
      straddling = s.straddling;
      halted = s.halted;
      auction = is;
      prior_close = s.prior_close;
      triggered = s.triggered;
      carried = s.carried;
      left_limit = s.left_limit;
      released = s.released;
      deal = s.deal;
      restricts = s.restricts;
      window = rw run.deals s.window;
    }
  where
    m : Message
    m = out.Collar k.kept.id number collars.lower collars.upper

    run : RunStays step.day k.kept.id m h
    run = run_stays step.day k.kept.id m step.input h s.input refl (λ r. refl) (λ r. refl) (λ t r. refl)

-- the round that a Collar message begins
pub collared-round : (s number t : ℕ) (collars : Collars) (h : List Event) → t ≡ now h → Some (record { number = number; moment = t; collars = collars }) ≡ auction.last_round (Published (out.Collar s number collars.lower collars.upper) ∷ h) s
collared-round s number t collars h at = ap (λ (u : ℕ). Some (record { number = number; moment = u; collars = collars })) (at ∙ sym (now-today h)) ∙ sym (ap (λ (o : Option (Found (ℕ × Collars))). option_map auction.round_of o) last_is)
  where
    m : Message
    m = out.Collar s number collars.lower collars.upper

    own : auction.collar_of s m ≡ Some (number, collars)
    own = rw (same s)

    last_is : last (auction.collar_of s) (Published m ∷ today h) ≡ Some (record { moment = now (today h); value = (number, collars) })
    last_is = last-own (auction.collar_of s) m (number, collars) (today h) own

-- another round of an auction
with_round : (paused : Bool) (band : Option Banded) (before : Option Round) (o : Origin) (i : Option Indication) (r : Round) (a : AuctionState) → option_map (in_round r) (auction_by paused band before o i) ≡ Some a → Some a ≡ auction_by paused band (Some r) o i
with_round false band before o i r a e = absurd cc
with_round true None before o i r a e = absurd cc
with_round true (Some b) None o i r a e = absurd cc
with_round true (Some b) (Some before) o i r a e = sym e

pub stands-with_round : (mine : List ℕ → Bool) (k : InStep) (deals : List Deal) (step : Step) (a : AuctionState) (h : List Event) → option_map (in_round a.round) k.kept.auction ≡ Some a → a.round.moment ≡ step.moment → Stands mine k deals step h
    → Stands mine (with_auction k (Some a)) deals step (Published (out.Collar k.kept.id a.round.number a.round.collars.lower a.round.collars.upper) ∷ h)
stands-with_round mine k deals step a h is at s = stands-collared mine k deals step a.round.number a.round.collars (Some a) h auction_is s
  where
    m : Message
    m = out.Collar k.kept.id a.round.number a.round.collars.lower a.round.collars.upper

    run : RunStays step.day k.kept.id m h
    run = run_stays step.day k.kept.id m step.input h s.input refl (λ r. refl) (λ r. refl) (λ t r. refl)

    auction_is : Some a ≡ auction_of (Published m ∷ h) k.kept.id
    auction_is =
        with_round (auction.is_paused (of.phase h k.kept.id)) (of.last_band h k.kept.id) (auction.last_round h k.kept.id) (auction.origin h k.kept.id) (auction.indication h k.kept.id) a.round a (ap (λ (o : Option AuctionState). option_map (in_round a.round) o) (sym s.auction) ∙ is)
        ∙ (λ i. auction_by (auction.is_paused (of.phase h k.kept.id)) (sym run.band i) (collared-round k.kept.id a.round.number a.round.moment a.round.collars h (at ∙ s.moment) i) (auction.origin h k.kept.id) (auction.indication h k.kept.id))

pub stands-released : (mine : List ℕ → Bool) (k : InStep) (deals : List Deal) (step : Step) (price : ℕ) (h : List Event) → Stands mine k deals step h → Stands mine (released k price) deals step (Published (out.Release k.kept.id price) ∷ h)
stands-released mine k deals step price h s =
    record {
      moment = s.moment;
      stopped = s.stopped;
      input = s.input;
      terms = s.terms;
      phase = s.phase;
      since = s.since;
      begun = s.begun;
      quote = s.quote ∙ sym run.quote;
      band = s.band ∙ sym run.band;
      adopted = s.adopted ∙ sym (last_adoption run);
      straddling = s.straddling;
      halted = s.halted;
      auction = s.auction ∙ ap (λ (o : Option Banded). auction_by (auction.is_paused (of.phase h k.kept.id)) o (auction.last_round h k.kept.id) (auction.origin h k.kept.id) (auction.indication h k.kept.id)) (sym run.band);
      prior_close = s.prior_close;
      triggered = s.triggered;
      carried = s.carried;
      left_limit = s.left_limit;
      released = sym (ap (λ (o : Option (Found ℕ)). option_map (λ release. release.value) o) last_is);
      deal = s.deal;
      restricts = s.restricts;
      window = rw run.deals s.window;
    }
  where
    m : Message
    m = out.Release k.kept.id price

    run : RunStays step.day k.kept.id m h
    run = run_stays step.day k.kept.id m step.input h s.input refl (λ r. refl) (λ r. refl) (λ t r. refl)

    own : rules.release_of k.kept.id m ≡ Some price
    own = rw (same k.kept.id)

    last_is : last (rules.release_of k.kept.id) (Published m ∷ open_step h) ≡ Some (record { moment = now (open_step h); value = price })
    last_is = last-own (rules.release_of k.kept.id) m price (open_step h) own

pub stands-short : (mine : List ℕ → Bool) (k : InStep) (deals : List Deal) (step : Step) (kind : ShortKind) (h : List Event) → Stands mine k deals step h → Stands mine k deals step (Published (out.Short k.kept.id kind) ∷ h)
stands-short mine k deals step kind h s =
    record {
      moment = s.moment;
      stopped = s.stopped;
      input = s.input;
      terms = s.terms;
      phase = s.phase;
      since = s.since;
      begun = s.begun;
      quote = s.quote ∙ sym run.quote;
      band = s.band ∙ sym run.band;
      adopted = s.adopted ∙ sym (last_adoption run);
      straddling = s.straddling;
      halted = s.halted;
      auction = s.auction ∙ ap (λ (o : Option Banded). auction_by (auction.is_paused (of.phase h k.kept.id)) o (auction.last_round h k.kept.id) (auction.origin h k.kept.id) (auction.indication h k.kept.id)) (sym run.band);
      prior_close = s.prior_close;
      triggered = s.triggered;
      carried = s.carried;
      left_limit = s.left_limit;
      released = s.released;
      deal = s.deal;
      restricts = s.restricts;
      window = rw run.deals s.window;
    }
  where
    m : Message
    m = out.Short k.kept.id kind

    run : RunStays step.day k.kept.id m h
    run = run_stays step.day k.kept.id m step.input h s.input refl (λ r. refl) (λ r. refl) (λ t r. refl)

-- the last adoption of a run, once it has further bands: those of the time of day leave the reference price
with_price : (moment : ℕ) (o : Option Banded) → adoption_by moment o ≡ option_map (λ price. record { moment = moment; price = price }) (option_map (λ b. b.reference) o)
with_price moment None = refl
with_price moment (Some b) = refl

banded_adoption : (step : Step) (b : Banded) (moment : ℕ) (times : Bool) (o : Option Run) → is_times b.cause ≡ times → option_and_then (λ run. run.reference.last) o ≡ adoption_by moment (option_and_then (λ run. run.band) o)
    → (times ≡ true → option_map (λ b. b.reference) (option_and_then (λ run. run.band) o) ≡ Some b.reference)
    → option_and_then (λ run. run.reference.last) (option_map (run_banded step b) o) ≡ adoption_by (if is_some o && not (is_times b.cause) then step.moment else moment) (if is_some o then Some b else option_and_then (λ run. run.band) o)
banded_adoption step b moment times None e was same = refl
banded_adoption step b moment false (Some run) e was same =
    ap (λ (c : Bool). if c then run.reference.last else Some (record { moment = step.moment; price = b.reference })) e
    ∙ ap (λ (c : Bool). adoption_by (if not c then step.moment else moment) (Some b)) (sym e)
banded_adoption step b moment true (Some run) e was same =
    ap (λ (c : Bool). if c then run.reference.last else Some (record { moment = step.moment; price = b.reference })) e
    ∙ was ∙ with_price moment run.band
    ∙ ap (λ (p : Option ℕ). option_map (λ price. record { moment = moment; price = price }) p) (same refl)
    ∙ ap (λ (c : Bool). adoption_by (if not c then step.moment else moment) (Some b)) (sym e)

pub stands-banded : (mine : List ℕ → Bool) (k : InStep) (deals : List Deal) (step : Step) (b : Banded) (h : List Event) → auction.is_paused k.kept.phase ≡ false → (is_times b.cause ≡ true → option_map (λ last. last.reference) (run_band k.kept) ≡ Some b.reference) → Stands mine k deals step h
    → Stands mine (banded k step b) deals step (Published (out.Band k.kept.id b.cause b.reference b.bands.lower b.bands.upper) ∷ h)
stands-banded mine k deals step b h unpaused times s =
    record {
      moment = s.moment;
      stopped = s.stopped;
      input = s.input;
      terms = s.terms;
      phase = s.phase;
      since = s.since;
      begun = run_keeps (λ o. option_map (λ run. run.reference.begun) o) (run_banded step b) (λ run. refl) k.kept.run ∙ s.begun;
      quote = run_keeps (λ o. option_and_then (λ run. run.quote) o) (run_banded step b) (λ run. refl) k.kept.run ∙ s.quote ∙ sym (on_run (quote_in k.kept.id) k.kept.id m h refl (λ r. refl));
      band = band_now k.kept.run ∙ band_is;
      adopted = banded_adoption step b (of.adopted h k.kept.id) (is_times b.cause) k.kept.run refl (s.adopted ∙ ap (adoption_by (of.adopted h k.kept.id)) (sym s.band)) times ∙ (λ i. adoption_by (adopted_is i) (band_is i));
      straddling = s.straddling;
      halted = s.halted;
      auction = none_of k.kept.auction (auction.is_paused (of.phase h k.kept.id)) (ap (λ (p : Phase). auction.is_paused p) (sym s.phase) ∙ unpaused) s.auction ∙ sym (ap (λ (b : Bool). auction_by b (of.last_band (Published m ∷ h) k.kept.id) (auction.last_round h k.kept.id) (auction.origin h k.kept.id) (auction.indication h k.kept.id)) (ap (λ (p : Phase). auction.is_paused p) (sym s.phase) ∙ unpaused));
      prior_close = s.prior_close;
      triggered = s.triggered;
      carried = s.carried;
      left_limit = s.left_limit;
      released = s.released;
      deal = s.deal;
      restricts = s.restricts;
      window = rw (deals_is) (subst (λ (own : List Deal). SameLive (now h) ((if (is_some k.kept.run && restarts k.kept step) || k.opened.is_fresh then [] else deals) ++ own) (if is_some k.kept.run && restarts k.kept step then deals_in step.day k.kept.id [] (Accepted step.input ∷ []) else deals_of step.day h k.kept.id)) (own_is k.kept.run (restarts k.kept step)) (window_begins (now h) (is_some k.kept.run && restarts k.kept step) k.opened.is_fresh deals (option_to_list k.opened.deal) (counted_deal k) (deals_in step.day k.kept.id [] (Accepted step.input ∷ [])) (deals_of step.day h k.kept.id) s.deal s.window));
    }
  where
    m : Message
    m = out.Band k.kept.id b.cause b.reference b.bands.lower b.bands.upper

    own : of.band_of k.kept.id m ≡ Some b
    own = rw (same k.kept.id)

    none_of : (a : Option AuctionState) (paused : Bool) → paused ≡ false → a ≡ auction_by paused (of.last_band h k.kept.id) (auction.last_round h k.kept.id) (auction.origin h k.kept.id) (auction.indication h k.kept.id) → a ≡ None
    none_of a true e is = absurd cc
    none_of a false e is = is

    has_run : is_some k.kept.run ≡ is_some (of.run_in k.kept.id (today h))
    has_run = has_begun k.kept.run ∙ ap (λ (o : Option ℕ). is_some o) s.begun ∙ begun-run k.kept.id (today h)

    band_now : (o : Option Run) → option_and_then (λ run. run.band) (option_map (run_banded step b) o) ≡ (if is_some o then Some b else option_and_then (λ run. run.band) o)
    band_now None = refl
    band_now (Some run) = refl

    band_run : (o : Option (List Event)) → (if is_some o then Some b else option_map (λ b. b.value) (last (of.band_of k.kept.id) (unwrap_or o []))) ≡ option_map (λ b. b.value) (last (of.band_of k.kept.id) (unwrap_or (option_map (λ r. Published m ∷ r) o) []))
    band_run None = refl
    band_run (Some r) = sym (ap (λ (o : Option (Found Banded)). option_map (λ b. b.value) o) (last-own (of.band_of k.kept.id) m b r own))

    adoption : (times : Bool) → is_times b.cause ≡ times → of.adoption_of k.kept.id m ≡ (if times then None else Some b)
    adoption times e = ap (λ (o : Option Banded). option_and_then (λ b. if is_times b.cause then None else Some b) o) own ∙ ap (λ (t : Bool). if t then None else Some b) e

    adopted_run : (o : Option (List Event)) (times : Bool) → is_times b.cause ≡ times → ((r : List Event) → o ≡ Some r → step.moment ≡ now r)
        → (if is_some o && not (is_times b.cause) then step.moment else option_map_or (λ b. b.moment) (last (of.adoption_of k.kept.id) (unwrap_or o [])) 0)
        ≡ option_map_or (λ b. b.moment) (last (of.adoption_of k.kept.id) (unwrap_or (option_map (λ r. Published m ∷ r) o) [])) 0
    adopted_run None times e at = refl
    adopted_run (Some r) true e at = rw e (sym (ap (λ (o : Option (Found Banded)). option_map_or (λ b. b.moment) o 0) (last-other (of.adoption_of k.kept.id) m r (adoption true e))))
    adopted_run (Some r) false e at = rw e (at r refl ∙ sym (ap (λ (o : Option (Found Banded)). option_map_or (λ b. b.moment) o 0) (last-own (of.adoption_of k.kept.id) m b r (adoption false e))))

    band_is : (if is_some k.kept.run then Some b else run_band k.kept) ≡ of.last_band (Published m ∷ h) k.kept.id
    band_is = rw (has_run, s.band) (band_run (of.run_in k.kept.id (today h)))

    adopted_is : (if is_some k.kept.run && not (is_times b.cause) then step.moment else of.adopted h k.kept.id) ≡ of.adopted (Published m ∷ h) k.kept.id
    adopted_is = rw has_run (adopted_run (of.run_in k.kept.id (today h)) (is_times b.cause) refl (λ r e. s.moment ∙ sym (now-run k.kept.id h r e)))

    input_is : option_map_or newest (of.run_in k.kept.id (today h)) (Some step.input) ≡ Some step.input
    input_is = subst (λ (o : Option Record). option_map_or newest (of.run_in k.kept.id (today h)) o ≡ o) (newest-today h ∙ s.input) (newest-run k.kept.id (today h))

    deals_is : deals_of step.day (Published m ∷ h) k.kept.id ≡ (if is_some k.kept.run && restarts k.kept step then deals_in step.day k.kept.id [] (Accepted step.input ∷ []) else deals_of step.day h k.kept.id)
    deals_is =
        deals_banded step.day k.kept.id (of.begun h k.kept.id + five_minutes) step.input m b (of.run_in k.kept.id (today h)) own input_is
        ∙ ap (λ (v : Bool). if v && (not (is_some (of.last_band h k.kept.id)) && of.opens_before step.day k.kept.id (of.begun h k.kept.id + five_minutes) step.input) then deals_in step.day k.kept.id [] (Accepted step.input ∷ []) else deals_of step.day h k.kept.id) (sym has_run)
        ∙ ap (λ (o : Option Banded). if is_some k.kept.run && (not (is_some o) && of.opens_before step.day k.kept.id (of.begun h k.kept.id + five_minutes) step.input) then deals_in step.day k.kept.id [] (Accepted step.input ∷ []) else deals_of step.day h k.kept.id) (sym s.band)
        ∙ ap (λ (o : Option ℕ). if is_some k.kept.run && (not (is_some (run_band k.kept)) && of.opens_before step.day k.kept.id (unwrap_or o 0 + five_minutes) step.input) then deals_in step.day k.kept.id [] (Accepted step.input ∷ []) else deals_of step.day h k.kept.id) (sym s.begun)

    own_is : (o : Option Run) (r : Bool) → (if is_some o && r then option_to_list k.opened.deal else (if is_some o then option_to_list k.opened.deal else [])) ≡ (if is_some (option_map (run_banded step b) o) then option_to_list k.opened.deal else [])
    own_is None r = refl
    own_is (Some run) true = refl
    own_is (Some run) false = refl
