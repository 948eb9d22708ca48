-- Taking a record in: the kept state that the code leaves stands for the history with it.
use Rattle.std.proofs.Common.{◌≡◌, ℕ, ◌+◌, ◌≤◌, Bool, true, false, List, [], ◌∷◌, ◌++◌, refl, sym, ap, ◌∙◌, subst, arith}
use Rattle.std.specs.Prelude.{Option, Some, None, if◌then◌else◌, option_map, option_and_then, unwrap_or, ◌&&◌, ◌||◌, ◌==◌, not, is_some, filter, option_to_list}
use Rattle.std.specs.Option.{option_map_or}
use Rattle.std.proofs.lemmas.List.Elements.{filter-append}
use Rattle.price_core.specs.declared.quote.Quotation.{Quotation}
use Rattle.session_core.specs.declared.day.Day.{Day}
use Rattle.wire_in.specs.declared.record.Record.{Record}
use Rattle.reopen_core.specs.declared.auction.Indication.{Indication}
use Rattle.reopen_core.specs.declared.auction.Origin.{Origin}
use Rattle.reopen_core.specs.declared.auction.Round.{Round}
use Rattle.reopen_core.specs.AuctionState.{AuctionState}
use Rattle.rulebook.specs.declared.symbol.Banded.{Banded}
use Rattle.rulebook.specs.declared.symbol.Terms.{Terms}
use Rattle.rulebook.specs.Auction.{indicated_by}
use Rattle.rulebook.specs.declared.event.Event.{Event}
use Rattle.rulebook.specs.declared.event.Event.TheVariants.{Accepted}
use Rattle.rulebook.specs.History.{now, today, records, last}
use Rattle.rulebook.specs.Market.{is_market_halted, day_record}
use Rattle.session_core.specs.Durations.{five_minutes}
use Rattle.wire_in.specs.Records.{is_day, moment_of, name_of}
use Rattle.rulebook.specs.Rules.{or_else}
use Rattle.rulebook.specs.Symbol.{cancels, counted_in, is_under_regulatory_halt_in, quote_in, terms_in, deals_in, deals_of}
use Rattle.eligible_core.specs.Conditions.{eligible}
use Rattle.window_core.specs.declared.window.Deal.{Deal}
use Rattle.symbol_core.specs.declared.state.Kept.{Kept}
use Rattle.symbol_core.specs.declared.state.Run.{Run}
use Rattle.symbol_core.specs.declared.state.Step.{Step}
use Rattle.symbol_core.specs.Auctions.{auction_by}
use Rattle.symbol_core.specs.Kept.{heard, quoted_by, requoted}
use Rattle.symbol_core.specs.Runs.{adoption_by, run_adopted, run_band, run_begun, run_quote}
use Rattle.symbol_core.specs.Rests.{Rests}
use Rattle.symbol_core.specs.Taken.{halted_by, listed_by, deal_of, leaves, prior_close_by, taken, triggers_by}
use Rattle.symbol_core.specs.Stands.{Stands}
use Rattle.symbol_core.specs.Window.{SameLive}
use Rattle.window_core.specs.Deals.{live, is_live}
use Rattle.symbol_core.proofs.Histories.{begun-run}
use Rattle.symbol_core.proofs.Runs.{has_begun, run_keeps}
use Rattle.wire_in.specs.declared.record.NoticeKind.TheVariants as notice
use Rattle.wire_in.specs.declared.record.Record.TheVariants as in_
use Rattle.rulebook.specs.Auction as auction
use Rattle.rulebook.specs.Rules as rules
use Rattle.rulebook.proofs.OtherRecords.{leaves as as_before}
use Rattle.short_core.specs.Restriction as restriction
use Rattle.wire_in.proofs.RecordKinds.{by_listing}
use Rattle.rulebook.specs.Symbol as of
use Rattle.window_core.proofs.Deals.{filter_swap}
use Rattle.symbol_core.proofs.Cancels.{append_none, deals-taken}

pub terms-taken : (mine : List ℕ → Bool) (x : Record) (r : List Record) → is_day x ≡ false → option_map_or mine (name_of x) true ≡ true → listed_by x (terms_in mine r) ≡ terms_in mine (x ∷ r)
terms-taken mine (in_.Day t d c) r e own = cc
terms-taken mine (in_.Listing t n k l c) r e own = ap (λ (b : Bool). if b then Some (record { tier = k; leverage = l; prior_close = c }) else terms_in mine r) (sym own)
terms-taken mine (in_.Trade t i n p q f) r e own = refl
terms-taken mine (in_.Cancel t i n) r e own = refl
terms-taken mine (in_.Quote t i b o x y) r e own = refl
terms-taken mine (in_.IndexTick t v) r e own = refl
terms-taken mine (in_.Clock t) r e own = refl
terms-taken mine (in_.Notice t i k) r e own = refl
terms-taken mine (in_.Indication t i p u) r e own = refl

pub quote-taken : (s : ℕ) (x : Record) (r : List Event) → quote_in s (Accepted x ∷ r) ≡ or_else (quoted_by s x) (quote_in s r)
quote-taken s (in_.Day t d c) r = refl
quote-taken s (in_.Listing t n k l c) r = refl
quote-taken s (in_.Trade t i n p q f) r = refl
quote-taken s (in_.Cancel t i n) r = refl
quote-taken s (in_.Quote t i b o x y) r = elim (i == s) as (λ v. (if v then Some (record { bid = b; offer = o }) else quote_in s r) ≡ or_else (if v then Some (record { bid = b; offer = o }) else None) (quote_in s r)) [ true ↦ refl | false ↦ refl ]
quote-taken s (in_.IndexTick t v) r = refl
quote-taken s (in_.Clock t) r = refl
quote-taken s (in_.Notice t i k) r = refl
quote-taken s (in_.Indication t i p u) r = refl

pub halted-taken : (s : ℕ) (x : Record) (r : List Record) → is_under_regulatory_halt_in s (x ∷ r) ≡ halted_by s x (is_under_regulatory_halt_in s r)
halted-taken s (in_.Day t d c) r = refl
halted-taken s (in_.Listing t n k l c) r = refl
halted-taken s (in_.Trade t i n p q f) r = refl
halted-taken s (in_.Cancel t i n) r = refl
halted-taken s (in_.Quote t i b o x y) r = refl
halted-taken s (in_.IndexTick t v) r = refl
halted-taken s (in_.Clock t) r = refl
halted-taken s (in_.Notice t i notice.OpenQuote) r = refl
halted-taken s (in_.Notice t i notice.PauseNow) r = refl
halted-taken s (in_.Notice t i notice.Halt) r = refl
halted-taken s (in_.Notice t i notice.Resume) r = refl
halted-taken s (in_.Indication t i p u) r = refl

own_one : (v : Bool) (d : Deal) → option_to_list (if v then Some d else None) ≡ (if v && true then d ∷ [] else [])
own_one true d = refl
own_one false d = refl

pub own-taken : (day : Day) (s : ℕ) (x : Record) → option_to_list (deal_of day s x) ≡ deals_in day s [] (Accepted x ∷ [])
own-taken day s (in_.Day t d c) = refl
own-taken day s (in_.Listing t n k l c) = refl
own-taken day s (in_.Trade t i n p q f) = own_one ((i == s) && eligible f t day) (record { moment = t; number = n; price = p })
own-taken day s (in_.Cancel t i n) = refl
own-taken day s (in_.Quote t i b o x y) = refl
own-taken day s (in_.IndexTick t v) = refl
own-taken day s (in_.Clock t) = refl
own-taken day s (in_.Notice t i k) = refl
own-taken day s (in_.Indication t i p u) = refl

-- a value of the run after a record
pub run_taken : {X : Type 0} (value : List Event → X) (x : Record) (o : Option (List Event)) → ((r : List Event) → value (Accepted x ∷ r) ≡ value r) → value (unwrap_or (option_map (λ r. Accepted x ∷ r) o) []) ≡ value (unwrap_or o [])
run_taken value x None ignores = refl
run_taken value x (Some r) ignores = ignores r

-- the last adoption of the run after a record
pub adoption-taken : (s : ℕ) (x : Record) (o : Option (List Event))
    → adoption_by (option_map_or (λ b. b.moment) (last (of.adoption_of s) (unwrap_or (option_map (λ r. Accepted x ∷ r) o) [])) 0) (option_map (λ b. b.value) (last (of.band_of s) (unwrap_or (option_map (λ r. Accepted x ∷ r) o) [])))
    ≡ adoption_by (option_map_or (λ b. b.moment) (last (of.adoption_of s) (unwrap_or o [])) 0) (option_map (λ b. b.value) (last (of.band_of s) (unwrap_or o [])))
adoption-taken s x o = run_taken (λ r. adoption_by (option_map_or (λ b. b.moment) (last (of.adoption_of s) r) 0) (option_map (λ b. b.value) (last (of.band_of s) r))) x o (λ r. refl)

-- the auction of the events of a day
abbrev pub auction_since : ℕ → List Event → Option AuctionState
auction_since s t =
    auction_by (auction.is_paused (of.phase_in s t)) (option_map (λ b. b.value) (last (of.band_of s) (unwrap_or (of.run_in s t) []))) (option_map auction.round_of (last (auction.collar_of s) t)) (auction.origin_in s t) (auction.indication_in s t)

heard_by : (i before : Option Indication) (paused : Bool) (band : Option Banded) (round : Option Round) (o : Origin) → auction_by paused band round o (elim i [ Some i ↦ Some i | None ↦ before ]) ≡ heard i (auction_by paused band round o before)
heard_by None before paused band round o = refl
heard_by (Some i) before false band round o = refl
heard_by (Some i) before true None round o = refl
heard_by (Some i) before true (Some b) None o = refl
heard_by (Some i) before true (Some b) (Some r) o = refl

pub auction-taken : (s : ℕ) (x : Record) (t : List Event) → auction_since s (Accepted x ∷ t) ≡ heard (indicated_by s x) (auction_since s t)
auction-taken s x t =
    ap (λ (b : Option Banded). auction_by (auction.is_paused (of.phase_in s t)) b (option_map auction.round_of (last (auction.collar_of s) t)) (auction.origin_in s t) (auction.indication_in s (Accepted x ∷ t)))
    (run_taken (λ r. option_map (λ b. b.value) (last (of.band_of s) r)) x (of.run_in s t) (λ r. refl))
    ∙ heard_by (indicated_by s x) (auction.indication_in s t) (auction.is_paused (of.phase_in s t)) (option_map (λ b. b.value) (last (of.band_of s) (unwrap_or (of.run_in s t) []))) (option_map auction.round_of (last (auction.collar_of s) t)) (auction.origin_in s t)

pub prior_close-taken : (x : Record) (o : Option Terms) → prior_close_by x (of.prior_close_of o) ≡ of.prior_close_of (listed_by x o)
prior_close-taken (in_.Day t d c) o = refl
prior_close-taken (in_.Listing t n k l c) o = refl
prior_close-taken (in_.Trade t i n p q f) o = refl
prior_close-taken (in_.Cancel t i n) o = refl
prior_close-taken (in_.Quote t i b p x y) o = refl
prior_close-taken (in_.IndexTick t v) o = refl
prior_close-taken (in_.Clock t) o = refl
prior_close-taken (in_.Notice t i k) o = refl
prior_close-taken (in_.Indication t i p u) o = refl

-- the step's deal triggers what its trade triggers
triggers-traded : (day : Day) (s : ℕ) (x : Record) (o : Option Terms) → triggers_by (of.prior_close_of o) (deal_of day s x) ≡ rules.triggers day s x o
triggers-traded day s (in_.Day t d c) o = refl
triggers-traded day s (in_.Listing t n k l c) o = refl
triggers-traded day s (in_.Trade t i n p q f) o = by ((i == s) && eligible f t day) where
  by : (v : Bool) → triggers_by (of.prior_close_of o) (if v then Some (record { moment = t; number = n; price = p }) else None) ≡ option_map_or (restriction.triggers (of.prior_close_of o)) (if v then Some p else None) false
  by true = refl
  by false = refl
triggers-traded day s (in_.Cancel t i n) o = refl
triggers-traded day s (in_.Quote t i b p x y) o = refl
triggers-traded day s (in_.IndexTick t v) o = refl
triggers-traded day s (in_.Clock t) o = refl
triggers-traded day s (in_.Notice t i k) o = refl
triggers-traded day s (in_.Indication t i p u) o = refl

-- a listing triggers nothing
triggers-same : (mine : List ℕ → Bool) (day : Day) (s : ℕ) (x : Record) (r : List Record) → rules.triggers day s x (terms_in mine (x ∷ r)) ≡ rules.triggers day s x (terms_in mine r)
triggers-same mine day s x r =
    by_listing (λ y. rules.triggers day s y (terms_in mine (y ∷ r)) ≡ rules.triggers day s y (terms_in mine r)) (λ t d c. refl) (λ t n k l c. refl)
    (λ y o. ap (rules.triggers day s y) ((as_before y r o).terms mine)) x

-- the window of a history with one more record, where x's cancellation is carried out
window_taken : (day : Day) (s : ℕ) (x : Record) (t u : ℕ) (end : ℕ) (kept own : List Deal) (o : Option (List Event)) → t ≤ u → own ≡ deals_in day s [] (Accepted x ∷ [])
    → SameLive t kept (deals_in day s [] (counted_in day s end (unwrap_or o [])))
    → SameLive u (filter (leaves s x) kept ++ (if is_some o then own else [])) (deals_in day s [] (counted_in day s end (unwrap_or (option_map (λ r. Accepted x ∷ r) o) [])))
window_taken day s x t u end kept own None le e same =
    record {
      at = λ v lv.
          ap (λ (xs : List Deal). live v xs) (append_none (filter (leaves s x) kept)) ∙ filter_swap (is_live v) (leaves s x) kept
          ∙ ap (λ (xs : List Deal). filter (leaves s x) xs) (same.at v (omega arith));
    }
window_taken day s x t u end kept own (Some r) le e same =
    record {
      at = λ v lv.
          filter-append (is_live v) (filter (leaves s x) kept) own
          ∙ ap (λ (xs : List Deal). xs ++ live v own) (filter_swap (is_live v) (leaves s x) kept ∙ ap (λ (xs : List Deal). filter (leaves s x) xs) (same.at v (omega arith)) ∙ sym (filter_swap (is_live v) (leaves s x) (deals_in day s [] (counted_in day s end r))))
          ∙ sym (filter-append (is_live v) (filter (leaves s x) (deals_in day s [] (counted_in day s end r))) own)
          ∙ ap (λ (xs : List Deal). live v (filter (leaves s x) (deals_in day s [] (counted_in day s end r)) ++ xs)) e
          ∙ ap (λ (xs : List Deal). live v xs) (sym (deals-taken day s x (counted_in day s end r)));
    }

pub stands-taken : (mine : List ℕ → Bool) (k : Kept) (kept : List Deal) (step : Step) (index : ℕ) (h : List Event) → is_day step.input ≡ false → option_map_or mine (name_of step.input) true ≡ true
    → day_record (records h) ≡ Some (step.day, index) → Rests mine (record { kept = k; deals = kept; spare = 0 }) h → step.moment ≡ moment_of step.input → step.stopped ≡ is_market_halted (Accepted step.input ∷ h) → now h ≤ step.moment
    → Stands mine (taken k step) (filter (leaves k.id step.input) kept) step (Accepted step.input ∷ h)
stands-taken mine k kept step index h not_day name day s at stopped later =
    record {
      moment = at;
      stopped = stopped;
      input = refl;
      terms = ap (λ (o : Option Terms). listed_by x o) s.terms ∙ terms-taken mine x (records h) not_day name;
      phase = along (λ t. k.phase ≡ of.phase_in k.id t) s.phase;
      since = along (λ t. k.since ≡ option_map_or (λ state. state.moment) (last (of.state_of k.id) t) 0) s.since;
      begun = taken_keeps (λ o. option_map (λ run. run.reference.begun) o) (λ run q. refl) ∙ along (λ t. run_begun k ≡ of.begun_in k.id t) s.begun;
      quote = quote_now k.run ∙ along (λ t. (if is_some k.run then or_else (quoted_by k.id x) (run_quote k) else run_quote k) ≡ quote_in k.id (unwrap_or (of.run_in k.id t) [])) quote_is;
      band = taken_keeps (λ o. option_and_then (λ run. run.band) o) (λ run q. refl) ∙ along (λ t. run_band k ≡ option_map (λ b. b.value) (last (of.band_of k.id) (unwrap_or (of.run_in k.id t) []))) (s.band ∙ sym (run_taken (λ r. option_map (λ b. b.value) (last (of.band_of k.id) r)) x (of.run_in k.id (today h)) (λ r. refl)));
      adopted = taken_keeps (λ o. option_and_then (λ run. run.reference.last) o) (λ run q. refl)
          ∙ along (λ t. run_adopted k ≡ adoption_by (option_map_or (λ b. b.moment) (last (of.adoption_of k.id) (unwrap_or (of.run_in k.id t) [])) 0) (option_map (λ b. b.value) (last (of.band_of k.id) (unwrap_or (of.run_in k.id t) []))))
          (s.adopted ∙ sym (adoption-taken k.id x (of.run_in k.id (today h))));
      straddling = along (λ t. k.straddling ≡ option_map_or (λ straddle. straddle.value) (last (of.straddle_of k.id) t) false) s.straddling;
      halted = along (λ t. halted_by k.id x k.halted ≡ is_under_regulatory_halt_in k.id (records t)) (ap (λ (b : Bool). halted_by k.id x b) s.halted ∙ sym (halted-taken k.id x (records (today h))));
      auction = along (λ t. heard (indicated_by k.id x) k.auction ≡ auction_since k.id t) (ap (heard (indicated_by k.id x)) s.auction ∙ sym (auction-taken k.id x (today h)));
      prior_close = prior_close_is;
      triggered =
          ap (λ (b : Bool). b || k.short.triggered) triggers_is
          ∙ (λ i. triggers-same mine step.day k.id x (records h) i || before_is i)
          ∙ ap (λ (b : Bool). if b then false else rules.triggers step.day k.id x (terms_in mine (records h)) || rules.triggered_in mine step.day k.id (records h)) (sym not_day);
      carried = s.carried ∙ ap (λ (b : Bool). let part = (if b then records h else rules.before_day (records h)) in option_map_or (λ day. rules.triggered_in mine day.0 k.id part) (day_record part) false) (sym not_day);
      left_limit = refl;
      released = refl;
      deal = own-taken step.day k.id x;
      restricts = λ i. triggers_is i && not (before_is i);
      window = subst (λ (runs : Bool). SameLive (moment_of x) (filter (leaves k.id x) kept ++ (if runs then option_to_list (deal_of step.day k.id x) else [])) (deals_of step.day (Accepted x ∷ h) k.id)) (sym (taken_keeps (λ o. is_some o) (λ run q. refl)))
          (along (λ t. SameLive (moment_of x) (filter (leaves k.id x) kept ++ (if is_some k.run then option_to_list (deal_of step.day k.id x) else [])) (deals_in step.day k.id [] (counted_in step.day k.id (unwrap_or (of.begun_in k.id t) 0 + five_minutes) (unwrap_or (of.run_in k.id t) []))))
          (rw has_run (window_taken step.day k.id x (now h) (moment_of x) (of.begun h k.id + five_minutes) kept (option_to_list (deal_of step.day k.id x)) (of.run_in k.id (today h)) (rw at at later) (own-taken step.day k.id x) kept_live)));
    }
  where
    x : Record
    x = step.input

    prior_close_is : prior_close_by x k.short.prior_close ≡ of.prior_close (Accepted x ∷ h) mine
    prior_close_is =
        ap (λ (o : Option ℕ). prior_close_by x o) s.prior_close ∙ prior_close-taken x (terms_in mine (records h))
        ∙ ap (λ (o : Option Terms). of.prior_close_of o) (terms-taken mine x (records h) not_day name)

    triggers_is : triggers_by (prior_close_by x k.short.prior_close) (deal_of step.day k.id x) ≡ rules.triggers step.day k.id x (terms_in mine (x ∷ records h))
    triggers_is =
        ap (λ (o : Option ℕ). triggers_by o (deal_of step.day k.id x)) prior_close_is
        ∙ triggers-traded step.day k.id x (terms_in mine (x ∷ records h))

    before_is : k.short.triggered ≡ rules.triggered_in mine step.day k.id (records h)
    before_is = s.triggered ∙ ap (λ (o : Option (Day × ℕ)). option_map_or (λ d. rules.triggered_in mine d.0 k.id (records h)) o false) day

    today_is : today (Accepted x ∷ h) ≡ Accepted x ∷ today h
    today_is = ap (λ (b : Bool). if b then Accepted x ∷ [] else Accepted x ∷ today h) not_day

    along : (P : List Event → Type 0) → P (Accepted x ∷ today h) → P (today (Accepted x ∷ h))
    along P p = subst P (sym today_is) p

    kept_live : SameLive (now h) kept (deals_of step.day h k.id)
    kept_live = subst (λ (o : Option (Day × ℕ)). SameLive (now h) kept (option_map_or (λ d. deals_of d.0 h k.id) o [])) day s.deals

    has_run : is_some k.run ≡ is_some (of.run_in k.id (today h))
    has_run = has_begun k.run ∙ ap (λ (o : Option ℕ). is_some o) s.begun ∙ begun-run k.id (today h)

    -- a value of the run that a quotation leaves
    taken_keeps : {X : Type 0} (value : Option Run → X) → ((run : Run) (quote : Option Quotation) → value (Some (requoted quote run)) ≡ value (Some run)) → value (option_map (requoted (quoted_by k.id x)) k.run) ≡ value k.run
    taken_keeps value leaves = run_keeps value (requoted (quoted_by k.id x)) (λ run. leaves run (quoted_by k.id x)) k.run

    quote_now : (o : Option Run) → option_and_then (λ run. run.quote) (option_map (requoted (quoted_by k.id x)) o) ≡ (if is_some o then or_else (quoted_by k.id x) (option_and_then (λ run. run.quote) o) else option_and_then (λ run. run.quote) o)
    quote_now None = refl
    quote_now (Some run) = refl

    quote_run : (o : Option (List Event)) → (if is_some o then or_else (quoted_by k.id x) (quote_in k.id (unwrap_or o [])) else quote_in k.id (unwrap_or o [])) ≡ quote_in k.id (unwrap_or (option_map (λ r. Accepted x ∷ r) o) [])
    quote_run None = refl
    quote_run (Some r) = sym (quote-taken k.id x r)

    quote_is : (if is_some k.run then or_else (quoted_by k.id x) (run_quote k) else run_quote k) ≡ quote_in k.id (unwrap_or (option_map (λ r. Accepted x ∷ r) (of.run_in k.id (today h))) [])
    quote_is = rw (has_run, s.quote) (quote_run (of.run_in k.id (today h)))
