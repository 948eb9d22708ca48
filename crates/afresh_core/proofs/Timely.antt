-- The rounds of reopening auctions stand at their times, whatever the rules publish.
use Rattle.std.proofs.Common.{◌≡◌, ℕ, ◌+◌, ◌*◌, ◌≤◌, Bool, true, false, cond, List, [], ◌∷◌, map, Option, Some, None, refl, sym, ap, subst, ◌∙◌, arith}
use Rattle.std.specs.Prelude.{◌==◌, if◌then◌else◌, nat_lt, not, ◌&&◌, option_map, IfSome}
use Rattle.std.specs.Option.{option_map_or}
use Rattle.std.proofs.lemmas.Bool.Decides.{nat_tests}
use Rattle.price_core.specs.declared.quote.Cause.{Cause}
use Rattle.price_core.specs.declared.quote.Cause.TheVariants.{Times}
use Rattle.price_core.specs.declared.quote.Collars.{Collars}
use Rattle.session_core.specs.declared.day.Day.{Day}
use Rattle.session_core.specs.declared.state.Phase.{Phase}
use Rattle.session_core.specs.declared.state.Level.{Level}
use Rattle.session_core.specs.declared.state.Phase.TheVariants.{Trading, LimitLow, LimitHigh}
use Rattle.session_core.specs.Durations.{five_minutes}
use Rattle.wire_in.specs.declared.record.Record.{Record}
use Rattle.wire_in.specs.declared.record.Record.TheVariants as in_
use Rattle.wire_in.specs.Records.{is_day, is_tick}
use Rattle.wire_out.specs.declared.message.Message.{Message}
use Rattle.wire_out.specs.declared.message.Message.TheVariants as out
use Rattle.wire_out.specs.declared.message.ShortKind.TheVariants.{Carried, Triggered}
use Rattle.breaker_core.specs.Levels.{ends, declares}
use Rattle.pause_core.specs.Phases.{is_done, is_limit, is_trading}
use Rattle.pause_core.specs.Turns as turns
use Rattle.pause_core.specs.declared.turning.Brakes.{Brakes}
use Rattle.refprice_core.specs.declared.reference.Priced.{Priced}
use Rattle.reopen_core.specs.declared.auction.Round.{Round}
use Rattle.reopen_core.specs.declared.auction.Trial.{Trial}
use Rattle.reopen_core.specs.declared.auction.Trial.TheVariants as trial
use Rattle.rulebook.specs.declared.event.Event.{Event}
use Rattle.rulebook.specs.declared.event.Event.TheVariants.{Accepted, Published}
use Rattle.rulebook.specs.declared.symbol.Banded.{Banded}
use Rattle.rulebook.specs.Auction.{collar_of, round_of, last_round, is_paused}
use Rattle.rulebook.specs.History.{now, today, records, publish, last}
use Rattle.rulebook.specs.Market.{market_halt, greatest_declared, resume_at, declare_at, declare_on, breaks, day_record}
use Rattle.rulebook.specs.Symbol.{last_band, phase, terms, was_straddling}
use Rattle.rulebook.specs.Rules as rules
use Rattle.rulebook.specs.Rules.{Context}
use Rattle.rulebook.specs.Book.{Named, context, obeyed, all_obeyed, symbol_rules, evaluate, announced, evaluate_market}
use Rattle.rulebook.proofs.Histories.{now-today}
use Rattle.rulebook.proofs.Histories.{publish-append}
use Rattle.afresh_core.specs.declared.rules.Rule.{Rule}
use Rattle.afresh_core.specs.declared.rules.Rule.TheVariants as rule
use Rattle.afresh_core.specs.Ordered.{rule_of}
use Rattle.afresh_core.specs.Rounds.{IsTimely, AreTimely}

-- What a timely history says of its last round

timely_today : (h : List Event) → AreTimely h → AreTimely (today h)
timely_today [] t = t
timely_today (Accepted x ∷ h) t = by (is_day x) (timely_today h t) where
  by : (b : Bool) → AreTimely (today h) → AreTimely (cond b (Accepted x ∷ []) (Accepted x ∷ today h))
  by true s = tt
  by false s = s
timely_today (Published m ∷ h) t = (subst (λ (n : ℕ). IsTimely n m) (sym (now-today h)) t.0, timely_today h t.1)

abbrev IsRoundTimely : Round → Type 0
IsRoundTimely r = r.number * five_minutes ≤ r.moment

timely_last : (s : ℕ) (h : List Event) → AreTimely h → IfSome (option_map round_of (last (collar_of s) h)) IsRoundTimely
timely_last s [] t = tt
timely_last s (Accepted x ∷ h) t = timely_last s h t
timely_last s (Published (out.Collar symbol round lower upper) ∷ h) t = by (symbol == s) (timely_last s h t.1) where
  by : (b : Bool) → IfSome (option_map round_of (last (collar_of s) h)) IsRoundTimely
      → IfSome (option_map round_of (elim (cond {A = Option (ℕ × Collars)} b (Some (round, record { lower = lower; upper = upper })) None) [ Some x ↦ Some (record { moment = now h; value = x }) | None ↦ last (collar_of s) h ])) IsRoundTimely
  by true earlier = t.0
  by false earlier = earlier
timely_last s (Published (out.Listed a b) ∷ h) t = timely_last s h t.1
timely_last s (Published (out.State a b) ∷ h) t = timely_last s h t.1
timely_last s (Published (out.Band a b c d e) ∷ h) t = timely_last s h t.1
timely_last s (Published (out.Straddle a b) ∷ h) t = timely_last s h t.1
timely_last s (Published (out.Release a b) ∷ h) t = timely_last s h t.1
timely_last s (Published (out.Short a b) ∷ h) t = timely_last s h t.1
timely_last s (Published (out.Breaker a b) ∷ h) t = timely_last s h t.1
timely_last s (Published out.MarketResume ∷ h) t = timely_last s h t.1

pub timely_round : (s : ℕ) (h : List Event) (r : Round) → AreTimely h → last_round h s ≡ Some r → r.number * five_minutes ≤ r.moment
timely_round s h r t e = subst (λ (o : Option Round). IfSome o IsRoundTimely) e (timely_last s (today h) (timely_today h t))

-- What is published at a moment

abbrev pub AllTimely : ℕ → List Message → Type 0
AllTimely t [] = Unit {0}
AllTimely t (m ∷ ms) = IsTimely t m × AllTimely t ms

pub timely-publish : (ms : List Message) (h : List Event) → AllTimely (now h) ms → AreTimely h → AreTimely (publish ms h)
timely-publish [] h all t = t
timely-publish (m ∷ ms) h all t = timely-publish ms (Published m ∷ h) all.1 (all.0, t)

at_choice : (t : ℕ) (b : Bool) (ms ns : List Message) → AllTimely t ms → AllTimely t ns → AllTimely t (cond b ms ns)
at_choice t true ms ns first second = first
at_choice t false ms ns first second = second

at_value : {X : Type 0} → (t : ℕ) (f : X → List Message) (o : Option X) → ((x : X) → AllTimely t (f x)) → AllTimely t (option_map_or f o [])
at_value t f None each = tt
at_value t f (Some x) each = each x

at_turn : (c : Context) (turn : Phase → Brakes → Option Phase) → AllTimely c.moment (rules.turned turn c)
at_turn c turn = at_value c.moment (rules.becomes c) (turn (rules.phase_now c) (rules.brakes c)) (λ (p : Phase). (tt, tt))

at_pause : (c : Context) → AllTimely c.moment (rules.pause c)
at_pause c = at_value c.moment (rules.pause_as c) _ (λ (p : Phase). (tt, at_choice c.moment (is_paused p) _ _ (at_value c.moment (rules.first_round c) (last_band c.history c.symbol) (λ (b : Banded). (omega arith, tt))) tt))

-- a trial
at_trial : (c : Context) (n : ℕ) (outcome : Trial) → (n + 1) * five_minutes ≤ c.moment → AllTimely c.moment (rules.reopened c n outcome)
at_trial c n trial.NotDue late = tt
at_trial c n (trial.Extend collars) late = (late, tt)
at_trial c n (trial.Release price) late = (tt, (tt, tt))
at_trial c n trial.Closing late = (tt, tt)

at_due : (c : Context) (round : Round) (outcome : Trial) → round.number * five_minutes ≤ round.moment
    → AllTimely c.moment (rules.reopened c round.number (cond (nat_lt c.moment (round.moment + five_minutes)) trial.NotDue outcome))
at_due c round outcome timely = by (nat_lt c.moment (round.moment + five_minutes)) refl where
  late : (n : ℕ) (begun t : ℕ) → n * five_minutes ≤ begun → nat_lt t (begun + five_minutes) ≡ false → (n + 1) * five_minutes ≤ t
  late n begun t h e = grind (arith, nat_tests)

  by : (b : Bool) → nat_lt c.moment (round.moment + five_minutes) ≡ b → AllTimely c.moment (rules.reopened c round.number (cond b trial.NotDue outcome))
  by true e = tt
  by false e = at_trial c round.number outcome (late round.number round.moment c.moment timely e)

at_round : (c : Context) (o : Option Round) → IfSome o IsRoundTimely → AllTimely c.moment (option_map_or (rules.reopen_after c) o [])
at_round c None timely = tt
at_round c (Some round) timely = at_value c.moment (rules.reopen_with c round) (last_band c.history c.symbol) (λ (b : Banded). at_due c round _ timely)

at_reopen : (c : Context) → AreTimely c.history → AllTimely c.moment (rules.reopen c)
at_reopen c t =
    at_choice c.moment (is_paused (rules.phase_now c)) (option_map_or (rules.reopen_after c) (last_round c.history c.symbol) []) []
    (at_round c (last_round c.history c.symbol) (timely_last c.symbol (today c.history) (timely_today c.history t)))
    tt

at_band : (c : Context) (why : Cause) (price : ℕ) → AllTimely c.moment (rules.band c why price)
at_band c why price = at_value c.moment _ (terms c.history c.own) (λ listed. (tt, tt))

at_publish_band : (c : Context) → AllTimely c.moment (rules.publish_band c)
at_publish_band c = by (rules.reference c) where
  by : (o : Option Priced) → AllTimely c.moment (elim o [ Some r ↦ rules.band c r.cause r.price | None ↦ option_map_or (rules.band_by_time c) (last_band c.history c.symbol) [] ])
  by None = at_value c.moment (rules.band_by_time c) (last_band c.history c.symbol) (λ (b : Banded). at_choice c.moment (is_trading (rules.phase_now c) && rules.time_changes c b) (rules.band c Times b.reference) [] (at_band c Times b.reference) tt)
  by (Some r) = at_band c r.cause r.price

at_rule : (r : Rule) (c : Context) → AreTimely c.history → AllTimely c.moment (rule_of r c)
at_rule rule.SessionClose c t = at_turn c turns.session_close
at_rule rule.MarketHalt c t = at_turn c turns.market_halt
at_rule rule.Start c t = at_turn c turns.start
at_rule rule.RegulatoryHalt c t = at_turn c turns.regulatory_halt
at_rule rule.Pause c t = at_pause c
at_rule rule.Reopen c t = at_reopen c t
at_rule rule.LeaveLimit c t = at_choice c.moment (is_limit (rules.phase_now c) && not (rules.is_at_band (rules.phase_now c) c)) (rules.becomes c Trading) [] (tt, tt) tt
at_rule rule.PublishBand c t = at_publish_band c
at_rule rule.EnterLimit c t =
    let high = if rules.is_at_band LimitHigh c then rules.becomes c LimitHigh else [] in
    let low = if rules.is_at_band LimitLow c then rules.becomes c LimitLow else high in
    at_choice c.moment (not (is_trading (rules.phase_now c))) [] low tt
    (at_choice c.moment (rules.is_at_band LimitLow c) (rules.becomes c LimitLow) high (tt, tt)
    (at_choice c.moment (rules.is_at_band LimitHigh c) (rules.becomes c LimitHigh) [] (tt, tt) tt))
at_rule rule.Straddle c t =
    let on = rules.is_straddling_now c in
    let was = was_straddling c.history c.symbol in
    let ends = if was && not on then out.Straddle c.symbol false ∷ [] else [] in
    at_choice c.moment (on && not was) (out.Straddle c.symbol true ∷ []) ends (tt, tt)
    (at_choice c.moment (was && not on) (out.Straddle c.symbol false ∷ []) [] (tt, tt) tt)
at_rule rule.Restrict c t =
    at_choice c.moment (rules.triggers c.day c.symbol c.newest (terms c.history c.own) && not (rules.has_triggered c)) (out.Short c.symbol Triggered ∷ []) [] (tt, tt) tt

-- Steps

pub timely_obeyed : (day : Day) (s : Named) (x : Record) (r : Rule) (h : List Event) → AreTimely h → AreTimely (publish (obeyed day s x (rule_of r) h) h)
timely_obeyed day s x r h t = timely-publish (obeyed day s x (rule_of r) h) h (at_choice (now h) (is_done (phase h s.symbol)) [] (rule_of r (context day s x h)) tt (at_rule r (context day s x h) t)) t

-- one rule after the other
pub obeyed_more : (day : Day) (s : Named) (x : Record) (r : Context → List Message) (later : List (Context → List Message)) (h : List Event)
    → publish (all_obeyed day s x (r ∷ later) h) h
    ≡ publish (all_obeyed day s x later (publish (obeyed day s x r h) h)) (publish (obeyed day s x r h) h)
obeyed_more day s x r later h = publish-append (obeyed day s x r h) (all_obeyed day s x later (publish (obeyed day s x r h) h)) h

-- the same over what code knows
pub obeyed_rest : (day : Day) (s : Named) (x : Record) (r : Rule) (later rs : List Rule) (h H : List Event)
    → rs ≡ r ∷ later → H ≡ publish (obeyed day s x (rule_of r) h) h
    → publish (all_obeyed day s x (map rule_of later) H) H ≡ publish (all_obeyed day s x (map rule_of rs) h) h
obeyed_rest day s x r later rs h H first is =
    ap (λ (g : List Event). publish (all_obeyed day s x (map rule_of later) g) g) is
    ∙ sym (obeyed_more day s x (rule_of r) (map rule_of later) h)
    ∙ ap (λ (rules : List Rule). publish (all_obeyed day s x (map rule_of rules) h) h) (sym first)

pub timely_obeyed_at : (day : Day) (s : Named) (x : Record) (r : Rule) (h H : List Event) → H ≡ publish (obeyed day s x (rule_of r) h) h → AreTimely h → AreTimely H
timely_obeyed_at day s x r h H is t = subst AreTimely (sym is) (timely_obeyed day s x r h t)

timely_rules : (day : Day) (s : Named) (x : Record) (rs : List Rule) (h : List Event) → AreTimely h → AreTimely (publish (all_obeyed day s x (map rule_of rs) h) h)
timely_rules day s x [] h t = t
timely_rules day s x (r ∷ rs) h t =
    subst AreTimely (sym (obeyed_more day s x (rule_of r) (map rule_of rs) h)) (timely_rules day s x rs (publish (obeyed day s x (rule_of r) h) h) (timely_obeyed day s x r h t))

all_rules : List Rule
all_rules =
    rule.SessionClose ∷ rule.MarketHalt ∷ rule.Start ∷ rule.RegulatoryHalt ∷ rule.Pause ∷ rule.Reopen ∷ rule.LeaveLimit ∷ rule.PublishBand ∷ rule.EnterLimit ∷ rule.Straddle ∷ rule.Restrict ∷ []

pub timely_evaluate : (x : Record) (s : Named) (h : List Event) → AreTimely h → AreTimely (evaluate x s h)
unfolding all_rules
timely_evaluate x s h t = by (day_record (records h)) where
  by : (o : Option (Day × ℕ)) → AreTimely (option_map_or (λ day. publish (all_obeyed day.0 s x symbol_rules h) h) o h)
  by None = t
  by (Some day) = timely_rules day.0 s x all_rules h t

pub timely_announced : (s : Named) (x : Record) (h : List Event) → AreTimely h → AreTimely (publish (announced s x h) h)
timely_announced s x h t = timely-publish (announced s x h) h (by x) t where
  by : (x : Record) → AllTimely (now h) (announced s x h)
  by (in_.Listing a name b c d) = at_choice (now h) (rules.is_carried h s.own s.symbol) (out.Listed s.symbol name ∷ out.Short s.symbol Carried ∷ []) (out.Listed s.symbol name ∷ []) (tt, (tt, tt)) (tt, tt)
  by (in_.Day a b c) = tt
  by (in_.Trade a b c d e f) = tt
  by (in_.Cancel a b c) = tt
  by (in_.Quote a b c d e f) = tt
  by (in_.IndexTick a b) = tt
  by (in_.Clock a) = tt
  by (in_.Notice a b c) = tt
  by (in_.Indication a b c d) = tt

at_break : (t value : ℕ) (o : Option Level) → AllTimely t (breaks value o)
at_break t value None = tt
at_break t value (Some level) = (tt, tt)

pub timely_market : (x : Record) (h : List Event) → AreTimely h → AreTimely (evaluate_market x h)
timely_market x h t = timely-publish (declare_at x resumed) resumed (by x) (timely-publish (resume_at x h) h (at_choice (now h) (is_tick x && ends (now h) (market_halt h)) (out.MarketResume ∷ []) [] (tt, tt) tt) t) where
  resumed : List Event
  resumed = publish (resume_at x h) h

  at_day : (value : ℕ) (day : Day × ℕ) → AllTimely (now resumed) (declare_on value resumed day)
  at_day value (day, close) = at_break (now resumed) value (declares (market_halt resumed) (greatest_declared resumed) close day (now resumed) value)

  by : (x : Record) → AllTimely (now resumed) (declare_at x resumed)
  by (in_.IndexTick a value) = at_value (now resumed) (declare_on value resumed) _ (at_day value)
  by (in_.Day a b c) = tt
  by (in_.Listing a b c d e) = tt
  by (in_.Trade a b c d e f) = tt
  by (in_.Cancel a b c) = tt
  by (in_.Quote a b c d e f) = tt
  by (in_.Clock a) = tt
  by (in_.Notice a b c) = tt
  by (in_.Indication a b c d) = tt

pub timely_is : (h H : List Event) → H ≡ h → AreTimely h → AreTimely H
timely_is h H is t = subst AreTimely (sym is) t
