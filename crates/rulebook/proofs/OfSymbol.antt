-- Each message of a rule of a symbol is of that symbol.
use Rattle.std.proofs.Common.{◌≡◌, ℕ, zero, suc, ◌≤◌, Bool, true, false, cond, List, [], ◌∷◌, ◌++◌, Option, Some, None, is_some, not, refl, sym, ap, subst, ◌∙◌, append_assoc, arith}
use Rattle.std.specs.Prelude.{◌==◌, filter}
use Rattle.std.specs.Option.{option_map_or}
use Rattle.std.proofs.lemmas.Bool.Decides.{nat_tests}
use Rattle.std.proofs.lemmas.List.Elements.{filter-append}
use Rattle.price_core.specs.declared.quote.Cause.{Cause}
use Rattle.price_core.specs.declared.quote.Cause.TheVariants as cause
use Rattle.session_core.specs.declared.day.Day.{Day}
use Rattle.session_core.specs.declared.state.Level.{Level}
use Rattle.session_core.specs.declared.state.Phase.{Phase}
use Rattle.pause_core.specs.declared.turning.Brakes.{Brakes}
use Rattle.pause_core.specs.Phases.{is_done, is_trading}
use Rattle.pause_core.specs.Turns as turns
use Rattle.refprice_core.specs.declared.reference.Priced.{Priced}
use Rattle.reopen_core.specs.declared.auction.Trial.{Trial}
use Rattle.reopen_core.specs.declared.auction.Trial.TheVariants as trial
use Rattle.wire_in.specs.declared.record.Record.{Record}
use Rattle.wire_in.specs.declared.record.Record.TheVariants as in_
use Rattle.wire_in.proofs.RecordKinds.{by_listing}
use Rattle.wire_out.specs.declared.message.Message.{Message}
use Rattle.wire_out.specs.declared.message.Message.TheVariants as out
use Rattle.wire_out.specs.declared.message.ShortKind.TheVariants.{Carried, Triggered}
use Rattle.rulebook.specs.declared.event.Event.{Event}
use Rattle.rulebook.specs.declared.event.Event.TheVariants.{Published}
use Rattle.rulebook.specs.Auction.{is_paused, last_round}
use Rattle.rulebook.specs.Book.{Named, context, obeyed, all_obeyed, symbol_rules, announced, named, ids_below}
use Rattle.rulebook.specs.History.{records, publish}
use Rattle.rulebook.specs.Market.{day_record, market_halt, greatest_declared, resume_at, declare_at, declare_on, breaks}
use Rattle.rulebook.specs.Rules as rules
use Rattle.rulebook.specs.Rules.{Context, is_carried, phase_now, becomes}
use Rattle.rulebook.specs.Symbol.{phase, last_band, terms}
use Rattle.rulebook.proofs.Histories.{part, own_part, parts, market_part, publish-append}
use Rattle.rulebook.proofs.OtherRecords.{leaves}

-- the symbol of a message, none where it is the market's
abbrev pub speaker : Message → Option ℕ
speaker (out.Listed s name) = Some s
speaker (out.State s p) = Some s
speaker (out.Band s why reference lower upper) = Some s
speaker (out.Straddle s on) = Some s
speaker (out.Collar s round lower upper) = Some s
speaker (out.Release s price) = Some s
speaker (out.Short s kind) = Some s
speaker (out.Breaker level index) = None
speaker out.MarketResume = None

-- these messages are all of a symbol, or all the market's
abbrev pub AllBy : Option ℕ → List Message → Type 0
AllBy s [] = Unit {0}
AllBy s (m ∷ ms) = (speaker m ≡ s) × AllBy s ms

AllBy-append : (s : Option ℕ) (a b : List Message) → AllBy s a → AllBy s b → AllBy s (a ++ b)
AllBy-append s [] b first second = second
AllBy-append s (m ∷ a) b first second = (first.0, AllBy-append s a b first.1 second)

if_then : (s : Option ℕ) (b : Bool) (ms : List Message) → AllBy s ms → AllBy s (cond b ms [])
if_then s true ms all = all
if_then s false ms all = tt

if_some : {X : Type 0} (s : Option ℕ) (f : X → List Message) (o : Option X) → ((x : X) → AllBy s (f x)) → AllBy s (option_map_or f o [])
if_some s f None all = tt
if_some s f (Some x) all = all x

-- The rules of a symbol speak of it.

turned-by : (rule : Phase → Brakes → Option Phase) (c : Context) → AllBy (Some c.symbol) (rules.turned rule c)
turned-by rule c = if_some (Some c.symbol) (becomes c) (rule (phase_now c) (rules.brakes c)) (λ p. (refl, tt))

pause-by : (c : Context) → AllBy (Some c.symbol) (rules.pause c)
pause-by c = if_some (Some c.symbol) (rules.pause_as c) _ (λ p. (refl, if_then (Some c.symbol) (is_paused p) _ (if_some (Some c.symbol) (rules.first_round c) (last_band c.history c.symbol) (λ b. (refl, tt)))))

reopened-by : (c : Context) (round : ℕ) (t : Trial) → AllBy (Some c.symbol) (rules.reopened c round t)
reopened-by c round trial.NotDue = tt
reopened-by c round (trial.Extend collars) = (refl, tt)
reopened-by c round (trial.Release price) = (refl, (refl, tt))
reopened-by c round trial.Closing = (refl, tt)

reopen-by : (c : Context) → AllBy (Some c.symbol) (rules.reopen c)
reopen-by c =
    if_then (Some c.symbol) (is_paused (phase_now c)) _
    (if_some (Some c.symbol) (rules.reopen_after c) (last_round c.history c.symbol)
    (λ round. if_some (Some c.symbol) (rules.reopen_with c round) (last_band c.history c.symbol) (λ b. reopened-by c round.number _)))

leave_limit-by : (c : Context) → AllBy (Some c.symbol) (rules.leave_limit c)
leave_limit-by c = if_then (Some c.symbol) _ (becomes c Phase.Trading) (refl, tt)

band-by : (c : Context) (why : Cause) (price : ℕ) → AllBy (Some c.symbol) (rules.band c why price)
band-by c why price = if_some (Some c.symbol) _ (terms c.history c.own) (λ listed. (refl, tt))

publish_band-by : (c : Context) → AllBy (Some c.symbol) (rules.publish_band c)
publish_band-by c = by (rules.reference c) where
  by : (o : Option Priced) → AllBy (Some c.symbol) (elim o [ Some r ↦ rules.band c r.cause r.price | None ↦ option_map_or (rules.band_by_time c) (last_band c.history c.symbol) [] ])
  by (Some r) = band-by c r.cause r.price
  by None = if_some (Some c.symbol) (rules.band_by_time c) (last_band c.history c.symbol) (λ last. if_then (Some c.symbol) _ _ (band-by c cause.Times last.reference))

two_ways : (s : Option ℕ) (a b : Bool) (first second : List Message) → AllBy s first → AllBy s second → AllBy s (cond a first (cond b second []))
two_ways s true b first second one two = one
two_ways s false b first second one two = if_then s b second two

enter_limit-by : (c : Context) → AllBy (Some c.symbol) (rules.enter_limit c)
enter_limit-by c = by (is_trading (phase_now c)) where
  low_or_high : AllBy (Some c.symbol) (cond (rules.is_at_band Phase.LimitLow c) (becomes c Phase.LimitLow) (cond (rules.is_at_band Phase.LimitHigh c) (becomes c Phase.LimitHigh) []))
  low_or_high = two_ways (Some c.symbol) _ _ (becomes c Phase.LimitLow) (becomes c Phase.LimitHigh) (refl, tt) (refl, tt)

  by : (b : Bool) → AllBy (Some c.symbol) (cond (not b) [] (cond (rules.is_at_band Phase.LimitLow c) (becomes c Phase.LimitLow) (cond (rules.is_at_band Phase.LimitHigh c) (becomes c Phase.LimitHigh) [])))
  by true = low_or_high
  by false = tt

straddle-by : (c : Context) → AllBy (Some c.symbol) (rules.straddle c)
straddle-by c = two_ways (Some c.symbol) _ _ (out.Straddle c.symbol true ∷ []) (out.Straddle c.symbol false ∷ []) (refl, tt) (refl, tt)

restrict-by : (c : Context) → AllBy (Some c.symbol) (rules.restrict c)
restrict-by c = if_then (Some c.symbol) _ (out.Short c.symbol Triggered ∷ []) (refl, tt)

abbrev pub AllSpeak : List (Context → List Message) → Type 0
AllSpeak [] = Unit {0}
AllSpeak (rule ∷ rules) = ((c : Context) → AllBy (Some c.symbol) (rule c)) × AllSpeak rules

pub rules_speak : AllSpeak symbol_rules
rules_speak = (
  turned-by turns.session_close,
  (turned-by turns.market_halt, (turned-by turns.start, (turned-by turns.regulatory_halt, (pause-by, (reopen-by, (leave_limit-by, (publish_band-by, (enter_limit-by, (straddle-by, (restrict-by, tt)))))))))),
)

obeyed-by : (day : Day) (s : Named) (x : Record) (rule : Context → List Message) (h : List Event) → ((c : Context) → AllBy (Some c.symbol) (rule c)) → AllBy (Some s.symbol) (obeyed day s x rule h)
obeyed-by day s x rule h speaks = by (is_done (phase h s.symbol)) where
  by : (b : Bool) → AllBy (Some s.symbol) (cond b [] (rule (context day s x h)))
  by true = tt
  by false = speaks (context day s x h)

pub all_obeyed-by : (day : Day) (s : Named) (x : Record) (rules : List (Context → List Message)) (h : List Event) → AllSpeak rules → AllBy (Some s.symbol) (all_obeyed day s x rules h)
all_obeyed-by day s x [] h all = tt
all_obeyed-by day s x (rule ∷ rules) h all =
    AllBy-append (Some s.symbol) (obeyed day s x rule h) (all_obeyed day s x rules (publish (obeyed day s x rule h) h)) (obeyed-by day s x rule h all.0)
    (all_obeyed-by day s x rules (publish (obeyed day s x rule h) h) all.1)

pub part-by : (x : Record) (s : Named) (h : List Event) → AllBy (Some s.symbol) (part x s h)
part-by x s h = if_some (Some s.symbol) _ (day_record (records h)) (λ day. all_obeyed-by day.0 s x symbol_rules h rules_speak)

announced-by : (x : Record) (s : Named) (h : List Event) → AllBy (Some s.symbol) (announced s x h)
announced-by x s h =
    by_listing (λ y. AllBy (Some s.symbol) (announced s y h)) (λ t d c. tt) (λ t name k l c. by name (is_carried h s.own s.symbol))
    (λ y o. subst (AllBy (Some s.symbol)) (sym ((leaves y [] o).announces s h)) tt) x
  where
    by : (name : List ℕ) (b : Bool)
        → AllBy (Some s.symbol) (cond b (out.Listed s.symbol name ∷ out.Short s.symbol Carried ∷ []) (out.Listed s.symbol name ∷ []))
    by name true = (refl, (refl, tt))
    by name false = (refl, tt)

pub own_part-by : (x : Record) (s : Named) (h : List Event) → AllBy (Some s.symbol) (own_part x s h)
own_part-by x s h =
    AllBy-append (Some s.symbol) (announced s x h) (part x s (publish (announced s x h) h)) (announced-by x s h) (part-by x s (publish (announced s x h) h))

-- The market-wide rules speak of none.

resume-by : (x : Record) (h : List Event) → AllBy None (resume_at x h)
resume-by x h = if_then None _ (out.MarketResume ∷ []) (refl, tt)

breaks-by : (value : ℕ) (level : Option Level) → AllBy None (breaks value level)
breaks-by value None = tt
breaks-by value (Some level) = (refl, tt)

declare-by : (x : Record) (h : List Event) → AllBy None (declare_at x h)
declare-by (in_.IndexTick t value) h = if_some None (declare_on value h) (day_record (records h)) (λ day. breaks-by value _)
declare-by (in_.Listing t name k l c) h = tt
declare-by (in_.Day t d c) h = tt
declare-by (in_.Trade t i n p q f) h = tt
declare-by (in_.Cancel t i n) h = tt
declare-by (in_.Quote t i b o x y) h = tt
declare-by (in_.Clock t) h = tt
declare-by (in_.Notice t i k) h = tt
declare-by (in_.Indication t i p u) h = tt

pub market_part-by : (x : Record) (h : List Event) → AllBy None (market_part x h)
market_part-by x h = AllBy-append None (resume_at x h) (declare_at x (publish (resume_at x h) h)) (resume-by x h) (declare-by x (publish (resume_at x h) h))

-- Messages that say nothing of a symbol.

abbrev pub is_by : ℕ → Message → Bool
is_by s m = option_map_or (λ id. id == s) (speaker m) false

abbrev pub NoneBy : ℕ → List Message → Type 0
NoneBy s [] = Unit {0}
NoneBy s (m ∷ ms) = (is_by s m ≡ false) × NoneBy s ms

pub NoneBy-append : (s : ℕ) (a b : List Message) → NoneBy s a → NoneBy s b → NoneBy s (a ++ b)
NoneBy-append s [] b first second = second
NoneBy-append s (m ∷ a) b first second = (first.0, NoneBy-append s a b first.1 second)

pub by_market : (s : ℕ) (ms : List Message) → AllBy None ms → NoneBy s ms
by_market s [] all = tt
by_market s (m ∷ ms) all = (ap (λ (o : Option ℕ). option_map_or (λ id. id == s) o false) all.0, by_market s ms all.1)

pub by_other : (s t : ℕ) (ms : List Message) → (t == s) ≡ false → AllBy (Some t) ms → NoneBy s ms
by_other s t [] apart all = tt
by_other s t (m ∷ ms) apart all = (ap (λ (o : Option ℕ). option_map_or (λ id. id == s) o false) all.0 ∙ apart, by_other s t ms apart all.1)

pub parts-append : (x : Record) (a b : List ℕ) (h : List Event) → parts x (a ++ b) h ≡ parts x a h ++ parts x b (publish (parts x a h) h)
parts-append x [] b h = refl
parts-append x (s ∷ a) b h =
    let ms = part x (named (records h) s) h in
    let rest = parts x a (publish ms h) in
    ap (λ later. ms ++ later) (parts-append x a b (publish ms h))
    ∙ sym (append_assoc ms rest (parts x b (publish rest (publish ms h))))
    ∙ ap (λ opened. (ms ++ rest) ++ parts x b opened) (sym (publish-append ms rest h))

-- the symbols before s say nothing of it
pub parts-below : (x : Record) (passes : ℕ → Bool) (n s : ℕ) (h : List Event) → n ≤ s → NoneBy s (parts x (filter passes (ids_below n)) h)
parts-below x passes zero s h le = tt
parts-below x passes (suc n) s h le =
    subst (NoneBy s) (sym (ap (λ ids. parts x ids h) (filter-append passes (ids_below n) (n ∷ [])) ∙ parts-append x (filter passes (ids_below n)) (filter passes (n ∷ [])) h))
    (NoneBy-append s before (parts x (filter passes (n ∷ [])) opened) (parts-below x passes n s h (omega arith)) (by (passes n)))
  where
    before : List Message
    before = parts x (filter passes (ids_below n)) h

    opened : List Event
    opened = publish before h

    apart : (a b : ℕ) → suc a ≤ b → (a == b) ≡ false
    apart a b le = grind (arith, nat_tests)

    by : (b : Bool) → NoneBy s (parts x (cond b (n ∷ []) []) opened)
    by true = NoneBy-append s (part x (named (records opened) n) opened) [] (by_other s n (part x (named (records opened) n) opened) (apart n s le) (part-by x (named (records opened) n) opened)) tt
    by false = tt

-- Messages of symbols leave the market-wide halt and levels.

abbrev pub AllOfSymbols : List Message → Type 0
AllOfSymbols [] = Unit {0}
AllOfSymbols (m ∷ ms) = (is_some (speaker m) ≡ true) × AllOfSymbols ms

pub AllOfSymbols-append : (a b : List Message) → AllOfSymbols a → AllOfSymbols b → AllOfSymbols (a ++ b)
AllOfSymbols-append [] b first second = second
AllOfSymbols-append (m ∷ a) b first second = (first.0, AllOfSymbols-append a b first.1 second)

pub of_symbol : (s : ℕ) (ms : List Message) → AllBy (Some s) ms → AllOfSymbols ms
of_symbol s [] all = tt
of_symbol s (m ∷ ms) all = (ap is_some all.0, of_symbol s ms all.1)

pub parts-of_symbols : (x : Record) (ids : List ℕ) (h : List Event) → AllOfSymbols (parts x ids h)
parts-of_symbols x [] h = tt
parts-of_symbols x (s ∷ ids) h =
    let ms = part x (named (records h) s) h in
    AllOfSymbols-append ms (parts x ids (publish ms h)) (of_symbol s ms (part-by x (named (records h) s) h)) (parts-of_symbols x ids (publish ms h))

halt-one : (m : Message) (h : List Event) → is_some (speaker m) ≡ true → (market_halt (Published m ∷ h) ≡ market_halt h) × (greatest_declared (Published m ∷ h) ≡ greatest_declared h)
halt-one (out.Listed s name) h e = (refl, refl)
halt-one (out.State s p) h e = (refl, refl)
halt-one (out.Band s why reference lower upper) h e = (refl, refl)
halt-one (out.Straddle s on) h e = (refl, refl)
halt-one (out.Collar s round lower upper) h e = (refl, refl)
halt-one (out.Release s price) h e = (refl, refl)
halt-one (out.Short s kind) h e = (refl, refl)
halt-one (out.Breaker level index) h e = absurd cc
halt-one out.MarketResume h e = absurd cc

pub market_halt-publish : (ms : List Message) (h : List Event) → AllOfSymbols ms → market_halt (publish ms h) ≡ market_halt h
market_halt-publish [] h all = refl
market_halt-publish (m ∷ ms) h all = market_halt-publish ms (Published m ∷ h) all.1 ∙ (halt-one m h all.0).0

pub greatest-publish : (ms : List Message) (h : List Event) → AllOfSymbols ms → greatest_declared (publish ms h) ≡ greatest_declared h
greatest-publish [] h all = refl
greatest-publish (m ∷ ms) h all = greatest-publish ms (Published m ∷ h) all.1 ∙ (halt-one m h all.0).1
