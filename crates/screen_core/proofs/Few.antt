-- What a rule publishes at once: how many messages, and that their price bands are of whole cents.
use Rattle.std.proofs.Common.{◌≡◌, ℕ, suc, ◌+◌, ◌*◌, ◌%◌, ◌≤◌, Bool, true, false, cond, List, [], ◌∷◌, ◌++◌, length, not, Option, Some, None, refl, sym, ap, subst, ◌∙◌, arith, length-append}
use Rattle.std.specs.Prelude.{All, min, max}
use Rattle.std.specs.Option.{option_map_or}
use Rattle.std.proofs.Math.Nat.{mul-mod_right}
use Rattle.std.proofs.lemmas.List.Elements.{All-nil, All-cons, All-append}
use Rattle.price_core.specs.declared.quote.Cause.{Cause}
use Rattle.price_core.specs.declared.quote.Cause.TheVariants as cause
use Rattle.session_core.specs.declared.day.Day.{Day}
use Rattle.session_core.specs.declared.state.Level.{Level}
use Rattle.session_core.specs.declared.state.Phase.{Phase}
use Rattle.pause_core.specs.declared.turning.Brakes.{Brakes}
use Rattle.pause_core.specs.Phases.{is_done, is_trading}
use Rattle.pause_core.specs.Turns as turns
use Rattle.refprice_core.specs.declared.reference.Priced.{Priced}
use Rattle.reopen_core.specs.declared.auction.Trial.{Trial}
use Rattle.reopen_core.specs.declared.auction.Trial.TheVariants as trial
use Rattle.wire_in.specs.declared.record.Record.{Record}
use Rattle.wire_in.specs.declared.record.Record.TheVariants as in_
use Rattle.wire_in.proofs.RecordKinds.{by_listing}
use Rattle.wire_out.specs.declared.message.Message.{Message}
use Rattle.wire_out.specs.declared.message.Message.TheVariants as out
use Rattle.wire_out.specs.declared.message.ShortKind.TheVariants.{Carried, Triggered}
use Rattle.rulebook.specs.declared.event.Event.{Event}
use Rattle.rulebook.specs.declared.symbol.Terms.{Terms}
use Rattle.rulebook.specs.Auction.{is_paused, last_round}
use Rattle.rulebook.specs.Book.{Named, all_obeyed, announced, context, obeyed, symbol_rules}
use Rattle.rulebook.specs.History.{publish, records}
use Rattle.rulebook.specs.Market.{breaks, day_record, declare_at, declare_on, resume_at}
use Rattle.rulebook.specs.Rules as rules
use Rattle.rulebook.specs.Rules.{Context, becomes, is_carried, phase_now}
use Rattle.rulebook.specs.Symbol.{bands_of, last_band, phase, terms}
use Rattle.rulebook.proofs.Histories.{market_part, own_part, part}
use Rattle.rulebook.proofs.OtherRecords.{leaves}
use Rattle.board_core.specs.Seats.{IsWhole}

-- at most so many messages, with bands of whole cents
pub record IsFew (n : ℕ) (ms : List Message) : Type 0 where
  pub few : length ms ≤ n
  pub whole : All IsWhole ms

none : (n : ℕ) → IsFew n []
none n = record { few = omega arith; whole = All-nil IsWhole }

one : (n : ℕ) (m : Message) → IsWhole m → IsFew (suc n) (m ∷ [])
one n m whole = record { few = omega arith; whole = All-cons IsWhole m [] whole (All-nil IsWhole) }

both : (n m : ℕ) (a b : List Message) → IsFew n a → IsFew m b → IsFew (n + m) (a ++ b)
both n m a b first second = record {
  few = omega (arith, length-append a b, first.few, second.few);
  whole = All-append IsWhole a b first.whole second.whole;
}

if_then : (n : ℕ) (b : Bool) (ms : List Message) → IsFew n ms → IsFew n (cond b ms [])
if_then n true ms few = few
if_then n false ms few = none n

if_some : {X : Type 0} (n : ℕ) (f : X → List Message) (o : Option X) → ((x : X) → IsFew n (f x)) → IsFew n (option_map_or f o [])
if_some n f None few = none n
if_some n f (Some x) few = few x

two_ways : (n : ℕ) (a b : Bool) (first second : List Message) → IsFew n first → IsFew n second → IsFew n (cond a first (cond b second []))
two_ways n true b first second one two = one
two_ways n false b first second one two = if_then n b second two

-- bands are multiples of 100 units

hundreds : (q x : ℕ) → x ≡ 100 * q → x % 100 ≡ 0
hundreds q x is = ap (λ (n : ℕ). n % 100) is ∙ mul-mod_right 100 q

lower_whole : (q : ℕ) → max 100 (100 * q) % 100 ≡ 0
lower_whole q = hundreds (max 1 q) _ (omega arith)

upper_whole : (q r : ℕ) → min 99999999900 (max (max 100 (100 * q) + 100) (100 * r)) % 100 ≡ 0
upper_whole q r = hundreds (min 999999999 (max (max 1 q + 1) r)) _ (omega arith)

bands_whole : (c : Context) (why : Cause) (price : ℕ) (listed : Terms) → let b = bands_of listed c.day c.moment price in IsWhole (out.Band c.symbol why price b.lower b.upper)
bands_whole c why price listed = (lower_whole _, upper_whole _ _)

-- The rules of a symbol.

turned-few : (rule : Phase → Brakes → Option Phase) (c : Context) → IsFew 1 (rules.turned rule c)
turned-few rule c = if_some 1 (becomes c) (rule (phase_now c) (rules.brakes c)) (λ p. one 0 (out.State c.symbol p) tt)

pause-few : (c : Context) → IsFew 2 (rules.pause c)
pause-few c =
    if_some 2 (rules.pause_as c) _
    (λ p. both 1 1 (becomes c p) _ (one 0 (out.State c.symbol p) tt) (if_then 1 (is_paused p) _ (if_some 1 (rules.first_round c) (last_band c.history c.symbol) (λ b. one 0 _ tt))))

reopened-few : (c : Context) (round : ℕ) (t : Trial) → IsFew 2 (rules.reopened c round t)
reopened-few c round trial.NotDue = none 2
reopened-few c round (trial.Extend collars) = one 1 _ tt
reopened-few c round (trial.Release price) = both 1 1 (out.Release c.symbol price ∷ []) (becomes c Phase.Trading) (one 0 (out.Release c.symbol price) tt) (one 0 (out.State c.symbol Phase.Trading) tt)
reopened-few c round trial.Closing = one 1 _ tt

reopen-few : (c : Context) → IsFew 2 (rules.reopen c)
reopen-few c =
    if_then 2 (is_paused (phase_now c)) _
    (if_some 2 (rules.reopen_after c) (last_round c.history c.symbol)
    (λ round. if_some 2 (rules.reopen_with c round) (last_band c.history c.symbol) (λ b. reopened-few c round.number _)))

leave-few : (c : Context) → IsFew 1 (rules.leave_limit c)
leave-few c = if_then 1 _ (becomes c Phase.Trading) (one 0 (out.State c.symbol Phase.Trading) tt)

band-few : (c : Context) (why : Cause) (price : ℕ) → IsFew 1 (rules.band c why price)
band-few c why price = if_some 1 _ (terms c.history c.own) (λ listed. one 0 _ (bands_whole c why price listed))

publish_band-few : (c : Context) → IsFew 1 (rules.publish_band c)
publish_band-few c = by (rules.reference c) where
  by : (o : Option Priced) → IsFew 1 (elim o [ Some r ↦ rules.band c r.cause r.price | None ↦ option_map_or (rules.band_by_time c) (last_band c.history c.symbol) [] ])
  by (Some r) = band-few c r.cause r.price
  by None = if_some 1 (rules.band_by_time c) (last_band c.history c.symbol) (λ last. if_then 1 _ _ (band-few c cause.Times last.reference))

enter-few : (c : Context) → IsFew 1 (rules.enter_limit c)
enter-few c = by (is_trading (phase_now c)) where
  low_or_high : IsFew 1 (cond (rules.is_at_band Phase.LimitLow c) (becomes c Phase.LimitLow) (cond (rules.is_at_band Phase.LimitHigh c) (becomes c Phase.LimitHigh) []))
  low_or_high = two_ways 1 _ _ (becomes c Phase.LimitLow) (becomes c Phase.LimitHigh) (one 0 (out.State c.symbol Phase.LimitLow) tt) (one 0 (out.State c.symbol Phase.LimitHigh) tt)

  by : (b : Bool) → IsFew 1 (cond (not b) [] (cond (rules.is_at_band Phase.LimitLow c) (becomes c Phase.LimitLow) (cond (rules.is_at_band Phase.LimitHigh c) (becomes c Phase.LimitHigh) [])))
  by true = low_or_high
  by false = none 1

straddle-few : (c : Context) → IsFew 1 (rules.straddle c)
straddle-few c = two_ways 1 _ _ (out.Straddle c.symbol true ∷ []) (out.Straddle c.symbol false ∷ []) (one 0 (out.Straddle c.symbol true) tt) (one 0 (out.Straddle c.symbol false) tt)

restrict-few : (c : Context) → IsFew 1 (rules.restrict c)
restrict-few c = if_then 1 _ (out.Short c.symbol Triggered ∷ []) (one 0 (out.Short c.symbol Triggered) tt)

-- the rules give so many messages together
abbrev Most : ℕ → List (Context → List Message) → Type 0
Most n [] = Unit {0}
Most n (rule ∷ later) = (k : ℕ) × (m : ℕ) × (k + m ≡ n) × ((c : Context) → IsFew k (rule c)) × Most m later

rules_most : Most 13 symbol_rules
rules_most = (1, 12, refl, turned-few turns.session_close, (1, 11, refl, turned-few turns.market_halt, (1, 10, refl, turned-few turns.start, (1, 9, refl, turned-few turns.regulatory_halt, (2, 7, refl, pause-few, (2, 5, refl, reopen-few, (1, 4, refl, leave-few, (1, 3, refl, publish_band-few, (1, 2, refl, enter-few, (1, 1, refl, straddle-few, (1, 0, refl, restrict-few, tt)))))))))))

obeyed-few : (n : ℕ) (day : Day) (s : Named) (x : Record) (rule : Context → List Message) (h : List Event) → ((c : Context) → IsFew n (rule c)) → IsFew n (obeyed day s x rule h)
obeyed-few n day s x rule h few = by (is_done (phase h s.symbol)) where
  by : (b : Bool) → IsFew n (cond b [] (rule (context day s x h)))
  by true = none n
  by false = few (context day s x h)

all_obeyed-few : (n : ℕ) (day : Day) (s : Named) (x : Record) (rules : List (Context → List Message)) (h : List Event) → Most n rules → IsFew n (all_obeyed day s x rules h)
all_obeyed-few n day s x [] h most = none n
all_obeyed-few n day s x (rule ∷ later) h (k, m, sum, few, most) =
    subst (λ (n : ℕ). IsFew n (all_obeyed day s x (rule ∷ later) h)) sum
    (both k m (obeyed day s x rule h) (all_obeyed day s x later (publish (obeyed day s x rule h) h)) (obeyed-few k day s x rule h few)
    (all_obeyed-few m day s x later (publish (obeyed day s x rule h) h) most))

-- The parts of a step.

pub part-few : (x : Record) (s : Named) (h : List Event) → IsFew 13 (part x s h)
part-few x s h = if_some 13 _ (day_record (records h)) (λ day. all_obeyed-few 13 day.0 s x symbol_rules h rules_most)

announced-few : (x : Record) (s : Named) (h : List Event) → IsFew 2 (announced s x h)
announced-few x s h =
    by_listing (λ y. IsFew 2 (announced s y h)) (λ t d c. none 2) (λ t name k l c. by name (is_carried h s.own s.symbol))
    (λ y o. subst (IsFew 2) (sym ((leaves y [] o).announces s h)) (none 2)) x
  where
    by : (name : List ℕ) (b : Bool) → IsFew 2 (cond b (out.Listed s.symbol name ∷ out.Short s.symbol Carried ∷ []) (out.Listed s.symbol name ∷ []))
    by name true = both 1 1 (out.Listed s.symbol name ∷ []) (out.Short s.symbol Carried ∷ []) (one 0 (out.Listed s.symbol name) tt) (one 0 (out.Short s.symbol Carried) tt)
    by name false = one 1 (out.Listed s.symbol name) tt

pub own-few : (x : Record) (s : Named) (h : List Event) → IsFew 15 (own_part x s h)
own-few x s h = both 2 13 (announced s x h) _ (announced-few x s h) (part-few x s (publish (announced s x h) h))

resume-few : (x : Record) (h : List Event) → IsFew 1 (resume_at x h)
resume-few x h = if_then 1 _ (out.MarketResume ∷ []) (one 0 out.MarketResume tt)

breaks-few : (value : ℕ) (level : Option Level) → IsFew 1 (breaks value level)
breaks-few value None = none 1
breaks-few value (Some level) = one 0 (out.Breaker level value) tt

declare-few : (x : Record) (h : List Event) → IsFew 1 (declare_at x h)
declare-few (in_.IndexTick t value) h = if_some 1 (declare_on value h) (day_record (records h)) (λ day. breaks-few value _)
declare-few (in_.Listing t name k l c) h = none 1
declare-few (in_.Day t d c) h = none 1
declare-few (in_.Trade t i n p q f) h = none 1
declare-few (in_.Cancel t i n) h = none 1
declare-few (in_.Quote t i b o x y) h = none 1
declare-few (in_.Clock t) h = none 1
declare-few (in_.Notice t i k) h = none 1
declare-few (in_.Indication t i p u) h = none 1

pub market-few : (x : Record) (h : List Event) → IsFew 2 (market_part x h)
market-few x h = both 1 1 (resume_at x h) (declare_at x (publish (resume_at x h) h)) (resume-few x h) (declare-few x (publish (resume_at x h) h))
