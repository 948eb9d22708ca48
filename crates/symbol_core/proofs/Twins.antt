-- Two histories for which the same kept state stands. The rules give the same on both, and the same kept state stands for
-- both again. So what a symbol says depends on nothing that its kept state doesn't tell.
use Rattle.std.proofs.Common.{◌≡◌, ℕ, Bool, true, false, cond, List, [], ◌∷◌, ◌++◌, refl, sym, ap, ◌∙◌, subst}
use Rattle.std.specs.Prelude.{Option, Some, None, if◌then◌else◌, option_map, is_some, ◌&&◌, not, filter}
use Rattle.std.specs.Option.{option_map_or}
use Rattle.price_core.specs.declared.quote.Cause.{Cause}
use Rattle.price_core.specs.declared.quote.Cause.TheVariants.{Times}
use Rattle.session_core.specs.declared.state.Phase.{Phase}
use Rattle.session_core.specs.declared.state.Phase.TheVariants.{Closing, Trading, LimitLow, LimitHigh}
use Rattle.session_core.specs.Times.{in_last_10_minutes}
use Rattle.wire_in.specs.declared.record.Record.{Record}
use Rattle.wire_in.specs.declared.record.Record.TheVariants as in_
use Rattle.wire_in.specs.Records.{is_day}
use Rattle.wire_out.specs.declared.message.Message.{Message}
use Rattle.wire_out.specs.declared.message.Message.TheVariants as out
use Rattle.wire_out.specs.declared.message.ShortKind.{ShortKind}
use Rattle.wire_out.specs.declared.message.ShortKind.TheVariants.{Carried, Triggered}
use Rattle.pause_core.specs.declared.turning.Brakes.{Brakes}
use Rattle.pause_core.specs.Phases.{is_done, is_limit, is_trading}
use Rattle.pause_core.specs.Turns as turns
use Rattle.window_core.specs.declared.window.Deal.{Deal}
use Rattle.window_core.specs.Deals.{live, mean_of}
use Rattle.refprice_core.specs.declared.reference.Priced.{Priced}
use Rattle.reopen_core.specs.declared.auction.Trial.{Trial}
use Rattle.reopen_core.specs.declared.auction.Trial.TheVariants as trial
use Rattle.reopen_core.specs.AuctionState.{AuctionState, with_trial}
use Rattle.reopen_core.specs.Trials as trials
use Rattle.rulebook.specs.declared.symbol.Banded.{Banded}
use Rattle.rulebook.specs.declared.event.Event.{Event}
use Rattle.rulebook.specs.declared.event.Event.TheVariants.{Accepted, Published}
use Rattle.rulebook.specs.Auction.{is_paused}
use Rattle.rulebook.specs.Book.{all_obeyed, announced, context, obeyed, symbol_rules}
use Rattle.rulebook.specs.History.{publish}
use Rattle.rulebook.specs.Rules as rules
use Rattle.rulebook.specs.Rules.{Context, at_band}
use Rattle.rulebook.specs.Symbol as of
use Rattle.rulebook.specs.Symbol.{is_times}
use Rattle.rulebook.proofs.Histories.{publish-append}
use Rattle.symbol_core.specs.declared.state.Kept.{Kept}
use Rattle.symbol_core.specs.declared.state.Step.{Step}
use Rattle.symbol_core.specs.declared.symbol.MarketView.{MarketView}
use Rattle.symbol_core.specs.Evaluates.{Opens, open_history, part_of, step_of}
use Rattle.symbol_core.specs.Kept.{announcing, auction_begun, banded, becoming, begins_auction, brakes, collars_of, in_round, is_straddling_now, pause_now, pausing, pausing_as, released, reopened, reopening, reopening_with, straddled, straddling, turned, with_auction}
use Rattle.symbol_core.specs.Pricing.{band, band_by_time, banding, reference, time_changes}
use Rattle.symbol_core.specs.InStep.{InStep}
use Rattle.symbol_core.specs.Rests.{Rests, SymbolState}
use Rattle.symbol_core.specs.Runs.{run_band, run_quote}
use Rattle.symbol_core.specs.Stands.{named, Stands}
use Rattle.symbol_core.specs.Steps.{Starts, step_for}
use Rattle.symbol_core.specs.Taken.{leaves, renewed, taken}
use Rattle.symbol_core.specs.Window.{window}
use Rattle.symbol_core.proofs.Apart.{stands-listed}
use Rattle.symbol_core.proofs.Evaluated.{away, away-open, evaluated-away, starts}
use Rattle.symbol_core.proofs.Finished.{rests-finished}
use Rattle.symbol_core.proofs.Gives.{announced-gives, banding-gives, enter-gives, entering, leave-gives, leaving, mean-gives, pause-gives, reopen-gives, restrict-gives, restricting, straddle-gives, turned-gives}
use Rattle.symbol_core.proofs.OtherMessages.{stands-banded, stands-released, stands-short, stands-straddled, stands-with_round}
use Rattle.symbol_core.proofs.Pauses.{Unpaused, alone, close-unpaused, halt-unpaused, priced-adopts, priced-unpaused, start-unpaused, stop-unpaused, trading-unpaused}
use Rattle.symbol_core.proofs.Phases.{stands-paused, stands-turned}
use Rattle.symbol_core.proofs.Resting.{rests-renewed}
use Rattle.symbol_core.proofs.Steps.{day_opened, stands-opened}

-- What messages of the symbol do to the kept state, whatever the history.

record Said (step : Step) (ms : List Message) (k : InStep) : Type 0 where
  pub new : InStep
  pub id : new.kept.id ≡ k.kept.id
  pub stands : (mine : List ℕ → Bool) (deals : List Deal) (h : List Event) → Stands mine k deals step h → Stands mine new deals step (publish ms h)

none_said : (step : Step) (k : InStep) → Said step [] k
none_said step k = record { new = k; id = refl; stands = λ mine deals h on. on }

-- a message, then others
then_said : (step : Step) (m : Message) (ms : List Message) (k : InStep) (first : Said step (m ∷ []) k) → Said step ms first.new → Said step (m ∷ ms) k
then_said step m ms k first rest =
    record { new = rest.new; id = rest.id ∙ first.id; stands = λ mine deals h on. rest.stands mine deals (Published m ∷ h) (first.stands mine deals h on) }

becoming_said : (k : InStep) (step : Step) (p : Phase) → begins_auction k.kept p ≡ false → Said step (becoming k.kept p) k
becoming_said k step p can = record { new = turned k step p; id = refl; stands = λ mine deals h on. stands-turned mine k deals step p h can on }

straddle_said : (k : InStep) (step : Step) (on : Bool) → Said step (out.Straddle k.kept.id on ∷ []) k
straddle_said k step on = record { new = straddled k on; id = refl; stands = λ mine deals h stands. stands-straddled mine k deals step on h stands }

release_said : (k : InStep) (step : Step) (price : ℕ) → Said step (out.Release k.kept.id price ∷ []) k
release_said k step price = record { new = released k price; id = refl; stands = λ mine deals h on. stands-released mine k deals step price h on }

short_said : (k : InStep) (step : Step) (kind : ShortKind) → Said step (out.Short k.kept.id kind ∷ []) k
short_said k step kind = record { new = k; id = refl; stands = λ mine deals h on. stands-short mine k deals step kind h on }

listed_said : (k : InStep) (step : Step) (name : List ℕ) → Said step (out.Listed k.kept.id name ∷ []) k
listed_said k step name = record { new = k; id = refl; stands = λ mine deals h on. stands-listed mine k deals step name h on }

-- by a test, and by whether there is a value
said_if : (step : Step) (test : Bool) (ms ns : List Message) (k : InStep) → (test ≡ true → Said step ms k) → (test ≡ false → Said step ns k) → Said step (if test then ms else ns) k
said_if step true ms ns k so else_so = so refl
said_if step false ms ns k so else_so = else_so refl

said_some : {X : Type 0} (step : Step) (f : X → List Message) (o : Option X) (k : InStep) → ((x : X) → o ≡ Some x → Said step (f x) k) → Said step (option_map_or f o []) k
said_some step f None k some = none_said step k
said_some step f (Some x) k some = some x refl

-- What each rule says.

turning_said : (rule : Phase → Brakes → Option Phase) → Unpaused rule → (k : InStep) (step : Step) → Said step (option_map_or (becoming k.kept) (rule k.kept.phase (brakes k.kept step)) []) k
turning_said rule unpaused k step =
    said_some step (becoming k.kept) (rule k.kept.phase (brakes k.kept step)) k
    (λ p is. becoming_said k step p (alone k.kept p (rule k.kept.phase (brakes k.kept step)) is (unpaused k.kept.phase (brakes k.kept step))))

pausing_said : (k : InStep) (step : Step) → Said step (pausing k.kept step) k
pausing_said k step = said_some step (pausing_as k.kept step) (pause_now k.kept step) k (λ p is. by p (is_paused p) (run_band k.kept) refl refl) where
  rounds : Banded → List Message
  rounds b = collars_of k.kept.id (auction_begun k.kept step b)

  by : (p : Phase) (paused : Bool) (band : Option Banded) → is_paused p ≡ paused → run_band k.kept ≡ band → Said step (becoming k.kept p ++ (if paused then option_map_or rounds band [] else [])) k
  by p false band e is = becoming_said k step p (ap (λ (b : Bool). b && is_some (run_band k.kept)) e)
  by p true None e is = becoming_said k step p (λ i. e i && is_some (is i))
  by p true (Some b) e is = record { new = with_auction (turned k step p) (Some (auction_begun k.kept step b)); id = refl; stands = λ mine deals h on. stands-paused mine k deals step p b h e is on }

reopening_said : (k : InStep) (step : Step) → Said step (reopening k.kept step) k
unfolding release_said
reopening_said k step = said_some step (reopening_with k.kept step) k.kept.auction k (λ a is. by a is (trials.trial step.moment (in_last_10_minutes step.moment step.day) a.round a.reference a.indication)) where
  by : (a : AuctionState) → k.kept.auction ≡ Some a → (o : Trial) → Said step (reopened k.kept (with_trial step.moment o a) o) k
  by a is trial.NotDue = none_said step k
  by a is (trial.Extend collars) =
      let next = with_trial step.moment (trial.Extend collars) a in
      record {
        new = with_auction k (Some next);
        id = refl;
        stands = λ mine deals h on. stands-with_round mine k deals step next h (ap (λ (o : Option AuctionState). option_map (in_round next.round) o) is) refl on;
      }
  by a is (trial.Release price) =
      then_said step (out.Release k.kept.id price) (becoming k.kept Trading) k (release_said k step price) (becoming_said (released k price) step Trading refl)
  by a is trial.Closing = becoming_said k step Closing refl

banding_said : (k : InStep) (step : Step) (mean : Option ℕ) → Said step (banding mean k step) k
banding_said k step mean = by (reference k step mean) refl where
  band_said : (why : Cause) (price : ℕ) → is_paused k.kept.phase ≡ false → (is_times why ≡ true → option_map (λ b. b.reference) (run_band k.kept) ≡ Some price) → Said step (band k.kept step why price) k
  band_said why price unpaused times =
      said_some step (λ listed. let b = of.bands_of listed step.day step.moment price in out.Band k.kept.id why price b.lower b.upper ∷ []) k.kept.terms k
      (λ listed is.
      let b : Banded = record { cause = why; reference = price; bands = of.bands_of listed step.day step.moment price } in
      record { new = banded k step b; id = refl; stands = λ mine deals h on. stands-banded mine k deals step b h unpaused times on })

  both_hold : (a b : Bool) → (a && b) ≡ true → a ≡ true
  both_hold true b e = refl
  both_hold false b e = absurd cc

  by : (o : Option Priced) → reference k step mean ≡ o → Said step (elim o [ Some r ↦ band k.kept step r.cause r.price | None ↦ option_map_or (band_by_time k.kept step) (run_band k.kept) [] ]) k
  by (Some r) is = band_said r.cause r.price (priced-unpaused k step mean r is) (λ times. let both : true ≡ false = sym times ∙ priced-adopts k step mean r is in absurd cc)
  by None is =
      said_some step (band_by_time k.kept step) (run_band k.kept) k
      (λ last is. said_if step (is_trading k.kept.phase && time_changes k.kept step last) (band k.kept step Times last.reference) [] k
      (λ so. band_said Times last.reference (trading-unpaused k.kept.phase (both_hold (is_trading k.kept.phase) (time_changes k.kept step last) so)) (λ times. ap (λ (o : Option Banded). option_map (λ b. b.reference) o) is)) (λ else_so. none_said step k))

straddling_said : (k : InStep) (step : Step) → Said step (straddling k.kept step) k
straddling_said k step =
    said_if step (is_straddling_now k.kept && not k.kept.straddling) (out.Straddle k.kept.id true ∷ []) (if k.kept.straddling && not (is_straddling_now k.kept) then out.Straddle k.kept.id false ∷ [] else []) k
    (λ so. straddle_said k step true)
    (λ else_so. said_if step (k.kept.straddling && not (is_straddling_now k.kept)) (out.Straddle k.kept.id false ∷ []) [] k (λ so. straddle_said k step false) (λ else_so. none_said step k))

restricting_said : (k : InStep) (step : Step) → Said step (restricting k step) k
restricting_said k step = said_if step k.opened.restricts (out.Short k.kept.id Triggered ∷ []) [] k (λ so. short_said k step Triggered) (λ else_so. none_said step k)

announcing_said : (k : InStep) (step : Step) (x : Record) → Said step (announcing k.kept x) k
unfolding listed_said
announcing_said k step (in_.Day t d c) = none_said step k
announcing_said k step (in_.Listing t name n l c) =
    said_if step k.kept.short.carried (out.Listed k.kept.id name ∷ out.Short k.kept.id Carried ∷ []) (out.Listed k.kept.id name ∷ []) k
    (λ so. then_said step (out.Listed k.kept.id name) (out.Short k.kept.id Carried ∷ []) k (listed_said k step name) (short_said k step Carried)) (λ else_so. listed_said k step name)
announcing_said k step (in_.Trade t i n p q f) = none_said step k
announcing_said k step (in_.Cancel t i n) = none_said step k
announcing_said k step (in_.Quote t i b o x y) = none_said step k
announcing_said k step (in_.IndexTick t v) = none_said step k
announcing_said k step (in_.Clock t) = none_said step k
announcing_said k step (in_.Notice t i n) = none_said step k
announcing_said k step (in_.Indication t i p u) = none_said step k

leaving_said : (k : InStep) (step : Step) → Said step (leaving k.kept step) k
leaving_said k step = said_if step (is_limit k.kept.phase && not (at_band k.kept.phase (run_quote k.kept) (run_band k.kept))) (becoming k.kept Trading) [] k (λ so. becoming_said k step Trading refl) (λ else_so. none_said step k)

entering_said : (k : InStep) (step : Step) → Said step (entering k.kept step) k
entering_said k step =
    said_if step (not (is_trading k.kept.phase)) [] (if at_band LimitLow (run_quote k.kept) (run_band k.kept) then becoming k.kept LimitLow else if at_band LimitHigh (run_quote k.kept) (run_band k.kept) then becoming k.kept LimitHigh else []) k (λ so. none_said step k)
    (λ else_so. said_if step (at_band LimitLow (run_quote k.kept) (run_band k.kept)) (becoming k.kept LimitLow) (if at_band LimitHigh (run_quote k.kept) (run_band k.kept) then becoming k.kept LimitHigh else []) k (λ so. becoming_said k step LimitLow refl)
    (λ else_so. said_if step (at_band LimitHigh (run_quote k.kept) (run_band k.kept)) (becoming k.kept LimitHigh) [] k (λ so. becoming_said k step LimitHigh refl) (λ else_so. none_said step k)))

-- The rules on two histories.

-- two histories publish the same, and the same kept state stands for both again
record Pair (mine other : List ℕ → Bool) (step : Step) (deals : List Deal) (k : InStep) (ms ns : List Message) (h g : List Event) : Type 0 where
  pub same : ms ≡ ns
  pub new : InStep
  pub id : new.kept.id ≡ k.kept.id
  pub one : Stands mine new deals step (publish ms h)
  pub two : Stands other new deals step (publish ns g)

pair : (mine other : List ℕ → Bool) (step : Step) (deals : List Deal) (k : InStep) (ms ns : List Message) (h g : List Event) → Said step ms k → ms ≡ ns
    → Stands mine k deals step h → Stands other k deals step g → Pair mine other step deals k ms ns h g
pair mine other step deals k ms ns h g further same one two =
    record {
      same = same;
      new = further.new;
      id = further.id;
      one = further.stands mine deals h one;
      two = subst (λ (xs : List Message). Stands other further.new deals step (publish xs g)) same (further.stands other deals g two);
    }

-- these messages, then those
pair_then : (mine other : List ℕ → Bool) (step : Step) (deals : List Deal) (k : InStep) (ms ns : List Message) (h g : List Event) (first : Pair mine other step deals k ms ns h g)
    → (a b : List Message) → Pair mine other step deals first.new a b (publish ms h) (publish ns g) → Pair mine other step deals k (ms ++ a) (ns ++ b) h g
pair_then mine other step deals k ms ns h g first a b rest =
    record {
      same = λ i. first.same i ++ rest.same i;
      new = rest.new;
      id = rest.id ∙ first.id;
      one = subst (Stands mine rest.new deals step) (sym (publish-append ms a h)) rest.one;
      two = subst (Stands other rest.new deals step) (sym (publish-append ns b g)) rest.two;
    }

-- a rule by what is kept: what it gives, and that this leaves a kept state for each history
record Ruled (rule : Context → List Message) : Type 0 where
  pub ms : List Deal → InStep → Step → List Message
  pub gives : (mine : List ℕ → Bool) (k : InStep) (step : Step) (deals : List Deal) (h : List Event) → Stands mine k deals step h → rule (context step.day (named mine k.kept.id) step.input h) ≡ ms deals k step
  pub says : (k : InStep) (step : Step) (deals : List Deal) → Said step (ms deals k step) k

abbrev AllRuled : List (Context → List Message) → Type 0
AllRuled [] = Unit {0}
AllRuled (rule ∷ later) = Ruled rule × AllRuled later

turning_ruled : (rule : Phase → Brakes → Option Phase) → Unpaused rule → Ruled (rules.turned rule)
turning_ruled rule unpaused =
    record {
      ms = λ deals k step. option_map_or (becoming k.kept) (rule k.kept.phase (brakes k.kept step)) [];
      gives = λ mine k step deals h s. turned-gives rule k step mine deals h s;
      says = λ k step deals. turning_said rule unpaused k step;
    }

all_ruled : AllRuled symbol_rules
all_ruled = (
  turning_ruled turns.session_close close-unpaused,
  (
    turning_ruled turns.market_halt stop-unpaused,
    (
      turning_ruled turns.start start-unpaused,
      (
        turning_ruled turns.regulatory_halt halt-unpaused,
        (
          record { ms = λ deals k step. pausing k.kept step; gives = λ mine k step deals h s. pause-gives k step mine deals h s; says = λ k step deals. pausing_said k step },
          (
            record { ms = λ deals k step. reopening k.kept step; gives = λ mine k step deals h s. reopen-gives k step mine deals h s; says = λ k step deals. reopening_said k step },
            (
              record { ms = λ deals k step. leaving k.kept step; gives = λ mine k step deals h s. leave-gives k step mine deals h s; says = λ k step deals. leaving_said k step },
              (
                record {
                  ms = λ deals k step. banding (mean_of (live step.moment (window k deals))) k step;
                  gives = λ mine k step deals h s. banding-gives (mean_of (live step.moment (window k deals))) k step mine deals h s (mean-gives k step mine deals h s);
                  says = λ k step deals. banding_said k step (mean_of (live step.moment (window k deals)));
                },
                (
                  record { ms = λ deals k step. entering k.kept step; gives = λ mine k step deals h s. enter-gives k step mine deals h s; says = λ k step deals. entering_said k step },
                  (
                    record { ms = λ deals k step. straddling k.kept step; gives = λ mine k step deals h s. straddle-gives k step mine deals h s; says = λ k step deals. straddling_said k step },
                    (
                      record { ms = λ deals k step. restricting k step; gives = λ mine k step deals h s. restrict-gives k step mine deals h s; says = λ k step deals. restricting_said k step },
                      tt,
                    ),
                  ),
                ),
              ),
            ),
          ),
        ),
      ),
    ),
  ),
)

obeyed_pair : (rule : Context → List Message) → Ruled rule → (mine other : List ℕ → Bool) (step : Step) (deals : List Deal) (k : InStep) (h g : List Event)
    → Stands mine k deals step h → Stands other k deals step g
    → Pair mine other step deals k (obeyed step.day (named mine k.kept.id) step.input rule h) (obeyed step.day (named other k.kept.id) step.input rule g) h g
obeyed_pair rule r mine other step deals k h g s t =
    pair mine other step deals k (obeyed step.day (named mine k.kept.id) step.input rule h) (obeyed step.day (named other k.kept.id) step.input rule g) h g
    (subst (λ (ms : List Message). Said step ms k) (sym one) (said_if step (is_done k.kept.phase) [] (r.ms deals k step) k (λ so. none_said step k) (λ else_so. r.says k step deals)))
    (one ∙ sym two) s t
  where
    one : obeyed step.day (named mine k.kept.id) step.input rule h ≡ (if is_done k.kept.phase then [] else r.ms deals k step)
    one = λ i. cond (is_done (sym s.phase i)) [] (r.gives mine k step deals h s i)

    two : obeyed step.day (named other k.kept.id) step.input rule g ≡ (if is_done k.kept.phase then [] else r.ms deals k step)
    two = λ i. cond (is_done (sym t.phase i)) [] (r.gives other k step deals g t i)

obeyed_pairs : (later : List (Context → List Message)) → AllRuled later → (mine other : List ℕ → Bool) (step : Step) (deals : List Deal) (k : InStep) (h g : List Event)
    → Stands mine k deals step h → Stands other k deals step g
    → Pair mine other step deals k (all_obeyed step.day (named mine k.kept.id) step.input later h) (all_obeyed step.day (named other k.kept.id) step.input later g) h g
obeyed_pairs [] all mine other step deals k h g s t = record { same = refl; new = k; id = refl; one = s; two = t }
obeyed_pairs (rule ∷ later) all mine other step deals k h g s t =
    let ms = obeyed step.day (named mine k.kept.id) step.input rule h in
    let ns = obeyed step.day (named other k.kept.id) step.input rule g in
    let first = obeyed_pair rule all.0 mine other step deals k h g s t in
    pair_then mine other step deals k ms ns h g first
    (all_obeyed step.day (named mine k.kept.id) step.input later (publish ms h)) (all_obeyed step.day (named other k.kept.id) step.input later (publish ns g))
    (subst
    (λ (i : ℕ). Pair mine other step deals first.new (all_obeyed step.day (named mine i) step.input later (publish ms h)) (all_obeyed step.day (named other i) step.input later (publish ns g)) (publish ms h) (publish ns g))
    first.id (obeyed_pairs later all.1 mine other step deals first.new (publish ms h) (publish ns g) first.one first.two))

-- A record on two histories.

-- a kept state that rests on both
pub record Twins (mine other : List ℕ → Bool) (s : ℕ) (h g : List Event) : Type 0 where
  pub held : SymbolState
  pub id : held.kept.id ≡ s
  pub one : Rests mine held h
  pub two : Rests other held g

-- what two open steps publish is the same, and the same kept state rests on both again
pub record Alike (mine other : List ℕ → Bool) (s : ℕ) (ms ns : List Message) (h g : List Event) : Type 0 where
  pub same : ms ≡ ns
  pub twins : Twins mine other s (publish ms h) (publish ns g)

step_pair : (mine other : List ℕ → Bool) (step : Step) (k : Kept) (kept : List Deal) (others more : List Message) (h g : List Event) → Starts mine k kept step others h → Starts other k kept step more g
    → Pair mine other step (filter (leaves k.id step.input) kept) (taken k step) (step_of step.day (named mine k.id) step.input (open_history step.input others h)) (step_of step.day (named other k.id) step.input (open_history step.input more g))
    (open_history step.input others h) (open_history step.input more g)
step_pair mine other step k kept others more h g p q =
    let H = open_history step.input others h in
    let G = open_history step.input more g in
    let dropped = filter (leaves k.id step.input) kept in
    let s = stands-opened mine step k kept others h p in
    let t = stands-opened other step k kept more g q in
    let ms = announced (named mine k.id) step.input H in
    let ns = announced (named other k.id) step.input G in
    let first =
    pair mine other step dropped (taken k step) ms ns H G
    (subst (λ (xs : List Message). Said step xs (taken k step)) (sym (announced-gives (taken k step) step mine dropped H step.input s)) (announcing_said (taken k step) step step.input))
    (announced-gives (taken k step) step mine dropped H step.input s ∙ sym (announced-gives (taken k step) step other dropped G step.input t)) s t in
    pair_then mine other step dropped (taken k step) ms ns H G first
    (all_obeyed step.day (named mine k.id) step.input symbol_rules (publish ms H)) (all_obeyed step.day (named other k.id) step.input symbol_rules (publish ns G))
    (subst
    (λ (i : ℕ). Pair mine other step dropped first.new (all_obeyed step.day (named mine i) step.input symbol_rules (publish ms H)) (all_obeyed step.day (named other i) step.input symbol_rules (publish ns G)) (publish ms H) (publish ns G))
    first.id (obeyed_pairs symbol_rules all_ruled mine other step dropped first.new (publish ms H) (publish ns G) first.one first.two))

step_twins : (mine other : List ℕ → Bool) (step : Step) (k : Kept) (kept : List Deal) (others more : List Message) (h g : List Event) → Starts mine k kept step others h → Starts other k kept step more g
    → Alike mine other k.id (step_of step.day (named mine k.id) step.input (open_history step.input others h)) (step_of step.day (named other k.id) step.input (open_history step.input more g))
    (open_history step.input others h) (open_history step.input more g)
step_twins mine other step k kept others more h g p q =
    let both = step_pair mine other step k kept others more h g p q in
    let dropped = filter (leaves k.id step.input) kept in
    let ms = step_of step.day (named mine k.id) step.input (open_history step.input others h) in
    let ns = step_of step.day (named other k.id) step.input (open_history step.input more g) in
    record {
      same = both.same;
      twins = record {
        held = record { kept = both.new.kept; deals = window both.new dropped; spare = 0 };
        id = both.id;
        one = rests-finished mine both.new dropped (window both.new dropped) step p.index (publish ms (open_history step.input others h)) (day_opened mine step k kept others h p ms) (record { at = λ u le. refl }) both.one;
        two = rests-finished other both.new dropped (window both.new dropped) step q.index (publish ns (open_history step.input more g)) (day_opened other step k kept more g q ns) (record { at = λ u le. refl }) both.two;
      };
    }

own_twins : (mine other : List ℕ → Bool) (market : MarketView) (x : Record) (held : SymbolState) (others more : List Message) (h g : List Event) → Opens mine held market x others h → Opens other held market x more g
    → Alike mine other held.kept.id (part_of market.day (named mine held.kept.id) x (open_history x others h)) (part_of market.day (named other held.kept.id) x (open_history x more g))
    (open_history x others h) (open_history x more g)
own_twins mine other market x held others more h g p q = by (away x held.kept.terms) refl where
  H : List Event
  H = open_history x others h

  G : List Event
  G = open_history x more g

  part_is : (own : List ℕ → Bool) (said : List Message) (e : List Event) → Opens own held market x said e → (b : Bool) → away x held.kept.terms ≡ b
      → part_of market.day (named own held.kept.id) x (open_history x said e) ≡ cond b [] (step_of market.day (named own held.kept.id) x (open_history x said e))
  part_is own said e o b is = ap (λ (c : Bool). cond c [] (step_of market.day (named own held.kept.id) x (open_history x said e))) (away-open own held x said e o.rests ∙ is)

  by : (b : Bool) → away x held.kept.terms ≡ b → Alike mine other held.kept.id (part_of market.day (named mine held.kept.id) x H) (part_of market.day (named other held.kept.id) x G) H G
  by true e =
      let nothing = evaluated-away market x held [] e in
      record {
        same = part_is mine others h p true e ∙ sym (part_is other more g q true e);
        twins = record { held = held; id = refl; one = nothing.rests mine others h p; two = nothing.rests other more g q };
      }
  by false e =
      subst (λ (ms : List Message). Alike mine other held.kept.id ms (part_of market.day (named other held.kept.id) x G) H G) (sym (part_is mine others h p false e))
      (subst (λ (ns : List Message). Alike mine other held.kept.id (step_of market.day (named mine held.kept.id) x H) ns H G) (sym (part_is other more g q false e))
      (step_twins mine other (step_for market x) held.kept held.deals others more h g (starts mine held market x others h p) (starts other held market x more g q)))

-- a record that isn't a day
pub twins-step : (mine other : List ℕ → Bool) (market : MarketView) (x : Record) (s : ℕ) (held : SymbolState) (others more : List Message) (h g : List Event) → held.kept.id ≡ s
    → Opens mine held market x others h → Opens other held market x more g
    → Alike mine other s (part_of market.day (named mine s) x (open_history x others h)) (part_of market.day (named other s) x (open_history x more g)) (open_history x others h) (open_history x more g)
twins-step mine other market x s held others more h g is p q =
    subst (λ (i : ℕ). Alike mine other i (part_of market.day (named mine i) x (open_history x others h)) (part_of market.day (named other i) x (open_history x more g)) (open_history x others h) (open_history x more g)) is
    (own_twins mine other market x held others more h g p q)

-- a day
pub twins-day : (mine other : List ℕ → Bool) (s : ℕ) (x : Record) (h g : List Event) → is_day x ≡ true → Twins mine other s h g → Twins mine other s (Accepted x ∷ h) (Accepted x ∷ g)
twins-day mine other s x h g e t =
    record {
      held = record { kept = renewed t.held.kept.id t.held.kept.short.triggered; deals = []; spare = 0 };
      id = t.id;
      one = rests-renewed mine t.held x h e t.one;
      two = rests-renewed other t.held x g e t.two;
    }
