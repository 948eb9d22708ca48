-- What leading a record gives and keeps is what the list of led records gives.
use Rattle.std.proofs.Common.{◌≡◌, ℕ, Bool, true, false, cond, List, [], ◌∷◌, ◌++◌, length, Option, Some, None, Result, Ok, Err, refl, sym, ap, subst, ◌∙◌}
use Rattle.std.specs.Prelude.{IfOk, OnOk, option_map, position}
use Rattle.std.specs.Str.{bytes_eq}
use Rattle.price_core.specs.declared.error.NoMemory.{NoMemory}
use Rattle.session_core.specs.declared.day.Day.{Day}
use Rattle.wire_in.specs.declared.record.Record.{Record}
use Rattle.wire_in.specs.declared.record.Record.TheVariants as in_
use Rattle.wire_in.specs.Records.{moment_of, is_day, is_tick}
use Rattle.wire_out.specs.declared.message.Stamped.{Stamped}
use Rattle.rulebook.specs.declared.event.Event.{Event}
use Rattle.rulebook.specs.Admission.{verdict, names}
use Rattle.rulebook.specs.Book.{named, target, history}
use Rattle.rulebook.specs.History.{step_messages}
use Rattle.rulebook.specs.Market.{day_record, is_market_halted}
use Rattle.rulebook.proofs.Histories.{own_part, market_part, evaluate_market-part, step_messages-publish, last_day-day_record, first_part}
use Rattle.rulebook.proofs.OfSymbol.{of_symbol, own_part-by, parts-of_symbols}
use Rattle.symbol_core.specs.declared.symbol.MarketView.{MarketView}
use Rattle.market_core.specs.declared.lead.Today.{Today}
use Rattle.market_core.specs.AdmissionState.{added}
use Rattle.market_core.specs.Leads.{IsLed, LeadState, led, market_messages, market_view, rulings}
use Rattle.market_core.specs.MarketState.{day_of}
use Rattle.market_core.specs.Ruled.{ruled, ruling, stamped, view_of}
use Rattle.market_core.proofs.Admitting.{added_name}
use Rattle.market_core.proofs.Applying.{day_in, day_in-opened, day_in-publish, finds_room, index_listed, next_day, open_day, ruled-history, ruling-part, step_tick}
use Rattle.market_core.proofs.MarketSteps.{history-before, parts_to, ruled_history}
use Rattle.market_core.proofs.OwnSteps.{opened, own_step}

-- What the market is to its symbols.

pub viewed : (A : List Record) (kept : LeadState) (view : MarketView) → IsLed kept A → option_map view_of kept.today ≡ Some view → market_view A ≡ Some view
viewed A kept view stands seen = ap (option_map seen_on) (last_day-day_record A) ∙ by (day_record A) ∙ ap (option_map view_of) (sym stands.today) ∙ seen where
  seen_on : Day → MarketView
  seen_on day = record { day = day; stopped = is_market_halted (history A) }

  by : (o : Option (Day × ℕ)) → option_map seen_on (option_map first_part o) ≡ option_map view_of (option_map (day_of A) o)
  by None = refl
  by (Some (d, c)) = refl

-- What the market-wide rules publish.

-- nothing at a record of one symbol
unruled : (x : Record) (today : Option Today) → ((day : Today) → ruling x day ≡ []) → rulings x today ≡ []
unruled x None none = refl
unruled x (Some day) none = none day

silent : (x : Record) (kept : LeadState) (A : List Record) → ((day : Today) → ruling x day ≡ []) → market_messages (x ∷ A) ≡ [] → stamped (moment_of x) (rulings x kept.today) ≡ market_messages (x ∷ A)
silent x kept A none unsaid = ap (stamped (moment_of x)) (unruled x kept.today none) ∙ sym unsaid

on_day : (kept : LeadState) (A : List Record) (d : Day × ℕ) → IsLed kept A → day_record A ≡ Some d → kept.today ≡ Some (day_of A d)
on_day kept A d stands on = stands.today ∙ ap (option_map (day_of A)) on

told : (capacity : ℕ) (x : Record) (A : List Record) (kept : LeadState) → is_day x ≡ false → is_tick x ≡ true → IsLed kept A → verdict capacity A x ≡ None → stamped (moment_of x) (rulings x kept.today) ≡ market_messages (x ∷ A)
told capacity x A kept no_day tick stands passed =
    let day = open_day capacity A x no_day passed in
    ap (λ (o : Option Today). stamped (moment_of x) (rulings x o)) (on_day kept A day.0 stands day.1)
    ∙ ap (stamped (moment_of x)) (ruling-part x A day.0 tick day.1)
    ∙ sym (ap step_messages (evaluate_market-part x (opened x A)) ∙ step_messages-publish (market_part x (opened x A)) (opened x A))

pub lead_gives : (capacity : ℕ) (x : Record) (A : List Record) (kept : LeadState) → IsLed kept A → verdict capacity A x ≡ None → stamped (moment_of x) (rulings x kept.today) ≡ market_messages (x ∷ A)
lead_gives capacity (in_.Day t d c) A kept stands passed = silent (in_.Day t d c) kept A (λ day. refl) refl
lead_gives capacity (in_.Listing t n k l c) A kept stands passed = silent (in_.Listing t n k l c) kept A (λ day. refl) refl
lead_gives capacity (in_.Clock t) A kept stands passed = told capacity (in_.Clock t) A kept refl refl stands passed
lead_gives capacity (in_.IndexTick t v) A kept stands passed = told capacity (in_.IndexTick t v) A kept refl refl stands passed
lead_gives capacity (in_.Trade t s n p q f) A kept stands passed = silent (in_.Trade t s n p q f) kept A (λ day. refl) refl
lead_gives capacity (in_.Cancel t s n) A kept stands passed = silent (in_.Cancel t s n) kept A (λ day. refl) refl
lead_gives capacity (in_.Quote t s b o y z) A kept stands passed = silent (in_.Quote t s b o y z) kept A (λ day. refl) refl
lead_gives capacity (in_.Notice t s k) A kept stands passed = silent (in_.Notice t s k) kept A (λ day. refl) refl
lead_gives capacity (in_.Indication t s p u) A kept stands passed = silent (in_.Indication t s p u) kept A (λ day. refl) refl

-- What is kept then.

-- the day, with what a record makes of it
next : (x : Record) (A : List Record) (d : Day × ℕ) (kept : LeadState) → is_day x ≡ false → IsLed kept A → day_record A ≡ Some d → ruled x (day_of A d) ≡ day_of (x ∷ A) d
    → option_map (ruled x) kept.today ≡ option_map (day_of (x ∷ A)) (day_record (x ∷ A))
next x A d kept no_day stands on same = ap (option_map (ruled x)) (on_day kept A d stands on) ∙ next_day x A d (ruled x (day_of A d)) no_day on same

-- messages of a symbol leave the day
own_day : (x : Record) (A : List Record) (d : Day × ℕ) (s : ℕ) → is_day x ≡ false → is_tick x ≡ false → target (x ∷ A) x ≡ Some s → day_of A d ≡ day_of (x ∷ A) d
own_day x A d s no_day no_tick own =
    let ms = own_part x (named (x ∷ A) s) (opened x A) in
    sym (ap (λ (h : List Event). day_in h d) (own_step x A s no_day no_tick own)
    ∙ day_in-publish ms (opened x A) d (of_symbol s ms (own_part-by x (named (x ∷ A) s) (opened x A)))
    ∙ day_in-opened x A d no_day)

-- so do those of all symbols
tick_day : (x : Record) (A : List Record) (d : Day × ℕ) → is_day x ≡ false → is_tick x ≡ true → day_record A ≡ Some d → ruled x (day_of A d) ≡ day_of (x ∷ A) d
tick_day x A d no_day tick on =
    let n = length (names (x ∷ A)) in
    ruled-history x A d tick on
    ∙ sym (day_in-publish (parts_to n x A) (ruled_history x A) d (parts-of_symbols x _ (ruled_history x A)))
    ∙ ap (λ (h : List Event). day_in h d) (sym (step_tick x A n no_day tick refl ∙ history-before n x A))

pub lead_stands : (capacity : ℕ) (x : Record) (A : List Record) (kept : LeadState) → IsLed kept A → verdict capacity A x ≡ None → IsLed (led x kept) (x ∷ A)
lead_stands capacity (in_.Day t d c) A kept stands passed = record { directory = stands.directory; today = refl }
lead_stands capacity (in_.Listing t n k l c) A kept stands passed =
    let x = in_.Listing t n k l c in
    let day = open_day capacity A x refl passed in
    record {
      directory = ap (λ (b : Bool). cond b kept.directory (added kept.directory (position (bytes_eq n) kept.directory) n)) (finds_room capacity A kept.directory x stands.directory passed)
          ∙ ap (λ ns. added ns (position (bytes_eq n) ns) n) stands.directory
          ∙ added_name (names A) n (position (bytes_eq n) (names A)) refl;
      today = next x A day.0 kept refl stands day.1 (own_day x A day.0 _ refl refl (index_listed (names A) n));
    }
lead_stands capacity (in_.Clock t) A kept stands passed =
    let x = in_.Clock t in
    let day = open_day capacity A x refl passed in
    record { directory = stands.directory; today = next x A day.0 kept refl stands day.1 (tick_day x A day.0 refl refl day.1) }
lead_stands capacity (in_.IndexTick t v) A kept stands passed =
    let x = in_.IndexTick t v in
    let day = open_day capacity A x refl passed in
    record { directory = stands.directory; today = next x A day.0 kept refl stands day.1 (tick_day x A day.0 refl refl day.1) }
lead_stands capacity (in_.Trade t s n p q f) A kept stands passed =
    let x = in_.Trade t s n p q f in
    let day = open_day capacity A x refl passed in
    record { directory = stands.directory; today = next x A day.0 kept refl stands day.1 (own_day x A day.0 s refl refl refl) }
lead_stands capacity (in_.Cancel t s n) A kept stands passed =
    let x = in_.Cancel t s n in
    let day = open_day capacity A x refl passed in
    record { directory = stands.directory; today = next x A day.0 kept refl stands day.1 (own_day x A day.0 s refl refl refl) }
lead_stands capacity (in_.Quote t s b o y z) A kept stands passed =
    let x = in_.Quote t s b o y z in
    let day = open_day capacity A x refl passed in
    record { directory = stands.directory; today = next x A day.0 kept refl stands day.1 (own_day x A day.0 s refl refl refl) }
lead_stands capacity (in_.Notice t s k) A kept stands passed =
    let x = in_.Notice t s k in
    let day = open_day capacity A x refl passed in
    record { directory = stands.directory; today = next x A day.0 kept refl stands day.1 (own_day x A day.0 s refl refl refl) }
lead_stands capacity (in_.Indication t s p u) A kept stands passed =
    let x = in_.Indication t s p u in
    let day = open_day capacity A x refl passed in
    record { directory = stands.directory; today = next x A day.0 kept refl stands day.1 (own_day x A day.0 s refl refl refl) }

-- The same of a call that may have found no memory.

pub call_says : (r : Result MarketView NoMemory) (capacity : ℕ) (x : Record) (A : List Record) (kept : LeadState) (before after : List Stamped) → IsLed kept A → verdict capacity A x ≡ None
    → OnOk r (after ≡ before ++ stamped (moment_of x) (rulings x kept.today)) → OnOk r (after ≡ before ++ market_messages (x ∷ A))
call_says (Ok view) capacity x A kept before after stands passed said = said ∙ ap (λ (ms : List Stamped). before ++ ms) (lead_gives capacity x A kept stands passed)
call_says (Err u) capacity x A kept before after stands passed said = tt

pub call_leads : (r : Result MarketView NoMemory) (capacity : ℕ) (x : Record) (A : List Record) (old new : LeadState) → IsLed old A → verdict capacity A x ≡ None → OnOk r (new ≡ led x old) → OnOk r (IsLed new (x ∷ A))
call_leads (Ok view) capacity x A old new stands passed made = subst (λ (kept : LeadState). IsLed kept (x ∷ A)) (sym made) (lead_stands capacity x A old stands passed)
call_leads (Err u) capacity x A old new stands passed made = tt

pub call_views : (r : Result MarketView NoMemory) (capacity : ℕ) (x : Record) (A : List Record) (old new : LeadState) → IsLed old A → verdict capacity A x ≡ None → OnOk r (new ≡ led x old)
    → IfOk r (λ view. option_map view_of new.today ≡ Some view) → IfOk r (λ view. market_view (x ∷ A) ≡ Some view)
call_views (Ok view) capacity x A old new stands passed made seen = viewed (x ∷ A) new view (call_leads (Ok view) capacity x A old new stands passed made) seen
call_views (Err u) capacity x A old new stands passed made seen = tt
