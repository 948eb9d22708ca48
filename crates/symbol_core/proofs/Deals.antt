-- The deals of the window, after a message.
use Rattle.std.proofs.Common.{◌≡◌, ℕ, ◌+◌, Bool, true, false, List, [], ◌∷◌, ◌++◌, refl, sym, ap, ◌∙◌, subst}
use Rattle.std.specs.Prelude.{Option, Some, None, if◌then◌else◌, option_map, unwrap_or, ◌&&◌, ◌||◌, not, is_some}
use Rattle.std.specs.Option.{option_map_or}
use Rattle.session_core.specs.declared.day.Day.{Day}
use Rattle.wire_in.specs.declared.record.Record.{Record}
use Rattle.wire_out.specs.declared.message.Message.{Message}
use Rattle.rulebook.specs.declared.symbol.Banded.{Banded}
use Rattle.rulebook.specs.declared.event.Event.{Event}
use Rattle.rulebook.specs.declared.event.Event.TheVariants.{Accepted, Published}
use Rattle.rulebook.specs.History.{Found, now, newest, step_record, today, last}
use Rattle.session_core.specs.Durations.{five_minutes}
use Rattle.rulebook.specs.Symbol.{begins_run, band_of, counted_in, is_first_band, opens_before, deals_in, deals_of}
use Rattle.window_core.specs.declared.window.Deal.{Deal}
use Rattle.symbol_core.specs.Window.{SameLive}
use Rattle.window_core.specs.Deals.{live}
use Rattle.symbol_core.proofs.Histories.{of_begun, record_alone}

-- the deals of a run that began at t
abbrev pub deals_from : Day → ℕ → ℕ → List Event → List Deal
deals_from day s t r = deals_in day s [] (counted_in day s (t + five_minutes) r)

-- after a message that is no band
pub deals_said : (day : Day) (s : ℕ) (x : Record) (m : Message) (h : List Event) (begins : Bool) → begins_run s m (today h) ≡ begins → newest h ≡ Some x
    → ((t : ℕ) (r : List Event) → deals_from day s t (Published m ∷ r) ≡ deals_from day s t r)
    → deals_of day (Published m ∷ h) s ≡ (if begins then deals_in day s [] (Accepted x ∷ []) else deals_of day h s)
deals_said day s x m h begins e input ignores =
    of_begun (deals_from day s) s m h begins e ignores
    ∙ ap (λ (r : List Event). if begins then deals_from day s (now (today h)) r else deals_of day h s) (record_alone x h input)

-- where the window begins anew, its deals are the step's own
pub window_begins : (t : ℕ) (begins fresh : Bool) (deals own counted alone all : List Deal) → own ≡ alone → SameLive t ((if fresh then [] else deals) ++ counted) all
    → SameLive t ((if begins || fresh then [] else deals) ++ (if begins then own else counted)) (if begins then alone else all)
window_begins t true fresh deals own counted alone all e same = record { at = λ u le. ap (live u) e }
window_begins t false fresh deals own counted alone all e same = same

-- after a band, in a run
counted_more : (day : Day) (s : ℕ) (end : ℕ) (m : Message) (r : List Event) (c : Bool) → (is_first_band s m r && option_map_or (opens_before day s end) (newest r) false) ≡ c
    → deals_in day s [] (counted_in day s end (Published m ∷ r)) ≡ (if c then deals_in day s [] (step_record r) else deals_in day s [] (counted_in day s end r))
counted_more day s end m r c e = subst (λ (b : Bool). deals_in day s [] (if b then Published m ∷ step_record r else Published m ∷ counted_in day s end r) ≡ (if c then deals_in day s [] (step_record r) else deals_in day s [] (counted_in day s end r))) (sym e) (at c)
  where
    at : (b : Bool) → deals_in day s [] (if b then Published m ∷ step_record r else Published m ∷ counted_in day s end r) ≡ (if b then deals_in day s [] (step_record r) else deals_in day s [] (counted_in day s end r))
    at true = refl
    at false = refl

pub deals_banded : (day : Day) (s : ℕ) (end : ℕ) (x : Record) (m : Message) (b : Banded) (o : Option (List Event)) → band_of s m ≡ Some b → option_map_or newest o (Some x) ≡ Some x
    → deals_in day s [] (counted_in day s end (unwrap_or (option_map (λ r. Published m ∷ r) o) []))
    ≡ (if is_some o && (not (is_some (option_map (λ b. b.value) (last (band_of s) (unwrap_or o [])))) && opens_before day s end x)
    then deals_in day s [] (Accepted x ∷ []) else deals_in day s [] (counted_in day s end (unwrap_or o [])))
deals_banded day s end x m b None own new = refl
deals_banded day s end x m b (Some r) own new =
    counted_more day s end m r (not (is_some (option_map (λ b. b.value) (last (band_of s) r))) && opens_before day s end x) first
    ∙ ap (λ (q : List Event). if not (is_some (option_map (λ b. b.value) (last (band_of s) r))) && opens_before day s end x then deals_in day s [] q else deals_in day s [] (counted_in day s end r)) alone
  where
    alone : step_record r ≡ Accepted x ∷ []
    alone = ap (λ (q : Option Record). option_map_or (λ x. Accepted x ∷ []) q []) new

    some_mapped : (q : Option (Found Banded)) → is_some q ≡ is_some (option_map (λ b. b.value) q)
    some_mapped None = refl
    some_mapped (Some q) = refl

    first : (is_first_band s m r && option_map_or (opens_before day s end) (newest r) false) ≡ (not (is_some (option_map (λ b. b.value) (last (band_of s) r))) && opens_before day s end x)
    first =
        ap (λ (q : Option Banded). (is_some q && not (is_some (last (band_of s) r))) && option_map_or (opens_before day s end) (newest r) false) own
        ∙ ap (λ (q : Option Record). not (is_some (last (band_of s) r)) && option_map_or (opens_before day s end) q false) new
        ∙ ap (λ (v : Bool). not v && opens_before day s end x) (some_mapped (last (band_of s) r))
