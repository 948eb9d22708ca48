-- What a history says after more messages, and what each step of a list of records publishes.
use Rattle.std.proofs.Common.{◌≡◌, ℕ, suc, ◌≤◌, Bool, true, false, cond, List, [], ◌∷◌, ◌++◌, map, Option, Some, None, refl, sym, ap, subst, ◌∙◌, append_assoc, true≢false, arith}
use Rattle.std.specs.Prelude.{nat_lt, filter, option_map}
use Rattle.std.specs.Option.{option_map_or}
use Rattle.std.proofs.lemmas.Bool.Decides.{nat_tests}
use Rattle.std.proofs.lemmas.List.{append-nil}
use Rattle.std.proofs.lemmas.List.Elements.{filter-append}
use Rattle.session_core.specs.declared.day.Day.{Day}
use Rattle.wire_in.specs.declared.record.Record.{Record}
use Rattle.wire_in.specs.Records.{moment_of, is_day, is_tick}
use Rattle.wire_in.proofs.RecordKinds.{by_listing}
use Rattle.wire_out.specs.declared.message.Message.{Message}
use Rattle.wire_out.specs.declared.message.Stamped.{Stamped}
use Rattle.rulebook.specs.declared.event.Event.{Event}
use Rattle.rulebook.specs.declared.event.Event.TheVariants.{Accepted, Published}
use Rattle.rulebook.specs.Admission.{last_day, is_early}
use Rattle.rulebook.specs.Book.{Named, all_obeyed, symbol_rules, evaluate, announced, evaluate_own, named, evaluate_all, ids_below, listed_ids, evaluate_market, target, evaluate_record, step, history}
use Rattle.rulebook.specs.History.{now, today, records, step_messages, messages, publish}
use Rattle.rulebook.specs.Market.{day_record, resume_at, declare_at}
use Rattle.rulebook.proofs.OtherRecords.{leaves}

pub now-today : (h : List Event) → now (today h) ≡ now h
now-today [] = refl
now-today (Accepted x ∷ h) = by (is_day x) where
  by : (b : Bool) → now (cond b (Accepted x ∷ []) (Accepted x ∷ today h)) ≡ moment_of x
  by true = refl
  by false = refl
now-today (Published m ∷ h) = now-today h

pub records-publish : (ms : List Message) (h : List Event) → records (publish ms h) ≡ records h
records-publish [] h = refl
records-publish (m ∷ ms) h = records-publish ms (Published m ∷ h)

pub now-publish : (ms : List Message) (h : List Event) → now (publish ms h) ≡ now h
now-publish [] h = refl
now-publish (m ∷ ms) h = now-publish ms (Published m ∷ h)

-- messages of one moment
abbrev pub stamped : ℕ → List Message → List Stamped
stamped t ms = map (λ m. record { moment = t; message = m }) ms

pub step_messages-publish : (ms : List Message) (h : List Event) → step_messages (publish ms h) ≡ step_messages h ++ stamped (now h) ms
step_messages-publish [] h = sym (append-nil (step_messages h))
step_messages-publish (m ∷ ms) h = step_messages-publish ms (Published m ∷ h) ∙ append_assoc (step_messages h) (record { moment = now h; message = m } ∷ []) (stamped (now h) ms)

pub messages-publish : (ms : List Message) (h : List Event) → messages (publish ms h) ≡ messages h ++ stamped (now h) ms
messages-publish [] h = sym (append-nil (messages h))
messages-publish (m ∷ ms) h = messages-publish ms (Published m ∷ h) ∙ append_assoc (messages h) (record { moment = now h; message = m } ∷ []) (stamped (now h) ms)

abbrev pub first_part : Day × ℕ → Day
first_part (day, close) = day

pub last_day-day_record : (A : List Record) → last_day A ≡ option_map first_part (day_record A)
last_day-day_record [] = refl
last_day-day_record (x ∷ A) =
    by_listing (λ y. last_day (y ∷ A) ≡ option_map first_part (day_record (y ∷ A))) (λ t d c. refl) (λ t n k l c. last_day-day_record A)
    (λ y o. let same = leaves y A o in same.last ∙ last_day-day_record A ∙ sym (ap (option_map first_part) same.day)) x

pub publish-append : (a b : List Message) (h : List Event) → publish (a ++ b) h ≡ publish b (publish a h)
publish-append [] b h = refl
publish-append (m ∷ a) b h = publish-append a b (Published m ∷ h)

-- What the parts of a step publish.

-- the rules of s
abbrev pub part : Record → Named → List Event → List Message
part x s h = option_map_or (λ day. all_obeyed day.0 s x symbol_rules h) (day_record (records h)) []

pub evaluate-part : (x : Record) (s : Named) (h : List Event) → evaluate x s h ≡ publish (part x s h) h
evaluate-part x s h = by (day_record (records h)) where
  by : (o : Option (Day × ℕ)) → option_map_or (λ day. publish (all_obeyed day.0 s x symbol_rules h) h) o h ≡ publish (option_map_or (λ day. all_obeyed day.0 s x symbol_rules h) o []) h
  by None = refl
  by (Some day) = refl

-- what a record announces of s, and the rules of s
abbrev pub own_part : Record → Named → List Event → List Message
own_part x s h = announced s x h ++ part x s (publish (announced s x h) h)

pub evaluate_own-part : (x : Record) (s : Named) (h : List Event) → evaluate_own x s h ≡ publish (own_part x s h) h
evaluate_own-part x s h =
    evaluate-part x s (publish (announced s x h) h) ∙ sym (publish-append (announced s x h) (part x s (publish (announced s x h) h)) h)

-- the rules of these symbols, one after the other
abbrev pub parts : Record → List ℕ → List Event → List Message
parts x [] h = []
parts x (s ∷ later) h = part x (named (records h) s) h ++ parts x later (publish (part x (named (records h) s) h) h)

pub evaluate_all-parts : (x : Record) (ids : List ℕ) (h : List Event) → evaluate_all x ids h ≡ publish (parts x ids h) h
evaluate_all-parts x [] h = refl
evaluate_all-parts x (s ∷ later) h =
    let ms = part x (named (records h) s) h in
    ap (evaluate_all x later) (evaluate-part x (named (records h) s) h)
    ∙ evaluate_all-parts x later (publish ms h)
    ∙ sym (publish-append ms (parts x later (publish ms h)) h)

-- the market-wide rules
abbrev pub market_part : Record → List Event → List Message
market_part x h = resume_at x h ++ declare_at x (publish (resume_at x h) h)

pub evaluate_market-part : (x : Record) (h : List Event) → evaluate_market x h ≡ publish (market_part x h) h
evaluate_market-part x h = sym (publish-append (resume_at x h) (declare_at x (publish (resume_at x h) h)) h)

-- the whole step of a tick
abbrev pub tick_part : Record → List Event → List Message
tick_part x h = market_part x h ++ parts x (listed_ids (records h)) (publish (market_part x h) h)

pub tick-part : (x : Record) (h : List Event) → evaluate_all x (listed_ids (records h)) (evaluate_market x h) ≡ publish (tick_part x h) h
tick-part x h =
    ap (evaluate_all x (listed_ids (records h))) (evaluate_market-part x h)
    ∙ evaluate_all-parts x (listed_ids (records h)) (publish (market_part x h) h)
    ∙ sym (publish-append (market_part x h) (parts x (listed_ids (records h)) (publish (market_part x h) h)) h)

-- what a step publishes
abbrev pub record_part : Record → List Event → List Message
record_part x h =
    cond (is_day x) [] (cond (is_tick x) (tick_part x h) (option_map_or (λ s. own_part x (named (records h) s) h) (target (records h) x) []))

pub evaluate_record-part : (x : Record) (h : List Event) → evaluate_record x h ≡ publish (record_part x h) h
evaluate_record-part x h = by (is_day x) (is_tick x) (target (records h) x) where
  by : (day tick : Bool) (id : Option ℕ)
      → cond day h (cond tick (evaluate_all x (listed_ids (records h)) (evaluate_market x h)) (option_map_or (λ s. evaluate_own x (named (records h) s) h) id h))
      ≡ publish (cond day [] (cond tick (tick_part x h) (option_map_or (λ s. own_part x (named (records h) s) h) id []))) h
  by true tick id = refl
  by false true id = tick-part x h
  by false false None = refl
  by false false (Some s) = evaluate_own-part x (named (records h) s) h

pub step-part : (x : Record) (h : List Event) → step x h ≡ publish (record_part x (Accepted x ∷ h)) (Accepted x ∷ h)
step-part x h = evaluate_record-part x (Accepted x ∷ h)

pub records-step : (x : Record) (h : List Event) → records (step x h) ≡ x ∷ records h
records-step x h = ap records (step-part x h) ∙ records-publish (record_part x (Accepted x ∷ h)) (Accepted x ∷ h)

-- the records of a history are those that it is of
pub records-history : (A : List Record) → records (history A) ≡ A
records-history [] = refl
records-history (x ∷ A) = records-step x (history A) ∙ ap (λ earlier. x ∷ earlier) (records-history A)

pub now-step : (x : Record) (h : List Event) → now (step x h) ≡ moment_of x
now-step x h = ap now (step-part x h) ∙ now-publish (record_part x (Accepted x ∷ h)) (Accepted x ∷ h)

-- the messages of the newest step are what it publishes, stamped
pub step_messages-step : (x : Record) (h : List Event) → step_messages (step x h) ≡ stamped (moment_of x) (record_part x (Accepted x ∷ h))
step_messages-step x h = ap step_messages (step-part x h) ∙ step_messages-publish (record_part x (Accepted x ∷ h)) (Accepted x ∷ h)

-- the messages of a history are those before its open step, and then the step's
pub messages-step : (x : Record) (h : List Event) → messages (step x h) ≡ messages h ++ step_messages (step x h)
messages-step x h =
    ap messages (step-part x h)
    ∙ messages-publish (record_part x (Accepted x ∷ h)) (Accepted x ∷ h)
    ∙ ap (λ said. messages h ++ said) (sym (step_messages-step x h))

-- The ids in order.

pub evaluate_all-append : (x : Record) (a b : List ℕ) (h : List Event) → evaluate_all x (a ++ b) h ≡ evaluate_all x b (evaluate_all x a h)
evaluate_all-append x [] b h = refl
evaluate_all-append x (s ∷ a) b h = evaluate_all-append x a b (evaluate x (named (records h) s) h)

-- the ids below n that pass, evaluated
abbrev pub evaluated_below : Record → (ℕ → Bool) → ℕ → List Event → List Event
evaluated_below x passes n h = evaluate_all x (filter passes (ids_below n)) h

pub records-below : (x : Record) (passes : ℕ → Bool) (n : ℕ) (h : List Event) → records (evaluated_below x passes n h) ≡ records h
records-below x passes n h =
    ap records (evaluate_all-parts x (filter passes (ids_below n)) h) ∙ records-publish (parts x (filter passes (ids_below n)) h) h

-- one more id
pub one_below : (x : Record) (passes : ℕ → Bool) (n : ℕ) (h : List Event)
    → evaluated_below x passes (suc n) h
    ≡ cond (passes n) (evaluate x (named (records h) n) (evaluated_below x passes n h)) (evaluated_below x passes n h)
one_below x passes n h =
    ap (λ ids. evaluate_all x ids h) (filter-append passes (ids_below n) (n ∷ []))
    ∙ evaluate_all-append x (filter passes (ids_below n)) (filter passes (n ∷ [])) h
    ∙ by (passes n)
  where
    by : (b : Bool) → evaluate_all x (cond b (n ∷ []) []) (evaluated_below x passes n h)
        ≡ cond b (evaluate x (named (records h) n) (evaluated_below x passes n h)) (evaluated_below x passes n h)
    by true = ap (λ A. evaluate x (named A n) (evaluated_below x passes n h)) (records-below x passes n h)
    by false = refl

-- moments don't fall within a day
pub in_order : (A : List Record) (x : Record) → is_day x ≡ false → is_early A x ≡ false → now (history A) ≤ moment_of x
in_order [] x other late = omega arith
in_order (last ∷ A) x other late = subst (λ (n : ℕ). n ≤ moment_of x) (sym (now-step last (history A))) (by x other late) where
  at_numbers : (a b : ℕ) → nat_lt a b ≡ false → b ≤ a
  at_numbers a b e = grind (arith, nat_tests)

  by : (x : Record) → is_day x ≡ false → is_early (last ∷ A) x ≡ false → moment_of last ≤ moment_of x
  by = by_listing (λ x. is_day x ≡ false → is_early (last ∷ A) x ≡ false → moment_of last ≤ moment_of x) (λ t d c no e. absurd (true≢false no))
      (λ t n k l c no e. at_numbers t (moment_of last) e)
      (λ x o no e. at_numbers (moment_of x) (moment_of last) (sym ((leaves x A o).early last) ∙ e))
