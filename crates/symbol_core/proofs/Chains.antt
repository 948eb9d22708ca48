-- Messages one after the other, and a rule that gives them.
use Rattle.std.specs.Prelude.{if◌then◌else◌}
use Rattle.session_core.specs.declared.day.Day.{Day}
use Rattle.session_core.specs.declared.state.Phase.{Phase}
use Rattle.wire_in.specs.declared.record.Record.{Record}
use Rattle.std.proofs.Common.{◌≡◌, ℕ, Bool, true, false, cond, List, [], ◌∷◌, ◌++◌, refl, sym, ap, ◌∙◌, append_assoc, subst}
use Rattle.wire_out.specs.declared.message.Message.{Message}
use Rattle.rulebook.specs.Book.{Named, context, obeyed, all_obeyed}
use Rattle.pause_core.specs.Phases.{is_done}
use Rattle.rulebook.specs.declared.event.Event.{Event}
use Rattle.rulebook.specs.History.{publish}
use Rattle.rulebook.specs.Rules.{Context}
use Rattle.rulebook.specs.Symbol.{phase}
use Rattle.rulebook.proofs.Histories.{publish-append}
use Rattle.window_core.specs.declared.window.Deal.{Deal}
use Rattle.symbol_core.specs.declared.state.Step.{Step}
use Rattle.symbol_core.specs.InStep.{InStep}
use Rattle.symbol_core.specs.Stands.{named, phase_after, phase_said, Stands, Says, Obeys, ObeysWith, ObeysAll}

phase-both : (p : Phase) (a b : List Message) → phase_after p (a ++ b) ≡ phase_after (phase_after p a) b
phase-both p [] b = refl
phase-both p (m ∷ a) b = phase-both (phase_said p m) a b

-- these messages, then those
pub both : {a b : List Message} {step : Step} {old mid new : InStep} {before between after : List Message} → Says a step old mid before between → Says b step mid new between after → Says (a ++ b) step old new before after
both {a} {b} {step} {old} {mid} {new} {before} {between} {after} first second =
    record {
      items = second.items ∙ ap (λ (xs : List Message). xs ++ b) first.items ∙ append_assoc before a b;
      stands = λ mine deals h s. rw (publish-append a b h) (second.stands mine deals (publish a h) (first.stands mine deals h s));
      phase = second.phase ∙ ap (λ (p : Phase). phase_after p b) first.phase ∙ sym (phase-both old.kept.phase a b);
      id = second.id ∙ first.id;
    }

-- nothing
pub none : (step : Step) (k : InStep) (before : List Message) → Says [] step k k before before
none step k before = record { items = append-nil-sym before; stands = λ mine deals h s. s; phase = refl; id = refl }
  where
    append-nil-sym : (xs : List Message) → xs ≡ xs ++ []
    append-nil-sym [] = refl
    append-nil-sym (x ∷ xs) = ap (λ (ys : List Message). x ∷ ys) (append-nil-sym xs)

-- a rule of a symbol that is not closed
open_gives : (mine : List ℕ → Bool) (rule : Context → List Message) (ms : List Message) (step : Step) (k : InStep) (deals : List Deal) (h : List Event) → is_done k.kept.phase ≡ false → Stands mine k deals step h → rule (context step.day (named mine k.kept.id) step.input h) ≡ ms → obeyed step.day (named mine k.kept.id) step.input rule h ≡ ms
open_gives mine rule ms step k deals h open_is s e = ap (λ (b : Bool). if b then [] else rule (context step.day (named mine k.kept.id) step.input h)) (sym (ap (λ (p : Phase). is_done p) s.phase) ∙ open_is) ∙ e

-- these messages, then those of the same symbol
pub then_of : {a : List Message} (b : ℕ → List Message) {step : Step} {old mid new : InStep} {before between after : List Message} → Says a step old mid before between → Says (b mid.kept.id) step mid new between after → Says (a ++ b old.kept.id) step old new before after
then_of {a} b {step} {old} {mid} {new} {before} {between} {after} first second = both first (subst (λ (i : ℕ). Says (b i) step mid new between after) first.id second)

-- a rule that gives these messages is obeyed
pub obeys : (rule : Context → List Message) {ms : List Message} {step : Step} {old new : InStep} {before after : List Message} → is_done old.kept.phase ≡ false → is_done (phase_after old.kept.phase ms) ≡ false → Says ms step old new before after
    → ((mine : List ℕ → Bool) (deals : List Deal) (h : List Event) → Stands mine old deals step h → rule (context step.day (named mine old.kept.id) step.input h) ≡ ms) → Obeys rule step old new before after
obeys rule {ms} {step} {old} {new} {before} {after} open_is stays said gives =
    record {
      says = λ mine deals h s. said.items ∙ ap (λ (xs : List Message). before ++ xs) (sym (open_gives mine rule ms step old deals h open_is s (gives mine deals h s)));
      stands = λ mine deals h s. rw (open_gives mine rule ms step old deals h open_is s (gives mine deals h s)) (said.stands mine deals h s);
      goes_on = ap is_done said.phase ∙ stays;
      id = said.id;
    }

pub obeys_with : (deals : List Deal) (rule : Context → List Message) {ms : List Message} {step : Step} {old new : InStep} {before after : List Message} → is_done old.kept.phase ≡ false → is_done (phase_after old.kept.phase ms) ≡ false → Says ms step old new before after
    → ((mine : List ℕ → Bool) (h : List Event) → Stands mine old deals step h → rule (context step.day (named mine old.kept.id) step.input h) ≡ ms) → ObeysWith deals rule step old new before after
obeys_with deals rule {ms} {step} {old} {new} {before} {after} open_is stays said gives =
    record {
      says = λ mine h s. said.items ∙ ap (λ (xs : List Message). before ++ xs) (sym (open_gives mine rule ms step old deals h open_is s (gives mine h s)));
      stands = λ mine h s. rw (open_gives mine rule ms step old deals h open_is s (gives mine h s)) (said.stands mine deals h s);
      goes_on = ap is_done said.phase ∙ stays;
      id = said.id;
    }

-- one rule reads the kept deals as the others do
pub with_deals : (deals : List Deal) {rule : Context → List Message} {step : Step} {old new : InStep} {before after : List Message} → Obeys rule step old new before after → ObeysWith deals rule step old new before after
with_deals deals o = record { says = λ mine. o.says mine deals; stands = λ mine. o.stands mine deals; goes_on = o.goes_on; id = o.id }

-- a rule, then others
pub next : {deals : List Deal} {rule : Context → List Message} {later : List (Context → List Message)} {step : Step} {old mid new : InStep} {before between after : List Message}
    → ObeysWith deals rule step old mid before between → ObeysAll deals later step mid new between after → ObeysAll deals (rule ∷ later) step old new before after
next {deals} {rule} {later} {step} {old} {mid} {new} {before} {between} {after} first rest =
    record {
      says = λ mine h s.
          let ms = obeyed step.day (named mine old.kept.id) step.input rule h in
          rest.says mine (publish ms h) (first.stands mine h s)
          ∙ ap (λ (i : ℕ). between ++ all_obeyed step.day (named mine i) step.input later (publish ms h)) first.id
          ∙ ap (λ (xs : List Message). xs ++ all_obeyed step.day (named mine old.kept.id) step.input later (publish ms h)) (first.says mine h s)
          ∙ append_assoc before ms (all_obeyed step.day (named mine old.kept.id) step.input later (publish ms h));
      stands = λ mine h s.
          let ms = obeyed step.day (named mine old.kept.id) step.input rule h in
          subst (Stands mine new deals step) (sym (publish-append ms (all_obeyed step.day (named mine old.kept.id) step.input later (publish ms h)) h))
          (subst (λ (i : ℕ). Stands mine new deals step (publish (all_obeyed step.day (named mine i) step.input later (publish ms h)) (publish ms h))) first.id (rest.stands mine (publish ms h) (first.stands mine h s)));
      id = rest.id ∙ first.id;
    }

-- rules, then others
all-append : (day : Day) (s : Named) (x : Record) (a b : List (Context → List Message)) (h : List Event) → all_obeyed day s x (a ++ b) h ≡ all_obeyed day s x a h ++ all_obeyed day s x b (publish (all_obeyed day s x a h) h)
all-append day s x [] b h = refl
all-append day s x (rule ∷ a) b h =
    let ms = obeyed day s x rule h in
    let ns = all_obeyed day s x a (publish ms h) in
    ap (λ (xs : List Message). ms ++ xs) (all-append day s x a b (publish ms h))
    ∙ sym (append_assoc ms ns (all_obeyed day s x b (publish ns (publish ms h))))
    ∙ ap (λ (g : List Event). (ms ++ ns) ++ all_obeyed day s x b g) (sym (publish-append ms ns h))

pub then_all : {deals : List Deal} {a b : List (Context → List Message)} {step : Step} {old mid new : InStep} {before between after : List Message}
    → ObeysAll deals a step old mid before between → ObeysAll deals b step mid new between after → ObeysAll deals (a ++ b) step old new before after
then_all {deals} {a} {b} {step} {old} {mid} {new} {before} {between} {after} first rest =
    record {
      says = λ mine h s.
          let ms = all_obeyed step.day (named mine old.kept.id) step.input a h in
          rest.says mine (publish ms h) (first.stands mine h s)
          ∙ ap (λ (i : ℕ). between ++ all_obeyed step.day (named mine i) step.input b (publish ms h)) first.id
          ∙ ap (λ (xs : List Message). xs ++ all_obeyed step.day (named mine old.kept.id) step.input b (publish ms h)) (first.says mine h s)
          ∙ append_assoc before ms (all_obeyed step.day (named mine old.kept.id) step.input b (publish ms h))
          ∙ ap (λ (xs : List Message). before ++ xs) (sym (all-append step.day (named mine old.kept.id) step.input a b h));
      stands = λ mine h s.
          let ms = all_obeyed step.day (named mine old.kept.id) step.input a h in
          let ns = all_obeyed step.day (named mine old.kept.id) step.input b (publish ms h) in
          subst (λ (xs : List Message). Stands mine new deals step (publish xs h)) (sym (all-append step.day (named mine old.kept.id) step.input a b h))
          (subst (Stands mine new deals step) (sym (publish-append ms ns h))
          (subst (λ (i : ℕ). Stands mine new deals step (publish (all_obeyed step.day (named mine i) step.input b (publish ms h)) (publish ms h))) first.id (rest.stands mine (publish ms h) (first.stands mine h s))));
      id = rest.id ∙ first.id;
    }

-- rules that give these messages are obeyed
pub obeys_all : (deals : List Deal) (rules : List (Context → List Message)) {ms : List Message} {step : Step} {old new : InStep} {before after : List Message} → Says ms step old new before after
    → ((mine : List ℕ → Bool) (h : List Event) → Stands mine old deals step h → all_obeyed step.day (named mine old.kept.id) step.input rules h ≡ ms) → ObeysAll deals rules step old new before after
obeys_all deals rules {ms} {step} {old} {new} {before} {after} said gives =
    record {
      says = λ mine h s. said.items ∙ ap (λ (xs : List Message). before ++ xs) (sym (gives mine h s));
      stands = λ mine h s. rw (gives mine h s) (said.stands mine deals h s);
      id = said.id;
    }

-- no rule says anything of a closed symbol
closed-none : (mine : List ℕ → Bool) (rules : List (Context → List Message)) (step : Step) (k : InStep) (h : List Event) → is_done (phase h k.kept.id) ≡ true → all_obeyed step.day (named mine k.kept.id) step.input rules h ≡ []
closed-none mine [] step k h done = refl
closed-none mine (rule ∷ later) step k h done =
    let none = ap (λ (b : Bool). cond b [] (rule (context step.day (named mine k.kept.id) step.input h))) done in
    (λ i. none i ++ all_obeyed step.day (named mine k.kept.id) step.input later (publish (none i) h)) ∙ closed-none mine later step k h done

pub closed : (deals : List Deal) (rules : List (Context → List Message)) (step : Step) (k : InStep) (before : List Message) → is_done k.kept.phase ≡ true → ObeysAll deals rules step k k before before
closed deals rules step k before done =
    obeys_all deals rules (none step k before) (λ mine h s. closed-none mine rules step k h (sym (ap is_done s.phase) ∙ done))

pub last : (deals : List Deal) (step : Step) (k : InStep) (before : List Message) → ObeysAll deals [] step k k before before
last deals step k before = record { says = λ mine h s. (none step k before).items; stands = λ mine h s. s; id = refl }
