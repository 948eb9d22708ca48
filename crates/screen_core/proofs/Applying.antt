-- A record that is accepted, and what it publishes.
use Rattle.std.proofs.Common.{◌≡◌, ℕ, ◌+◌, ◌^◌, ◌≤◌, false, List, ◌∷◌, ◌++◌, length, Option, Some, None, sym, ap, subst, ◌∙◌, arith, refl, true≢false}
use Rattle.std.specs.Prelude.{All, IfSome, IsOk, OnErr, OnOk, Result, Ok, Err}
use Rattle.wire_in.specs.declared.record.Record.{Record}
use Rattle.wire_in.specs.declared.record.Record.TheVariants as in_
use Rattle.wire_in.specs.declared.record.Refusal.{Refusal}
use Rattle.wire_out.specs.declared.message.Message.{Message}
use Rattle.wire_out.specs.declared.message.Stamped.{Stamped}
use Rattle.rulebook.specs.Admission.{IsLawful, most_names, verdict}
use Rattle.rulebook.specs.Book.{newest_messages}
use Rattle.rulebook.specs.Sent.{admitted, record_or_refusal}
use Rattle.market_core.specs.AdmissionState.{refusal_of}
use Rattle.market_core.specs.Kinds.{TakesMemory, is_trade}
use Rattle.market_core.proofs.Verdicts.{refusal_of-represents}
use Rattle.board_core.specs.Entries.{messages_of}
use Rattle.screen_core.specs.declared.desk.Desk.{Desk}
use Rattle.screen_core.specs.declared.screen.Screen.{Screen}
use Rattle.screen_core.specs.Screened.{capacity, said}
use Rattle.screen_core.specs.InternalDesk.{CanPublish, CanTake, HasPublished, said_in}
use Rattle.screen_core.specs.InternalScreens.{Keeps}
use Rattle.screen_core.proofs.Messages.{count-append, few_of_symbol, newest_fine, said-more}

-- what is found there
pub if_some : {X : Type 0} (o : Option X) {P Q : X → Type 0} → ((x : X) → P x → Q x) → IfSome o P → IfSome o Q
if_some None more p = p
if_some (Some x) more p = more x p

-- what a call that succeeds ensures
pub if_it_succeeds : {T E : Type 0} (r : Result T E) {P : Type 0} → IsOk r → OnOk r P → P
if_it_succeeds (Ok x) is p = p
if_it_succeeds (Err e) is p = absurd (true≢false (sym is))

-- what holds whatever a call answers
pub whenever_err : {T E : Type 0} (r : Result T E) {P : Type 0} → P → OnErr r P
whenever_err (Ok x) p = tt
whenever_err (Err e) p = p

-- the verdict is that of admission
pub verdict_is : {held : List Record} {screen : Screen} (keeps : Keeps held screen) (x : Record) → verdict capacity held x ≡ refusal_of screen.admission x
verdict_is {held} {screen} keeps x = ap (λ (c : ℕ). verdict c held x) (sym keeps.within) ∙ sym (refusal_of-represents screen.admission held x keeps.admission)

pub admitted_by : {held : List Record} {screen : Screen} (keeps : Keeps held screen) (x : Record) (o : Option Refusal) → o ≡ refusal_of screen.admission x → admitted capacity held (Ok x) ≡ record_or_refusal x o
admitted_by keeps x o is = ap (record_or_refusal x) (verdict_is keeps x ∙ sym is)

-- the messages of an accepted record may be published
pub can_take : (held : List Record) (x : Record) (desk : Desk) (ms : List Stamped) → length held + 1 ≤ 2 ^ 30 → IsLawful capacity (x ∷ held) → ms ≡ newest_messages (x ∷ held)
    → HasPublished (said held) desk → CanTake desk (said_in ms)
can_take held x desk ms few lawful are has =
    let fine = newest_fine capacity x held lawful in
    let same : said_in (newest_messages (x ∷ held)) ≡ said_in ms = ap said_in (sym are) in
    record {
      published = said held;
      has = has;
      each = subst (All (CanPublish most_names)) same fine.each;
      few = λ s.
          let sum = count-append s (said held) (said_in ms) in
          let before = few_of_symbol capacity held lawful.1 s in
          let last : messages_of s (said_in ms) ≤ 15 = subst (λ (ms : List Message). messages_of s ms ≤ 15) same (fine.few s) in
          omega (arith, sum, before, last, few);
    }

-- what was published then
pub said_so : (held : List Record) (x : Record) (ms : List Stamped) → ms ≡ newest_messages (x ∷ held) → said held ++ said_in ms ≡ said (x ∷ held)
said_so held x ms are = ap (λ (ms : List Stamped). said held ++ said_in ms) are ∙ sym (said-more x held)

-- a record that is a trade is a deal
pub deal_of : (x : Record) → (is_trade x ≡ false → ⊥) → TakesMemory x
deal_of (in_.Trade t s n p z f) is = tt
deal_of (in_.Day t d c) is = absurd (is refl)
deal_of (in_.Listing t n k l c) is = absurd (is refl)
deal_of (in_.Cancel t s n) is = absurd (is refl)
deal_of (in_.Quote t s b o y z) is = absurd (is refl)
deal_of (in_.IndexTick t v) is = absurd (is refl)
deal_of (in_.Clock t) is = absurd (is refl)
deal_of (in_.Notice t s k) is = absurd (is refl)
deal_of (in_.Indication t s p u) is = absurd (is refl)
