-- What is pending, and a prefix of what is expected.
use Rattle.std.proofs.Common.{◌≡◌, ℕ, List, [], ◌++◌, refl, sym, ap, subst, ◌∙◌}
use Rattle.std.specs.Prelude.{Option, Some, None, is_some, Result, Ok, Err, OnOk}
use Rattle.std.specs.Io.KnownBytes.{append_known}
use Rattle.std.proofs.lemmas.List.{append-nil}
use Rattle.host_core.proofs.Known.{append_known-nil}
use Rattle.host_core.specs.Outside.{Outside, Stays}
use Rattle.stream_core.specs.Pending.{Expects, SendsPrefix, SentPrefix}
use Rattle.stream_core.proofs.Sending.{waits}

-- the same text
pub expects_same : {begin now : Option (List ℕ)} {waiting : List ℕ} (text same : List ℕ) → text ≡ same → Expects begin now waiting text → Expects begin now waiting same
expects_same {begin} {now} {waiting} text same is = subst (λ (t : List ℕ). Expects begin now waiting t) is

-- what holds whatever a call answers
pub whenever_ok : {T E : Type 0} (r : Result T E) {P : Type 0} → P → OnOk r P
whenever_ok (Ok x) p = p
whenever_ok (Err e) p = tt

-- what follows where a call answers Ok
pub on_ok : {T E : Type 0} (r : Result T E) {P Q : Type 0} → OnOk r P → (P → Q) → OnOk r Q
on_ok (Ok x) p f = f p
on_ok (Err e) p f = tt

pub on_ok2 : {T E : Type 0} (r : Result T E) {P Q R : Type 0} → OnOk r P → OnOk r Q → (P → Q → R) → OnOk r R
on_ok2 (Ok x) p q f = f p q
on_ok2 (Err e) p q f = tt

-- all was sent, and nothing waits
pub expects_nothing : (begin now : Option (List ℕ)) (waiting text : List ℕ) → waiting ≡ [] → now ≡ append_known begin text → Expects begin now waiting text
expects_nothing begin now waiting text none sent = record { sent = text; known = sent; whole = ap (λ bytes. text ++ bytes) none ∙ append-nil text }

-- what was sent stays sent
pub expects_still : {begin now : Option (List ℕ)} {waiting text : List ℕ} (same : Option (List ℕ)) → same ≡ now → Expects begin now waiting text → Expects begin same waiting text
expects_still same is expects = record { sent = expects.sent; known = is ∙ expects.known; whole = expects.whole }

-- what was sent by a run that returned, where a stop then leaves it with a prefix sent
pub prefix_sent : (old : Outside) (before now : Option (List ℕ)) (text : List ℕ) → is_some now ≡ is_some before
    → ((sent : List ℕ) → now ≡ Some sent → (image : List ℕ) × SendsPrefix before text old image sent) → SentPrefix before now text
prefix_sent old None None text same at_end = record { since = []; unsent = text; sent = refl; prefix = refl }
prefix_sent old (Some before) (Some sent) text same at_end =
    let stop = (at_end sent refl).1 in
    record { since = stop.sent; unsent = stop.rest; sent = ap Some (stop.known (before ++ stop.sent) refl); prefix = stop.prefix }
prefix_sent old before now text same at_end = cc same

-- while nothing is sent, nothing of it was
pub sends_none : (text : List ℕ) (old : Outside) (image bytes : List ℕ) → Stays old image bytes → SendsPrefix old.sent text old image bytes
sends_none text old = waits old.sent old text text (record { sent = []; known = sym (append_known-nil old.sent); whole = refl })
