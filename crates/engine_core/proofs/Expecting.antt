-- What is expected for more frames, and what is safe for them.
use Rattle.std.proofs.Common.{◌≡◌, ℕ, ◌+◌, ◌≤◌, Bool, List, [], ◌∷◌, ◌++◌, length, reverse, take, drop, refl, sym, ap, subst, ◌∙◌, append_assoc, append-nil, take_at, take-append-drop, length-append, add_comm, arith}
use Rattle.std.specs.Io.KnownBytes.{append_known}
use Rattle.std.proofs.lemmas.List.Elements.{All-nil}
use Rattle.host_core.specs.Outside.{Outside, Agrees}
use Rattle.wire_in.specs.declared.record.Record.{Record}
use Rattle.wire_in.specs.Cutting.{bodies_of, rest_of}
use Rattle.wire_in.proofs.Cuts.{bodies_of-append}
use Rattle.wire_out.specs.declared.message.Frame.{Frame}
use Rattle.rulebook.specs.Sent.{spelled, replies, reply, judged, with_record, accepted_of}
use Rattle.rulebook.proofs.Sending.{spelled-append, replies-append, accepted_of-append, unacknowledged-append}
use Rattle.stream_core.specs.Pending.{SendsPrefix}
use Rattle.engine_core.specs.Sessions.{Start, held_after, expected, with_acknowledgements, IsSafe}
use Rattle.engine_core.specs.Rounds.{outcomes_of, records_in}
use Rattle.engine_core.specs.Serving.{IsKeeping}
use Rattle.engine_core.proofs.Rounds.{batch_of}

with_acknowledgements-append : (acknowledges : Bool) (a b : List Frame) → with_acknowledgements acknowledges (a ++ b) ≡ with_acknowledgements acknowledges a ++ with_acknowledgements acknowledges b
with_acknowledgements-append acknowledges a b = grind (arith, unacknowledged-append)

-- what further frames add
abbrev pub added : Start → List (List ℕ) → List (List ℕ) → List ℕ
added start a b = spelled (with_acknowledgements start.acknowledges (replies start.capacity (length a + 1) (held_after start a) b))

pub expected-more : (start : Start) (a b : List (List ℕ)) → expected start (a ++ b) ≡ expected start a ++ added start a b
unfolding expected
expected-more start a b =
    simp (replies-append, with_acknowledgements-append, spelled-append, append_assoc, add_comm 1 (length a))

-- one frame more
pub expected-one : (start : Start) (a : List (List ℕ)) (body : List ℕ)
    → expected start (a ++ body ∷ []) ≡ expected start a ++ spelled (with_acknowledgements start.acknowledges (reply (length a + 1) (held_after start a) (judged start.capacity (held_after start a) body)))
expected-one start a body = expected-more start a (body ∷ []) ∙ simp append-nil

pub held-one : (start : Start) (a : List (List ℕ)) (body : List ℕ) → held_after start (a ++ body ∷ []) ≡ with_record (held_after start a) (judged start.capacity (held_after start a) body)
held-one start a body = accepted_of-append start.capacity start.held a (body ∷ [])

-- these are the first of all bytes
pub record Begins (prefix all : List ℕ) : Type 0 where
  pub more : List ℕ
  pub whole : prefix ++ more ≡ all

pub accepted_grows : (capacity : ℕ) (held : List Record) (bodies : List (List ℕ)) → (more : List Record) × (accepted_of capacity held bodies ≡ more ++ held)
accepted_grows capacity held bodies = (reverse (records_in (outcomes_of capacity held bodies)), sym (batch_of capacity held bodies))

-- what more bytes give stands before what the first ones gave
pub held_further : (start : Start) {prefix all : List ℕ} → Begins prefix all → (more : List Record) × (more ++ held_after start (bodies_of prefix) ≡ held_after start (bodies_of all))
held_further start {prefix} begins =
    let rest = bodies_of (rest_of prefix ++ begins.more) in
    let grows = accepted_grows start.capacity (held_after start (bodies_of prefix)) rest in
    (grows.0, sym grows.1 ∙ sym (accepted_of-append start.capacity start.held (bodies_of prefix) rest) ∙ ap (held_after start) (sym (bodies_of-append prefix begins.more) ∙ ap bodies_of begins.whole))

-- no batch is being kept
pub at_rest : {most : ℕ} {recovers : List Record → List (List Record) → List ℕ → Type 0} {start : Start} {bodies : List (List ℕ)} {records : List Record} {image : List ℕ}
    (more : List Record) → more ++ records ≡ held_after start bodies → recovers records [] image → IsKeeping most recovers start bodies records image
at_rest {most = most} more next recovered = record { pending = []; few = omega arith; small = All-nil (λ (batch : List Record). length batch ≤ most); more = more; next = next; recovered = recovered }

-- and what is kept of some frames is so of more
pub keeping_further : {most : ℕ} {recovers wider : List Record → List (List Record) → List ℕ → Type 0} {start : Start} {prefix all : List ℕ} {records : List Record} {image : List ℕ} → Begins prefix all
    → (keeping : IsKeeping most recovers start (bodies_of prefix) records image) → wider records keeping.pending image → IsKeeping most wider start (bodies_of all) records image
keeping_further {start = start} begins keeping recovered =
    let grows = held_further start begins in
    let next = append_assoc grows.0 keeping.more _ ∙ ap (λ (r : List Record). grows.0 ++ r) keeping.next ∙ grows.1 in
    record { pending = keeping.pending; few = keeping.few; small = keeping.small; more = grows.0 ++ keeping.more; next = next; recovered = recovered }

-- what some frames gave is recovered, and a prefix of what is expected for them was sent
pub safe_of : (recovers : List Record → List ℕ → Type 0) (start : Start) (a b : List (List ℕ)) (image bytes since unsent : List ℕ) → recovers (held_after start a) image
    → Agrees (append_known start.sent since) bytes → since ++ unsent ≡ expected start a → IsSafe recovers start (a ++ b) image bytes
safe_of recovers start a b image bytes since unsent recovered sent prefix =
    let same : a ≡ take (length a) (a ++ b) = sym (take_at a b (length a) refl) in
    record {
      count = length a;
      within = omega (arith, length-append a b);
      recovered = subst (λ (bodies : List (List ℕ)). recovers (held_after start bodies) image) same recovered;
      since = since;
      unsent = unsent;
      sent = sent;
      prefix = prefix ∙ ap (expected start) same;
    }

module _ (recovers : List Record → List ℕ → Type 0) (start : Start) where
  -- what is safe for some frames is safe for more, and by a wider test of images
  safe_wider : (wider : List Record → List ℕ → Type 0) → ((records : List Record) (image : List ℕ) → recovers records image → wider records image)
      → (a b : List (List ℕ)) (image bytes : List ℕ) → IsSafe recovers start a image bytes → IsSafe wider start (a ++ b) image bytes
  safe_wider wider more a b image bytes safe =
      let whole : take safe.count a ++ (drop safe.count a ++ b) ≡ a ++ b = sym (append_assoc _ _ b) ∙ ap (λ (prefix : List (List ℕ)). prefix ++ b) (take-append-drop safe.count a) in
      rw whole at (safe_of wider start (take safe.count a) (drop safe.count a ++ b) image bytes safe.since safe.unsent (more _ image safe.recovered) safe.sent safe.prefix)

  pub safe_more : (a b : List (List ℕ)) (image bytes : List ℕ) → IsSafe recovers start a image bytes → IsSafe recovers start (a ++ b) image bytes
  safe_more = safe_wider recovers (λ records image recovered. recovered)

  -- and so for more bytes
  pub safe_further : {prefix all : List ℕ} → Begins prefix all → (wider : List Record → List ℕ → Type 0) → ((records : List Record) (image : List ℕ) → recovers records image → wider records image)
      → (image bytes : List ℕ) → IsSafe recovers start (bodies_of prefix) image bytes → IsSafe wider start (bodies_of all) image bytes
  safe_further {prefix = prefix} begins wider more image bytes safe =
      subst (λ (bodies : List (List ℕ)). IsSafe wider start bodies image bytes) (sym (bodies_of-append prefix begins.more) ∙ ap bodies_of begins.whole)
      (safe_wider wider more (bodies_of prefix) (bodies_of (rest_of prefix ++ begins.more)) image bytes safe)

  -- while a prefix of what is expected for all frames is sent, what they gave is recovered
  pub safe_sends : (bodies : List (List ℕ)) (now : Outside) (image bytes : List ℕ) → recovers (held_after start bodies) image → SendsPrefix start.sent (expected start bodies) now image bytes
      → IsSafe recovers start bodies image bytes
  safe_sends bodies now image bytes recovered stop =
      rw append-nil at (safe_of recovers start bodies [] image bytes stop.sent stop.rest recovered stop.known stop.prefix)

-- before the first frame
pub expected-none : (start : Start) → expected start [] ≡ start.opening
unfolding expected
expected-none start = grind (arith, append-nil)
