-- Records behind a base, and behind the lists that may stand before them.
use Rattle.std.proofs.Common.{◌≡◌, ◌⊎◌, inl, inr, ℕ, suc, ◌+◌, ◌-◌, ◌<◌, ◌≤◌, List, [], ◌∷◌, ◌++◌, length, drop, Option, Some, None, refl, sym, ap, subst, ◌∙◌, append_assoc, length-append, arith}
use Rattle.std.specs.Prelude.{min, reverse}
use Rattle.std.proofs.lemmas.Bool.{cases_lt}
use Rattle.std.proofs.lemmas.List.{append-nil, drop_all, reverse-append}
use Rattle.wire_in.specs.declared.base.Base.{Base}
use Rattle.wire_in.specs.declared.record.Record.{Record}
use Rattle.wire_out.specs.declared.message.Frame.{Frame}
use Rattle.wire_out.specs.declared.message.Stamped.{Stamped}
use Rattle.journal_core.specs.Layout.{with_batch}
use Rattle.journal_core.specs.Laws.{IsPassed}
use Rattle.rulebook.specs.Admission.{IsLawful, verdict, verdict_at}
use Rattle.rulebook.specs.Base.{Origin, IsLawfulAfter, again_after, messages_after, sent_above, step_after, verdict_after, whole}
use Rattle.rulebook.specs.Book.{messages_of}
use Rattle.rulebook.specs.Sent.{numbered, passed_over, spelled}
use Rattle.rulebook.proofs.Lawful.{under_another}
use Rattle.rulebook.proofs.Origins.{SameOrigin, again-over, again_after-same, based-whole, messages-over, messages_after-same, verdict-over, verdict_after-same}
use Rattle.rulebook.proofs.Sending.{drop-numbered, drop-over, length-numbered, numbered-append, spelled-append}
use Rattle.shard_core.specs.Block.{AreAdmissible}
use Rattle.engine_core.specs.declared.engine.Engine.{Engine}
use Rattle.engine_core.specs.EngineState.{Represents}
use Rattle.recovery_core.specs.Origins.{IsPast, again, origin_of}
use Rattle.recovery_core.specs.Recoveries.{Admits}

-- the list of the origin is one that may stand there
pub own_past : (base : Option Base) → IsPast base (origin_of base).list
own_past None = refl
own_past (Some b) = inl refl

-- and so is each lawful list that a journal holds there
pub held_past : (limit : ℕ) (base : Option Base) (before : List Record) → IsPassed base before → IsLawful limit before → IsPast base before
held_past limit None before none lawful = none
held_past limit (Some b) before is lawful = inr (limit, lawful, is)

-- such a list leaves what the base leaves
pub same_origin : (base : Option Base) (before : List Record) → IsPassed base before → SameOrigin (origin_of base) (whole before)
same_origin None before none =
    subst (λ (p : List Record). SameOrigin (whole []) (whole p)) (sym none) (record { records_are = refl; messages_are = refl; past = record { since = refl; names_are = refl; carried = λ s. refl } })
same_origin (Some b) before is = based-whole b before is

-- Admission

-- what is admissible behind the base is so behind each list that may stand there, under a limit that has room
pub follows_past : (capacity limit : ℕ) (base : Option Base) (past later : List Record) (x : Record) → IsPast base past → verdict_after (origin_of base) capacity later x ≡ None
    → suc (length (later ++ past)) ≤ limit → verdict limit (later ++ past) x ≡ None
follows_past capacity limit None past later x is passed room =
    under_another capacity _ limit (length (later ++ past)) (later ++ past) x (subst (λ (p : List Record). verdict_at capacity (0 + length later) (later ++ p) x ≡ None) (sym is) passed) room
follows_past capacity limit (Some b) past later x (inl is) passed room =
    under_another capacity _ limit (length (later ++ past)) (later ++ past) x (subst (λ (p : List Record). verdict_at capacity (b.records + length later) (later ++ p) x ≡ None) (sym is) passed) room
follows_past capacity limit (Some b) past later x (inr (most, lawful, is)) passed room =
    under_another capacity _ limit (length (later ++ past)) (later ++ past) x (sym (verdict_after-same (origin_of (Some b)) (whole past) capacity later x (based-whole b past is)) ∙ passed) room

-- what is lawful with such a list is lawful behind the base
pub lawful_behind : (capacity : ℕ) (base : Option Base) (later before : List Record) → IsPassed base before → IsLawful capacity (later ++ before) → IsLawfulAfter (origin_of base) capacity later
lawful_behind capacity base [] before is lawful = tt
lawful_behind capacity base (x ∷ later) before is lawful =
    (verdict_after-same (origin_of base) (whole before) capacity later x (same_origin base before is) ∙ verdict-over capacity later before x ∙ lawful.0, lawful_behind capacity base later before is lawful.1)

-- of two parts of a batch the second stands before the first
pub in_parts : (records first second : List Record) → with_batch records (first ++ second) ≡ reverse second ++ with_batch records first
in_parts records first second = ap (λ r. r ++ records) (reverse-append first second) ∙ append_assoc (reverse second) (reverse first) records

-- one record more, and several
pub with_more : (held : List Record) (x : Record) (later : List Record) → with_batch held (x ∷ later) ≡ with_batch (x ∷ held) later
with_more held x later = in_parts held (x ∷ []) later

-- what is lawful behind others was lawful without it
pub admissible_behind : (capacity limit : ℕ) (base : Option Base) (past held records : List Record) → IsPast base past → IsLawfulAfter (origin_of base) capacity (with_batch held records)
    → length (held ++ past) + length records ≤ limit → AreAdmissible limit (held ++ past) records × IsLawfulAfter (origin_of base) capacity held
admissible_behind capacity limit base past held [] is lawful room = (tt, lawful)
admissible_behind capacity limit base past held (x ∷ records) is lawful room =
    let first = admissible_behind capacity limit base past (x ∷ held) records is (subst (IsLawfulAfter (origin_of base) capacity) (with_more held x records) lawful) (omega (arith, room)) in
    ((follows_past capacity limit base past held x is first.1.0 (omega (arith, room)), first.0), first.1.1)

-- Messages that are sent again

none_left : (n k : ℕ) (ms : List Stamped) → length ms ≤ k → numbered (n + k) (drop k ms) ≡ numbered (n + length ms) (drop (length ms) ms)
none_left n k ms le = ap (λ later. numbered (n + k) later) (drop_all k ms le) ∙ sym (ap (λ later. numbered (n + length ms) later) (drop_all (length ms) ms (omega arith)))

up_to : (n k : ℕ) (ms : List Stamped) → numbered (n + k) (drop k ms) ≡ numbered (n + min k (length ms)) (drop (min k (length ms)) ms)
up_to n k ms = by (cases_lt (length ms) k) where
  by : (length ms < k) ⊎ (k ≤ length ms) → numbered (n + k) (drop k ms) ≡ numbered (n + min k (length ms)) (drop (min k (length ms)) ms)
  by (inl more) = none_left n k ms (omega arith) ∙ ap (λ (i : ℕ). numbered (n + i) (drop i ms)) (omega arith)
  by (inr within) = ap (λ (i : ℕ). numbered (n + i) (drop i ms)) (omega arith)

-- what is sent again for one more record
again_after-more : (origin : Origin) (from : Option ℕ) (x : Record) (held : List Record) (before : ℕ) (ms : List Stamped) → before ≡ origin.messages + length (messages_after origin held) → ms ≡ step_after origin (x ∷ held)
    → again_after origin from (x ∷ held) ≡ again_after origin from held ++ numbered (before + passed_over from before (length ms)) (drop (passed_over from before (length ms)) ms)
again_after-more origin None x held before ms at gave = sym (ap (λ later. numbered (before + length ms) later) (drop_all (length ms) ms (omega arith)))
again_after-more origin (Some from) x held before ms at gave =
    ap (drop (from - 1 - origin.messages)) (numbered-append origin.messages old (step_after origin (x ∷ held)))
    ∙ drop-over (from - 1 - origin.messages) (numbered origin.messages old) (numbered (origin.messages + length old) (step_after origin (x ∷ held)))
    ∙ ap (λ (later : List Frame). drop (from - 1 - origin.messages) (numbered origin.messages old) ++ later)
    ((λ i. drop (count_is i) (numbered (begin_is i) (gave_is i)))
    ∙ drop-numbered (from - 1 - before) before ms
    ∙ up_to before (from - 1 - before) ms)
  where
    old : List Stamped
    old = messages_after origin held

    count_is : from - 1 - origin.messages - length (numbered origin.messages old) ≡ from - 1 - before
    count_is = omega (arith, at, length-numbered origin.messages old)

    begin_is : origin.messages + length old ≡ before
    begin_is = sym at

    gave_is : step_after origin (x ∷ held) ≡ ms
    gave_is = sym gave

-- and its spelling
pub again_one : (origin : Origin) (from : Option ℕ) (x : Record) (held : List Record) (before : ℕ) (ms : List Stamped) → before ≡ origin.messages + length (messages_after origin held) → ms ≡ step_after origin (x ∷ held)
    → let skipped = passed_over from before (length ms) in
    spelled (again_after origin from held) ++ spelled (numbered (before + skipped) (drop skipped ms)) ≡ spelled (again_after origin from (x ∷ held))
again_one origin from x held before ms at gave =
    sym (spelled-append (again_after origin from held) (numbered (before + passed_over from before (length ms)) (drop (passed_over from before (length ms)) ms)))
    ∙ ap spelled (sym (again_after-more origin from x held before ms at gave))

-- what is sent again of some records is a prefix of what is sent again of more
pub again_first : (origin : Origin) (from : Option ℕ) (later held : List Record) → (more : List ℕ) × (spelled (again_after origin from held) ++ more ≡ spelled (again_after origin from (later ++ held)))
again_first origin from [] held = ([], append-nil (spelled (again_after origin from held)))
again_first origin from (x ∷ later) held =
    let before = again_first origin from later held in
    let ms = step_after origin (x ∷ (later ++ held)) in
    let n = origin.messages + length (messages_after origin (later ++ held)) in
    let new = spelled (numbered (n + passed_over from n (length ms)) (drop (passed_over from n (length ms)) ms)) in (
      before.0 ++ new,
      sym (append_assoc (spelled (again_after origin from held)) before.0 new) ∙ ap (λ (b : List ℕ). b ++ new) before.1 ∙ again_one origin from x (later ++ held) n ms refl refl,
    )

-- no message is asked for again where there are no records
pub again_none : (from : Option ℕ) (base : Option Base) → again from base [] ≡ []
again_none None base = refl
again_none (Some from) base = ap spelled (drop_all (from - 1 - (origin_of base).messages) [] (omega arith))

-- what is sent again behind a base is what is sent again of a list with the base, but for the messages up to those of the base
pub again_whole : (from : Option ℕ) (base : Option Base) (later before : List Record) → IsPassed base before → again from base later ≡ spelled (sent_above (origin_of base).messages from (later ++ before))
again_whole from base later before is =
    let same = same_origin base before is in
    ap spelled (again_after-same (origin_of base) (whole before) from later same ∙ again-over from later before ∙ ap (λ (n : ℕ). sent_above n from (later ++ before)) (sym same.messages_are))

-- An engine behind the base is one of the whole list.

pub represents_whole : {capacity : ℕ} {base : Option Base} {later : List Record} {engine : Engine} (limit : ℕ) (before : List Record) → IsPassed base before → IsLawful limit before
    → Admits capacity base later later engine → Represents engine capacity (later ++ before) (later ++ before)
represents_whole {capacity} {base} {later} {engine} limit before is lawful a =
    let same = same_origin base before is in
    record {
      stands = a.stands before (held_past limit base before is lawful);
      count = omega (arith, a.count, same.records_are, length-append later before);
      evaluated_is = omega (arith, a.evaluated_is, same.records_are, length-append later before);
      published = omega (
        arith,
        a.published,
        same.messages_are,
        ap length (messages_after-same (origin_of base) (whole before) later same),
        ap length (messages-over later before),
        length-append (messages_of before) (messages_after (whole before) later),
      );
    }
