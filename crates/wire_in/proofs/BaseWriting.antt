-- A base is written part by part.
use Rattle.std.proofs.Common.{◌≡◌, ℕ, suc, ◌<◌, true, List, ◌++◌, length, get_or, sym, ◌∙◌, ap, inl, inr, true≢false, arith, append_assoc}
use Rattle.std.specs.Prelude.{All, Ok}
use Rattle.std.proofs.lemmas.Bool.{cases_lt}
use Rattle.std.proofs.lemmas.List.{get_or_past}
use Rattle.wire_core.specs.Frames.{framed}
use Rattle.wire_core.proofs.Cells.{IsBytes}
use Rattle.wire_in.specs.declared.record.Record.{Record}
use Rattle.wire_in.specs.Laws.{IsSound}
use Rattle.wire_in.specs.Reading.{record_of}
use Rattle.wire_in.specs.Records.{is_day}
use Rattle.wire_in.specs.Spelling.{InRange, body_of}
use Rattle.wire_in.proofs.DecodesOnly.{record_found}
use Rattle.wire_in.proofs.RecordKinds.{by_listing}

pub day_in_range : (x : Record) → is_day x ≡ true → InRange x
day_in_range = by_listing (λ x. is_day x ≡ true → InRange x) (λ t d v is. tt) (λ t n k l c is. absurd (true≢false (sym is))) (λ x o is. absurd (true≢false (sym is ∙ o.no_day)))

all_bytes : (bytes : List ℕ) → All (λ byte. byte < 256) bytes → IsBytes bytes
all_bytes bytes range i = elim (cases_lt i (length bytes)) [
  | inl lt ↦ range i 0 lt
  | inr le ↦ rw (get_or_past bytes i 0 le) (omega arith)
]

-- a record whose frame was made of bytes
pub sound_from_frame : (x : Record) (bytes : List ℕ) → All (λ byte. byte < 256) bytes → bytes ≡ framed (body_of x) → record_of (body_of x) ≡ Ok x → IsSound x
sound_from_frame x bytes range is decodes =
    let spelled = record_found (body_of x) x (λ i. rw (ap (λ (t : List ℕ). get_or t (suc i) 0) is) at (all_bytes bytes range (suc i))) decodes in
    record { types = spelled.types; ranges = spelled.ranges }

pub head_order : (old r m d : List ℕ) → ((old ++ r) ++ m) ++ d ≡ old ++ (r ++ (m ++ d))
head_order old r m d = append_assoc (old ++ r) m d ∙ append_assoc old r (m ++ d)

pub all_order : (old r m d n ns i is : List ℕ) → ((((old ++ (r ++ (m ++ d))) ++ n) ++ ns) ++ i) ++ is ≡ old ++ (r ++ (m ++ (d ++ (n ++ (ns ++ (i ++ is))))))
all_order old r m d n ns i is =
    let rest = n ++ (ns ++ (i ++ is)) in
    append_assoc (((old ++ (r ++ (m ++ d))) ++ n) ++ ns) i is
    ∙ append_assoc ((old ++ (r ++ (m ++ d))) ++ n) ns (i ++ is)
    ∙ append_assoc (old ++ (r ++ (m ++ d))) n (ns ++ (i ++ is))
    ∙ append_assoc old (r ++ (m ++ d)) rest
    ∙ ap (λ (t : List ℕ). old ++ t) (append_assoc r (m ++ d) rest ∙ ap (λ (t : List ℕ). r ++ t) (append_assoc m d rest))
