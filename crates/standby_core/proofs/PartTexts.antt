-- The Parts of records, and a prefix of them.
use Rattle.std.proofs.Common.{◌≡◌, ℕ, ◌+◌, ◌<◌, ◌≤◌, Bool, true, false, List, [], ◌∷◌, ◌++◌, length, get_or, take, drop, refl, sym, ap, ◌∙◌, append_assoc, length-append, length-take, arith}
use Rattle.std.specs.Prelude.{Option, Some, None, max, nat_le, if◌then◌else◌, reverse}
use Rattle.std.proofs.lemmas.Bool.Decides.{nat_tests}
use Rattle.std.proofs.lemmas.List.{append-nil, length-reverse, take-append-drop}
use Rattle.host_core.specs.Outside.{Outside, Elapses}
use Rattle.wire_in.specs.declared.base.Base.{Base}
use Rattle.wire_in.specs.declared.record.Record.{Record}
use Rattle.journal_core.specs.Layout.{with_batch}
use Rattle.journal_core.specs.Laws.{IsPassed}
use Rattle.journal_core.specs.Scan.{records_before}
use Rattle.stream_core.specs.Pending.{SendsPrefix}
use Rattle.stream_core.proofs.Sending.{sends_longer}
use Rattle.recovery_core.specs.Origins.{origin_of}
use Rattle.recovery_core.specs.Recoveries.{IsPart}
use Rattle.recovery_core.proofs.Behind.{in_parts, same_origin}
use Rattle.recovery_core.proofs.Recovering.{with_next}
use Rattle.standby_core.specs.Parts.{part_bytes}
use Rattle.standby_core.specs.Shipped.{part_at, parts_behind, parts_from, shipped}

-- One record

is_under : (from number : ℕ) → number < from → nat_le from number ≡ false
is_under from number lt = grind (arith, nat_tests)

is_over : (from number : ℕ) → from ≤ number → nat_le from number ≡ true
is_over from number le = grind (arith, nat_tests)

pub part_passed_over : (from number : ℕ) (x : Record) → number < from → part_at from number x ≡ []
part_passed_over from number x lt = ap (λ (b : Bool). if b then part_bytes number x else []) (is_under from number lt)

pub part_asked_for : (from number : ℕ) (x : Record) → from ≤ number → part_at from number x ≡ part_bytes number x
part_asked_for from number x le = ap (λ (b : Bool). if b then part_bytes number x else []) (is_over from number le)

-- Records that come next

length-with : (held records : List Record) → length (with_batch held records) ≡ length records + length held
length-with held records = length-append (reverse records) held ∙ ap (λ (n : ℕ). n + length held) (length-reverse records)

pub next_part : (past from number i : ℕ) (held records : List Record) (x : Record) → i < length records → x ≡ get_or records i x → number ≡ past + length held + i + 1
    → parts_behind past from (with_batch held (take i records)) ++ part_at from number x ≡ parts_behind past from (with_batch held (take (i + 1) records))
next_part past from number i held records x lt at is =
    let before = with_batch held (take i records) in
    let count : number ≡ past + length (x ∷ before) = omega (arith, is, lt, length-with held (take i records), length-take i records) in
    ap (λ (n : ℕ). parts_behind past from before ++ part_at from n x) count ∙ ap (parts_behind past from) (sym (with_next held records i x lt at))

-- the Parts of some records are a prefix of those of more
pub parts_first : (past from : ℕ) (later held : List Record) → (more : List ℕ) × (parts_behind past from held ++ more ≡ parts_behind past from (later ++ held))
parts_first past from [] held = ([], append-nil (parts_behind past from held))
parts_first past from (x ∷ later) held =
    let before = parts_first past from later held in
    let new = part_at from (past + length (x ∷ (later ++ held))) x in
    (before.0 ++ new, sym (append_assoc (parts_behind past from held) before.0 new) ∙ ap (λ (b : List ℕ). b ++ new) before.1)

pub ships_part : {begin : Option (List ℕ)} (past from : ℕ) {records all : List Record} → IsPart records all → {old new : Outside}
    → Elapses old new (SendsPrefix begin (parts_behind past from records) old) → Elapses old new (SendsPrefix begin (parts_behind past from all) old)
ships_part past from {records} {all} part run =
    let first = parts_first past from part.more records in
    sends_longer (parts_behind past from records) first.0 (parts_behind past from all) (first.1 ∙ ap (λ (r : List Record). parts_behind past from r) part.whole) run

pub batch_part : (held records : List Record) (i : ℕ) → IsPart (with_batch held (take i records)) (with_batch held records)
batch_part held records i = record {
  more = reverse (drop i records);
  whole = sym (in_parts held (take i records) (drop i records)) ∙ ap (λ (b : List Record). with_batch held b) (take-append-drop i records);
}

pub batch_first : (held records : List Record) → IsPart held (with_batch held records)
batch_first held records = record { more = reverse records; whole = refl }

-- A whole list

pub origin_records : (base : Option Base) → (origin_of base).records ≡ records_before base
origin_records None = refl
origin_records (Some b) = refl

-- no Part of few records is asked for
none_asked_for : (from : ℕ) (held : List Record) → length held < from → parts_from from held ≡ []
none_asked_for from [] few = refl
none_asked_for from (x ∷ held) few =
    (λ i. none_asked_for from held (omega arith) i ++ part_passed_over from (0 + length (x ∷ held)) x (omega arith) i)

max_under : (from least number : ℕ) → least ≤ number → nat_le (max from least) number ≡ nat_le from number
max_under from least number le = grind (arith, nat_tests)

-- the Parts behind a base are those of the whole list that are asked for above it
over : (from : ℕ) (later before : List Record) → parts_from (max from (length before + 1)) (later ++ before) ≡ parts_behind (length before) from later
over from [] before = none_asked_for (max from (length before + 1)) before (omega arith)
over from (x ∷ later) before =
    let number = length before + length (x ∷ later) in
    let count : 0 + length (x ∷ (later ++ before)) ≡ number = omega (arith, length-append later before) in
    let test : nat_le (max from (length before + 1)) number ≡ nat_le from number = max_under from (length before + 1) number (omega arith) in
    (λ i. over from later before i ++ part_at (max from (length before + 1)) (count i) x)
    ∙ ap (λ (b : Bool). parts_behind (length before) from later ++ (if b then part_bytes number x else [])) test

pub shipped_whole : (from : ℕ) (base : Option Base) (later before : List Record) → IsPassed base before → shipped from base (later ++ before) ≡ parts_behind (records_before base) from later
shipped_whole from base later before is =
    let count : length before ≡ records_before base = sym (same_origin base before is).records_are ∙ origin_records base in
    ap (λ (n : ℕ). parts_from (max from (n + 1)) (later ++ before)) (sym count) ∙ over from later before ∙ ap (λ (n : ℕ). parts_behind n from later) count
