-- A journal is damaged at one offset, and then it holds no lawful list.
use Rattle.std.proofs.Common.{◌≡◌, ◌≢◌, ◌⊎◌, inl, inr, ⊎_elim, ℕ, ◌≤◌, List, [], ◌∷◌, ◌++◌, length, take, drop, refl, sym, ap, subst, ◌∙◌, append_assoc, length-append, arith}
use Rattle.std.specs.Prelude.{Option, Some, None, reverse}
use Rattle.std.proofs.lemmas.List.{append-nil, take_at, nil_from_length}
use Rattle.wire_in.specs.declared.base.Base.{Base}
use Rattle.wire_in.specs.declared.record.Record.{Record}
use Rattle.journal_core.specs.Layout.{Opens, Holds, records_of, with_batch}
use Rattle.journal_core.specs.Laws.{IsPassed}
use Rattle.journal_core.specs.Scan.{LeadsTo}
use Rattle.journal_core.proofs.Batches.{GoesOn, closed_gate, ends_there, no_batch_follows, records_first, records_more}
use Rattle.journal_core.proofs.Readable.{IsLed, led, led_capacity, led_undamaged}
use Rattle.journal_core.proofs.Starts.{headed, held_unreadable, one_gate, one_limit, one_on, one_start, unreadable_led}
use Rattle.journal_core.specs.Walk.{HasNoHeader}
use Rattle.rulebook.specs.Admission.{IsLawful}
use Rattle.rulebook.specs.Base.{IsLawfulAfter, verdict_after}
use Rattle.rulebook.proofs.Bases.{is_base}
use Rattle.rulebook.proofs.Lawful.{has_room}
use Rattle.recovery_core.specs.Damage.{IsDamagedAt, HasBadBatch, HasBadRecord, HasBadForm}
use Rattle.recovery_core.specs.Origins.{origin_of}
use Rattle.recovery_core.specs.Recoveries.{IsPart, Covers, IsReadThrough}
use Rattle.recovery_core.proofs.Behind.{in_parts, lawful_behind}

lawful_at : (capacity : ℕ) (base : Option Base) (later : List Record) (x : Record) (before : List Record) → IsLawfulAfter (origin_of base) capacity (later ++ x ∷ before) → verdict_after (origin_of base) capacity before x ≡ None
lawful_at capacity base [] x before lawful = lawful.0
lawful_at capacity base (y ∷ later) x before lawful = lawful_at capacity base later x before lawful.1

-- of the end of a list, what is lawful stands behind a record that may not follow
lawful_until : (capacity : ℕ) (base : Option Base) (more records later : List Record) (x : Record) (before : List Record) → more ++ records ≡ later ++ x ∷ before → verdict_after (origin_of base) capacity before x ≢ None
    → IsLawfulAfter (origin_of base) capacity records → IsPart records before
lawful_until capacity base [] records later x before is refused lawful =
    absurd (refused (lawful_at capacity base later x before (subst (λ r. IsLawfulAfter (origin_of base) capacity r) is lawful)))
lawful_until capacity base (m ∷ more) records [] x before is refused lawful = record { more = more; whole = ap (drop 1) is }
lawful_until capacity base (m ∷ more) records (y ∷ later) x before is refused lawful = lawful_until capacity base more records later x before (ap (drop 1) is) refused lawful

-- What stands first among batches that no batch follows is among their records.
covers_all : {disk : List ℕ} {capacity gate : ℕ} {base : Option Base} {batches : List (List Record)} {rest : List ℕ} → LeadsTo capacity gate base batches disk rest
    → ((b : List Record) (tail : List ℕ) → ¬ Opens b rest tail) → Covers base disk (records_of batches)
covers_all {batches = batches} leads no_batch limit at first more records stands part lawful =
    ⊎_elim (λ on. by [] ((no_batch_follows on no_batch).0 ∙ sym (append-nil first))) (λ on. by on.later on.same) (one_on leads stands)
  where
    by : (later : List (List Record)) → batches ≡ first ++ later → IsPart records (records_of batches)
    by later is = record {
      more = records_of later ++ part.more;
      whole = append_assoc (records_of later) part.more records ∙ ap (λ r. records_of later ++ r) part.whole ∙ sym (records_first first later) ∙ ap records_of (sym is);
    }

-- Lists that a disk holds

-- what of such a list stands behind the last base, and covers the disk there
pub record IsBehind (held : List Record) (base : Option Base) (disk : List ℕ) : Type 0 where
  pub before : List Record
  pub passed : IsPassed base before
  pub later : List Record
  pub whole : held ≡ later ++ before
  pub covers : Covers base disk later

-- the base tells how many records stand before
as_many : (base : Option Base) (before others : List Record) → IsPassed base before → IsPassed base others → length before ≡ length others
as_many None before others none nothing = ap length (none ∙ sym nothing)
as_many (Some b) before others is same = sym (is_base before b is).records_are ∙ (is_base others b same).records_are

first_alike : (a b c d : List Record) → a ++ c ≡ b ++ d → length c ≡ length d → a ≡ b
first_alike a b c d is same =
    let counts : length a ≡ length b = omega (arith, same, ap length is, length-append a c, length-append b d) in
    sym (take_at a c (length a) refl) ∙ ap (take (length a)) is ∙ take_at b d (length a) (sym counts)

pub behind_held : {disk : List ℕ} {capacity : ℕ} {held : List Record} → Holds disk capacity held → {limit gate : ℕ} {base : Option Base} {batches : List (List Record)} {rest : List ℕ}
    → LeadsTo limit gate base batches disk rest → IsBehind held base disk
behind_held {disk} {capacity} {held} holds {base = base} {batches = batches} {rest = rest} leads = record {
  before = l.before;
  passed = l.passed;
  later = l.more ++ records_of batches;
  whole = l.whole ∙ sym (append_assoc l.more (records_of batches) l.before);
  covers = covers;
} where
  l : IsLed held base batches rest
  l = led holds leads

  covers : Covers base disk (l.more ++ records_of batches)
  covers limit at first more records stands part lawful =
      let m = led holds stands in
      let alike : m.more ++ records_of first ≡ l.more ++ records_of batches =
      first_alike (m.more ++ records_of first) (l.more ++ records_of batches) m.before l.before
      (append_assoc m.more (records_of first) m.before ∙ sym m.whole ∙ l.whole ∙ sym (append_assoc l.more (records_of batches) l.before)) (as_many base m.before l.before m.passed l.passed) in
      record { more = m.more ++ part.more; whole = append_assoc m.more part.more records ∙ ap (λ r. m.more ++ r) part.whole ∙ alike }

-- A batch with a record that may not follow.
module _ (disk : List ℕ) (capacity : ℕ) (base : Option Base) (batches : List (List Record)) (before : List Record) (bad : HasBadRecord capacity base batches before disk) where
  abbrev with_bad : List (List Record)
  with_bad = batches ++ (bad.good ++ bad.bad ∷ bad.later) ∷ []

  -- whatever goes on behind it has the record behind those before it
  has_bad : (later : List (List Record)) → records_of (with_bad ++ later) ≡ (records_of later ++ reverse bad.later) ++ bad.bad ∷ before
  has_bad later =
      records_first with_bad later
      ∙ ap (λ r. records_of later ++ r) (records_more batches (bad.good ++ bad.bad ∷ bad.later) ∙ backwards ∙ ap (λ b. reverse bad.later ++ bad.bad ∷ b) (sym bad.same))
      ∙ sym (append_assoc (records_of later) (reverse bad.later) (bad.bad ∷ before))
    where
      backwards : with_batch (records_of batches) (bad.good ++ bad.bad ∷ bad.later) ≡ reverse bad.later ++ bad.bad ∷ with_batch (records_of batches) bad.good
      backwards =
          in_parts (records_of batches) bad.good (bad.bad ∷ bad.later)
          ∙ in_parts (with_batch (records_of batches) bad.good) (bad.bad ∷ []) bad.later

  not_lawful : (later : List (List Record)) (extra : List Record) → IsLawfulAfter (origin_of base) capacity (extra ++ records_of (with_bad ++ later)) → ⊥
  not_lawful later extra lawful =
      let is = ap (λ r. extra ++ r) (has_bad later) ∙ sym (append_assoc extra (records_of later ++ reverse bad.later) (bad.bad ∷ before)) in
      bad.refused (lawful_at capacity base (extra ++ (records_of later ++ reverse bad.later)) bad.bad before (subst (λ r. IsLawfulAfter (origin_of base) capacity r) is lawful))

  -- nor are those of batches that it goes on to
  not_read : {gate : ℕ} {read : List (List Record)} {rest : List ℕ} → LeadsTo capacity gate base read disk (0 ∷ rest) → (extra : List Record) → IsLawfulAfter (origin_of base) capacity (extra ++ records_of read) → ⊥
  not_read {read = read} {rest = rest} leads extra lawful =
      ⊎_elim (λ on. by on.later on.same) (λ on. by [] ((no_batch_follows on (closed_gate rest)).0 ∙ sym (append-nil with_bad))) (one_on bad.leads leads)
    where
      by : (later : List (List Record)) → read ≡ with_bad ++ later → ⊥
      by later is = not_lawful later extra (subst (λ r. IsLawfulAfter (origin_of base) capacity (extra ++ records_of r)) is lawful)

  covers_bad : Covers base disk before
  covers_bad limit at first rest records stands part lawful =
      ⊎_elim (λ on. covered on.later [] (sym on.same ∙ sym (append-nil first))) (λ on. covered [] on.later (append-nil with_bad ∙ on.same)) (one_on bad.leads stands)
    where
      covered : (a b : List (List Record)) → with_bad ++ a ≡ first ++ b → IsPart records before
      covered a b is =
          lawful_until capacity base (records_of b ++ part.more) records (records_of a ++ reverse bad.later) bad.bad before
          (append_assoc (records_of b) part.more records ∙ ap (λ r. records_of b ++ r) part.whole
          ∙ sym (records_first first b) ∙ ap records_of (sym is) ∙ has_bad a)
          bad.refused (subst (λ l. IsLawfulAfter (origin_of base) l records) (one_limit stands bad.leads) lawful)

-- what stands before the damage covers what stands first
pub covers_damaged : {capacity at : ℕ} {base : Option Base} {before : List Record} {disk : List ℕ} → IsDamagedAt capacity at base before disk → Covers base disk before
covers_damaged (inl none) = λ limit gate first rest records stands part lawful. absurd (unreadable_led none.unreadable stands)
covers_damaged {capacity} {at} {base} {before} {disk} (inr d) =
    ⊎_elim (λ form. subst (λ r. Covers base disk r) (sym form.same) (covers_all d.leads form.damaged.no_batch)) (covers_bad disk capacity base d.batches before) d.why

-- a lawful list is not damaged

pub lawful_few : (capacity : ℕ) (held : List Record) → IsLawful capacity held → length held ≤ capacity
lawful_few capacity [] lawful = omega arith
lawful_few capacity (x ∷ held) lawful = has_room capacity held x lawful.0

pub lawful_undamaged : {capacity at : ℕ} {base : Option Base} {before : List Record} {disk : List ℕ} {limit : ℕ} {held : List Record} → IsDamagedAt capacity at base before disk → Holds disk limit held → IsLawful limit held → ⊥
lawful_undamaged {capacity} {at} {disk = disk} {limit = limit} {held = held} (inl none) holds lawful = held_unreadable disk limit held capacity at holds (lawful_few limit held lawful) none.unreadable
lawful_undamaged {capacity} {at} {base} {before} {disk} {limit} {held} (inr d) holds lawful =
    ⊎_elim (λ form. led_undamaged holds d.leads form.damaged) by d.why
  where
    by : HasBadRecord capacity base d.batches before disk → ⊥
    by bad =
        let l = led holds bad.leads in
        let same : held ≡ (l.more ++ records_of (with_bad disk capacity base d.batches before bad ++ [])) ++ l.before =
        l.whole ∙ sym (append_assoc l.more (records_of (with_bad disk capacity base d.batches before bad)) l.before)
        ∙ ap (λ b. (l.more ++ records_of b) ++ l.before) (sym (append-nil (with_bad disk capacity base d.batches before bad))) in
        not_lawful disk capacity base d.batches before bad [] l.more
        (lawful_behind capacity base _ l.before l.passed (subst (IsLawful capacity) same (subst (λ n. IsLawful n held) (sym (led_capacity holds bad.leads)) lawful)))

-- the records before a damage begin with those of its batches
before_all : {capacity at : ℕ} {base : Option Base} {before : List Record} {disk : List ℕ} (d : HasBadBatch capacity at base before disk) → (extra : List Record) × (before ≡ extra ++ records_of d.batches)
before_all d =
    ⊎_elim (λ form. ([], form.same)) (λ bad. (reverse bad.good, bad.same)) d.why

-- no damage stands behind another
none_behind : (capacity at at' : ℕ) (base : Option Base) (before before' : List Record) (disk : List ℕ) (d : HasBadBatch capacity at base before disk) (e : HasBadBatch capacity at' base before' disk) → GoesOn d.batches e.batches d.rest e.rest
    → at ≡ at'
none_behind capacity at at' base before before' disk d e on = one_gate d.leads e.leads (by d.why) where
  by : HasBadForm d.batches before d.rest ⊎ HasBadRecord capacity base d.batches before disk → d.rest ≡ e.rest
  by (inl form) = (no_batch_follows on form.damaged.no_batch).1
  by (inr bad) = ⊎_elim (λ next. absurd (inside next.later next.same)) (λ next. shorter next.later next.same) (one_on bad.leads e.leads) where
    inside : (later : List (List Record)) → e.batches ≡ with_bad disk capacity base d.batches before bad ++ later → ⊥
    inside later is =
        let all = before_all e in
        not_lawful disk capacity base d.batches before bad later all.0
        (subst (λ r. IsLawfulAfter (origin_of base) capacity r) (all.1 ∙ ap (λ l. all.0 ++ records_of l) is) e.lawful)

    shorter : (later : List (List Record)) → with_bad disk capacity base d.batches before bad ≡ e.batches ++ later → d.rest ≡ e.rest
    shorter [] is = absurd (inside [] (sym (append-nil e.batches) ∙ sym is ∙ sym (append-nil _)))
    shorter (b ∷ later) is =
        let sizes = ap length is in
        let none : on.later ≡ [] = nil_from_length on.later
        (omega (arith, sizes, length-append d.batches ((bad.good ++ bad.bad ∷ bad.later) ∷ []), length-append e.batches (b ∷ later), ap length on.same, length-append d.batches on.later)) in
        (ends_there on none).1

-- a disk is damaged at one offset
pub one_damage : {capacity capacity' at at' : ℕ} {base base' : Option Base} {before before' : List Record} {disk : List ℕ} → IsDamagedAt capacity at base before disk → IsDamagedAt capacity' at' base' before' disk → at ≡ at'
one_damage {capacity} {capacity'} {at} {at'} {disk = disk} (inl none) (inl other) = (one_start.one disk capacity at capacity' at' none.unreadable other.unreadable).1
one_damage (inl none) (inr other) = absurd (unreadable_led none.unreadable other.leads)
one_damage (inr d) (inl other) = absurd (unreadable_led other.unreadable d.leads)
one_damage {capacity} {capacity'} {at} {at'} {base} {base'} {before} {before'} {disk} (inr d) (inr other) =
    let same = one_start.base disk _ _ _ _ _ _ _ _ _ _ other.leads d.leads in
    let e : HasBadBatch capacity at' base before' disk = subst (λ b. HasBadBatch capacity at' b before' disk) same.1 (subst (λ l. HasBadBatch l at' base' before' disk) same.0 other) in
    ⊎_elim (none_behind capacity at at' base before before' disk d e) (λ on. sym (none_behind capacity at' at base before' before disk e d on)) (one_on d.leads e.leads)

-- a disk that was read to its end has a header and no damage

pub read_headed : {disk : List ℕ} → IsReadThrough disk → HasNoHeader disk → ⊥
read_headed read none = headed read.leads.walk.walked.header none

pub read_undamaged : {capacity at : ℕ} {base : Option Base} {before : List Record} {disk : List ℕ} → IsDamagedAt capacity at base before disk → IsReadThrough disk → ⊥
read_undamaged (inl none) read = unreadable_led none.unreadable read.leads
read_undamaged {capacity} {at} {base} {before} {disk} (inr d) read = ⊎_elim by_form by_record d.why where
  same : (read.capacity ≡ capacity) × (read.base ≡ base)
  same = one_start.base disk _ _ _ _ _ _ _ _ _ _ read.leads d.leads

  leads : LeadsTo capacity read.gate base read.batches disk (0 ∷ read.rest)
  leads = rw (same.0, same.1) at read.leads

  by_form : HasBadForm d.batches before d.rest → ⊥
  by_form form =
      ⊎_elim (λ on. form.damaged.not_closed read.rest (no_batch_follows on form.damaged.no_batch).1) (λ on. form.damaged.not_closed read.rest (sym (no_batch_follows on (closed_gate read.rest)).1)) (one_on d.leads leads)

  by_record : HasBadRecord capacity base d.batches before disk → ⊥
  by_record bad = not_read disk capacity base d.batches before bad leads [] (rw (same.0, same.1) at read.lawful)
