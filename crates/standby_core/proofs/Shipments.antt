-- The command that sends the records of a journal, from its parts.
use Rattle.std.proofs.Common.{◌≡◌, ◌⊎◌, inl, inr, ⊎_elim, ℕ, List, ◌∷◌, refl, sym, ap, subst, ◌∙◌, arith}
use Rattle.std.specs.Prelude.{Option, Some}
use Rattle.std.specs.Io.KnownBytes.{append_known}
use Rattle.host_core.specs.declared.status.Status.{Status}
use Rattle.host_core.specs.declared.status.Status.TheVariants.{Done, SendFault, DiskFault, Damaged, NoJournal, NoMemory}
use Rattle.host_core.specs.Outside.{Outside, Agrees, MayLeave, Elapses}
use Rattle.host_core.proofs.Moments.{ended}
use Rattle.wire_in.specs.declared.base.Base.{Base}
use Rattle.wire_in.specs.declared.record.Record.{Record}
use Rattle.journal_core.specs.Layout.{records_of}
use Rattle.journal_core.specs.Scan.{records_before}
use Rattle.journal_core.specs.Walk.{HasBase, HasNoHeader}
use Rattle.journal_core.proofs.Readable.{led}
use Rattle.stream_core.specs.Pending.{SendsPrefix, SentPrefix}
use Rattle.stream_core.proofs.Pending.{prefix_sent}
use Rattle.recovery_core.specs.Damage.{IsDamagedAt}
use Rattle.recovery_core.specs.Ends.{TellsDamage}
use Rattle.recovery_core.specs.Held.{IsHeld}
use Rattle.recovery_core.specs.Origins.{IsReadFrom}
use Rattle.recovery_core.specs.Recoveries.{HasDamage, Hinders, OnlyRecovers}
use Rattle.recovery_core.proofs.Held.{one_base}
use Rattle.recovery_core.proofs.OneDamage.{IsBehind, behind_held, lawful_undamaged, one_damage, read_headed, read_undamaged}
use Rattle.recovery_core.proofs.Recovering.{why_at}
use Rattle.standby_core.specs.Shipped.{IsShipment, Shipped, parts_behind, shipped}
use Rattle.standby_core.specs.Shipping.{IsShipped, IsUnshipped, Ships}
use Rattle.standby_core.proofs.PartTexts.{shipped_whole}

-- what of a list that the disk holds stands behind its last base
module _ {capacity : ℕ} {base : Option Base} {held : List Record} {now : Outside} (h : IsHeld capacity held now) (last : IsReadFrom base h.disk) where
  behind : IsBehind held base h.disk
  behind = behind_held h.holds last.leads

  asked_for : (from : ℕ) → parts_behind (records_before base) from behind.later ≡ shipped from base held
  asked_for from = sym (shipped_whole from base behind.later behind.before behind.passed) ∙ ap (λ (l : List Record). shipped from base l) (sym behind.whole)

-- whenever it is stopped
held_run : (from : ℕ) {old new : Outside} → ((base : Option Base) (disk : List ℕ) → old.disk ≡ Some disk → IsReadFrom base disk → Ships from base old.sent disk old new)
    → {capacity : ℕ} {base : Option Base} {held : List Record} (h : IsHeld capacity held old) → IsReadFrom base h.disk → Elapses old new (SendsPrefix old.sent (shipped from base held) old)
held_run from {old} {new} moments {base = base} h last =
    subst (λ (t : List ℕ). Elapses old new (SendsPrefix old.sent t old)) (asked_for h last from) (moments base h.disk h.known last (behind h last).later (behind h last).covers)

module _ (here : Type 0) (from : ℕ) (status : Status) (old new : Outside) (sent_now : (image bytes : List ℕ) → new.leaves new.moment image bytes → Agrees new.sent bytes)
    (stops_now : (sent : List ℕ) → new.sent ≡ Some sent → (image : List ℕ) × MayLeave new image) (keeps : OnlyRecovers old new) where
  -- what was sent at the end is a prefix of what may be sent at each stop
  part_of_run : (text : List ℕ) → Elapses old new (SendsPrefix old.sent text old) → SentPrefix old.sent new.sent text
  part_of_run text run = prefix_sent old old.sent new.sent text keeps.continues.sent (λ sent is.
      let now = stops_now sent is in (
        now.0,
        subst (λ bytes. SendsPrefix old.sent text old now.0 bytes) (sent_now now.0 now.1.bytes now.1.left sent is) (ended run now.1),
      ))

  kind_by : (damaged : ℕ → Type 0) (missing starved : Type 0) (s : Status) → Hinders damaged missing starved s old new → IsShipment s
  kind_by damaged missing starved s why = grind arith

  -- the journal was not read to its end, or not all was sent
  pub part_shipped : IsUnshipped here from status old new → Shipped here from status old new
  part_shipped u = record {
    exact = λ capacity held h base last is. absurd (at Done is);
    sound = λ disk known is. absurd (at Done is);
    moments = λ capacity held h base last. held_run from u.moments h last;
    part = λ capacity held h base last. part_of_run (shipped from base held) (held_run from u.moments h last);
    short = λ disk known is. ⊎_elim (λ now. inl now) (λ has. inr (record { base = has disk known; unsent = u.starved is })) (at NoMemory is).1;
    starved = u.starved;
    no_journal = λ is. (at NoJournal is).1;
    no_header = u.no_header;
    no_header_starved = u.no_header_starved;
    unsent = u.unsent;
    damaged = λ offset is. (at (Damaged offset) is).1;
    undamaged = λ capacity held h offset is. lawful_undamaged ((at (Damaged offset) is).1 h.disk h.known).3 h.holds h.lawful;
    damage_is_told = λ capacity offset base before disk known damage has. tells disk known damage has status u.hinders;
    damage_moments = u.damage_moments;
    damage_part = λ capacity offset base before disk known damage. part_of_run _ (u.damage_moments capacity offset base before disk known damage);
    disk = keeps.disk;
    input = keeps.input;
    asks = keeps.asks;
    send_cause = at SendFault;
    disk_cause = at DiskFault;
    memory = λ is. (at NoMemory is).0;
    kind = kind_by _ _ _ status u.hinders;
    continues = keeps.continues;
  }
    where
      at : (s : Status) → status ≡ s → Hinders (λ at. (disk : List ℕ) → old.disk ≡ Some disk → HasDamage at disk) ((disk : List ℕ) → old.disk ≡ Some disk → HasNoHeader disk)
          (here ⊎ ((disk : List ℕ) → old.disk ≡ Some disk → HasBase disk)) s old new
      at s is = why_at _ _ _ old new s is u.hinders

      tells : {capacity offset : ℕ} {base : Option Base} {before : List Record} (disk : List ℕ) → old.disk ≡ Some disk → IsDamagedAt capacity offset base before disk → ¬ HasNoHeader disk
          → (s : Status) → Hinders (λ at. (disk : List ℕ) → old.disk ≡ Some disk → HasDamage at disk) ((disk : List ℕ) → old.disk ≡ Some disk → HasNoHeader disk)
          (here ⊎ ((disk : List ℕ) → old.disk ≡ Some disk → HasBase disk)) s old new → TellsDamage offset s
      tells disk known damage has (Damaged other) why = inl (ap (λ k. Damaged k) (one_damage (why.1 disk known).3 damage))
      tells disk known damage has NoJournal why = absurd (has (why.1 disk known))
      tells disk known damage has s why = grind arith

  -- all was sent
  pub all_shipped : status ≡ Done → IsShipped from old new → Shipped here from status old new
  all_shipped done i = record {
    exact = λ capacity held h base last is. exactly h last;
    sound = λ disk known is. i.sound disk known;
    moments = λ capacity held h base last. held_run from i.moments h last;
    part = λ capacity held h base last. part_of_run (shipped from base held) (held_run from i.moments h last);
    short = λ disk known is. absurd (not (sym done ∙ is));
    starved = λ is. absurd (not (sym done ∙ is));
    no_journal = λ is. absurd cc;
    no_header = λ disk known missing. absurd (read_headed (i.sound disk known).through missing);
    no_header_starved = λ disk known missing is. absurd (read_headed (i.sound disk known).through missing);
    unsent = λ is. absurd cc;
    damaged = λ offset is. absurd cc;
    undamaged = λ capacity held h offset is. cc;
    damage_is_told = λ capacity offset base before disk known damage has. absurd (read_undamaged damage (i.sound disk known).through);
    damage_moments = λ capacity offset base before disk known damage. absurd (read_undamaged damage (i.sound disk known).through);
    damage_part = λ capacity offset base before disk known damage. absurd (read_undamaged damage (i.sound disk known).through);
    disk = keeps.disk;
    input = keeps.input;
    asks = keeps.asks;
    send_cause = λ is. absurd cc;
    disk_cause = λ is. absurd cc;
    memory = λ is. absurd cc;
    kind = subst IsShipment (sym done) tt;
    continues = keeps.continues;
  }
    where
      not : Done ≡ NoMemory → ⊥
      not is = cc

      exactly : {capacity : ℕ} {base : Option Base} {held : List Record} (h : IsHeld capacity held old) → IsReadFrom base h.disk → new.sent ≡ append_known old.sent (shipped from base held)
      exactly {base = base} {held = held} h last =
          let done = i.sound h.disk h.known in
          let t = done.through in
          let l = led h.holds t.leads in
          let same : t.base ≡ base = one_base (record { capacity = t.capacity; gate = t.gate; batches = t.batches; rest = 0 ∷ t.rest; leads = t.leads }) last in
          let text : parts_behind (records_before t.base) from (records_of t.batches) ≡ shipped from base held =
          sym (shipped_whole from t.base (records_of t.batches) l.before l.passed) ∙ (λ i. shipped from (same i) (sym (l.all t.rest refl) i)) in
          done.sent ∙ ap (append_known old.sent) text
