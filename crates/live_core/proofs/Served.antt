-- What a session did, whatever ended it.
use Rattle.std.proofs.Common.{◌≡◌, ◌≢◌, inl, inr, ⊎_elim, ℕ, List, [], ◌++◌, length, take, drop, refl, sym, ap, subst, ◌∙◌, append_assoc, arith}
use Rattle.std.specs.Prelude.{Option, Some, min}
use Rattle.std.proofs.lemmas.List.{append-nil, take-append-drop}
use Rattle.host_core.specs.declared.status.Status.{Status}
use Rattle.host_core.specs.declared.status.Status.TheVariants.{Damaged, NoJournal, NoMemory}
use Rattle.host_core.specs.Outside.{Outside, Agrees, MayLeave, Elapses, Ends, IsSettled, Continues}
use Rattle.host_core.proofs.Moments.{widened, goes_on, ended, returned, further}
use Rattle.host_core.specs.Frames.{OnlyReadsDisk}
use Rattle.host_core.proofs.Causes.{faultless}
use Rattle.wire_in.specs.declared.base.Base.{Base}
use Rattle.wire_in.specs.declared.record.Record.{Record}
use Rattle.wire_in.specs.Cutting.{bodies_of}
use Rattle.journal_core.specs.Layout.{Holds}
use Rattle.journal_core.specs.Extended.{Extends}
use Rattle.engine_core.proofs.Reading.{held_all, up_to}
use Rattle.journal_core.specs.Journal.{JournalState, IsAtRest}
use Rattle.journal_core.specs.Walk.{HasNoHeader}
use Rattle.journal_core.proofs.OneList.{alone}
use Rattle.journal_core.proofs.Readable.{readable}
use Rattle.stream_core.specs.Taking.{ReadsAtMost}
use Rattle.engine_core.specs.Ends.{Told}
use Rattle.stream_core.specs.Pending.{SentPrefix}
use Rattle.engine_core.specs.Serving.{Reads, Leaves}
use Rattle.engine_core.specs.Sessions.{expected}
use Rattle.engine_core.proofs.Asking.{no_ask, more_asks}
use Rattle.engine_core.proofs.Expecting.{keeping_further, safe_of, safe_more, safe_further, added, expected-more}
use Rattle.stream_core.proofs.Pending.{prefix_sent}
use Rattle.stream_core.proofs.Taken.{takes_none, takes_between}
use Rattle.engine_core.specs.Sessions as engine
use Rattle.engine_core.proofs.Unwritten.{still_nothing}
use Rattle.journal_core.proofs.Extending.{extends_same, extends_on, grown_small}
use Rattle.live_core.specs.declared.start.Serving.{Serving}
use Rattle.live_core.specs.Safe.{Begin, Begins, start_of, IsSafe, IsSafeOrPending}
use Rattle.recovery_core.specs.Damage.{IsDamagedAt, StopsAtDamage}
use Rattle.recovery_core.specs.Ends.{TellsDamage, TellsNoStart}
use Rattle.live_core.specs.Ends.{Answered, IsKept, IsUnserved}
use Rattle.live_core.specs.Written.{HasGrown}
use Rattle.live_core.specs.Served.{Served}
use Rattle.live_core.specs.InternalKeeping.{Regains, held_now}
use Rattle.recovery_core.specs.Origins.{again}
use Rattle.recovery_core.specs.Recoveries.{IsReadThrough, Hinders}
use Rattle.live_core.specs.InternalServing.{IsHindered, IsRestored, IsUnread, Serves, IsAnswered}
use Rattle.recovery_core.proofs.Held.{damaged_headed, short_damaged, short_held}
use Rattle.recovery_core.proofs.OneDamage.{one_damage, lawful_undamaged, read_headed, read_undamaged}
use Rattle.live_core.proofs.Restoring.{one_disk, reads_only}

-- The stops.

-- what is allowed before the first frame is allowed for any
first_stops : (start : Outside) (begin : Begin) (bodies : List (List ℕ)) (image bytes : List ℕ) → IsSafeOrPending start begin [] image bytes → IsSafeOrPending start begin bodies image bytes
first_stops start begin bodies image bytes = ⊎_elim (λ safe. inl (safe_more _ (start_of begin) [] bodies image bytes safe)) (λ pending. inr pending)

-- where nothing was pending, each stop is safe
settle : {begin : Begin} {input : List ℕ} (start : Outside) → Begins begin input start → IsSettled start → (bodies : List (List ℕ)) (image bytes : List ℕ)
    → IsSafeOrPending start begin bodies image bytes → IsSafe begin bodies image bytes
settle start begins settled bodies image bytes (inl safe) = safe
settle {begin} start begins settled bodies image bytes (inr pending) =
    safe_of _ (start_of begin) [] bodies image bytes [] (expected (start_of begin) [])
    (rw (one_disk begins.disk_known (settled.only image pending.was)) at begins.holds)
    (λ content is. pending.unsent ∙ sym (append-nil begin.sent) ∙ one_disk refl is) refl

-- what was sent at a stop
part_of : (start : Outside) (begin : Begin) (bodies : List (List ℕ)) (image bytes : List ℕ) → IsSafeOrPending start begin bodies image bytes
    → SentPrefix (Some begin.sent) (Some bytes) (expected (start_of begin) bodies)
part_of start begin bodies image bytes (inl safe) =
    let first = take safe.count bodies in
    let more = added (start_of begin) first (drop safe.count bodies) in
    record {
      since = safe.since;
      unsent = safe.unsent ++ more;
      sent = ap (λ b. Some b) (safe.sent (begin.sent ++ safe.since) refl);
      prefix = sym (append_assoc safe.since safe.unsent more) ∙ ap (λ b. b ++ more) safe.prefix
          ∙ sym (expected-more (start_of begin) first (drop safe.count bodies)) ∙ ap (expected (start_of begin)) (take-append-drop safe.count bodies);
    }
part_of start begin bodies image bytes (inr pending) =
    record { since = []; unsent = expected (start_of begin) bodies; sent = ap (λ b. Some b) (pending.unsent ∙ sym (append-nil begin.sent)); prefix = refl }

-- The answers.

hinders_damage : (damaged : ℕ → Type 0) (missing starved : Type 0) (s : Status) (old new : Outside) (at : ℕ) → Hinders damaged missing starved s old new → ¬ missing → ((other : ℕ) → damaged other → other ≡ at)
    → TellsDamage at s
hinders_damage damaged missing starved s old new at why has offset = grind (arith, offset)

module _ (here : Type 0) (workers : ℕ) (from : Option ℕ) (batch most : ℕ) (status : Status) (old new : Outside)
    (sent_now : (image bytes : List ℕ) → new.leaves new.moment image bytes → Agrees new.sent bytes) (read_passes : (disk : List ℕ) → new.disk ≡ Some disk → MayLeave new disk)
    (stops_now : (sent : List ℕ) → new.sent ≡ Some sent → (image : List ℕ) × MayLeave new image) where
  -- A session, by its stops and its status, and by what it left where no session was served.
  module _ (serves : (begin : Begin) (input : List ℕ) → begin.from ≡ from → Begins begin input old → Serves here workers from batch begin input most status old new)
      (continues : Continues old new) (told : Told status old new)
      (unserved : IsUnserved status → IsUnread here workers from status old new) (unsound : (disk : List ℕ) → old.disk ≡ Some disk → ¬ IsReadThrough disk → IsUnread here workers from status old new) where
    module _ (begin : Begin) (input : List ℕ) (same : begin.from ≡ from) (begins : Begins begin input old) where
      ends_by : {stops : List ℕ → List ℕ → Type 0} → Elapses old new stops → Ends stops new
      ends_by run = returned run continues sent_now read_passes begins.disk begin.sent begins.disk_known begins.sent_known

      ends : Ends (IsSafeOrPending old begin (bodies_of (take most input))) new
      ends = ends_by (serves begin input same begins).moments

      part : SentPrefix old.sent new.sent (expected (start_of begin) (bodies_of (take most input)))
      part = rw (begins.sent_known, ends.sent_known) (part_of old begin (bodies_of (take most input)) ends.image ends.bytes ends.left)

    headless : (disk : List ℕ) → old.disk ≡ Some disk → HasNoHeader disk → TellsNoStart status × (status ≡ NoMemory → here) × OnlyReadsDisk old new
    headless disk known none = (unsound disk known (λ read. read_headed read none)).no_header disk known none

    damaged : {capacity at : ℕ} {base : Option Base} {before : List Record} {disk : List ℕ} → old.disk ≡ Some disk → IsDamagedAt capacity at base before disk → IsUnread here workers from status old new
    damaged {disk = disk} known damage = unsound disk known (λ read. read_undamaged damage read)

    damage_part : (capacity at : ℕ) (base : Option Base) (before : List Record) (disk : List ℕ) → old.disk ≡ Some disk → IsDamagedAt capacity at base before disk → SentPrefix old.sent new.sent (again from base before)
    damage_part capacity at base before disk known damage = prefix_sent old old.sent new.sent (again from base before) continues.sent (λ sent is.
        let now = stops_now sent is in
        (now.0, rw (sent_now now.0 now.1.bytes now.1.left sent is) at (ended ((damaged known damage).damage_moments capacity at base before disk known damage) now.1)))

    -- why there was no session
    why : (s : Status) → status ≡ s → IsUnserved s → IsHindered here workers from s old new
    why s is un = rw is at (unserved (rw is un)).hinders

    stops : (at : ℕ) → status ≡ Damaged at → (disk : List ℕ) → old.disk ≡ Some disk → StopsAtDamage from old.sent at disk new
    stops at is disk known =
        let damage = (why (Damaged at) is tt).1 disk known in
        record { capacity = damage.0; base = damage.1; before = damage.2; damaged = damage.3; part = damage_part damage.0 at damage.1 damage.2 disk known damage.3 }

    undamaged : (begin : Begin) (input : List ℕ) → Begins begin input old → (at : ℕ) → status ≢ Damaged at
    undamaged begin input begins at is = lawful_undamaged (stops at is begins.disk begins.disk_known).damaged begins.holds begins.lawful

    pub served : Extends batch old new → ReadsAtMost most old.input new.input → Served here workers from batch most status old new
    served extends bytes = record {
      moments = λ begin input same begins. (serves begin input same begins).moments;
      settled = λ begin input same begins settled. widened (serves begin input same begins).moments _ (settle old begins settled (bodies_of (take most input)));
      at_return = ends;
      exact = λ begin input same begins. (serves begin input same begins).exact;
      unread = λ begin input same begins. (serves begin input same begins).unread;
      part = part;
      prompt = λ begin input same begins. (serves begin input same begins).prompt;
      starved = λ begin input same begins. (serves begin input same begins).starved begins.disk begins.disk_known begins.holds;
      no_journal = λ is. (why NoJournal is tt).1.1;
      no_header = λ disk known none. ⊎_elim (λ told. told) (λ there. absurd (damaged_headed (stops there.0 there.1 disk known).damaged none)) (headless disk known none).0;
      no_header_starved = λ disk known none. (headless disk known none).1;
      unsent = λ is. (why NoJournal is tt).1.0.sent;
      left_alone = λ disk known none.
          let reads = (headless disk known none).2 in
          record { input = reads.input; sent = reads.sent; disk = reads.disk };
      damaged = stops;
      undamaged = undamaged;
      damage_is_told = λ capacity at base before disk known damage has.
          hinders_damage _ _ _ status old new at (damaged known damage).hinders (λ missing. has (missing.1 disk known))
          (λ other there. one_damage (there disk known).3 damage);
      damage_is_left = λ capacity at base before disk known damage. (damaged known damage).keeps.disk;
      damage_is_unserved = λ capacity at base before disk known damage. (damaged known damage).keeps.input;
      damage_part = damage_part;
      damage_moments = λ capacity at base before disk known damage. (damaged known damage).damage_moments capacity at base before disk known damage;
      damage_starved = λ capacity at base before disk known damage is.
          ⊎_elim (λ now. inl now) (λ hungry. inr (short_damaged from new damage (hungry disk known))) (rw is at (damaged known damage).hinders).1;
      untouched = λ un. (unserved un).keeps.disk;
      input_is_left = λ un. (unserved un).keeps.input;
      written = record {
        extends = extends;
        unwritten = λ begin input same begins. (serves begin input same begins).unwritten;
        headless = λ disk known none. reads_only (headless disk known none).2;
        stops = λ begin input same begins. (serves begin input same begins).stops;
        at_return = λ begin input same begins. ends_by begin input same begins (serves begin input same begins).stops;
      };
      bytes = bytes;
      complete = λ begin input begins memory no_reads no_sends no_disks.
          let journal : status ≢ NoJournal = λ is. readable.header begins.disk begin.capacity begin.held begins.holds ((why NoJournal is tt).1.1 begins.disk begins.disk_known) in
          grind (arith, told, journal, undamaged begin input begins, memory, no_reads, no_sends, no_disks);
      read_cause = λ is. rw is at told;
      send_cause = λ is. rw is at told;
      disk_cause = λ is. rw is at told;
      memory = λ is. rw is at told;
      kind = grind (arith, told);
      continues = continues;
    }

  -- A session that did not begin.
  pub unread_served : IsUnread here workers from status old new → Served here workers from batch most status old new
  unread_served u =
      served (λ begin input same begins. record {
        moments = widened (u.moments begin input same begins) _ (first_stops old begin (bodies_of (take most input)));
        exact = λ end. absurd (grind (arith, u.hinders));
        unread = λ is. absurd (rw is at u.hinders);
        prompt = no_ask (start_of begin) input u.keeps.asks;
        starved = λ disk known holds is. ⊎_elim (λ now. inl now) (λ hungry. inr (⊎_elim (λ base. inl base) (λ behind. inr (inl behind)) (short_held new holds (hungry disk known))))
            (rw is at u.hinders).1;
        unwritten = λ none. u.nothing begin input same begins;
        stops = widened (u.nothing begin input same begins).moments _ (λ image bytes left. inl left);
      })
      u.keeps.continues (grind (arith, u.hinders)) (λ un. u) (λ disk known un. u) (extends_same u.keeps.disk u.keeps.continues.storing)
      (takes_none most old.input new.input u.keeps.input)

  -- A session that answered.
  module _ {mid : Outside} (serving : Serving) (journal : JournalState) (r : IsRestored from serving old mid) (frames : serving.session.round.most ≡ batch)
      (by_rounds : IsAnswered serving.session.round.most most serving.keeper.journal journal serving.session status mid new) where
    -- by batches of as many frames as were asked for
    a : IsAnswered batch most serving.keeper.journal journal serving.session status mid new
    a = subst (λ n. IsAnswered n most serving.keeper.journal journal serving.session status mid new) frames by_rounds

    module _ (begin : Begin) (input : List ℕ) (same : begin.from ≡ from) (begins : Begins begin input old) where
      reads : Reads (IsAtRest serving.keeper.journal) (start_of begin) input 0 serving.session mid
      reads = r.reads begin input same begins

      run : Elapses mid new (IsSafe begin (bodies_of (take most input)))
      run =
          widened (a.grows (start_of begin) input refl reads) _
          (safe_further _ (start_of begin) (up_to most most input (omega arith)) (λ records image. Holds image begin.capacity records)
          (λ records image k. subst (λ c. Holds image c records) (r.capacity begin input same begins) (record { gate = k.recovered.grown.next; held = k.recovered.grown.holds })))

      -- the last stop shows what capacity the journal has
      kept : {records : List Record} → IsAtRest journal records new → IsKept begin.capacity records new
      kept {records} rest = record {
        settled = rest.settled;
        holds = λ disk known.
            let now = held_now journal records new disk rest (read_passes disk known) in
            rw (alone.records disk journal.capacity begin.capacity records _ now (ended run (read_passes disk known)).recovered).0 at now;
      }

      -- what grew from an image of the restored session grew from one of the start
      has_grown : {image bytes : List ℕ} → Leaves batch (λ records pending image. Regains serving.keeper.journal mid records pending image) (start_of begin) (bodies_of (take most input)) image bytes
          → HasGrown batch begin (bodies_of (take most input)) old image
      has_grown {image} safe =
          let rest = held_all reads r.empty in
          let k = safe.recovered in
          let g = k.recovered in
          record {
            before = g.before;
            was = ended (r.nothing begin input same begins).moments g.was;
            gate = serving.keeper.journal.gate;
            held = rw (r.capacity begin input same begins) at (rest.keeps g.before (rest.settled.only g.before g.was)).held;
            count = safe.count;
            within = safe.within;
            grown = keeping_further (up_to most most input (omega arith)) k (rw (r.capacity begin input same begins) at (grown_small batch k.small g.grown));
          }

      all_answered : (count : ℕ) → engine.Answered (IsAtRest journal) (start_of begin) input count new → Answered begin input count new
      all_answered count answered = record { input_left = answered.input_left; there = answered.there; sent = answered.sent; held = kept answered.held }

      serves : Serves here workers from batch begin input most status old new
      serves = record {
        moments = goes_on (widened (r.moments begin input same begins) (IsSafeOrPending old begin (bodies_of (take most input))) (first_stops old begin (bodies_of (take most input)))) run (λ image bytes safe. inl safe);
        exact = λ end.
            let all = a.exact (start_of begin) input refl reads end in
            (all.0, all_answered (min most (length input)) all.1);
        unread = λ is.
            let all = a.unread (start_of begin) input refl reads is in
            (all.0, all.1, all_answered all.0 all.2);
        prompt = more_asks (start_of begin) input (no_ask (start_of begin) input r.keeps.asks) (a.prompt (start_of begin) input refl reads);
        starved = λ disk known holds is. inr (inr (inr (a.starved (start_of begin) input refl reads is)));
        unwritten = λ none. still_nothing (r.nothing begin input same begins) (a.nothing (start_of begin) input refl reads none);
        stops = goes_on (widened (r.nothing begin input same begins).moments _ (λ image bytes left. inl left)) (a.grows (start_of begin) input refl reads) (λ image bytes safe. inr (has_grown safe));
      }

    pub answered_served : Served here workers from batch most status old new
    answered_served =
        served serves (further r.keeps.continues a.continues) (grind (arith, faultless, r.none, a.told)) (λ un. absurd (a.served un)) (λ disk known un. absurd (un (r.sound disk known)))
        (extends_on batch old mid new (extends_same r.keeps.disk r.keeps.continues.storing) a.extends) (takes_between most old.input mid.input new.input new.input r.keeps.input refl a.bytes)
