-- A journal that is read batch by batch.
use Rattle.std.proofs.Common.{◌≡◌, ◌≢◌, inl, inr, ℕ, suc, ◌+◌, ◌-◌, ◌<◌, List, [], ◌∷◌, ◌++◌, length, map, get_or, take, drop, true, true≢false, None, refl, sym, ap, subst, ◌∙◌, append_assoc, arith, rules}
use Rattle.std.specs.Prelude.{◌≤◌, Option, Some, Result, Ok, Err, IfErr, IfOk, IsOk, OnOk, reverse, slice_get}
use Rattle.std.specs.Result.{IsErrAnd}
use Rattle.std.specs.Io.KnownBytes.{append_known}
use Rattle.std.proofs.lemmas.List.{append-nil, take_more}
use Rattle.host_core.specs.declared.status.Status.{Status}
use Rattle.host_core.specs.declared.status.Status.TheVariants.{SendFault}
use Rattle.host_core.specs.declared.fault.Fault.{Fault}
use Rattle.host_core.specs.declared.fault.Fault.TheVariants as fault
use Rattle.host_core.specs.Faults.{HasCause, status_of}
use Rattle.host_core.specs.Outside.{Outside, Elapses, Rose, NoFault}
use Rattle.host_core.specs.Frames.{OnlyReadsDisk, OnlySends}
use Rattle.host_core.proofs.Moments.{widened, further}
use Rattle.host_core.proofs.Chains.{still_settled, reads_faultless}
use Rattle.host_core.proofs.Causes.{faultless}
use Rattle.host_core.proofs.Known.{append_known-nil}
use Rattle.price_core.specs.declared.error.NoMemory.{NoMemory}
use Rattle.wire_in.specs.Bases.{IsInRange}
use Rattle.wire_in.specs.declared.base.Base.{Base}
use Rattle.wire_in.specs.declared.record.Record.{Record}
use Rattle.wire_in.specs.declared.record.Refusal.{Refusal}
use Rattle.journal_core.specs.declared.error.ScanError.{ScanError}
use Rattle.journal_core.specs.declared.error.ScanError.TheVariants as scan
use Rattle.journal_core.specs.Formatted.{scan_status}
use Rattle.journal_core.specs.declared.mark.Mark.{Mark}
use Rattle.journal_core.specs.Layout.{Block, mark_of, records_of, with_batch}
use Rattle.journal_core.specs.AtGate.{IsDamaged}
use Rattle.journal_core.specs.Scan.{ScanState, HasRead, LeadsTo, records_before}
use Rattle.journal_core.specs.Walk.{HasBase, IsWalkedThrough}
use Rattle.journal_core.proofs.Batches.{records_more}
use Rattle.journal_core.proofs.Starts.{led_from}
use Rattle.rulebook.specs.Admission.{IsLawful, verdict_at}
use Rattle.rulebook.specs.Base.{IsLawfulAfter, base_of, stand_in, verdict_after}
use Rattle.wire_out.specs.declared.message.Frame.TheVariants.{Hello}
use Rattle.wire_out.specs.Spelling.{spelling}
use Rattle.shard_core.specs.Block.{AreAdmissible}
use Rattle.evaluator_core.specs.Evaluating.{IsAhead, IsIdle, IsWorking}
use Rattle.stream_core.specs.Pending.{Expects, SendsPrefix}
use Rattle.stream_core.proofs.Pending.{expects_still}
use Rattle.stream_core.proofs.Sending.{waits, sends_on, sends_longer}
use Rattle.engine_core.specs.declared.engine.Engine.{Engine}
use Rattle.engine_core.specs.EngineState.{Represents, Stands, IsRoomy}
use Rattle.market_core.specs.AdmissionState as admission
use Rattle.recovery_core.specs.Waiting.{WaitingState}
use Rattle.recovery_core.specs.declared.recovery.Recovery.{Recovery}
use Rattle.recovery_core.specs.Origins.{IsPast, again, newest_of, opening, origin_of}
use Rattle.recovery_core.specs.Recoveries.{Admits, IsBefore, Refuses, Resumes, IsPart, Covers, SendsAgain, StarvesAgain, IsReading, IsSmall, Rests, Recovers, Gathers, OnlyRecovers, Hinders}
use Rattle.recovery_core.specs.Damage.{HasBadBatch}
use Rattle.recovery_core.specs.Ends.{TellsNoStart}
use Rattle.recovery_core.specs.Starved.{TakesFirst, StarvedAtRecord}
use Rattle.recovery_core.proofs.Behind.{admissible_behind, again_first, again_none, in_parts, own_past, with_more}

-- a run that sends what is asked for again of some records, and so far none of more
pub sends_part : {begin : Option (List ℕ)} (from : Option ℕ) (base : Option Base) {records all : List Record} → IsPart records all → {old new : Outside}
    → Elapses old new (SendsPrefix begin (again from base records) old) → Elapses old new (SendsPrefix begin (again from base all) old)
sends_part from base {records} {all} part run =
    let first = again_first (origin_of base) from part.more records in
    sends_longer (again from base records) first.0 (again from base all) (first.1 ∙ ap (λ r. again from base r) part.whole) run

-- a run that sends a prefix of a text, and then another
pub sends_then : {begin : Option (List ℕ)} {text : List ℕ} {old mid new : Outside} → Elapses old mid (SendsPrefix begin text old)
    → Elapses mid new (SendsPrefix begin text mid) → Elapses old new (SendsPrefix begin text old)
sends_then {text = text} first second = sends_on first text [] (append-nil text) second

pub sends_rests : {disk : List ℕ} {now new : Outside} → OnlySends now new → Rests disk now → Rests disk new
sends_rests sends rests = record { known = sends.disk ∙ rests.known; settled = record { only = λ image left. sends.disk ∙ rests.settled.only image (sends.left image left) } }

-- the verdict of admission is that behind the base
pub judges : {capacity : ℕ} {base : Option Base} {accepted evaluated : List Record} {engine : Engine} → Admits capacity base accepted evaluated engine → (x : Record) {verdict : Option Refusal}
    → ((admitted : List Record) → admission.Stands engine.admission admitted → verdict ≡ verdict_at engine.admission.capacity engine.admission.count admitted x) → verdict ≡ verdict_after (origin_of base) capacity accepted x
judges {capacity} {base} {accepted} {evaluated} {engine} a x exact =
    let own = a.stands (origin_of base).list (own_past base) in
    exact (accepted ++ (origin_of base).list) own.admission ∙ (λ i. verdict_at (own.within i) (a.count i) (accepted ++ (origin_of base).list) x)

-- an engine that another capacity was put into
pub limited : {engine : Engine} {capacity : ℕ} {accepted evaluated : List Record} (limit : ℕ) (next : Engine) → next ≡ record engine { admission = record engine.admission { capacity = limit } }
    → Stands engine capacity accepted evaluated → Stands next limit accepted evaluated
limited {accepted = accepted} {evaluated = evaluated} limit next is r =
    subst (λ e. Stands e limit accepted evaluated) (sym is) (search rules)

-- an engine of no records, where the journal has no base
pub admits_none : {engine : Engine} {capacity : ℕ} {base : Option Base} → base ≡ None → Stands engine capacity [] [] → engine.admission.count ≡ 0 → engine.evaluated ≡ 0 → engine.published ≡ 0
    → Admits capacity base [] [] engine
admits_none {engine} {capacity} none stands count evaluated published =
    subst (λ (b : Option Base). Admits capacity b [] [] engine) (sym none)
    (record { stands = λ past is. subst (λ (p : List Record). Stands engine capacity p p) (sym is) stands; count = count; evaluated_is = evaluated; published = published; lawful = tt })

-- and one of whatever records have the base
pub admits_base : {engine : Engine} {capacity : ℕ} {base : Option Base} (b : Base) → base ≡ Some b → Stands engine capacity (stand_in b) (stand_in b)
    → ((limit : ℕ) (held : List Record) → base_of held ≡ Some b → IsLawful limit held → Represents engine capacity held held)
    → engine.admission.count ≡ b.records → engine.evaluated ≡ b.records → engine.published ≡ b.messages → Admits capacity base [] [] engine
admits_base {engine} {capacity} b some stands represents count evaluated published =
    subst (λ (b : Option Base). Admits capacity b [] [] engine) (sym some)
    (record { stands = may_stand; count = omega (arith, count); evaluated_is = omega (arith, evaluated); published = omega (arith, published); lawful = tt })
  where
    may_stand : (past : List Record) → IsPast (Some b) past → Stands engine capacity past past
    may_stand p (inl is) = subst (λ (q : List Record). Stands engine capacity q q) (sym is) stands
    may_stand p (inr (limit, lawful, is)) = (represents limit p is lawful).stands

-- the engine of what stands before a scan: of no records
pub fresh_before : (limit : ℕ) {capacity : ℕ} {base : Option Base} (fresh next : Engine) → limit ≡ capacity → limit ≤ 2000000000 → base ≡ None
    → next ≡ record fresh { admission = record fresh.admission { capacity = limit } } → Represents fresh 0 [] [] → IsBefore capacity base next
fresh_before limit {base = base} fresh next same most none is r =
    let count : next.admission.count ≡ 0 = ap (λ (e : Engine). e.admission.count) is ∙ r.count in
    let evaluated : next.evaluated ≡ 0 = ap (λ (e : Engine). e.evaluated) is ∙ r.evaluated_is in
    let published : next.published ≡ 0 = ap (λ (e : Engine). e.published) is ∙ r.published in
    let within : next.admission.capacity ≡ limit = ap (λ (e : Engine). e.admission.capacity) is in
    subst (λ (c : ℕ). IsBefore c base next) same (record {
      admits = admits_none none (limited limit next is r.stands) count evaluated published;
      limit = within;
      count = count ∙ sym (ap records_before none);
      all = evaluated ∙ sym count;
      small = record {
        range = omega (arith, most, within);
        within = omega (arith, count);
        evaluated = omega (arith, evaluated);
        few = omega (arith, published);
      };
    })

-- and that of a base
pub based_before : (limit : ℕ) {capacity : ℕ} {base : Option Base} (b : Base) (r : Result Engine NoMemory) → limit ≡ capacity → limit ≤ 2000000000 → base ≡ Some b → IsInRange b → b.records ≤ limit
    → IfOk r (λ engine. Stands engine limit (stand_in b) (stand_in b))
    → IfOk r (λ engine. (most : ℕ) (held : List Record) → base_of held ≡ Some b → IsLawful most held → Represents engine limit held held)
    → IfOk r (λ engine. engine.admission.count ≡ b.records) → IfOk r (λ engine. engine.evaluated ≡ b.records) → IfOk r (λ engine. engine.published ≡ b.messages) → IfOk r (IsBefore capacity base)
based_before limit {base = base} b (Ok engine) same most some range few stands represents count evaluated published =
    subst (λ (c : ℕ). IsBefore c base engine) same (record {
      admits = admits_base b some stands represents count evaluated published;
      limit = stands.within;
      count = count ∙ sym (ap records_before some);
      all = evaluated ∙ sym count;
      small = record {
        range = omega (arith, most, stands.within);
        within = omega (arith, count, few, stands.within);
        evaluated = omega (arith, count, evaluated);
        few = omega (arith, published, evaluated, range.messages_are);
      };
    })
based_before limit b (Err error) same most some range few stands represents count evaluated published = tt

-- want of memory among some records is want of memory among more
pub starved_further : {workers : ℕ} {again : List Record → List ℕ} {records all : List Record} {begin now : Option (List ℕ)} → IsPart records all → StarvedAtRecord workers again records begin now
    → StarvedAtRecord workers again all begin now
starved_further part hungry = record {
  before = hungry.before;
  behind = part.more ++ hungry.behind;
  parts = sym part.whole ∙ ap (λ (r : List Record). part.more ++ r) hungry.parts ∙ sym (append_assoc part.more hungry.behind hungry.before);
  short = record {
    x = hungry.short.x;
    later = part.more ++ hungry.short.later;
    parts = ap (λ (r : List Record). part.more ++ r) hungry.short.parts ∙ sym (append_assoc part.more hungry.short.later (hungry.short.x ∷ []));
    takes = hungry.short.takes;
  };
  sent = hungry.sent;
}

-- one record more of a batch
pub with_next : (held records : List Record) (count : ℕ) (x : Record) → count < length records → x ≡ get_or records count x → with_batch held (take (count + 1) records) ≡ x ∷ with_batch held (take count records)
with_next held records count x lt is =
    ap (λ (b : List Record). with_batch held b) (take_more records count x lt ∙ ap (λ (y : Record). take count records ++ y ∷ []) (sym is)) ∙ in_parts held (take count records) (x ∷ [])

-- the last record of a batch is the newest one
pub last_newest : (base : Option Base) (held batch : List Record) → 1 ≤ length batch → slice_get batch (length batch - 1) ≡ newest_of base (with_batch held batch)
last_newest base held [] some = absurd (omega (arith, some))
last_newest base held (x ∷ []) some =
    let first : length (x ∷ []) - 1 ≡ 0 = omega arith in
    ap (λ (k : ℕ). slice_get (x ∷ []) k) first
last_newest base held (x ∷ y ∷ later) some =
    let next : length (x ∷ y ∷ later) - 1 ≡ suc (length (y ∷ later) - 1) = omega arith in
    ap (λ (k : ℕ). slice_get (x ∷ y ∷ later) k) next ∙ last_newest base (x ∷ held) (y ∷ later) (omega arith) ∙ ap (newest_of base) (sym (with_more held x (y ∷ later)))

-- Some of the records that were accepted wait.
module _ {from : Option ℕ} {capacity : ℕ} {base : Option Base} {accepted waiting prepared : List Record} {begin : Option (List ℕ)} {engine : Engine} {outbox : List ℕ} {now : Outside}
    (r : Resumes from capacity base accepted waiting prepared begin engine outbox now) where
  -- they may follow what was evaluated, behind each list that may stand before them
  pub passes : (limit : ℕ) (past : List Record) → IsPast base past → length (r.held ++ past) + length waiting ≤ limit → AreAdmissible limit (r.held ++ past) waiting
  passes limit past is room = (admissible_behind capacity limit base past r.held waiting is (subst (IsLawfulAfter (origin_of base) capacity) (sym r.whole) r.admits.lawful) room).0

  -- while nothing is sent but what was pending
  pub sends_pending : {new : Outside} → ((begin : Option (List ℕ)) (text : List ℕ) → Expects begin now.sent outbox text → Elapses now new (SendsPrefix begin text now))
      → Elapses now new (SendsPrefix begin (again from base accepted) now)
  sends_pending run = sends_part from base (record { more = reverse waiting; whole = r.whole }) (run begin (again from base r.held) r.pending_is)

  -- memory is short for the first of them
  pub starved_now : {workers : ℕ} {sent : Option (List ℕ)} → TakesFirst workers (reverse waiting) → sent ≡ append_known begin (again from base r.held) → StarvedAtRecord workers (again from base) accepted begin sent
  starved_now first sent = record { before = r.held; behind = reverse waiting; parts = sym r.whole; short = first; sent = sent }

  -- they are evaluated ahead, and what is pending stays so
  pub resumes_ahead : {items list : List Record} → items ≡ waiting → list ≡ items → (next : Engine) → next ≡ record engine { evaluator = next.evaluator }
      → ((limit : ℕ) (accepted evaluated : List Record) → Stands engine capacity accepted evaluated → IsAhead engine.evaluator prepared → AreAdmissible limit evaluated items → Stands next capacity accepted evaluated)
      → (IsAhead engine.evaluator prepared → IsAhead next.evaluator items) → Resumes from capacity base accepted list list begin next outbox now
  resumes_ahead {items} {list} same is next rest stands ahead =
      subst (λ (xs : List Record). Resumes from capacity base accepted xs xs begin next outbox now) (sym (is ∙ same)) (record {
        held = r.held;
        whole = r.whole;
        admits = record {
          stands = λ past may.
              let limit = length (r.held ++ past) + length waiting in
              stands limit (accepted ++ past) (r.held ++ past) (r.admits.stands past may) r.ahead (subst (AreAdmissible limit (r.held ++ past)) (sym same) (passes limit past may (omega arith)));
          count = ap (λ (e : Engine). e.admission.count) rest ∙ r.admits.count;
          evaluated_is = ap (λ (e : Engine). e.evaluated) rest ∙ r.admits.evaluated_is;
          published = ap (λ (e : Engine). e.published) rest ∙ r.admits.published;
          lawful = r.admits.lawful;
        };
        ahead = subst (IsAhead next.evaluator) same (ahead r.ahead);
        pending_is = r.pending_is;
      })

-- The journal was read to its end, and is greeted for.
module _ (from : Option ℕ) {begin : Option (List ℕ)} {disk : List ℕ} {recovery : Recovery} {old : Outside} (r : Recovers (again from) begin disk recovery old) {new : Outside} where
  pub sends_greeting : ((begin : Option (List ℕ)) (text : List ℕ) → Expects begin old.sent recovery.outbox text → Elapses old new (SendsPrefix begin text old)) → SendsAgain from recovery.scan.base begin disk old new
  sends_greeting run all covers =
      sends_part from recovery.scan.base (covers _ _ _ _ _ r.read.leads (record { more = []; whole = refl }) r.admits.lawful) (run begin (again from recovery.scan.base (records_of r.batches)) r.pending_is)

  pub greeted : OnlySends old new → (outbox : List ℕ)
      → ((begin : Option (List ℕ)) (text : List ℕ) → Expects begin old.sent recovery.outbox text
      → Expects begin new.sent outbox (text ++ spelling (Hello recovery.engine.evaluated recovery.engine.published))) → Recovers (opening from) begin disk (record recovery { outbox = outbox }) new
  greeted sends outbox expects = record {
    rests = sends_rests sends r.rests;
    batches = r.batches;
    read = r.read;
    admits = r.admits;
    idle = r.idle;
    working = r.working;
    pending_is = rw (r.admits.evaluated_is, r.admits.published) at (expects begin _ r.pending_is);
    newest_is = r.newest_is;
  }

-- it goes on by one worker
pub alone : (from : Option ℕ) {begin : Option (List ℕ)} {disk : List ℕ} {recovery : Recovery} {now : Outside} → Recovers (again from) begin disk recovery now → (engine : Engine)
    → engine ≡ record recovery.engine { evaluator = engine.evaluator }
    → ((capacity : ℕ) (accepted evaluated : List Record) → Stands recovery.engine capacity accepted evaluated → IsIdle recovery.engine.evaluator → Stands engine capacity accepted evaluated)
    → (IsIdle recovery.engine.evaluator → IsIdle engine.evaluator) → IsWorking engine.evaluator → Recovers (again from) begin disk (record recovery { engine = engine }) now
alone from r engine rest stands idle working = record {
  rests = r.rests;
  batches = r.batches;
  read = r.read;
  admits = record {
    stands = λ past is. stands _ _ _ (r.admits.stands past is) r.idle;
    count = ap (λ (e : Engine). e.admission.count) rest ∙ r.admits.count;
    evaluated_is = ap (λ (e : Engine). e.evaluated) rest ∙ r.admits.evaluated_is;
    published = ap (λ (e : Engine). e.published) rest ∙ r.admits.published;
    lawful = r.admits.lawful;
  };
  idle = idle r.idle;
  working = working;
  pending_is = r.pending_is;
  newest_is = r.newest_is;
}

-- an engine that goes on by one worker is read into
pub reads_alone : {scan : ScanState} {engine : Engine} {known : Option (List ℕ)} (next : Engine) → next ≡ record engine { evaluator = next.evaluator }
    → (IsRoomy engine → IsRoomy next) → IsReading scan engine 0 known → IsReading scan next 0 known
reads_alone {scan} {engine} {known} next is roomy r = record {
  of_disk = r.of_disk;
  capacity = subst (λ (e : Engine). scan.capacity ≡ e.admission.capacity) (sym is) r.capacity;
  count = subst (λ (e : Engine). scan.count ≡ e.admission.count) (sym is) r.count;
  small = subst IsSmall (sym is) (record { range = r.small.range; within = r.small.within; evaluated = r.small.evaluated; few = r.small.few });
  all = subst (λ (e : Engine). e.admission.count ≡ e.evaluated + 0) (sym is) r.all;
  roomy = roomy r.roomy;
}

-- nothing waits yet
pub gathers_first : {from : Option ℕ} {begin : Option (List ℕ)} {disk : List ℕ} {recovery : Recovery} {now : Outside} {waiting : WaitingState} → Recovers (again from) begin disk recovery now
    → waiting ≡ record recovery.waiting { records = [] } → Gathers from begin disk (record recovery { waiting = waiting }) now
gathers_first {from} {begin} {disk} {recovery} {now} r none =
    subst (λ (w : WaitingState). Gathers from begin disk (record recovery { waiting = w }) now) (sym none)
    (record { rests = r.rests; batches = r.batches; read = r.read; resumes = record { held = records_of r.batches; whole = refl; admits = r.admits; ahead = r.idle; pending_is = r.pending_is }; working = r.working; newest_is = r.newest_is })

-- nothing waits any more
pub gathered : {from : Option ℕ} {begin : Option (List ℕ)} {disk : List ℕ} {recovery : Recovery} {now : Outside} → Gathers from begin disk recovery now
    → recovery.waiting.records ≡ [] → Recovers (again from) begin disk recovery now
gathered {from} {begin} {recovery = recovery} {now = now} g none =
    let last : Resumes from recovery.scan.capacity recovery.scan.base (records_of g.batches) [] [] begin recovery.engine recovery.outbox now =
    subst (λ (waiting : List Record). Resumes from recovery.scan.capacity recovery.scan.base (records_of g.batches) waiting [] begin recovery.engine recovery.outbox now) none g.resumes in
    record {
      rests = g.rests;
      batches = g.batches;
      read = g.read;
      admits = subst (λ (held : List Record). Admits recovery.scan.capacity recovery.scan.base (records_of g.batches) held recovery.engine) last.whole last.admits;
      idle = last.ahead;
      working = g.working;
      pending_is = subst (λ (held : List Record). Expects begin now.sent recovery.outbox (again from recovery.scan.base held)) last.whole last.pending_is;
      newest_is = g.newest_is;
    }

-- Some of the records that were read wait.
module _ {from : Option ℕ} {begin : Option (List ℕ)} {disk : List ℕ} {recovery : Recovery} {now : Outside} (g : Gathers from begin disk recovery now) where
  -- all that were read stand in each list that covers the disk
  covered : (all : List Record) → Covers recovery.scan.base disk all → IsPart (records_of g.batches) all
  covered all covers = covers _ _ _ _ _ g.read.leads (record { more = []; whole = refl }) g.resumes.admits.lawful

  pub sends_all : {old new : Outside} → Elapses old new (SendsPrefix begin (again from recovery.scan.base (records_of g.batches)) old) → SendsAgain from recovery.scan.base begin disk old new
  sends_all run all covers = sends_part from recovery.scan.base (covered all covers) run

  pub sends_nothing_read : {new : Outside} → OnlyReadsDisk now new → SendsAgain from recovery.scan.base begin disk now new
  sends_nothing_read reads = sends_all (sends_pending g.resumes (λ begin text expects. widened reads.moments _ (waits begin now recovery.outbox text expects)))

  pub starves : {given workers : ℕ} (new : Outside) → given ≡ workers → StarvedAtRecord given (again from recovery.scan.base) (records_of g.batches) begin new.sent
      → StarvesAgain workers from recovery.scan.base begin disk new
  starves new same hungry all covers =
      starved_further (covered all covers) (subst (λ (n : ℕ). StarvedAtRecord n (again from recovery.scan.base) (records_of g.batches) begin new.sent) same hungry)

  -- all of them are evaluated
  pub resumed : (engine : Engine) (outbox : List ℕ) {after : WaitingState} {new : Outside} → after ≡ record recovery.waiting { records = [] } → Rests disk new
      → Resumes from recovery.scan.capacity recovery.scan.base (records_of g.batches) [] [] begin engine outbox new → IsWorking engine.evaluator
      → Gathers from begin disk (record { scan = recovery.scan; engine = engine; outbox = outbox; waiting = after; newest = recovery.newest }) new
  resumed engine outbox {new = new} none rests resumes working =
      subst (λ (w : WaitingState). Gathers from begin disk (record { scan = recovery.scan; engine = engine; outbox = outbox; waiting = w; newest = recovery.newest }) new) (sym none)
      (record { rests = rests; batches = g.batches; read = g.read; resumes = resumes; working = working; newest_is = g.newest_is })

  -- It is read on.
  module _ {new : Outside} (reads : OnlyReadsDisk now new) (scan : ScanState) (same : scan.capacity ≡ recovery.scan.capacity) (based : scan.base ≡ recovery.scan.base) where
    gathers_on : {batches : List (List Record)} → HasRead scan batches disk → (engine : Engine) (waiting : WaitingState) (newest : Option Record) → engine ≡ record recovery.engine { admission = engine.admission }
        → with_batch g.resumes.held waiting.records ≡ records_of batches → Admits recovery.scan.capacity recovery.scan.base (records_of batches) g.resumes.held engine
        → newest ≡ newest_of recovery.scan.base (records_of batches)
        → Gathers from begin disk (record { scan = scan; engine = engine; outbox = recovery.outbox; waiting = waiting; newest = newest }) new
    gathers_on {batches} read engine waiting newest rest whole admits is = record {
      rests = record { known = reads.disk ∙ g.rests.known; settled = still_settled reads.moments reads.disk g.rests.settled };
      batches = batches;
      read = read;
      resumes = rw (same, based) (record {
        held = g.resumes.held;
        whole = whole;
        admits = admits;
        ahead = subst (λ (e : Engine). IsIdle e.evaluator) (sym rest) g.resumes.ahead;
        pending_is = expects_still new.sent reads.sent g.resumes.pending_is;
      });
      working = subst (λ (e : Engine). IsWorking e.evaluator) (sym rest) g.working;
      newest_is = is ∙ ap (λ (b : Option Base). newest_of b (records_of batches)) (sym based);
    }

    -- to the end
    pub gathers_end : HasRead scan g.batches disk → Gathers from begin disk (record recovery { scan = scan }) new
    gathers_end read = gathers_on read recovery.engine recovery.waiting recovery.newest refl g.resumes.whole g.resumes.admits g.newest_is

    -- a batch
    module _ {list batch : List Record} (is : list ≡ batch) (read : HasRead scan (g.batches ++ batch ∷ []) disk) where
      -- all of it was admitted
      pub gathers_batch : (engine : Engine) (after : WaitingState) (newest : Option Record) → engine ≡ record recovery.engine { admission = engine.admission } → after.records ≡ recovery.waiting.records ++ list
          → Admits recovery.scan.capacity recovery.scan.base (with_batch (records_of g.batches) list) g.resumes.held engine
          → newest ≡ newest_of recovery.scan.base (with_batch (records_of g.batches) list)
          → Gathers from begin disk (record { scan = scan; engine = engine; outbox = recovery.outbox; waiting = after; newest = newest }) new
      gathers_batch engine after newest rest waits admits last =
          let more : with_batch (records_of g.batches) list ≡ records_of (g.batches ++ batch ∷ []) = ap (λ (b : List Record). with_batch (records_of g.batches) b) is ∙ sym (records_more g.batches batch) in
          gathers_on read engine after newest rest
          (ap (λ (b : List Record). with_batch g.resumes.held b) waits ∙ in_parts g.resumes.held recovery.waiting.records list ∙ ap (λ (r : List Record). with_batch r list) g.resumes.whole ∙ more)
          (subst (λ (r : List Record). Admits recovery.scan.capacity recovery.scan.base r g.resumes.held engine) more admits)
          (last ∙ ap (newest_of recovery.scan.base) more)

      -- a record of it may not follow
      pub bad_record_there : scan.at ≡ recovery.scan.gate → (r : Refuses recovery.scan.capacity recovery.scan.base (records_of g.batches) list) → HasBadBatch recovery.scan.capacity scan.at recovery.scan.base (with_batch (records_of g.batches) r.good) disk
      bad_record_there at r = record {
        batches = g.batches;
        rest = recovery.scan.ahead ++ g.read.rest;
        leads = rw at g.read.leads;
        lawful = r.lawful;
        why = inr (record {
          good = r.good;
          bad = r.bad;
          later = r.later;
          next = scan.gate;
          rest = scan.ahead ++ read.rest;
          leads = subst (λ (b : List Record). LeadsTo recovery.scan.capacity scan.gate recovery.scan.base (g.batches ++ b ∷ []) disk (scan.ahead ++ read.rest)) (sym (r.parts ∙ is))
              (rw (same, based) at read.leads);
          same = refl;
          refused = r.refused;
        });
      }

  -- neither a closed gate nor a batch stands there
  pub bad_form_there : (at : ℕ) → at ≡ recovery.scan.gate → IsDamaged (drop at disk) → HasBadBatch recovery.scan.capacity at recovery.scan.base (records_of g.batches) disk
  bad_form_there at there damaged = record {
    batches = g.batches;
    rest = recovery.scan.ahead ++ g.read.rest;
    leads = rw there g.read.leads;
    lawful = g.resumes.admits.lawful;
    why = inl (record { same = refl; damaged = subst IsDamaged (ap (λ (gate : ℕ). drop gate disk) there ∙ led_from g.read.leads) damaged });
  }

-- one run after another, and one in which only the disk is read
pub again_then : (from : Option ℕ) (base : Option Base) {begin : Option (List ℕ)} {disk : List ℕ} {old mid new : Outside} → SendsAgain from base begin disk old mid → SendsAgain from base begin disk mid new
    → SendsAgain from base begin disk old new
again_then from base first second all covers = sends_then (first all covers) (second all covers)

-- behind the same base
pub rebased : (from : Option ℕ) {base same : Option Base} → base ≡ same → {begin : Option (List ℕ)} {disk : List ℕ} {old new : Outside} → SendsAgain from base begin disk old new → SendsAgain from same begin disk old new
rebased from is {begin} {disk} {old} {new} = subst (λ (b : Option Base). SendsAgain from b begin disk old new) is

pub read_on : {from : Option ℕ} {begin : Option (List ℕ)} {disk : List ℕ} {recovery : Recovery} {start old new : Outside} → Gathers from begin disk recovery old × SendsAgain from recovery.scan.base begin disk start old
    → OnlyReadsDisk old new → SendsAgain from recovery.scan.base begin disk start new
read_on {from} {recovery = recovery} so_far reads = again_then from recovery.scan.base so_far.1 (sends_nothing_read so_far.0 reads)

-- What is left alone.

pub only_read : {old new : Outside} → OnlyReadsDisk old new → OnlyRecovers old new
only_read reads = record { input = reads.input; asks = reads.asks; disk = reads.disk; continues = reads.continues }

pub only_sent : {old new : Outside} → OnlySends old new → OnlyRecovers old new
only_sent sends = record { input = sends.input; asks = sends.asks; disk = sends.disk; continues = sends.continues }

pub recovers_on : {old mid new : Outside} → OnlyRecovers old mid → OnlyRecovers mid new → OnlyRecovers old new
recovers_on first second = record {
  input = second.input ∙ first.input;
  asks = second.asks ∙ first.asks;
  disk = second.disk ∙ first.disk;
  continues = further first.continues second.continues;
}

-- what is Ok has no other answer
pub none_fails : {X E : Type 0} {A : Type 0} (r : Result X E) → IsOk r → ((x : X) → r ≡ Ok x → ⊥) → A
none_fails (Ok x) ok other = absurd (other x refl)
none_fails (Err e) ok other = absurd (true≢false (sym ok))

-- What sends nothing fails for no send.

pub ok_unsent : {T : Type 0} (r : Result T Fault) → IsOk r → r ≢ Err fault.Send
ok_unsent (Ok x) ok is = cc is
ok_unsent (Err e) ok is = true≢false (sym ok)

pub err_unsent : {T : Type 0} (result : Result T Fault) {was : Fault} → IsErrAnd result (λ e. e ≡ was) → was ≢ fault.Send → result ≢ Err fault.Send
err_unsent (Ok x) is other same = absurd is
err_unsent (Err e) is other same = let send : e ≡ fault.Send = cc in other (sym is ∙ send)

-- what holds where a call answers Ok, where it doesn't
pub unless_ok : {T E : Type 0} (P : Type 0) (result : Result T E) (was : E) → IsErrAnd result (λ e. e ≡ was) → OnOk result P
unless_ok P (Ok x) was is = absurd is
unless_ok P (Err e) was is = tt

pub told_unsent : {T : Type 0} (result : Result T Status) {was : Status} → IsErrAnd result (λ e. e ≡ was) → was ≢ SendFault → result ≢ Err SendFault
told_unsent (Ok x) is other same = absurd is
told_unsent (Err e) is other same = let send : e ≡ SendFault = cc in other (sym is ∙ send)

pub fault_unsent : (f : Fault) → f ≢ fault.Send → status_of f ≢ SendFault
fault_unsent f other = grind arith

pub scan_unsent : (e : ScanError) → scan_status e ≢ SendFault
scan_unsent e = grind arith

-- Why it was not read to its end.

pub answered_on : {T : Type 0} (P : Status → Type 0) (result : Result T Status) {was : Status} → IsErrAnd result (λ e. e ≡ was) → P was → IfErr result P
answered_on P (Ok x) is p = absurd is
answered_on P (Err e) is p = subst P (sym is) p

pub fault_hinders : {T : Type 0} (damaged : ℕ → Type 0) (missing starved : Type 0) {old mid : Outside} (new : Outside) {first : Result T Fault} {f : Fault} → first ≡ Err f → first ≢ Err fault.Read
    → (first ≡ Err fault.Memory → starved) → NoFault old mid → HasCause f mid new → Hinders damaged missing starved (status_of f) old new
fault_hinders damaged missing starved {old} {mid} new {first} {f} is unread short none cause = grind (arith, faultless)

pub hinders_on : {damaged worse : ℕ → Type 0} {missing absent hungry starved : Type 0} {old mid : Outside} (new : Outside) (s : Status) → NoFault old mid → ((at : ℕ) → damaged at → worse at) → (missing → absent) → (hungry → starved)
    → Hinders damaged missing hungry s mid new → Hinders worse absent starved s old new
hinders_on new s none more other still why = grind (arith, faultless)

pub why_at : (damaged : ℕ → Type 0) (missing starved : Type 0) (old new : Outside) {s : Status} (same : Status) → s ≡ same → Hinders damaged missing starved s old new → Hinders damaged missing starved same old new
why_at damaged missing starved old new same is = subst (λ s. Hinders damaged missing starved s old new) is

-- by what a scan answered
pub scan_hinders : {T : Type 0} (damaged : ℕ → Type 0) (missing starved : Type 0) {old new : Outside} (first : Result T ScanError) (e : ScanError) → first ≡ Err e → OnlyReadsDisk old new
    → (first ≢ Err scan.DiskFault → new.disk_faults ≡ old.disk_faults) → (first ≡ Err scan.DiskFault → Rose old.disk_faults new.disk_faults)
    → (first ≡ Err scan.NoJournal → missing) → (first ≡ Err scan.NoMemory → starved) → ((at : ℕ) → first ≡ Err (scan.Damaged at) → damaged at) → Hinders damaged missing starved (scan_status e) old new
scan_hinders damaged missing starved first scan.NoMemory was reads none rose no_journal short there = (reads_faultless reads (none (λ is. cc)), short was)
scan_hinders damaged missing starved first scan.DiskFault was reads none rose no_journal short there = rose was
scan_hinders damaged missing starved first scan.NoJournal was reads none rose no_journal short there = (reads_faultless reads (none (λ is. cc)), no_journal was)
scan_hinders damaged missing starved first (scan.Damaged at) was reads none rose no_journal short there = (reads_faultless reads (none (λ is. cc)), there at was)

-- whether the disk has a base, by the scan of it
base_mark : {capacity gate : ℕ} {b : Base} {batches : List (List Record)} {disk rest : List ℕ} → LeadsTo capacity gate (Some b) batches disk rest → HasBase disk
base_mark {capacity} {disk = disk} p = record {
  capacity = capacity;
  before = map mark_of p.ends.0;
  count = length p.ends.1;
  later = p.later;
  walk = subst (λ (marks : List Mark). IsWalkedThrough capacity marks disk) (ap (λ (l : List Block). map mark_of l ++ p.later) p.ends.2 ∙ split p.ends.0) p.walk;
} where
  split : (before : List Block) → map mark_of (before ++ record { is_base = true; body = p.ends.1 } ∷ []) ++ p.later ≡ map mark_of before ++ record { is_base = true; count = length p.ends.1 } ∷ p.later
  split [] = refl
  split (block ∷ before) = ap (λ (l : List Mark). mark_of block ∷ l) (split before)

pub has_base : {scan : ScanState} {batches : List (List Record)} {disk : List ℕ} → HasRead scan batches disk → scan.base ≢ None → HasBase disk
has_base {scan} {batches} {disk} read some = by scan.base refl read.leads where
  by : (base : Option Base) → scan.base ≡ base → LeadsTo scan.capacity scan.gate base batches disk (scan.ahead ++ read.rest) → HasBase disk
  by None is leads = absurd (some is)
  by (Some b) is leads = base_mark leads

-- of a scan that begins
pub scan_tells : (e : ScanError) → TellsNoStart (scan_status e)
scan_tells scan.NoMemory = inl (inr (inr refl))
scan_tells scan.DiskFault = inl (inr (inl refl))
scan_tells scan.NoJournal = inl (inl refl)
scan_tells (scan.Damaged at) = inr (at, refl)

pub nothing_again : (from : Option ℕ) (base : Option Base) (now : Option (List ℕ)) (outbox : List ℕ) → outbox ≡ [] → Expects now now outbox (again from base [])
nothing_again from base now outbox none = record { sent = []; known = sym (append_known-nil now); whole = none ∙ sym (again_none from base) }
