use Rattle.std.proofs.Common.{◌≡◌, ℕ, List, [], take, drop, inl, inr, refl, sym, ap, ◌∙◌, arith}
use Rattle.std.specs.Io.KnownBytes.{append_known}
use Rattle.std.specs.Prelude.{Some}
use Rattle.std.proofs.lemmas.List.{take-append-drop, take_min}
use Rattle.host_core.specs.Outside.{Outside, MayLeave, Elapses}
use Rattle.host_core.proofs.Known.{append_known-nil}
use Rattle.host_core.proofs.Moments.{widened}
use Rattle.wire_in.specs.Cutting.{bodies_of}
use Rattle.stream_core.specs.Ends.{IsEnd}
use Rattle.stream_core.specs.Pending.{SendsPrefix}
use Rattle.stream_core.proofs.Pending.{expects_nothing}
use Rattle.stream_core.proofs.Pieces.{if_ok}
use Rattle.stream_core.proofs.Sending.{prefix_of_longer}
use Rattle.stream_core.proofs.Streamed.{TellsApart, nothing_streamed, streamed}
use Rattle.engine_core.specs.declared.session.Session.{Session}
use Rattle.engine_core.specs.Serving.{Reads, Leaves}
use Rattle.engine_core.specs.Sessions.{expected}
use Rattle.engine_core.proofs.Beginning.{begins}
use Rattle.engine_core.proofs.Expecting.{expected-more}
use Rattle.replay_core.specs.InternalSession.{IsFresh}
use Rattle.replay_core.specs.Replayed.{replay_start, replay_text, IsAnswer}
use Rattle.replay_core.proofs.input.replay.Goals as goal

-- nothing of the input is read yet
reads_none : (input : List ℕ) {workers : ℕ} (session : Session) (now : Outside) → IsFresh workers session → now.input ≡ Some input → Reads (λ _ _. Unit {0}) (replay_start workers now.sent) input 0 session now
reads_none input {workers} session now fresh left =
    begins (λ _ _. Unit {0}) (replay_start workers now.sent) input session now fresh.cutter fresh.round fresh.answered fresh.engine fresh.workers_are fresh.idle tt
    (expects_nothing now.sent now.sent session.outbox [] fresh.outbox (sym (append_known-nil now.sent))) left

-- the stops of a replay
stops_as : {workers most : ℕ} (read : List ℕ) (old new : Outside) → Elapses old new (Leaves most (λ _ _ image. MayLeave old image) (replay_start workers old.sent) (bodies_of read))
    → Elapses old new (SendsPrefix old.sent (replay_text read) old)
unfolding expected replay_text
stops_as {workers} read old new run =
    let start = replay_start workers old.sent in
    let all = bodies_of read in
    widened run _ (λ image bytes safe.
    let was = safe.recovered.recovered in
    let whole = sym (expected-more start (take safe.count all) (drop safe.count all)) ∙ ap (expected start) (take-append-drop safe.count all) in
    prefix_of_longer {mid = old} (expected start (take safe.count all)) _ _ whole image bytes was (record { was = was; sent = safe.since; rest = safe.unsent; known = safe.sent; prefix = safe.prefix }))

-- no fault is an end
tells : TellsApart IsEnd IsAnswer
tells = record { read = tt; send = tt; memory = tt; no_read = λ end. end; no_send = λ end. end; no_memory = λ end. end }

-- there was no room
pub returns-in_default : goal.returns-in_default
returns-in_default g c = record {
  replayed = nothing_streamed tells (g.H.Host.outside c.args.host.now) (λ input is. inl refl) (g.met.H.Host.sent_now c.args.host.now) (g.met.H.Host.stops_now c.args.host.now);
}

pub returns : goal.returns
unfolding expected replay_text
returns g c =
    let most = c.args.options.now.bytes in
    let old = g.H.Host.outside c.args.host.now in
    let new = g.H.Host.outside c.serve_input.new.host in
    let result = c.serve_input.result in
    let run = c.serve_input.ensures in
    let reads = λ (input : List ℕ) (is : old.input ≡ Some input). reads_none input _ old c.in-Ok.ensures.fresh is in
    record {
      replayed = rw c.answer_of.ensures (streamed tells result (record {
        moments = λ input is. stops_as (take most input) old new (run.moments (replay_start _ _) input refl (reads input is));
        exact = λ input is. if_ok result
            (λ status end. (end.0, end.1.sent ∙ ap (λ (read : List ℕ). append_known old.sent (replay_text read)) (take_min most input)))
            (run.exact (replay_start _ _) input refl (reads input is));
        taken = λ input is. if_ok result (λ status end at. end.1.input_left) (run.exact (replay_start _ _) input refl (reads input is));
        unread = λ input is failed.
            let left = run.unread (replay_start _ _) input refl (reads input is) failed in
            (left.0, left.1, record { input_left = left.2.input_left; there = left.2.there; sent = left.2.sent });
        prompt = λ input is. run.prompt (replay_start _ _) input refl (reads input is);
        bytes = run.bytes;
        end = if_ok result (λ status end. (end, grind (arith, end))) run.end;
        causes = run.causes;
        unkept = run.unkept;
        disk = run.touches.disk;
        disk_faults = run.touches.disk_faults;
        continues = run.continues;
      }) (g.met.H.Host.sent_now c.serve_input.new.host) (g.met.H.Host.stops_now c.serve_input.new.host)
          (λ short input is. inr (run.starved (replay_start _ _) input refl (reads input is) short)));
    }
