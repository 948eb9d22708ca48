use Rattle.std.proofs.Common.{refl}
use Rattle.stream_core.proofs.Pieces.{if_ok}
use Rattle.stream_core.proofs.Streamed.{nothing_streamed, streamed}
use Rattle.text_core.proofs.Beginning.{given_for, starts, tells}
use Rattle.text_core.proofs.stream.translate.Goals as goal

pub returns-in_default : goal.returns-in_default
returns-in_default g c =
    nothing_streamed (tells c.args.task) (g.H.Host.outside c.args.host.now) refl (g.met.H.Host.sent_now c.args.host.now) (g.met.H.Host.stops_now c.args.host.now)

pub returns : goal.returns
returns g c =
    let old = g.H.Host.outside c.args.host.now in
    let run = c.answer_input.ensures in
    rw c.answer_of.ensures (streamed (tells c.args.task) c.answer_input.result (record {
      moments = λ input is. run.leaves (given_for c.args.task c.args.kind input old) refl (starts c.args.task c.args.kind input old _ _ c.in-Ok.ensures.outbox c.new.ensures is);
      exact = λ input is. run.exact (given_for c.args.task c.args.kind input old) refl (starts c.args.task c.args.kind input old _ _ c.in-Ok.ensures.outbox c.new.ensures is);
      taken = λ input is. if_ok c.answer_input.result (λ status taken end. (taken end).0) (run.taken (given_for c.args.task c.args.kind input old) refl (starts c.args.task c.args.kind input old _ _ c.in-Ok.ensures.outbox c.new.ensures is));
      unread = λ input is failed.
          let all = run.unread (given_for c.args.task c.args.kind input old) refl (starts c.args.task c.args.kind input old _ _ c.in-Ok.ensures.outbox c.new.ensures is) failed in
          (all.0, all.1, all.2);
      prompt = λ input is. run.prompt (given_for c.args.task c.args.kind input old) refl (starts c.args.task c.args.kind input old _ _ c.in-Ok.ensures.outbox c.new.ensures is);
      bytes = run.bytes;
      end = run.end;
      causes = run.causes;
      unkept = run.unkept;
      disk = run.does.keeps.disk;
      disk_faults = run.does.keeps.disk_faults;
      continues = run.continues;
    }) (g.met.H.Host.sent_now c.answer_input.new.host) (g.met.H.Host.stops_now c.answer_input.new.host) (λ short. absurd (run.starves short)))
