use Rattle.std.proofs.Common.{refl}
use Rattle.auction_core.proofs.Streaming.{given_for, starts}
use Rattle.auction_core.proofs.stream.read_lines.Goals as goal

pub returns : goal.returns
returns g c =
    let old = g.H.Host.outside c.args.host.now in
    let run = c.answer_input.ensures in
    record {
      began = record {
        moments = λ input is. run.leaves (given_for input old) refl (starts input old _ _ c.requires.outbox c.requires.reading is);
        exact = λ input is. run.exact (given_for input old) refl (starts input old _ _ c.requires.outbox c.requires.reading is);
        taken = λ input is. run.taken (given_for input old) refl (starts input old _ _ c.requires.outbox c.requires.reading is);
        unread = λ input is failed.
            let all = run.unread (given_for input old) refl (starts input old _ _ c.requires.outbox c.requires.reading is) failed in
            (all.0, all.1, all.2);
        starved = λ input is short. run.starved (given_for input old) refl (starts input old _ _ c.requires.outbox c.requires.reading is) short;
        prompt = λ input is. run.prompt (given_for input old) refl (starts input old _ _ c.requires.outbox c.requires.reading is);
        bytes = run.bytes;
        end = run.end;
        causes = run.causes;
        unkept = run.unkept;
        disk = run.does.disk;
        disk_faults = run.does.disk_faults;
        continues = run.continues;
      };
    }
