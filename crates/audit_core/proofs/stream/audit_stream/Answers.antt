use Rattle.std.proofs.Common.{◌≡◌, List, ℕ, refl, sym, subst}
use Rattle.std.specs.Prelude.{Some}
use Rattle.host_core.specs.declared.status.Status.{Status}
use Rattle.stream_core.proofs.Pieces.{if_ok}
use Rattle.stream_core.proofs.Streamed.{nothing_streamed, streamed}
use Rattle.audit_core.specs.Audited.{Audited}
use Rattle.audit_core.proofs.Beginning.{given_for, starts, tells}
use Rattle.audit_core.proofs.stream.audit_stream.Goals as goal

pub returns-in_default : goal.returns-in_default
returns-in_default g c = record {
  audited = nothing_streamed tells (g.H.Host.outside c.args.host.now) (λ input is. refl) (g.met.H.Host.sent_now c.args.host.now) (g.met.H.Host.stops_now c.args.host.now);
}

pub returns : goal.returns
returns g c =
    let old = g.H.Host.outside c.args.host.now in
    let new = g.H.Host.outside c.answer_input.new.host in
    let run = c.answer_input.ensures in
    record {
      audited = subst (λ (status : Status). Audited status old new) (sym c.answer_of.ensures)
          (streamed tells c.answer_input.result (record {
            moments = λ input is. run.leaves (given_for input old) refl (starts input old _ _ c.in-Ok.ensures.outbox c.in-Ok.ensures.fresh is);
            exact = λ input is. run.exact (given_for input old) refl (starts input old _ _ c.in-Ok.ensures.outbox c.in-Ok.ensures.fresh is);
            taken = λ input is. if_ok c.answer_input.result (λ status taken end. (taken end).0) (run.taken (given_for input old) refl (starts input old _ _ c.in-Ok.ensures.outbox c.in-Ok.ensures.fresh is));
            unread = λ input is failed.
                let all = run.unread (given_for input old) refl (starts input old _ _ c.in-Ok.ensures.outbox c.in-Ok.ensures.fresh is) failed in
                (all.0, all.1, all.2);
            prompt = λ input is. run.prompt (given_for input old) refl (starts input old _ _ c.in-Ok.ensures.outbox c.in-Ok.ensures.fresh is);
            bytes = run.bytes;
            end = run.end;
            causes = run.causes;
            unkept = run.unkept;
            disk = run.does.disk;
            disk_faults = run.does.disk_faults;
            continues = run.continues;
          }) (g.met.H.Host.sent_now c.answer_input.new.host) (g.met.H.Host.stops_now c.answer_input.new.host)
          (λ short input is. run.starved (given_for input old) refl (starts input old _ _ c.in-Ok.ensures.outbox c.in-Ok.ensures.fresh is) short));
    }
