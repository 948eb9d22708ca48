use Rattle.std.proofs.Common.{◌≡◌, inl, inr, refl, sym, subst}
use Rattle.host_core.specs.declared.status.Status.{Status}
use Rattle.stream_core.proofs.Pieces.{if_ok}
use Rattle.stream_core.proofs.Streamed.{nothing_streamed, streamed}
use Rattle.screen_core.specs.Screened.{Screened}
use Rattle.screen_core.proofs.Beginning.{given_for, is_ready, starts, tells}
use Rattle.screen_core.proofs.stream.board_stream.Goals as goal

pub returns-in_default : goal.returns-in_default
returns-in_default g c = record {
  screened = nothing_streamed tells (g.H.Host.outside c.args.host.now) (λ input is. (refl, inl refl)) (g.met.H.Host.sent_now c.args.host.now) (g.met.H.Host.stops_now c.args.host.now);
}

pub answer_input-requires-clause-ready : goal.answer_input-requires-clause-ready
answer_input-requires-clause-ready g c = is_ready c.args.bytes _ c.requires.most c.in-Ok.ensures.fresh

pub returns : goal.returns
returns g c =
    let bytes = c.args.bytes in
    let old = g.H.Host.outside c.args.host.now in
    let new = g.H.Host.outside c.answer_input.new.host in
    let run = c.answer_input.ensures in
    record {
      screened = subst (λ (status : Status). Screened (c.answer_input.new.host ≡ c.args.host.now) bytes status old new) (sym c.answer_of.ensures)
          (streamed tells c.answer_input.result (record {
            moments = λ input is. run.leaves (given_for bytes input old) refl (starts bytes input old _ _ c.in-Ok.ensures.outbox c.in-Ok.ensures.fresh is);
            exact = λ input is. run.exact (given_for bytes input old) refl (starts bytes input old _ _ c.in-Ok.ensures.outbox c.in-Ok.ensures.fresh is);
            taken = λ input is. if_ok c.answer_input.result (λ status taken end. (taken end).0) (run.taken (given_for bytes input old) refl (starts bytes input old _ _ c.in-Ok.ensures.outbox c.in-Ok.ensures.fresh is));
            unread = λ input is failed.
                let all = run.unread (given_for bytes input old) refl (starts bytes input old _ _ c.in-Ok.ensures.outbox c.in-Ok.ensures.fresh is) failed in
                (all.0, all.1, all.2);
            prompt = λ input is. run.prompt (given_for bytes input old) refl (starts bytes input old _ _ c.in-Ok.ensures.outbox c.in-Ok.ensures.fresh is);
            bytes = run.bytes;
            end = run.end;
            causes = run.causes;
            unkept = run.unkept;
            disk = run.does.disk;
            disk_faults = run.does.disk_faults;
            continues = run.continues;
          }) (g.met.H.Host.sent_now c.answer_input.new.host) (g.met.H.Host.stops_now c.answer_input.new.host)
          (λ short input is.
          let starved = run.starved (given_for bytes input old) refl (starts bytes input old _ _ c.in-Ok.ensures.outbox c.in-Ok.ensures.fresh is) short in
          (starved.0, inr starved.1)));
    }
