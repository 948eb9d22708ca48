use Rattle.std.proofs.Common.{◌≡◌, ◌+◌, ◌++◌, [], ℕ, List, drop, refl, sym, ap, ◌∙◌, append_assoc, arith}
use Rattle.std.specs.List.{flat_map}
use Rattle.std.proofs.lemmas.List.{append-nil, drop_all}
use Rattle.host_core.proofs.Chains.{onward, sends_nothing}
use Rattle.host_core.proofs.Causes.{no_fault, faultless}
use Rattle.std.specs.Io.KnownBytes.{append_known}
use Rattle.stream_core.proofs.Pending.{on_ok}
use Rattle.stream_core.proofs.Sending.{sends_none, sends_longer, sends_on}
use Rattle.screen_core.specs.declared.row.Row.{Row}
use Rattle.screen_core.specs.Rows.{row_line}
use Rattle.screen_core.proofs.Steps.{drop_one}
use Rattle.screen_core.proofs.sending.send_rows.Goals as goal

pub loop-row-init : goal.loop-row-init
loop-row-init g c = record {
  room = c.requires;
  pending = λ begin expects. ([], expects, refl);
  moments = λ begin expects.
      sends_longer [] (flat_map row_line c.args.rows.now) _ refl
      (sends_none (g.H.Host.outside c.args.host.now) (g.met.H.Host.sent_now c.args.host.now) _ [] expects);
  keeps = sends_nothing _;
  none = no_fault _;
}

pub loop-row-preserved : goal.loop-row-preserved
loop-row-preserved g c =
    let rows = c.args.rows.now in
    let i = c.loop-row.row-index in
    let split = drop_one rows i c.row-item.result c.loop-row-test.true c.row-item.is in
    let piece = c.as_bytes.result.now in
    let line : piece ≡ row_line c.row-item.result = c.as_bytes.ensures.value ∙ c.write_row.ensures.text in
    let rest = flat_map row_line (drop (i + 1) rows) in
    record {
      room = omega (arith, c.loop-row.invariant.room, c.write_row.ensures.capacity);
      pending = λ begin expects.
          let now = c.loop-row.invariant.pending begin expects in (
            now.0 ++ piece,
            c.in_ok-append_bytes.ensures.pending begin now.0 now.1,
            append_assoc now.0 piece rest ∙ ap (λ (b : List ℕ). now.0 ++ (b ++ rest)) line ∙ ap (λ (rows : List Row). now.0 ++ flat_map row_line rows) (sym split) ∙ now.2,
          );
      moments = λ begin expects.
          let now = c.loop-row.invariant.pending begin expects in
          sends_on (c.loop-row.invariant.moments begin expects) now.0 _ now.2 (c.append_bytes.ensures.moments begin now.0 now.1);
      keeps = onward c.loop-row.invariant.keeps c.append_bytes.ensures.outside.keeps;
      none = faultless c.loop-row.invariant.none c.in_ok-append_bytes.ensures.outside.causes;
    }

pub returns-in_err-append_bytes-clause-moments : goal.returns-in_err-append_bytes-clause-moments
returns-in_err-append_bytes-clause-moments g c = λ begin expects.
    let now = c.loop-row.invariant.pending begin expects in
    sends_on (c.loop-row.invariant.moments begin expects) now.0 _ now.2 (c.append_bytes.ensures.moments begin now.0 now.1)

pub returns-clause-sent : goal.returns-clause-sent
returns-clause-sent g c = λ begin expects.
    let now = c.loop-row.invariant.pending begin expects in
    let end : drop c.loop-row.row-index c.args.rows.now ≡ [] = drop_all c.loop-row.row-index c.args.rows.now c.loop-row-test.false in
    let all = sym (append-nil now.0) ∙ ap (λ (rows : List Row). now.0 ++ flat_map row_line rows) (sym end) ∙ now.2 in
    on_ok c.flush.result (c.flush.ensures.sent begin now.0 now.1) (λ sent. sent ∙ ap (λ (text : List ℕ). append_known begin text) all)

pub returns-clause-moments : goal.returns-clause-moments
returns-clause-moments g c = λ begin expects.
    let now = c.loop-row.invariant.pending begin expects in
    sends_on (c.loop-row.invariant.moments begin expects) now.0 _ now.2 (c.flush.ensures.moments begin now.0 now.1)
