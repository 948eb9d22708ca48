use Rattle.std.proofs.Common.{◌≡◌, ℕ, List, ap, ◌∙◌}
use Rattle.std.specs.Io.KnownBytes.{append_known}
use Rattle.host_core.specs.declared.status.Status.{Status}
use Rattle.stream_core.proofs.Sending.{sends_same}
use Rattle.audit_core.specs.InternalStreams.{expects_none}
use Rattle.audit_core.specs.Streams.{sent_at}
use Rattle.audit_core.proofs.Ending.{both_ok, ends_so}
use Rattle.audit_core.proofs.stream.AuditingAnswerer.finish.Goals as goal

pub returns-clause-exact : goal.returns-clause-exact
returns-clause-exact g c given same knows through =
    let ends = ends_so knows.reads through c.inside.result c.inside.ensures c.messages.result c.messages.ensures.exact in
    let text = ap (λ (s : Status). sent_at s c.messages.result) c.status-status.ensures ∙ ends.sent in
    rw same (both_ok c.send_end.result c.send_end.ensures.same (c.send_end.ensures.sent given.begin (expects_none knows)) (c.status-status.ensures ∙ ends.status)
    (λ sent. sent ∙ ap (λ (bytes : List ℕ). append_known given.begin bytes) text))

pub returns-clause-leaves : goal.returns-clause-leaves
returns-clause-leaves g c given same knows through =
    let ends = ends_so knows.reads through c.inside.result c.inside.ensures c.messages.result c.messages.ensures.exact in
    let text = ap (λ (s : Status). sent_at s c.messages.result) c.status-status.ensures ∙ ends.sent in
    rw same (sends_same _ _ text (c.send_end.ensures.moments given.begin (expects_none knows)))
