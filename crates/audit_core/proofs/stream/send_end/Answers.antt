use Rattle.std.proofs.Common.{◌≡◌, ◌≢◌, ℕ, List, [], refl, sym, ap, subst, ◌∙◌}
use Rattle.std.specs.Io.KnownBytes.{append_known}
use Rattle.host_core.specs.declared.status.Status.{Status}
use Rattle.host_core.specs.declared.status.Status.TheVariants as statuses
use Rattle.host_core.specs.Outside.{Outside, Elapses}
use Rattle.stream_core.specs.Pending.{SendsPrefix}
use Rattle.stream_core.proofs.Sending.{sends_same}
use Rattle.audit_core.specs.Streams.{clean_line, sent_at}
use Rattle.audit_core.proofs.stream.send_end.Goals as goal

-- at another end nothing is sent
nothing : (status : Status) (messages : ℕ) → status ≢ statuses.Done → sent_at status messages ≡ []
nothing statuses.Done messages other = absurd (other refl)
nothing status messages other = refl

pub returns-in_err-send_clean-in-Done-clause-moments : goal.returns-in_err-send_clean-in-Done-clause-moments
returns-in_err-send_clean-in-Done-clause-moments g c begin expects = sends_same _ _ (ap (λ (s : Status). sent_at s c.args.messages) (sym c.in-Done.is)) (c.send_clean.ensures.moments begin expects)

pub returns-in_ok-send_clean-in-Done-clause-moments : goal.returns-in_ok-send_clean-in-Done-clause-moments
returns-in_ok-send_clean-in-Done-clause-moments g c begin expects = sends_same _ _ (ap (λ (s : Status). sent_at s c.args.messages) (sym c.in-Done.is)) (c.send_clean.ensures.moments begin expects)

pub returns-in_err-flush-in_default-clause-moments : goal.returns-in_err-flush-in_default-clause-moments
returns-in_err-flush-in_default-clause-moments g c begin expects = sends_same _ _ (sym (nothing c.args.status c.args.messages c.in_default.not-Done)) (c.flush.ensures.moments begin [] expects)

pub returns-in_ok-flush-in_default-clause-moments : goal.returns-in_ok-flush-in_default-clause-moments
returns-in_ok-flush-in_default-clause-moments g c begin expects = sends_same _ _ (sym (nothing c.args.status c.args.messages c.in_default.not-Done)) (c.flush.ensures.moments begin [] expects)

pub returns-in_ok-flush-in_default-clause-sent : goal.returns-in_ok-flush-in_default-clause-sent
returns-in_ok-flush-in_default-clause-sent g c begin expects =
    c.in_ok-flush-in_default.ensures.sent begin [] expects ∙ ap (λ (text : List ℕ). append_known begin text) (sym (nothing c.args.status c.args.messages c.in_default.not-Done))
