use Rattle.std.proofs.Common.{◌≡◌, ℕ, ◌+◌, ◌++◌, Option, length, drop, ap, ◌∙◌, arith}
use Rattle.std.proofs.lemmas.List.{drop_all, take_rest}
use Rattle.rulebook.specs.Sent.{spelled, numbered, passed_over}
use Rattle.stream_core.proofs.Sending.{sends_same}
use Rattle.recovery_core.proofs.recovery.append_again.Goals as goal

pub returns-clause-moments : goal.returns-clause-moments
returns-clause-moments g c = λ begin text expects.
    sends_same _ _
    (ap (λ l. text ++ spelled (numbered (c.args.before + c.passed_over-skipped.result) l)) (take_rest c.args.messages.now c.passed_over-skipped.result)
    ∙ ap (λ k. text ++ spelled (numbered (c.args.before + k) (drop k c.args.messages.now))) c.passed_over-skipped.ensures.exact)
    (c.append_messages.ensures.moments begin text expects)

pub returns-clause-unasked : goal.returns-clause-unasked
returns-clause-unasked g c = λ none.
    let all : c.passed_over-skipped.result ≡ length c.args.messages.now = c.passed_over-skipped.ensures.exact ∙ ap (λ (from : Option ℕ). passed_over from c.args.before (length c.args.messages.now)) none in
    c.append_messages.ensures.none (take_rest c.args.messages.now c.passed_over-skipped.result ∙ drop_all c.passed_over-skipped.result c.args.messages.now (omega (arith, all)))
