use Rattle.std.proofs.Common.{◌≡◌, ℕ, List, sym, subst}
use Rattle.auction_core.specs.Texts.{lines_of}
use Rattle.auction_core.proofs.Texting.{lines_have_text}
use Rattle.command_core.specs.Runs.{Ran}
use Rattle.command_core.proofs.program.obey.Goals as goal

pub returns-in-Format-clause-ran : goal.returns-in-Format-clause-ran
returns-in-Format-clause-ran g c =
    subst (λ x. Ran (c.format_journal.new.host ≡ c.args.host.now) x c.format_journal.result (g.H.Host.outside c.args.host.now) (g.H.Host.outside c.format_journal.new.host)) (sym c.in-Format.is) c.format_journal.ensures.formatted

pub returns-in-Serve-clause-ran : goal.returns-in-Serve-clause-ran
returns-in-Serve-clause-ran g c =
    subst (λ x. Ran (c.serve.new.host ≡ c.args.host.now) x c.serve.result (g.H.Host.outside c.args.host.now) (g.H.Host.outside c.serve.new.host)) (sym c.in-Serve.is) c.serve.ensures.served

pub returns-in-Replay-clause-ran : goal.returns-in-Replay-clause-ran
returns-in-Replay-clause-ran g c =
    subst (λ x. Ran (c.replay.new.host ≡ c.args.host.now) x c.replay.result (g.H.Host.outside c.args.host.now) (g.H.Host.outside c.replay.new.host)) (sym c.in-Replay.is) c.replay.ensures.replayed

pub returns-in-Cross-clause-continues : goal.returns-in-Cross-clause-continues
returns-in-Cross-clause-continues g c =
    let texts = λ (input : List ℕ). lines_have_text (lines_of input) in
    (c.cross_stream.ensures.crossed (λ input. (texts input).0) (λ input. (texts input).1)).continues
