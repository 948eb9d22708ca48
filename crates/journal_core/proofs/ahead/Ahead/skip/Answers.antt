use Rattle.std.proofs.Common.{◌-◌, length, drop, ap, arith}
use Rattle.std.proofs.lemmas.List.{length-take, length-drop}
use Rattle.journal_core.proofs.AheadLemmas.{skipped}
use Rattle.journal_core.proofs.ahead.Ahead.skip.Goals as goal

pub returns : goal.returns
returns c =
    let a = c.self.inside in
    skipped a.buffer.items c.args.self.now a.start a.end c.args.count (omega (arith, ap length c.self.view_is, length-take (a.end - a.start) (drop a.start a.buffer.items), length-drop a.start a.buffer.items)) c.self.view_is
