use Rattle.std.proofs.lemmas.List.{take_rest}
use Rattle.host_core.proofs.Written.{written_more}
use Rattle.host_core.proofs.stream.write_all.Goals as goal

pub loop-done-preserved : goal.loop-done-preserved
loop-done-preserved g c =
    let wrote = rw take_rest at c.in_ok-done.ensures in
    written_more c.loop-done.invariant (g.W.Sink.contents c.write.new.self) c.in_ok-done.field-0 (g.W.Sink.failures c.write.new.self) wrote.bound wrote.bytes wrote.fine
