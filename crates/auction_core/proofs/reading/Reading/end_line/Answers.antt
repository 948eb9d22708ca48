use Rattle.std.proofs.Common.{sym, ◌∙◌}
use Rattle.stream_core.proofs.Pending.{on_ok}
use Rattle.text_core.proofs.Answering.{empty_is}
use Rattle.text_core.specs.declared.task.Task.TheVariants.{Pack}
use Rattle.text_core.specs.Streams.{rest_of}
use Rattle.auction_core.proofs.Readings.{alike_kept, alike_whole, reads_line}
use Rattle.auction_core.proofs.reading.Reading.end_line.Goals as goal

pub returns-then-is_empty : goal.returns-then-is_empty
returns-then-is_empty c = record {
  reads = λ read reads.
      let empty = empty_is c.args.self.now.line (sym c.is_empty.ensures ∙ c.if-is_empty.true) in
      on_ok c.take.result (c.take.ensures.holds _ reads.holds) (λ holds.
      reads_line _ read c.args.last.now c.args.last.now c.requires.line (alike_whole c.args.self.now.line (rest_of Pack read) c.args.last.now (reads.begun c.requires.going) empty) empty holds);
}

pub returns : goal.returns
returns c = record {
  reads = λ read reads.
      reads_line _ read c.args.last.now _ c.requires.line
      (alike_kept c.args.self.now.line (rest_of Pack read) c.args.last.now _ (reads.begun c.requires.going) (c.as_slice.ensures.value ∙ c.keep.ensures))
      c.clear.ensures (c.in_ok-take.ensures.holds _ reads.holds);
}
