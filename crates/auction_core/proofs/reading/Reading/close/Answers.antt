use Rattle.std.proofs.Common.{sym, ap, length, ◌∙◌, ◌<◌, arith}
use Rattle.std.proofs.lemmas.Bool.Decides.{nat_tests}
use Rattle.stream_core.proofs.Pending.{on_ok}
use Rattle.text_core.proofs.Answering.{empty_is}
use Rattle.auction_core.proofs.Readings.{closed_bad, closed_line, closed_none}
use Rattle.auction_core.proofs.reading.Reading.close.Goals as goal

pub returns-then-self : goal.returns-then-self
returns-then-self c = record {
  holds = λ read reads.
      closed_bad read c.if-self.true reads;
}

pub returns-then-is_empty : goal.returns-then-is_empty
returns-then-is_empty c = record {
  holds = λ read reads.
      closed_none read c.args.self.now.line (reads.begun c.if-self.false) (empty_is c.args.self.now.line (sym c.is_empty.ensures ∙ c.if-is_empty.true)) reads.holds;
}

pub returns : goal.returns
returns c = record {
  holds = λ read reads.
      let some : 0 < length c.as_slice.result.now = grind (arith, nat_tests, c.is_empty.ensures, c.if-is_empty.false, ap length c.as_slice.ensures.value) in
      on_ok c.take.result (c.take.ensures.holds _ reads.holds)
      (λ holds. closed_line read c.as_slice.result.now (c.as_slice.ensures.value ∙ reads.begun c.if-self.false) some holds);
}
