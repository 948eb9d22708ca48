use Rattle.text_core.proofs.Newlines.{found_within, found_line, found_ended, found_none}
use Rattle.text_core.proofs.translator.line_len.Goals as goal

pub returns : goal.returns
returns c = record {
  within = found_within c.args.piece.now c.memchr.result c.memchr.ensures;
  line = found_line c.args.piece.now c.memchr.result c.memchr.ensures;
  ended = found_ended c.args.piece.now c.memchr.result c.memchr.ensures;
  none = found_none c.args.piece.now c.memchr.result c.memchr.ensures;
}
