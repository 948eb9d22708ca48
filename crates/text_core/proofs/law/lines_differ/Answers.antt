use Rattle.std.proofs.Common.{arith}
use Rattle.text_core.proofs.Frames.{frame_found}
use Rattle.text_core.proofs.Records.{record_found}
use Rattle.text_core.proofs.law.lines_differ.Goals as goal

pub returns : goal.returns
returns c = record {
  records = λ line x y p q. grind (arith, record_found line x p, record_found line y q);
  frames = λ line f g p q. grind (arith, frame_found line f p, frame_found line g q);
}
