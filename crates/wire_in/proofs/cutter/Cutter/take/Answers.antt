use Rattle.std.proofs.Common.{◌≡◌, ◌+◌, ◌++◌, take, arith}
use Rattle.std.proofs.lemmas.Grind.{common_steps}
use Rattle.wire_in.specs.Cutting.{pending}
use Rattle.wire_in.proofs.Streams.{take_on}
use Rattle.wire_in.proofs.cutter.Cutter.take.Goals as goal

pub returns-clause-goes_on : goal.returns-clause-goes_on
returns-clause-goes_on c =
    let taken = take (c.fill-begun.result + c.fill.result) c.args.piece.now in
    let bytes : c.fill.new.self ≡ pending c.args.self.now ++ taken = grind (arith, common_steps) in
    λ read behind. take_on read c.args.self.now taken c.fill.new.self bytes c.is_frame.ensures.prefix behind
