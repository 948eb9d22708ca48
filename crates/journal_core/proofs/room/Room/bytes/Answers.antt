use Rattle.std.proofs.Common.{length, ap, ◌∙◌, arith, length-append, [], ◌∷◌}
use Rattle.wire_in.specs.Bases.{base_bytes}
use Rattle.journal_core.specs.Layout.{base_block, content_of}
use Rattle.journal_core.proofs.FrameLemmas.{base_form}
use Rattle.journal_core.proofs.room.Room.bytes.Goals as goal

pub returns-clause-most : goal.returns-clause-most
returns-clause-most c =
    let base = c.self.inside.base.value in
    let form = base_form (base_bytes base) base c.self.invariant.spelled in
    omega (arith, ap length (c.deref.ensures.value ∙ c.self.invariant.whole), length-append (content_of (base_block base)) (0 ∷ []), form.1)
