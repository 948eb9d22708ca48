use Rattle.std.proofs.Common.{refl, sym, ◌∙◌}
use Rattle.wire_in.specs.Cutting.{bodies_of}
use Rattle.audit_core.proofs.Found.{reads_whole}
use Rattle.audit_core.proofs.stream.Auditing.advance.Goals as goal

pub returns-in-Some-clause-reads : goal.returns-in-Some-clause-reads
returns-in-Some-clause-reads c read reads =
    let between = c.in-Some.ensures.between refl in
    reads_whole read _ c.in-Some.body.now (sym (reads.begun c.requires.sound) ∙ between) c.in-Some.ensures.prefix between
    (c.in_ok-take.ensures.audits (bodies_of read) reads.audits)
