use Rattle.std.proofs.Common.{refl, sym, ◌∙◌, arith}
use Rattle.host_core.proofs.Chains.{reads_on}
use Rattle.journal_core.proofs.HeaderLemmas.{prefix_of_disk, has_no_header, begun}
use Rattle.journal_core.proofs.walk.Walk.open.Goals as goal

pub returns-in_err-read-clause-keeps : goal.returns-in_err-read-clause-keeps
returns-in_err-read-clause-keeps g c = reads_on c.disk_len.ensures.measures.keeps c.read.ensures.keeps

pub returns-in_default-clause-no_journal : goal.returns-in_default-clause-no_journal
returns-in_default-clause-no_journal g c is disk known =
    let prefix = prefix_of_disk _ disk c.read.new.self (omega arith) c.in_ok-read.ensures.len (c.in_ok-read.ensures.bytes disk (sym c.read.ensures.keeps.disk ∙ known)) in
    has_no_header disk c.read.new.self _ prefix (rw c.bytes.ensures at c.in_default.ensures)

pub returns-in_default-clause-keeps : goal.returns-in_default-clause-keeps
returns-in_default-clause-keeps g c = reads_on c.disk_len.ensures.measures.keeps c.read.ensures.keeps

pub returns-clause-walked : goal.returns-clause-walked
returns-clause-walked g c disk known =
    let before = sym c.disk_len.ensures.measures.keeps.disk ∙ sym c.read.ensures.keeps.disk ∙ known in
    let prefix = prefix_of_disk _ disk c.read.new.self (omega arith) c.in_ok-read.ensures.len (c.in_ok-read.ensures.bytes disk (sym c.read.ensures.keeps.disk ∙ known)) in
    let found = rw c.bytes.ensures at c.in-Some.ensures in
    begun disk c.read.new.self _ prefix c.in-Some.capacity found.0 found.2 _ (c.in_ok-size.ensures.measures.len.1 disk before) refl refl refl refl refl refl refl

pub returns-clause-keeps : goal.returns-clause-keeps
returns-clause-keeps g c = reads_on c.disk_len.ensures.measures.keeps c.read.ensures.keeps
