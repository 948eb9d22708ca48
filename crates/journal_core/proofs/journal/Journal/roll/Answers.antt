use Rattle.std.proofs.Common.{◌≡◌, ◌+◌, [], ◌∷◌, refl, length, ap, ◌∙◌, arith, length-append}
use Rattle.host_core.proofs.Moments.{widened, ended}
use Rattle.wire_in.specs.Bases.{base_bytes}
use Rattle.journal_core.specs.Journal.{JournalState}
use Rattle.journal_core.specs.Layout.{base_block, content_of}
use Rattle.journal_core.proofs.Appended.{base_stages}
use Rattle.journal_core.proofs.Offsets.{next_reaches, of_disk_with_base, rest_with_base}
use Rattle.journal_core.proofs.Places.{rolled_most}
use Rattle.journal_core.proofs.journal.Journal.roll.Goals as goal

pub add-requires-clause-fits : goal.add-requires-clause-fits
add-requires-clause-fits g c =
    omega (
      arith,
      c.self.invariant.within,
      rolled_most c.self.inside.rolled,
      c.bytes.ensures.most,
      c.bytes.ensures.spelled.ranges.records_are,
      c.requires.count,
      ap (λ (k : JournalState). k.count) c.self.view_is,
    )

pub returns-in_err-self-inside-clause-moments : goal.returns-in_err-self-inside-clause-moments
returns-in_err-self-inside-clause-moments g c records rest of_it =
    let gates = ap (λ (k : JournalState). k.gate) c.self.view_is in
    let stages = rw (c.bytes.ensures.bytes, gates) at (c.add.ensures.stages rest.settled) in
    widened stages _ (base_stages c.args.room.now c.args.self.now records (g.H.Host.outside c.args.host.now) rest c.requires.unrolled c.bytes.ensures.spelled of_it)

pub returns-in_err-self-inside-clause-left : goal.returns-in_err-self-inside-clause-left
returns-in_err-self-inside-clause-left g c records image rest of_it left = ended (returns-in_err-self-inside-clause-moments g c records rest of_it) left

pub returns-clause-moments : goal.returns-clause-moments
returns-clause-moments g c records rest of_it =
    let gates = ap (λ (k : JournalState). k.gate) c.self.view_is in
    let stages = rw (c.bytes.ensures.bytes, gates) at (c.add.ensures.stages rest.settled) in
    widened stages _ (base_stages c.args.room.now c.args.self.now records (g.H.Host.outside c.args.host.now) rest c.requires.unrolled c.bytes.ensures.spelled of_it)

pub returns-clause-left : goal.returns-clause-left
returns-clause-left g c records image rest of_it left = ended (returns-clause-moments g c records rest of_it) left

pub returns-clause-stored : goal.returns-clause-stored
returns-clause-stored g c records rest of_it =
    let journal = c.args.self.now in
    let base = c.args.room.now in
    let gates = ap (λ (k : JournalState). k.gate) c.self.view_is in
    let is = rw (c.bytes.ensures.bytes, gates) at c.in_ok-self-inside.ensures.written in
    let size : c.self.inside.gate + length c.bytes.result.now ≡ journal.gate + (length (base_bytes base) + 5) = omega (arith, gates, ap length c.bytes.ensures.bytes, length-append (content_of (base_block base)) (0 ∷ [])) in
    let next = c.in_ok-self-inside.ensures.next ∙ size in
    rest_with_base journal _ base c.bytes.ensures.spelled c.requires.unrolled (ap (λ (k : JournalState). k.capacity) c.self.view_is) next (ap (λ (k : JournalState). k.count) c.self.view_is) refl
    (g.H.Host.outside c.args.host.now) (g.H.Host.outside c.add.new.host) is c.in_ok-self-inside.ensures.settled records rest of_it

pub returns-clause-of_disk : goal.returns-clause-of_disk
returns-clause-of_disk g c of_disk =
    let journal = c.args.self.now in
    let base = c.args.room.now in
    let gates = ap (λ (k : JournalState). k.gate) c.self.view_is in
    let is = rw (c.bytes.ensures.bytes, gates) at c.in_ok-self-inside.ensures.written in
    let size : c.self.inside.gate + length c.bytes.result.now ≡ journal.gate + (length (base_bytes base) + 5) = omega (arith, gates, ap length c.bytes.ensures.bytes, length-append (content_of (base_block base)) (0 ∷ [])) in
    let next = c.in_ok-self-inside.ensures.next ∙ size in
    of_disk_with_base journal _ base c.bytes.ensures.spelled c.requires.unrolled (ap (λ (k : JournalState). k.capacity) c.self.view_is) next (ap (λ (k : JournalState). k.count) c.self.view_is) refl
    (g.H.Host.outside c.args.host.now) (g.H.Host.outside c.add.new.host) is of_disk

pub returns-clause-gate : goal.returns-clause-gate
returns-clause-gate g c =
    next_reaches _ _ c.self.inside.gate _ c.bytes.result.now (rw (ap (λ (k : JournalState). k.gate) c.self.view_is) c.requires.gate) c.in_ok-self-inside.ensures.written c.in_ok-self-inside.ensures.next

pub returns-clause-written : goal.returns-clause-written
returns-clause-written g c = rw (c.bytes.ensures.bytes, ap (λ (k : JournalState). k.gate) c.self.view_is) at c.in_ok-self-inside.ensures.written
