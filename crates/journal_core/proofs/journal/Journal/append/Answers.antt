use Rattle.std.proofs.Common.{◌≡◌, ◌+◌, [], ◌∷◌, ◌++◌, refl, length, ap, arith, length-append}
use Rattle.host_core.proofs.Moments.{nothing, widened, ended}
use Rattle.host_core.proofs.Chains.{writes_nothing}
use Rattle.journal_core.specs.Journal.{JournalState}
use Rattle.journal_core.specs.Layout.{content}
use Rattle.journal_core.proofs.Appended.{settled_at, before_steps}
use Rattle.journal_core.proofs.Offsets.{none_within, next_reaches, of_disk_with_batch, rest_with_batch}
use Rattle.journal_core.proofs.journal.Journal.append.Goals as goal

pub returns-then-len-saturating_sub-clause-moments :
    goal.returns-then-len-saturating_sub-clause-moments
returns-then-len-saturating_sub-clause-moments g c records rest =
    let journal = c.args.self.now in
    widened (nothing (g.H.Host.outside c.args.host.now) (g.met.H.Host.sent_now c.args.host.now)) _
    (before_steps _ journal.capacity journal.gate records c.args.batch.now (settled_at journal _ (λ _. journal.gate) rest))

pub returns-in_err-self-inside-clause-moments : goal.returns-in_err-self-inside-clause-moments
returns-in_err-self-inside-clause-moments g c records rest =
    rw (← c.list.ensures.records, ← ap (λ (k : JournalState). k.gate) c.self.view_is) (c.add_batch.ensures.moments c.args.self.now.capacity records (settled_at c.args.self.now _ (ap (λ (k : JournalState). k.gate) c.self.view_is) rest))

pub returns-clause-moments : goal.returns-clause-moments
returns-clause-moments g c records rest =
    rw (← c.list.ensures.records, ← ap (λ (k : JournalState). k.gate) c.self.view_is) (c.add_batch.ensures.moments c.args.self.now.capacity records (settled_at c.args.self.now _ (ap (λ (k : JournalState). k.gate) c.self.view_is) rest))

pub returns-clause-stored : goal.returns-clause-stored
returns-clause-stored g c records rest =
    let journal = c.args.self.now in
    let batch = c.args.batch.now in
    let gates = ap (λ (k : JournalState). k.gate) c.self.view_is in
    let valid = rw c.list.ensures.records at c.in_ok-self-inside.ensures.valid in
    let next = rw (c.list.ensures.records, gates) at c.in_ok-self-inside.ensures.offset in
    let is = rw (c.list.ensures.records, gates) at c.in_ok-self-inside.ensures.written in
    let counts : c.self.inside.count + c.len-2.result ≡ journal.count + length batch = omega (arith, ap (λ (k : JournalState). k.count) c.self.view_is, c.len-2.ensures.len) in
    rest_with_batch journal _ batch valid (ap (λ (k : JournalState). k.capacity) c.self.view_is) next counts refl (g.H.Host.outside c.args.host.now) (g.H.Host.outside c.add_batch.new.host) is c.in_ok-self-inside.ensures.settled records rest

pub returns-clause-of_disk : goal.returns-clause-of_disk
returns-clause-of_disk g c of_disk =
    let journal = c.args.self.now in
    let batch = c.args.batch.now in
    let gates = ap (λ (k : JournalState). k.gate) c.self.view_is in
    let valid = rw c.list.ensures.records at c.in_ok-self-inside.ensures.valid in
    let next = rw (c.list.ensures.records, gates) at c.in_ok-self-inside.ensures.offset in
    let is = rw (c.list.ensures.records, gates) at c.in_ok-self-inside.ensures.written in
    let counts : c.self.inside.count + c.len-2.result ≡ journal.count + length batch = omega (arith, ap (λ (k : JournalState). k.count) c.self.view_is, c.len-2.ensures.len) in
    of_disk_with_batch journal _ batch valid (ap (λ (k : JournalState). k.capacity) c.self.view_is) next counts refl (g.H.Host.outside c.args.host.now) (g.H.Host.outside c.add_batch.new.host) is of_disk

pub returns-then-len-saturating_sub-clause-left : goal.returns-then-len-saturating_sub-clause-left
returns-then-len-saturating_sub-clause-left g c records image rest left = (ended (returns-then-len-saturating_sub-clause-moments g c records rest) left).holds

pub returns-in_err-self-inside-clause-left : goal.returns-in_err-self-inside-clause-left
returns-in_err-self-inside-clause-left g c records image rest left = (ended (returns-in_err-self-inside-clause-moments g c records rest) left).holds

pub returns-clause-left : goal.returns-clause-left
returns-clause-left g c records image rest left = (ended (returns-clause-moments g c records rest) left).holds

pub returns-then-len-saturating_sub-clause-keeps : goal.returns-then-len-saturating_sub-clause-keeps
returns-then-len-saturating_sub-clause-keeps g c = writes_nothing (g.H.Host.outside c.args.host.now)

pub returns-then-len-saturating_sub-clause-within : goal.returns-then-len-saturating_sub-clause-within
returns-then-len-saturating_sub-clause-within g c = widened (nothing (g.H.Host.outside c.args.host.now) (g.met.H.Host.sent_now c.args.host.now)) _ (none_within _ _ _)

pub returns-in_err-self-inside-clause-within : goal.returns-in_err-self-inside-clause-within
returns-in_err-self-inside-clause-within g c =
    rw (← c.list.ensures.records, ← ap (λ (k : JournalState). k.gate) c.self.view_is) c.add_batch.ensures.within

pub returns-clause-within : goal.returns-clause-within
returns-clause-within g c =
    rw (← c.list.ensures.records, ← ap (λ (k : JournalState). k.gate) c.self.view_is) c.add_batch.ensures.within

pub returns-clause-gate : goal.returns-clause-gate
returns-clause-gate g c =
    next_reaches _ _ c.self.inside.gate _ (content c.list.result.now ++ 0 ∷ []) (rw (ap (λ (k : JournalState). k.gate) c.self.view_is) c.requires.gate) c.in_ok-self-inside.ensures.written
    (omega (arith, c.in_ok-self-inside.ensures.offset, length-append (content c.list.result.now) (0 ∷ [])))
