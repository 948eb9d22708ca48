use Rattle.host_core.proofs.Moments.{widened, goes_on}
use Rattle.host_core.proofs.Chains.{writes_on}
use Rattle.journal_core.proofs.Appended.{first_stage, second_stage}
use Rattle.journal_core.proofs.Offsets.{first_within, second_within, still_reaches, written_whole}
use Rattle.journal_core.proofs.journal.add.Goals as goal

pub returns-in_err-store-clause-stages : goal.returns-in_err-store-clause-stages
returns-in_err-store-clause-stages g c settled = widened c.store.ensures.moments _ (first_stage _ c.args.gate c.args.content.now)

pub returns-in_err-store-2-clause-stages : goal.returns-in_err-store-2-clause-stages
returns-in_err-store-2-clause-stages g c settled =
    let first = widened c.store.ensures.moments _ (first_stage _ c.args.gate c.args.content.now) in
    goes_on first c.store-2.ensures.moments (second_stage _ (g.H.Host.outside c.store.new.host) c.args.gate c.args.content.now settled c.in_ok-store.ensures.written c.in_ok-store.ensures.settled c.store.ensures.keeps.sent c.store.ensures.moments)

pub returns-clause-stages : goal.returns-clause-stages
returns-clause-stages g c settled =
    let first = widened c.store.ensures.moments _ (first_stage _ c.args.gate c.args.content.now) in
    goes_on first c.store-2.ensures.moments (second_stage _ (g.H.Host.outside c.store.new.host) c.args.gate c.args.content.now settled c.in_ok-store.ensures.written c.in_ok-store.ensures.settled c.store.ensures.keeps.sent c.store.ensures.moments)

pub returns-in_err-store-2-clause-keeps : goal.returns-in_err-store-2-clause-keeps
returns-in_err-store-2-clause-keeps g c = writes_on c.store.ensures.keeps c.store-2.ensures.keeps

pub returns-clause-keeps : goal.returns-clause-keeps
returns-clause-keeps g c = writes_on c.store.ensures.keeps c.store-2.ensures.keeps

pub store-requires-2-clause-within : goal.store-requires-2-clause-within
store-requires-2-clause-within g c = still_reaches _ _ c.args.gate c.args.content.now c.requires.gate c.in_ok-store.ensures.written

pub returns-in_err-store-clause-within : goal.returns-in_err-store-clause-within
returns-in_err-store-clause-within g c = widened c.store.ensures.moments _ (first_within _ c.args.gate c.args.content.now)

pub returns-in_err-store-2-clause-within : goal.returns-in_err-store-2-clause-within
returns-in_err-store-2-clause-within g c =
    let first = widened c.store.ensures.moments _ (first_within _ c.args.gate c.args.content.now) in
    goes_on first c.store-2.ensures.moments (second_within c.args.gate c.args.content.now first c.store.ensures.keeps.sent)

pub returns-clause-within : goal.returns-clause-within
returns-clause-within g c =
    let first = widened c.store.ensures.moments _ (first_within _ c.args.gate c.args.content.now) in
    goes_on first c.store-2.ensures.moments (second_within c.args.gate c.args.content.now first c.store.ensures.keeps.sent)

pub returns-clause-written : goal.returns-clause-written
returns-clause-written g c = written_whole _ _ c.args.gate c.args.content.now c.requires.gate c.in_ok-store.ensures.written _ c.in_ok-store-2.ensures.written
