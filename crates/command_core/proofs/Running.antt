-- What a run did, by its words.
use Rattle.std.proofs.Common.{◌≡◌, ℕ, List, true, false, subst, arith}
use Rattle.std.specs.Prelude.{◌≢◌, Result, Ok, Err}
use Rattle.host_core.specs.declared.status.Status as status
use Rattle.host_core.specs.declared.status.Status.TheVariants as statuses
use Rattle.host_core.specs.Outside.{Outside}
use Rattle.words_core.specs.declared.asked.Asked.{Asked}
use Rattle.words_core.specs.declared.asked.Asked.TheVariants as asked
use Rattle.words_core.specs.declared.asked.WordsError.{WordsError}
use Rattle.words_core.specs.declared.asked.WordsError.TheVariants as errors
use Rattle.words_core.specs.declared.command.Command.{Command}
use Rattle.words_core.specs.declared.command.Command.TheVariants.{Format, Serve, Replay, Status, Print, Pack, Generate, Roll, Board, Cross, Audit, Ship, Standby}
use Rattle.auction_core.specs.Texts.{lines_of}
use Rattle.auction_core.proofs.Texting.{lines_have_text}
use Rattle.command_core.specs.Runs.{Ran, Did, Obeyed}

-- a command never answers Usage
pub understood : (unbegun : Type 0) (command : Command) (status : status.Status) (old new : Outside) → Ran unbegun command status old new → status ≢ statuses.Usage
understood unbegun (Format limit) status old new ran is = grind (arith, ran.kind, is)
understood unbegun (Serve from workers batch bytes) status old new ran is = grind (arith, ran.kind, is)
understood unbegun (Replay workers bytes) status old new ran is = grind (arith, ran.kind, is)
understood unbegun Status status old new ran is = grind (arith, ran.kind, is)
understood unbegun (Print kind) status old new ran is = grind (arith, ran.kind, is)
understood unbegun (Pack kind) status old new ran is = grind (arith, ran.kind, is)
understood unbegun (Generate seed symbols records workers true) status old new ran is = grind (arith, ran.kind, is)
understood unbegun (Generate seed symbols records workers false) status old new ran is = grind (arith, ran.kind, is)
understood unbegun Roll status old new ran is = grind (arith, ran.kind, is)
understood unbegun (Board bytes) status old new ran is = grind (arith, ran.kind, is)
understood unbegun Cross status old new ran is =
    let texts = λ (input : List ℕ). lines_have_text (lines_of input) in
    grind (arith, (ran (λ input. (texts input).0) (λ input. (texts input).1)).kind, is)
understood unbegun Audit status old new ran is = grind (arith, ran.kind, is)
understood unbegun (Ship from) status old new ran is = grind (arith, ran.kind, is)
understood unbegun (Standby batch bytes) status old new ran is = grind (arith, ran.kind, is)

-- where the answer is Usage, no call was made
pub untouched : (unbegun : Type 0) (answer : Result Asked WordsError) (status : status.Status) (old new : Outside) → Did unbegun answer status old new → status ≡ statuses.Usage → unbegun
untouched unbegun (Ok (asked.Command command)) status old new did is = absurd (understood unbegun command status old new did is)
untouched unbegun (Ok (asked.Text text)) status old new did is = absurd (grind (arith, did.kind, is))
untouched unbegun (Err errors.Usage) status old new did is = did.1
untouched unbegun (Err errors.NoMemory) status old new did is = did.1
