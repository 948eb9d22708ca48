-- The reads of a session, and of its next polls.
use Rattle.std.proofs.Common.{◌≡◌, ℕ, List, Option}
use Rattle.host_core.specs.Outside.{Ask}
use Rattle.stream_core.proofs.Asking as asking
use Rattle.engine_core.specs.Sessions.{Start, Prompt, answers_to}

-- nothing was read
pub no_ask : (start : Start) (input : List ℕ) {old new : Option (List Ask)} → new ≡ old → Prompt start input old new
no_ask start = asking.no_ask (answers_to start) start.sent

-- the reads of a run, and then those of the next
pub more_asks : (start : Start) (input : List ℕ) {old mid new : Option (List Ask)} → Prompt start input old mid → Prompt start input mid new → Prompt start input old new
more_asks start = asking.more_asks (answers_to start) start.sent
