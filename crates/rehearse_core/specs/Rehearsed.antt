-- What a rehearsal of a generated day tells: how many of its records there are, how many are refused, and what messages the
-- others give.
use Rattle.std.specs.Prelude.{ℕ, ◌-◌, List, [], ◌∷◌, length}
use Rattle.host_core.specs.declared.status.Status.{Status}
use Rattle.host_core.specs.Outside.{Outside}
use Rattle.wire_in.specs.declared.record.Record.{Record}
use Rattle.rulebook.specs.Admission.{verdict}
use Rattle.rulebook.specs.Book.{messages_of}
use Rattle.rulebook.specs.Sent.{record_or_refusal, with_record}
use Rattle.gen_core.specs.declared.plan.DayPlan.{DayPlan}
use Rattle.gen_core.specs.Generated.{generated}
use Rattle.gen_core.specs.Tallies.{tally_of}
use Rattle.gen_core.specs.SummaryLines.{summary_lines}
use Rattle.gen_core.specs.Sent.{SendsText}
use Rattle.replay_core.specs.Replayed.{capacity}

-- the accepted records, the newest first, behind these and after more, of which each is accepted where it may follow
abbrev pub accepted_after : List Record → List Record → List Record
accepted_after held [] = held
accepted_after held (x ∷ later) = accepted_after (with_record held (record_or_refusal x (verdict capacity held x))) later

-- the lines of so many records, of which these were accepted
abbrev pub lines_for : ℕ → List Record → List ℕ
lines_for records accepted = summary_lines records (records - length accepted) (tally_of (messages_of accepted))

-- the lines of a plan's records
unfoldable pub summary_of : DayPlan → List ℕ
summary_of plan = lines_for (length (generated plan)) (accepted_after [] (generated plan))

-- these lines were sent
abbrev pub Rehearsed : DayPlan → Status → Outside → Outside → Type 0
Rehearsed plan status old new = SendsText (summary_of plan) status old new
