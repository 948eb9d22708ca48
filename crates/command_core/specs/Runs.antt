-- What words did.
use Rattle.std.specs.Prelude.{◌≡◌, ◌⊎◌, ℕ, Bool, true, false, List, Result, Ok, Err}
use Rattle.std.specs.Io.KnownBytes.{append_known}
use Rattle.host_core.specs.declared.status.Status as status
use Rattle.host_core.specs.declared.status.Status.TheVariants as statuses
use Rattle.host_core.specs.Outside.{Outside, Elapses, Sends, Rose}
use Rattle.host_core.specs.Frames.{OnlySends}
use Rattle.journal_core.specs.Formatted.{Formatted}
use Rattle.report_core.specs.Reported.{Reported}
use Rattle.standby_core.specs.Shipped.{Shipped}
use Rattle.standby_core.specs.StoodBy.{StoodBy}
use Rattle.roll_core.specs.Rolled.{Rolled}
use Rattle.gen_core.specs.declared.plan.DayPlan.{DayPlan}
use Rattle.gen_core.specs.Sent.{SentDay}
use Rattle.rehearse_core.specs.Rehearsed.{Rehearsed}
use Rattle.live_core.specs.Served.{Served}
use Rattle.replay_core.specs.Replayed.{Replayed}
use Rattle.text_core.specs.Translated.{Printed, Packed}
use Rattle.screen_core.specs.Screened.{Screened}
use Rattle.auction_core.specs.Crossed.{HasCrossed}
use Rattle.audit_core.specs.Audited.{Audited}
use Rattle.words_core.specs.Asked.{Reads}
use Rattle.words_core.specs.declared.asked.Asked.{Asked}
use Rattle.words_core.specs.declared.asked.Asked.TheVariants as asked
use Rattle.words_core.specs.declared.asked.WordsError.{WordsError}
use Rattle.words_core.specs.declared.asked.WordsError.TheVariants as errors
use Rattle.words_core.specs.declared.command.Command.{Command}
use Rattle.words_core.specs.declared.command.Command.TheVariants.{Format, Serve, Replay, Status, Print, Pack, Generate, Roll, Board, Cross, Audit, Ship, Standby}

-- a generated day was sent, or its summary
abbrev pub Generates : DayPlan → Bool → status.Status → Outside → Outside → Type 0
Generates plan true status old new = Rehearsed plan status old new
Generates plan false status old new = SentDay plan status old new

-- what a command promises; what says that no call of the host was made is given
abbrev pub Ran : Type 0 → Command → status.Status → Outside → Outside → Type 0
Ran unbegun (Format limit) status old new = Formatted limit status old new
Ran unbegun (Serve from workers batch bytes) status old new = Served unbegun workers from batch bytes status old new
Ran unbegun (Replay workers bytes) status old new = Replayed unbegun workers bytes status old new
Ran unbegun Status status old new = Reported unbegun status old new
Ran unbegun (Print kind) status old new = Printed unbegun kind status old new
Ran unbegun (Pack kind) status old new = Packed unbegun kind status old new
Ran unbegun (Generate seed symbols records workers summary) status old new = Generates (record { seed = seed; symbols = symbols; records = records }) summary status old new
Ran unbegun Roll status old new = Rolled unbegun status old new
Ran unbegun (Board bytes) status old new = Screened unbegun bytes status old new
Ran unbegun Cross status old new = HasCrossed status old new
Ran unbegun Audit status old new = Audited status old new
Ran unbegun (Ship from) status old new = Shipped unbegun from status old new
Ran unbegun (Standby batch bytes) status old new = StoodBy unbegun batch bytes status old new

-- a text was sent, or the first of its bytes, and nothing else was done
pub record Shown (text : List ℕ) (status : status.Status) (old new : Outside) : Type 0 where
  pub exact : status ≡ statuses.Done → new.sent ≡ append_known old.sent text
  pub moments : Elapses old new (Sends text old)
  pub keeps : OnlySends old new
  pub cause : status ≡ statuses.SendFault → Rose old.send_faults new.send_faults
  pub kind : (status ≡ statuses.Done) ⊎ (status ≡ statuses.SendFault)

-- what was done, by what the words ask for
abbrev pub Did : Type 0 → Result Asked WordsError → status.Status → Outside → Outside → Type 0
Did unbegun (Ok (asked.Command command)) status old new = Ran unbegun command status old new
Did unbegun (Ok (asked.Text text)) status old new = Shown text.bytes.items status old new
Did unbegun (Err errors.Usage) status old new = (status ≡ statuses.Usage) × unbegun
Did unbegun (Err errors.NoMemory) status old new = (status ≡ statuses.NoMemory) × unbegun

-- words that are no plain line were answered as the command line says
pub record Obeyed (unbegun : Type 0) (words : List (List ℕ)) (status : status.Status) (old new : Outside) : Type 0 where
  pub answer : Result Asked WordsError
  pub reads : Reads words answer
  pub did : Did unbegun answer status old new
