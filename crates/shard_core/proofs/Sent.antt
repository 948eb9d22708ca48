-- The job of a part may go to another thread.
use base.Fml.{Lft}
use denote.Ref.{NamedLft}
use denote.Param.Send.{IsSend, sendable}
use mir.Syntax as Syntax
use Rattle.std.proofs.Crossing.{crosses}
use Rattle.wire_in.proofs.record.Record.TheSendSync.{the_sync as record_sync}
use Rattle.market_core.proofs.section.Section.TheSendSync.{the_send as section_send}
use Rattle.merge_core.proofs.tagged.Tagged.TheSendSync.{the_send as tagged_send}
use Rattle.shard_core.proofs.turns.Turn.TheSendSync.{the_sync as turn_sync}
use Rattle.shard_core.specs.contracts.job.PartJob.{the_row}

pub job_send : (κ : NamedLft) → IsSend (the_row κ)
job_send κ = search (sendable, crosses, record_sync, section_send, tagged_send, turn_sync) depth 20 fits 20000

-- the lifetime of what the jobs borrow
abbrev pub borrowed : Lft → NamedLft
borrowed κ = record { mir = Syntax.named 2; lft = κ }
