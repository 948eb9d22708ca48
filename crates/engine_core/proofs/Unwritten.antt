-- Runs that write nothing.
use Rattle.std.proofs.Common.{◌≡◌, ℕ, List, Option, refl, ◌∙◌}
use Rattle.host_core.specs.Outside.{Outside, Agrees, Elapses}
use Rattle.host_core.proofs.Moments.{nothing, widened, goes_on, ended}
use Rattle.stream_core.specs.Pending.{SendsPrefix}
use Rattle.engine_core.specs.Unwritten.{WritesNothing}

-- no call, calls that send, and one run after another
pub idle : (now : Outside) → ((image bytes : List ℕ) → now.leaves now.moment image bytes → Agrees now.sent bytes) → WritesNothing now now
idle now sent_now = record { disk = refl; moments = widened (nothing now sent_now) _ (λ image bytes stays. stays.was) }

pub sending : {begin : Option (List ℕ)} {text : List ℕ} {old new : Outside} → Elapses old new (SendsPrefix begin text old) → new.disk ≡ old.disk → WritesNothing old new
sending run same = record { disk = same; moments = widened run _ (λ image bytes stop. stop.was) }

pub still_nothing : {old mid new : Outside} → WritesNothing old mid → WritesNothing mid new → WritesNothing old new
still_nothing first second = record {
  disk = second.disk ∙ first.disk;
  moments = goes_on first.moments second.moments (λ image bytes left. ended first.moments left);
}
