-- What a session writes.
use Rattle.std.specs.Prelude.{◌≡◌, ◌⊎◌, ℕ, ◌≤◌, List, length, take, Option, Some}
use Rattle.host_core.specs.Outside.{Outside, MayLeave, Elapses, Ends}
use Rattle.wire_in.specs.Cutting.{bodies_of}
use Rattle.journal_core.specs.Layout.{HoldsTo}
use Rattle.journal_core.specs.Walk.{HasNoHeader}
use Rattle.journal_core.specs.Extended.{Extends, IsGrown}
use Rattle.engine_core.specs.Sessions.{held_after}
use Rattle.engine_core.specs.Serving.{IsKeeping}
use Rattle.engine_core.specs.Unwritten.{WritesNothing, AcceptsNone}
use Rattle.live_core.specs.Safe.{Begin, Begins, start_of}

-- An image that grew by batches from one that a stop at the start might have left, which held the records from before. It holds
-- them and those that some of the first frames of these bodies gave, and at most the batch of the next accepted ones is pending,
-- which has at most so many.
pub record HasGrown (batch : ℕ) (begin : Begin) (bodies : List (List ℕ)) (old : Outside) (image : List ℕ) : Type 0 where
  pub before : List ℕ
  pub was : MayLeave old before
  pub gate : ℕ
  pub held : HoldsTo begin.capacity gate begin.held before
  pub count : ℕ
  pub within : count ≤ length bodies
  pub grown : IsKeeping batch (λ records pending image. IsGrown begin.capacity gate batch records pending before image) (start_of begin) bodies (held_after (start_of begin) (take count bodies)) image

-- a session that was served from that message on, by batches of at most so many frames, up to so many bytes
pub record Written (from : Option ℕ) (batch most : ℕ) (old new : Outside) : Type 0 where
  -- The file is the header, the batches and the closed gate as they are spelled, and behind them what stood there before. No batch
  -- that was written has more records than a batch may have frames.
  pub extends : Extends batch old new
  -- where no record of the input is accepted, nothing is written, whatever the answer
  pub unwritten : (begin : Begin) (input : List ℕ) → begin.from ≡ from → Begins begin input old → AcceptsNone (start_of begin) (bodies_of (take most input)) → WritesNothing old new
  -- nor where there is no journal
  pub headless : (disk : List ℕ) → old.disk ≡ Some disk → HasNoHeader disk → WritesNothing old new
  -- Whenever it is stopped, the image is one that a stop at the start might have left, or differs from one only in the range of
  -- the batches of accepted frames: of those whose records it holds, and at most of the next.
  pub stops : (begin : Begin) (input : List ℕ) → begin.from ≡ from → Begins begin input old → Elapses old new (λ image bytes. MayLeave old image ⊎ HasGrown batch begin (bodies_of (take most input)) old image)
  -- a run that returned is one that was stopped at its end, also after a fault of the disk
  pub at_return : (begin : Begin) (input : List ℕ) → begin.from ≡ from → Begins begin input old → Ends (λ image bytes. MayLeave old image ⊎ HasGrown batch begin (bodies_of (take most input)) old image) new
