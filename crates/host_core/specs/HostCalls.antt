-- What each call of a host does, whether it answers Ok or Failed.
use Rattle.std.specs.Prelude.{◌≡◌, ℕ, ◌<◌, ◌^◌, List, length, take, drop, Some, option_map, Result, MatchResult, IfOk, OnOk, OnErr}
use Rattle.host_core.specs.declared.failed.Failed.{Failed}
use Rattle.host_core.specs.Outside.{Outside, Agrees, Elapses, Changes, Sends, IsSettled, written, Torn, Takes, Grows, Rose, Asks}
use Rattle.host_core.specs.Frames.{OnlyReadsInput, OnlyReadsDisk, OnlySends, OnlyWrites}

-- a prefix of the input is taken, none of it only at its end
pub record ReadsInput (result : Result ℕ Failed) (into : List ℕ) (old new : Outside) : Type 0 where
  pub read : MatchResult result (λ n. Takes old.input new.input into n) (λ _. new.input ≡ old.input)
  pub asks : MatchResult result (λ _. Asks old new) (λ _. new.asks ≡ old.asks)
  pub keeps : OnlyReadsInput old new
  pub cause : OnErr result (Rose old.read_faults new.read_faults)
  pub faultless : OnOk result (new.read_faults ≡ old.read_faults)

-- the first bytes of the piece are sent, at least one where it answers Ok; a call that failed may have sent some too
pub record SendsPiece (result : Result ℕ Failed) (piece : List ℕ) (old new : Outside) : Type 0 where
  pub sent : MatchResult result (λ n. (0 < n) × Grows old.sent new.sent piece n) (λ _. (n : ℕ) × Grows old.sent new.sent piece n)
  pub moments : Elapses old new (Sends piece old)
  pub keeps : OnlySends old new
  pub cause : OnErr result (Rose old.send_faults new.send_faults)
  pub faultless : OnOk result (new.send_faults ≡ old.send_faults)

-- the length of what a read of the disk gives
pub record MeasuresDisk (result : Result ℕ Failed) (old new : Outside) : Type 0 where
  pub len : IfOk result (λ n. (n < 2 ^ 63) × ((disk : List ℕ) → old.disk ≡ Some disk → n ≡ length disk))
  pub keeps : OnlyReadsDisk old new
  pub cause : OnErr result (Rose old.disk_faults new.disk_faults)
  pub faultless : OnOk result (new.disk_faults ≡ old.disk_faults)

-- as many bytes of the disk as the buffer takes, from an offset on
pub record ReadsDisk (result : Result (Unit {0}) Failed) (at many : ℕ) (into : List ℕ) (old new : Outside) : Type 0 where
  pub bytes : OnOk result (Agrees (option_map (λ disk. take many (drop at disk)) old.disk) into)
  pub keeps : OnlyReadsDisk old new
  pub cause : OnErr result (Rose old.disk_faults new.disk_faults)
  pub faultless : OnOk result (new.disk_faults ≡ old.disk_faults)

-- The piece stands at the offset where it answers Ok. Until a sync, a stop may leave any bytes in its range, also where
-- it failed.
pub record WritesDisk (result : Result (Unit {0}) Failed) (at : ℕ) (piece : List ℕ) (old new : Outside) : Type 0 where
  pub written_is : OnOk result (new.disk ≡ option_map (written at piece) old.disk)
  pub moments : Elapses old new (Changes (Torn at (length piece)) old)
  pub keeps : OnlyWrites old new
  pub cause : OnErr result (Rose old.disk_faults new.disk_faults)
  pub faultless : OnOk result (new.disk_faults ≡ old.disk_faults)

-- after it a stop leaves what a read gives; a sync that failed changes nothing
pub record SyncsDisk (result : Result (Unit {0}) Failed) (old new : Outside) : Type 0 where
  pub settled : OnOk result (IsSettled new)
  pub keeps : OnlyReadsDisk old new
  pub cause : OnErr result (Rose old.disk_faults new.disk_faults)
  pub faultless : OnOk result (new.disk_faults ≡ old.disk_faults)
