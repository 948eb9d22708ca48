-- What a call leaves as it was, by what it may do.
use Rattle.std.specs.Prelude.{◌≡◌, ℕ, List}
use Rattle.host_core.specs.Outside.{Outside, MayLeave, Elapses, Stays, Continues}

-- the input is read, and nothing else
pub record OnlyReadsInput (old new : Outside) : Type 0 where
  pub sent : new.sent ≡ old.sent
  pub disk : new.disk ≡ old.disk
  pub moments : Elapses old new (Stays old)
  pub send_faults : new.send_faults ≡ old.send_faults
  pub disk_faults : new.disk_faults ≡ old.disk_faults
  pub continues : Continues old new

-- the disk is read or synced, and nothing else
pub record OnlyReadsDisk (old new : Outside) : Type 0 where
  pub input : new.input ≡ old.input
  pub asks : new.asks ≡ old.asks
  pub sent : new.sent ≡ old.sent
  pub disk : new.disk ≡ old.disk
  pub moments : Elapses old new (Stays old)
  pub read_faults : new.read_faults ≡ old.read_faults
  pub send_faults : new.send_faults ≡ old.send_faults
  pub continues : Continues old new

-- bytes are sent, and nothing else: what a stop may leave of the disk now, it might have left before
pub record OnlySends (old new : Outside) : Type 0 where
  pub input : new.input ≡ old.input
  pub asks : new.asks ≡ old.asks
  pub disk : new.disk ≡ old.disk
  pub left : (image : List ℕ) → MayLeave new image → MayLeave old image
  pub read_faults : new.read_faults ≡ old.read_faults
  pub disk_faults : new.disk_faults ≡ old.disk_faults
  pub continues : Continues old new

-- the disk is written and synced, and nothing else
pub record OnlyWrites (old new : Outside) : Type 0 where
  pub input : new.input ≡ old.input
  pub asks : new.asks ≡ old.asks
  pub sent : new.sent ≡ old.sent
  pub read_faults : new.read_faults ≡ old.read_faults
  pub send_faults : new.send_faults ≡ old.send_faults
  pub continues : Continues old new
