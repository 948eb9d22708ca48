-- What is known of an open file.
use Rattle.std.specs.Prelude.{◌≡◌, ℕ, Bool, true, false, List, [], Option, Some, None}
use Rattle.host_core.specs.Outside.{Torn}

-- what a read gives, what a read gave at the last sync that was done, each where it is known; whether whoever opened the file holds
-- it, so that nobody else who holds files reads or writes it; and whether a sync of it failed, after which what was written before
-- may be lost
pub record FileState : Type 0 where
  pub bytes : Option (List ℕ)
  pub synced : Option (List ℕ)
  pub is_held : Bool
  pub has_failed : Bool

-- a file of the system, of which no more is known than whether a sync of it failed
abbrev pub untold : Bool → FileState
untold has_failed = record { bytes = None; synced = None; is_held = true; has_failed = has_failed }

-- what is known of a file that isn't there: it has no bytes, nothing waits for a sync, and none failed
pub record IsAbsent (state : FileState) : Type 0 where
  pub bytes : (content : List ℕ) → state.bytes ≡ Some content → content ≡ []
  pub synced : state.synced ≡ state.bytes
  pub sound : state.has_failed ≡ false

-- What a read gives after a write of n bytes at an offset failed: any bytes in its range and past the old end, and outside of
-- them what stood there.
pub record IsTorn (at n : ℕ) (content : List ℕ) (known : Option (List ℕ)) : Type 0 where
  pub after : List ℕ
  pub read : known ≡ Some after
  pub torn : Torn at n content after
