-- The part of a buffer that was read ahead.
use Rattle.std.specs.Prelude.{◌≡◌, ℕ, ◌≤◌, List, length}

-- it lies in the buffer, which has room for the greatest read
pub record IsWithin (start end : ℕ) (buffer : List ℕ) : Type 0 where
  pub order : start ≤ end
  pub room : end ≤ length buffer
  pub size : length buffer ≡ 65536
