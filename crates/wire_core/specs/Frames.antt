-- Frames, and how they are written into a buffer.
use Rattle.std.specs.Prelude.{◌≡◌, ℕ, ◌+◌, ◌≤◌, List, ◌∷◌, ◌++◌, length, take, drop}

-- a frame is the length of its body in one byte, and the body
abbrev pub framed : List ℕ → List ℕ
framed body = length body ∷ body

-- bytes were written at an offset; what stands before and behind them is kept
pub record Puts (bytes : List ℕ) (at : ℕ) (old : List ℕ) (next : ℕ) (new : List ℕ) : Type 0 where
  pub behind : next ≡ at + length bytes
  pub prefix : take next new ≡ take at old ++ bytes
  pub rest : (k : ℕ) → next ≤ k → drop k new ≡ drop k old

-- a frame was written at the begin; what stands behind it is kept
pub record Frames (frame old : List ℕ) (len : ℕ) (new : List ℕ) : Type 0 where
  pub whole : len ≡ length frame
  pub prefix : take len new ≡ frame
  pub rest : drop len new ≡ drop len old
