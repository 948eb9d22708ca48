-- The outside as a program meets it: an input, a sink and a disk, under one clock.
use Rattle.std.specs.Prelude.{◌≡◌, ℕ, ◌+◌, ◌-◌, ◌^◌, ◌≤◌, min, List, [], ◌∷◌, ◌++◌, length, take, drop, Option, Some, is_some, option_map}
use Rattle.std.specs.Io.KnownBytes.{append_known}

-- a read of the input: the bytes that were left when it began, and those that had been sent by then
pub record Ask : Type 0 where
  pub left : List ℕ
  pub sent : List ℕ

-- What a host exposes at a moment: the bytes that are left to read, those that were sent, what a read of the
-- disk gives, and the reads of the input that were made, the first one first. `leaves k image bytes` says that a
-- stop at moment k, now or earlier, may leave that image of the disk, and that these bytes had been sent by then.
-- The counts of faults are always known.
pub record Outside : Type 1 where
  pub input : Option (List ℕ)
  pub sent : Option (List ℕ)
  pub disk : Option (List ℕ)
  pub asks : Option (List Ask)
  pub moment : ℕ
  pub leaves : ℕ → List ℕ → List ℕ → Type 0
  pub read_faults : ℕ
  pub send_faults : ℕ
  pub disk_faults : ℕ

-- where something is known, it is these bytes
abbrev pub Agrees : Option (List ℕ) → List ℕ → Type 0
Agrees known bytes = (content : List ℕ) → known ≡ Some content → bytes ≡ content

-- a stop now may leave that image
pub record MayLeave (now : Outside) (image : List ℕ) : Type 0 where
  pub bytes : List ℕ
  pub left : now.leaves now.moment image bytes

-- at some moment from that one up to now, a stop may leave that image when these bytes had been sent
pub record Stop (now : Outside) (from : ℕ) (image bytes : List ℕ) : Type 0 where
  pub moment : ℕ
  pub after : from ≤ moment
  pub before : moment ≤ now.moment
  pub left : now.leaves moment image bytes

-- Time goes on from old to new. What might have been at earlier moments stays as it was,
-- and each stop from old on is one of these.
pub record Elapses (old new : Outside) (stops : List ℕ → List ℕ → Type 0) : Type 0 where
  pub later : old.moment ≤ new.moment
  pub kept : (k : ℕ) (image bytes : List ℕ) → k ≤ old.moment → old.leaves k image bytes → new.leaves k image bytes
  pub no_more : (k : ℕ) (image bytes : List ℕ) → k ≤ old.moment → new.leaves k image bytes → old.leaves k image bytes
  pub during : (image bytes : List ℕ) → Stop new old.moment image bytes → stops image bytes

-- A run that returned is one that was stopped at its end: these stops allow what a read gives now and what was sent.
pub record Ends (stops : List ℕ → List ℕ → Type 0) (now : Outside) : Type 0 where
  pub image : List ℕ
  pub bytes : List ℕ
  pub disk_known : now.disk ≡ Some image
  pub sent_known : now.sent ≡ Some bytes
  pub left : stops image bytes

-- a stop leaves an image as before, and nothing more was sent
pub record Stays (old : Outside) (image bytes : List ℕ) : Type 0 where
  pub was : MayLeave old image
  pub sent : Agrees old.sent bytes

-- a stop leaves an image that a change made of one from before, and nothing more was sent
pub record Changes (change : List ℕ → List ℕ → Type 0) (old : Outside) (image bytes : List ℕ) : Type 0 where
  pub before : List ℕ
  pub was : MayLeave old before
  pub changed : change before image
  pub sent : Agrees old.sent bytes

-- a stop leaves an image as before, and a prefix of the piece was sent behind the earlier bytes
pub record Sends (piece : List ℕ) (old : Outside) (image bytes : List ℕ) : Type 0 where
  pub was : MayLeave old image
  pub count : ℕ
  pub within : count ≤ length piece
  pub sent : Agrees (append_known old.sent (take count piece)) bytes

-- nothing is pending: a stop leaves what a read gives
pub record IsSettled (now : Outside) : Type 0 where
  pub only : (image : List ℕ) → MayLeave now image → now.disk ≡ Some image

-- the bytes with a piece from an offset on
abbrev pub written : ℕ → List ℕ → List ℕ → List ℕ
written at piece old = take at old ++ piece ++ drop (at + length piece) old

-- After a write of n bytes that a stop cuts short: what stood outside the range stands, the image is no shorter,
-- and any bytes stand in the range and past the old end.
pub record Torn (at n : ℕ) (old new : List ℕ) : Type 0 where
  pub rest : List ℕ
  pub before : new ≡ take at old ++ rest
  pub more : List ℕ
  pub after : drop (at + n) new ≡ drop (at + n) old ++ more
  pub no_shorter : length old ≤ length new

-- a prefix of n bytes of the input was taken, none only at its end
pub record Takes (old new : Option (List ℕ)) (into : List ℕ) (n : ℕ) : Type 0 where
  pub bound : n ≤ length into
  pub left : new ≡ option_map (λ input. drop n input) old
  pub given : (input : List ℕ) → old ≡ Some input → take n into ≡ take n input
  pub there : (input : List ℕ) → old ≡ Some input → n ≤ length input
  pub end : (input : List ℕ) → old ≡ Some input → n ≡ 0 → input ≡ []

-- the first n bytes of the piece were sent
pub record Grows (old new : Option (List ℕ)) (piece : List ℕ) (n : ℕ) : Type 0 where
  pub bound : n ≤ length piece
  pub bytes : new ≡ append_known old (take n piece)

-- a count with one more, up to the greatest of 64 bits
abbrev pub raised : ℕ → ℕ
raised count = min (count + 1) (2 ^ 64 - 1)

-- a count is greater than before, or stands at its end
abbrev pub Rose : ℕ → ℕ → Type 0
Rose before now = raised before ≤ now

-- what each call keeps: no count of faults falls, and what is known stays known
pub record Continues (old new : Outside) : Type 0 where
  pub reading : old.read_faults ≤ new.read_faults
  pub sending : old.send_faults ≤ new.send_faults
  pub storing : old.disk_faults ≤ new.disk_faults
  pub input : is_some new.input ≡ is_some old.input
  pub sent : is_some new.sent ≡ is_some old.sent
  pub disk : is_some new.disk ≡ is_some old.disk

-- no count of faults rose
pub record NoFault (old new : Outside) : Type 0 where
  pub reading : new.read_faults ≡ old.read_faults
  pub sending : new.send_faults ≡ old.send_faults
  pub storing : new.disk_faults ≡ old.disk_faults

-- a host that exposes its reads made one more, which began as it stood before
abbrev pub Asks : Outside → Outside → Type 0
Asks old new = (left sent : List ℕ) → old.input ≡ Some left → old.sent ≡ Some sent
    → new.asks ≡ option_map (λ asks. asks ++ record { left = left; sent = sent } ∷ []) old.asks

-- a host exposes this input and this disk, nothing was sent, nothing is pending, and nothing has failed
pub record Starts (input disk : List ℕ) (now : Outside) : Type 0 where
  pub input_known : now.input ≡ Some input
  pub sent_known : now.sent ≡ Some []
  pub disk_known : now.disk ≡ Some disk
  pub settled : IsSettled now
  pub no_read_fault : now.read_faults ≡ 0
  pub no_send_fault : now.send_faults ≡ 0
  pub no_disk_fault : now.disk_faults ≡ 0

-- a host exposes the same as before
pub record ExposesTheSame (old new : Outside) : Type 0 where
  pub input : new.input ≡ old.input
  pub sent : new.sent ≡ old.sent
  pub disk : new.disk ≡ old.disk
  pub moment : new.moment ≡ old.moment
  pub kept : (k : ℕ) (image bytes : List ℕ) → old.leaves k image bytes → new.leaves k image bytes
  pub no_more : (k : ℕ) (image bytes : List ℕ) → new.leaves k image bytes → old.leaves k image bytes
  pub read_faults : new.read_faults ≡ old.read_faults
  pub send_faults : new.send_faults ≡ old.send_faults
  pub disk_faults : new.disk_faults ≡ old.disk_faults
