-- Lists of which one gives the next message. Private words: no public clause cites them.
use Rattle.std.specs.Prelude.{◌≡◌, ℕ, ◌<◌, ◌≤◌, List, [], ◌∷◌, length, map, flat_map, slice_index_or}
use Rattle.std.specs.List.{All, AllWithin}
use Rattle.std.specs.List.Sorted.{IsNonDecreasingBy}
use Rattle.std.specs.Borrow.{Bor}
use Rattle.merge_core.specs.declared.tagged.Tagged.{Tagged}

-- slices of messages
abbrev pub Lists : Type 0
Lists = List (Bor (List Tagged))

-- their lists
abbrev pub nows : Lists → List (List Tagged)
nows lists = map (λ list. list.now) lists

-- all their messages, one list behind the other
abbrev pub all_of : Lists → List Tagged
all_of lists = flat_map (λ list. list.now) lists

-- the messages of each list never fall in their inputs
abbrev pub Rise : Lists → Type 0
Rise lists = All (λ list. IsNonDecreasingBy (λ message. message.input) list.now) lists

-- the input of the next message, or the least number above all inputs
abbrev pub next_input : List Tagged → ℕ
next_input [] = 4294967296
next_input (message ∷ more) = message.input

-- the list at a place begins with a message whose input is the least of those up to an end, and no list before it has that input
pub record GivesNext (nth end least : ℕ) (lists : Lists) : Type 0 where
  pub within : nth < length lists
  pub some : (d : Bor (List Tagged)) → 0 < length (slice_index_or lists nth d).now
  pub next : (d : Bor (List Tagged)) (e : Tagged) → (slice_index_or (slice_index_or lists nth d).now 0 e).input ≡ least
  pub before : AllWithin (λ list. All (λ message. least < message.input) list.now) lists 0 nth
  pub all : AllWithin (λ list. All (λ message. least ≤ message.input) list.now) lists 0 end

-- the list at a place gives the next message of all lists
pub record IsFirstOfLeast (lists : Lists) (nth : ℕ) : Type 0 where
  pub least : ℕ
  pub gives : GivesNext nth (length lists) least lists
