-- Messages of several lists in one order.
use Rattle.std.specs.Prelude.{◌≡◌, ℕ, zero, suc, ◌+◌, ◌==◌, ◌<◌, min, List, [], ◌++◌, All, filter, flat_map, map}
use Rattle.merge_core.specs.declared.tagged.Tagged.{Tagged}

-- the messages of one input, in their order
abbrev pub of_input : ℕ → List Tagged → List Tagged
of_input input messages = filter (λ message. message.input == input) messages

-- the messages of the first inputs: input by input, and of each input list by list
unfoldable pub merged : ℕ → List (List Tagged) → List Tagged
merged zero lists = []
merged (suc input) lists = merged input lists ++ flat_map (of_input input) lists

-- each message is of one of the first inputs
abbrev pub AreOfFirst : ℕ → List (List Tagged) → Type 0
AreOfFirst inputs lists = All (All (λ message. message.input < inputs)) lists

-- messages whose indexes lie so many further on; indexes behind the last 32-bit number would be that number
abbrev pub further : ℕ → List Tagged → List Tagged
further first messages = map (λ message. record { input = min (first + message.input) 4294967295; stamped = message.stamped }) messages

-- messages begin with those before, and go on
pub record GoesOn (before after : List Tagged) : Type 0 where
  pub more : List Tagged
  pub items : after ≡ before ++ more
