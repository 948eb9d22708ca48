-- When the input was read, and what had been sent by then.
use Rattle.std.specs.Prelude.{◌≡◌, ℕ, ◌≤◌, List, [], ◌∷◌, ◌++◌, length, take, drop, Option, Some}
use Rattle.std.specs.Io.KnownBytes.{append_known}
use Rattle.host_core.specs.Outside.{Ask}

-- When a read began, some of the first bytes of the input had been read, and since begin the text that they give, no more
-- and no less, had been sent.
pub record IsPrompt (text : List ℕ → List ℕ) (begin : Option (List ℕ)) (input : List ℕ) (ask : Ask) : Type 0 where
  pub count : ℕ
  pub within : count ≤ length input
  pub left_is : ask.left ≡ drop count input
  pub sent_is : Some ask.sent ≡ append_known begin (text (take count input))

-- each of these reads was so
abbrev pub AllPrompt : (List ℕ → List ℕ) → Option (List ℕ) → List ℕ → List Ask → Type 0
AllPrompt text begin input [] = Unit {0}
AllPrompt text begin input (ask ∷ asks) = IsPrompt text begin input ask × AllPrompt text begin input asks

-- behind the reads from before stand those of the run, and each began when the text of all that was read had been sent
abbrev pub Prompt : (List ℕ → List ℕ) → Option (List ℕ) → List ℕ → Option (List Ask) → Option (List Ask) → Type 0
Prompt text begin input old new = (before : List Ask) (sent : List ℕ) → old ≡ Some before → begin ≡ Some sent
    → (since : List Ask) × (new ≡ Some (before ++ since)) × AllPrompt text begin input since
