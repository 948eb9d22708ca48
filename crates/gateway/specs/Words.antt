-- What the words of a process ask for.
use Rattle.std.specs.Prelude.{◌≡◌, ◌≢◌, ◌⊎◌, ℕ, ◌≤◌, List, [], ◌∷◌, codes, decimal, Option, Some, None}
use Rattle.gateway.specs.declared.words.Request.{Request}
use Rattle.gateway.specs.declared.words.Request.TheVariants.{Day, Pace}

-- no count has this word
abbrev pub IsNoCount : List ℕ → Type 0
IsNoCount word = (count : ℕ) → 1 ≤ count → count ≤ 100000000 → word ≢ decimal count

-- the count that two words name: the decimal number behind pace
abbrev pub NamesCount : List ℕ → List ℕ → Option ℕ → Type 0
NamesCount word number (Some count) = (word ≡ codes "pace") × (1 ≤ count) × (count ≤ 100000000) × (number ≡ decimal count)
NamesCount word number None = (word ≢ codes "pace") ⊎ IsNoCount number

-- what two words ask for: the pace of the count that they name
abbrev pub AsksPace : List ℕ → List ℕ → Option Request → Type 0
AsksPace word number (Some Day) = ⊥
AsksPace word number (Some (Pace count)) = NamesCount word number (Some count)
AsksPace word number None = NamesCount word number None

-- the program's own name stands before its words; without any they ask for the day
abbrev pub Asks : List (List ℕ) → Option Request → Type 0
Asks (name ∷ []) request = request ≡ Some Day
Asks (name ∷ word ∷ number ∷ []) request = AsksPace word number request
Asks words request = request ≡ None

-- no more calls are asked for than are measured
abbrev pub IsWithin : Request → Type 0
IsWithin Day = Unit {0}
IsWithin (Pace count) = count ≤ 100000000
