-- What the words of a process ask for.
use Rattle.std.specs.Prelude.{◌≡◌, ◌≢◌, ℕ, ◌<◌, ◌^◌, Bool, false, ◌==◌, if◌then◌else◌, ◌⊎◌, List, [], ◌∷◌, codes, decimal, Option, Some, None, IsSome}
use Rattle.wire_core.specs.Names.{is_name}
use Rattle.text_core.specs.Reading.{name_in}
use Rattle.picture_core.specs.declared.words.Command.{Command}
use Rattle.picture_core.specs.declared.words.Command.TheVariants.{Help, Draw}
use Rattle.picture_core.specs.declared.words.Symbol.{Symbol}
use Rattle.picture_core.specs.declared.words.Symbol.TheVariants.{Id, Name}

-- a word that asks for help
abbrev pub IsHelp : List ℕ → Type 0
IsHelp word = (word ≡ codes "--help") ⊎ (word ≡ codes "-h")

-- no id has this word
abbrev pub IsNoId : List ℕ → Type 0
IsNoId word = (symbol : ℕ) → symbol < 2 ^ 16 → word ≢ decimal symbol

-- no day has this word: days are counted from 1
abbrev pub IsNoDay : List ℕ → Type 0
IsNoDay word = (day : ℕ) → 0 < day → day < 2 ^ 64 → word ≢ decimal day

-- a word that begins with a hyphen names no symbol
abbrev pub is_hyphened : List ℕ → Bool
is_hyphened [] = false
is_hyphened (byte ∷ word) = byte == 45

-- zero bytes stand behind the one to eight visible characters of a name
abbrev pub sound_name : Option (List ℕ) → Option (List ℕ)
sound_name None = None
sound_name (Some name) = if is_name name then Some name else None

-- the name that a word is
abbrev pub name_of_word : List ℕ → Option (List ℕ)
name_of_word word = if is_hyphened word then None else sound_name (name_in word)

-- the symbol that a word names: the decimal number of an id is that id, and other words are names
abbrev pub NamesSymbol : List ℕ → Option Symbol → Type 0
NamesSymbol word (Some (Id symbol)) = word ≡ decimal symbol
NamesSymbol word (Some (Name name)) = IsNoId word × (name_of_word word ≡ Some name)
NamesSymbol word None = IsNoId word × (name_of_word word ≡ None)

-- the day that two words name: the decimal number behind --day
abbrev pub NamesDay : List ℕ → List ℕ → Option ℕ → Type 0
NamesDay option number (Some day) = (option ≡ codes "--day") × (0 < day) × (number ≡ decimal day)
NamesDay option number None = (option ≢ codes "--day") ⊎ IsNoDay number

-- what one word asks for: help, or the last day of the symbol that it names; other words ask for nothing
abbrev pub AsksWord : List ℕ → Option Command → Type 0
AsksWord word (Some Help) = IsHelp word
AsksWord word (Some (Draw None day)) = ⊥
AsksWord word (Some (Draw (Some symbol) None)) = NamesSymbol word (Some symbol)
AsksWord word (Some (Draw (Some symbol) (Some day))) = ⊥
AsksWord word None = ¬ (IsHelp word) × NamesSymbol word None

-- what two words ask for: the market's day that they name
abbrev pub AsksMarket : List ℕ → List ℕ → Option Command → Type 0
AsksMarket option number (Some Help) = ⊥
AsksMarket option number (Some (Draw None day)) = IsSome day × NamesDay option number day
AsksMarket option number (Some (Draw (Some symbol) day)) = ⊥
AsksMarket option number None = NamesDay option number None

-- what three words ask for: of the symbol that the first one names the day that the others name
abbrev pub AsksDay : List ℕ → List ℕ → List ℕ → Option Command → Type 0
AsksDay word option number (Some Help) = ⊥
AsksDay word option number (Some (Draw None day)) = ⊥
AsksDay word option number (Some (Draw (Some symbol) day)) = NamesSymbol word (Some symbol) × IsSome day × NamesDay option number day
AsksDay word option number None = NamesSymbol word None ⊎ NamesDay option number None

-- the program's own name stands before its words; without any they ask for the market's last day
abbrev pub Asks : List (List ℕ) → Option Command → Type 0
Asks [] command = command ≡ None
Asks (name ∷ []) command = command ≡ Some (Draw None None)
Asks (name ∷ word ∷ []) command = AsksWord word command
Asks (name ∷ option ∷ number ∷ []) command = AsksMarket option number command
Asks (name ∷ word ∷ option ∷ number ∷ []) command = AsksDay word option number command
Asks words command = command ≡ None
