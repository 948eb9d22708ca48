-- What a reader has given so far of a text.
use Rattle.std.specs.Prelude.{◌≡◌, ◌≢◌, ℕ, ⊤, List, [], length, Option, Some, None, option_map}
use Rattle.host_core.specs.declared.status.Status.{Status}
use Rattle.host_core.specs.declared.status.Status.TheVariants.{ReadFault, NoMemory, BadText}
use Rattle.wire_out.specs.declared.message.Frame.{Frame}
use Rattle.picture_core.specs.Shown.{messages_of, id_on}
use Rattle.picture_core.specs.Texts.{Prints, IsBadAt}
use Rattle.picture_core.specs.Days.{Days, days_of}
use Rattle.picture_core.specs.Pictures.{picture_of}
use Rattle.picture_core.specs.Market.{market_picture}
use Rattle.picture_core.specs.declared.words.Symbol.{Symbol}
use Rattle.picture_core.specs.declared.outcome.Outcome.{Outcome}
use Rattle.picture_core.specs.declared.outcome.Outcome.TheVariants.{Ended, NoDay, NoSymbol}

-- so many lines of a text were read, and these are their days
pub record HasRead (wanted : Option ℕ) (text : List ℕ) (left : Option (List ℕ)) (lines : ℕ) (days : Days) : Type 0 where
  pub frames : List Frame
  pub rest : List ℕ
  pub known : left ≡ Some rest
  pub printed : Prints text frames rest
  pub counted : length frames ≡ lines
  pub exact : days ≡ days_of wanted (messages_of frames)

-- a whole text prints frames, and these are their days
pub record IsRead (wanted : Option ℕ) (text : List ℕ) (days : Days) : Type 0 where
  pub frames : List Frame
  pub printed : Prints text frames []
  pub exact : days ≡ days_of wanted (messages_of frames)

-- why reading a text stops: a line that prints no frame, by its number; else the reader or the memory
abbrev pub Stops : Status → List ℕ → Type 0
Stops (BadText line) text = IsBadAt line text
Stops ReadFault text = ⊤
Stops NoMemory text = ⊤
Stops _ text = ⊥

-- what hinders a reader
abbrev pub Hinders : Status → Type 0
Hinders (BadText line) = ⊤
Hinders ReadFault = ⊤
Hinders NoMemory = ⊤
Hinders _ = ⊥

-- the picture of the symbol, where the day tells something of it; without a symbol that of the market
abbrev pub picture_on : Option Symbol → Option ℕ → Days → Option (List ℕ)
picture_on None wanted days = Some (market_picture wanted days)
picture_on (Some symbol) wanted days = option_map (λ id. picture_of id wanted days) (id_on symbol days.messages)

-- a whole text prints frames, and they tell the day that is asked for, of which this is the picture
pub record Tells (symbol : Option Symbol) (wanted : Option ℕ) (text picture : List ℕ) : Type 0 where
  pub days : Days
  pub read : IsRead wanted text days
  pub there : days.messages ≢ []
  pub drawn : picture_on symbol wanted days ≡ Some picture

-- they tell no message of that day
pub record LacksDay (wanted : Option ℕ) (text : List ℕ) : Type 0 where
  pub days : Days
  pub read : IsRead wanted text days
  pub empty : days.messages ≡ []

-- they tell some, and none of the symbol
pub record LacksSymbol (symbol : Option Symbol) (wanted : Option ℕ) (text : List ℕ) : Type 0 where
  pub days : Days
  pub read : IsRead wanted text days
  pub there : days.messages ≢ []
  pub silent : picture_on symbol wanted days ≡ None

-- why no picture is drawn of a text
abbrev pub Lacks : Option Symbol → Option ℕ → Outcome → List ℕ → Type 0
Lacks symbol wanted (Ended status) text = Stops status text
Lacks symbol wanted NoDay text = LacksDay wanted text
Lacks symbol wanted NoSymbol text = LacksSymbol symbol wanted text

-- what hinders a picture
abbrev pub Prevents : Outcome → Type 0
Prevents (Ended status) = Hinders status
Prevents NoDay = ⊤
Prevents NoSymbol = ⊤
