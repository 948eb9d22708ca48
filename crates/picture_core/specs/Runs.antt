-- What a run of the program leaves, by what its words ask for.
use Rattle.std.specs.Prelude.{◌≡◌, ◌⊎◌, ℕ, List, Option, Some, None, IfSome}
use Rattle.std.specs.Io.KnownBytes.{Appends}
use Rattle.host_core.specs.declared.status.Status.TheVariants.{Done, Usage, ReadFault, SendFault, BadText}
use Rattle.host_core.specs.Outside.{Rose}
use Rattle.host_core.specs.Streams.{AppendsPart}
use Rattle.picture_core.specs.Texts.{IsBadAt}
use Rattle.picture_core.specs.Reads.{Tells, LacksDay, LacksSymbol}
use Rattle.picture_core.specs.Told.{help_text}
use Rattle.picture_core.specs.declared.outcome.Outcome.{Outcome}
use Rattle.picture_core.specs.declared.outcome.Outcome.TheVariants.{Ended, NoDay, NoSymbol}
use Rattle.picture_core.specs.declared.words.Symbol.{Symbol}
use Rattle.picture_core.specs.declared.words.Command.{Command}
use Rattle.picture_core.specs.declared.words.Command.TheVariants.{Help, Draw}

-- the bytes of the input that are left and those that were written, where they are known, and how many errors reading and writing
-- told
pub record Streams : Type 0 where
  pub input : Option (List ℕ)
  pub output : Option (List ℕ)
  pub read_errors : ℕ
  pub write_errors : ℕ

abbrev pub streams : Option (List ℕ) → Option (List ℕ) → ℕ → ℕ → Streams
streams input output read_errors write_errors = record { input = input; output = output; read_errors = read_errors; write_errors = write_errors }

-- a text was written whole, or the writer failed behind a part of it
pub record IsSent (text : List ℕ) (outcome : Outcome) (before after : Option (List ℕ)) : Type 0 where
  pub whole : outcome ≡ Ended Done → Appends before after text
  pub part : outcome ≡ Ended SendFault → AppendsPart before after text
  pub ends : (outcome ≡ Ended Done) ⊎ (outcome ≡ Ended SendFault)

-- a day of a symbol or of the market was drawn: the one of that number, else the last one
pub record Drawn (symbol : Option Symbol) (wanted : Option ℕ) (outcome : Outcome) (old new : Streams) : Type 0 where
  -- the lines of the input print frames that tell that day, and its picture was written, no byte more and none less
  pub exact : outcome ≡ Ended Done → IfSome old.input (λ text. (picture : List ℕ) × Tells symbol wanted text picture × Appends old.output new.output picture)
  -- where the writer failed, a part of that picture from its begin on
  pub part : outcome ≡ Ended SendFault → IfSome old.input (λ text. (picture : List ℕ) × Tells symbol wanted text picture × AppendsPart old.output new.output picture)
  -- the line of that number is the first that prints none
  pub bad : (number : ℕ) → outcome ≡ Ended (BadText number) → IfSome old.input (λ text. IsBadAt number text)
  -- the frames that they print tell nothing of that day
  pub no_day : outcome ≡ NoDay → IfSome old.input (LacksDay wanted)
  -- or nothing of the symbol on that day
  pub no_symbol : outcome ≡ NoSymbol → IfSome old.input (LacksSymbol symbol wanted)
  -- else nothing is written
  pub quiet : (outcome ≡ Ended Done → ⊥) → (outcome ≡ Ended SendFault → ⊥) → new.output ≡ old.output
  -- a fault is told only where reading or writing told an error
  pub read_cause : outcome ≡ Ended ReadFault → Rose old.read_errors new.read_errors
  pub send_cause : outcome ≡ Ended SendFault → Rose old.write_errors new.write_errors
  -- other words
  pub words : outcome ≡ Ended Usage → ⊥

-- the help was written
pub record Helped (outcome : Outcome) (old new : Streams) : Type 0 where
  pub sent : IsSent help_text outcome old.output new.output
  pub send_cause : outcome ≡ Ended SendFault → Rose old.write_errors new.write_errors

abbrev pub Ran : Option Command → Outcome → Streams → Streams → Type 0
Ran None outcome old new = (outcome ≡ Ended Usage) × (new ≡ old)
Ran (Some Help) outcome old new = Helped outcome old new
Ran (Some (Draw symbol day)) outcome old new = Drawn symbol day outcome old new
