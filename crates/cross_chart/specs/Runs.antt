-- What a run of the program leaves.
use Rattle.std.specs.Prelude.{◌≡◌, ◌≢◌, ℕ, List, Option, IfSome}
use Rattle.std.specs.Io.KnownBytes.{Appends}
use Rattle.host_core.specs.declared.status.Status.{Status}
use Rattle.host_core.specs.declared.status.Status.TheVariants.{Done, Usage, ReadFault, SendFault, BadText}
use Rattle.host_core.specs.Outside.{Rose}
use Rattle.host_core.specs.Streams.{AppendsPart}
use Rattle.cross_chart.specs.Pictures.{picture_of}
use Rattle.cross_chart.specs.Reads.{IsRead, IsBadAt}
use Rattle.cross_chart.specs.declared.sketch.Sketch.{Sketch}

-- the bytes of the input that are left and those that were written, where they are known, and how many errors reading and writing
-- told
pub record Streams : Type 0 where
  pub input : Option (List ℕ)
  pub output : Option (List ℕ)
  pub read_errors : ℕ
  pub write_errors : ℕ

abbrev pub streams : Option (List ℕ) → Option (List ℕ) → ℕ → ℕ → Streams
streams input output read_errors write_errors = record { input = input; output = output; read_errors = read_errors; write_errors = write_errors }

-- a text is all lines of a cross, of which this is the picture
pub record Shows (text picture : List ℕ) : Type 0 where
  pub sketch : Sketch
  pub read : IsRead text sketch
  pub drawn : picture ≡ picture_of sketch

-- an auction was drawn
pub record Drawn (status : Status) (old new : Streams) : Type 0 where
  -- the input is the lines of a cross, and its picture was written, no byte more and none less
  pub exact : status ≡ Done → IfSome old.input (λ text. (picture : List ℕ) × Shows text picture × Appends old.output new.output picture)
  -- where the writer failed, a part of that picture from its begin on
  pub part : status ≡ SendFault → IfSome old.input (λ text. (picture : List ℕ) × Shows text picture × AppendsPart old.output new.output picture)
  -- the line of that number is the first that may not stand where it does, or that is lacking
  pub bad : (number : ℕ) → status ≡ BadText number → IfSome old.input (λ text. IsBadAt number text)
  -- else nothing is written
  pub quiet : status ≢ Done → status ≢ SendFault → new.output ≡ old.output
  -- a fault is told only where reading or writing told an error
  pub read_cause : status ≡ ReadFault → Rose old.read_errors new.read_errors
  pub send_cause : status ≡ SendFault → Rose old.write_errors new.write_errors
  -- other words
  pub words : status ≢ Usage

-- the program takes no words behind its name: else it does nothing
pub record Ran (words : ℕ) (status : Status) (old new : Streams) : Type 0 where
  pub drawn : words ≡ 1 → Drawn status old new
  pub usage : words ≢ 1 → (status ≡ Usage) × (new ≡ old)
