-- What is told on standard error of how a run ended.
use Rattle.std.specs.Prelude.{ℕ, List, Option, Some, None, codes}
use Rattle.host_core.specs.Streams.{with_number, with_newline}
use Rattle.host_core.specs.declared.status.Status.{Status}
use Rattle.host_core.specs.declared.status.Status.TheVariants.{Usage, ReadFault, SendFault, NoMemory, BadText}
use Rattle.picture_core.specs.declared.outcome.Outcome.{Outcome}
use Rattle.picture_core.specs.declared.outcome.Outcome.TheVariants.{Ended, NoDay, NoSymbol}

-- one line for each status that isn't Done, without its newline
abbrev pub status_line : Status → Option (List ℕ)
status_line Usage = Some (codes "chart: usage: chart [<symbol>] [--day <number>]")
status_line ReadFault = Some (codes "chart: the input could not be read")
status_line SendFault = Some (codes "chart: the output could not be written")
status_line NoMemory = Some (codes "chart: out of memory")
status_line (BadText line) = Some (with_number (codes "chart: line ") (Some line) (codes " is not understood"))
status_line _ = None

-- and for each other end
abbrev pub line_of : Outcome → Option (List ℕ)
line_of (Ended status) = status_line status
line_of NoDay = Some (codes "chart: the input has no such day")
line_of NoSymbol = Some (codes "chart: the day has no such symbol")

-- all that is told of an end
abbrev pub told_of : Outcome → List ℕ
told_of outcome = with_newline (line_of outcome)

-- what is written where help is asked for: how the program is called
unfoldable pub help_text : List ℕ
help_text =
    codes "chart [<symbol>] [--day <number>]: draws a day of the symbol of that id, 0 to 65535, or of that name, or of the market, as an SVG, from the lines of published frames on standard input; days are counted from 1, and without a number it is the last one\n"
