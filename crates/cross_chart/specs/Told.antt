-- What is told on standard error of how a run ended.
use Rattle.std.specs.Prelude.{ℕ, List, Option, Some, None, codes}
use Rattle.host_core.specs.Streams.{with_number, with_newline}
use Rattle.host_core.specs.declared.status.Status.{Status}
use Rattle.host_core.specs.declared.status.Status.TheVariants.{Usage, ReadFault, SendFault, NoMemory, BadText}

-- one line for each end that isn't Done, without its newline
abbrev pub line_of : Status → Option (List ℕ)
line_of Usage = Some (codes "cross_chart: usage: cross_chart")
line_of ReadFault = Some (codes "cross_chart: the input could not be read")
line_of SendFault = Some (codes "cross_chart: the output could not be written")
line_of NoMemory = Some (codes "cross_chart: out of memory")
line_of (BadText line) = Some (with_number (codes "cross_chart: line ") (Some line) (codes " is not understood"))
line_of _ = None

-- all that is told of an end
abbrev pub told_of : Status → List ℕ
told_of status = with_newline (line_of status)
