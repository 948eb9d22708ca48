use Rattle.std.proofs.Common.{rules}
use Rattle.std.proofs.lemmas.Option.{IfSome_then}
use Rattle.words_core.specs.Line.{CommandLine}
use Rattle.words_core.proofs.fault.fault_text.Goals as goal

pub returns : goal.returns
returns c =
    let line : CommandLine = record { kinds = c.as_slice.result; words = search rules } in
    IfSome_then c.read_fault.result c.read_fault.ensures (λ _ fault. record { line = line; fault = fault })
