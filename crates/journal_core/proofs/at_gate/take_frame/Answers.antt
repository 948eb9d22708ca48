use Rattle.std.proofs.Common.{ℕ, ◌+◌, ◌++◌, List, get_or, sym, ap, ◌∙◌, arith, rules}
use Rattle.std.proofs.lemmas.List.{take_rest}
use Rattle.journal_core.specs.Layout.{frame_of}
use Rattle.journal_core.proofs.AtGateLemmas.{frame_read}
use Rattle.journal_core.proofs.at_gate.take_frame.Goals as goal

pub returns : goal.returns
returns c =
    let frames = c.args.frames.now in
    let taken = c.if-not-decode.ensures.taken (search rules) in
    let x = taken.0 in
    let found = taken.1 in (
      x,
      record { types = found.types; ranges = found.ranges },
      frame_read x frames _ c.requires.some (omega arith) (omega arith) found.bytes ∙ ap (λ (l : List ℕ). frame_of x ++ l) (sym (take_rest frames (get_or frames 0 0 + 1))),
      taken.2,
    )
