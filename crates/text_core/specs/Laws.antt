-- What holds of all lines.
use Rattle.std.specs.Prelude.{◌≡◌, ℕ, List}
use Rattle.wire_in.specs.declared.record.Record.{Record}
use Rattle.wire_out.specs.declared.message.Frame.{Frame}
use Rattle.text_core.specs.Lines.{PrintsRecord, PrintsFrame}

-- a line prints at most one record
abbrev pub RecordLinesDiffer : Type 0
RecordLinesDiffer = (line : List ℕ) (x y : Record) → PrintsRecord line x → PrintsRecord line y → x ≡ y

-- a line prints at most one published frame
abbrev pub FrameLinesDiffer : Type 0
FrameLinesDiffer = (line : List ℕ) (f g : Frame) → PrintsFrame line f → PrintsFrame line g → f ≡ g
