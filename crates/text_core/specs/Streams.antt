-- The two streams: frames printed as lines, and lines packed as frames.
use Rattle.std.specs.Prelude.{ℕ, ◌+◌, ◌==◌, nat_le, nat_lt, if◌then◌else◌, List, [], ◌∷◌, ◌++◌, length, take, Option, Some, None, option_map}
use Rattle.std.specs.List.{concat}
use Rattle.std.specs.Result.{result_ok}
use Rattle.host_core.specs.declared.status.Status.{Status}
use Rattle.host_core.specs.declared.status.Status.TheVariants.{Done, SessionFull, BadText}
use Rattle.stream_core.specs.Ends.{end_of as frames_end}
use Rattle.wire_core.specs.Frames.{framed}
use Rattle.wire_in.specs.Cutting as frames
use Rattle.wire_in.specs.Reading as records
use Rattle.wire_in.specs.Spelling as spelled
use Rattle.wire_out.specs.Reading as published
use Rattle.wire_out.specs.Spelling.{spelling}
use Rattle.text_core.specs.declared.kind.Kind.{Kind}
use Rattle.text_core.specs.declared.kind.Kind.TheVariants.{Records, Published}
use Rattle.text_core.specs.declared.task.Task.{Task}
use Rattle.text_core.specs.declared.task.Task.TheVariants.{Print, Pack}
use Rattle.text_core.specs.Lines.{line_of_record, line_of_frame}
use Rattle.text_core.specs.Reading.{record_in, frame_in}

-- the whole lines of a text behind a line begun, without their newlines
abbrev pub lines_from : List ℕ → List ℕ → List (List ℕ)
lines_from begun [] = []
lines_from begun (byte ∷ bytes) = if byte == 10 then begun ∷ lines_from [] bytes else lines_from (begun ++ byte ∷ []) bytes

-- what stands behind the last newline
abbrev pub last_from : List ℕ → List ℕ → List ℕ
last_from begun [] = begun
last_from begun (byte ∷ bytes) = if byte == 10 then last_from [] bytes else last_from (begun ++ byte ∷ []) bytes

-- the whole units of a stream: the bodies of frames, or lines
unfoldable pub units_of : Task → List ℕ → List (List ℕ)
units_of Print bytes = frames.bodies_of bytes
units_of Pack bytes = lines_from [] bytes

-- what is left behind them
unfoldable pub rest_of : Task → List ℕ → List ℕ
rest_of Print bytes = frames.rest_of bytes
rest_of Pack bytes = last_from [] bytes

-- at the end of an input, the last line counts also without its newline
abbrev pub last_unit : Task → List ℕ → List (List ℕ)
last_unit Print rest = []
last_unit Pack [] = []
last_unit Pack (byte ∷ bytes) = (byte ∷ bytes) ∷ []

-- what is sent for a unit, where it has a value: its line with a newline, or its frame; a line has at most 255 bytes
unfoldable pub output_of : Task → Kind → List ℕ → Option (List ℕ)
output_of Print Records body = option_map (λ x. line_of_record x ++ 10 ∷ []) (result_ok (records.record_of body))
output_of Print Published body = option_map (λ f. line_of_frame f ++ 10 ∷ []) (published.frame_of body)
output_of Pack Records line = if nat_le (length line) 255 then option_map (λ x. framed (spelled.body_of x)) (record_in line) else None
output_of Pack Published line = if nat_le (length line) 255 then option_map spelling (frame_in line) else None

abbrev pub before_bad : Option (List ℕ) → List (List ℕ) → List (List ℕ)
before_bad None later = []
before_bad (Some output) later = output ∷ later

-- what is sent for each of these units before the first that has no value
abbrev pub outputs : (List ℕ → Option (List ℕ)) → List (List ℕ) → List (List ℕ)
outputs give [] = []
outputs give (unit ∷ units) = before_bad (give unit) (outputs give units)

-- all that is sent for these units
unfoldable pub text_of : Task → Kind → List (List ℕ) → List ℕ
text_of task kind units = concat (outputs (output_of task kind) units)

-- The units of an input of which at most so many bytes are read. Where that many are read, what is left behind the whole
-- ones is no unit, also where the input ends there.
abbrev pub units_within : Task → ℕ → List ℕ → List (List ℕ)
units_within task most input =
    if nat_le most (length input) then units_of task (take most input) else units_of task input ++ last_unit task (rest_of task input)

-- what is sent for the whole units of these bytes
abbrev pub text_for : Task → Kind → List ℕ → List ℕ
text_for task kind bytes = text_of task kind (units_of task bytes)

-- how a stream ends that has no bad unit: a text is never cut short
abbrev pub end_of_good : Task → ℕ → List ℕ → Status
end_of_good Print most input = frames_end most input
end_of_good Pack most input = if nat_le most (length input) then SessionFull else Done

-- how a stream ends: at its first unit that has no value, counted from 1, at the most bytes, or at the end of the input
abbrev pub end_of : Task → Kind → ℕ → List ℕ → Status
end_of task kind most input =
    if nat_lt (length (outputs (output_of task kind) (units_within task most input))) (length (units_within task most input))
    then BadText (length (outputs (output_of task kind) (units_within task most input)) + 1)
    else end_of_good task most input
