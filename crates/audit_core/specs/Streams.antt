-- An audit of the frames of an input: what it finds, how it ends, and what it sends.
use Rattle.std.specs.Prelude.{ℕ, ◌+◌, Option, Some, None, List, [], ◌∷◌, ◌++◌, length, take, codes, decimal, option_map}
use Rattle.host_core.specs.declared.status.Status.{Status}
use Rattle.host_core.specs.declared.status.Status.TheVariants.{Done, Truncated, ReadFault, SendFault, SessionFull, NoMemory, BadText, Breach}
use Rattle.wire_in.specs.Cutting.{bodies_of}
use Rattle.wire_out.specs.declared.message.Frame.{Frame}
use Rattle.wire_out.specs.Reading.{frame_of}
use Rattle.stream_core.specs.Ends as frames
use Rattle.audit_core.specs.Clean.{law_broken, said}

-- what is wrong with a body behind these frames, the newest first: it spells no frame, or one that breaks a law
abbrev pub fault_of : List Frame → Option Frame → Option Status
fault_of earlier None = Some (BadText (length earlier + 1))
fault_of earlier (Some f) = option_map (λ law. Breach (length earlier + 1) law) (law_broken earlier f)

abbrev pub with_frame : List Frame → Option Frame → List Frame
with_frame earlier None = earlier
with_frame earlier (Some f) = f ∷ earlier

abbrev pub or_later : Option Status → Option Status → Option Status
or_later None later = later
or_later (Some first) later = Some first

-- the first fault among these bodies, behind these frames
abbrev pub first_fault : List Frame → List (List ℕ) → Option Status
first_fault earlier [] = None
first_fault earlier (body ∷ later) = or_later (fault_of earlier (frame_of body)) (first_fault (with_frame earlier (frame_of body)) later)

-- the frames that these bodies spell, behind these frames
abbrev pub frames_in : List Frame → List (List ℕ) → List Frame
frames_in earlier [] = earlier
frames_in earlier (body ∷ later) = frames_in (with_frame earlier (frame_of body)) later

abbrev pub or_end : Option Status → Status → Status
or_end None end = end
or_end (Some fault) end = fault

-- how an audit ends that reads so many bytes at most: at the first fault, else as its input does
abbrev pub end_of : ℕ → List ℕ → Status
end_of most input = or_end (first_fault [] (bodies_of (take most input))) (frames.end_of most input)

-- the word clean, how many messages there were, and a newline (10)
abbrev pub clean_line : ℕ → List ℕ
clean_line messages = codes "clean " ++ decimal messages ++ 10 ∷ []

-- what is sent at an end
abbrev pub sent_at : Status → ℕ → List ℕ
sent_at Done messages = clean_line messages
sent_at _ messages = []

-- what an audit sends for an input
abbrev pub text_of : ℕ → List ℕ → List ℕ
text_of most input = sent_at (end_of most input) (length (said (frames_in [] (bodies_of (take most input)))))
