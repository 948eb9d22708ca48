-- Each published frame is found in its own line.
use Rattle.std.proofs.Common.{◌≡◌, ℕ, ◌<◌, ◌≤◌, ◌^◌, false, List, [], ◌∷◌, get_or, Some, IsAscii, bytes_eq, decimal, subst, ap, ◌∙◌, arith}
use Rattle.std.specs.Str.Parse.{AllDigits}
use Rattle.std.proofs.lemmas.Bool.{false_from_ne_true}
use Rattle.std.proofs.lemmas.Fmt.{decimal_is_IsNumeral}
use Rattle.std.proofs.lemmas.Slice.Eq.{bytes_eq-Decides}
use Rattle.std.proofs.lemmas.Str.Parse.{digit_from_value}
use Rattle.wire_out.specs.Spelling.{HasTypes, InRange, IsTyped, IsSayable}
use Rattle.wire_out.specs.declared.message.Message.{Message}
use Rattle.wire_out.specs.declared.message.Frame.{Frame}
use Rattle.wire_out.specs.declared.message.Frame.TheVariants.{Numbered}
use Rattle.text_core.specs.Lines.{line_of_frame, words_of_message, words_of_frame, PrintsFrame}
use Rattle.text_core.specs.Reading.{word_at, listed_of, state_of, band_of, straddle_of, collar_of, release_of, short_of, breaker_of, message_of, numbered_of, refused_of, frame_of}
use Rattle.text_core.proofs.Fields.{moment_again, number_again, number8_again, number16_again, name_again, index_again, price_again}
use Rattle.text_core.proofs.Plain.{time_plain, decimal_plain, name_plain, index_plain, price_plain}
use Rattle.text_core.proofs.Words.{ArePlain, word_is, line_ascii}

message_plain : (m : Message) → IsTyped m → ArePlain (words_of_message m)
message_plain m h = grind (arith, decimal_plain, name_plain, price_plain, index_plain)

frame_plain : (f : Frame) → HasTypes f → ArePlain (words_of_frame f)
frame_plain f h = grind (arith, decimal_plain, time_plain, message_plain)

pub frame_ascii : (f : Frame) → HasTypes f → IsAscii (line_of_frame f)
frame_ascii f h = line_ascii (words_of_frame f) (frame_plain f h)

words_are : (f : Frame) → HasTypes f → (n : ℕ) → word_at n (line_of_frame f) ≡ get_or (words_of_frame f) n []
words_are f h n = word_is n (words_of_frame f) (frame_plain f h)

-- a message with its number and its moment
abbrev numbered : ℕ → ℕ → Message → Frame
numbered n t m = Numbered n (record { moment = t; message = m })

-- a message is found in its line, whatever its number and its moment are
message_found : (n t : ℕ) (m : Message) → HasTypes (numbered n t m) → IsSayable m → message_of (line_of_frame (numbered n t m)) ≡ Some m
unfolding message_of listed_of state_of band_of straddle_of collar_of release_of short_of breaker_of
message_found n t m h r = grind (arith, words_are (numbered n t m) h, number16_again, name_again, price_again, index_again)

-- a number is no word that begins with a letter
other_text : (n c : ℕ) (text : List ℕ) → n < 2 ^ 64 → 58 ≤ c → bytes_eq (decimal n) (c ∷ text) ≡ false
other_text n c text below letter = false_from_ne_true _ (λ same.
    let digits = subst (AllDigits 10) ((bytes_eq-Decides (decimal n) (c ∷ text)).0 same) (decimal_is_IsNumeral n below).0.1 in
    omega (arith, letter, digit_from_value c digits.0))

-- a frame is found in its line
typed : (f : Frame) → HasTypes f → InRange f → frame_of (line_of_frame f) ≡ Some f
unfolding frame_of refused_of numbered_of
typed f h r = grind (arith, words_are f h, number_again, number8_again, moment_again, message_found, other_text)

pub frame_found : (line : List ℕ) (f : Frame) → PrintsFrame line f → frame_of line ≡ Some f
frame_found line f p = ap frame_of p.text ∙ typed f p.sound.types p.sound.ranges
