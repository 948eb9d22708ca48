-- The one line of each record and of each published frame, without its newline.
use Rattle.std.specs.Prelude.{◌≡◌, ℕ, List, [], ◌∷◌, ◌++◌, codes, decimal}
use Rattle.wire_in.specs.Laws.{IsSound}
use Rattle.wire_in.specs.declared.record.Record.{Record}
use Rattle.wire_in.specs.declared.record.Record.TheVariants.{Day, Listing, Trade, Cancel, Quote, IndexTick, Clock, Notice, Indication}
use Rattle.wire_out.specs.Laws.{IsSound as IsSoundFrame}
use Rattle.wire_out.specs.declared.message.Message.{Message}
use Rattle.wire_out.specs.declared.message.Message.TheVariants.{Listed, State, Band, Straddle, Collar, Release, Short, Breaker, MarketResume}
use Rattle.wire_out.specs.declared.message.Frame.{Frame}
use Rattle.wire_out.specs.declared.message.Frame.TheVariants.{Hello, Numbered, Ack, Refused}
use Rattle.text_core.specs.Words.{time_word, date_word, price_word, optional_price_word, index_word, flags_word, name_word, close_word, profile_word, tier_word, notice_word, unmatched_word, phase_word, cause_word, straddle_word, short_word, level_word}

-- a line that goes on with these words, a blank before each
abbrev pub followed_by : List ℕ → List (List ℕ) → List ℕ
followed_by line [] = line
followed_by line (word ∷ words) = followed_by (line ++ 32 ∷ word) words

-- words with one blank between them
abbrev pub line_of : List (List ℕ) → List ℕ
line_of [] = []
line_of (word ∷ words) = followed_by word words

abbrev pub words_of_record : Record → List (List ℕ)
words_of_record (Day m d v) =
    codes "day" ∷ time_word m ∷ date_word d.date ∷ close_word d.close ∷ profile_word d.profile ∷ index_word v ∷ []
words_of_record (Listing m n t l c) =
    codes "listing" ∷ time_word m ∷ name_word n ∷ tier_word t ∷ decimal l ∷ optional_price_word c ∷ []
words_of_record (Trade m s n p z f) =
    codes "trade" ∷ time_word m ∷ decimal s ∷ decimal n ∷ price_word p ∷ decimal z ∷ flags_word f ∷ []
words_of_record (Cancel m s n) = codes "cancel" ∷ time_word m ∷ decimal s ∷ decimal n ∷ []
words_of_record (Quote m s b o y z) =
    codes "quote" ∷ time_word m ∷ decimal s ∷ optional_price_word b ∷ optional_price_word o ∷ decimal y ∷ decimal z ∷ []
words_of_record (IndexTick m v) = codes "index" ∷ time_word m ∷ index_word v ∷ []
words_of_record (Clock m) = codes "clock" ∷ time_word m ∷ []
words_of_record (Notice m s k) = codes "notice" ∷ time_word m ∷ decimal s ∷ notice_word k ∷ []
words_of_record (Indication m s p u) =
    codes "indication" ∷ time_word m ∷ decimal s ∷ price_word p ∷ unmatched_word u ∷ []

-- a numbered message has its number and its moment before these
abbrev pub words_of_message : Message → List (List ℕ)
words_of_message (Listed s n) = codes "listed" ∷ decimal s ∷ name_word n ∷ []
words_of_message (State s p) = codes "state" ∷ decimal s ∷ phase_word p ∷ []
words_of_message (Band s c r l u) = codes "band" ∷ decimal s ∷ cause_word c ∷ price_word r ∷ price_word l ∷ price_word u ∷ []
words_of_message (Straddle s on) = codes "straddle" ∷ decimal s ∷ straddle_word on ∷ []
words_of_message (Collar s n l u) = codes "collar" ∷ decimal s ∷ decimal n ∷ price_word l ∷ price_word u ∷ []
words_of_message (Release s p) = codes "release" ∷ decimal s ∷ price_word p ∷ []
words_of_message (Short s k) = codes "short" ∷ decimal s ∷ short_word k ∷ []
words_of_message (Breaker v i) = codes "breaker" ∷ level_word v ∷ index_word i ∷ []
words_of_message MarketResume = codes "marketresume" ∷ []

abbrev pub words_of_frame : Frame → List (List ℕ)
words_of_frame (Hello i m) = codes "hello" ∷ decimal i ∷ decimal m ∷ []
words_of_frame (Ack i) = codes "ack" ∷ decimal i ∷ []
words_of_frame (Refused p c f) = codes "refused" ∷ decimal p ∷ decimal c ∷ decimal f ∷ []
words_of_frame (Numbered n x) = decimal n ∷ time_word x.moment ∷ words_of_message x.message

abbrev pub line_of_record : Record → List ℕ
line_of_record x = line_of (words_of_record x)

abbrev pub line_of_frame : Frame → List ℕ
line_of_frame f = line_of (words_of_frame f)

-- a line prints a record that a frame can say
pub record PrintsRecord (line : List ℕ) (x : Record) : Type 0 where
  pub sound : IsSound x
  pub text : line ≡ line_of_record x

-- a line prints a frame that can be published
pub record PrintsFrame (line : List ℕ) (f : Frame) : Type 0 where
  pub sound : IsSoundFrame f
  pub text : line ≡ line_of_frame f
