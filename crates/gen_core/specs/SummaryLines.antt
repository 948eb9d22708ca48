-- The lines of a summary.
use Rattle.std.specs.Prelude.{◌≡◌, ℕ, ◌+◌, List, [], ◌∷◌, ◌++◌, codes, decimal}
use Rattle.gen_core.specs.declared.tally.Tally.{Tally}

-- a word and a count, with a blank between them, and a newline (10)
abbrev pub count_line : List ℕ → ℕ → List ℕ
count_line word count = word ++ codes " " ++ decimal count ++ 10 ∷ []

-- how many messages were given
abbrev pub message_lines : Tally → List ℕ
message_lines t =
    count_line (codes "listed") t.listed
    ++ count_line (codes "state") t.state
    ++ count_line (codes "band") t.band
    ++ count_line (codes "straddle") t.straddle
    ++ count_line (codes "collar") t.collar
    ++ count_line (codes "release") t.release
    ++ count_line (codes "short") t.short
    ++ count_line (codes "breaker") t.breaker
    ++ count_line (codes "marketresume") t.resume

-- how many records there are, how many of them were refused, and the messages of the others
abbrev pub summary_lines : ℕ → ℕ → Tally → List ℕ
summary_lines records refused t =
    count_line (codes "records") records
    ++ count_line (codes "refused") refused
    ++ count_line (codes "messages") t.messages
    ++ message_lines t

-- the messages are those of all kinds together
abbrev pub IsSum : Tally → Type 0
IsSum t = t.messages ≡ t.listed + t.state + t.band + t.straddle + t.collar + t.release + t.short + t.breaker + t.resume
