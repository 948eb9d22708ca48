-- The words of a line, one after the other.
use Rattle.std.proofs.Common.{◌≡◌, ℕ, zero, suc, ◌+◌, ◌<◌, ◌≤◌, Bool, true, if◌then◌else◌, List, [], ◌∷◌, ◌++◌, length, get_or, drop, Option, Some, IsAscii, not, ◌==◌, refl, sym, ap, ◌∙◌, arith, append_assoc, append-nil}
use Rattle.std.specs.List.{list_all, prefix_len}
use Rattle.std.proofs.lemmas.Bool.Decides.{nat_tests}
use Rattle.std.proofs.lemmas.List.{at_drop_more, drop_all}
use Rattle.std.proofs.lemmas.List.Folds.{length-prefix_len}
use Rattle.std.proofs.lemmas.Str.{IsAscii-append}
use Rattle.std.proofs.lemmas.Str.Ascii.{IsAscii-nil, IsAscii-cons}
use Rattle.std.proofs.Math.Seq.{take-append_seam, drop-append-add, drop-nil}
use Rattle.wire_core.specs.Names.{is_visible}
use Rattle.text_core.specs.Lines.{followed_by, line_of}
use Rattle.text_core.specs.Reading.{word_len, word_at, behind}
use Rattle.text_core.proofs.Plain.{IsPlain, both, visible_ascii}

-- the words of a line from the second on, by what stands behind those before
pub word_later : (n : ℕ) (line : List ℕ) → word_at (suc n) line ≡ word_at n (behind line)
unfolding word_at behind
word_later n line = refl

pub word_1 : (line : List ℕ) → word_at 1 line ≡ word_at 0 (behind line)
word_1 line = word_later 0 line

pub word_2 : (line : List ℕ) → word_at 2 line ≡ word_at 0 (behind (behind line))
word_2 line = word_later 1 line ∙ word_1 (behind line)

pub word_3 : (line : List ℕ) → word_at 3 line ≡ word_at 0 (behind (behind (behind line)))
word_3 line = word_later 2 line ∙ word_2 (behind line)

pub word_4 : (line : List ℕ) → word_at 4 line ≡ word_at 0 (behind (behind (behind (behind line))))
word_4 line = word_later 3 line ∙ word_3 (behind line)

pub word_5 : (line : List ℕ) → word_at 5 line ≡ word_at 0 (behind (behind (behind (behind (behind line)))))
word_5 line = word_later 4 line ∙ word_4 (behind line)

-- how much of a word is left, byte by byte
pub word_left : (line : List ℕ) (len : ℕ) → len < length line → word_len (drop len line) ≡ (if get_or line len 0 == 32 then 0 else 1 + word_len (drop (len + 1) line))
word_left line len short = at_drop_more word_len line len 0 short ∙ grind (arith, nat_tests)

pub none_left : (line : List ℕ) (len : ℕ) → length line ≤ len → word_len (drop len line) ≡ 0
none_left line len long = ap word_len (drop_all len line long)

-- further words, each behind a blank
abbrev pub further : List (List ℕ) → List ℕ
further [] = []
further (word ∷ words) = 32 ∷ word ++ further words

pub followed_is : (line : List ℕ) (words : List (List ℕ)) → followed_by line words ≡ line ++ further words
followed_is line [] = sym (append-nil line)
followed_is line (word ∷ words) = followed_is (line ++ 32 ∷ word) words ∙ append_assoc line (32 ∷ word) (further words)

abbrev is_in_word : ℕ → Bool
is_in_word b = not (b == 32)

in_word : (b : ℕ) → is_visible b ≡ true → is_in_word b ≡ true
in_word b h = grind (arith, nat_tests)

-- a word ends at the next blank
prefix_length : (word : List ℕ) (words : List (List ℕ)) → list_all is_visible word ≡ true → prefix_len is_in_word (word ++ further words) ≡ length word
prefix_length [] [] h = refl
prefix_length [] (next ∷ words) h = refl
prefix_length (b ∷ word) words h =
    let parts = both (is_visible b) (list_all is_visible word) h in
    rw (in_word b parts.0, prefix_length word words parts.1) (omega arith)

first_len : (word : List ℕ) (words : List (List ℕ)) → IsPlain word → word_len (word ++ further words) ≡ length word
first_len word words h = length-prefix_len is_in_word (word ++ further words) ∙ prefix_length word words h.visible

abbrev pub ArePlain : List (List ℕ) → Type 0
ArePlain [] = Unit {0}
ArePlain (word ∷ words) = IsPlain word × ArePlain words

nothing_behind : (n : ℕ) → word_at n [] ≡ []
unfolding word_at
nothing_behind zero = refl
nothing_behind (suc n) = ap (word_at n) (drop-nil 1) ∙ nothing_behind n

word_behind : (n : ℕ) (word : List ℕ) (words : List (List ℕ)) → ArePlain (word ∷ words) → word_at n (word ++ further words) ≡ get_or (word ∷ words) n []
unfolding word_at
word_behind zero word words h = rw (first_len word words h.0) (take-append_seam word (further words))
word_behind (suc n) word [] h =
    rw (first_len word [] h.0)
    (ap (word_at n) (drop-append-add word [] 1) ∙ nothing_behind (suc n))
word_behind (suc n) word (next ∷ words) h =
    rw (first_len word (next ∷ words) h.0)
    (ap (word_at n) (drop-append-add word (32 ∷ next ++ further words) 1) ∙ word_behind n next words h.1)

-- a word of a line
pub word_is : (n : ℕ) (words : List (List ℕ)) → ArePlain words → word_at n (line_of words) ≡ get_or words n []
word_is n [] h = nothing_behind n
word_is n (word ∷ words) h = ap (word_at n) (followed_is word words) ∙ word_behind n word words h

-- what is found in a word of a line
pub found : {A : Type 0} (read : List ℕ → Option A) (v : A) (n : ℕ) (words : List (List ℕ)) → ArePlain words → read (get_or words n []) ≡ Some v → read (word_at n (line_of words)) ≡ Some v
found read v n words h e = ap read (word_is n words h) ∙ e

further_ascii : (words : List (List ℕ)) → ArePlain words → IsAscii (further words)
further_ascii [] h = IsAscii-nil
further_ascii (word ∷ words) h = IsAscii-cons 32 _ (omega arith) (IsAscii-append word (further words) (visible_ascii word h.0.visible) (further_ascii words h.1))

-- a line of plain words is ASCII
pub line_ascii : (words : List (List ℕ)) → ArePlain words → IsAscii (line_of words)
line_ascii [] h = IsAscii-nil
line_ascii (word ∷ words) h = rw (followed_is word words) (IsAscii-append word (further words) (visible_ascii word h.0.visible) (further_ascii words h.1))
