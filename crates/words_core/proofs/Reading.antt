-- The options of a plain line, from word to word.
use Rattle.std.proofs.Common.{◌≡◌, ℕ, Bool, ◌<◌, true, false, List, [], ◌∷◌, length, get_or, drop, map, Option, Some, None, refl, arith, codes}
use Rattle.std.specs.Prelude.{option_and_then}
use Rattle.std.specs.Borrow.{Bor}
use Rattle.std.specs.Str.{bytes_eq}
use Rattle.words_core.specs.Plain.{options_of, with_option, with_summary}
use Rattle.words_core.specs.declared.command.Verb.{Verb}
use Rattle.words_core.specs.declared.options.Options.{Options}

abbrev texts : List (Bor (List ℕ)) → List (List ℕ)
texts = map (λ w. w.now)

abbrev pub first_is_summary : List (Bor (List ℕ)) → Bool
first_is_summary words = bytes_eq (get_or (texts words) 0 []) (codes "--summary")

and_no_more : (verb : Verb) (found : Option Options) → found ≡ option_and_then (λ more. options_of verb more []) found
and_no_more verb None = refl
and_no_more verb (Some more) = refl

-- there is no further word
pub none_left : (verb : Verb) (given : Options) (words : List (Bor (List ℕ))) → length words ≡ 0 → Some given ≡ options_of verb given (texts words)
none_left verb given [] empty = refl
none_left verb given (name ∷ words) empty = absurd (omega (arith, empty))

-- the next word is --summary
pub summary_next : (verb : Verb) (given : Options) (words : List (Bor (List ℕ))) → 0 < length words → first_is_summary words ≡ true
    → options_of verb given (texts words) ≡ option_and_then (λ more. options_of verb more (texts (drop 1 words))) (with_summary verb given)
summary_next verb given [] some is = absurd (omega (arith, some))
summary_next verb given (name ∷ []) some is = rw is (and_no_more verb (with_summary verb given))
summary_next verb given (name ∷ value ∷ words) some is = rw is refl

-- the next word is the last, and no --summary
pub lone_name : (verb : Verb) (given : Options) (words : List (Bor (List ℕ))) → length words ≡ 1 → first_is_summary words ≡ false → None ≡ options_of verb given (texts words)
lone_name verb given [] one is = absurd (omega (arith, one))
lone_name verb given (name ∷ []) one is = rw is refl
lone_name verb given (name ∷ value ∷ words) one is = absurd (omega (arith, one))

-- the next two words are an option and its value
pub option_next : (verb : Verb) (given : Options) (words : List (Bor (List ℕ))) → 1 < length words → first_is_summary words ≡ false
    → options_of verb given (texts words) ≡ option_and_then (λ more. options_of verb more (texts (drop 2 words))) (with_option verb given (get_or (texts words) 0 []) (get_or (texts words) 1 []))
option_next verb given [] two is = absurd (omega (arith, two))
option_next verb given (name ∷ []) two is = absurd (omega (arith, two))
option_next verb given (name ∷ value ∷ words) two is = rw is refl
