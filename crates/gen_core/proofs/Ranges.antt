-- Each record of a generated day is in its ranges.
use Rattle.std.proofs.Common.{◌≡◌, ℕ, ◌/◌, ◌%◌, ◌<◌, ◌≤◌, Bool, true, false, List, [], ◌∷◌, length, drop, refl, ap, ◌∙◌, arith}
use Rattle.std.proofs.Math.Nat.{mod-lt}
use Rattle.std.proofs.lemmas.Bool.Decides.{nat_tests}
use Rattle.std.proofs.lemmas.List.Sums.{take_while-cons}
use Rattle.std.specs.Prelude.{cond, ◌&&◌, ◌==◌, nat_lt, nat_le, if◌then◌else◌}
use Rattle.std.specs.List.{list_all, take_while}
use Rattle.session_core.specs.Dates.{digit}
use Rattle.wire_core.specs.Names.{is_visible, is_name}
use Rattle.wire_in.specs.declared.record.Record.{Record}
use Rattle.wire_in.specs.Spelling.{InRange}
use Rattle.gen_core.specs.declared.plan.DayPlan.{DayPlan}
use Rattle.gen_core.specs.Draws.{draw}
use Rattle.gen_core.specs.Generated.{day_record, listing, name_of, is_clock, session_record, flags_of, flags_behind}

pub day_in_range : InRange day_record
unfolding day_record
day_in_range = tt

digit_visible : (n : ℕ) → is_visible (digit n) ≡ true
digit_visible n = let small : n % 10 < 10 = mod-lt n (omega arith) in grind (arith, nat_tests)

-- a visible character more
visible_more : (x : ℕ) (xs ys : List ℕ) → is_visible x ≡ true → take_while is_visible xs ≡ ys → take_while is_visible (x ∷ xs) ≡ x ∷ ys
visible_more x xs ys is rest = take_while-cons is_visible x xs ∙ (ap (λ b. cond b (x ∷ take_while is_visible xs) []) is ∙ ap (λ (zs : List ℕ). x ∷ zs) rest)

-- six visible characters and two zero bytes are a name
six_named : (a b c d e : ℕ) → is_visible a ≡ true → is_visible b ≡ true → is_visible c ≡ true → is_visible d ≡ true → is_visible e ≡ true
    → is_name (83 ∷ a ∷ b ∷ c ∷ d ∷ e ∷ 0 ∷ 0 ∷ []) ≡ true
six_named a b c d e pa pb pc pd pe =
    ap (λ (prefix : List ℕ). nat_lt 0 (length prefix) && list_all (λ byte. byte == 0) (drop (length prefix) (83 ∷ a ∷ b ∷ c ∷ d ∷ e ∷ 0 ∷ 0 ∷ [])))
    (visible_more 83 (a ∷ b ∷ c ∷ d ∷ e ∷ 0 ∷ 0 ∷ []) (a ∷ b ∷ c ∷ d ∷ e ∷ []) refl
    (visible_more a (b ∷ c ∷ d ∷ e ∷ 0 ∷ 0 ∷ []) (b ∷ c ∷ d ∷ e ∷ []) pa
    (visible_more b (c ∷ d ∷ e ∷ 0 ∷ 0 ∷ []) (c ∷ d ∷ e ∷ []) pb
    (visible_more c (d ∷ e ∷ 0 ∷ 0 ∷ []) (d ∷ e ∷ []) pc
    (visible_more d (e ∷ 0 ∷ 0 ∷ []) (e ∷ []) pd
    (visible_more e (0 ∷ 0 ∷ []) [] pe refl))))))

named : (symbol : ℕ) → is_name (name_of symbol) ≡ true
named symbol =
    six_named (digit (symbol / 10000)) (digit (symbol / 1000)) (digit (symbol / 100)) (digit (symbol / 10)) (digit symbol)
    (digit_visible (symbol / 10000)) (digit_visible (symbol / 1000)) (digit_visible (symbol / 100)) (digit_visible (symbol / 10)) (digit_visible symbol)

pub listing_in_range : (symbol : ℕ) → InRange (listing symbol)
unfolding listing
listing_in_range symbol = (refl, named symbol)

one_of : (b : Bool) (x y : Record) → InRange x → InRange y → InRange (if b then x else y)
one_of true x y p q = p
one_of false x y p q = q

flags_few : (b : Bool) → flags_of b ≤ 1023
flags_few true = omega arith
flags_few false = omega arith

pub session_in_range : (plan : DayPlan) (k number flags : ℕ) → flags ≤ 1023 → InRange (session_record plan k number flags)
session_in_range plan k number flags few =
    one_of (is_clock plan k) _ _ tt (one_of (draw number 1 % 16 == 0) _ _ tt (one_of (nat_le (draw number 1 % 16) 9) _ _ tt few))

pub flags_in_range : (records : List Record) (symbol : ℕ) → flags_behind records symbol ≤ 1023
flags_in_range records symbol = flags_few _
