-- A trade's condition bits meet the barring ones exactly where one of its bits bars it.
use Rattle.std.proofs.Common.{◌≡◌, ◌<◌, ◌≤◌, ◌+◌, ℕ, zero, suc, Bool, true, false, not, ◌==◌, ◌&&◌, if◌then◌else◌, bit_and, List, [], ◌∷◌, inl, inr, refl, sym, ap, ◌∙◌, arith}
use Rattle.std.specs.Int.{bit_at}
use Rattle.std.specs.List.{list_any, range_with_len}
use Rattle.std.proofs.lemmas.Bool.{and_parts, or_parts, or_from, both_ways, cases_eq, cases_lt, eq-eqb, eqb-true, eqb-false, ne_eqb, and_cases, false_from_ne_true}
use Rattle.std.proofs.lemmas.Nat.Bits.{bit_at_and, bit_at-zero, bit_at-lt, bit_at_above, same_from_bits}
use Rattle.session_core.specs.declared.day.Day.{Day}
use Rattle.session_core.specs.Times.{in_session}
use Rattle.eligible_core.specs.declared.condition.Condition.TheVariants.{BarsNothing, Bars, NotAssigned}
use Rattle.eligible_core.specs.Conditions.{barring_bits, condition_of, is_barring, is_set, has_barring_bit, eligible}

any-none : (test : ℕ → Bool) (xs : List ℕ) → ((x : ℕ) → test x ≡ false) → list_any test xs ≡ false
any-none test [] none = refl
any-none test (x ∷ xs) none = or_from _ _ (none x) (any-none test xs none)

none-any : (test : ℕ → Bool) (n from key : ℕ) → list_any test (range_with_len from n) ≡ false → from ≤ key → key < from + n → test key ≡ false
none-any test zero from key none low high = absurd (omega arith)
none-any test (suc n) from key none low high =
    let parts = or_parts (test from) (list_any test (range_with_len (from + 1) n)) none in
    elim (cases_eq key from) [
      | inl same ↦ ap test same ∙ parts.0
      | inr other ↦ none-any test n (from + 1) key parts.1 (omega arith) (omega arith)
    ]

is_barring-if : (barring assigned : Bool) → is_barring (if barring then Bars else if assigned then BarsNothing else NotAssigned) ≡ barring
is_barring-if true assigned = refl
is_barring-if false true = refl
is_barring-if false false = refl

abbrev bars : ℕ → ℕ → Bool
bars flags bit = is_set flags bit && is_barring (condition_of bit)

-- a bit that is set and bars is a bit of both numbers
bit_at-bars : (flags bit : ℕ) → bars flags bit ≡ true → bit_at (bit_and flags barring_bits) bit ≡ 1
bit_at-bars flags bit both =
    let parts = and_parts (is_set flags bit) (is_barring (condition_of bit)) both in
    let one = eqb-true _ 1 parts.0 in
    let other = eqb-true _ 1 (sym (is_barring-if (is_set barring_bits bit) _) ∙ parts.1) in
    omega (arith, bit_at_and flags barring_bits bit, one, other)

bars-zero : (flags bit : ℕ) → bit_and flags barring_bits ≡ 0 → bars flags bit ≡ false
bars-zero flags bit none =
    let zero_ : bit_at (bit_and flags barring_bits) bit ≡ 0 = ap (λ n. bit_at n bit) none ∙ bit_at-zero bit in
    false_from_ne_true _ (λ both. omega (arith, bit_at-bars flags bit both))

bit_at-free : (flags bit : ℕ) → bars flags bit ≡ false → bit_at (bit_and flags barring_bits) bit ≡ 0
bit_at-free flags bit free =
    let both = bit_at_and flags barring_bits bit in
    let first = bit_at-lt flags bit in
    let second = bit_at-lt barring_bits bit in
    elim (and_cases (is_set flags bit) (is_barring (condition_of bit)) free) [
      | inl unset ↦ let h = eqb-false _ 1 unset in omega arith
      | inr unbarred ↦ let h = eqb-false _ 1 (sym (is_barring-if (is_set barring_bits bit) _) ∙ unbarred) in omega arith
    ]

bit_at-none : (flags bit : ℕ) → has_barring_bit flags ≡ false → bit_at (bit_and flags barring_bits) bit ≡ 0
bit_at-none flags bit none =
    elim (cases_lt bit 16) [
      | inl below ↦ bit_at-free flags bit (none-any (bars flags) 16 0 bit none (omega arith) (omega arith))
      | inr above ↦ let zero_ = bit_at_above barring_bits 16 bit (omega arith) above in let both = bit_at_and flags barring_bits bit in omega arith
    ]

has_barring_bit-is : (flags : ℕ) (has : Bool) → has_barring_bit flags ≡ has → not has ≡ (bit_and flags barring_bits == 0)
has_barring_bit-is flags false none =
    sym (eq-eqb _ 0 (same_from_bits _ 0 (λ bit. bit_at-none flags bit none ∙ sym (bit_at-zero bit))))
has_barring_bit-is flags true some =
    sym (ne_eqb _ 0 (λ none. both_ways (has_barring_bit flags) (any-none (bars flags) (range_with_len 0 16) (λ bit. bars-zero flags bit none)) some))

not_not : (b : Bool) → not (not b) ≡ b
not_not true = refl
not_not false = refl

-- so one mask tells whether one of the bits bars
pub mask_bars : (flags : ℕ) → not (bit_and flags barring_bits == 0) ≡ has_barring_bit flags
mask_bars flags = ap not (sym (has_barring_bit-is flags _ refl)) ∙ not_not (has_barring_bit flags)

-- in the session a trade counts where none of its bits bars it
pub eligible-in_session : (flags t : ℕ) (day : Day) → true ≡ in_session t day → not (has_barring_bit flags) ≡ eligible flags t day
eligible-in_session flags t day inside =
    has_barring_bit-is flags _ refl ∙ ap (λ b. b && (bit_and flags barring_bits == 0)) inside
