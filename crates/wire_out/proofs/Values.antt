-- A byte that was read is the byte of its value, and the byte of a value is read.
use Rattle.std.proofs.Common.{◌≡◌, ℕ, ◌<◌, Bool, true, false, List, Option, Some, refl, ap, subst, arith}
use Rattle.std.specs.Prelude.{IsTrue, nat_lt}
use Rattle.std.specs.Int.{w64}
use Rattle.std.proofs.lemmas.Bool.Decides.{nat_tests}
use Rattle.price_core.specs.declared.quote.Cause.{Cause}
use Rattle.price_core.specs.declared.quote.Cause.TheVariants as causes
use Rattle.session_core.specs.declared.state.Level.{Level}
use Rattle.session_core.specs.declared.state.Level.TheVariants as levels
use Rattle.session_core.specs.declared.state.Phase.{Phase}
use Rattle.session_core.specs.declared.state.Phase.TheVariants as phases
use Rattle.wire_core.specs.Fields.{number, checked}
use Rattle.wire_core.specs.OptionSteps.{◌>>=◌}
use Rattle.wire_core.proofs.Steps.{bind_some, checked_some}
use Rattle.wire_out.specs.Codes.{phase_byte, phase_of_byte, cause_byte, cause_of_byte, straddle_byte, straddle_of_byte, kind_byte, kind_of_byte, level_byte, level_of_byte}
use Rattle.wire_out.specs.Reading.{count_at}
use Rattle.wire_out.specs.declared.message.ShortKind.{ShortKind}
use Rattle.wire_out.specs.declared.message.ShortKind.TheVariants as kinds

-- the value of a field that was read, and what is known of it
pub step : {A B : Type 0} (o : Option A) (f : A → Option B) (y : B) (P : A → Type 0) → ((x : A) → o ≡ Some x → P x) → (o >>= f) ≡ Some y → (x : A) × P x × (f x ≡ Some y)
step o f y P known e =
    let b = bind_some o f y e in
    (b.0, known b.0 b.1, b.2)

pub some_is : {A : Type 0} (x y : A) → Some x ≡ Some y → x ≡ y
some_is x y e = cc

-- a number that passes a test
pub tested_ok : (test : ℕ → Bool) (n m : ℕ) → checked (test n) n ≡ Some m → (n ≡ m) × IsTrue (test m)
tested_ok test n m e =
    let c = checked_some (test n) n m e in
    (c.1, subst (λ (k : ℕ). test k ≡ true) c.1 c.0)

pub tested_again : (test : ℕ → Bool) (n : ℕ) → IsTrue (test n) → checked (test n) n ≡ Some n
tested_again test n h = ap (λ (b : Bool). checked b n) h

pub count_ok : (at : ℕ) (body : List ℕ) (n : ℕ) → count_at at body ≡ Some n → (number w64 at body ≡ n) × (0 < n)
unfolding count_at
count_ok at body n e = of_number (number w64 at body) n e where
  of_number : (n m : ℕ) → checked (nat_lt 0 n) n ≡ Some m → (n ≡ m) × (0 < m)
  of_number n m e = grind (arith, nat_tests)

pub count_again : (at : ℕ) (body : List ℕ) (n : ℕ) → number w64 at body ≡ n → 0 < n → count_at at body ≡ Some n
unfolding count_at
count_again at body n e h = rw e (of_number n h) where
  of_number : (n : ℕ) → 0 < n → checked (nat_lt 0 n) n ≡ Some n
  of_number n h = grind (arith, nat_tests)

pub phase_ok : (n : ℕ) (p : Phase) → phase_of_byte n ≡ Some p → n ≡ phase_byte p
phase_ok n p e = grind (arith, nat_tests)

pub phase_again : (p : Phase) → phase_of_byte (phase_byte p) ≡ Some p
phase_again phases.Shut = refl
phase_again _ = refl

pub cause_ok : (n : ℕ) (c : Cause) → cause_of_byte n ≡ Some c → n ≡ cause_byte c
cause_ok n c e = grind (arith, nat_tests)

pub cause_again : (c : Cause) → cause_of_byte (cause_byte c) ≡ Some c
cause_again causes.First = refl
cause_again _ = refl

pub straddle_ok : (n : ℕ) (on : Bool) → straddle_of_byte n ≡ Some on → n ≡ straddle_byte on
straddle_ok n on e = grind (arith, nat_tests)

pub straddle_again : (on : Bool) → straddle_of_byte (straddle_byte on) ≡ Some on
straddle_again false = refl
straddle_again true = refl

pub kind_ok : (n : ℕ) (k : ShortKind) → kind_of_byte n ≡ Some k → n ≡ kind_byte k
kind_ok n k e = grind (arith, nat_tests)

pub kind_again : (k : ShortKind) → kind_of_byte (kind_byte k) ≡ Some k
kind_again kinds.Triggered = refl
kind_again kinds.Carried = refl

pub level_ok : (n : ℕ) (v : Level) → level_of_byte n ≡ Some v → n ≡ level_byte v
level_ok n v e = grind (arith, nat_tests)

pub level_again : (v : Level) → level_of_byte (level_byte v) ≡ Some v
level_again levels.One = refl
level_again _ = refl
