-- What a reading says of its steps where it succeeds.
use Rattle.std.proofs.Common.{◌≡◌, Bool, true, false, Option, Some, None, Result, Ok, Err, refl}
use Rattle.std.specs.Option.{ok_or}
use Rattle.wire_core.specs.Fields.{checked}
use Rattle.wire_core.specs.ResultSteps.{◌>>=◌}
use Rattle.wire_core.specs.OptionSteps.{◌>>=◌ as ◌>>?◌}

-- the value of a step that did not fail
pub bind_ok : {A B E : Type 0} (r : Result A E) (f : A → Result B E) (y : B) → (r >>= f) ≡ Ok y → (x : A) × (r ≡ Ok x) × (f x ≡ Ok y)
bind_ok (Ok x) f y e = (x, refl, e)
bind_ok (Err d) f y e = absurd cc

-- the value of a field that did not fail
pub field_ok : {A B E : Type 0} (o : Option A) (d : E) (f : A → Result B E) (y : B) → (ok_or o d >>= f) ≡ Ok y → (x : A) × (o ≡ Some x) × (f x ≡ Ok y)
field_ok (Some x) d f y e = (x, refl, e)
field_ok None d f y e = absurd cc

pub bind_some : {A B : Type 0} (o : Option A) (f : A → Option B) (y : B) → (o >>? f) ≡ Some y → (x : A) × (o ≡ Some x) × (f x ≡ Some y)
bind_some (Some x) f y e = (x, refl, e)
bind_some None f y e = absurd cc

pub checked_some : {A : Type 0} (b : Bool) (x y : A) → checked b x ≡ Some y → (b ≡ true) × (x ≡ y)
checked_some true x y e = (refl, cc)
checked_some false x y e = absurd cc

pub ok_is : {A E : Type 0} (x y : A) → ◌≡◌ {A = Result A E} (Ok x) (Ok y) → x ≡ y
ok_is x y e = cc
