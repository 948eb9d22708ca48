-- The one body of each record.
use Rattle.std.specs.Prelude.{◌≡◌, ℕ, ◌<◌, ◌≤◌, ◌^◌, IsTrue, List, [], ◌∷◌, ◌++◌, length, IfSome}
use Rattle.std.specs.Int.{w16, w32, w64, to_be_bytes}
use Rattle.price_core.specs.Absence.{units_or_zero}
use Rattle.price_core.specs.Ranges.{IsPrice, IsIndex, IsLeverage}
use Rattle.session_core.specs.Dates.{Civil, IsCivil}
use Rattle.session_core.specs.Moments.{IsMoment}
use Rattle.wire_core.specs.Names.{is_name}
use Rattle.wire_in.specs.Codes.{close_byte, profile_byte, tier_byte, kind_byte, unmatched_byte}
use Rattle.wire_in.specs.declared.record.Record.{Record}
use Rattle.wire_in.specs.declared.record.Record.TheVariants.{Day, Listing, Trade, Cancel, Quote, IndexTick, Clock, Notice, Indication}

abbrev pub date_bytes : Civil → List ℕ
date_bytes d = to_be_bytes w16 d.year ++ d.month ∷ d.day ∷ []

-- the type byte, the moment, and the other fields in their order
abbrev pub body_of : Record → List ℕ
body_of (Day m d v) =
    1 ∷ to_be_bytes w64 m ++ date_bytes d.date ++ close_byte d.close ∷ profile_byte d.profile ∷ [] ++ to_be_bytes w32 v
body_of (Listing m n t l c) =
    2 ∷ to_be_bytes w64 m ++ (n ++ (tier_byte t ∷ l ∷ to_be_bytes w64 (units_or_zero c)))
body_of (Trade m s n p z f) =
    3 ∷ to_be_bytes w64 m ++ to_be_bytes w16 s ++ to_be_bytes w32 n ++ to_be_bytes w64 p ++ to_be_bytes w32 z
    ++ to_be_bytes w16 f
body_of (Cancel m s n) = 4 ∷ to_be_bytes w64 m ++ to_be_bytes w16 s ++ to_be_bytes w32 n
body_of (Quote m s b o y z) =
    5 ∷ to_be_bytes w64 m ++ to_be_bytes w16 s ++ to_be_bytes w64 (units_or_zero b) ++ to_be_bytes w64 (units_or_zero o)
    ++ to_be_bytes w32 y ++ to_be_bytes w32 z
body_of (IndexTick m v) = 6 ∷ to_be_bytes w64 m ++ to_be_bytes w32 v
body_of (Clock m) = 7 ∷ to_be_bytes w64 m
body_of (Notice m s k) = 8 ∷ to_be_bytes w64 m ++ to_be_bytes w16 s ++ kind_byte k ∷ []
body_of (Indication m s p u) =
    9 ∷ to_be_bytes w64 m ++ to_be_bytes w16 s ++ to_be_bytes w64 p ++ unmatched_byte u ∷ []

-- what of a record's fields isn't kept by their types: a name, and the ten assigned flags
abbrev pub InRange : Record → Type 0
InRange (Listing m n t l c) = (length n ≡ 8) × IsTrue (is_name n)
InRange (Trade m s n p z f) = f ≤ 1023
InRange _ = Unit {0}

-- the numbers of a record are those of its types
abbrev pub HasTypes : Record → Type 0
HasTypes (Day m d v) = IsMoment m × IsCivil d.date × IsIndex v
HasTypes (Listing m n t l c) = IsMoment m × IsLeverage l × IfSome c IsPrice
HasTypes (Trade m s n p z f) = IsMoment m × (s < 2 ^ 16) × (n < 2 ^ 32) × IsPrice p × (z < 2 ^ 32)
HasTypes (Cancel m s n) = IsMoment m × (s < 2 ^ 16) × (n < 2 ^ 32)
HasTypes (Quote m s b o y z) =
    IsMoment m × (s < 2 ^ 16) × IfSome b IsPrice × IfSome o IsPrice × (y < 2 ^ 32) × (z < 2 ^ 32)
HasTypes (IndexTick m v) = IsMoment m × IsIndex v
HasTypes (Clock m) = IsMoment m
HasTypes (Notice m s k) = IsMoment m × (s < 2 ^ 16)
HasTypes (Indication m s p u) = IsMoment m × (s < 2 ^ 16) × IsPrice p

-- a body spells a record
pub record Spells (body : List ℕ) (x : Record) : Type 0 where
  pub types : HasTypes x
  pub ranges : InRange x
  pub bytes : body ≡ body_of x
