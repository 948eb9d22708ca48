-- Civil dates of the years 2000 to 2099.
use Rattle.std.specs.Prelude.{ℕ, ◌+◌, ◌*◌, ◌/◌, ◌%◌, ◌≤◌, Bool, ◌==◌, ◌||◌, if◌then◌else◌, List, [], ◌∷◌}

-- a date by its parts
pub record Civil : Type 0 where
  pub year : ℕ
  pub month : ℕ
  pub day : ℕ

-- of the years 2000 to 2099 every fourth is a leap year, 2000 among them
abbrev pub is_leap : ℕ → Bool
is_leap year = year % 4 == 0

-- the days of a month
abbrev pub days_of : ℕ → ℕ → ℕ
days_of year month =
    if month == 2 then (if is_leap year then 29 else 28)
    else if month == 4 || month == 6 || month == 9 || month == 11 then 30
    else 31

-- a year that dates may have
pub record IsYear (year : ℕ) : Type 0 where
  pub first : 2000 ≤ year
  pub last : year ≤ 2099

-- a month of a year
pub record IsMonth (month : ℕ) : Type 0 where
  pub first : 1 ≤ month
  pub last : month ≤ 12

-- a day of that month
pub record IsDayOf (year month day : ℕ) : Type 0 where
  pub first : 1 ≤ day
  pub last : day ≤ days_of year month

-- a date that exists
pub record IsCivil (d : Civil) : Type 0 where
  pub year : IsYear d.year
  pub month : IsMonth d.month
  pub day : IsDayOf d.year d.month d.day

-- a date as a number that grows with time
abbrev pub date_number : Civil → ℕ
date_number d = (d.year * 100 + d.month) * 100 + d.day

-- a decimal digit in ASCII
abbrev pub digit : ℕ → ℕ
digit n = n % 10 + 48

-- yyyy-mm-dd in ASCII
abbrev pub text_of : Civil → List ℕ
text_of d =
    digit (d.year / 1000) ∷ digit (d.year / 100) ∷ digit (d.year / 10) ∷ digit d.year ∷ 45
    ∷ digit (d.month / 10) ∷ digit d.month ∷ 45 ∷ digit (d.day / 10) ∷ digit d.day ∷ []
