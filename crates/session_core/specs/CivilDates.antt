-- A date, or the first of its parts that is out of its range.
use Rattle.std.specs.Prelude.{ℕ, nat_le, ◌&&◌, if◌then◌else◌, not, Result, Ok, Err}
use Rattle.session_core.specs.declared.date.BadDate.{BadDate}
use Rattle.session_core.specs.declared.date.BadDate.TheVariants.{Year, Month, DayOfMonth}
use Rattle.session_core.specs.Dates.{Civil, days_of}

-- the date of a year, a month and a day
abbrev pub civil_date : ℕ → ℕ → ℕ → Result Civil BadDate
civil_date year month day =
    if not (nat_le 2000 year && nat_le year 2099) then Err Year
    else if not (nat_le 1 month && nat_le month 12) then Err Month
    else if not (nat_le 1 day && nat_le day (days_of year month)) then Err DayOfMonth
    else Ok (record { year = year; month = month; day = day })
