-- The words that stand in the picture.
use Rattle.std.specs.Prelude.{ℕ, ◌-◌, ◌/◌, ◌%◌, ◌^◌, Bool, false, ◌==◌, ◌||◌, if◌then◌else◌, List, [], ◌++◌, codes, decimal}
use Rattle.std.specs.Fmt.{padded_integral, format_spec}
use Rattle.std.specs.List.{fold, flat_map}
use Rattle.std.specs.Char.{encode_utf8}
use Rattle.wire_out.specs.declared.message.Message.{Message}
use Rattle.wire_out.specs.declared.message.Message.TheVariants.{Listed}
use Rattle.wire_out.specs.declared.message.Stamped.{Stamped}

-- one text, and then the other
infixr 66 ◌⊕◌
abbrev pub ◌⊕◌ : List ℕ → List ℕ → List ℕ
first ⊕ second = first ++ second

-- a number with zeros before it, up to so many digits
abbrev pub with_digits : ℕ → ℕ → List ℕ
with_digits count n = padded_integral (format_spec 32 0 4 count (2 ^ 64 - 1)) false [] (decimal n)

-- ten-thousandths of a dollar as cents, with four digits where they are no whole number of cents
abbrev pub cents_text : ℕ → List ℕ
cents_text rest = if rest % 100 == 0 then with_digits 2 (rest / 100) else with_digits 4 rest

-- a price in dollars and cents
unfoldable pub dollars_text : ℕ → List ℕ
dollars_text units = decimal (units / 10000) ⊕ codes "." ⊕ cents_text (units % 10000)

-- a moment in hours, minutes and seconds
unfoldable pub time_text : ℕ → List ℕ
time_text moment =
    with_digits 2 (moment / 1000000000 / 3600) ⊕ codes ":" ⊕ with_digits 2 (moment / 1000000000 / 60 % 60)
    ⊕ codes ":" ⊕ with_digits 2 (moment / 1000000000 % 60)

-- a character of a name that means something else in a picture's text: one of &<>"'
abbrev pub is_markup : ℕ → Bool
is_markup byte = byte == 38 || (byte == 60 || (byte == 62 || (byte == 34 || byte == 39)))

-- such a character is written by its number, and a zero is none
abbrev pub character_text : ℕ → List ℕ
character_text byte = if is_markup byte then codes "&#" ⊕ decimal byte ⊕ codes ";" else if byte == 0 then [] else encode_utf8 byte

-- the name that a message tells of a symbol, behind a blank, else the one that was told before
abbrev pub name_after : ℕ → List ℕ → Message → List ℕ
name_after symbol text (Listed s name) = if s == symbol then codes " " ⊕ flat_map character_text name else text
name_after symbol text _ = text

-- the name of the symbol, where a listing tells it
unfoldable pub name_text : ℕ → List Stamped → List ℕ
name_text symbol messages = fold (λ text x. name_after symbol text x.message) [] messages
