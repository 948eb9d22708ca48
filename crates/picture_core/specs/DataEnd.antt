-- Where the data of a day ends.
use Rattle.std.specs.Prelude.{ℕ, ◌-◌, nat_lt, if◌then◌else◌, List, [], codes, decimal}
use Rattle.picture_core.specs.Scales.{x_of}
use Rattle.picture_core.specs.Labels.{◌⊕◌, time_text}
use Rattle.picture_core.specs.Elements.{label, label_text}
use Rattle.picture_core.specs.declared.element.Style.TheVariants.{Plain, Before}

-- the words over the line: from it on, and on the right of the picture up to it
unfoldable pub end_words : ℕ → ℕ → List ℕ
end_words x last =
    if nat_lt x 1400 then label_text (label Plain x 285 (codes "data ends " ⊕ time_text last) [])
    else label_text (label Before x 285 (codes "data ends " ⊕ time_text last) [])

-- what stands behind the last moment is covered down to a frame's lower edge, and a line goes down there
unfoldable pub end_line : ℕ → ℕ → List ℕ
end_line bottom x =
    codes "<rect class=\"untold\" x=\"" ⊕ decimal x ⊕ codes "\" y=\"303\" width=\"" ⊕ decimal (6197 - x)
    ⊕ codes "\" height=\"" ⊕ decimal (bottom - 306) ⊕ codes "\"/><path class=\"end\" d=\"M" ⊕ decimal x ⊕ codes " 300V" ⊕ decimal bottom ⊕ codes "\"/>"

-- the end of the data, at the last moment that is told
abbrev pub data_end : ℕ → ℕ → List ℕ
data_end bottom last = end_line bottom (x_of last) ⊕ end_words (x_of last) last ⊕ codes "\n"

-- it goes down through the lanes
unfoldable pub lanes_end : ℕ → List ℕ
lanes_end last = codes "<path class=\"end\" d=\"M" ⊕ decimal (x_of last) ⊕ codes " 3040V3830\"/>\n"
