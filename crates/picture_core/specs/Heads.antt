-- The head of a picture.
use Rattle.std.specs.Prelude.{ℕ, ◌/◌, List, codes, decimal}
use Rattle.picture_core.specs.Labels.{◌⊕◌}
use Rattle.picture_core.specs.declared.frame.TheConstants.{STYLE, HATCHINGS, NAMES}

-- how things are drawn, a text that stands in the code
unfoldable pub style : List ℕ
style = STYLE.now

-- the hatchings, another
unfoldable pub hatchings : List ℕ
hatchings = HATCHINGS.now

-- the frame with the names of its lanes and the legend, the third
unfoldable pub names : List ℕ
names = NAMES.now

-- a picture of that height begins, with its title and its description for whoever doesn't see it
unfoldable pub opening : ℕ → List ℕ → List ℕ → List ℕ
opening height title description =
    codes "<svg xmlns=\"http://www.w3.org/2000/svg\" role=\"img\" aria-labelledby=\"title description\" width=\"1280\" height=\""
    ⊕ decimal (height / 5) ⊕ codes "\" viewBox=\"0 0 6400 " ⊕ decimal height ⊕ codes "\">\n<title id=\"title\">" ⊕ title
    ⊕ codes "</title>\n<desc id=\"description\">" ⊕ description ⊕ codes "</desc>\n"

-- its page, with the title and words below it
unfoldable pub page : ℕ → List ℕ → List ℕ → List ℕ
page height title words =
    style ⊕ hatchings ⊕ codes "<rect class=\"page\" width=\"6400\" height=\"" ⊕ decimal height
    ⊕ codes "\"/>\n<text class=\"title\" x=\"800\" y=\"130\">" ⊕ title ⊕ codes "</text><text x=\"800\" y=\"210\">" ⊕ words
    ⊕ codes "</text>\n"
