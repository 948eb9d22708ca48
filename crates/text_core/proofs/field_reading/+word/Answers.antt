use Rattle.std.proofs.Common.{◌≡◌, ◌+◌, ℕ, suc, List, drop, refl, ◌∙◌, arith}
use Rattle.std.proofs.lemmas.List.{drop_min, take_rest}
use Rattle.text_core.specs.Reading.{word_len, word_at}
use Rattle.text_core.proofs.field_reading.+word.Goals as goal

word_next : (j n : ℕ) (line rest : List ℕ) → n ≡ suc j → rest ≡ drop (word_len line + 1) line → word_at j rest ≡ word_at n line
unfolding word_at
word_next j n line rest e d = rw (e, d) refl

pub returns : goal.returns
returns t c =
    c.word.ensures
    ∙ word_next _ c.args.n c.args.line.now _ (omega (arith, c.if-n-eq0.false))
    (rw (c.min-behind.ensures, c.word_len-len.ensures.value)
    (take_rest c.args.line.now _ ∙ drop_min (word_len c.args.line.now + 1) c.args.line.now))
