use Rattle.text_core.proofs.field_reading.+word.Given as goal

abbrev pub decreases-word : goal.decreases-word
decreases-word l = l.n
