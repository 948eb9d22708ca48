-- The command line has no options that several commands share, so `clap` says just what its definitions say.
use Rattle.std.proofs.Common.{◌≡◌, true, refl, List}
use Rattle.std.specs.Borrow.{Bor}
use Rattle.clap.specs.Words.{Text, is_simple, is_simple_and_free}
use Rattle.clap.proofs.OnLiterals.{clap_on_literals}
use Rattle.words_core.specs.Line.{halts_line, with_command}
use Rattle.words_core.specs.Settings.{takes}

pub is_free : (kinds : Bor (List (Bor Text))) → is_simple_and_free (halts_line kinds) ≡ true
unfolding clap_on_literals takes with_command
is_free kinds = refl

pub is_plain : (kinds : Bor (List (Bor Text))) → is_simple (halts_line kinds) ≡ true
unfolding clap_on_literals takes with_command
is_plain kinds = refl
