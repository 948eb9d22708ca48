use Rattle.std.proofs.Common.{◌≡◌, Some, take, fold, IfSome}
use Rattle.clap.specs.Words.{found_of, rows_of}
use Rattle.words_core.specs.Asked.{with_found}
use Rattle.words_core.specs.Plain.{IsWithin, no_options}
use Rattle.words_core.proofs.rows.options_found.Given as goal

-- those of the options so far that were found
abbrev pub invariant-loop-setting : goal.invariant-loop-setting
invariant-loop-setting l = record {
  exact : l.given ≡ fold (with_found l.verb (rows_of (found_of l.found))) (Some no_options) (take l.setting-index l.settings);
  range : IfSome l.given (IsWithin l.verb);
}
