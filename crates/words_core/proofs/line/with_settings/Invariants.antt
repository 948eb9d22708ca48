use Rattle.std.proofs.Common.{◌≡◌, false, take, fold}
use Rattle.clap.specs.Words.{app_of, new_app}
use Rattle.clap.specs.declared.builder.command.Command.TheViews.{out-Command as fields_of}
use Rattle.words_core.specs.Commands.{word_of}
use Rattle.words_core.specs.Line.{with_setting}
use Rattle.words_core.proofs.line.with_settings.Given as goal

-- those of the options so far that the command takes are in the line
abbrev pub invariant-loop-setting : goal.invariant-loop-setting
invariant-loop-setting l = record {
  app : app_of l.line ≡ fold (with_setting l.kind l.verb) (new_app (word_of l.verb)) (take l.setting-index l.settings);
  local : (fields_of l.line).has_globals ≡ false;
}
