use Rattle.std.proofs.Common.{◌∙◌, Some, ap, subst, sym}
use Rattle.words_core.specs.Settings.{IsIn}
use Rattle.words_core.specs.Plain.{IsWithin}
use Rattle.words_core.specs.declared.setting.Value.{Value}
use Rattle.words_core.proofs.Ranges.{put_within, kind_within, summary_within}
use Rattle.words_core.proofs.options.Options.with_word.Goals as goal

pub returns-in_ok-n-in-Number-clause-range : goal.returns-in_ok-n-in-Number-clause-range
returns-in_ok-n-in-Number-clause-range c =
    let taken = sym (ap (λ (value : Value). Some value) c.in-Number.is) ∙ c.in_ok-value.ensures in
    let is = subst (λ value. IsIn value c.in_ok-n-in-Number.n) taken c.in_ok-n-in-Number.ensures.range in
    subst (IsWithin c.args.verb) (sym c.with_number.ensures) (put_within c.args.verb c.args.setting c.in_ok-n-in-Number.n c.args.self is c.requires)

pub returns-in_ok-kind-in-Kind-clause-range : goal.returns-in_ok-kind-in-Kind-clause-range
returns-in_ok-kind-in-Kind-clause-range c = kind_within c.args.verb _ c.args.self c.requires

pub returns-in-Nothing-clause-range : goal.returns-in-Nothing-clause-range
returns-in-Nothing-clause-range c = summary_within c.args.verb _ c.args.self c.requires
