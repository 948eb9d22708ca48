use Rattle.std.proofs.Common.{◌≡◌, length, rules}
use Rattle.detail_core.proofs.Parts.{are_details, told_nothing}
use Rattle.detail_core.proofs.telling.tell_details.Goals as goal

pub returns-then-is_empty-clause-told : goal.returns-then-is_empty-clause-told
returns-then-is_empty-clause-told g c =
    let none : length c.args.text.now ≡ 0 = search rules in
    told_nothing c.args.text.now _ none

pub returns-then-is_empty-clause-lines : goal.returns-then-is_empty-clause-lines
returns-then-is_empty-clause-lines g c = are_details c.args.text.now

pub returns-clause-lines : goal.returns-clause-lines
returns-clause-lines g c = are_details c.args.text.now
