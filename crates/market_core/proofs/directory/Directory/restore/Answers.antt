use Rattle.std.proofs.Common.{◌≡◌, ℕ, List, [], None, get_or, sym, subst}
use Rattle.std.specs.Prelude.{position}
use Rattle.std.specs.Str.{bytes_eq}
use Rattle.std.proofs.lemmas.Option.{slice_get-get_or}
use Rattle.market_core.proofs.Restoring.{is_new}
use Rattle.market_core.proofs.directory.Directory.restore.Goals as goal

pub push-requires-clause-new : goal.push-requires-clause-new
push-requires-clause-new c =
    let names = c.args.names.now in
    let i = c.loop-name.name-index in
    subst (λ (d : List (List ℕ)). position (bytes_eq (get_or names i [])) d ≡ None) (sym c.loop-name.invariant)
    (is_new names i (get_or names i []) c.requires.different (slice_get-get_or names i [] c.loop-name-test.true))
