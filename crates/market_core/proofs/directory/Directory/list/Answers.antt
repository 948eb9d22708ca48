use Rattle.std.proofs.Common.{◌≡◌, ◌+◌, ◌<◌, ◌∷◌, ◌++◌, [], ℕ, List, Some, length, take, sym, ap, subst, ◌∙◌, arith}
use Rattle.std.specs.Prelude.{slice_get}
use Rattle.std.specs.Option.{option_copied}
use Rattle.std.proofs.lemmas.List.{take_more}
use Rattle.std.proofs.lemmas.Option.{get_or_from_slice_get}
use Rattle.market_core.proofs.directory.Directory.list.Goals as goal

-- one more of the first names
more : (keys names : List (List ℕ)) (i : ℕ) (name : List ℕ) → keys ≡ names → i < length keys → slice_get keys i ≡ Some name → take (i + 1) names ≡ take i names ++ name ∷ []
more keys names i name same within is =
    subst (λ (ks : List (List ℕ)). take (i + 1) ks ≡ take i ks ++ name ∷ []) same (take_more keys i [] within ∙ ap (λ (n : List ℕ). take i keys ++ n ∷ []) (get_or_from_slice_get keys i name [] is))

pub loop-id-preserved : goal.loop-id-preserved
loop-id-preserved c =
    let i = c.loop-id.id in
    let name = c.unwrap.result.now in
    let found = sym c.get_index.ensures.key ∙ ap option_copied c.unwrap.ensures in
    c.in_ok-push.ensures.added ∙ ap (λ (ns : List (List ℕ)). ns ++ name ∷ []) c.loop-id.invariant
    ∙ sym (more c.self.inside.names.keys c.args.self.now i name c.self.view_is (omega (arith, c.loop-id-test.true, c.len-id-end.ensures.len)) found)
