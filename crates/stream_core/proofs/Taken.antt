-- How much of the input was taken.
use Rattle.std.proofs.Common.{◌≡◌, ℕ, ◌+◌, ◌≤◌, List, drop, refl, sym, ap, subst, ◌∙◌, arith}
use Rattle.std.specs.Prelude.{Option, Some, None, option_map}
use Rattle.std.proofs.lemmas.Iterator.Adapters.{option_map_id}
use Rattle.std.proofs.lemmas.List.{drop-drop}
use Rattle.stream_core.specs.Taking.{ReadsAtMost}

drop-twice : (a b : ℕ) (known : Option (List ℕ)) → option_map (λ (input : List ℕ). drop b input) (option_map (λ (input : List ℕ). drop a input) known) ≡ option_map (λ (input : List ℕ). drop (a + b) input) known
drop-twice a b None = refl
drop-twice a b (Some input) = ap (λ (left : List ℕ). Some left) (drop-drop b a input)

-- nothing was taken
pub takes_none : (most : ℕ) (old new : Option (List ℕ)) → new ≡ old → ReadsAtMost most old new
takes_none most old new same = record { count = 0; within = omega arith; left = same ∙ sym (option_map_id old) }

-- some bytes were taken, and then some more
pub takes_on : (a b most : ℕ) (old mid new : Option (List ℕ)) → a + b ≤ most → ReadsAtMost a old mid → ReadsAtMost b mid new → ReadsAtMost most old new
takes_on a b most old mid new le first second = record {
  count = first.count + second.count;
  within = omega (arith, le, first.within, second.within);
  left = second.left ∙ ap (λ known. option_map (λ (input : List ℕ). drop second.count input) known) first.left ∙ drop-twice first.count second.count old;
}

-- calls that leave the input alone, before and after
pub takes_between : (n : ℕ) (old mid last new : Option (List ℕ)) → mid ≡ old → new ≡ last → ReadsAtMost n mid last → ReadsAtMost n old new
takes_between n old mid last new first second reads =
    subst (λ (known : Option (List ℕ)). ReadsAtMost n known new) first (subst (λ (known : Option (List ℕ)). ReadsAtMost n mid known) (sym second) reads)
