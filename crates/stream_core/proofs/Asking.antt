-- The reads of a run, and of the next.
use Rattle.std.proofs.Common.{◌≡◌, ℕ, ◌≤◌, List, [], ◌∷◌, ◌++◌, length, take, drop, refl, sym, ap, ◌∙◌, append_assoc}
use Rattle.std.specs.Prelude.{Option, Some, option_map}
use Rattle.std.specs.Io.KnownBytes.{append_known}
use Rattle.std.proofs.lemmas.List.{append-nil}
use Rattle.host_core.specs.Outside.{Outside, Ask, Asks}
use Rattle.stream_core.specs.Asking.{AllPrompt, Prompt}

module _ (text : List ℕ → List ℕ) (begin : Option (List ℕ)) (input : List ℕ) where
  -- nothing was read
  pub no_ask : {old new : Option (List Ask)} → new ≡ old → Prompt text begin input old new
  no_ask same before sent known exposed = ([], same ∙ known ∙ ap Some (sym (append-nil before)), tt)

  -- one read, which began when all was sent
  pub one_ask : (count : ℕ) (mid new : Outside) {old : Option (List Ask)} → mid.asks ≡ old → mid.input ≡ Some (drop count input) → count ≤ length input
      → mid.sent ≡ append_known begin (text (take count input)) → Asks mid new → Prompt text begin input old new.asks
  one_ask count mid new same left there all asks before sent known exposed =
      let said = text (take count input) in
      let now : append_known begin said ≡ Some (sent ++ said) = ap (λ (known : Option (List ℕ)). append_known known said) exposed in (
        record { left = drop count input; sent = sent ++ said } ∷ [],
        asks (drop count input) (sent ++ said) left (all ∙ now) ∙ ap (option_map (λ (l : List Ask). l ++ record { left = drop count input; sent = sent ++ said } ∷ [])) (same ∙ known),
        (record { count = count; within = there; left_is = refl; sent_is = sym now }, tt),
      )

  both : (xs ys : List Ask) → AllPrompt text begin input xs → AllPrompt text begin input ys → AllPrompt text begin input (xs ++ ys)
  both [] ys first second = second
  both (x ∷ xs) ys first second = (first.0, both xs ys first.1 second)

  -- the reads of a run, and then those of the next
  pub more_asks : {old mid new : Option (List Ask)} → Prompt text begin input old mid → Prompt text begin input mid new → Prompt text begin input old new
  more_asks first second before sent known exposed =
      let a = first before sent known exposed in
      let b = second (before ++ a.0) sent a.1 exposed in
      (a.0 ++ b.0, b.1 ∙ ap Some (append_assoc before a.0 b.0), both a.0 b.0 a.2 b.2)
