use Rattle.std.proofs.Common.{◌≡◌, ◌<◌, List, ◌∷◌, ◌++◌, [], ℕ, length, sym, ap, ◌∙◌, arith}
use Rattle.symbol_core.specs.Rests.{SymbolState}
use Rattle.market_core.specs.Fresh.{is_marked}
use Rattle.market_core.specs.Sections.{SectionState}
use Rattle.market_core.proofs.Restoring.{marked_at, marked_no, marked_yes}
use Rattle.market_core.proofs.section.Section.carried.Goals as goal
use Rattle.market_core.proofs.section.Section.carried.Goals.{then-is_carried+in_ok-push, else-is_carried}

pub loop-id-preserved : goal.loop-id-preserved
loop-id-preserved c =
    let id = c.loop-id.id in
    let items = c.self.inside.symbols.items in
    let symbols = c.args.self.now.symbols in
    let same : items ≡ symbols = ap (λ (s : SectionState). s.symbols) c.self.view_is in
    let within : id < length items = omega (arith, c.loop-id-test.true, c.len-id-end.ensures) in
    let marked : is_marked symbols id ≡ c.is_carried.result = ap (λ (xs : List SymbolState). is_marked xs id) (sym same) ∙ marked_at items id c.index.result.now within c.index.ensures ∙ sym c.is_carried.ensures.value in
    elim c.if-is_carried.branch [
      | then-is_carried+in_ok-push w ↦
          w.ids-is ∙ w.in_ok-push.ensures.added ∙ ap (λ (ids : List ℕ). ids ++ id ∷ []) c.loop-id.invariant ∙ sym (marked_yes symbols id (marked ∙ w.if-is_carried.true))
      | else-is_carried w ↦ w.ids-is ∙ c.loop-id.invariant ∙ sym (marked_no symbols id (marked ∙ w.if-is_carried.false))
    ]
