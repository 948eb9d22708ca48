use Rattle.std.proofs.Common.{◌≡◌, ℕ, ◌+◌, ◌<◌, ◌≤◌, List, length, map, get_or, refl, sym, ap, subst, ◌∙◌, arith}
use Rattle.std.specs.Prelude.{◌==◌, slice_set}
use Rattle.std.proofs.lemmas.List.{length-set}
use Rattle.std.proofs.lemmas.Option.{slice_get-get_or}
use Rattle.rulebook.specs.Admission.{most_names}
use Rattle.market_core.specs.Sections.{SectionState}
use Rattle.merge_core.specs.declared.tagged.Tagged.{Tagged}
use Rattle.shard_core.specs.Turns.{PartsTell, noted}
use Rattle.shard_core.proofs.Working.{few_on, length-map_all, map-set, next_id, one_worked, others_stay, still}
use Rattle.shard_core.proofs.part.work_all.Goals as goal

pub loop-k-init : goal.loop-k-init
loop-k-init c = record {
  tells = λ k was is items below found left says. absurd (omega (arith, below));
  later = λ j le. refl;
  parts = refl;
  told = c.requires.told;
  start = refl;
  low = omega arith;
  few = c.requires.few;
}

pub loop-k-preserved : goal.loop-k-preserved
loop-k-preserved c =
    let k = c.loop-k.k in
    let olds = c.args.parts.now in
    let now = c.loop-k.parts in
    let inv = c.loop-k.invariant in
    let notes = noted c.args.xs.now c.args.turns.now in
    let within : k < length olds = c.loop-k-test.true in
    let was = c.index-parts-k-in-loop-k.result in
    let first = c.index-parts-k.result in
    let is = c.take_turns.new.section in
    let len_is : c.len-start.result ≡ length (get_or now k first).symbols = c.len-start.ensures in
    let few_here : length (get_or now k first).symbols ≤ most_names = inv.few k (get_or now k first) (slice_get-get_or now k first (omega (arith, within, inv.parts))) in
    record {
      tells = subst (λ (lists : List (List Tagged)). PartsTell 0 (k + 1) notes olds (slice_set now k is) lists) (sym (map-set (λ list. list.items) c.loop-k.told k c.take_turns.new.told))
          (one_worked k c.loop-k.start (k + 1 == length now) notes olds now (map (λ list. list.items) c.loop-k.told) was is c.take_turns.new.told.items within inv.parts
          (length-map_all (λ list. list.items) c.loop-k.told ∙ inv.told) inv.later inv.start (ap (λ (n : ℕ). k + 1 == n) inv.parts)
          (c.in_ok-take_turns.ensures).tells
          inv.tells);
      later = others_stay k olds now is inv.later;
      parts = length-set now k is ∙ inv.parts;
      told = length-set c.loop-k.told k c.take_turns.new.told ∙ inv.told;
      start = (λ i. inv.start i + (len_is ∙ ap (λ (s : SectionState). length s.symbols) (still k olds now first within inv.parts inv.later)) i) ∙ sym (next_id olds k first within);
      low = omega (arith, inv.low, len_is, few_here);
      few = few_on k now is inv.few c.take_turns.ensures.few;
    }

pub returns-clause-tells : goal.returns-clause-tells
returns-clause-tells c = λ k was is items below. c.loop-k.invariant.tells k was is items (omega (arith, below, c.loop-k-test.false))
