use Rattle.std.proofs.Common.{◌<◌, ◌≤◌, [], length, length-append, take, get_or, refl, sym, ap, ◌∙◌, arith}
use Rattle.std.proofs.lemmas.List.{append-nil, length-set}
use Rattle.std.proofs.lemmas.Option.{slice_get-get_or}
use Rattle.rulebook.specs.Admission.{most_names}
use Rattle.market_core.specs.Sections.{SectionState}
use Rattle.market_core.proofs.Room.{refused}
use Rattle.shard_core.proofs.Dealing.{gathered_more, stocks_within}
use Rattle.shard_core.proofs.Gathered.{stocks_of}
use Rattle.shard_core.proofs.Working.{few_on, others_stay, still}
use Rattle.shard_core.proofs.anew.gather.Goals as goal

pub loop-k-init : goal.loop-k-init
loop-k-init c = record {
  all = sym (append-nil c.args.all.now.symbols);
  spare = omega arith;
  later = λ j le. refl;
  parts = refl;
  few = c.requires.few;
}

pub loop-k-preserved : goal.loop-k-preserved
loop-k-preserved c =
    let k = c.loop-k.k in
    let olds = c.args.parts.now in
    let now = c.loop-k.parts in
    let inv = c.loop-k.invariant in
    let within : k < length olds = omega (arith, c.loop-k-test.true, c.loop-k.auto.k-end, inv.parts) in
    let part = get_or now k c.index-parts-k.result in
    let few_here : length part.symbols ≤ most_names = inv.few k part (slice_get-get_or now k c.index-parts-k.result (omega (arith, within, inv.parts))) in
    let same = still k olds now c.index-parts-k.result within inv.parts inv.later in
    let taken = stocks_of (take k olds) in
    let more = gathered_more [] olds k part c.index-parts-k.result taken within refl same in
    record {
      all = (c.in_ok-append.ensures).all ∙ gathered_more c.args.all.now.symbols olds k part c.index-parts-k.result c.loop-k.all.symbols within inv.all same;
      spare = omega (arith, (c.in_ok-append.ensures).spare, inv.spare, ap length more, length-append taken part.symbols);
      later = others_stay k olds now c.append.new.later inv.later;
      parts = length-set now k c.append.new.later ∙ inv.parts;
      few = few_on k now c.append.new.later inv.few (omega (arith, c.append.ensures.fewer, few_here));
    }

pub returns-in_err-append-clause-few : goal.returns-in_err-append-clause-few
returns-in_err-append-clause-few c =
    let k = c.loop-k.k in
    let now = c.loop-k.parts in
    let inv = c.loop-k.invariant in
    let part = get_or now k c.index-parts-k.result in
    let few_here : length part.symbols ≤ most_names = inv.few k part (slice_get-get_or now k c.index-parts-k.result (omega (arith, c.loop-k-test.true, c.loop-k.auto.k-end, inv.parts))) in
    few_on k now c.append.new.later inv.few (omega (arith, c.append.ensures.fewer, few_here))

pub returns-in_err-append-clause-succeeds : goal.returns-in_err-append-clause-succeeds
returns-in_err-append-clause-succeeds c = λ room.
    let k = c.loop-k.k in
    let olds = c.args.parts.now in
    let now = c.loop-k.parts in
    let inv = c.loop-k.invariant in
    let within : k < length olds = omega (arith, c.loop-k-test.true, c.loop-k.auto.k-end, inv.parts) in
    let same = still k olds now c.index-parts-k.result within inv.parts inv.later in
    let there = stocks_within olds k c.index-parts-k.result within in
    absurd (refused c.append.result _ c.in_err-append.was (c.append.ensures.succeeds (omega (arith, room, inv.spare, there, ap (λ (part : SectionState). length part.symbols) same))))
