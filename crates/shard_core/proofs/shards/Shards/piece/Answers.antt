use Rattle.std.proofs.Common.{◌≡◌, List, ◌∷◌, ◌++◌, length, map, Vec, Global, true≢false, sym, ap, subst, ◌∙◌, arith}
use Rattle.std.specs.Vec.{with_items}
use Rattle.std.proofs.lemmas.List.{with_items_is}
use Rattle.symbol_core.specs.Rests.{SymbolState}
use Rattle.market_core.specs.MarketState.{Represents}
use Rattle.market_core.specs.Sections.{SectionState}
use Rattle.merge_core.specs.declared.tagged.Tagged.{Tagged}
use Rattle.shard_core.specs.declared.turns.Turn.{Turn}
use Rattle.shard_core.specs.Block.{ShardsState, followed, market_of}
use Rattle.merge_core.specs.Merged.{AreOfFirst, further, merged}
use Rattle.shard_core.specs.Turns.{PartsTell, noted}
use Rattle.shard_core.proofs.Gathered.{answered, stocks_of}
use Rattle.shard_core.proofs.Markets.{market_with}
use Rattle.shard_core.proofs.Opening.{begins}
use Rattle.shard_core.proofs.PieceByPiece.{further-given, none_further}
use Rattle.shard_core.proofs.Working.{length-map_all}
use Rattle.shard_core.proofs.shards.Shards.piece.Goals as goal

pub returns-then-not-is_begun-clause-given : goal.returns-then-not-is_begun-clause-given
returns-then-not-is_begun-clause-given g c = λ capacity applied stands lawful.
    let now = subst (λ (s : ShardsState). Represents (market_of s) applied) (sym c.self.view_is) stands in
    absurd (true≢false (sym (begins capacity applied c.args.xs.now c.self.inside.lead (stocks_of c.self.inside.parts.items) now lawful) ∙ sym c.is_begun.ensures ∙ c.if-not-is_begun.true))

pub returns-then-not-is_begun-clause-stands : goal.returns-then-not-is_begun-clause-stands
returns-then-not-is_begun-clause-stands g c = λ capacity applied stands lawful.
    let now = subst (λ (s : ShardsState). Represents (market_of s) applied) (sym c.self.view_is) stands in
    absurd (true≢false (sym (begins capacity applied c.args.xs.now c.self.inside.lead (stocks_of c.self.inside.parts.items) now lawful) ∙ sym c.is_begun.ensures ∙ c.if-not-is_begun.true))

pub returns-then-not-is_begun-clause-behind : goal.returns-then-not-is_begun-clause-behind
returns-then-not-is_begun-clause-behind g c = none_further c.args.out.now.items

pub returns-clause-given : goal.returns-clause-given
returns-clause-given g c = λ capacity applied stands lawful.
    let xs = c.args.xs.now in
    let olds = c.even_out.new.parts in
    let news = c.work_parts.new.parts in
    let market = c.lead_all.new.market.items in
    let told = map (λ (list : Vec Tagged Global). list.items) c.work_parts.new.told in
    let even = c.in_ok-even_out.ensures in
    let as_many : length olds ≡ c.self.inside.parts.len = omega (arith, even.parts, ap length c.deref_mut.ensures.value, c.self.inside.parts.ok.0) in
    let was = subst (λ (s : ShardsState). Represents (market_of s) applied) (sym c.self.view_is) stands in
    let now = subst (λ (stocks : List SymbolState). Represents (market_with c.self.inside.lead stocks) applied) (sym (even.stocks ∙ ap stocks_of c.deref_mut.ensures.value)) was in
    let work = c.in_ok-work_parts.ensures in
    let parts : c.deref_mut-2.result.now ≡ olds = c.deref_mut-2.ensures.value ∙ with_items_is c.self.inside.parts olds as_many in
    let tells = subst (λ (ts : List Turn). PartsTell 0 (length olds) (noted xs ts) olds news told) c.deref-3.ensures.value
    (subst (λ (os : List SectionState). PartsTell 0 (length os) (noted xs c.deref-3.result.now) os news told) parts work.tells) in
    let all = answered capacity applied xs c.lead_all.new.turns.items c.self.inside.lead c.lead_all.new.lead olds news market told (c.in_ok-lead_all.ensures).count (c.in_ok-lead_all.ensures).leads
    (omega (arith, as_many, c.self.inside.parts.ok.0, c.self.invariant.0)) (work.parts ∙ ap length parts)
    (length-map_all (λ (list : Vec Tagged Global). list.items) c.work_parts.new.told ∙ work.told ∙ ap length c.deref_mut-3.ensures.value ∙ c.self.invariant.2 ∙ omega (arith, as_many, c.self.inside.parts.ok.0)) tells now lawful in
    let many : length c.work_parts.new.told ≡ c.self.inside.told.len = omega (arith, work.told, ap length c.deref_mut-3.ensures.value, c.self.inside.told.ok.0) in
    let lists : (c.deref-4.result.now ∷ map (λ (list : Vec Tagged Global). list.items) c.deref-5.result.now) ≡ market ∷ told
    = λ i. c.deref-4.ensures.value i ∷ map (λ (list : Vec Tagged Global). list.items) ((c.deref-5.ensures.value ∙ with_items_is c.self.inside.told c.work_parts.new.told many) i) in
    (c.in_ok-merge.ensures).merged (length xs) (subst (AreOfFirst (length xs)) (sym lists) all.first)
    ∙ ap (λ (ls : List (List Tagged)). c.args.out.now.items ++ further c.args.first (merged (length xs) ls)) lists ∙ ap (λ (ms : List Tagged). c.args.out.now.items ++ further c.args.first ms) all.gives
    ∙ ap (λ (ms : List Tagged). c.args.out.now.items ++ ms) (further-given c.args.first applied xs c.requires.few)

pub returns-clause-stands : goal.returns-clause-stands
returns-clause-stands g c = λ capacity applied stands lawful.
    let xs = c.args.xs.now in
    let olds = c.even_out.new.parts in
    let news = c.work_parts.new.parts in
    let market = c.lead_all.new.market.items in
    let told = map (λ (list : Vec Tagged Global). list.items) c.work_parts.new.told in
    let even = c.in_ok-even_out.ensures in
    let as_many : length olds ≡ c.self.inside.parts.len = omega (arith, even.parts, ap length c.deref_mut.ensures.value, c.self.inside.parts.ok.0) in
    let was = subst (λ (s : ShardsState). Represents (market_of s) applied) (sym c.self.view_is) stands in
    let now = subst (λ (stocks : List SymbolState). Represents (market_with c.self.inside.lead stocks) applied) (sym (even.stocks ∙ ap stocks_of c.deref_mut.ensures.value)) was in
    let work = c.in_ok-work_parts.ensures in
    let parts : c.deref_mut-2.result.now ≡ olds = c.deref_mut-2.ensures.value ∙ with_items_is c.self.inside.parts olds as_many in
    let tells = subst (λ (ts : List Turn). PartsTell 0 (length olds) (noted xs ts) olds news told) c.deref-3.ensures.value
    (subst (λ (os : List SectionState). PartsTell 0 (length os) (noted xs c.deref-3.result.now) os news told) parts work.tells) in
    let many : length news ≡ c.self.inside.parts.len = omega (arith, work.parts, ap length parts, as_many) in
    subst (λ (ps : List SectionState). Represents (market_with c.lead_all.new.lead (stocks_of ps)) (followed applied xs)) (sym (with_items_is (with_items c.self.inside.parts olds) news many))
    (answered capacity applied xs c.lead_all.new.turns.items c.self.inside.lead c.lead_all.new.lead olds news market told (c.in_ok-lead_all.ensures).count (c.in_ok-lead_all.ensures).leads
    (omega (arith, as_many, c.self.inside.parts.ok.0, c.self.invariant.0)) (work.parts ∙ ap length parts)
    (length-map_all (λ (list : Vec Tagged Global). list.items) c.work_parts.new.told ∙ work.told ∙ ap length c.deref_mut-3.ensures.value ∙ c.self.invariant.2 ∙ omega (arith, as_many, c.self.inside.parts.ok.0)) tells now lawful).stands
