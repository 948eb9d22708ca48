-- A market's part that leads records, and one range of all stocks that takes them, give what one market gives.
use Rattle.std.proofs.Common.{◌≡◌, ℕ, suc, true, List, [], ◌∷◌, ◌++◌, length, sym, ap, subst, ◌∙◌}
use Rattle.std.specs.Prelude.{map}
use Rattle.wire_in.specs.declared.record.Record.{Record}
use Rattle.wire_in.specs.Records.{moment_of}
use Rattle.wire_out.specs.declared.message.Stamped.{Stamped}
use Rattle.symbol_core.specs.Rests.{SymbolState}
use Rattle.market_core.specs.Leads.{LeadState, led, rulings}
use Rattle.market_core.specs.MarketState.{Represents}
use Rattle.market_core.specs.Ruled.{stamped}
use Rattle.market_core.proofs.Applying.{Goes, goes, has_room}
use Rattle.shard_core.specs.declared.turns.Target.{Target}
use Rattle.shard_core.specs.Block.{AreAdmissible, followed, given_from, tagged}
use Rattle.shard_core.specs.Parts.{Note, TakesAll, TakesFor, behind_each}
use Rattle.shard_core.specs.Turns.{LeadsAll, tagged_from, target_of}
use Rattle.shard_core.proofs.Markets.{applies, market_with}

abbrev pub records_of : List Note → List Record
records_of notes = map (λ note. note.record_of) notes

pub block_gives : (capacity index : ℕ) (notes : List Note) (A : List Record) (lead last : LeadState) (old new : List SymbolState) (market told : List (List Stamped)) → Represents (market_with lead old) A
    → AreAdmissible capacity A (records_of notes) → LeadsAll notes lead last market → TakesAll 0 true notes old new told
    → (tagged_from index (behind_each market told) ≡ given_from index A (records_of notes)) × Represents (market_with last new) (followed A (records_of notes))
block_gives capacity index [] A lead last old new market told stands lawful (kept, unsaid) (same, untold) = (
  (λ i. tagged_from index (behind_each (unsaid i) (untold i))),
  subst (λ (l : LeadState). Represents (market_with l new) A) (sym kept) (subst (λ (xs : List SymbolState). Represents (market_with lead xs) A) (sym same) stands),
)
block_gives capacity index (note ∷ notes) A lead last old new market told stands (passed, lawful) (later, leads, rest, is) (middle, said, later', takes, rest', is') =
    let x = note.record_of in
    let own : TakesFor (target_of x lead.directory) 0 true note.view x old middle said = subst (λ (t : Target). TakesFor t 0 true note.view x old middle said) leads.for takes in
    let ms = stamped (moment_of x) (rulings x lead.today) in
    let one : Goes x A (market_with (led x lead) middle) [] (ms ++ said) =
    goes capacity x A (market_with lead old) (market_with (led x lead) middle) [] (ms ++ said) stands passed
    (applies x lead old middle note.view said (stands.count ∙ ap length (sym stands.directory)) (has_room capacity A (market_with lead old) x stands passed) leads.seen own) in
    let next = block_gives capacity (suc index) notes (x ∷ A) (led x lead) last middle new later later' one.1 lawful rest rest' in (
      (λ i. tagged_from index (behind_each (is i) (is' i))) ∙ (λ i. tagged index (one.0 i) ++ next.0 i),
      next.1,
    )
