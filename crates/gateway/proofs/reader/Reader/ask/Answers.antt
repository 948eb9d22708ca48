use Rattle.std.proofs.Common.{◌≡◌, ◌<◌, ◌≤◌, List, [], ◌∷◌, length, set, sym, refl, ap, ◌∙◌, subst, arith}
use Rattle.price_core.specs.declared.quote.Side.TheVariants.{Low, High}
use Rattle.board_core.specs.declared.entry.Entry.{Entry}
use Rattle.board_core.specs.declared.entry.Entry.TheVariants.{Band}
use Rattle.board_core.specs.Seats.{answers_of}
use Rattle.gateway.specs.declared.reader.Seen.{Seen}
use Rattle.gateway.specs.Readers.{IsVersionSeen, AreSeen}
use Rattle.gateway.proofs.Listings.{not_fallen}
use Rattle.gateway.proofs.Watching.{still_version, not_lower, both_seen, all_seen, there}
use Rattle.gateway.proofs.reader.Reader.ask.Goals as goal

pub returns-clause-reader : goal.returns-clause-reader
returns-clause-reader c =
    let k = c.args.symbol in
    let r = c.requires.reader in
    let seen : List Seen = c.args.self.now.seen.items in
    let old : List Entry = answers_of c.args.self.now.seat in
    let before : Seen = c.index-before.result.now in
    let b : Entry = Band k Low c.edge-low.result in
    let d : Entry = Band k High c.edge-high.result in
    let x : Seen = record { low = c.edge-low.result.version; high = c.edge-high.result.version } in
    let near : k < length seen = omega (arith, c.requires.symbol, r.count, c.args.self.now.seen.ok.0) in
    let was = r.seen k before (there seen k before near c.index-before.ensures) in
    let low : before.low ≤ c.edge-low.result.version = not_lower old k Low c.edge-low.result before.low was.low c.edge-low.ensures.follows.answers in
    let still : IsVersionSeen (answers_of c.edge-low.new.seat) k High before.high = subst (λ es. IsVersionSeen es k High before.high) (sym c.edge-low.ensures.answer) (still_version (b ∷ []) old k High before.high was.high) in
    let high : before.high ≤ c.edge-high.result.version = not_lower (answers_of c.edge-low.new.seat) k High c.edge-high.result before.high still c.edge-high.ensures.follows.answers in
    let answers : answers_of c.edge-high.new.seat ≡ d ∷ b ∷ old = c.edge-high.ensures.answer ∙ ap (λ es. d ∷ es) c.edge-low.ensures.answer in
    record {
      seat = c.edge-high.ensures.seat;
      stocks = r.stocks;
      count = r.count;
      seen = subst (λ es. AreSeen es (set seen k x)) (sym answers) (all_seen (d ∷ b ∷ []) old seen k x r.seen (both_seen old k c.edge-low.result c.edge-high.result x refl refl));
      fallen = not_fallen before.high c.edge-high.result.version c.count.new.tally c.count-2.new.tally c.count-2.ensures high
          ∙ (not_fallen before.low c.edge-low.result.version c.args.self.now.tally c.count.new.tally c.count.ensures low ∙ r.fallen);
      notes = c.edge-high.ensures.notes ∙ (c.edge-low.ensures.notes ∙ r.notes);
    }
