use Rattle.std.proofs.Common.{◌≡◌, ◌++◌, ◌∙◌, arith}
use Rattle.std.proofs.lemmas.List.{take-append-drop}
use Rattle.shard_core.proofs.PieceByPiece.{on_and_on, piece_taken}
use Rattle.shard_core.proofs.pieces.pieces.Goals as goal

pub loop-rest-preserved : goal.loop-rest-preserved
loop-rest-preserved g c =
    let inv = c.loop-rest.invariant in
    let rest = c.loop-rest.rest.now in
    let piece = c.split_at.result.0.now in
    let later = c.split_at.result.1.now in
    let split = c.split_at.ensures in
    let own = c.in_ok-piece.ensures in
    let whole : piece ++ later ≡ rest = (λ i. split.front i ++ split.back i) ∙ take-append-drop c.min.result rest in
    record {
      remains = λ capacity applied stands lawful.
          piece_taken capacity applied c.args.xs.now c.args.out.now.items rest piece later c.loop-rest.first c.loop-rest.shards c.piece.new.self c.loop-rest.out.items c.piece.new.out.items
          (inv.remains capacity applied stands lawful) whole own.given own.stands;
      few = omega (arith, inv.few, split.front_len, split.back_len);
      behind = on_and_on c.args.out.now.items c.loop-rest.out.items c.piece.new.out.items inv.behind own.behind;
      working = own.working;
      parts = own.parts ∙ inv.parts;
    }
