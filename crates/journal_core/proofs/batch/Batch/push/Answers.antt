use Rattle.std.proofs.Common.{◌∙◌, ◌<◌, length, sym, subst, arith}
use Rattle.std.specs.Prelude.{All, take}
use Rattle.std.proofs.lemmas.List.{length-set, take_more_set}
use Rattle.std.proofs.lemmas.List.Elements.{All-push}
use Rattle.wire_in.specs.Spelling.{InRange}
use Rattle.journal_core.proofs.Places.{within}
use Rattle.journal_core.proofs.batch.Batch.push.Goals as goal

pub invariant_of-self : goal.invariant_of-self
invariant_of-self c =
    let count = c.self.inside.count in
    let places = c.self.inside.places.items in
    let x = c.args.x in
    let lt : count < length places = within count places c.args.self.now c.self.invariant.room (sym c.self.view_is) c.requires.room in
    record {
      room = length-set places count x ∙ c.self.invariant.room;
      most = omega (arith, lt, c.self.invariant.room);
      ranges = subst (All InRange) (sym (take_more_set places count x lt)) (All-push InRange (take count places) x c.self.invariant.ranges c.requires.range);
    }
