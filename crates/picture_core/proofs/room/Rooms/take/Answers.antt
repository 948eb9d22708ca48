use Rattle.std.proofs.Common.{◌≡◌, true, sym, subst, rules, tests}
use Rattle.picture_core.specs.Rooms.{is_free, AreApart}
use Rattle.picture_core.proofs.Apart.{apart_more}
use Rattle.picture_core.proofs.room.Rooms.take.Goals as goal

-- the room met none of those that were taken
pub invariant_of-self-2 : goal.invariant_of-self-2
invariant_of-self-2 c =
    let free : is_free c.self.inside.taken.items c.args.room ≡ true = search (rules, tests) in
    subst AreApart (sym c.in_ok-push.ensures.items) (apart_more c.self.inside.taken.items c.args.room c.self.invariant free)
