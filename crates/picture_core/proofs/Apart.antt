-- Rooms of labels stay apart.
use Rattle.std.proofs.Common.{◌≡◌, true, false, List, [], ◌∷◌, ◌++◌, refl, sym, ◌∙◌, true≢false}
use Rattle.std.specs.Prelude.{Bool, not, ◌&&◌}
use Rattle.std.specs.List.{list_all}
use Rattle.std.proofs.lemmas.List.Folds.{list_all-append}
use Rattle.picture_core.specs.declared.room.Room.{Room}
use Rattle.picture_core.specs.Rooms.{meets, is_free, AreApart}

both : (a b : Bool) → (a && b) ≡ true → (a ≡ true) × (b ≡ true)
both true b is = (refl, is)
both false b is = absurd (true≢false (sym is))

and_one : (a b : Bool) → a ≡ true → b ≡ true → (a && (b && true)) ≡ true
and_one true true is too = refl
and_one true false is too = absurd (true≢false (sym too))
and_one false b is too = absurd (true≢false (sym is))

-- a room behind those that it doesn't meet
pub apart_more : (rooms : List Room) (room : Room) → AreApart rooms → is_free rooms room ≡ true → AreApart (rooms ++ room ∷ [])
apart_more [] room apart free = (refl, tt)
apart_more (x ∷ rooms) room apart free =
    let is = both (not (meets x room)) (is_free rooms room) free in (
      list_all-append (λ r. not (meets x r)) rooms (room ∷ []) ∙ and_one (list_all (λ r. not (meets x r)) rooms) (not (meets x room)) apart.0 is.0,
      apart_more rooms room apart.1 is.1,
    )
