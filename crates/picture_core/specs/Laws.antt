-- What holds of every picture.
use Rattle.std.specs.Prelude.{◌≡◌, ℕ, true, not}
use Rattle.std.specs.List.{list_all}
use Rattle.wire_out.specs.declared.message.Message.{Message}
use Rattle.picture_core.specs.Places.{in_lane, heights_of}
use Rattle.picture_core.specs.Rooms.{meets}
use Rattle.picture_core.specs.Elements.{room_of, element_labels}
use Rattle.picture_core.specs.declared.axis.Axis.{Axis}
use Rattle.picture_core.specs.declared.room.Room.{Room}

-- a bar in a lane takes this room
abbrev pub bar_room : ℕ → ℕ → ℕ → Room
bar_room lane left right = record { left = left; right = right; top = (in_lane lane).top; bottom = (in_lane lane).bottom }

-- the labels of a message that stands from left to right meet no bar of any lane
abbrev pub LabelsStandOffBars : Type 0
LabelsStandOffBars =
    (axis : Axis) (message : Message) (moment left right : ℕ) (lane from to : ℕ)
    → list_all (λ l. not (meets (room_of l) (bar_room lane from to)))
    (element_labels message moment (record { left = left; right = right; heights = heights_of axis message })) ≡ true
