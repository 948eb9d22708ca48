-- The text of the picture of a symbol's day, part by part.
use Rattle.std.specs.Prelude.{ℕ, List, [], ◌∷◌, length, codes, decimal, Option, Some, None}
use Rattle.wire_out.specs.declared.message.Stamped.{Stamped}
use Rattle.picture_core.specs.Shown.{last_moment, shown}
use Rattle.picture_core.specs.Days.{Days, day_words}
use Rattle.picture_core.specs.Scales.{lowest, highest, axis_of}
use Rattle.picture_core.specs.Places.{places_of}
use Rattle.picture_core.specs.Labels.{◌⊕◌, name_text, time_text}
use Rattle.picture_core.specs.Elements.{element_text, rooms_after}
use Rattle.picture_core.specs.Frames.{time_ticks, price_ticks}
use Rattle.picture_core.specs.DataEnd.{data_end, lanes_end}
use Rattle.picture_core.specs.Stops.{stops_of, sentences}
use Rattle.picture_core.specs.Tables.{page_height, table}
use Rattle.picture_core.specs.Heads.{opening, page, names}
use Rattle.picture_core.specs.declared.axis.Axis.{Axis}
use Rattle.picture_core.specs.declared.place.Place.{Place}
use Rattle.picture_core.specs.declared.room.Room.{Room}
use Rattle.picture_core.specs.declared.stop.Stop.{Stop}

-- the symbol by its id and its name, and words for the day
unfoldable pub title : ℕ → List ℕ → List Stamped → List ℕ
title symbol day messages = codes "Symbol " ⊕ decimal symbol ⊕ name_text symbol messages ⊕ day

-- what the picture shows, with its pauses and halts
unfoldable pub description : ℕ → List Stop → List ℕ
description last stops =
    codes "Price bands, auction collars, limit states, pauses, halts and restrictions of the day, Eastern time. The data ends at "
    ⊕ time_text last ⊕ codes "." ⊕ sentences stops

-- the head of a picture of that height under that title, up to its frame
unfoldable pub head : ℕ → List ℕ → ℕ → List Stop → List ℕ
head height title last stops =
    opening height title (description last stops)
    ⊕ page height title (codes "price bands, pauses, halts and restrictions of the day, Eastern time") ⊕ names

-- messages at their places, each with the labels for which those before it leave room
abbrev pub elements : List Room → List Stamped → List Place → List ℕ
elements rooms (x ∷ messages) (place ∷ places) = element_text rooms x place ⊕ elements (rooms_after rooms x place) messages places
elements rooms _ _ = []

-- all messages over an axis of prices, up to the last moment
unfoldable pub elements_over : Axis → ℕ → List Stamped → List ℕ
elements_over axis last messages = elements [] messages (places_of axis last messages)

-- the end of the data, and then the messages
unfoldable pub day_over : Axis → ℕ → List Stamped → List ℕ
day_over axis last messages = data_end 2900 last ⊕ lanes_end last ⊕ elements_over axis last messages

-- messages over the axis of their prices, with its ticks; where they have none, over an axis without ticks
abbrev pub over_axis : Option Axis → ℕ → List Stamped → List ℕ
over_axis (Some axis) last messages = price_ticks axis ⊕ day_over axis last messages
over_axis None last messages = day_over (record { low = 0; high = 1 }) last messages

-- the axis is that of the least and the greatest price that is drawn
unfoldable pub messages_text : ℕ → List Stamped → List ℕ
messages_text last messages = over_axis (axis_of (lowest messages) (highest messages)) last messages

-- the picture of these messages up to the last moment, with the table of their pauses and halts, under that title
unfoldable pub drawing : List ℕ → ℕ → List Stamped → List Stop → List ℕ
drawing title last messages stops =
    head (page_height (length stops)) title last stops ⊕ time_ticks 2900 ⊕ messages_text last messages ⊕ table stops ⊕ codes "</svg>\n"

-- of a symbol's messages, under words for the day
abbrev pub symbol_picture : ℕ → List ℕ → ℕ → List Stamped → List ℕ
symbol_picture symbol day last messages = drawing (title symbol day messages) last messages (stops_of messages)

-- the picture of a symbol's day: of its messages and those of the market
abbrev pub picture_of : ℕ → Option ℕ → Days → List ℕ
picture_of symbol wanted days = symbol_picture symbol (day_words wanted days) (last_moment days.messages) (shown symbol days.messages)
