-- What was published on a board, and what may be, and the room for its rows. Private words: no public clause cites them.
use Rattle.std.specs.Prelude.{◌≡◌, ℕ, ◌-◌, ◌^◌, ◌<◌, ◌≤◌, List, [], ◌++◌, map, All, vec_len, vec_capacity}
use Rattle.std.specs.String.{string_capacity}
use Rattle.wire_out.specs.declared.message.Message.{Message}
use Rattle.wire_out.specs.declared.message.Stamped.{Stamped}
use Rattle.rulebook.specs.Admission.{most_names}
use Rattle.board_core.specs.declared.entry.Entry.{Entry}
use Rattle.board_core.specs.Entries.{board_entries, messages_of}
use Rattle.board_core.specs.Seats.{symbols_of, entries_of, IsWriterOf, IsFresh, IsOn, IsWhole}
use Rattle.screen_core.specs.declared.desk.Desk.{Desk}
use Rattle.screen_core.specs.declared.sending.Pages.{Pages}

-- messages without their moments
abbrev pub said_in : List Stamped → List Message
said_in ms = map (λ m. m.message) ms

-- a board of so many symbols may publish the message
pub record CanPublish (symbols : ℕ) (m : Message) : Type 0 where
  pub on : IsOn symbols m
  pub whole : IsWhole m

-- these may be published behind others, of which the entries are
pub record CanTakeAll (symbols : ℕ) (entries : List Entry) (ms : List Message) : Type 0 where
  pub each : All (CanPublish symbols) ms
  pub published : List Message
  pub entries_are : entries ≡ board_entries published
  pub few : (s : ℕ) → messages_of s (published ++ ms) < 2 ^ 34 - 1

-- these messages were published, and the reader has asked nothing
pub record HasPublished (published : List Message) (desk : Desk) : Type 0 where
  pub writer : IsWriterOf desk.board desk.writer
  pub symbols : symbols_of desk.board ≡ most_names
  pub entries : entries_of desk.writer ≡ board_entries published
  pub one : vec_len desk.readers ≡ 1
  pub fresh : All (IsFresh desk.board) desk.readers.items

-- these may be published on the board
pub record CanTake (desk : Desk) (ms : List Message) : Type 0 where
  pub published : List Message
  pub has : HasPublished published desk
  pub each : All (CanPublish most_names) ms
  pub few : (s : ℕ) → messages_of s (published ++ ms) < 2 ^ 34 - 1

-- there is room for the rows of all names, and for a line
pub record HasRoom (pages : Pages) : Type 0 where
  pub empty : pages.rows.items ≡ []
  pub rows : most_names ≤ vec_capacity pages.rows
  pub line : 200 ≤ string_capacity pages.line
