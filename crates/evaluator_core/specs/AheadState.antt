-- What a market that is evaluated ahead keeps, and how it stands for the list of evaluated records, the newest first.
use Rattle.std.specs.Prelude.{◌≡◌, ℕ, List, true}
use Rattle.wire_in.specs.declared.record.Record.{Record}
use Rattle.shard_core.specs.Block as blocks
use Rattle.shard_core.specs.Block.{ShardsState, followed, given_from}
use Rattle.merge_core.specs.declared.tagged.Tagged.{Tagged}

-- the market in parts, how many records of its last block were handed out, those that weren't, the oldest first, and their
-- messages
pub record AheadState : Type 0 where
  pub shards : ShardsState
  pub index : ℕ
  pub ahead : List Record
  pub left : List Tagged

-- the parts are ahead of the evaluated records by those that weren't handed out, and their messages are what one market gives
pub record IsAheadOf (block : AheadState) (evaluated : List Record) : Type 0 where
  pub shards : blocks.Represents block.shards (followed evaluated block.ahead)
  pub left : block.left ≡ given_from block.index evaluated block.ahead

-- it is ahead of these records; one that found no memory gives nothing more, and stands for any list
abbrev pub RepresentsAhead : AheadState → List Record → Type 0
RepresentsAhead block evaluated = block.shards.working ≡ true → IsAheadOf block evaluated

-- these records, the oldest first, and no others are evaluated ahead; of one that found no memory, any are
abbrev pub HasAhead : AheadState → List Record → Type 0
HasAhead block records = block.shards.working ≡ true → block.ahead ≡ records
