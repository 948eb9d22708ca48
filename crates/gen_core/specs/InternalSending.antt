-- The frames of a day on their way. Private words: no public clause cites them.
use Rattle.std.specs.Prelude.{◌≡◌, ℕ, List, ◌++◌}
use Rattle.host_core.specs.Outside.{Outside, Elapses, NoFault}
use Rattle.host_core.specs.Frames.{OnlySends}
use Rattle.wire_in.specs.declared.record.Record.{Record}
use Rattle.stream_core.specs.Pending.{Expects, SendsPrefix}
use Rattle.gen_core.specs.Sent.{frames_of}

-- of a text the frames of these records are left; what is before them was sent, but for what waits
pub record Sending (text waiting : List ℕ) (left : List Record) (old now : Outside) : Type 0 where
  pub done : List ℕ
  pub expects : Expects old.sent now.sent waiting done
  pub whole : done ++ frames_of left ≡ text
  pub moments : Elapses old now (SendsPrefix old.sent text old)
  pub keeps : OnlySends old now
  pub none : NoFault old now
