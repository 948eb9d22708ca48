use Rattle.std.proofs.Common.{◌≡◌, ◌-◌, ℕ, List}
use Rattle.std.specs.Prelude.{Some}
use Rattle.host_core.specs.Frames.{OnlyReadsDisk}
use Rattle.journal_core.specs.Journal.{HasBytes}
use Rattle.journal_core.specs.Walking.{HasWalked, IsWalking}
use Rattle.journal_core.proofs.walk.Walk.to_end.Given as goal

abbrev pub invariant-gates : goal.invariant-gates
invariant-gates g l = record {
  walking : IsWalking l.self;
  reaches : HasBytes l.self.size (g.H.Host.outside l.host).disk;
  walked : (disk : List ℕ) → (g.H.Host.outside l.initial.host).disk ≡ Some disk → HasWalked l.initial.self disk → HasWalked l.self disk;
  capacity : l.self.capacity ≡ l.initial.self.capacity;
  size : l.self.size ≡ l.initial.self.size;
  faultless : (g.H.Host.outside l.host).disk_faults ≡ (g.H.Host.outside l.initial.host).disk_faults;
  keeps : OnlyReadsDisk (g.H.Host.outside l.initial.host) (g.H.Host.outside l.host);
}

abbrev pub decreases-gates : goal.decreases-gates
decreases-gates g l = l.self.size - l.self.gate
