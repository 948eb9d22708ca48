-- An audit of which nothing was read yet.
use Rattle.std.proofs.Common.{◌≡◌, ℕ, List, [], refl, arith}
use Rattle.std.specs.Prelude.{Option, Some}
use Rattle.host_core.specs.Outside.{Outside}
use Rattle.stream_core.specs.Answering.{HasRead}
use Rattle.stream_core.proofs.Streamed.{TellsApart}
use Rattle.audit_core.specs.Audited.{IsEnd, IsAnswer, bytes_max}
use Rattle.audit_core.specs.declared.stream.Auditing.{Auditing}
use Rattle.audit_core.specs.InternalStreams.{Given, IsFresh, Knows}
use Rattle.audit_core.proofs.Found.{reads_none}

-- what an audit is given over an input
abbrev pub given_for : List ℕ → Outside → Given
given_for input now = record { begin = now.sent; input = input; most = bytes_max }

pub starts : (input : List ℕ) (now : Outside) (waiting : List ℕ) (auditing : Auditing) → waiting ≡ [] → IsFresh auditing → now.input ≡ Some input
    → HasRead (λ count waiting later. Knows (given_for input now) count waiting auditing later) input 0 waiting now
starts input now waiting auditing none fresh known = record {
  input_left = known;
  there = omega arith;
  reads = record { reads = reads_none fresh; none = none; unsent = refl };
}

-- no fault is an end
pub tells : TellsApart IsEnd IsAnswer
tells = record { read = tt; send = tt; memory = tt; no_read = λ end. end; no_send = λ end. end; no_memory = λ end. end }
