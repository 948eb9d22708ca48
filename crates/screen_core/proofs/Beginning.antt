-- A screen of which nothing was read yet.
use Rattle.std.proofs.Common.{◌≡◌, ℕ, ◌≤◌, ◌^◌, List, [], refl, ap, arith}
use Rattle.std.specs.Prelude.{Some}
use Rattle.host_core.specs.Outside.{Outside}
use Rattle.wire_in.specs.Cutting.{pending}
use Rattle.stream_core.specs.Answering.{HasRead}
use Rattle.stream_core.specs.Ends.{IsEnd}
use Rattle.stream_core.proofs.Streamed.{TellsApart}
use Rattle.screen_core.specs.declared.stream.Screening.{Screening}
use Rattle.screen_core.specs.Screened.{IsAnswer}
use Rattle.screen_core.specs.InternalScreens.{Given, IsFresh, IsReady, Knows}

-- what is given over an input
abbrev pub given_for : ℕ → List ℕ → Outside → Given
given_for most input now = record { begin = now.sent; input = input; most = most }

pub starts : (most : ℕ) (input : List ℕ) (now : Outside) (waiting : List ℕ) (screening : Screening) → waiting ≡ [] → IsFresh screening → now.input ≡ Some input
    → HasRead (λ count waiting later. Knows (given_for most input now) count waiting screening later) input 0 waiting now
starts most input now waiting screening none fresh known = record {
  input_left = known;
  there = omega arith;
  reads = record {
    reads = record { keeps = fresh.blank.keeps; begun = ap (λ (held : List ℕ). pending held) fresh.cutter };
    none = none;
    unsent = refl;
  };
}

-- it is ready for all bytes that it may be given
pub is_ready : (bytes : ℕ) (screening : Screening) → bytes ≤ 2 ^ 30 → IsFresh screening → IsReady bytes screening
is_ready bytes screening most fresh = record {
  screen = record { held = []; keeps = fresh.blank.keeps; few = omega arith; room = fresh.blank.room; shows = fresh.blank.shows };
  room = fresh.room;
}

-- no fault is an end
pub tells : TellsApart IsEnd IsAnswer
tells = record { read = tt; send = tt; memory = tt; no_read = λ end. end; no_send = λ end. end; no_memory = λ end. end }
