-- The reads of the input that a host in memory keeps.
use Rattle.std.specs.Prelude.{ℕ, ◌≤◌, List, length, take, drop}
use Rattle.host_core.specs.Outside.{Ask}
use Rattle.memory_host.specs.declared.effect.Request.{Request}

-- a read, by what was left of the input and what had been sent when it began
abbrev pub ask_of : List ℕ → List ℕ → Request → Ask
ask_of input sent request = record { left = drop request.taken input; sent = take request.sent sent }

-- no more had been sent than is sent by now
abbrev pub IsBehind : List ℕ → Request → Type 0
IsBehind sent request = request.sent ≤ length sent
