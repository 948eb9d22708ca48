-- What a host in memory shows.
use Rattle.std.specs.Prelude.{ℕ, List, drop, map}
use Rattle.memory_host.specs.declared.effect.Pick.{Pick}
use Rattle.memory_host.specs.declared.ledger.Ledger.{Ledger}
use Rattle.memory_host.specs.declared.memory.MemoryHost.{MemoryHost}
use Rattle.host_core.specs.Outside.{Outside, Ask}
use Rattle.memory_host.specs.Effects.{remembered, image_of}
use Rattle.memory_host.specs.Requests.{ask_of}

-- the input that is left
abbrev pub input_left : MemoryHost → List ℕ
input_left host = drop host.taken host.input.items

-- the reads of the input
abbrev pub asks_of : MemoryHost → List Ask
asks_of host = map (ask_of host.input.items host.sent.items) host.requests.items

-- what it exposes of the outside
abbrev pub known : MemoryHost → Outside
known host = remembered (input_left host) host.sent.items host.disk.items host.start.items host.effects.items (asks_of host)
    host.ledger.faults.reading host.ledger.faults.sending host.ledger.faults.storing

-- what it was asked, and what it counts
abbrev pub ledger_of : MemoryHost → Ledger
ledger_of host = host.ledger

-- the disk that a crash leaves, with the picked bytes in each range that was written and not synced
abbrev pub left_by : Pick → MemoryHost → List ℕ
left_by pick host = image_of pick host.start.items host.start.items host.effects.items
