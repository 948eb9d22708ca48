-- An auction on its way: what was read of it. Private words: no public clause cites them.
use Rattle.std.specs.Prelude.{◌≡◌, ◌≢◌, ℕ, ◌+◌, ◌<◌, nat_lt, min, Bool, true, false, if◌then◌else◌, Option, Some, is_some, List, [], length, take, drop, Result, Err, IfOk}
use Rattle.std.proofs.Common.{refl, sym, ◌∙◌}
use Rattle.std.specs.Io.KnownBytes.{append_known}
use Rattle.host_core.specs.declared.status.Status.{Status}
use Rattle.host_core.specs.declared.status.Status.TheVariants.{Done, BadText}
use Rattle.host_core.specs.declared.fault.Fault.{Fault}
use Rattle.host_core.specs.declared.fault.Fault.TheVariants.{Read, Disk, Memory}
use Rattle.host_core.specs.Outside.{Outside, Elapses, Continues}
use Rattle.host_core.specs.Faults.{Causes}
use Rattle.host_core.proofs.Known.{append_known-nil}
use Rattle.stream_core.specs.Pending.{Expects, SendsPrefix}
use Rattle.stream_core.specs.Asking.{Prompt}
use Rattle.stream_core.specs.Answering.{HasAnswered}
use Rattle.stream_core.specs.Ends as ends
use Rattle.stream_core.specs.Taking.{ReadsAtMost}
use Rattle.text_core.specs.declared.task.Task.TheVariants.{Pack}
use Rattle.text_core.specs.Streams.{units_of, rest_of}
use Rattle.auction_core.specs.declared.listing.Listing.{Listing}
use Rattle.auction_core.specs.declared.reading.Reading.{Reading}
use Rattle.auction_core.specs.Crossed.{IsEnd, bytes_max}
use Rattle.auction_core.specs.Texts.{auction_at, good_lines, orders_at}

-- some line is bad
abbrev pub has_bad : List (List ℕ) → Bool
has_bad lines = nat_lt (good_lines lines) (length lines)

-- the auction and the orders of these lines up to the first that is bad
pub record Holds (lines : List (List ℕ)) (listing : Listing) : Type 0 where
  pub auction : listing.auction ≡ auction_at lines
  pub orders : is_some (auction_at lines) ≡ true → listing.orders.items ≡ orders_at lines
  pub none : is_some (auction_at lines) ≡ false → listing.orders.items ≡ []
  pub bad : listing.bad ≡ has_bad lines

-- these bytes were read
pub record Reads (read : List ℕ) (reading : Reading) : Type 0 where
  pub holds : Holds (units_of Pack read) reading.listing
  pub begun : reading.listing.bad ≡ false → reading.line ≡ take 256 (rest_of Pack read)

-- how lines end that may go on
abbrev pub end_so_far : List (List ℕ) → Status
end_so_far lines = if has_bad lines then BadText (good_lines lines + 1) else Done

-- what is given: what had been sent before, the input, and how many bytes of it may be read
pub record Given : Type 0 where
  pub begin : Option (List ℕ)
  pub input : List ℕ
  pub most : ℕ

-- so many bytes were read, and nothing was sent
pub record Knows (given : Given) (count : ℕ) (waiting : List ℕ) (reading : Reading) (now : Outside) : Type 0 where
  pub reads : Reads (take count given.input) reading
  pub none : waiting ≡ []
  pub unsent : now.sent ≡ given.begin

pub expects_none : {given : Given} {count : ℕ} {waiting : List ℕ} {reading : Reading} {now : Outside} → Knows given count waiting reading now → Expects given.begin now.sent waiting []
expects_none {given} knows = record { sent = []; known = knows.unsent ∙ sym (append_known-nil given.begin); whole = knows.none }

pub still_none : {given : Given} {count : ℕ} {waiting : List ℕ} {reading : Reading} {old new : Outside} → Knows given count waiting reading old → new.sent ≡ append_known given.begin [] → Knows given count [] reading new
still_none {given} knows sent = record { reads = knows.reads; none = refl; unsent = sent ∙ append_known-nil given.begin }

-- the input was read to its end, to the most bytes or to a bad line, or a fault ended that
pub record Began (result : Result Status Fault) (reading : Reading) (old new : Outside) : Type 0 where
  pub moments : (input : List ℕ) → old.input ≡ Some input → Elapses old new (SendsPrefix old.sent [] old)
  pub exact : (input : List ℕ) → old.input ≡ Some input
      → IfOk result (λ status. (status ≡ end_so_far (units_of Pack (take bytes_max input))) × (new.sent ≡ append_known old.sent []))
  pub taken : (input : List ℕ) → old.input ≡ Some input
      → IfOk result (λ status. ends.IsEnd status → (new.input ≡ Some (drop (min bytes_max (length input)) input)) × Reads (take (min bytes_max (length input)) input) reading)
  pub unread : (input : List ℕ) → old.input ≡ Some input → result ≡ Err Read → (count : ℕ) × (count < bytes_max) × HasAnswered (λ read. []) old.sent input count new
  pub starved : (input : List ℕ) → old.input ≡ Some input → result ≡ Err Memory → new.sent ≡ old.sent
  pub prompt : (input : List ℕ) → old.input ≡ Some input → Prompt (λ read. []) old.sent input old.asks new.asks
  pub bytes : ReadsAtMost bytes_max old.input new.input
  pub end : IfOk result IsEnd
  pub causes : Causes result old new
  pub unkept : result ≢ Err Disk
  pub disk : new.disk ≡ old.disk
  pub disk_faults : new.disk_faults ≡ old.disk_faults
  pub continues : Continues old new
