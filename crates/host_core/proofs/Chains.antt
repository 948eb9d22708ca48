-- What is left as it was, by one call after another.
use Rattle.std.proofs.Common.{◌≡◌, ℕ, List, refl, sym, ◌∙◌}
use Rattle.std.specs.Prelude.{Some}
use Rattle.host_core.specs.Outside.{Outside, Agrees, MayLeave, Elapses, Stays, Sends, IsSettled, NoFault}
use Rattle.host_core.specs.Frames.{OnlyReadsInput, OnlyReadsDisk, OnlySends, OnlyWrites}
use Rattle.host_core.proofs.Moments.{nothing, goes_on, ended, unchanged, further}

-- where a stop leaves an image as before, so does one at the end
pub stays_left : {old new : Outside} → Elapses old new (Stays old) → (image : List ℕ) → MayLeave new image → MayLeave old image
stays_left run image left = (ended run left).was

pub sends_left : {piece : List ℕ} {old new : Outside} → Elapses old new (Sends piece old) → (image : List ℕ) → MayLeave new image → MayLeave old image
sends_left run image left = (ended run left).was

-- what stays after a run in which everything stayed
pub still : {old mid : Outside} → Elapses old mid (Stays old) → mid.sent ≡ old.sent → (image bytes : List ℕ) → Stays mid image bytes → Stays old image bytes
still run same image bytes stays = record { was = (ended run stays.was).was; sent = rw (sym same) stays.sent }

-- nothing is pending after such a run where nothing was
pub still_settled : {old new : Outside} → Elapses old new (Stays old) → new.disk ≡ old.disk → IsSettled old → IsSettled new
still_settled run same settled = record { only = λ image left. same ∙ settled.only image (ended run left).was }

-- no call at all
module _ (now : Outside) where
  pub reads_nothing : ((image bytes : List ℕ) → now.leaves now.moment image bytes → Agrees now.sent bytes) → OnlyReadsDisk now now
  reads_nothing sent_now = record {
    input = refl;
    asks = refl;
    sent = refl;
    disk = refl;
    moments = nothing now sent_now;
    read_faults = refl;
    send_faults = refl;
    continues = unchanged now;
  }

  pub sends_nothing : OnlySends now now
  sends_nothing = record {
    input = refl;
    asks = refl;
    disk = refl;
    left = λ image left. left;
    read_faults = refl;
    disk_faults = refl;
    continues = unchanged now;
  }

  pub writes_nothing : OnlyWrites now now
  writes_nothing = record {
    input = refl;
    asks = refl;
    sent = refl;
    read_faults = refl;
    send_faults = refl;
    continues = unchanged now;
  }

-- two calls, one after the other
module _ {old mid new : Outside} where
  pub takes_on : OnlyReadsInput old mid → OnlyReadsInput mid new → OnlyReadsInput old new
  takes_on first second = record {
    sent = second.sent ∙ first.sent;
    disk = second.disk ∙ first.disk;
    moments = goes_on first.moments second.moments (still first.moments first.sent);
    send_faults = second.send_faults ∙ first.send_faults;
    disk_faults = second.disk_faults ∙ first.disk_faults;
    continues = further first.continues second.continues;
  }

  pub reads_on : OnlyReadsDisk old mid → OnlyReadsDisk mid new → OnlyReadsDisk old new
  reads_on first second = record {
    input = second.input ∙ first.input;
    asks = second.asks ∙ first.asks;
    sent = second.sent ∙ first.sent;
    disk = second.disk ∙ first.disk;
    moments = goes_on first.moments second.moments (still first.moments first.sent);
    read_faults = second.read_faults ∙ first.read_faults;
    send_faults = second.send_faults ∙ first.send_faults;
    continues = further first.continues second.continues;
  }

  pub onward : OnlySends old mid → OnlySends mid new → OnlySends old new
  onward first second = record {
    input = second.input ∙ first.input;
    asks = second.asks ∙ first.asks;
    disk = second.disk ∙ first.disk;
    left = λ image left. first.left image (second.left image left);
    read_faults = second.read_faults ∙ first.read_faults;
    disk_faults = second.disk_faults ∙ first.disk_faults;
    continues = further first.continues second.continues;
  }

  pub writes_on : OnlyWrites old mid → OnlyWrites mid new → OnlyWrites old new
  writes_on first second = record {
    input = second.input ∙ first.input;
    asks = second.asks ∙ first.asks;
    sent = second.sent ∙ first.sent;
    read_faults = second.read_faults ∙ first.read_faults;
    send_faults = second.send_faults ∙ first.send_faults;
    continues = further first.continues second.continues;
  }

module _ {old new : Outside} where
  -- what only reads the disk writes nothing else
  pub as_writes : OnlyReadsDisk old new → OnlyWrites old new
  as_writes reads = record {
    input = reads.input;
    asks = reads.asks;
    sent = reads.sent;
    read_faults = reads.read_faults;
    send_faults = reads.send_faults;
    continues = reads.continues;
  }

  -- a call has no fault where its own count did not rise
  pub takes_faultless : OnlyReadsInput old new → new.read_faults ≡ old.read_faults → NoFault old new
  takes_faultless takes same = record { reading = same; sending = takes.send_faults; storing = takes.disk_faults }

  pub reads_faultless : OnlyReadsDisk old new → new.disk_faults ≡ old.disk_faults → NoFault old new
  reads_faultless reads same = record { reading = reads.read_faults; sending = reads.send_faults; storing = same }

  pub sends_faultless : OnlySends old new → new.send_faults ≡ old.send_faults → NoFault old new
  sends_faultless sends same = record { reading = sends.read_faults; sending = same; storing = sends.disk_faults }

  pub writes_faultless : OnlyWrites old new → new.disk_faults ≡ old.disk_faults → NoFault old new
  writes_faultless writes same = record { reading = writes.read_faults; sending = writes.send_faults; storing = same }
