-- An input that is answered piece by piece.
use Rattle.std.proofs.Common.{◌≡◌, inl, ℕ, ◌+◌, ◌≤◌, List, length, take, drop, refl, sym, ap, ◌∙◌, arith}
use Rattle.std.specs.Prelude.{Option, Some, option_map, Result, Ok, Err, IfOk}
use Rattle.std.proofs.lemmas.List.{drop-drop, length-drop, length-take, length-take-le, take-append-le, take-append-drop}
use Rattle.host_core.specs.Outside.{Outside, Takes}
use Rattle.host_core.specs.Frames.{OnlySends, OnlyReadsInput}
use Rattle.host_core.proofs.Moments.{further, unchanged}
use Rattle.host_core.proofs.Chains.{stays_left}
use Rattle.stream_core.specs.Taking.{TakesPiece, OnlyExchanges}
use Rattle.stream_core.specs.Answering.{HasRead, IsNext, LeavesInput}

-- no call was made
pub exchanges_none : (now : Outside) → OnlyExchanges now now
exchanges_none now = record { disk = refl; left = λ image left. left; disk_faults = refl; continues = unchanged now }

pub exchanges_both : {old mid new : Outside} → OnlyExchanges old mid → OnlyExchanges mid new → OnlyExchanges old new
exchanges_both first second = record {
  disk = second.disk ∙ first.disk;
  left = λ image left. first.left image (second.left image left);
  disk_faults = second.disk_faults ∙ first.disk_faults;
  continues = further first.continues second.continues;
}

pub sends_exchange : {old new : Outside} → OnlySends old new → OnlyExchanges old new
sends_exchange sends = record { disk = sends.disk; left = sends.left; disk_faults = sends.disk_faults; continues = sends.continues }

-- what is sent, and then a piece that is read
pub exchanges_on : {old mid new : Outside} → OnlySends old mid → OnlyReadsInput mid new → OnlyExchanges old new
exchanges_on first second =
    exchanges_both (sends_exchange first) (record { disk = second.disk; left = stays_left second.moments; disk_faults = second.disk_faults; continues = second.continues })

-- what only sends leaves the input alone
pub sends_leave : {old new : Outside} → OnlySends old new → LeavesInput old new
sends_leave sends = record { input = sends.input; asks = sends.asks; read_faults = sends.read_faults; continues = sends.continues }

pub leaves_both : {old mid new : Outside} → LeavesInput old mid → LeavesInput mid new → LeavesInput old new
leaves_both first second = record {
  input = second.input ∙ first.input;
  asks = second.asks ∙ first.asks;
  read_faults = second.read_faults ∙ first.read_faults;
  continues = further first.continues second.continues;
}

pub leaves_none : (now : Outside) → LeavesInput now now
leaves_none now = record { input = refl; asks = refl; read_faults = refl; continues = unchanged now }

-- the bytes that were read are a prefix of the whole buffer
pub takes_piece : (old mid new : Option (List ℕ)) (buffer : List ℕ) (most n : ℕ) → mid ≡ old → Takes mid new (take most buffer) n → TakesPiece most old new buffer n
takes_piece old mid new buffer most n same takes = record {
  within = omega (arith, takes.bound, length-take most buffer);
  left = takes.left ∙ ap (option_map (λ (input : List ℕ). drop n input)) same;
  given = λ input known.
      ap (take n) (sym (take-append-drop most buffer)) ∙ take-append-le n (take most buffer) (drop most buffer) takes.bound ∙ takes.given input (same ∙ known);
  there = λ input known. takes.there input (same ∙ known);
  end = λ input known none. inl (takes.end input (same ∙ known) none);
}

-- n bytes more were read
module _ {reads : ℕ → List ℕ → Outside → Type 0} {input : List ℕ} {count : ℕ} {waiting : List ℕ} {old : Outside} (was : HasRead reads input count waiting old)
    {room n : ℕ} {mid : Option (List ℕ)} {buffer : List ℕ} (takes : TakesPiece room old.input mid buffer n) where
  pub there_more : count + n ≤ length input
  there_more = omega (arith, takes.there _ was.input_left, was.there, length-drop count input)

  -- and these are the next ones
  pub is_next : (most : ℕ) → count + room ≤ most → n ≤ length buffer → IsNext input most count (take n buffer)
  is_next most le fits = record {
    is = ap (λ (k : ℕ). take k (drop count input)) (length-take-le n buffer fits) ∙ sym (takes.given (drop count input) was.input_left);
    there = omega (arith, length-take n buffer, there_more);
    within = omega (arith, length-take n buffer, le, takes.within);
  }

  pub left_more : mid ≡ Some (drop (count + n) input)
  left_more = takes.left ∙ ap (option_map (λ (bytes : List ℕ). drop n bytes)) was.input_left ∙ ap (λ (bytes : List ℕ). Some bytes) (drop-drop n count input)

-- what holds at an end
pub if_ok : {T E : Type 0} (r : Result T E) {P Q : T → Type 0} → ((x : T) → P x → Q x) → IfOk r P → IfOk r Q
if_ok (Ok x) more p = more x p
if_ok (Err e) more p = tt
