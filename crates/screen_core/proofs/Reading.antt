-- Bytes that are read one stretch after the other.
use Rattle.std.proofs.Common.{◌≡◌, ℕ, ◌+◌, ◌-◌, ◌≤◌, Bool, true, false, cond, List, [], ◌∷◌, ◌++◌, length, take, drop, sym, ap, subst, ◌∙◌, append_assoc, arith, not, true≢false}
use Rattle.std.proofs.Math.Seq.{take-add}
use Rattle.std.proofs.lemmas.List.{append-nil, take-append-drop}
use Rattle.wire_core.specs.Frames.{framed}
use Rattle.wire_in.specs.declared.record.Record.{Record}
use Rattle.wire_in.specs.Cutting.{GoesOn, bodies_of, is_frame, pending, rest_of}
use Rattle.wire_in.proofs.Cuts.{bodies_of-append, rest_of-append, cut_framed}
use Rattle.rulebook.specs.Sent.{judged, with_record}
use Rattle.rulebook.proofs.Sending.{accepted_of-append}
use Rattle.screen_core.specs.declared.screen.Screen.{Screen}
use Rattle.screen_core.specs.declared.stream.Screening.{Screening}
use Rattle.screen_core.specs.Screened.{IsDeal, StopsAtDeal, accepted, capacity}
use Rattle.screen_core.specs.InternalScreens.{Keeps, Reads}

pub reads_same : {screening : Screening} {a b : List ℕ} → a ≡ b → Reads a screening → Reads b screening
reads_same {screening} same reads = subst (λ (read : List ℕ). Reads read screening) same reads

-- a frame is whole, or less than that
pub whole_of : (whole : Bool) {frame : Bool} → whole ≡ frame → not whole ≡ false → frame ≡ true
whole_of true is e = sym is
whole_of false is e = absurd (true≢false e)

pub part_of : (whole : Bool) {frame : Bool} → whole ≡ frame → not whole ≡ true → frame ≡ false
part_of true is e = absurd (true≢false (sym e))
part_of false is e = sym is

-- the accepted records with one body more
accepted-more : (bodies : List (List ℕ)) (body : List ℕ) → accepted (bodies ++ body ∷ []) ≡ with_record (accepted bodies) (judged capacity (accepted bodies) body)
accepted-more bodies body = accepted_of-append capacity [] bodies (body ∷ [])

keeps_bodies : {screen : Screen} (bodies : List (List ℕ)) (body : List ℕ) (all : List (List ℕ)) → all ≡ bodies ++ body ∷ []
    → Keeps (with_record (accepted bodies) (judged capacity (accepted bodies) body)) screen → Keeps (accepted all) screen
keeps_bodies {screen} bodies body all is keeps = subst (λ (held : List Record). Keeps held screen) (sym (ap accepted is ∙ accepted-more bodies body)) keeps

-- A whole frame where it lies, behind whole frames.
module _ (read piece body : List ℕ) (none : rest_of read ≡ []) (is : framed body ≡ take (length body + 1) piece) where
  abbrev taken : List ℕ
  taken = take (length body + 1) piece

  rest_joined : rest_of read ++ taken ≡ framed body
  rest_joined = ap (λ (rest : List ℕ). rest ++ taken) none ∙ sym is

  bodies_whole : bodies_of (read ++ taken) ≡ bodies_of read ++ body ∷ []
  bodies_whole = bodies_of-append read taken ∙ ap (λ (bytes : List ℕ). bodies_of read ++ bodies_of bytes) rest_joined ∙ ap (λ (found : List (List ℕ)). bodies_of read ++ found) (cut_framed body).0

  pub reads_whole : {screening : Screening} → pending screening.cutter ≡ []
      → Keeps (with_record (accepted (bodies_of read)) (judged capacity (accepted (bodies_of read)) body)) screening.screen → Reads (read ++ taken) screening
  reads_whole between keeps = record {
    keeps = keeps_bodies (bodies_of read) body _ bodies_whole keeps;
    begun = between ∙ sym (rest_of-append read taken ∙ ap rest_of rest_joined ∙ (cut_framed body).1);
  }

  -- its record is a deal
  pub deal_whole : IsDeal (judged capacity (accepted (bodies_of read)) body) → StopsAtDeal (bodies_of (read ++ taken))
  deal_whole deal = record { before = bodies_of read; body = body; later = []; frames = bodies_whole; deal = deal }

-- A frame that was cut, or a part of one.
module _ (read taken held : List ℕ) (goes_on : GoesOn read taken held) where
  pub reads_part : {screening : Screening} → is_frame held ≡ false → screening.cutter ≡ held → Keeps (accepted (bodies_of read)) screening.screen → Reads (read ++ taken) screening
  reads_part {screening} part cutter keeps = record {
    keeps = subst (λ (bodies : List (List ℕ)). Keeps (accepted bodies) screening.screen) (sym bodies) keeps;
    begun = ap pending cutter ∙ goes_on.rest;
  } where
    bodies : bodies_of (read ++ taken) ≡ bodies_of read
    bodies = goes_on.bodies ∙ ap (λ (b : Bool). bodies_of read ++ cond b (drop 1 held ∷ []) []) part ∙ append-nil (bodies_of read)

  bodies_cut : (body : List ℕ) → is_frame held ≡ true → framed body ≡ held → bodies_of (read ++ taken) ≡ bodies_of read ++ body ∷ []
  bodies_cut body whole is =
      goes_on.bodies ∙ ap (λ (b : Bool). bodies_of read ++ cond b (drop 1 held ∷ []) []) whole
      ∙ ap (λ (bytes : List ℕ). bodies_of read ++ drop 1 bytes ∷ []) (sym is)

  pub reads_cut : {screening : Screening} (body : List ℕ) → is_frame held ≡ true → framed body ≡ held → screening.cutter ≡ held
      → Keeps (with_record (accepted (bodies_of read)) (judged capacity (accepted (bodies_of read)) body)) screening.screen → Reads (read ++ taken) screening
  reads_cut body whole is cutter keeps = record {
    keeps = keeps_bodies (bodies_of read) body _ (bodies_cut body whole is) keeps;
    begun = ap pending cutter ∙ goes_on.rest;
  }

  pub deal_cut : (body : List ℕ) → is_frame held ≡ true → framed body ≡ held → IsDeal (judged capacity (accepted (bodies_of read)) body) → StopsAtDeal (bodies_of (read ++ taken))
  deal_cut body whole is deal = record { before = bodies_of read; body = body; later = []; frames = bodies_cut body whole is; deal = deal }

-- where a deal is among the bodies of some bytes, it is so of more bytes
pub deal_more : (read more all : List ℕ) → read ++ more ≡ all → StopsAtDeal (bodies_of read) → StopsAtDeal (bodies_of all)
deal_more read more all is stops =
    let rest = bodies_of (rest_of read ++ more) in
    record {
      before = stops.before;
      body = stops.body;
      later = stops.later ++ rest;
      frames = ap bodies_of (sym is) ∙ bodies_of-append read more ∙ ap (λ (bodies : List (List ℕ)). bodies ++ rest) stops.frames ∙ append_assoc stops.before (stops.body ∷ stops.later) rest;
      deal = stops.deal;
    }

-- the part of a piece behind what was taken of it
pub taken_rest : (read piece : List ℕ) (n : ℕ) → (read ++ take n piece) ++ drop n piece ≡ read ++ piece
taken_rest read piece n = append_assoc read (take n piece) (drop n piece) ∙ ap (λ (b : List ℕ). read ++ b) (take-append-drop n piece)

-- the bytes that were read, and the piece behind them
pub joined : (count : ℕ) (input piece : List ℕ) → take (length piece) (drop count input) ≡ piece → take count input ++ piece ≡ take (count + length piece) input
joined count input piece is = ap (λ (b : List ℕ). take count input ++ b) (sym is) ∙ sym (take-add count (length piece) input)

-- and all that may be read
pub all_of : (most count : ℕ) (input : List ℕ) → count ≤ most → take count input ++ take (most - count) (drop count input) ≡ take most input
all_of most count input le = sym (take-add count (most - count) input) ∙ ap (λ (n : ℕ). take n input) (omega (arith, le))
