-- Lines that are sent, one after the other.
use Rattle.std.proofs.Common.{◌≡◌, ℕ, suc, ◌+◌, ◌<◌, List, [], ◌∷◌, ◌++◌, length, take, drop, map, get_or, refl, sym, ap, subst, ◌∙◌, append_assoc, arith}
use Rattle.std.specs.Prelude.{Option, Result, Ok, Err, OnOk, IfErr, codes}
use Rattle.std.specs.List.{concat}
use Rattle.std.specs.Result.{IsErrAnd}
use Rattle.std.proofs.lemmas.List.{append-nil, map-append, take-append-drop}
use Rattle.std.proofs.lemmas.List.Folds.{concat-append}
use Rattle.std.proofs.Math.Seq.{take-suc}
use Rattle.host_core.specs.declared.fault.Fault.{Fault}
use Rattle.host_core.specs.declared.fault.Fault.TheVariants.{Send}
use Rattle.host_core.specs.Outside.{Outside, Agrees, Elapses}
use Rattle.host_core.specs.Frames.{OnlySends}
use Rattle.host_core.specs.Faults.{Causes, HasCause}
use Rattle.host_core.proofs.Causes.{caused, no_fault}
use Rattle.host_core.proofs.Chains.{onward, sends_nothing}
use Rattle.stream_core.specs.Pending.{Expects, SendsPrefix}
use Rattle.stream_core.proofs.Pending.{expects_same, on_ok}
use Rattle.stream_core.proofs.Sending.{sends_longer, sends_none, sends_on, sends_same}
use Rattle.wire_in.specs.declared.record.Record.TheVariants.{Indication}
use Rattle.text_core.specs.Lines.{line_of_record}
use Rattle.cross_core.specs.declared.order.Crossed.{Crossed}
use Rattle.auction_core.specs.declared.auction.Auction.{Auction}
use Rattle.auction_core.specs.Lines.{line_of_row, number_line}
use Rattle.auction_core.specs.Texts.{cross_lines, text_of_lines}
use Rattle.auction_core.specs.InternalSending.{Appends, head_text}

-- a call that was made
abbrev pub made : Result (Unit {0}) Fault
made = Ok tt

-- nothing was appended
pub appends_none : (now : Outside) → ((image bytes : List ℕ) → now.leaves now.moment image bytes → Agrees now.sent bytes) → (waiting : List ℕ) → Appends [] made waiting waiting now now
appends_none now sent_now waiting = record {
  pending = λ begin text expects. expects_same text (text ++ []) (sym (append-nil text)) expects;
  moments = λ begin text expects. sends_same text (text ++ []) (sym (append-nil text)) (sends_none now sent_now waiting text expects);
  keeps = sends_nothing now;
  causes = no_fault now;
  fault = tt;
}

-- bytes that are this piece were
pub appends_bytes : {T : Type 0} (result : Result T Fault) (bytes piece waiting still : List ℕ) (old new : Outside) → bytes ≡ piece
    → ((begin : Option (List ℕ)) (text : List ℕ) → Expects begin old.sent waiting text → OnOk result (Expects begin new.sent still (text ++ bytes)))
    → ((begin : Option (List ℕ)) (text : List ℕ) → Expects begin old.sent waiting text → Elapses old new (SendsPrefix begin text old))
    → OnlySends old new → Causes result old new → IfErr result (λ fault. fault ≡ Send) → Appends piece result waiting still old new
appends_bytes result bytes piece waiting still old new is pending moments keeps causes fault =
    subst (λ (p : List ℕ). Appends p result waiting still old new) is (record {
      pending = pending;
      moments = λ begin text expects. sends_longer text bytes (text ++ bytes) refl (moments begin text expects);
      keeps = keeps;
      causes = causes;
      fault = fault;
    })

pub appends_same : {T : Type 0} {result : Result T Fault} {waiting still : List ℕ} {old new : Outside} (piece same : List ℕ) → piece ≡ same → Appends piece result waiting still old new → Appends same result waiting still old new
appends_same {result = result} {waiting = waiting} {still = still} {old = old} {new = new} piece same is appends = subst (λ (p : List ℕ). Appends p result waiting still old new) is appends

-- a call whose answer is known
pub appends_ok : {T : Type 0} {piece waiting still : List ℕ} {old new : Outside} (result : Result T Fault) (x : T) → result ≡ Ok x → Appends piece result waiting still old new → Appends piece made waiting still old new
appends_ok (Ok y) x is appends = record { pending = appends.pending; moments = appends.moments; keeps = appends.keeps; causes = appends.causes; fault = tt }
appends_ok (Err f) x is appends = absurd cc

-- a piece, and then another
pub appends_on : {T : Type 0} (result : Result T Fault) {a b w0 w1 w2 : List ℕ} {old mid new : Outside} → Appends a made w0 w1 old mid → Appends b result w1 w2 mid new → Appends (a ++ b) result w0 w2 old new
appends_on result {a} {b} {new = new} first second = record {
  pending = λ begin text expects. on_ok result (second.pending begin (text ++ a) (first.pending begin text expects)) (λ all. expects_same ((text ++ a) ++ b) (text ++ (a ++ b)) (append_assoc text a b) all);
  moments = λ begin text expects.
      sends_on (sends_longer (text ++ a) b (text ++ (a ++ b)) (append_assoc text a b) (first.moments begin text expects)) ((text ++ a) ++ b) [] (append-nil ((text ++ a) ++ b) ∙ append_assoc text a b)
      (second.moments begin (text ++ a) (first.pending begin text expects));
  keeps = onward first.keeps second.keeps;
  causes = caused new result first.causes second.causes;
  fault = second.fault;
}

-- a piece of which a fault ended the sending
pub appends_less : {T U : Type 0} (result : Result T Fault) (fault : Fault) (answer : Result U Fault) {a w0 w1 : List ℕ} {old new : Outside} (b still : List ℕ) → result ≡ Err fault → IsErrAnd answer (λ f. f ≡ fault)
    → Appends a result w0 w1 old new → Appends (a ++ b) answer w0 still old new
appends_less (Ok x) fault answer b still is same appends = absurd cc
appends_less (Err e) fault (Ok x) b still is same appends = absurd same
appends_less (Err e) fault (Err f) {a} {w0} {w1} {old} {new} b still is same appends =
    let so : e ≡ f = e_is e fault is ∙ sym same in
    record {
      pending = λ begin text expects. tt;
      moments = λ begin text expects. sends_longer (text ++ a) b (text ++ (a ++ b)) (append_assoc text a b) (appends.moments begin text expects);
      keeps = appends.keeps;
      causes = subst (λ (x : Fault). HasCause x old new) so appends.causes;
      fault = sym so ∙ appends.fault;
    } where
      e_is : {T : Type 0} (e fault : Fault) → ◌≡◌ {A = Result T Fault} (Err e) (Err fault) → e ≡ fault
      e_is e fault is = cc

-- The lines of a list.

text-append : (xs ys : List (List ℕ)) → text_of_lines (xs ++ ys) ≡ text_of_lines xs ++ text_of_lines ys
text-append xs ys =
    ap concat (map-append (λ (line : List ℕ). line ++ 10 ∷ []) xs ys) ∙ concat-append (map (λ (line : List ℕ). line ++ 10 ∷ []) xs) (map (λ (line : List ℕ). line ++ 10 ∷ []) ys)

one_text : (line : List ℕ) → text_of_lines (line ∷ []) ≡ line ++ 10 ∷ []
one_text line = append-nil (line ++ 10 ∷ [])

module _ {X : Type 0} (line : X → List ℕ) (xs : List X) where
  pub text_more : (i : ℕ) (x d : X) → i < length xs → x ≡ get_or xs i d → text_of_lines (map line (take i xs)) ++ (line x ++ 10 ∷ []) ≡ text_of_lines (map line (take (i + 1) xs))
  text_more i x d below is =
      let one : i + 1 ≡ suc i = omega arith in
      let more : take (i + 1) xs ≡ take i xs ++ x ∷ [] = ap (λ (n : ℕ). take n xs) one ∙ take-suc xs i d below ∙ ap (λ (y : X). take i xs ++ y ∷ []) (sym is) in
      sym (ap (λ (ys : List X). text_of_lines (map line ys)) more
      ∙ ap text_of_lines (map-append line (take i xs) (x ∷ []))
      ∙ text-append (map line (take i xs)) (line x ∷ [])
      ∙ ap (λ (t : List ℕ). text_of_lines (map line (take i xs)) ++ t) (one_text (line x)))

  -- where a fault ends it, the rest is not sent
  pub text_rest : (i : ℕ) (x d : X) → i < length xs → x ≡ get_or xs i d → (rest : List ℕ) × ((text_of_lines (map line (take i xs)) ++ (line x ++ 10 ∷ [])) ++ rest ≡ text_of_lines (map line xs))
  text_rest i x d below is = (
    text_of_lines (map line (drop (i + 1) xs)),
    ap (λ (t : List ℕ). t ++ text_of_lines (map line (drop (i + 1) xs))) (text_more i x d below is)
        ∙ sym (text-append (map line (take (i + 1) xs)) (map line (drop (i + 1) xs)))
        ∙ ap text_of_lines (sym (map-append line (take (i + 1) xs) (drop (i + 1) xs)))
        ∙ ap (λ (ys : List X). text_of_lines (map line ys)) (take-append-drop (i + 1) xs),
  )

-- the lines of a cross, part by part
pub cross_text : (a : Auction) (crossed : Crossed) (fills : List ℕ)
    → head_text a crossed ++ (text_of_lines (map line_of_row crossed.rows) ++ text_of_lines (map (number_line (codes "fill")) fills)) ≡ text_of_lines (cross_lines a crossed fills)
cross_text a crossed fills =
    ap (λ (t : List ℕ). head_text a crossed ++ t) (sym (text-append (map line_of_row crossed.rows) (map (number_line (codes "fill")) fills)))
    ∙ joined (line_of_record (Indication a.moment a.symbol crossed.price crossed.left) ++ 10 ∷ []) (number_line (codes "volume") crossed.volume ++ 10 ∷ []) (number_line (codes "imbalance") crossed.imbalance ++ 10 ∷ []) (text_of_lines (map line_of_row crossed.rows ++ map (number_line (codes "fill")) fills)) where
      joined : (x y z t : List ℕ) → (x ++ (y ++ z)) ++ t ≡ x ++ (y ++ (z ++ t))
      joined x y z t = append_assoc x (y ++ z) t ∙ ap (λ (r : List ℕ). x ++ r) (append_assoc y z t)
