-- Cancels, and the deals of some events with one more record at their end.
use Rattle.std.proofs.Common.{◌≡◌, ℕ, Bool, true, false, List, [], ◌∷◌, ◌++◌, eqb, refl, sym, ap, ◌∙◌, arith}
use Rattle.std.specs.Prelude.{Some, None, if◌then◌else◌, ◌&&◌, ◌||◌, ◌==◌, not, filter}
use Rattle.std.specs.List.{list_any}
use Rattle.std.proofs.lemmas.Bool.Decides.{eqb_tells}
use Rattle.std.proofs.lemmas.List.Elements.{filter-append, filter_agree}
use Rattle.std.proofs.lemmas.List.Folds.{list_any-append}
use Rattle.session_core.specs.declared.day.Day.{Day}
use Rattle.wire_in.specs.declared.record.Record.{Record}
use Rattle.wire_in.specs.declared.record.Record.TheVariants as in_
use Rattle.eligible_core.specs.Conditions.{eligible}
use Rattle.window_core.specs.declared.window.Deal.{Deal}
use Rattle.rulebook.specs.declared.event.Event.{Event}
use Rattle.rulebook.specs.declared.event.Event.TheVariants.{Accepted, Published}
use Rattle.rulebook.specs.Symbol.{cancels, deals_in}
use Rattle.symbol_core.specs.Taken.{cancelled_by, leaves}

and_true : (b : Bool) → (b && true) ≡ b
and_true true = refl
and_true false = refl

eqb_turned : (a b : ℕ) → eqb a b ≡ eqb b a
eqb_turned a b = grind (arith, eqb_tells)

pub append_none : (xs : List Deal) → xs ++ [] ≡ xs
append_none [] = refl
append_none (x ∷ xs) = ap (λ (ys : List Deal). x ∷ ys) (append_none xs)

pub filter_all : (p : Deal → Bool) → ((d : Deal) → p d ≡ true) → (xs : List Deal) → filter p xs ≡ xs
filter_all p all [] = refl
filter_all p all (d ∷ xs) = rw (all d, filter_all p all xs)

-- one record more that came later
traded_later : (s : ℕ) (x : Record) (ds es : List Deal) (d : Deal) (a b c : Bool) → cancels s d.number x ≡ c → es ≡ filter (leaves s x) ds
    → (if a && not (b || (c || false)) then es ++ d ∷ [] else es) ≡ filter (leaves s x) (if a && not b then ds ++ d ∷ [] else ds)
traded_later s x ds es d false b c e h = h
traded_later s x ds es d true true c e h = h
traded_later s x ds es d true false true e h = simp (filter-append, e, append_none) h
traded_later s x ds es d true false false e h = simp (filter-append, e) (ap (λ (xs : List Deal). xs ++ d ∷ []) h)

pub deals-later : (day : Day) (s : ℕ) (x : Record) (later : List Record) (h : List Event) → deals_in day s (later ++ x ∷ []) h ≡ filter (leaves s x) (deals_in day s later h)
deals-later day s x later [] = refl
deals-later day s x later (Published m ∷ h) = deals-later day s x later h
deals-later day s x later (Accepted (in_.Trade t i n p q f) ∷ h) =
    rw (list_any-append (cancels s n) later (x ∷ [])) (traded_later s x (deals_in day s later h) (deals_in day s (later ++ x ∷ []) h) (record { moment = t; number = n; price = p }) ((i == s) && eligible f t day) (list_any (cancels s n) later) (cancels s n x) refl (deals-later day s x later h))
deals-later day s x later (Accepted (in_.Day a b c) ∷ h) = deals-later day s x (in_.Day a b c ∷ later) h
deals-later day s x later (Accepted (in_.Listing a n k l c) ∷ h) = deals-later day s x (in_.Listing a n k l c ∷ later) h
deals-later day s x later (Accepted (in_.Cancel a i n) ∷ h) = deals-later day s x (in_.Cancel a i n ∷ later) h
deals-later day s x later (Accepted (in_.Quote a i b o y z) ∷ h) = deals-later day s x (in_.Quote a i b o y z ∷ later) h
deals-later day s x later (Accepted (in_.IndexTick a v) ∷ h) = deals-later day s x (in_.IndexTick a v ∷ later) h
deals-later day s x later (Accepted (in_.Clock a) ∷ h) = deals-later day s x (in_.Clock a ∷ later) h
deals-later day s x later (Accepted (in_.Notice a i k) ∷ h) = deals-later day s x (in_.Notice a i k ∷ later) h
deals-later day s x later (Accepted (in_.Indication a i p u) ∷ h) = deals-later day s x (in_.Indication a i p u ∷ later) h

trade_last : (v : Bool) (ds : List Deal) (d : Deal) → (if v then ds ++ d ∷ [] else ds) ≡ ds ++ (if v then d ∷ [] else [])
trade_last true ds d = refl
trade_last false ds d = sym (append_none ds)

-- a record at the end of some events: what it leaves of their deals, and its own
pub deals-taken : (day : Day) (s : ℕ) (x : Record) (c : List Event) → deals_in day s [] (Accepted x ∷ c) ≡ filter (leaves s x) (deals_in day s [] c) ++ deals_in day s [] (Accepted x ∷ [])
deals-taken day s (in_.Trade t i n p q f) c =
    trade_last ((i == s) && eligible f t day && true) (deals_in day s [] c) (record { moment = t; number = n; price = p })
    ∙ ap (λ (xs : List Deal). xs ++ (if (i == s) && eligible f t day && true then record { moment = t; number = n; price = p } ∷ [] else [])) (sym (filter_all (leaves s (in_.Trade t i n p q f)) (λ d. refl) (deals_in day s [] c)))
deals-taken day s (in_.Day a b e) c = deals-later day s (in_.Day a b e) [] c ∙ sym (append_none (filter (leaves s (in_.Day a b e)) (deals_in day s [] c)))
deals-taken day s (in_.Listing a n k l e) c = deals-later day s (in_.Listing a n k l e) [] c ∙ sym (append_none (filter (leaves s (in_.Listing a n k l e)) (deals_in day s [] c)))
deals-taken day s (in_.Cancel a i n) c = deals-later day s (in_.Cancel a i n) [] c ∙ sym (append_none (filter (leaves s (in_.Cancel a i n)) (deals_in day s [] c)))
deals-taken day s (in_.Quote a i b o y z) c = deals-later day s (in_.Quote a i b o y z) [] c ∙ sym (append_none (filter (leaves s (in_.Quote a i b o y z)) (deals_in day s [] c)))
deals-taken day s (in_.IndexTick a v) c = deals-later day s (in_.IndexTick a v) [] c ∙ sym (append_none (filter (leaves s (in_.IndexTick a v)) (deals_in day s [] c)))
deals-taken day s (in_.Clock a) c = deals-later day s (in_.Clock a) [] c ∙ sym (append_none (filter (leaves s (in_.Clock a)) (deals_in day s [] c)))
deals-taken day s (in_.Notice a i k) c = deals-later day s (in_.Notice a i k) [] c ∙ sym (append_none (filter (leaves s (in_.Notice a i k)) (deals_in day s [] c)))
deals-taken day s (in_.Indication a i p u) c = deals-later day s (in_.Indication a i p u) [] c ∙ sym (append_none (filter (leaves s (in_.Indication a i p u)) (deals_in day s [] c)))

-- what a cancel leaves
pub leaves-cancelled : (s : ℕ) (x : Record) (n : ℕ) (ds : List Deal) → cancelled_by s x ≡ Some n → filter (λ d. not (eqb d.number n)) ds ≡ filter (leaves s x) ds
leaves-cancelled s x n ds e = filter_agree (λ d. not (eqb d.number n)) (leaves s x) (λ d. at x d e) ds
  where
    one : (v : Bool) (t m : ℕ) (d : Deal) → (if v then Some m else None) ≡ Some n → not (eqb d.number n) ≡ not (v && eqb m d.number)
    one true t m d e = let turned = eqb_turned m d.number in cc
    one false t m d e = cc

    at : (x : Record) (d : Deal) → cancelled_by s x ≡ Some n → not (eqb d.number n) ≡ leaves s x d
    at (in_.Day t d c) k e = cc
    at (in_.Listing t m k l c) d e = cc
    at (in_.Trade t i m p q f) d e = cc
    at (in_.Cancel t i m) d e = one (i == s) t m d e
    at (in_.Quote t i b o x y) d e = cc
    at (in_.IndexTick t v) d e = cc
    at (in_.Clock t) d e = cc
    at (in_.Notice t i k) d e = cc
    at (in_.Indication t i p u) d e = cc

pub leaves-all : (s : ℕ) (x : Record) (ds : List Deal) → cancelled_by s x ≡ None → filter (leaves s x) ds ≡ ds
leaves-all s x ds e = filter_all (leaves s x) (λ d. at x d e) ds
  where
    one : (v : Bool) (m : ℕ) (d : Deal) → (if v then Some m else None) ≡ None → not (v && eqb m d.number) ≡ true
    one true m d e = cc
    one false m d e = refl

    at : (x : Record) (d : Deal) → cancelled_by s x ≡ None → leaves s x d ≡ true
    at (in_.Day t d c) k e = refl
    at (in_.Listing t m k l c) d e = refl
    at (in_.Trade t i m p q f) d e = refl
    at (in_.Cancel t i m) d e = one (i == s) m d e
    at (in_.Quote t i b o x y) d e = refl
    at (in_.IndexTick t v) d e = refl
    at (in_.Clock t) d e = refl
    at (in_.Notice t i k) d e = refl
    at (in_.Indication t i p u) d e = refl
