-- Kept deals for which the same are live.
use Rattle.std.proofs.Common.{◌≡◌, ℕ, ◌+◌, ◌≤◌, Bool, true, false, Some, None, List, [], ◌∷◌, ◌++◌, refl, sym, ap, subst, ◌∙◌, arith}
use Rattle.std.specs.Prelude.{cond, if◌then◌else◌, ◌==◌, ◌&&◌, option_to_list}
use Rattle.std.proofs.lemmas.List.Elements.{filter-append}
use Rattle.std.proofs.lemmas.Bool.{lt-ltb}
use Rattle.session_core.specs.declared.day.Day.{Day}
use Rattle.session_core.specs.Durations.{five_minutes}
use Rattle.wire_in.specs.declared.record.Record.{Record}
use Rattle.wire_in.specs.declared.record.Record.TheVariants as in_
use Rattle.wire_in.specs.Records.{moment_of}
use Rattle.eligible_core.specs.Conditions.{eligible}
use Rattle.window_core.specs.declared.window.Deal.{Deal}
use Rattle.window_core.specs.Deals.{is_live, live}
use Rattle.window_core.proofs.Deals.{live-live}
use Rattle.symbol_core.specs.declared.state.Kept.{Kept}
use Rattle.symbol_core.specs.declared.state.Step.{Step}
use Rattle.symbol_core.specs.InStep.{InStep}
use Rattle.symbol_core.specs.Taken.{deal_of, taken}
use Rattle.symbol_core.specs.Window.{SameLive}

-- deals are added in place of those that are five minutes old
pub same-added : (t : ℕ) (deals more : List Deal) → SameLive t (live t deals ++ more) (deals ++ more)
same-added t deals more = record {
  at = λ u le.
      filter-append (is_live u) (live t deals) more
      ∙ ap (λ (xs : List Deal). xs ++ live u more) (live-live t u le deals)
      ∙ sym (filter-append (is_live u) deals more);
}

-- those that are five minutes old count for nothing
pub same-live : (t : ℕ) (deals : List Deal) → SameLive t (live t deals) deals
same-live t deals = record { at = λ u le. live-live t u le deals }

pub same_kept : (t : ℕ) (fresh : Bool) (a b own : List Deal) → SameLive t a b → SameLive t ((if fresh then [] else a) ++ own) ((if fresh then [] else b) ++ own)
same_kept t true a b own same = record { at = λ u le. refl }
same_kept t false a b own same = record {
  at = λ u le. filter-append (is_live u) a own ∙ ap (λ (xs : List Deal). xs ++ live u own) (same.at u le) ∙ sym (filter-append (is_live u) b own);
}

-- which are live themselves, where the added ones are
pub live-added : (t : ℕ) (deals more : List Deal) → live t more ≡ more → live t (live t deals ++ more) ≡ live t deals ++ more
live-added t deals more e =
    filter-append (is_live t) (live t deals) more
    ∙ ap (λ (xs : List Deal). xs ++ live t more) (live-live t t (omega arith) deals)
    ∙ ap (λ (xs : List Deal). live t deals ++ xs) e

pub live-counted : (t : ℕ) (counts : Bool) (own : List Deal) → live t own ≡ own → live t (if counts then own else []) ≡ (if counts then own else [])
live-counted t true own e = e
live-counted t false own e = refl

-- a trade is live at its own moment
own_live : (t n p : ℕ) (counts : Bool) → live t (option_to_list (if counts then Some (record { moment = t; number = n; price = p }) else None)) ≡ option_to_list (if counts then Some (record { moment = t; number = n; price = p }) else None)
own_live t n p false = refl
own_live t n p true = ap (λ (b : Bool). cond b (record { moment = t; number = n; price = p } ∷ []) []) (lt-ltb t (t + five_minutes) (omega arith))

pub live-own : (day : Day) (s : ℕ) (x : Record) → live (moment_of x) (option_to_list (deal_of day s x)) ≡ option_to_list (deal_of day s x)
live-own day s (in_.Trade t i n p q f) = own_live t n p ((i == s) && eligible f t day)
live-own day s (in_.Day t d c) = refl
live-own day s (in_.Listing t name k l c) = refl
live-own day s (in_.Cancel t i n) = refl
live-own day s (in_.Quote t i b o y z) = refl
live-own day s (in_.IndexTick t v) = refl
live-own day s (in_.Clock t) = refl
live-own day s (in_.Notice t i k) = refl
live-own day s (in_.Indication t i p u) = refl

-- so is the open step's own, once its record is taken in
pub live-taken : (step : Step) (old : Kept) (new : InStep) → new ≡ taken old step → step.moment ≡ moment_of step.input → live step.moment (option_to_list new.opened.deal) ≡ option_to_list new.opened.deal
live-taken step old new e now =
    let P : ℕ → Type 0 = λ t. live t (option_to_list (deal_of step.day old.id step.input)) ≡ option_to_list (deal_of step.day old.id step.input) in
    rw e (subst P (sym now) (live-own step.day old.id step.input))

-- one after the other
pub same_then : (t : ℕ) (a b c : List Deal) → SameLive t a b → SameLive t b c → SameLive t a c
same_then t a b c p q = record { at = λ u le. p.at u le ∙ q.at u le }

-- from a later moment on
pub same_later : (t u : ℕ) (a b : List Deal) → t ≤ u → SameLive t a b → SameLive u a b
same_later t u a b le p = record { at = λ v lv. p.at v (omega arith) }
