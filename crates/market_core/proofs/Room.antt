-- Room that is there.
use Rattle.std.proofs.Common.{◌≡◌, ℕ, ◌<◌, ◌≤◌, Bool, true, false, List, length, get_or, Option, Result, Err, refl, sym, ap, subst, ◌∙◌, true≢false, arith}
use Rattle.std.specs.Prelude.{IfSome, IsOk, is_ok, slice_index}
use Rattle.std.proofs.lemmas.Option.{slice_get-get_or, slice_get_within}
use Rattle.wire_in.specs.declared.record.Record.{Record}
use Rattle.symbol_core.specs.Rests.{SymbolState}
use Rattle.market_core.specs.declared.since.Since.{Since}
use Rattle.market_core.specs.Kinds.{is_trade}
use Rattle.market_core.specs.Room.{HasRoomAt}
use Rattle.market_core.specs.Sections.{EachIdles, IdlesUntil}

-- what is so of trades, and of all other records
pub by_kind : {A : Type 0} (x : Record) → (is_trade x ≡ false → A) → (is_trade x ≡ true → A) → A
by_kind {A = A} x other trade = by (is_trade x) refl where
  by : (b : Bool) → is_trade x ≡ b → A
  by true is = trade is
  by false is = other is

-- what is Ok isn't refused
pub refused : {X E : Type 0} (r : Result X E) (e : E) → r ≡ Err e → IsOk r → ⊥
refused r e is ok = true≢false (sym ok ∙ ap is_ok is)

-- the stock that is found at an index has the room that is said of it
pub room_of : (symbols : List SymbolState) (index : ℕ) (d : SymbolState) → index < length symbols → HasRoomAt symbols index → 1 ≤ (get_or symbols index d).spare
room_of symbols index d within room = subst (λ (o : Option SymbolState). IfSome o (λ held. 1 ≤ held.spare)) (slice_get-get_or symbols index d within) room

-- places come behind the others
pub each-same : (since : Option Since) (before after : List ℕ) (stocks : List SymbolState) → length stocks ≤ length before
    → ((place : ℕ) → place < length before → slice_index after place ≡ slice_index before place) → EachIdles since before stocks → EachIdles since after stocks
each-same since before after stocks there same each =
    λ place held e. subst (λ (alarm : ℕ). IdlesUntil since alarm held) (sym (same place (omega (arith, slice_get_within stocks place held e, there)))) (each place held e)
