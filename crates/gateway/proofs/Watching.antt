-- What a reader saw stays seen, and no later answer has a lower version.
use Rattle.std.proofs.Common.{◌≡◌, ℕ, zero, suc, ◌≤◌, All, List, [], ◌∷◌, ◌++◌, Some, inl, inr, ⊎_elim, sym, refl, ap, subst, arith, set, length, ◌<◌, slice_index_or}
use Rattle.std.specs.Prelude.{slice_get}
use Rattle.std.proofs.lemmas.List.Elements.{All-contains}
use Rattle.price_core.specs.declared.quote.Side.{Side}
use Rattle.price_core.specs.declared.quote.Side.TheVariants.{Low, High}
use Rattle.board_core.specs.declared.shown.Edge.{Edge}
use Rattle.board_core.specs.declared.entry.Entry.{Entry}
use Rattle.board_core.specs.declared.entry.Entry.TheVariants.{Band}
use Rattle.board_core.specs.Views.{IsNotAfter}
use Rattle.gateway.specs.declared.reader.Seen.{Seen}
use Rattle.gateway.specs.Readers.{IsVersionSeen, IsSeen, AreSeen}
use Rattle.gateway.proofs.Steps.{some_same, contains_first, contains_behind}

pub still_version : (more answers : List Entry) (k : ℕ) (side : Side) (version : ℕ) → IsVersionSeen answers k side version → IsVersionSeen (more ++ answers) k side version
still_version more answers k side version seen = ⊎_elim (λ e. inl e) (λ s. inr (s.0, contains_behind more answers _ s.1)) seen

still_seen : (more answers : List Entry) (k : ℕ) (x : Seen) → IsSeen answers k x → IsSeen (more ++ answers) k x
still_seen more answers k x seen = record { low = still_version more answers k Low x.low seen.low; high = still_version more answers k High x.high seen.high }

-- an answer behind those that were seen
pub not_lower : (answers : List Entry) (k : ℕ) (side : Side) (e : Edge) (version : ℕ) → IsVersionSeen answers k side version → All (IsNotAfter (Band k side e)) answers → version ≤ e.version
not_lower answers k side e version seen after = ⊎_elim (λ z. omega (arith, z)) (λ s. (All-contains (IsNotAfter (Band k side e)) answers _ after s.1).version refl) seen

-- both edges of a stock were answered
pub both_seen : (answers : List Entry) (k : ℕ) (low high : Edge) (x : Seen) → x.low ≡ low.version → x.high ≡ high.version → IsSeen (Band k High high ∷ Band k Low low ∷ answers) k x
both_seen answers k low high x is_low is_high =
    let all : List Entry = Band k High high ∷ Band k Low low ∷ answers in
    record {
      low = subst (IsVersionSeen all k Low) (sym is_low) (inr (low.price, contains_behind (Band k High high ∷ []) (Band k Low low ∷ answers) _ (contains_first answers (Band k Low low))));
      high = subst (IsVersionSeen all k High) (sym is_high) (inr (high.price, contains_first (Band k Low low ∷ answers) (Band k High high)));
    }

each_set : {A : Type 0} (P : ℕ → A → Type 0) (xs : List A) (k : ℕ) (x : A) → ((j : ℕ) (y : A) → slice_get xs j ≡ Some y → P j y) → P k x → (j : ℕ) (y : A) → slice_get (set xs k x) j ≡ Some y → P j y
each_set P [] k x each here j y at = each j y at
each_set P (z ∷ xs) zero x each here zero y at = subst (P 0) (some_same x y at) here
each_set P (z ∷ xs) zero x each here (suc j) y at = each (suc j) y at
each_set P (z ∷ xs) (suc k) x each here zero y at = each 0 y at
each_set P (z ∷ xs) (suc k) x each here (suc j) y at = each_set (λ i. P (suc i)) xs k x (λ i u. each (suc i) u) here j y at

-- one stock was asked for again
pub all_seen : (more answers : List Entry) (seen : List Seen) (k : ℕ) (x : Seen) → AreSeen answers seen → IsSeen (more ++ answers) k x → AreSeen (more ++ answers) (set seen k x)
all_seen more answers seen k x all here = each_set (IsSeen (more ++ answers)) seen k x (λ j y at. still_seen more answers j y (all j y at)) here

pub there : (seen : List Seen) (k : ℕ) (x : Seen) → k < length seen → x ≡ slice_index_or seen k x → slice_get seen k ≡ Some x
there [] k x lt is = absurd (omega (arith, lt))
there (y ∷ ys) zero x lt is = ap Some (sym is)
there (y ∷ ys) (suc k) x lt is = there ys k x (omega (arith, lt)) is
