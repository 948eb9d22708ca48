-- Steps of the loops over messages and symbols.
use Rattle.std.proofs.Common.{◌≡◌, ℕ, zero, suc, ◌+◌, ◌-◌, ◌^◌, ◌<◌, ◌≤◌, All, Bool, true, false, List, [], ◌∷◌, ◌++◌, length, take, Some, sym, refl, ap, ◌∙◌, subst, arith, get_or}
use Rattle.std.specs.Prelude.{Contains, slice_get, if◌then◌else◌}
use Rattle.std.proofs.lemmas.List.{take_more}
use Rattle.std.proofs.lemmas.List.Elements.{All-head, All-tail, All-contains}
use Rattle.price_core.specs.declared.quote.Side.TheVariants.{Low, High}
use Rattle.wire_out.specs.declared.message.Message.{Message}
use Rattle.wire_out.specs.declared.message.Message.TheVariants as messages
use Rattle.board_core.specs.declared.entry.Entry.{Entry}
use Rattle.board_core.specs.declared.entry.Entry.TheVariants.{State, Band}
use Rattle.board_core.specs.Numbers.{edge}
use Rattle.board_core.specs.Entries.{first_of, latest, shown_in, edge_in, entries_after, entries_from, board_entries, IsEntry, VersionsAtMost, is_of, messages_of}
use Rattle.board_core.specs.Views.{IsNotAfter}
use Rattle.board_core.specs.Seats.{HasRoomFor}
use Rattle.board_core.proofs.Published.{after_all}
use Rattle.board_core.proofs.Versions.{versions_count_messages}
use Rattle.gateway.specs.declared.rows.Row.{Row}
use Rattle.gateway.specs.Rows.{IsAnswer, IsAnswered, IsLast}

pub some_same : {A : Type 0} (x y : A) → Some x ≡ Some y → x ≡ y
some_same x y e = cc

entries_end : (ms : List Message) (m : Message) (es : List Entry) → entries_from es (ms ++ m ∷ []) ≡ entries_after (entries_from es ms) m
entries_end [] m es = refl
entries_end (x ∷ xs) m es = entries_end xs m (entries_after es x)

pub one_more : (ms : List Message) (m : Message) → board_entries (ms ++ m ∷ []) ≡ entries_after (board_entries ms) m
one_more ms m = entries_end ms m []

at_most_one : (b : Bool) → (if b then 1 else 0) ≤ 1
at_most_one true = omega arith
at_most_one false = omega arith

few_of : (s : ℕ) (ms : List Message) → messages_of s ms ≤ length ms
few_of s [] = omega arith
few_of s (m ∷ ms) = omega (arith, at_most_one (is_of s m), few_of s ms)

room_at : (ms : List Message) → length ms < 2 ^ 34 - 1 → (s : ℕ) → VersionsAtMost (2 ^ 34 - 2) (board_entries ms) s
room_at ms few s =
    let most = versions_count_messages s ms in
    let le = few_of s ms in
    record { state = omega (arith, most.state); low = omega (arith, most.low); high = omega (arith, most.high) }

pub room_for : (ms : List Message) → length ms < 2 ^ 34 - 1 → (m : Message) → HasRoomFor (board_entries ms) m
room_for ms few (messages.Listed s name) = room_at ms few s
room_for ms few (messages.State s phase) = room_at ms few s
room_for ms few (messages.Band s cause reference lower upper) = room_at ms few s
room_for ms few (messages.Straddle s on) = room_at ms few s
room_for ms few (messages.Collar s round lower upper) = tt
room_for ms few (messages.Release s price) = tt
room_for ms few (messages.Short s kind) = room_at ms few s
room_for ms few (messages.Breaker level index) = tt
room_for ms few messages.MarketResume = tt

pub contains_first : (xs : List Entry) (x : Entry) → Contains (x ∷ xs) x
contains_first xs x = (0, omega arith, refl)

pub contains_behind : (more xs : List Entry) (x : Entry) → Contains xs x → Contains (more ++ xs) x
contains_behind [] xs x has = has
contains_behind (y ∷ more) xs x has = let rest = contains_behind more xs x has in (suc rest.0, omega (arith, rest.1), rest.2)

still : (notes : List (List Entry)) (more answers : List Entry) (e : Entry) → IsAnswer notes answers e → IsAnswer notes (more ++ answers) e
still notes more answers e is = record { among = contains_behind more answers e is.among; told = is.told }

pub still_answered : (notes : List (List Entry)) (more answers : List Entry) (k : ℕ) (row : Row) → IsAnswered notes answers k row → IsAnswered notes (more ++ answers) k row
still_answered notes more answers k row is = record { state = still notes more answers _ is.state; low = (is.low.0, still notes more answers _ is.low.1); high = (is.high.0, still notes more answers _ is.high.1) }

pub answer_of : (notes : List (List Entry)) (before answers : List Entry) (e : Entry) → All (λ note. (a : Entry) → IsEntry a note → IsNotAfter e a) notes → IsAnswer notes (before ++ e ∷ answers) e
answer_of notes before answers e told = record { among = contains_behind before (e ∷ answers) e (contains_first answers e); told = told }

-- a row of three answers, the later two of views that have more answers and the same notes
pub row_of : (notes : List (List Entry)) (answers : List Entry) (k : ℕ) (row : Row) (v w : ℕ)
    → All (λ note. (a : Entry) → IsEntry a note → IsNotAfter (State k row.shown) a) notes
    → All (λ note. (a : Entry) → IsEntry a note → IsNotAfter (Band k Low (edge v row.lower)) a) notes
    → All (λ note. (a : Entry) → IsEntry a note → IsNotAfter (Band k High (edge w row.upper)) a) notes
    → IsAnswered notes (Band k High (edge w row.upper) ∷ Band k Low (edge v row.lower) ∷ State k row.shown ∷ answers) k row
row_of notes answers k row v w state low high =
    let a : Entry = State k row.shown in
    let b : Entry = Band k Low (edge v row.lower) in
    let c : Entry = Band k High (edge w row.upper) in
    record { state = answer_of notes (c ∷ b ∷ []) answers a state; low = (v, answer_of notes (c ∷ []) (a ∷ answers) b low); high = (w, answer_of notes [] (b ∷ a ∷ answers) c high) }

-- an answer that was told of all messages is what they made last
answer_is_last : (ms : List Message) (answers : List Entry) (e : Entry) → IsAnswer (board_entries ms ∷ []) answers e → All (λ a. IsEntry a (board_entries ms)) answers
    → e ≡ latest (first_of e) (board_entries ms)
answer_is_last ms answers e is all = after_all ms e (All-contains (λ a. IsEntry a (board_entries ms)) answers e all is.among) (All-head (λ note. (a : Entry) → IsEntry a note → IsNotAfter e a) (board_entries ms) [] is.told)

pub row_is_last : (ms : List Message) (answers : List Entry) (k : ℕ) (row : Row) → IsAnswered (board_entries ms ∷ []) answers k row → All (λ a. IsEntry a (board_entries ms)) answers → IsLast ms k row
row_is_last ms answers k row is all = record {
  state = ap shown_in (answer_is_last ms answers (State k row.shown) is.state all);
  low = ap (λ e. (edge_in e).price) (answer_is_last ms answers (Band k Low (edge is.low.0 row.lower)) is.low.1 all);
  high = ap (λ e. (edge_in e).price) (answer_is_last ms answers (Band k High (edge is.high.0 row.upper)) is.high.1 all);
}

-- what holds of each element and of one more
pub each_pushed : {A : Type 0} (P : ℕ → A → Type 0) (xs : List A) (x : A) (n : ℕ) → n ≡ length xs → ((k : ℕ) (y : A) → slice_get xs k ≡ Some y → P k y) → P n x → (k : ℕ) (y : A) → slice_get (xs ++ x ∷ []) k ≡ Some y → P k y
each_pushed P [] x zero e each here zero y at = subst (P 0) (some_same x y at) here
each_pushed P [] x (suc n) e each here k y at = absurd (omega arith)
each_pushed P [] x zero e each here (suc k) y at = absurd (cc)
each_pushed P (z ∷ xs) x n e each here zero y at = each 0 y at
each_pushed P (z ∷ xs) x zero e each here (suc k) y at = absurd (omega arith)
each_pushed P (z ∷ xs) x (suc n) e each here (suc k) y at = each_pushed (λ i. P (suc i)) xs x n (omega arith) (λ i u. each (suc i) u) here k y at

pub next_taken : (xs : List Message) (i : ℕ) (x : Message) → i < length xs → x ≡ get_or xs i x → take (i + 1) xs ≡ take i xs ++ x ∷ []
next_taken xs i x lt is = take_more xs i x lt ∙ ap (λ (y : Message). take i xs ++ y ∷ []) (sym is)

pub All_end : {A : Type 0} (P : A → Type 0) (xs : List A) (x : A) → All P (xs ++ x ∷ []) → P x
All_end P [] x all = All-head P x [] all
All_end P (y ∷ ys) x all = All_end P ys x (All-tail P y (ys ++ x ∷ []) all)
