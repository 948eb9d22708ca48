-- Steps of the loops over messages, symbols and rows.
use Rattle.std.proofs.Common.{◌≡◌, ℕ, zero, suc, ◌+◌, ◌-◌, ◌^◌, ◌<◌, List, [], ◌∷◌, ◌++◌, length, drop, Some, sym, refl, ap, ◌∙◌, subst, arith, append_assoc, get_or}
use Rattle.std.specs.Prelude.{All, Contains, map, slice_get}
use Rattle.std.proofs.lemmas.List.{drop_more}
use Rattle.std.proofs.lemmas.List.Elements.{All-nil, All-cons, All-head, All-tail, All-contains}
use Rattle.price_core.specs.declared.quote.Side.TheVariants.{Low, High}
use Rattle.wire_out.specs.declared.message.Message.{Message}
use Rattle.wire_out.specs.declared.message.Message.TheVariants as messages
use Rattle.rulebook.specs.Book.{ids_below}
use Rattle.board_core.specs.declared.entry.Entry.{Entry}
use Rattle.board_core.specs.declared.entry.Entry.TheVariants.{State, Band}
use Rattle.board_core.specs.Numbers.{edge}
use Rattle.board_core.specs.Entries.{first_of, latest, shown_in, edge_in, entries_after, entries_from, board_entries, IsEntry, VersionsAtMost, messages_of}
use Rattle.board_core.specs.Views.{IsNotAfter}
use Rattle.board_core.specs.Seats.{HasRoomFor}
use Rattle.board_core.proofs.Published.{after_all}
use Rattle.board_core.proofs.Versions.{versions_count_messages}
use Rattle.screen_core.specs.declared.row.Row.{Row}
use Rattle.screen_core.specs.Rows.{last_row}
use Rattle.screen_core.specs.InternalRows.{IsAnswer, IsAnswered}
use Rattle.screen_core.specs.InternalDesk.{CanPublish, CanTakeAll}
use Rattle.screen_core.proofs.Messages.{count-append}

some_same : {A : Type 0} (x y : A) → Some x ≡ Some y → x ≡ y
some_same x y e = cc

-- the element that a loop takes
pub drop_one : {X : Type 0} (xs : List X) (i : ℕ) (x : X) → i < length xs → x ≡ get_or xs i x → drop i xs ≡ x ∷ drop (i + 1) xs
drop_one {X} xs i x lt is = drop_more xs i x lt ∙ ap (λ (y : X). y ∷ drop (i + 1) xs) (sym is)

-- Entries.

entries-append : (ms more : List Message) (es : List Entry) → entries_from es (ms ++ more) ≡ entries_from (entries_from es ms) more
entries-append [] more es = refl
entries-append (m ∷ ms) more es = entries-append ms more (entries_after es m)

pub board-append : (ms more : List Message) → board_entries (ms ++ more) ≡ entries_from (board_entries ms) more
board-append ms more = entries-append ms more []

room_at : (ms : List Message) (s : ℕ) → messages_of s ms < 2 ^ 34 - 1 → VersionsAtMost (2 ^ 34 - 2) (board_entries ms) s
room_at ms s few =
    let most = versions_count_messages s ms in
    record { state = omega (arith, most.state); low = omega (arith, most.low); high = omega (arith, most.high) }

room_for : (ms : List Message) → ((s : ℕ) → messages_of s ms < 2 ^ 34 - 1) → (m : Message) → HasRoomFor (board_entries ms) m
room_for ms few (messages.Listed s name) = room_at ms s (few s)
room_for ms few (messages.State s phase) = room_at ms s (few s)
room_for ms few (messages.Band s cause reference lower upper) = room_at ms s (few s)
room_for ms few (messages.Straddle s on) = room_at ms s (few s)
room_for ms few (messages.Collar s round lower upper) = tt
room_for ms few (messages.Release s price) = tt
room_for ms few (messages.Short s kind) = room_at ms s (few s)
room_for ms few (messages.Breaker level index) = tt
room_for ms few messages.MarketResume = tt

-- the first of messages that may be published
module _ {symbols : ℕ} {es : List Entry} {m : Message} {ms : List Message} (can : CanTakeAll symbols es (m ∷ ms)) where
  pub first_can : CanPublish symbols m
  first_can = All-head (CanPublish symbols) m ms can.each

  pub first_room : HasRoomFor es m
  first_room = subst (λ (es : List Entry). HasRoomFor es m) (sym can.entries_are) (room_for can.published few m) where
    few : (s : ℕ) → messages_of s can.published < 2 ^ 34 - 1
    few s = let sum = count-append s can.published (m ∷ ms) in let most = can.few s in omega (arith, sum, most)

  -- and then the others
  pub rest_can : CanTakeAll symbols (entries_after es m) ms
  rest_can = record {
    each = All-tail (CanPublish symbols) m ms can.each;
    published = can.published ++ m ∷ [];
    entries_are = ap (λ (es : List Entry). entries_after es m) can.entries_are ∙ sym (board-append can.published (m ∷ []));
    few = λ s. subst (λ (all : List Message). messages_of s all < 2 ^ 34 - 1) (sym (append_assoc can.published (m ∷ []) ms)) (can.few s);
  }

-- Answers.

contains_first : (xs : List Entry) (x : Entry) → Contains (x ∷ xs) x
contains_first xs x = (0, omega arith, refl)

contains_behind : (more xs : List Entry) (x : Entry) → Contains xs x → Contains (more ++ xs) x
contains_behind [] xs x has = has
contains_behind (y ∷ more) xs x has = let rest = contains_behind more xs x has in (suc rest.0, omega (arith, rest.1), rest.2)

still : (notes : List (List Entry)) (more answers : List Entry) (e : Entry) → IsAnswer notes answers e → IsAnswer notes (more ++ answers) e
still notes more answers e is = record { among = contains_behind more answers e is.among; told = is.told }

pub still_answered : (notes : List (List Entry)) (more answers : List Entry) (k : ℕ) (row : Row) → IsAnswered notes answers k row → IsAnswered notes (more ++ answers) k row
still_answered notes more answers k row is = record {
  symbol = is.symbol;
  state = still notes more answers _ is.state;
  low = (is.low.0, still notes more answers _ is.low.1);
  high = (is.high.0, still notes more answers _ is.high.1);
}

answer_of : (notes : List (List Entry)) (before answers : List Entry) (e : Entry) → All (λ note. (a : Entry) → IsEntry a note → IsNotAfter e a) notes → IsAnswer notes (before ++ e ∷ answers) e
answer_of notes before answers e told = record { among = contains_behind before (e ∷ answers) e (contains_first answers e); told = told }

-- a row of three answers, the later two of views that have more answers and the same notes
pub row_of : (notes : List (List Entry)) (answers : List Entry) (row : Row) (v w : ℕ)
    → All (λ note. (a : Entry) → IsEntry a note → IsNotAfter (State row.symbol row.shown) a) notes
    → All (λ note. (a : Entry) → IsEntry a note → IsNotAfter (Band row.symbol Low (edge v row.lower)) a) notes
    → All (λ note. (a : Entry) → IsEntry a note → IsNotAfter (Band row.symbol High (edge w row.upper)) a) notes
    → IsAnswered notes (Band row.symbol High (edge w row.upper) ∷ Band row.symbol Low (edge v row.lower) ∷ State row.symbol row.shown ∷ answers) row.symbol row
row_of notes answers row v w state low high =
    let a : Entry = State row.symbol row.shown in
    let b : Entry = Band row.symbol Low (edge v row.lower) in
    let c : Entry = Band row.symbol High (edge w row.upper) in
    record { symbol = refl; state = answer_of notes (c ∷ b ∷ []) answers a state; low = (v, answer_of notes (c ∷ []) (a ∷ answers) b low); high = (w, answer_of notes [] (b ∷ a ∷ answers) c high) }

-- an answer that was told of all messages is what they made last
answer_is_last : (ms : List Message) (answers : List Entry) (e : Entry) → IsAnswer (board_entries ms ∷ []) answers e → All (λ a. IsEntry a (board_entries ms)) answers
    → e ≡ latest (first_of e) (board_entries ms)
answer_is_last ms answers e is all = after_all ms e (All-contains (λ a. IsEntry a (board_entries ms)) answers e all is.among) (All-head (λ note. (a : Entry) → IsEntry a note → IsNotAfter e a) (board_entries ms) [] is.told)

pub row_is_last : (ms : List Message) (answers : List Entry) (k : ℕ) (row : Row) → IsAnswered (board_entries ms ∷ []) answers k row → All (λ a. IsEntry a (board_entries ms)) answers → row ≡ last_row ms k
row_is_last ms answers k row is all =
    let state = ap shown_in (answer_is_last ms answers (State k row.shown) is.state all) in
    let low = ap (λ e. (edge_in e).price) (answer_is_last ms answers (Band k Low (edge is.low.0 row.lower)) is.low.1 all) in
    let high = ap (λ e. (edge_in e).price) (answer_is_last ms answers (Band k High (edge is.high.0 row.upper)) is.high.1 all) in
    λ i. record { symbol = is.symbol i; shown = state i; lower = low i; upper = high i }

-- Rows in order.

-- what holds of each element and of one more
pub each_pushed : {A : Type 0} (P : ℕ → A → Type 0) (xs : List A) (x : A) (n : ℕ) → n ≡ length xs → ((k : ℕ) (y : A) → slice_get xs k ≡ Some y → P k y) → P n x → (k : ℕ) (y : A) → slice_get (xs ++ x ∷ []) k ≡ Some y → P k y
each_pushed P [] x zero e each here zero y at = subst (P 0) (some_same x y at) here
each_pushed P [] x (suc n) e each here k y at = absurd (omega arith)
each_pushed P [] x zero e each here (suc k) y at = absurd (cc)
each_pushed P (z ∷ xs) x n e each here zero y at = each 0 y at
each_pushed P (z ∷ xs) x zero e each here (suc k) y at = absurd (omega arith)
each_pushed P (z ∷ xs) x (suc n) e each here (suc k) y at = each_pushed (λ i. P (suc i)) xs x n (omega arith) (λ i u. each (suc i) u) here k y at

-- so many numbers from the first on
abbrev counted : ℕ → ℕ → List ℕ
counted k zero = []
counted k (suc n) = k ∷ counted (k + 1) n

counted-more : (k n : ℕ) → counted k n ++ (k + n) ∷ [] ≡ counted k (suc n)
counted-more k zero = ap (λ (i : ℕ). i ∷ []) (omega arith)
counted-more k (suc n) = ap (λ (rest : List ℕ). k ∷ rest) (ap (λ (i : ℕ). counted (k + 1) n ++ i ∷ []) (omega arith) ∙ counted-more (k + 1) n)

ids-counted : (n : ℕ) → ids_below n ≡ counted 0 n
ids-counted zero = refl
ids-counted (suc n) = ap (λ (ids : List ℕ). ids ++ n ∷ []) (ids-counted n) ∙ ap (λ (i : ℕ). counted 0 n ++ i ∷ []) (omega arith) ∙ counted-more 0 n

each_is : {A : Type 0} (f : ℕ → A) (k n : ℕ) (xs : List A) → length xs ≡ n → ((i : ℕ) (x : A) → slice_get xs i ≡ Some x → x ≡ f (k + i)) → xs ≡ map f (counted k n)
each_is f k zero [] e each = refl
each_is f k (suc n) [] e each = absurd (omega arith)
each_is f k zero (x ∷ xs) e each = absurd (omega arith)
each_is {A} f k (suc n) (x ∷ xs) e each =
    let first : x ≡ f k = each 0 x refl ∙ ap f (omega arith) in
    let rest = each_is f (k + 1) n xs (omega arith) (λ i y at. each (suc i) y at ∙ ap f (omega arith)) in
    λ j. first j ∷ rest j

-- rows of which each is that of its place
pub all_rows : (f : ℕ → Row) (n : ℕ) (rows : List Row) → length rows ≡ n → ((k : ℕ) (row : Row) → slice_get rows k ≡ Some row → row ≡ f k) → rows ≡ map f (ids_below n)
all_rows f n rows count each = each_is f 0 n rows count (λ i row at. each i row at ∙ ap f (omega arith)) ∙ ap (map f) (sym (ids-counted n))

pub All_end : {A : Type 0} (P : A → Type 0) (xs : List A) (x : A) → All P (xs ++ x ∷ []) → P x
All_end P [] x all = All-head P x [] all
All_end P (y ∷ ys) x all = All_end P ys x (All-tail P y (ys ++ x ∷ []) all)

-- what follows of each element
pub each_more : {A : Type 0} {P Q : A → Type 0} → ((x : A) → P x → Q x) → (xs : List A) → All P xs → All Q xs
each_more {Q = Q} more [] all = All-nil Q
each_more {P = P} {Q = Q} more (x ∷ xs) all = All-cons Q x xs (more x (All-head P x xs all)) (each_more more xs (All-tail P x xs all))
