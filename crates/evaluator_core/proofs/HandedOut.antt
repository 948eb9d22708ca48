-- The messages of the oldest record of a block are those that the rest of what it gave begins with.
use Rattle.std.proofs.Common.{◌≡◌, ◌≢◌, ℕ, zero, suc, ◌+◌, ◌%◌, ◌<◌, ◌≤◌, List, [], ◌∷◌, ◌++◌, length, map, take, drop, refl, sym, ap, subst, ◌∙◌, arith}
use Rattle.std.proofs.lemmas.Bool.Decides.{nat_tests}
use Rattle.std.proofs.lemmas.List.{drop_at, take_at}
use Rattle.wire_in.specs.declared.record.Record.{Record}
use Rattle.wire_out.specs.declared.message.Stamped.{Stamped}
use Rattle.rulebook.specs.Book.{newest_messages}
use Rattle.merge_core.specs.declared.tagged.Tagged.{Tagged}
use Rattle.shard_core.specs.Block as blocks
use Rattle.shard_core.specs.Block.{ShardsState, followed, given_from, tagged}
use Rattle.evaluator_core.specs.AheadState.{AheadState, IsAheadOf}
use Rattle.evaluator_core.specs.Leading.{leading}

pub leading-same : (index : ℕ) (message : Tagged) (later : List Tagged) → message.input ≡ index → leading index (message ∷ later) ≡ suc (leading index later)
leading-same index message later is = grind (arith, nat_tests)

pub leading-other : (index : ℕ) (message : Tagged) (later : List Tagged) → message.input ≢ index → leading index (message ∷ later) ≡ 0
leading-other index message later not = grind (arith, nat_tests)

-- a record's messages, where those behind them are of other records
pub leading-tagged : (index : ℕ) (said : List Stamped) (later : List Tagged) → leading index later ≡ 0 → leading index (tagged index said ++ later) ≡ length said
leading-tagged index [] later none = none
leading-tagged index (message ∷ said) later none =
    leading-same index (record { input = index; stamped = message }) (tagged index said ++ later) refl ∙ ap suc (leading-tagged index said later none)

tagged-other : (index k : ℕ) (said : List Stamped) (later : List Tagged) → index < k → leading index later ≡ 0 → leading index (tagged k said ++ later) ≡ 0
tagged-other index k [] later before none = none
tagged-other index k (message ∷ said) later before none =
    leading-other index (record { input = k; stamped = message }) (tagged k said ++ later) (λ is. omega (arith, is))

-- no message of a later record is of this one
pub leading-given : (index k : ℕ) (applied xs : List Record) → index < k → leading index (given_from k applied xs) ≡ 0
leading-given index k applied [] before = refl
leading-given index k applied (x ∷ xs) before =
    tagged-other index k (newest_messages (x ∷ applied)) (given_from (suc k) (x ∷ applied) xs) before (leading-given index (suc k) (x ∷ applied) xs (omega arith))

-- without its index each message is as it was
stamps : (index : ℕ) (said : List Stamped) → map (λ (message : Tagged). message.stamped) (tagged index said) ≡ said
stamps index [] = refl
stamps index (message ∷ said) = ap (λ (later : List Stamped). message ∷ later) (stamps index said)

length-tagged : (index : ℕ) (said : List Stamped) → length (tagged index said) ≡ length said
length-tagged index [] = refl
length-tagged index (message ∷ said) = ap suc (length-tagged index said)

-- what a record gives, and what is left behind it
pub record HandsOut (count index : ℕ) (left : List Tagged) (x : Record) (applied later : List Record) : Type 0 where
  pub said : map (λ (message : Tagged). message.stamped) (take count left) ≡ newest_messages (x ∷ applied)
  pub rest : drop count left ≡ given_from (suc index) (x ∷ applied) later

pub hands_out : (count index : ℕ) (left : List Tagged) (x : Record) (applied later : List Record) → count ≡ leading index left → left ≡ given_from index applied (x ∷ later)
    → HandsOut count index left x applied later
hands_out count index left x applied later is gives =
    let said = newest_messages (x ∷ applied) in
    let rest = given_from (suc index) (x ∷ applied) later in
    let many : count ≡ length (tagged index said) =
    is ∙ ap (leading index) gives ∙ leading-tagged index said rest (leading-given index (suc index) (x ∷ applied) later (omega arith)) ∙ sym (length-tagged index said) in record {
      said = ap (λ (ms : List Tagged). map (λ (message : Tagged). message.stamped) (take count ms)) gives
          ∙ ap (map (λ (message : Tagged). message.stamped)) ((take_at (tagged index said) rest count (sym many))) ∙ stamps index said;
      rest = ap (drop count) gives ∙ drop_at (tagged index said) rest count (sym many);
    }

pub leading-within : (index : ℕ) (messages : List Tagged) → leading index messages ≤ length messages
leading-within index [] = omega arith
leading-within index (message ∷ later) = let within = leading-within index later in grind (arith, nat_tests)

nothing_is : {X : Type 0} (x : X) (later : List X) → [] ≡ x ∷ later → ⊥
nothing_is x later is = cc

-- the first of what is left behind an index is handed out
behind : {X : Type 0} (n : ℕ) (xs : List X) (x : X) (later : List X) → drop n xs ≡ x ∷ later → (n < length xs) × (drop (suc n) xs ≡ later)
behind zero [] x later is = absurd (nothing_is x later is)
behind zero (y ∷ ys) x later is = (omega arith, cc)
behind (suc n) [] x later is = absurd (nothing_is x later is)
behind (suc n) (y ∷ ys) x later is = let next = behind n ys x later is in (omega (arith, next.0), next.1)

-- an index in a block is counted on without a wrap
pub next_index : {X : Type 0} (index : ℕ) (xs : List X) (x : X) (later : List X) → length xs ≤ 65536 → drop index xs ≡ x ∷ later → (index + 1) % 4294967296 ≡ suc index
next_index index xs x later few is = let next = behind index xs x later is in omega (arith, next.0)

pub next_ahead : {X : Type 0} (index : ℕ) (xs : List X) (x : X) (later : List X) → length xs ≤ 65536 → drop index xs ≡ x ∷ later → drop ((index + 1) % 4294967296) xs ≡ later
next_ahead index xs x later few is = ap (λ (n : ℕ). drop n xs) (next_index index xs x later few is) ∙ (behind index xs x later is).1

-- a block without the messages of its oldest record
abbrev pub without_first : AheadState → AheadState
without_first block = record block { left = drop (leading block.index block.left) block.left }

pub nothing_first : (block : AheadState) → leading block.index block.left ≡ 0 → block ≡ without_first block
nothing_first block none = ap (λ (n : ℕ). record block { left = drop n block.left }) (sym none)

-- the messages of the oldest record that is ahead are handed out
pub says : (block : AheadState) (x : Record) (applied later : List Record) → block.ahead ≡ x ∷ later → IsAheadOf block applied
    → map (λ (message : Tagged). message.stamped) (take (leading block.index block.left) block.left) ≡ newest_messages (x ∷ applied)
says block x applied later oldest ahead = (hands_out (leading block.index block.left) block.index block.left x applied later refl (ahead.left ∙ ap (given_from block.index applied) oldest)).said

-- and the record counts as evaluated then
pub goes_on : (shards : ShardsState) (index : ℕ) (records : List Record) (left : List Tagged) (block : AheadState) (x : Record) (applied later : List Record) → length records ≤ 65536
    → record { shards = shards; index = index; ahead = drop index records; left = left } ≡ without_first block → block.ahead ≡ x ∷ later → IsAheadOf block applied
    → IsAheadOf (record { shards = shards; index = (index + 1) % 4294967296; ahead = drop ((index + 1) % 4294967296) records; left = left }) (x ∷ applied)
goes_on shards index records left block x applied later few is oldest ahead =
    let rest = (hands_out (leading block.index block.left) block.index block.left x applied later refl (ahead.left ∙ ap (given_from block.index applied) oldest)).rest in
    let next = next_index index records x later few (ap (λ (b : AheadState). b.ahead) is ∙ oldest) in
    let later_is = next_ahead index records x later few (ap (λ (b : AheadState). b.ahead) is ∙ oldest) in
    let stood : blocks.Represents block.shards (followed (x ∷ applied) later) = subst (λ (xs : List Record). blocks.Represents block.shards (followed applied xs)) oldest ahead.shards in record {
      shards = subst (λ (s : ShardsState). blocks.Represents s (followed (x ∷ applied) (drop ((index + 1) % 4294967296) records))) (sym (ap (λ (b : AheadState). b.shards) is))
          (subst (λ (xs : List Record). blocks.Represents block.shards (followed (x ∷ applied) xs)) (sym later_is) stood);
      left = ap (λ (b : AheadState). b.left) is ∙ rest ∙ (λ i. given_from ((ap suc (sym (ap (λ (b : AheadState). b.index) is)) ∙ sym next) i) (x ∷ applied) (sym later_is i));
    }
