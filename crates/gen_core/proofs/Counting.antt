-- Messages counted one by one.
use Rattle.std.proofs.Common.{◌≡◌, ℕ, suc, ◌+◌, ◌<◌, ◌≤◌, take, get_or, Bool, true, false, List, [], ◌∷◌, ◌++◌, length, filter, sym, ap, ◌∙◌, append_assoc, arith, length-append}
use Rattle.std.proofs.Math.Seq.{take-suc}
use Rattle.std.proofs.lemmas.List.Elements.{filter-append}
use Rattle.std.proofs.lemmas.List.Sums.{length-filter}
use Rattle.std.proofs.lemmas.List.{append-nil, take_all}
use Rattle.wire_out.specs.declared.message.Message.{Message}
use Rattle.wire_out.specs.declared.message.Stamped.{Stamped}
use Rattle.gen_core.specs.declared.tally.Tally.{Tally}
use Rattle.gen_core.specs.Tallies.{is_listed, is_state, is_band, is_straddle, is_collar, is_release, is_short, is_breaker, is_resume, count_of, tally_of}
use Rattle.gen_core.specs.SummaryLines.{IsSum}
use Rattle.gen_core.specs.InternalTally.{counted}

abbrev bit : Bool → ℕ
bit true = 1
bit false = 0

-- one element more of a list
pub take_one : {X : Type 0} (xs : List X) (i : ℕ) (x : X) → i < length xs → x ≡ get_or xs i x → take (i + 1) xs ≡ take i xs ++ x ∷ []
take_one {X} xs i x lt is =
    let next : i + 1 ≡ suc i = omega arith in
    ap (λ (n : ℕ). take n xs) next ∙ (take-suc xs i x lt ∙ ap (λ (y : X). take i xs ++ y ∷ []) (sym is))

one : (p : Stamped → Bool) (x : Stamped) → length (filter p (x ∷ [])) ≡ bit (p x)
one p x = grind arith

count_more : (is_kind : Message → Bool) (before : List Stamped) (x : Stamped) → count_of is_kind before + bit (is_kind x.message) ≡ count_of is_kind (before ++ x ∷ [])
count_more is_kind before x =
    let p : Stamped → Bool = λ x. is_kind x.message in
    omega (arith, length-filter p before, length-filter p (before ++ x ∷ []), ap length (filter-append p before (x ∷ [])), length-append (filter p before) (filter p (x ∷ [])), one p x)

-- each count by whether the message is of its kind
by_kind : (t : Tally) (m : Message) → counted t m ≡ record {
  messages = t.messages + 1;
  listed = t.listed + bit (is_listed m);
  state = t.state + bit (is_state m);
  band = t.band + bit (is_band m);
  straddle = t.straddle + bit (is_straddle m);
  collar = t.collar + bit (is_collar m);
  release = t.release + bit (is_release m);
  short = t.short + bit (is_short m);
  breaker = t.breaker + bit (is_breaker m);
  resume = t.resume + bit (is_resume m);
}
by_kind t m = λ i. record {
  messages = all i;
  listed = listed i;
  state = state i;
  band = band i;
  straddle = straddle i;
  collar = collar i;
  release = release i;
  short = short i;
  breaker = breaker i;
  resume = resume i;
}
  where
    all : (counted t m).messages ≡ t.messages + 1
    all = grind arith

    listed : (counted t m).listed ≡ t.listed + bit (is_listed m)
    listed = grind arith

    state : (counted t m).state ≡ t.state + bit (is_state m)
    state = grind arith

    band : (counted t m).band ≡ t.band + bit (is_band m)
    band = grind arith

    straddle : (counted t m).straddle ≡ t.straddle + bit (is_straddle m)
    straddle = grind arith

    collar : (counted t m).collar ≡ t.collar + bit (is_collar m)
    collar = grind arith

    release : (counted t m).release ≡ t.release + bit (is_release m)
    release = grind arith

    short : (counted t m).short ≡ t.short + bit (is_short m)
    short = grind arith

    breaker : (counted t m).breaker ≡ t.breaker + bit (is_breaker m)
    breaker = grind arith

    resume : (counted t m).resume ≡ t.resume + bit (is_resume m)
    resume = grind arith

-- the tally of messages, with one more
pub tally_more : (t : Tally) (before : List Stamped) (x : Stamped) → t ≡ tally_of before → counted t x.message ≡ tally_of (before ++ x ∷ [])
tally_more t before x is = ap (λ (t : Tally). counted t x.message) is ∙ (by_kind (tally_of before) x.message ∙ (λ i. record {
  messages = all i;
  listed = count_more is_listed before x i;
  state = count_more is_state before x i;
  band = count_more is_band before x i;
  straddle = count_more is_straddle before x i;
  collar = count_more is_collar before x i;
  release = count_more is_release before x i;
  short = count_more is_short before x i;
  breaker = count_more is_breaker before x i;
  resume = count_more is_resume before x i;
}))
  where
    all : length before + 1 ≡ length (before ++ x ∷ [])
    all = omega (arith, length-append before (x ∷ []))

-- one message more of a list is counted
pub counts_more : (t next : Tally) (before messages : List Stamped) (i : ℕ) (x : Stamped) → i < length messages → x ≡ get_or messages i x → t ≡ tally_of (before ++ take i messages) → next ≡ counted t x.message
    → next ≡ tally_of (before ++ take (i + 1) messages)
counts_more t next before messages i x lt is was counts =
    counts ∙ (tally_more t (before ++ take i messages) x was
    ∙ ap tally_of (append_assoc before (take i messages) (x ∷ []) ∙ ap (λ ms. before ++ ms) (sym (take_one messages i x lt is))))

-- all were counted
pub counts_all : (t : Tally) (before messages : List Stamped) (i : ℕ) → length messages ≤ i → t ≡ tally_of (before ++ take i messages) → t ≡ tally_of (before ++ messages)
counts_all t before messages i ge is = is ∙ ap (λ ms. tally_of (before ++ ms)) (take_all i messages ge)

-- none was counted
pub counts_none : (t : Tally) (before messages : List Stamped) → t ≡ tally_of before → t ≡ tally_of (before ++ take 0 messages)
counts_none t before messages is = is ∙ ap tally_of (sym (append-nil before))

-- the messages are still those of all kinds together
pub sum_more : (t : Tally) (m : Message) → IsSum t → IsSum (counted t m)
sum_more t m sum = grind arith

pub all_more : (t : Tally) (m : Message) → (counted t m).messages ≡ t.messages + 1
all_more t m = grind arith
