-- Lemmas of the stocks that messages list, and of what a reader counts.
use Rattle.std.proofs.Common.{◌≡◌, ℕ, ◌+◌, ◌≤◌, ◌<◌, All, Bool, true, false, List, [], ◌∷◌, length, drop, get_or, refl, arith, sym, ap, ◌∙◌}
use Rattle.std.specs.Prelude.{max, nat_lt, if◌then◌else◌}
use Rattle.std.proofs.lemmas.Bool.Decides.{nat_tests}
use Rattle.std.proofs.lemmas.List.{at_drop_more, drop_all}
use Rattle.std.proofs.lemmas.List.Elements.{All-head, All-tail}
use Rattle.wire_out.specs.declared.message.Message.{Message}
use Rattle.wire_out.specs.declared.message.Message.TheVariants as messages
use Rattle.gateway.specs.declared.reader.Tally.{Tally}
use Rattle.gateway.specs.Listed.{above_listed, stocks_listed}
use Rattle.gateway.specs.Rows.{CanPublish}
use Rattle.gateway.specs.Tallies.{counted, one_more}

above_few : (m : Message) → CanPublish 16384 m → above_listed m ≤ 16384
above_few (messages.Listed s name) can = omega (arith, can.0)
above_few (messages.State s phase) can = omega arith
above_few (messages.Band s cause reference lower upper) can = omega arith
above_few (messages.Straddle s on) can = omega arith
above_few (messages.Collar s round lower upper) can = omega arith
above_few (messages.Release s price) can = omega arith
above_few (messages.Short s kind) can = omega arith
above_few (messages.Breaker level index) can = omega arith
above_few messages.MarketResume can = omega arith

-- messages that a board may publish list no more stocks than it has
pub listed_few : (ms : List Message) → All (CanPublish 16384) ms → stocks_listed ms ≤ 16384
listed_few [] all = omega arith
listed_few (m ∷ ms) all = omega (arith, above_few m (All-head (CanPublish 16384) m ms all), listed_few ms (All-tail (CanPublish 16384) m ms all))

fallen_if : (b : Bool) (more same : ℕ) → b ≡ false → (if b then more else same) ≡ same
fallen_if true more same is = absurd (cc)
fallen_if false more same is = refl

-- a version that did not fall is not counted as one that fell
pub not_fallen : (before version : ℕ) (old new : Tally) → new ≡ counted before version old → before ≤ version → new.fallen ≡ old.fallen
not_fallen before version old new is le = ap (λ (t : Tally). t.fallen) is ∙ fallen_if (nat_lt version before) (one_more old.fallen) old.fallen (grind (arith, nat_tests, le))

-- one message more was seen
pub listed_step : (ms : List Message) (i : ℕ) (x : Message) (old new : ℕ) → i < length ms → x ≡ get_or ms i x → new ≡ max old (above_listed x)
    → max old (stocks_listed (drop i ms)) ≡ stocks_listed ms → max new (stocks_listed (drop (i + 1) ms)) ≡ stocks_listed ms
listed_step ms i x old new lt is grown inv =
    let rest : ℕ = stocks_listed (drop (i + 1) ms) in
    let split : stocks_listed (drop i ms) ≡ max (above_listed x) rest = at_drop_more stocks_listed ms i x lt ∙ ap (λ (y : Message). max (above_listed y) rest) (sym is) in
    omega (arith, grown, split, inv)

-- all messages were seen
pub listed_end : (ms : List Message) (i seen : ℕ) → length ms ≤ i → max seen (stocks_listed (drop i ms)) ≡ stocks_listed ms → seen ≡ stocks_listed ms
listed_end ms i seen le inv = omega (arith, ap stocks_listed (drop_all i ms le), inv)
