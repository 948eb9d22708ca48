-- An audit that represents frames finds the law that they make the next frame break, and represents them with it.
use Rattle.std.proofs.Common.{◌≡◌, ℕ, ◌+◌, Bool, true, false, cond, List, [], ◌∷◌, Option, Some, None, not, refl, sym, ap, subst, ◌∙◌, arith}
use Rattle.std.specs.Prelude.{◌==◌, ◌<◌, length, slice_set}
use Rattle.std.specs.Option.{option_map_or}
use Rattle.std.proofs.lemmas.Bool.Decides.{nat_tests}
use Rattle.std.proofs.lemmas.List.{get_or-set_other, get_or-set_same}
use Rattle.std.proofs.lemmas.Option.{unwrap_or-slice_get}
use Rattle.wire_out.specs.declared.message.Message.{Message}
use Rattle.wire_out.specs.declared.message.Message.TheVariants as out
use Rattle.wire_out.specs.declared.message.Stamped.{Stamped}
use Rattle.wire_out.specs.declared.message.Frame.{Frame}
use Rattle.wire_out.specs.declared.message.Frame.TheVariants.{Hello, Numbered, Ack, Refused}
use Rattle.audit_core.specs.declared.stock.Stock.{Stock}
use Rattle.audit_core.specs.Laws.{speaks_of, comes_in_order, keeps_limits, keeps_references, keeps_bands, keeps_auctions, keeps_breakers, halt_before, greatest_before}
use Rattle.audit_core.specs.Clean.{said, law_broken}
use Rattle.audit_core.specs.Stocks.{stock_after, with_message, limits_by, references_by, bands_by, auctions_by}
use Rattle.audit_core.specs.Audits.{silent, AuditState, law_of_message, stock_at, newest_moment, Represents, order_by, breakers_by, stock_for, law_by, halt_with, greatest_with, Keeps, HasTaken}
use Rattle.audit_core.proofs.StockLaws.{limits-exact, references-exact, bands-exact, collar-exact, release-exact, state-exact, stock-own, stock-aside}

-- The laws over what is kept are those over the messages before.

abbrev stock_before : List Stamped → Message → Stock
stock_before ms m = option_map_or (λ s. stock_after s ms) (speaks_of m) silent

order-kept : (ms : List Stamped) (t : ℕ) (m : Message) → order_by (newest_moment ms) t ≡ comes_in_order ms t m
order-kept [] t m = refl
order-kept (last ∷ ms) t m = refl

-- what the laws of a symbol say of its kept values
record SameLaws (ms : List Stamped) (t : ℕ) (m : Message) : Type 0 where
  limits : limits_by (stock_before ms m) t m ≡ keeps_limits ms t m
  references : references_by (stock_before ms m) t m ≡ keeps_references ms t m
  bands : bands_by (stock_before ms m) t m ≡ keeps_bands ms t m
  auctions : auctions_by (stock_before ms m) t m ≡ keeps_auctions ms t m
  breakers : breakers_by (halt_before ms) (greatest_before ms) t m ≡ keeps_breakers ms t m

same_laws : (ms : List Stamped) (t : ℕ) (m : Message) → SameLaws ms t m
same_laws ms t (out.Listed s name) = record { limits = refl; references = refl; bands = refl; auctions = refl; breakers = refl }
same_laws ms t (out.State s p) = record { limits = limits-exact s p t ms; references = refl; bands = refl; auctions = state-exact s p t ms; breakers = refl }
same_laws ms t (out.Band s why reference lower upper) = record {
  limits = refl;
  references = references-exact s why reference lower upper t ms;
  bands = bands-exact s why reference lower upper t ms;
  auctions = refl;
  breakers = refl;
}
same_laws ms t (out.Straddle s on) = record { limits = refl; references = refl; bands = refl; auctions = refl; breakers = refl }
same_laws ms t (out.Collar s round lower upper) = record { limits = refl; references = refl; bands = refl; auctions = collar-exact s round lower upper t ms; breakers = refl }
same_laws ms t (out.Release s price) = record { limits = refl; references = refl; bands = refl; auctions = release-exact s price t ms; breakers = refl }
same_laws ms t (out.Short s kind) = record { limits = refl; references = refl; bands = refl; auctions = refl; breakers = refl }
same_laws ms t (out.Breaker level index) = record { limits = refl; references = refl; bands = refl; auctions = refl; breakers = refl }
same_laws ms t out.MarketResume = record { limits = refl; references = refl; bands = refl; auctions = refl; breakers = refl }

stock-same : (a : AuditState) (frames : List Frame) → Represents a frames → (m : Message) → stock_for a m ≡ stock_before (said frames) m
stock-same a frames r m = by (speaks_of m) where
  by : (o : Option ℕ) → option_map_or (stock_at a.stocks) o silent ≡ option_map_or (λ s. stock_after s (said frames)) o silent
  by None = refl
  by (Some s) = r.stocks s

-- the law that an audit finds is the least that the frame breaks
pub law-exact : (a : AuditState) (frames : List Frame) (f : Frame) → Represents a frames → law_by a f ≡ law_broken frames f
law-exact a frames (Numbered number m) r =
    let ms = said frames in
    let t = m.moment in
    let same = same_laws ms t m.message in
    let stock = stock-same a frames r m.message in
    λ i. cond (not (number == r.count i + 1)) (Some 1)
    (cond (not ((ap (λ newest. order_by newest t) r.newest ∙ order-kept ms t m.message) i)) (Some 2)
    (cond (not ((ap (λ kept. limits_by kept t m.message) stock ∙ same.limits) i)) (Some 3)
    (cond (not ((ap (λ kept. references_by kept t m.message) stock ∙ same.references) i)) (Some 4)
    (cond (not ((ap (λ kept. bands_by kept t m.message) stock ∙ same.bands) i)) (Some 5)
    (cond (not ((ap (λ kept. auctions_by kept t m.message) stock ∙ same.auctions) i)) (Some 6)
    (cond (not (((λ j. breakers_by (r.halt j) (r.greatest j) t m.message) ∙ same.breakers) i)) (Some 7) None))))))
law-exact a frames (Refused place code field) r = refl
law-exact a frames (Hello inputs messages) r = refl
law-exact a frames (Ack input) r = refl

-- What is kept after one more message.

equals : (a b : ℕ) → (a == b) ≡ true → a ≡ b
equals a b e = grind (arith, nat_tests)

stock-kept : (m : Stamped) (old new : AuditState) (ms : List Stamped) → Keeps m old new → ((s : ℕ) → stock_at old.stocks s ≡ stock_after s ms) → (s : ℕ) → stock_at new.stocks s ≡ stock_after s (m ∷ ms)
stock-kept m old new ms k before s = by (speaks_of m.message) refl where
  other : option_map_or (λ symbol. symbol == s) (speaks_of m.message) false ≡ false → stock_at new.stocks s ≡ stock_after s (m ∷ ms)
  other e = k.stocks.others s e ∙ before s ∙ sym (stock-aside s m.moment ms m.message e)

  named : (symbol : ℕ) (is : Bool) → speaks_of m.message ≡ Some symbol → (symbol == s) ≡ is → stock_at new.stocks s ≡ stock_after s (m ∷ ms)
  named symbol true speaks e =
      let own : speaks_of m.message ≡ Some s = speaks ∙ ap (λ (n : ℕ). Some n) (equals symbol s e) in
      k.stocks.own s own ∙ ap (with_message m.moment m.message) (before s) ∙ sym (stock-own s m.moment ms m.message own)
  named symbol false speaks e = other (ap (λ (o : Option ℕ). option_map_or (λ n. n == s) o false) speaks ∙ e)

  by : (o : Option ℕ) → speaks_of m.message ≡ o → stock_at new.stocks s ≡ stock_after s (m ∷ ms)
  by None speaks = other (ap (λ (o : Option ℕ). option_map_or (λ n. n == s) o false) speaks)
  by (Some symbol) speaks = named symbol (symbol == s) speaks refl

message-kept : (number : ℕ) (m : Stamped) (old new : AuditState) (frames : List Frame) → Keeps m old new → Represents old frames → Represents new (Numbered number m ∷ frames)
message-kept number m old new frames k r = record {
  count = k.count ∙ (let e = r.count in omega arith);
  newest = k.newest;
  halt = k.halt ∙ ap (halt_with m.moment m.message) r.halt;
  greatest = k.greatest ∙ ap (greatest_with m.message) r.greatest;
  stocks = stock-kept m old new (said frames) k r.stocks;
}

-- an audit that has taken a frame represents it and those before it
pub taken-represents : (f : Frame) (old new : AuditState) (frames : List Frame) → HasTaken f old new → Represents old frames → Represents new (f ∷ frames)
taken-represents (Numbered number m) old new frames taken r = message-kept number m old new frames (taken.kept number m refl) r
taken-represents (Refused place code field) old new frames taken r =
    subst (λ (a : AuditState). Represents a (Refused place code field ∷ frames)) (sym (taken.passed refl)) (record { count = r.count; newest = r.newest; halt = r.halt; greatest = r.greatest; stocks = r.stocks })
taken-represents (Hello inputs messages) old new frames taken r =
    subst (λ (a : AuditState). Represents a (Hello inputs messages ∷ frames)) (sym (taken.passed refl)) (record { count = r.count; newest = r.newest; halt = r.halt; greatest = r.greatest; stocks = r.stocks })
taken-represents (Ack input) old new frames taken r =
    subst (λ (a : AuditState). Represents a (Ack input ∷ frames)) (sym (taken.passed refl)) (record { count = r.count; newest = r.newest; halt = r.halt; greatest = r.greatest; stocks = r.stocks })

-- the number of a message that breaks no law is the next one
pub next-number : (a : AuditState) (number t : ℕ) (m : Message) → law_of_message a number t m ≡ None → number ≡ a.count + 1
next-number a number t m none = equals number (a.count + 1) (is_next (number == a.count + 1) _ none) where
  is_next : (b : Bool) (rest : Option ℕ) → cond (not b) (Some 1) rest ≡ None → b ≡ true
  is_next true rest e = refl
  is_next false rest e = absurd cc

pub set-own : (stocks : List Stock) (s : ℕ) (stock : Stock) → s < length stocks → stock_at (slice_set stocks s stock) s ≡ stock
set-own stocks s stock within = unwrap_or-slice_get (slice_set stocks s stock) s silent ∙ get_or-set_same stocks s stock silent within

pub set-aside : (stocks : List Stock) (s n : ℕ) (stock : Stock) → (s == n) ≡ false → stock_at (slice_set stocks s stock) n ≡ stock_at stocks n
set-aside stocks s n stock apart =
    unwrap_or-slice_get (slice_set stocks s stock) n silent
    ∙ get_or-set_other stocks s n stock silent (λ same. let yes : (s == n) ≡ true = (grind (arith, nat_tests)) in let no : true ≡ false = sym yes ∙ apart in cc)
    ∙ sym (unwrap_or-slice_get stocks n silent)
