-- What an audit keeps of the frames that it has taken, and how it represents them.
use Rattle.std.specs.Prelude.{◌≡◌, ℕ, Bool, true, false, Option, Some, None, List, [], ◌∷◌, ◌+◌, ◌==◌, nat_lt, nat_le, max, if◌then◌else◌, not, ◌&&◌, is_none, length, slice_get, unwrap_or}
use Rattle.std.specs.Option.{option_map_or}
use Rattle.wire_out.specs.declared.message.Message.{Message}
use Rattle.wire_out.specs.declared.message.Message.TheVariants as out
use Rattle.wire_out.specs.declared.message.Stamped.{Stamped}
use Rattle.wire_out.specs.declared.message.Frame.{Frame}
use Rattle.wire_out.specs.declared.message.Frame.TheVariants.{Numbered, Refused}
use Rattle.breaker_core.specs.declared.breaker.Halt.{Halt}
use Rattle.breaker_core.specs.Levels.{percent_of, ends}
use Rattle.audit_core.specs.declared.stock.Stock.{Stock}
use Rattle.audit_core.specs.declared.stock.LastMessage.TheVariants.{Other}
use Rattle.audit_core.specs.Laws.{speaks_of, is_so_if, halt_before, greatest_before}
use Rattle.audit_core.specs.Clean.{said}
use Rattle.audit_core.specs.Stocks.{stock_after, limits_by, references_by, bands_by, auctions_by, with_message}

-- nothing was said of a symbol
abbrev pub silent : Stock
silent = record { state = None; bands = None; adopted = None; round = None; last = Other }

-- how many messages came, the moment of the last one, the halt in effect, the greatest level declared, the symbols by their
-- ids, and whether no law was broken
pub record AuditState : Type 0 where
  pub count : ℕ
  pub newest : Option ℕ
  pub halt : Option Halt
  pub greatest : ℕ
  pub stocks : List Stock
  pub clean : Bool

-- what is kept of s in a list by ids
abbrev pub stock_at : List Stock → ℕ → Stock
stock_at stocks s = unwrap_or (slice_get stocks s) silent

-- the moment of the newest of these
abbrev pub newest_moment : List Stamped → Option ℕ
newest_moment [] = None
newest_moment (m ∷ earlier) = Some m.moment

-- an audit represents the frames that it has taken, the newest first
pub record Represents (a : AuditState) (frames : List Frame) : Type 0 where
  pub count : a.count ≡ length (said frames)
  pub newest : a.newest ≡ newest_moment (said frames)
  pub halt : a.halt ≡ halt_before (said frames)
  pub greatest : a.greatest ≡ greatest_before (said frames)
  pub stocks : (s : ℕ) → stock_at a.stocks s ≡ stock_after s (said frames)

-- The laws over what is kept.

abbrev pub order_by : Option ℕ → ℕ → Bool
order_by newest t = is_so_if (λ last. nat_le last t) newest

abbrev pub breakers_by : Option Halt → ℕ → ℕ → Message → Bool
breakers_by halt greatest t (out.Breaker level index) = nat_lt greatest (percent_of level) && is_none halt
breakers_by halt greatest t out.MarketResume = ends t halt
breakers_by halt greatest t m = true

-- what is kept of the symbol of a message
abbrev pub stock_for : AuditState → Message → Stock
stock_for a m = option_map_or (stock_at a.stocks) (speaks_of m) silent

-- the least law that a message of a number breaks, or none
abbrev pub law_of_message : AuditState → ℕ → ℕ → Message → Option ℕ
law_of_message a number t m =
    if not (number == a.count + 1) then Some 1
    else if not (order_by a.newest t) then Some 2
    else if not (limits_by (stock_for a m) t m) then Some 3
    else if not (references_by (stock_for a m) t m) then Some 4
    else if not (bands_by (stock_for a m) t m) then Some 5
    else if not (auctions_by (stock_for a m) t m) then Some 6
    else if not (breakers_by a.halt a.greatest t m) then Some 7
    else None

-- the least law that a frame breaks, or none
abbrev pub law_by : AuditState → Frame → Option ℕ
law_by a (Numbered number m) = law_of_message a number m.moment m.message
law_by a (Refused place code field) = None
law_by a f = Some 1

-- the halt in effect behind a message
abbrev pub halt_with : ℕ → Message → Option Halt → Option Halt
halt_with t m old = elim m [ out.Breaker level index ↦ Some (record { level = level; since = t }) | out.MarketResume ↦ None | other ↦ old ]

-- the greatest level declared behind a message
abbrev pub greatest_with : Message → ℕ → ℕ
greatest_with m old = elim m [ out.Breaker level index ↦ max (percent_of level) old | other ↦ old ]

-- a message is kept of its symbol alone
pub record KeepsStock (t : ℕ) (m : Message) (old new : List Stock) : Type 0 where
  pub own : (s : ℕ) → speaks_of m ≡ Some s → stock_at new s ≡ with_message t m (stock_at old s)
  pub others : (s : ℕ) → option_map_or (λ symbol. symbol == s) (speaks_of m) false ≡ false → stock_at new s ≡ stock_at old s

-- a message is kept: with its symbol, and nothing else changes
pub record Keeps (m : Stamped) (old new : AuditState) : Type 0 where
  pub count : new.count ≡ old.count + 1
  pub newest : new.newest ≡ Some m.moment
  pub halt : new.halt ≡ halt_with m.moment m.message old.halt
  pub greatest : new.greatest ≡ greatest_with m.message old.greatest
  pub stocks : KeepsStock m.moment m.message old.stocks new.stocks
  pub clean : new.clean ≡ old.clean

-- an audit has taken a frame
pub record HasTaken (f : Frame) (old new : AuditState) : Type 0 where
  pub passed : said (f ∷ []) ≡ [] → new ≡ old
  pub kept : (number : ℕ) (m : Stamped) → f ≡ Numbered number m → Keeps m old new
