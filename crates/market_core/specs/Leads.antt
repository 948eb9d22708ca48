-- The market's part of a market: what it keeps, and how it stands for the list of led records, the newest first.
use Rattle.std.specs.Prelude.{◌≡◌, ℕ, Option, Some, List, [], ◌∷◌, if◌then◌else◌, option_map, position}
use Rattle.std.specs.Option.{option_map_or}
use Rattle.std.specs.Str.{bytes_eq}
use Rattle.wire_in.specs.declared.record.Record.{Record}
use Rattle.wire_in.specs.declared.record.Record.TheVariants as in_
use Rattle.wire_out.specs.declared.message.Message.{Message}
use Rattle.wire_out.specs.declared.message.Stamped.{Stamped}
use Rattle.breaker_core.specs.BreakerState.{started}
use Rattle.rulebook.specs.declared.event.Event.TheVariants.{Accepted}
use Rattle.rulebook.specs.Admission.{last_day, names}
use Rattle.rulebook.specs.Book.{evaluate_market, history}
use Rattle.rulebook.specs.History.{step_messages}
use Rattle.rulebook.specs.Market.{day_record, is_market_halted}
use Rattle.symbol_core.specs.declared.symbol.MarketView.{MarketView}
use Rattle.market_core.specs.declared.lead.Today.{Today}
use Rattle.market_core.specs.AdmissionState.{added, is_full_for}
use Rattle.market_core.specs.MarketState.{MarketState, day_of}
use Rattle.market_core.specs.Ruled.{ruled, ruling}

-- the names ever listed, and the last day with its breakers
pub record LeadState : Type 0 where
  pub directory : List (List ℕ)
  pub today : Option Today

-- the names, the day, its levels and its halt are those that the list gives
pub record IsLed (kept : LeadState) (led : List Record) : Type 0 where
  pub directory : kept.directory ≡ names led
  pub today : kept.today ≡ option_map (day_of led) (day_record led)

-- the market's part of what a market keeps
abbrev pub lead_of : MarketState → LeadState
lead_of market = record { directory = market.directory; today = market.today }

-- the market's messages at the newest record: what the market-wide rules publish in its step
abbrev pub market_messages : List Record → List Stamped
market_messages [] = []
market_messages (x ∷ earlier) = step_messages (evaluate_market x (Accepted x ∷ history earlier))

-- what the market is to its symbols: the last day, and whether a market-wide halt is in effect
abbrev pub market_view : List Record → Option MarketView
market_view accepted = option_map (λ day. record { day = day; stopped = is_market_halted (history accepted) }) (last_day accepted)

-- What is kept after one more record.

-- with a name that is new and finds room behind the others
abbrev pub with_listed : List (List ℕ) → List ℕ → List (List ℕ)
with_listed directory name = if is_full_for directory name then directory else added directory (position (bytes_eq name) directory) name

abbrev pub directory_led : Record → List (List ℕ) → List (List ℕ)
directory_led (in_.Listing t name k l c) directory = with_listed directory name
directory_led x directory = directory

abbrev pub today_led : Record → Option Today → Option Today
today_led (in_.Day t d c) today = Some (record { day = d; breaker = started c })
today_led x today = option_map (ruled x) today

abbrev pub led : Record → LeadState → LeadState
led x kept = record { directory = directory_led x kept.directory; today = today_led x kept.today }

-- what the market-wide rules publish, where a day has begun
abbrev pub rulings : Record → Option Today → List Message
rulings x today = option_map_or (ruling x) today []
