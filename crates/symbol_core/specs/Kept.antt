-- What the code does to a stock in an open step, in one equation each. Private words: no public clause cites them.
use Rattle.std.specs.Prelude.{ℕ, Bool, true, false, Option, Some, None, List, [], ◌∷◌, ◌++◌, ◌==◌, if◌then◌else◌, ◌&&◌, ◌||◌, not, is_some, map, unwrap_or, option_map, ◌+◌}
use Rattle.std.specs.Option.{option_map_or}
use Rattle.price_core.specs.declared.quote.Quotation.{Quotation}
use Rattle.session_core.specs.declared.state.Phase.{Phase}
use Rattle.session_core.specs.declared.state.Phase.TheVariants.{Closing, Trading}
use Rattle.session_core.specs.Durations.{five_minutes}
use Rattle.session_core.specs.Times.{in_session, is_closed, in_last_10_minutes}
use Rattle.wire_in.specs.declared.record.Record.{Record}
use Rattle.wire_in.specs.declared.record.Record.TheVariants as in_
use Rattle.wire_out.specs.declared.message.Message.{Message}
use Rattle.wire_out.specs.declared.message.Message.TheVariants as out
use Rattle.wire_out.specs.declared.message.ShortKind.TheVariants.{Carried}
use Rattle.limit_core.specs.Limits.{straddles}
use Rattle.limit_core.specs.Timers.{has_lasted}
use Rattle.pause_core.specs.declared.turning.Brakes.{Brakes}
use Rattle.pause_core.specs.Pauses.{pause}
use Rattle.pause_core.specs.Phases.{is_limit, is_trading}
use Rattle.refprice_core.specs.ReferenceState.{ReferenceState}
use Rattle.reopen_core.specs.declared.auction.Indication.{Indication}
use Rattle.reopen_core.specs.declared.auction.Round.{Round}
use Rattle.reopen_core.specs.declared.auction.Trial.{Trial}
use Rattle.reopen_core.specs.declared.auction.Trial.TheVariants as trial
use Rattle.reopen_core.specs.AuctionState.{AuctionState, begun, with_indication, with_trial}
use Rattle.reopen_core.specs.Trials as trials
use Rattle.rulebook.specs.declared.symbol.Banded.{Banded}
use Rattle.rulebook.specs.Auction.{is_paused, indicated_by, origin_of}
use Rattle.rulebook.specs.Rules.{asks_to_pause, collar, meets, or_else}
use Rattle.rulebook.specs.Symbol.{is_times, opens_before}
use Rattle.symbol_core.specs.declared.state.Kept.{Kept}
use Rattle.symbol_core.specs.declared.state.Run.{Run}
use Rattle.symbol_core.specs.declared.state.Step.{Step}
use Rattle.symbol_core.specs.InStep.{InStep, in_step}
use Rattle.symbol_core.specs.Runs.{run_band, run_begun, run_quote}

abbrev pub quoted_by : ℕ → Record → Option Quotation
quoted_by s (in_.Quote t symbol bid offer x y) = if symbol == s then Some (record { bid = bid; offer = offer }) else None
quoted_by s x = None

-- a run with the quotation that a record is, where it is one
abbrev pub requoted : Option Quotation → Run → Run
requoted quote run = record run { quote = or_else quote run.quote }

-- the kept state with another last quotation of its run
abbrev pub with_quote : Kept → Quotation → Kept
with_quote k quote = record k { run = option_map (requoted (Some quote)) k.run }

abbrev pub begins : Kept → Phase → Bool
begins k p = is_trading p && not (is_limit k.phase)

-- the run that begins with the step
abbrev pub run_of : ℕ → Step → Run
run_of s step = record { reference = record { begun = step.moment; last = None }; quote = quoted_by s step.input; band = None }

abbrev pub turned : InStep → Step → Phase → InStep
turned k step p = record {
  kept = record k.kept {
    phase = p;
    since = step.moment;
    run = if begins k.kept p then Some (run_of k.kept.id step) else k.kept.run;
    auction = None;
  };
  opened = record k.opened {
    left_limit = (is_trading p && is_limit k.kept.phase) || k.opened.left_limit;
    is_fresh = begins k.kept p || k.opened.is_fresh;
  };
}

abbrev pub straddled : InStep → Bool → InStep
straddled k on = in_step (record k.kept { straddling = on }) k.opened

abbrev pub with_auction : InStep → Option AuctionState → InStep
with_auction k auction = in_step (record k.kept { auction = auction }) k.opened

-- an auction begins where the stock is paused in a run that has bands
abbrev pub begins_auction : Kept → Phase → Bool
begins_auction k p = is_paused p && is_some (run_band k)

-- the auction that begins with those bands, and with what the step's record indicates
abbrev pub auction_begun : Kept → Step → Banded → AuctionState
auction_begun k step b =
    let first = begun step.moment (origin_of k.phase) b.bands b.reference in
    record first { indication = indicated_by k.id step.input }

-- an auction in another round
abbrev pub in_round : Round → AuctionState → AuctionState
in_round round auction = record auction { round = round }

-- an auction once a record is taken in, with what it indicates
abbrev pub heard : Option Indication → Option AuctionState → Option AuctionState
heard None auction = auction
heard (Some i) auction = option_map (with_indication i.price i.unmatched) auction

abbrev pub released : InStep → ℕ → InStep
released k price = in_step k.kept (record k.opened { released = Some price })

-- the run's first bands, at an opening trade in its first five minutes, begin the window anew
abbrev pub restarts : Kept → Step → Bool
restarts k step = not (is_some (run_band k)) && opens_before step.day k.id (unwrap_or (run_begun k) 0 + five_minutes) step.input

-- a run's reference price with these bands: those of the time of day leave it
abbrev pub adopting : Step → Banded → ReferenceState → ReferenceState
adopting step b reference =
    record reference { last = if is_times b.cause then reference.last else Some (record { moment = step.moment; price = b.reference }) }

-- a run with these bands
abbrev pub run_banded : Step → Banded → Run → Run
run_banded step b run = record run { reference = adopting step b run.reference; band = Some b }

-- outside a run bands count for nothing
abbrev pub banded : InStep → Step → Banded → InStep
banded k step b =
    in_step (record k.kept { run = option_map (run_banded step b) k.kept.run })
    (record k.opened { is_fresh = (is_some k.kept.run && restarts k.kept step) || k.opened.is_fresh })

-- A rule over what is kept.

abbrev pub becoming : Kept → Phase → List Message
becoming k p = out.State k.id p ∷ []

abbrev pub brakes : Kept → Step → Brakes
brakes k step = record {
  closed = is_closed step.moment step.day;
  in_session = in_session step.moment step.day;
  stopped = step.stopped;
  halted = k.halted;
}

-- the messages of phases, one after the other
abbrev pub states : ℕ → List Phase → List Message
states s phases = map (λ p. out.State s p) phases

-- the message of an auction's last round
abbrev pub collars_of : ℕ → AuctionState → List Message
collars_of s auction = collar s auction.round.number auction.round.collars

abbrev pub pausing_as : Kept → Step → Phase → List Message
pausing_as k step p = becoming k p ++ (if is_paused p then option_map_or (λ b. collars_of k.id (auction_begun k step b)) (run_band k) [] else [])

abbrev pub pause_now : Kept → Step → Option Phase
pause_now k step =
    pause (has_lasted k.since step.moment) (asks_to_pause k.id step.input) k.straddling k.phase (in_last_10_minutes step.moment step.day)

abbrev pub pausing : Kept → Step → List Message
pausing k step = option_map_or (pausing_as k step) (pause_now k step) []

-- what a trial publishes that left the auction like this
abbrev pub reopened : Kept → AuctionState → Trial → List Message
reopened k auction trial.NotDue = []
reopened k auction (trial.Extend collars) = collars_of k.id auction
reopened k auction (trial.Release price) = out.Release k.id price ∷ becoming k Trading
reopened k auction trial.Closing = becoming k Closing

abbrev pub reopening_with : Kept → Step → AuctionState → List Message
reopening_with k step auction =
    let trial = trials.trial step.moment (in_last_10_minutes step.moment step.day) auction.round auction.reference auction.indication in
    reopened k (with_trial step.moment trial auction) trial

abbrev pub reopening : Kept → Step → List Message
reopening k step = option_map_or (reopening_with k step) k.auction []

-- whether it straddles its bands, where that is its quotation
abbrev pub straddles_at : Kept → Option Quotation → Bool
straddles_at k quote = is_trading k.phase && meets straddles quote (run_band k)

abbrev pub is_straddling_now : Kept → Bool
is_straddling_now k = straddles_at k (run_quote k)

abbrev pub straddling : Kept → Step → List Message
straddling k step =
    if is_straddling_now k && not k.straddling then out.Straddle k.id true ∷ []
    else if k.straddling && not (is_straddling_now k) then out.Straddle k.id false ∷ []
    else []

abbrev pub announcing_name : Kept → List ℕ → List Message
announcing_name k name = if k.short.carried then out.Listed k.id name ∷ out.Short k.id Carried ∷ [] else out.Listed k.id name ∷ []

abbrev pub announcing : Kept → Record → List Message
announcing k (in_.Listing t name tier l c) = announcing_name k name
announcing k x = []
