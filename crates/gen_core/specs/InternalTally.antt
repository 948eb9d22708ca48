-- A tally with one message more. Private words: no public clause cites them.
use Rattle.std.specs.Prelude.{◌+◌}
use Rattle.wire_out.specs.declared.message.Message.{Message}
use Rattle.wire_out.specs.declared.message.Message.TheVariants.{Listed, State, Band, Straddle, Collar, Release, Short, Breaker, MarketResume}
use Rattle.gen_core.specs.declared.tally.Tally.{Tally}

abbrev pub counted : Tally → Message → Tally
counted t (Listed s name) = record t { messages = t.messages + 1; listed = t.listed + 1 }
counted t (State s p) = record t { messages = t.messages + 1; state = t.state + 1 }
counted t (Band s c r l u) = record t { messages = t.messages + 1; band = t.band + 1 }
counted t (Straddle s on) = record t { messages = t.messages + 1; straddle = t.straddle + 1 }
counted t (Collar s n l u) = record t { messages = t.messages + 1; collar = t.collar + 1 }
counted t (Release s p) = record t { messages = t.messages + 1; release = t.release + 1 }
counted t (Short s k) = record t { messages = t.messages + 1; short = t.short + 1 }
counted t (Breaker v i) = record t { messages = t.messages + 1; breaker = t.breaker + 1 }
counted t MarketResume = record t { messages = t.messages + 1; resume = t.resume + 1 }
