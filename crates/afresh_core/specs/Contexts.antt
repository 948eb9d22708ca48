-- What the rules of one symbol read, as the definitions have it.
use Rattle.rulebook.specs.Rules as rules
use Rattle.afresh_core.specs.declared.context.Context.{Context}
use Rattle.history_core.specs.Names.{own_in}

-- what the rules read, as the definitions have it
abbrev pub context_of : Context → rules.Context
context_of c = record {
  history = c.history.now;
  symbol = c.symbol;
  own = own_in c.names.now c.symbol;
  newest = c.newest;
  moment = c.moment;
  day = c.day;
}
