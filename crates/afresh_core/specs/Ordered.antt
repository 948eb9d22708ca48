-- A symbol and its rules, as the definitions have them.
use Rattle.std.specs.Prelude.{List}
use Rattle.wire_out.specs.declared.message.Message.{Message}
use Rattle.rulebook.specs.Book.{Named}
use Rattle.rulebook.specs.Rules as rules
use Rattle.rulebook.specs.Rules.{Context}
use Rattle.afresh_core.specs.declared.rules.Named as code
use Rattle.afresh_core.specs.declared.rules.Rule.{Rule}
use Rattle.afresh_core.specs.declared.rules.Rule.TheVariants as rule
use Rattle.history_core.specs.Names.{own_in}

-- a symbol, as the definitions have it
abbrev pub named_in : code.Named → Named
named_in s = record { symbol = s.symbol; own = own_in s.names.now s.symbol }

-- the rule of the definitions
abbrev pub rule_of : Rule → Context → List Message
rule_of rule.SessionClose = rules.session_close
rule_of rule.MarketHalt = rules.market_halt
rule_of rule.Start = rules.start
rule_of rule.RegulatoryHalt = rules.regulatory_halt
rule_of rule.Pause = rules.pause
rule_of rule.Reopen = rules.reopen
rule_of rule.LeaveLimit = rules.leave_limit
rule_of rule.PublishBand = rules.publish_band
rule_of rule.EnterLimit = rules.enter_limit
rule_of rule.Straddle = rules.straddle
rule_of rule.Restrict = rules.restrict
