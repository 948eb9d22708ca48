use Rattle.std.proofs.Common.{length}
use Rattle.afresh_core.proofs.rules.+publish.Given as goal

abbrev pub decreases-publish : goal.decreases-publish
decreases-publish l = length l.messages.now
