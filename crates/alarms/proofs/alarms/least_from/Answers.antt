use Rattle.alarms.proofs.Bounded.{least-eight, least-few}
use Rattle.alarms.proofs.alarms.least_from.Goals as goal

pub returns-then-rest-lt-PLACES : goal.returns-then-rest-lt-PLACES
returns-then-rest-lt-PLACES c = least-few c.args.first c.least_of_few.result c.args.numbers.now c.requires c.if-rest-lt-PLACES.true c.least_of_few.ensures

pub returns : goal.returns
returns c = least-eight c.args.first c.least.result c.args.numbers.now c.requires c.if-rest-lt-PLACES.false c.least.ensures
