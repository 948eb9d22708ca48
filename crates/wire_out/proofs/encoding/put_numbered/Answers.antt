use Rattle.wire_out.specs.declared.message.Frame.TheVariants.{Numbered}
use Rattle.wire_out.proofs.RoundTrip.{body_again}
use Rattle.wire_out.proofs.encoding.put_numbered.Goals as goal

pub returns-clause-read : goal.returns-clause-read
returns-clause-read c = λ in_range.
    body_again (Numbered c.args.number c.args.stamped.now) (c.ranges.number.fits, c.put_message.ensures.moment, c.put_message.ensures.types) in_range
