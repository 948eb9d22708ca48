use Rattle.std.proofs.Common.{◌≡◌, ◌+◌, true, false, length, drop, refl, sym, ◌∙◌, arith}
use Rattle.wire_in.specs.Cutting.{bodies_of, is_frame}
use Rattle.screen_core.specs.Screened.{accepted}
use Rattle.screen_core.specs.InternalScreens.{ready_for}
use Rattle.screen_core.proofs.Applying.{whenever_err}
use Rattle.screen_core.proofs.Reading.{deal_cut, deal_more, deal_whole, part_of, reads_cut, reads_part, reads_whole, taken_rest, whole_of}
use Rattle.screen_core.proofs.stream.Screening.advance.Goals as goal

-- the frame lies whole in the piece

pub returns-in-Some-clause-reads : goal.returns-in-Some-clause-reads
returns-in-Some-clause-reads c read reads =
    let between = c.in-Some.ensures.between refl in
    let none = sym reads.begun ∙ between in
    reads_whole read c.args.piece.now c.in-Some.body.now none c.in-Some.ensures.prefix between (c.in_ok-take.ensures.keeps (accepted (bodies_of read)) reads.keeps)

pub returns-in_err-take-clause-starved : goal.returns-in_err-take-clause-starved
returns-in_err-take-clause-starved c read reads =
    let none = sym reads.begun ∙ c.in-Some.ensures.between refl in
    let body = c.in-Some.body.now in
    whenever_err _
    (deal_more _ (drop (length body + 1) c.args.piece.now) _ (taken_rest read c.args.piece.now (length body + 1))
    (deal_whole read c.args.piece.now body none c.in-Some.ensures.prefix (c.in_err-take.ensures.starved (accepted (bodies_of read)) reads.keeps)))

-- no frame is whole yet

pub returns-then-not-cut-clause-reads : goal.returns-then-not-cut-clause-reads
returns-then-not-cut-clause-reads c read reads =
    let held = c.take-cut.new.self in
    let part : is_frame held ≡ false = part_of c.take-cut.result.whole c.take-cut.ensures.whole c.if-not-cut.true in
    reads_part read _ held (c.take-cut.ensures.goes_on read reads.begun) part refl reads.keeps

pub returns-then-not-cut-clause-ready : goal.returns-then-not-cut-clause-ready
returns-then-not-cut-clause-ready c more ready = ready_for more (1 + more) (omega arith) ready

-- the last bytes of a frame that was begun

pub returns-clause-reads : goal.returns-clause-reads
returns-clause-reads c read reads =
    let held = c.take-cut.new.self in
    let whole : is_frame held ≡ true = whole_of c.take-cut.result.whole c.take-cut.ensures.whole c.if-not-cut.false in
    reads_cut read _ held (c.take-cut.ensures.goes_on read reads.begun) c.body.result.now whole c.body.ensures.frame refl (c.in_ok-take-2.ensures.keeps (accepted (bodies_of read)) reads.keeps)

pub returns-in_err-take-2-clause-starved : goal.returns-in_err-take-2-clause-starved
returns-in_err-take-2-clause-starved c read reads =
    let held = c.take-cut.new.self in
    let used = c.take-cut.result.used in
    let whole : is_frame held ≡ true = whole_of c.take-cut.result.whole c.take-cut.ensures.whole c.if-not-cut.false in
    whenever_err _
    (deal_more _ (drop used c.args.piece.now) _ (taken_rest read c.args.piece.now used)
    (deal_cut read _ held (c.take-cut.ensures.goes_on read reads.begun) c.body.result.now whole c.body.ensures.frame (c.in_err-take-2.ensures.starved (accepted (bodies_of read)) reads.keeps)))
