use Rattle.std.proofs.Common.{◌≡◌, ℕ, ◌+◌, ◌++◌, List, length, take, drop, refl, sym, ap, ◌∙◌, arith}
use Rattle.std.proofs.Math.Seq.{take-add}
use Rattle.stream_core.proofs.Pending.{on_ok, whenever_ok}
use Rattle.stream_core.proofs.Sending.{sends_same}
use Rattle.stream_core.proofs.Pieces.{sends_exchange, sends_leave}
use Rattle.text_core.specs.Streams.{text_for}
use Rattle.text_core.proofs.Answering.{reads_same, sends_more}
use Rattle.text_core.proofs.Reading.{within_prefix}
use Rattle.text_core.proofs.Units.{not_true}
use Rattle.text_core.proofs.stream.TranslationAnswerer.feed.Goals as goal

-- the bytes that were read, and the piece behind them
joined : (count : ℕ) (input piece : List ℕ) → take (length piece) (drop count input) ≡ piece → take count input ++ piece ≡ take (count + length piece) input
joined count input piece is = ap (λ (b : List ℕ). take count input ++ b) (sym is) ∙ sym (take-add count (length piece) input)

pub feed-requires : goal.feed-requires
feed-requires g c = record { «open» = not_true _ c.requires.goes_on; few = c.requires.ready }

pub returns-clause-reads : goal.returns-clause-reads
returns-clause-reads g c given count translates next =
    let prefix = within_prefix given.task given.most given.input given.kind (count + length c.args.piece.now) next.within in
    let reads = rw (translates.task_is, translates.kind_is) at (c.feed.ensures.reads given.begin (take count given.input)) in
    on_ok c.feed.result (reads translates.reads) (λ read. record {
      task_is = translates.task_is;
      kind_is = translates.kind_is;
      reads = reads_same (joined count given.input c.args.piece.now next.is) read;
      more = prefix.more;
      whole = prefix.whole;
    })

pub returns-clause-leaves : goal.returns-clause-leaves
returns-clause-leaves g c given count translates next =
    let moments = rw (translates.task_is, translates.kind_is) at (c.feed.ensures.moments given.begin (take count given.input)) in
    sends_more (within_prefix given.task given.most given.input given.kind (count + length c.args.piece.now) next.within)
    (sends_same _ _ (ap (text_for given.task given.kind) (joined count given.input c.args.piece.now next.is)) (moments translates.reads))

pub returns-clause-runs : goal.returns-clause-runs
returns-clause-runs g c given count translates next = whenever_ok c.feed.result (returns-clause-leaves g c given count translates next)

pub returns-clause-does : goal.returns-clause-does
returns-clause-does g c = record { same = refl; keeps = sends_exchange c.feed.ensures.outside.keeps }

pub returns-clause-keeps : goal.returns-clause-keeps
returns-clause-keeps g c = sends_leave c.feed.ensures.outside.keeps

pub returns-clause-ready : goal.returns-clause-ready
returns-clause-ready g c more ready = on_ok c.feed.result c.feed.ensures.few (λ few. omega (arith, few, ready))
