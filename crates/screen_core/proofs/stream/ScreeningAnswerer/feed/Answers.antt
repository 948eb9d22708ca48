use Rattle.std.proofs.Common.{ℕ, ◌+◌, ◌-◌, ◌++◌, List, [], length, take, drop, refl, sym, ap, subst, ◌∙◌}
use Rattle.stream_core.proofs.Sending.{sends_longer, sends_none}
use Rattle.screen_core.specs.Screened.{screen_text}
use Rattle.screen_core.specs.InternalDesk.{HasRoom}
use Rattle.screen_core.specs.InternalScreens.{expects_none}
use Rattle.screen_core.proofs.Reading.{all_of, deal_more, joined, reads_same}
use Rattle.screen_core.proofs.stream.ScreeningAnswerer.feed.Goals as goal

pub read-requires : goal.read-requires
read-requires g c = record { ready = c.requires.ready.screen }

pub returns-clause-reads : goal.returns-clause-reads
returns-clause-reads g c given count knows next = record {
  reads = reads_same (joined count given.input c.args.piece.now next.is) (c.in_ok-read.ensures.reads (take count given.input) knows.reads);
  none = knows.none;
  unsent = knows.unsent;
}

pub returns-clause-runs : goal.returns-clause-runs
returns-clause-runs g c given count knows next =
    sends_longer [] (screen_text given.most given.input) _ refl (sends_none (g.H.Host.outside c.args.host.now) (g.met.H.Host.sent_now c.args.host.now) _ _ (expects_none knows))

pub returns-clause-leaves : goal.returns-clause-leaves
returns-clause-leaves g c given count knows next =
    sends_longer [] (screen_text given.most given.input) _ refl (sends_none (g.H.Host.outside c.args.host.now) (g.met.H.Host.sent_now c.args.host.now) _ _ (expects_none knows))

pub returns-clause-ready : goal.returns-clause-ready
returns-clause-ready g c more ready = record { screen = c.in_ok-read.ensures.ready more ready.screen; room = subst HasRoom (sym c.read.ensures.pages) ready.room }

pub returns-in_err-read-clause-leaves : goal.returns-in_err-read-clause-leaves
returns-in_err-read-clause-leaves g c given count knows next =
    sends_longer [] (screen_text given.most given.input) _ refl (sends_none (g.H.Host.outside c.args.host.now) (g.met.H.Host.sent_now c.args.host.now) _ _ (expects_none knows))

pub returns-in_err-read-clause-starved : goal.returns-in_err-read-clause-starved
returns-in_err-read-clause-starved g c given count knows next failed =
    let piece = c.args.piece.now in
    let behind = count + length piece in
    let more = take (given.most - behind) (drop behind given.input) in
    let whole = ap (λ (read : List ℕ). read ++ more) (joined count given.input piece next.is) ∙ all_of given.most behind given.input next.within in
    (knows.unsent, deal_more (take count given.input ++ piece) more (take given.most given.input) whole (c.in_err-read.ensures.starved (take count given.input) knows.reads))
