use Rattle.std.proofs.Common.{◌<◌, ◌≤◌, ℕ, List, length, ap, refl, subst, sym, arith}
use Rattle.std.specs.Prelude.{slice_set}
use Rattle.std.proofs.lemmas.List.{length-set}
use Rattle.std.proofs.lemmas.Option.{slice_get_read}
use Rattle.wire_in.specs.Records.{moment_of}
use Rattle.symbol_core.specs.Rests.{SymbolState}
use Rattle.market_core.specs.Applied.{Appends, AppendsOne}
use Rattle.market_core.specs.Room.{HasRoomAt}
use Rattle.market_core.specs.Sections.{EachIdles, SectionState}
use Rattle.market_core.proofs.Passing.{each-evaluated, each-passed, idles-passed, one-evaluated, says-nothing}
use Rattle.market_core.proofs.Room.{refused, room_of}
use Rattle.market_core.proofs.section.Section.evaluate.Goals as goal

pub invariant_of-self : goal.invariant_of-self
invariant_of-self c =
    let stocks = c.self.inside.symbols.items in
    let index = c.args.index in
    let old = c.index_mut-symbol.result.now in
    let new = c.pass_quote.new.self in
    let since = c.pass.new.since in
    let within : index < length stocks = omega (arith, c.requires.index, ap (λ (section : SectionState). length section.symbols) c.self.view_is) in (
      c.self.invariant.0,
      each-passed c.self.inside.since since c.self.inside.alarms stocks index old new within (slice_get_read stocks (length stocks) index old refl within c.index_mut-symbol.ensures.value) c.pass.ensures.idles
          (idles-passed since c.moment.result (moment_of c.args.x.now) old new c.moment.ensures c.pass.ensures.later (c.pass_quote.ensures.idles c.if-pass_quote.true)) c.self.invariant.1,
    )

pub returns-then-pass_quote-clause-ok : goal.returns-then-pass_quote-clause-ok
returns-then-pass_quote-clause-ok c =
    let stocks = c.self.inside.symbols.items in
    let index = c.args.index in
    let old = c.index_mut-symbol.result.now in
    let new = c.pass_quote.new.self in
    let market = c.args.market.now in
    let x = c.args.x.now in
    let before = c.args.out.now.items in
    let within : index < length stocks = omega (arith, c.requires.index, ap (λ (section : SectionState). length section.symbols) c.self.view_is) in
    subst (λ (section : SectionState). AppendsOne index market x section.symbols (slice_set stocks index new) before before) c.self.view_is
    (one-evaluated index market x stocks old new before before within (slice_get_read stocks (length stocks) index old refl within c.index_mut-symbol.ensures.value)
    (says-nothing market x old new before (c.pass_quote.ensures.nothing c.if-pass_quote.true)))

pub returns-in_err-evaluate-clause-room_there : goal.returns-in_err-evaluate-clause-room_there
returns-in_err-evaluate-clause-room_there c = λ room.
    let stocks = c.self.inside.symbols.items in
    let stock = c.index_mut-symbol in
    let within : c.args.index < length stocks = omega (arith, c.requires.index, ap (λ (section : SectionState). length section.symbols) c.self.view_is) in
    let has : HasRoomAt stocks c.args.index = subst (λ (section : SectionState). HasRoomAt section.symbols c.args.index) (sym c.self.view_is) room in
    let own : 1 ≤ stock.result.now.spare = subst (λ (held : SymbolState). 1 ≤ held.spare) (sym stock.ensures.value) (room_of stocks c.args.index stock.result.now within has) in
    let left : 1 ≤ c.pass_quote.new.self.spare = subst (λ (held : SymbolState). 1 ≤ held.spare) (sym (c.pass_quote.ensures.others c.if-pass_quote.false)) own in
    absurd (refused c.evaluate.result _ c.in_err-evaluate.was (c.evaluate.ensures.room_there left))

pub invariant_of-self-2 : goal.invariant_of-self-2
invariant_of-self-2 c =
    let stocks = c.self.inside.symbols.items in
    let alarms = c.self.inside.alarms in
    let index = c.args.index in
    let alarm = c.alarm_of-alarm.result in
    let new = c.evaluate.new.symbol in
    let since = c.pass.new.since in
    let within : index < length stocks = omega (arith, c.requires.index, ap (λ (section : SectionState). length section.symbols) c.self.view_is) in (
      omega (arith, c.self.invariant.0, ap length c.set.ensures, length-set alarms index alarm),
      subst (λ (set : List ℕ). EachIdles since set (slice_set stocks index new)) (sym c.set.ensures)
          (each-evaluated c.self.inside.since since alarms stocks index alarm new within (omega (arith, c.self.invariant.0, c.self.inside.symbols.ok.0)) c.pass.ensures.idles c.alarm_of-alarm.ensures c.self.invariant.1),
    )

pub returns-clause-ok : goal.returns-clause-ok
returns-clause-ok c =
    let stocks = c.self.inside.symbols.items in
    let index = c.args.index in
    let old = c.index_mut-symbol.result.now in
    let new = c.evaluate.new.symbol in
    let market = c.args.market.now in
    let x = c.args.x.now in
    let before = c.args.out.now.items in
    let after = c.evaluate.new.out.items in
    let within : index < length stocks = omega (arith, c.requires.index, ap (λ (section : SectionState). length section.symbols) c.self.view_is) in
    subst (λ (section : SectionState). AppendsOne index market x section.symbols (slice_set stocks index new) before after) c.self.view_is
    (one-evaluated index market x stocks old new before after within (slice_get_read stocks (length stocks) index old refl within c.index_mut-symbol.ensures.value)
    (subst (λ (held : SymbolState). Appends market x held new before after) (c.pass_quote.ensures.others c.if-pass_quote.false) (c.in_ok-evaluate.ensures).ok))
