use Rattle.std.proofs.Common.{ℕ, ◌∙◌, sym, ap, subst, length, arith}
use Rattle.std.specs.Prelude.{IfSome, map}
use Rattle.rulebook.specs.Book.{ids_below}
use Rattle.screen_core.specs.Rows.{last_row}
use Rattle.screen_core.specs.Screened.{said}
use Rattle.screen_core.specs.InternalDesk.{HasPublished}
use Rattle.screen_core.proofs.screen.Screen.show.Goals as goal

pub close-requires : goal.close-requires
close-requires c =
    let ready = c.requires.ready in
    let desk = sym c.take.ensures.value ∙ c.unwrap-desk.ensures in
    let has : HasPublished (said ready.held) c.unwrap-desk.result = subst (λ o. IfSome o (HasPublished (said ready.held))) desk ready.keeps.published in
    record {
      writer = has.writer;
      reader = (has.one, has.fresh);
      symbols = omega (arith, has.symbols, c.names-symbols.ensures.bound);
      room = (c.requires.room.0, omega (arith, c.requires.room.1, c.names-symbols.ensures.bound));
    }

pub returns : goal.returns
returns c held keeps =
    let desk = sym c.take.ensures.value ∙ c.unwrap-desk.ensures in
    c.close.ensures (said held) (subst (λ o. IfSome o (HasPublished (said held))) desk keeps.published)
    ∙ ap (λ (n : ℕ). map (last_row (said held)) (ids_below n)) (c.names-symbols.ensures.names ∙ ap length keeps.market.directory)
