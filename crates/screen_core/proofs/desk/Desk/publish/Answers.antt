use Rattle.std.proofs.Common.{ℕ, List, sym, ap, subst, ◌∙◌}
use Rattle.std.specs.Prelude.{All}
use Rattle.board_core.specs.declared.entry.Entry.{Entry}
use Rattle.board_core.specs.Entries.{entries_from}
use Rattle.screen_core.specs.InternalDesk.{CanPublish, said_in}
use Rattle.screen_core.proofs.Steps.{board-append}
use Rattle.screen_core.proofs.desk.Desk.publish.Goals as goal

pub publish_all-requires : goal.publish_all-requires
publish_all-requires c =
    let can = c.requires in
    record {
      writer = can.has.writer;
      messages = record {
        each = subst (λ (n : ℕ). All (CanPublish n) (said_in c.args.messages.now)) (sym can.has.symbols) can.each;
        published = can.published;
        entries_are = can.has.entries;
        few = can.few;
      };
    }

pub returns : goal.returns
returns c published has = record {
  writer = c.publish_all.ensures.writer;
  symbols = has.symbols;
  entries = c.publish_all.ensures.entries ∙ ap (λ (es : List Entry). entries_from es (said_in c.args.messages.now)) has.entries ∙ sym (board-append published (said_in c.args.messages.now));
  one = has.one;
  fresh = has.fresh;
}
