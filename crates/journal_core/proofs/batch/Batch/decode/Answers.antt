use Rattle.std.proofs.Common.{◌≡◌, ◌∙◌, ◌<◌, ◌++◌, ◌∷◌, [], ℕ, List, false, Result, Ok, Err, length, take, ap, sym, subst, arith}
use Rattle.std.specs.Prelude.{All, OnOk, is_err}
use Rattle.std.proofs.lemmas.List.{length-set, take_more_set}
use Rattle.std.proofs.lemmas.List.Elements.{All-push}
use Rattle.wire_in.specs.declared.record.Record.{Record}
use Rattle.wire_in.specs.declared.record.Refusal.{Refusal}
use Rattle.wire_in.specs.Spelling.{InRange, Spells}
use Rattle.journal_core.proofs.Places.{within}
use Rattle.journal_core.proofs.batch.Batch.decode.Goals as goal

spelled : (body : List ℕ) (x : Record) (result : Result (Unit {0}) Refusal) → false ≡ is_err result → OnOk result (Spells body x) → Spells body x
spelled body x (Ok _) ok spells = spells
spelled body x (Err _) ok spells = absurd cc

pub invariant_of-self-2 : goal.invariant_of-self-2
invariant_of-self-2 c =
    let count = c.self.inside.count in
    let places = c.self.inside.places.items in
    let x = c.decode_into.new.into in
    let lt : count < length places = within count places c.args.self.now c.self.invariant.room (sym c.self.view_is) c.requires.room in
    let found = spelled c.args.body.now x c.decode_into.result (sym c.if-is_err.false ∙ c.is_err.ensures.value) c.decode_into.ensures.found in
    record {
      room = length-set places count x ∙ c.self.invariant.room;
      most = omega (arith, lt, c.self.invariant.room);
      ranges = subst (All InRange) (sym (take_more_set places count x lt)) (All-push InRange (take count places) x c.self.invariant.ranges found.ranges);
    }

pub returns-clause-taken : goal.returns-clause-taken
returns-clause-taken c taken =
    let count = c.self.inside.count in
    let places = c.self.inside.places.items in
    let x = c.decode_into.new.into in
    let lt : count < length places = within count places c.args.self.now c.self.invariant.room (sym c.self.view_is) c.requires.room in (
      x,
      spelled c.args.body.now x c.decode_into.result (sym c.if-is_err.false ∙ c.is_err.ensures.value) c.decode_into.ensures.found,
      take_more_set places count x lt ∙ ap (λ (l : List Record). l ++ x ∷ []) c.self.view_is,
    )
