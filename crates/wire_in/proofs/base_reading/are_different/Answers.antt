use Rattle.std.proofs.Common.{◌≡◌, ◌∙◌, ◌≤◌, [], true, false, length, take, refl, ap, sym, arith}
use Rattle.std.proofs.lemmas.List.{drop_all}
use Rattle.wire_in.proofs.BaseParts.{are_new, new_decides, rest_more, seen_again, seen_more}
use Rattle.wire_in.proofs.base_reading.are_different.Goals as goal

pub loop-name-init : goal.loop-name-init
loop-name-init c = record { seen = (c.in_ok-seen.ensures).empty; rest = refl }

pub loop-name-preserved : goal.loop-name-preserved
loop-name-preserved c =
    let i = c.loop-name.name-index in
    let names = c.args.names.now in
    let before = c.loop-name.invariant in
    let lt = c.loop-name-test.true in
    let e = c.in_ok-insert.ensures in
    let keys = c.loop-name.seen.keys in
    record {
      seen = seen_more names keys i c.in_ok-insert.field-0 lt before.seen before.rest e.added c.insert.new.self.keys c.if-not-branch.false e.keys;
      rest = rest_more names keys i c.in_ok-insert.field-0 lt before.seen before.rest e.added c.if-not-branch.false;
    }

pub returns-then-not-branch : goal.returns-then-not-branch
returns-then-not-branch c =
    let before = c.loop-name.invariant in
    let names = c.args.names.now in
    let e = c.in_ok-insert.ensures in
    new_decides false names
    (seen_again names c.loop-name.seen.keys c.loop-name.name-index c.in_ok-insert.field-0 c.loop-name-test.true before.seen before.rest e.added c.if-not-branch.true)

pub returns : goal.returns
returns c =
    let i = c.loop-name.name-index in
    let names = c.args.names.now in
    let over : length names ≤ i = omega (arith, c.loop-name-test.false) in
    let all : true ≡ are_new [] names = sym (ap (are_new (take i names)) (drop_all i names over)) ∙ c.loop-name.invariant.rest in
    new_decides true names all
