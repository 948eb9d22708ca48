use Rattle.std.proofs.Common.{◌≡◌, ◌-◌, ◌++◌, ℕ, List, length, get_or, take, drop, sym, ap, subst, ◌∙◌, rules}
use Rattle.journal_core.specs.Layout.{OpensMark}
use Rattle.journal_core.specs.Walk.{IsBrokenAt}
use Rattle.journal_core.specs.declared.mark.Mark.{Mark}
use Rattle.journal_core.proofs.Walking.{broken_here, closed_there, enough, from_the_gate, mark_there, no_mark_there, refused_here, slice_is, some_there}
use Rattle.journal_core.proofs.walk.Walk.mark.Goals as goal

pub returns-then-bytes-eq0-clause-closed : goal.returns-then-bytes-eq0-clause-closed
returns-then-bytes-eq0-clause-closed c is disk h =
    let walk = c.args.self.now in
    let k = walk.gate - walk.start in
    let slice = slice_is c.bytes.result.now walk.ahead k c.bytes.ensures in
    closed_there (drop k walk.ahead) h.rest disk walk.gate (from_the_gate walk c.requires.walking c.requires.there disk h) (some_there walk c.requires.walking c.requires.there)
    (ap (λ (l : List ℕ). get_or l 0 0) (sym slice) ∙ c.if-bytes-eq0.true)

pub returns-in_default-clause-damaged : goal.returns-in_default-clause-damaged
returns-in_default-clause-damaged c at is =
    let walk = c.args.self.now in
    let k = walk.gate - walk.start in
    let slice = slice_is c.bytes.result.now walk.ahead k c.bytes.ensures in
    let here : at ≡ walk.gate = search rules in (
      here,
      λ disk h.
          subst (λ (place : ℕ). IsBrokenAt walk.capacity place disk) (sym here)
          (broken_here walk disk h (drop k walk.ahead ++ h.rest) (from_the_gate walk c.requires.walking c.requires.there disk h)
          (no_mark_there (drop k walk.ahead) h.rest (some_there walk c.requires.walking c.requires.there) (λ zero. c.if-bytes-eq0.false (ap (λ (l : List ℕ). get_or l 0 0) slice ∙ zero))
          (enough walk disk h c.requires.walking.started c.requires.there)
          (λ mark rest opens. c.in_default.ensures mark rest (subst (λ (l : List ℕ). OpensMark mark l rest) (sym slice) opens)))),
    )

pub returns-then-not-takes-clause-damaged : goal.returns-then-not-takes-clause-damaged
returns-then-not-takes-clause-damaged c at is =
    let walk = c.args.self.now in
    let k = walk.gate - walk.start in
    let slice = slice_is c.bytes.result.now walk.ahead k c.bytes.ensures in
    let here : at ≡ walk.gate = search rules in (
      here,
      λ disk h.
          subst (λ (place : ℕ). IsBrokenAt walk.capacity place disk) (sym here)
          (refused_here walk disk h c.in-Some.mark _ (mark_there walk disk h c.in-Some.mark _ slice (from_the_gate walk c.requires.walking c.requires.there disk h) c.in-Some.ensures)
          (sym c.takes.ensures ∙ c.if-not-takes.true)),
    )

pub returns-clause-found : goal.returns-clause-found
returns-clause-found c mark is disk h =
    let walk = c.args.self.now in
    let k = walk.gate - walk.start in
    let slice = slice_is c.bytes.result.now walk.ahead k c.bytes.ensures in
    let bytes = take (length c.bytes.result.now - k) (drop k c.bytes.result.now) in
    let same : c.in-Some.mark ≡ mark = search rules in
    (drop 5 bytes ++ h.rest, subst (λ (m : Mark). OpensMark m (drop walk.gate disk) (drop 5 bytes ++ h.rest)) same (mark_there walk disk h c.in-Some.mark bytes slice (from_the_gate walk c.requires.walking c.requires.there disk h) c.in-Some.ensures))
