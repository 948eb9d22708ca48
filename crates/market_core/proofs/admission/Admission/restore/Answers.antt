use Rattle.std.proofs.Common.{◌≡◌, List, ℕ, length, replicate, refl, ap, ◌∙◌, arith}
use Rattle.std.proofs.lemmas.List.{nil_from_length}
use Rattle.market_core.specs.AdmissionState.{AdmissionState}
use Rattle.market_core.proofs.Restoring.{base-admits, stand_in-admits}
use Rattle.market_core.proofs.admission.Admission.restore.Goals as goal

pub put_unknown-requires-clause-none : goal.put_unknown-requires-clause-none
put_unknown-requires-clause-none c =
    let listed = c.self.inside.listed in
    let none : length c.args.self.directory ≡ 0 = ap (λ (ns : List (List ℕ)). length ns) c.requires.none.stands.directory in
    nil_from_length listed.items (omega (arith, none, listed.ok.0, c.self.invariant.0, ap (λ (a : AdmissionState). length a.directory) c.self.view_is))

pub returns-clause-stands : goal.returns-clause-stands
returns-clause-stands c = λ admitted e. base-admits c.args.base.now _ admitted e (record {
  day_is = c.day_of.ensures;
  begun_is = refl;
  last_is = c.moment.ensures;
  directory_is = c.restore.ensures ∙ c.list-names.ensures;
  listed_is = c.put_unknown.ensures.numbers ∙ ap (λ (ns : List (List ℕ)). replicate (length ns) 0) c.list-names.ensures;
})

pub returns-clause-stand_in : goal.returns-clause-stand_in
returns-clause-stand_in c = stand_in-admits c.args.base.now _ c.requires.range (record {
  day_is = c.day_of.ensures;
  begun_is = refl;
  last_is = c.moment.ensures;
  directory_is = c.restore.ensures ∙ c.list-names.ensures;
  listed_is = c.put_unknown.ensures.numbers ∙ ap (λ (ns : List (List ℕ)). replicate (length ns) 0) c.list-names.ensures;
})
