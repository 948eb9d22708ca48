use Rattle.std.proofs.Common.{◌≡◌, refl, sym, ap, ◌∙◌, List, Option, Some, None}
use Rattle.std.specs.Prelude.{option_map, option_and_then}
use Rattle.std.specs.Option.{option_map_or}
use Rattle.clap.specs.Words.{Row, Text, subcommand_rows_of}
use Rattle.clap.specs.declared.parser.matches.ArgMatches.TheViews.{out-ArgMatches}
use Rattle.words_core.specs.declared.command.Verb.{Verb}
use Rattle.words_core.specs.Commands.{verb_of}
use Rattle.words_core.specs.Asked.{command_from, command_found}
use Rattle.words_core.proofs.rows.command_found.Goals as goal

inside : {X : Type 0} {a b : X} → Some a ≡ Some b → a ≡ b
inside {a = a} is = ap (λ o. option_map_or (λ x. x) o a) is

-- the first of each pair
firsts : {X Y Z : Type 0} (f : X → Y) (g : X → Z) (o : Option X) → option_map f o ≡ option_map (λ (p : Y × Z). p.0) (option_map (λ x. (f x, g x)) o)
firsts f g None = refl
firsts f g (Some x) = refl

-- the command of a name and its rows
found_is : (found : Option (Text × List Row)) (name : Text) (rows : List Row) (verb : Verb) → Some name ≡ option_map (λ p. p.0) found → Some rows ≡ option_map (λ p. p.1) found → verb_of name ≡ Some verb
    → command_found found ≡ command_from verb rows
found_is None name rows verb named listed is = absurd cc
found_is (Some p) name rows verb named listed is =
    let of_name = ap verb_of (sym (inside named)) ∙ is in
    let of_rows = sym (inside listed) in
    λ i. option_and_then (λ v. command_from v (of_rows i)) (of_name i)

pub returns-clause-exact : goal.returns-clause-exact
returns-clause-exact c =
    c.command_from.ensures.exact
    ∙ sym (found_is (subcommand_rows_of c.args.found.now) _ _ _ (c.in_ok-name.ensures.name ∙ firsts _ _ (out-ArgMatches c.args.found.now).subcommand) c.in_ok-name.ensures.rows (sym c.in_ok-of.ensures))
