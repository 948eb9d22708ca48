-- A line in which `clap` finds no fault names a command.
use Rattle.std.proofs.Common.{◌≡◌, ◌∙◌, ℕ, Bool, cond, codes, true, false, refl, sym, ap, subst, List, [], ◌∷◌, Option, Some, None, is_some, true≢false}
use Rattle.std.specs.Prelude.{◌&&◌, ◌||◌, not, option_map, unwrap_or}
use Rattle.std.specs.Option.{option_map_or}
use Rattle.std.specs.List.{find, fold, list_any}
use Rattle.std.specs.Str.{bytes_eq}
use Rattle.std.proofs.lemmas.Slice.Eq.{bytes_eq-Decides}
use Rattle.clap.specs.Lexer.{long_of, short_of}
use Rattle.clap.specs.Kinds.{check_kinds, or_else}
use Rattle.clap.specs.Takes.{is_given}
use Rattle.clap.specs.Walk.{Held, Names, Outcome, Row, Rule, Step, Text, Waiting, Walk, after_flag, after_step, answers_to, arg_by_index, done, finished, idle, long_or_other, next, nothing_held, option, plain, plain_word, positional, refused, settled, short_or_plain, subcommand, subcommand_met, subcommand_or_other, to_positional, trailing, value, waits, walk, walk_from, walked, walked_from, word_met}
use Rattle.clap.specs.Simple.{App, Shape, entered, label_of, names_of, rows_at}
use Rattle.clap.specs.Faults.{built_fault, check_fault, defaults_fault, entered_fault, level_fault, other_fault, settle_fault, step_fault, turn_fault, walk_fault, word_fault}
use Rattle.clap.specs.declared.error.kind.ErrorKind.TheVariants as kind
use Rattle.words_core.specs.Asked.{command_found}
use Rattle.words_core.proofs.Passing.{first_none, second_none, some_kind, some≢none}

-- ---- a step that is no subcommand

abbrev IsNoName : Step → Type 0
IsNoName (subcommand name) = ⊥
IsNoName step = Unit {0}

plain_no_name : (c : List Rule) (waiting : Waiting) (word : Text) (h : Held) → IsNoName (plain_word c waiting word h).1
plain_no_name c idle word h = tt
plain_no_name c (option id) word h = tt
plain_no_name c positional word h = tt

flag_no_name : (c : List Rule) (waiting : Waiting) (word : Text) (h : Held) (o : Outcome) → IsNoName (after_flag c waiting word h o).1
flag_no_name c waiting word h done = tt
flag_no_name c waiting word h (waits id) = tt
flag_no_name c waiting word h plain = plain_no_name c waiting word h
flag_no_name c waiting word h refused = plain_no_name c waiting word h

other_no_name : (c : List Rule) (waiting : Waiting) (word : Text) (p : Option (Text × Option Text)) (h : Held) → IsNoName (long_or_other c waiting word p h).1
other_no_name c waiting word (Some p) h = flag_no_name c waiting word _ _
other_no_name c waiting word None h = go (short_of word)
  where
    go : (o : Option Text) → IsNoName (short_or_plain c waiting word o h).1
    go None = plain_no_name c waiting word h
    go (Some flags) = flag_no_name c waiting word _ _

-- ---- the walk stops at no call for help

abbrev pub NoHelp : Option (Text × List Text) → Type 0
NoHelp None = Unit {0}
NoHelp (Some p) = bytes_eq p.0 (codes "help") ≡ false

abbrev StepsOn : Step → Type 0
StepsOn (subcommand name) = bytes_eq name (codes "help") ≡ false
StepsOn step = Unit {0}

steps_on : (step : Step) → IsNoName step → StepsOn step
steps_on (subcommand name) none = absurd none
steps_on (next waiting) none = tt
steps_on (trailing position) none = tt
steps_on value none = tt

module _ (s : Shape) (names : Names) (enabled : s.disable_help_subcommand ≡ false) where
  named_steps : (o : Option Text) (waiting : Waiting) (position : ℕ) (word : Text) (h : Held) → other_fault s o word h ≡ []
      → StepsOn (subcommand_or_other s.rules o waiting position word h).1
  named_steps (Some name) waiting position word h e = go (bytes_eq name (codes "help")) (rw enabled at e)
    where
      go : (b : Bool) → cond (b && true) (kind.DisplayHelp ∷ kind.InvalidSubcommand ∷ []) [] ≡ [] → b ≡ false
      go true e = absurd (some_kind _ _ e)
      go false e = refl
  named_steps None waiting position word h e = go (bytes_eq word (45 ∷ 45 ∷ []))
    where
      go : (b : Bool) → StepsOn (cond b (h, trailing position) (long_or_other s.rules waiting word (long_of word) h)).1
      go true = tt
      go false = steps_on _ (other_no_name s.rules waiting word (long_of word) h)

  word_steps : (is_trailing : Bool) (waiting : Waiting) (position : ℕ) (word : Text) (h : Held) → word_fault s names is_trailing waiting word h ≡ []
      → StepsOn (word_met s.rules names is_trailing waiting position word h).1
  word_steps true waiting position word h e = tt
  word_steps false waiting position word h e = named_steps (subcommand_met names waiting word) waiting position word h e

  after_no_help : (w : Walk) (word : Text) (h : Held) (step : Step) → StepsOn step → NoHelp w.stopped → NoHelp (after_step s.rules word w h step).stopped
  after_no_help w word h (subcommand name) on before = on
  after_no_help w word h (next waiting) on before = before
  after_no_help w word h (trailing position) on before = before
  after_no_help w word h value on before = go (arg_by_index s.rules w.position)
    where
      go : (o : Option Rule) → NoHelp (to_positional s.rules o word w h).stopped
      go None = before
      go (Some a) = tt

  turn_no_help : (w : Walk) (word : Text) → turn_fault s names w word ≡ [] → NoHelp w.stopped → NoHelp (walked s.rules names w word).stopped
  unfolding walked
  turn_no_help w word e before = go w.stopped e before
    where
      go : (o : Option (Text × List Text))
          → cond (is_some o) [] (or_else (word_fault s names w.is_trailing w.waiting word w.held)
          (step_fault s w.position (word_met s.rules names w.is_trailing w.waiting w.position word w.held).0 (word_met s.rules names w.is_trailing w.waiting w.position word w.held).1)) ≡ []
          → NoHelp o → NoHelp (walked_from s.rules names o w word).stopped
      go (Some p) e on = on
      go None e on = after_no_help w word _ _ (word_steps w.is_trailing w.waiting w.position word w.held (first_none _ _ e)) before

  pub walk_no_help : (w : Walk) (words : List Text) → walk_fault s names w words ≡ [] → NoHelp w.stopped → NoHelp (fold (walked s.rules names) w words).stopped
  unfolding walk_fault
  walk_no_help w [] e before = before
  walk_no_help w (word ∷ rest) e before =
      walk_no_help (walked s.rules names w word) rest (second_none (turn_fault s names w word) _ e) (turn_no_help w word (first_none _ _ e) before)

-- ---- a command whose subcommands all name one

-- what passes this subcommand names a command, unless it is the one for help
abbrev pub IsNamed : Shape → Type 0
IsNamed s = (s.aliases ≡ []) × (bytes_eq s.name (codes "help") ≡ false → (words : List Text) → level_fault s [] nothing_held words false [] ≡ []
    → is_some (command_found (Some (rows_at s words))) ≡ true)

abbrev pub AllNamed : List Shape → Type 0
AllNamed [] = Unit {0}
AllNamed (s ∷ subs) = IsNamed s × AllNamed subs

found_named : (q : Shape → Bool) (subs : List Shape) (s : Shape) → AllNamed subs → find q subs ≡ Some s → IsNamed s × (q s ≡ true)
found_named q [] s all is = absurd (some≢none s is)
found_named q (x ∷ subs) s all is = go (q x) refl is (found_named q subs s all.1)
  where
    go : (b : Bool) → q x ≡ b → cond b (Some x) (find q subs) ≡ Some s → (find q subs ≡ Some s → IsNamed s × (q s ≡ true)) → IsNamed s × (q s ≡ true)
    go true here found later = subst (λ t. IsNamed t × (q t ≡ true)) (ap (λ o. unwrap_or o x) found) (all.0, here)
    go false here found later = later found

no_alias : (word : Text) (s : Shape) → s.aliases ≡ [] → answers_to word (label_of s) ≡ true → bytes_eq s.name word ≡ true
no_alias word s none e = go (bytes_eq s.name word) (rw none at e)
  where
    go : (b : Bool) → (b || false) ≡ true → b ≡ true
    go true e = refl
    go false e = e

wanted : (help argument : Bool) → check_kinds help true argument ≡ [] → ⊥
wanted true argument e = some_kind _ _ e
wanted false argument e = some_kind _ _ e

module _ (a : App) (all : AllNamed a.subs) where
  sub_named : (p : Text × List Text) (o : Option Shape) → find (λ s. answers_to p.0 (label_of s)) a.subs ≡ o → bytes_eq p.0 (codes "help") ≡ false
      → option_map_or (λ s. level_fault s [] nothing_held p.1 false []) o [] ≡ [] → is_some (option_map (λ s. rows_at s p.1) o) ≡ true
      → is_some (command_found (option_map (λ s. rows_at s p.1) o)) ≡ true
  sub_named p None is help e some = absurd (true≢false (sym some))
  sub_named p (Some s) is help e some =
      let named = found_named (λ s. answers_to p.0 (label_of s)) a.subs s all is in
      let name : s.name ≡ p.0 = (bytes_eq-Decides s.name p.0).0 (no_alias p.0 s named.0.0 named.1) in
      named.0.1 (ap (λ n. bytes_eq n (codes "help")) name ∙ help) p.1 e

  stop_named : (stop : Option (Text × List Text)) → NoHelp stop → entered_fault a stop ≡ [] → is_some (entered a stop) ≡ true → is_some (command_found (entered a stop)) ≡ true
  stop_named None help e some = absurd (true≢false (sym some))
  stop_named (Some p) help e some = sub_named p (find (λ s. answers_to p.0 (label_of s)) a.subs) refl help e some

  has_entered : (s : Shape) (rows : List Row) (has : Bool) → s.subcommand_required ≡ true → check_fault s rows has ≡ [] → has ≡ true
  has_entered s rows true wants e = refl
  has_entered s rows false wants e = absurd (wanted _ (not (s.subcommand_negates_reqs && false) && list_any (λ a. a.required && not (is_given a.id rows)) s.rules) (rw wants at e))

  pub app_names : (words : List Text) → a.top.disable_help_subcommand ≡ false → a.top.subcommand_required ≡ true → built_fault a nothing_held words ≡ []
      → is_some (command_found (entered a (walk a.top.rules (names_of a) nothing_held words).stopped)) ≡ true
  app_names words enabled wants e =
      let end = walk a.top.rules (names_of a) nothing_held words in
      let walks = first_none (walk_fault a.top (names_of a) (walk_from nothing_held) words) _ e in
      let after = second_none (walk_fault a.top (names_of a) (walk_from nothing_held) words) _ e in
      let below = first_none (entered_fault a end.stopped) _ after in
      let own = second_none (entered_fault a end.stopped) _ after in
      let last = second_none (settle_fault a.top.rules a.top.args_override_self end.held) _ own in
      let check = second_none (defaults_fault (settled a.top.rules end.held).rows a.top.rules) _ last in
      stop_named end.stopped (walk_no_help a.top (names_of a) enabled (walk_from nothing_held) words walks tt) below
      (has_entered a.top (finished a.top.rules end.held) (is_some (entered a end.stopped)) wants check)
