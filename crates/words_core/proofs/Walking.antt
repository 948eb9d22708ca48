-- Over a walk that passes, each row stays one whose first value passed.
use Rattle.std.proofs.Common.{◌≡◌, ℕ, Bool, cond, zero, suc, true, false, refl, sym, subst, List, [], ◌∷◌, length, drop, Option, Some, None, is_some}
use Rattle.std.specs.Prelude.{◌&&◌, encode_utf8, slice_get}
use Rattle.std.specs.Option.{option_map_or}
use Rattle.std.specs.List.{find, fold, list_all}
use Rattle.std.specs.Str.{bytes_eq, chars}
use Rattle.clap.specs.Lexer.{long_of, short_of}
use Rattle.clap.specs.Kinds.{Kinds, or_else}
use Rattle.clap.specs.Walk.{Held, Names, Outcome, Row, Rule, Step, Text, Waiting, Walk, after_flag, after_step, arg_by_id, arg_by_index, arg_by_long, arg_by_short, attached_value, bundle_met, bundle_step, done, flag_met, idle, is_pending, long_met, long_or_other, next, option, option_met, option_word, plain, plain_word, positional, positional_held, pushed, reacted, refused, settled, settled_rows, short_met, short_or_plain, subcommand, subcommand_met, subcommand_or_other, takes_several, takes_values, to_positional, trailing, used_by_id, value, waits, walked, walked_from, word_met}
use Rattle.clap.specs.Simple.{Shape}
use Rattle.clap.specs.Faults.{bundle_fault, bundle_step_fault, flag_word_fault, flags_fault, long_fault, option_fault, other_fault, positional_fault, react_fault, settle_fault, short_fault, step_fault, stray_fault, turn_fault, use_fault, walk_fault, word_fault}
use Rattle.clap.specs.declared.error.kind.ErrorKind.TheVariants as kind
use Rattle.words_core.proofs.Passing.{AllTold, first_none, is_sound, second_none, use_told}

-- ---- a word that is no flag changes no row

pushed_rows : (c : List Rule) (o : Option Rule) (id word : Text) (h : Held) → (option_word o id word h).0.rows ≡ h.rows
pushed_rows c None id word h = refl
pushed_rows c (Some a) id word h = refl

plain_rows : (c : List Rule) (waiting : Waiting) (word : Text) (h : Held) → (plain_word c waiting word h).0.rows ≡ h.rows
plain_rows c idle word h = refl
plain_rows c (option id) word h = pushed_rows c (arg_by_id c id) id word h
plain_rows c positional word h = refl

after_rows : (c : List Rule) (waiting : Waiting) (word : Text) (h : Held) (o : Outcome) → (after_flag c waiting word h o).0.rows ≡ h.rows
after_rows c waiting word h done = refl
after_rows c waiting word h (waits id) = refl
after_rows c waiting word h plain = plain_rows c waiting word h
after_rows c waiting word h refused = plain_rows c waiting word h

-- ---- flags

module _ (c : List Rule) (again : Bool) (sound : list_all is_sound c ≡ true) where
  by_id_told : (o : Option Rule) (id : Text) (values : List Text) (rows : List Row) → arg_by_id c id ≡ o → option_map_or (λ a. use_fault again a values rows) o [] ≡ []
      → AllTold c rows → AllTold c (used_by_id o values rows)
  by_id_told None id values rows is e all = all
  by_id_told (Some a) id values rows is e all = use_told c again (λ r. bytes_eq r.id id) a values rows sound is e all

  pending_told : (p : Option (Text × List Text)) (rows : List Row)
      → option_map_or (λ p. option_map_or (λ a. use_fault again a p.1 rows) (arg_by_id c p.0) []) p [] ≡ [] → AllTold c rows → AllTold c (settled_rows c p rows)
  pending_told None rows e all = all
  pending_told (Some p) rows e all = by_id_told (arg_by_id c p.0) p.0 p.1 rows refl e all

  pub settled_told : (h : Held) → settle_fault c again h ≡ [] → AllTold c h.rows → AllTold c (settled c h).rows
  settled_told h e all = pending_told h.pending h.rows e all

  reacted_told : (q : Rule → Bool) (a : Rule) (values : List Text) (h : Held) → find q c ≡ Some a → react_fault c again a values h ≡ [] → AllTold c h.rows
      → AllTold c (reacted c a values h).rows
  reacted_told q a values h is e all = use_told c again q a values (settled c h).rows sound is (second_none (settle_fault c again h) _ e) (settled_told h (first_none _ _ e) all)

  option_told : (q : Rule → Bool) (a : Rule) (v : Option Text) (h : Held) → find q c ≡ Some a → option_fault c again a v h ≡ [] → AllTold c h.rows
      → AllTold c (option_met c a v h).0.rows
  option_told q a (Some v) h is e all = reacted_told q a (v ∷ []) h is e all
  option_told q a None h is e all = settled_told h e all

  flag_told : (q : Rule → Bool) (a : Rule) (v : Option Text) (h : Held) → find q c ≡ Some a → cond (is_some v) (kind.TooManyValues ∷ []) (react_fault c again a [] h) ≡ []
      → AllTold c h.rows → AllTold c (flag_met c a v h).0.rows
  flag_told q a (Some v) h is e all = all
  flag_told q a None h is e all = reacted_told q a [] h is e all

  long_told : (o : Option Rule) (q : Rule → Bool) (v : Option Text) (h : Held) → find q c ≡ o → long_fault c again o v h ≡ [] → AllTold c h.rows
      → AllTold c (long_met c o v h).0.rows
  long_told None q v h is e all = all
  long_told (Some a) q v h is e all = go (takes_values a) e
    where
      go : (b : Bool) → cond b (option_fault c again a v h) (cond (is_some v) (kind.TooManyValues ∷ []) (react_fault c again a [] h)) ≡ []
          → AllTold c (cond b (option_met c a v h) (flag_met c a v h)).0.rows
      go true e = option_told q a v h is e all
      go false e = flag_told q a v h is e all

  abbrev Keeps : (Held → Held × Outcome) → (Held → Kinds) → Type 0
  Keeps met fault = (k : Held) → fault k ≡ [] → AllTold c k.rows → AllTold c (met k).0.rows

  short_told : (o : Option Rule) (q : Rule → Bool) (rest : Text) (h : Held) (met : Held → Held × Outcome) (fault : Held → Kinds) → Keeps met fault → find q c ≡ o
      → short_fault c again o rest h fault ≡ [] → AllTold c h.rows → AllTold c (short_met c o rest h met).0.rows
  short_told None q rest h met fault keeps is e all = all
  short_told (Some a) q rest h met fault keeps is e all = go (takes_values a) e
    where
      go : (b : Bool) → cond b (option_fault c again a (attached_value rest) h) (or_else (react_fault c again a [] h) (fault (reacted c a [] h))) ≡ []
          → AllTold c (cond b (option_met c a (attached_value rest) h) (met (reacted c a [] h))).0.rows
      go true e = option_told q a (attached_value rest) h is e all
      go false e = keeps (reacted c a [] h) (second_none (react_fault c again a [] h) _ e) (reacted_told q a [] h is (first_none _ _ e) all)

  bundle_told : (k : ℕ) (flags : Text) (skip : ℕ) (so_far : Outcome) → Keeps (bundle_met c k flags skip so_far) (flags_fault c again k flags skip)
  unfolding flags_fault bundle_met
  bundle_told zero flags skip so_far h e all = all
  bundle_told (suc k) flags skip so_far h e all = go (bundle_told k) (slice_get (chars flags) 0) skip e
    where
      go : ((flags : Text) (skip : ℕ) (so_far : Outcome) → Keeps (bundle_met c k flags skip so_far) (flags_fault c again k flags skip)) → (o : Option ℕ) (skip : ℕ)
          → bundle_step_fault c again o flags skip h (flags_fault c again k) ≡ [] → AllTold c (bundle_step c o flags skip so_far h (bundle_met c k)).0.rows
      go later None skip e = all
      go later (Some x) zero e =
          let rest = drop (length (encode_utf8 x)) flags in
          short_told (arg_by_short c x) _ rest h (bundle_met c k rest 0 done) (flags_fault c again k rest 0) (later rest 0 done) refl e all
      go later (Some x) (suc skip) e = later (drop (length (encode_utf8 x)) flags) skip so_far h e all

  -- ---- a word

  flag_word_told : (p : Option (Text × Option Text)) (waiting : Waiting) (word : Text) (h : Held) → flag_word_fault c again p word h ≡ [] → AllTold c h.rows
      → AllTold c (long_or_other c waiting word p h).0.rows
  flag_word_told (Some p) waiting word h e all =
      subst (AllTold c) (sym (after_rows c waiting word _ _)) (long_told (arg_by_long c p.0) _ p.1 h refl e all)
  flag_word_told None waiting word h e all = go (short_of word) e
    where
      go : (o : Option Text) → option_map_or (λ flags. bundle_fault c again flags h) o [] ≡ [] → AllTold c (short_or_plain c waiting word o h).0.rows
      go None e = subst (AllTold c) (sym (plain_rows c waiting word h)) all
      go (Some flags) e =
          subst (AllTold c) (sym (after_rows c waiting word _ _)) (bundle_told (length flags) flags h.skip plain (record h { skip = 0 }) e all)

  positional_told : (a : Rule) (word : Text) (h : Held) → positional_fault c again a h ≡ [] → AllTold c h.rows → AllTold c (positional_held c a word h).rows
  positional_told a word h e all = go (is_pending a h.pending && takes_several a) e
    where
      go : (b : Bool) → cond b [] (settle_fault c again h) ≡ [] → AllTold c (pushed a.id word (cond b h (settled c h))).rows
      go true e = all
      go false e = settled_told h e all

-- ---- the walk

module _ (s : Shape) (sound : list_all is_sound s.rules ≡ true) where
  named_told : (o : Option Text) (waiting : Waiting) (position : ℕ) (word : Text) (h : Held) → other_fault s o word h ≡ [] → AllTold s.rules h.rows
      → AllTold s.rules (subcommand_or_other s.rules o waiting position word h).0.rows
  named_told (Some name) waiting position word h e all = all
  named_told None waiting position word h e all = go (bytes_eq word (45 ∷ 45 ∷ [])) e
    where
      go : (b : Bool) → cond b [] (flag_word_fault s.rules s.args_override_self (long_of word) word h) ≡ []
          → AllTold s.rules (cond b (h, trailing position) (long_or_other s.rules waiting word (long_of word) h)).0.rows
      go true e = all
      go false e = flag_word_told s.rules s.args_override_self sound (long_of word) waiting word h e all

  word_told : (names : Names) (is_trailing : Bool) (waiting : Waiting) (position : ℕ) (word : Text) (h : Held) → word_fault s names is_trailing waiting word h ≡ []
      → AllTold s.rules h.rows → AllTold s.rules (word_met s.rules names is_trailing waiting position word h).0.rows
  word_told names true waiting position word h e all = all
  word_told names false waiting position word h e all = named_told (subcommand_met names waiting word) waiting position word h e all

  step_told : (w : Walk) (word : Text) (h : Held) (step : Step) → step_fault s w.position h step ≡ [] → AllTold s.rules h.rows
      → AllTold s.rules (after_step s.rules word w h step).held.rows
  step_told w word h (next waiting) e all = all
  step_told w word h (trailing position) e all = all
  step_told w word h (subcommand name) e all = all
  step_told w word h value e all = go (arg_by_index s.rules w.position) e
    where
      go : (o : Option Rule) → option_map_or (λ a. positional_fault s.rules s.args_override_self a h) o (stray_fault s) ≡ []
          → AllTold s.rules (to_positional s.rules o word w h).held.rows
      go None e = all
      go (Some a) e = positional_told s.rules s.args_override_self sound a word h e all

  turn_told : (names : Names) (w : Walk) (word : Text) → turn_fault s names w word ≡ [] → AllTold s.rules w.held.rows → AllTold s.rules (walked s.rules names w word).held.rows
  unfolding walked
  turn_told names w word e all = go w.stopped e
    where
      go : (o : Option (Text × List Text))
          → cond (is_some o) [] (or_else (word_fault s names w.is_trailing w.waiting word w.held)
          (step_fault s w.position (word_met s.rules names w.is_trailing w.waiting w.position word w.held).0 (word_met s.rules names w.is_trailing w.waiting w.position word w.held).1)) ≡ []
          → AllTold s.rules (walked_from s.rules names o w word).held.rows
      go (Some p) e = all
      go None e =
          step_told w word _ _ (second_none (word_fault s names w.is_trailing w.waiting word w.held) _ e)
          (word_told names w.is_trailing w.waiting w.position word w.held (first_none _ _ e) all)

  pub walk_told : (names : Names) (w : Walk) (words : List Text) → walk_fault s names w words ≡ [] → AllTold s.rules w.held.rows
      → AllTold s.rules (fold (walked s.rules names) w words).held.rows
  unfolding walk_fault
  walk_told names w [] e all = all
  walk_told names w (word ∷ rest) e all =
      walk_told names (walked s.rules names w word) rest (second_none (turn_fault s names w word) _ e) (turn_told names w word (first_none _ _ e) all)
