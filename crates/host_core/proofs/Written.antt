-- A piece that is written to a sink, part by part.
use Rattle.std.proofs.Common.{◌≡◌, ℕ, ◌+◌, ◌≤◌, List, [], ◌∷◌, ◌++◌, length, take, drop, refl, sym, ◌∙◌, ap, subst, arith, append_assoc, length-drop, length-append, take-take}
use Rattle.std.proofs.lemmas.List.{append-nil, take_at, drop_at}
use Rattle.std.proofs.Math.Seq.{take-add}
use Rattle.std.specs.Prelude.{Option, Some, None}
use Rattle.std.specs.Io.KnownBytes.{Appends, Keeps}
use Rattle.host_core.specs.Streams.{AppendsPart}

-- no bytes behind known ones
pub appends_nothing : (known : Option (List ℕ)) → Appends known known []
appends_nothing None = tt
appends_nothing (Some xs) = sym (append-nil xs)

-- bytes behind bytes
pub appends_both : (old mid new : Option (List ℕ)) (first second : List ℕ) → Appends old mid first → Appends mid new second → Appends old new (first ++ second)
appends_both None mid new first second one two = tt
appends_both (Some xs) None new first second one two = absurd one
appends_both (Some xs) (Some ys) None first second one two = absurd two
appends_both (Some xs) (Some ys) (Some zs) first second one two = two ∙ ap (λ (l : List ℕ). l ++ second) one ∙ append_assoc xs first second

-- known bytes that stay, behind which none were written
pub kept_appends : (old mid new : Option (List ℕ)) (first : List ℕ) → Appends old mid first → Keeps mid new → Appends old new first
kept_appends None mid new first one kept = tt
kept_appends (Some xs) None new first one kept = absurd one
kept_appends (Some xs) (Some ys) None first one kept = absurd kept
kept_appends (Some xs) (Some ys) (Some zs) first one kept = kept ∙ one

-- the first bytes of the first of two texts
take_within : (n : ℕ) (first second : List ℕ) → n ≤ length first → take n (first ++ second) ≡ take n first
take_within n first second le =
    sym (take-take n (length first) (first ++ second) le) ∙ ap (take n) (take_at first second (length first) refl)

-- so many bytes of a piece were written, without an error
pub record Written (piece : List ℕ) (done : ℕ) (start now : Option (List ℕ)) (failures failures' : ℕ) : Type 0 where
  pub bound : done ≤ length piece
  pub bytes : Appends start now (take done piece)
  pub fine : failures' ≡ failures

pub written_begun : (piece : List ℕ) (start : Option (List ℕ)) (failures : ℕ) → Written piece 0 start start failures failures
written_begun piece start failures = record { bound = omega arith; bytes = appends_nothing start; fine = refl }

module _ {piece : List ℕ} {done : ℕ} {start mid : Option (List ℕ)} {failures now : ℕ} (so_far : Written piece done start mid failures now) (new : Option (List ℕ)) where
  pub written_more : (n later : ℕ) → n ≤ length (drop done piece) → Appends mid new (take n (drop done piece)) → later ≡ now → Written piece (done + n) start new failures later
  written_more n later few wrote same = record {
    bound = omega (arith, few, so_far.bound, length-drop done piece);
    bytes = subst (Appends start new) (sym (take-add done n piece)) (appends_both start mid new (take done piece) (take n (drop done piece)) so_far.bytes wrote);
    fine = same ∙ so_far.fine;
  }

  pub written_part : Keeps mid new → AppendsPart start new piece
  written_part kept = record { count = done; within = so_far.bound; part = kept_appends start mid new (take done piece) so_far.bytes kept }

-- a part of the first of two texts, and a part of the second behind the first
pub part_first : (old new : Option (List ℕ)) (first second : List ℕ) → AppendsPart old new first → AppendsPart old new (first ++ second)
part_first old new first second part = record {
  count = part.count;
  within = omega (arith, part.within, length-append first second);
  part = subst (Appends old new) (sym (take_within part.count first second part.within)) part.part;
}

pub part_second : (old mid new : Option (List ℕ)) (first second : List ℕ) → Appends old mid first → AppendsPart mid new second → AppendsPart old new (first ++ second)
part_second old mid new first second one part = record {
  count = length first + part.count;
  within = omega (arith, part.within, length-append first second);
  part = subst (Appends old new) (sym (take-add (length first) part.count (first ++ second)
      ∙ ap (λ (l : List ℕ). l ++ take part.count (drop (length first) (first ++ second))) (take_at first second (length first) refl)
      ∙ ap (λ (l : List ℕ). first ++ take part.count l) (drop_at first second (length first) refl)))
      (appends_both old mid new first (take part.count second) one part.part);
}

-- a line in its parts
pub line_parts : (before digits after : List ℕ) → (before ++ digits) ++ (after ++ (10 ∷ [])) ≡ (before ++ (digits ++ after)) ++ (10 ∷ [])
line_parts before digits after = simp append_assoc
