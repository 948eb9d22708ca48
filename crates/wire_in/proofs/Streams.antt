-- There is one way to cut a stream, a cutter takes it, and frames differ.
use Rattle.std.proofs.Common.{◌≡◌, ℕ, ◌+◌, ◌≤◌, List, [], ◌∷◌, ◌++◌, length, take, drop, refl, sym, ap, subst, ◌∙◌, inl, inr, append_assoc, arith}
use Rattle.std.specs.List.{flat_map}
use Rattle.std.proofs.lemmas.Bool.Decides.{leb_tells, eqb_tells}
use Rattle.std.proofs.lemmas.List.{length-take, length-drop, take-append-drop, take_at, drop_at}
use Rattle.wire_core.specs.Frames.{framed}
use Rattle.wire_core.proofs.Steps.{ok_is}
use Rattle.wire_in.specs.Cutting.{GoesOn, IsCut, IsPrefix, IsPartial, bodies_of, cut_within, found, pending, rest_of}
use Rattle.wire_in.specs.Laws.{CutIsUnique, FramesDiffer, RecordsDiffer}
use Rattle.wire_in.specs.Reading.{record_of}
use Rattle.wire_in.specs.Spelling.{body_of}
use Rattle.wire_in.proofs.RoundTrip.{body_again}
use Rattle.wire_in.proofs.Cuts.{Cutting, bodies_of-append, rest_of-append, cut_partial, cut_framed, whole_case, partial_case}

-- what is cut of at most a whole frame
pub cut_prefix : (held : List ℕ) → IsPrefix held → (bodies_of held ≡ found held) × (rest_of held ≡ pending held)
cut_prefix [] h = (refl, refl)
cut_prefix (n ∷ body) h =
    elim (eqb_tells (length (n ∷ body)) (n + 1)) [
      | inl whole ↦
          let len : length body ≡ n = omega (arith, whole.1) in
          rw whole.0 (subst (λ (k : ℕ). (bodies_of (k ∷ body) ≡ body ∷ []) × (rest_of (k ∷ body) ≡ [])) len (cut_framed body))
      | inr part ↦ rw part.0 (cut_partial (n ∷ body) (omega (arith, part.1)))
    ]

-- a cutter that goes on behind the bytes that were read
pub take_on : (read old taken new : List ℕ) → new ≡ pending old ++ taken → IsPrefix new → pending old ≡ rest_of read → GoesOn read taken new
take_on read old taken new bytes prefix behind =
    let joined : rest_of read ++ taken ≡ new = cc in
    let cut = cut_prefix new prefix in
    record {
      bodies = bodies_of-append read taken
          ∙ ap (λ (t : List ℕ). bodies_of read ++ bodies_of t) joined
          ∙ ap (λ (t : List (List ℕ)). bodies_of read ++ t) cut.0;
      rest = sym (rest_of-append read taken ∙ ap (λ (t : List ℕ). rest_of t) joined ∙ cut.1);
    }

-- the first frame, and then what follows it
cut_first : (body more : List ℕ) → (bodies_of (framed body ++ more) ≡ body ∷ bodies_of more) × (rest_of (framed body ++ more) ≡ rest_of more)
cut_first body more =
    let first = cut_framed body in (
      bodies_of-append (framed body) more
          ∙ ap (λ (t : List (List ℕ)). t ++ bodies_of (rest_of (framed body) ++ more)) first.0
          ∙ ap (λ (t : List ℕ). body ∷ bodies_of (t ++ more)) first.1,
      rest_of-append (framed body) more ∙ ap (λ (t : List ℕ). rest_of (t ++ more)) first.1,
    )

cut_frames : (bodies : List (List ℕ)) (rest : List ℕ) → IsPartial rest → (bodies_of (flat_map framed bodies ++ rest) ≡ bodies) × (rest_of (flat_map framed bodies ++ rest) ≡ rest)
cut_frames [] rest partial = cut_partial rest partial
cut_frames (body ∷ bodies) rest partial =
    let behind = flat_map framed bodies ++ rest in
    let joined : flat_map framed (body ∷ bodies) ++ rest ≡ framed body ++ behind = append_assoc (framed body) (flat_map framed bodies) rest in
    let first = cut_first body behind in
    let others = cut_frames bodies rest partial in (
      ap (λ (t : List ℕ). bodies_of t) joined ∙ first.0 ∙ ap (λ (t : List (List ℕ)). body ∷ t) others.0,
      ap (λ (t : List ℕ). rest_of t) joined ∙ first.1 ∙ others.1,
    )

-- a body before a cut
cut_with : (n : ℕ) (bytes : List ℕ) (bodies : List (List ℕ)) (rest : List ℕ) → n ≤ length bytes → IsCut (drop n bytes) bodies rest → IsCut (n ∷ bytes) (take n bytes ∷ bodies) rest
cut_with n bytes bodies rest le cut =
    let body = take n bytes in
    let len : length body ≡ n = omega (arith, length-take n bytes) in
    let text : bytes ≡ body ++ (flat_map framed bodies ++ rest) =
    sym (take-append-drop n bytes) ∙ ap (λ (t : List ℕ). body ++ t) cut.whole in
    record {
      whole = ap (λ (t : List ℕ). n ∷ t) text
          ∙ ap (λ (k : ℕ). k ∷ (body ++ (flat_map framed bodies ++ rest))) (sym len)
          ∙ sym (append_assoc (framed body) (flat_map framed bodies) rest);
      partial = cut.partial;
    }

cut_is : (fuel bytes : List ℕ) → length bytes ≤ length fuel → IsCut bytes (cut_within fuel bytes).0 (cut_within fuel bytes).1
cut_is [] [] le = record { whole = refl; partial = omega arith }
cut_is [] (n ∷ bytes) le = absurd (omega arith)
cut_is (x ∷ fuel) [] le = record { whole = refl; partial = omega arith }
cut_is (x ∷ fuel) (n ∷ bytes) le =
    let next = cut_is fuel (drop n bytes) (omega (arith, length-drop n bytes)) in
    elim (leb_tells n (length bytes)) [
      | inl w ↦
          subst (λ (c : Cutting). IsCut (n ∷ bytes) c.0 c.1) (sym (whole_case x fuel n bytes w.1))
          (cut_with n bytes _ _ w.1 next)
      | inr w ↦
          subst (λ (c : Cutting). IsCut (n ∷ bytes) c.0 c.1) (sym (partial_case x fuel n bytes w.1))
          (record { whole = refl; partial = omega (arith, w.1) })
    ]

same_cut : (bytes : List ℕ) (bodies bodies' : List (List ℕ)) (rest rest' : List ℕ) → IsCut bytes bodies rest → bodies' ≡ bodies → rest' ≡ rest → IsCut bytes bodies' rest'
same_cut bytes bodies bodies' rest rest' cut e f = rw (e, f) cut

pub cuts_alone : CutIsUnique
cuts_alone bytes bodies rest = (
  λ cut.
      let parts = cut_frames bodies rest cut.partial in
      (sym (ap (λ (t : List ℕ). bodies_of t) cut.whole ∙ parts.0), sym (ap (λ (t : List ℕ). rest_of t) cut.whole ∙ parts.1)),
  λ e. same_cut bytes _ bodies _ rest (cut_is bytes bytes (omega arith)) e.0 e.1,
)

pub frames_differ : FramesDiffer
frames_differ a b more rest e =
    let len : length a ≡ length b = cc in
    let text : a ++ more ≡ b ++ rest = cc in (
      sym (take_at a more (length b) len) ∙ ap (λ (t : List ℕ). take (length b) t) text ∙ take_at b rest (length b) refl,
      sym (drop_at a more (length b) len) ∙ ap (λ (t : List ℕ). drop (length b) t) text ∙ drop_at b rest (length b) refl,
    )

pub records_differ : RecordsDiffer
records_differ x y more rest of_x of_y e =
    let parts = frames_differ (body_of x) (body_of y) more rest e in
    let same = sym (body_again x of_x.types of_x.ranges) ∙ ap record_of parts.0 ∙ body_again y of_y.types of_y.ranges in
    (ok_is x y same, parts.1)
