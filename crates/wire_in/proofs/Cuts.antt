-- Cutting goes on where it left off.
use Rattle.std.proofs.Common.{◌≡◌, ℕ, ◌<◌, ◌≤◌, List, [], ◌∷◌, ◌++◌, length, take, drop, refl, sym, ap, ◌∙◌, inl, inr, arith}
use Rattle.std.proofs.lemmas.Bool.{le-leb}
use Rattle.std.proofs.lemmas.Bool.Decides.{leb_tells}
use Rattle.std.proofs.lemmas.List.{length-append, length-drop, take-append-le, drop-append-le, take_all, nil_from_length}
use Rattle.wire_core.specs.Frames.{framed}
use Rattle.wire_in.specs.Cutting.{cut_within, bodies_of, rest_of, IsPartial}

-- some bodies, and what is left behind them
abbrev pub Cutting : Type 0
Cutting = List (List ℕ) × List ℕ

-- a body, and what follows it
abbrev with_body : List ℕ → Cutting → Cutting
with_body body cut = (body ∷ cut.0, cut.1)

pub whole_case : (x : ℕ) (fuel : List ℕ) (n : ℕ) (bytes : List ℕ) → n ≤ length bytes → cut_within (x ∷ fuel) (n ∷ bytes) ≡ with_body (take n bytes) (cut_within fuel (drop n bytes))
whole_case x fuel n bytes le = rw (le-leb n (length bytes) le) refl

pub partial_case : (x : ℕ) (fuel : List ℕ) (n : ℕ) (bytes : List ℕ) → length bytes < n → cut_within (x ∷ fuel) (n ∷ bytes) ≡ ([], n ∷ bytes)
partial_case x fuel n bytes lt =
    elim (leb_tells n (length bytes)) [ inl w ↦ absurd (omega arith) | inr w ↦ rw w.0 refl ]

-- any fuel serves that is long enough
any_fuel : (f g bytes : List ℕ) → length bytes ≤ length f → length bytes ≤ length g → cut_within f bytes ≡ cut_within g bytes
any_fuel [] [] bytes a b = refl
any_fuel [] (x ∷ g) [] a b = refl
any_fuel [] (x ∷ g) (n ∷ bytes) a b = absurd (omega arith)
any_fuel (y ∷ f) [] [] a b = refl
any_fuel (y ∷ f) [] (n ∷ bytes) a b = absurd (omega arith)
any_fuel (y ∷ f) (x ∷ g) [] a b = refl
any_fuel (y ∷ f) (x ∷ g) (n ∷ bytes) a b =
    let len = length-drop n bytes in
    elim (leb_tells n (length bytes)) [
      | inl w ↦
          whole_case y f n bytes w.1
          ∙ ap (with_body (take n bytes)) (any_fuel f g (drop n bytes) (omega (arith, len)) (omega (arith, len)))
          ∙ sym (whole_case x g n bytes w.1)
      | inr w ↦ partial_case y f n bytes w.1 ∙ sym (partial_case x g n bytes w.1)
    ]

-- what was cut, and then the rest with more bytes
abbrev onward : Cutting → List ℕ → Cutting
onward cut more = (cut.0 ++ bodies_of (cut.1 ++ more), rest_of (cut.1 ++ more))

cut_on : (f g bytes more : List ℕ) → length bytes ≤ length f → length (bytes ++ more) ≤ length g → cut_within g (bytes ++ more) ≡ onward (cut_within f bytes) more
cut_on [] g [] more a b = any_fuel g more more b (omega arith)
cut_on [] g (n ∷ bytes) more a b = absurd (omega arith)
cut_on (y ∷ f) g [] more a b = any_fuel g more more b (omega arith)
cut_on (y ∷ f) [] (n ∷ bytes) more a b = absurd (omega (arith, length-append bytes more))
cut_on (y ∷ f) (x ∷ g) (n ∷ bytes) more a b =
    let both = length-append bytes more in
    let len = length-drop n bytes in
    elim (leb_tells n (length bytes)) [
      | inl w ↦
          let next : cut_within g (drop n bytes ++ more) ≡ onward (cut_within f (drop n bytes)) more =
          cut_on f g (drop n bytes) more (omega (arith, len)) (omega (arith, len, length-append (drop n bytes) more, both)) in
          whole_case x g n (bytes ++ more) (omega (arith, both))
          ∙ ap (λ (t : List ℕ). with_body t (cut_within g (drop n (bytes ++ more)))) (take-append-le n bytes more w.1)
          ∙ ap (λ (t : List ℕ). with_body (take n bytes) (cut_within g t)) (drop-append-le n bytes more w.1)
          ∙ ap (with_body (take n bytes)) next
          ∙ ap (λ (c : Cutting). onward c more) (sym (whole_case y f n bytes w.1))
      | inr w ↦
          any_fuel (x ∷ g) (n ∷ (bytes ++ more)) (n ∷ (bytes ++ more)) b (omega arith)
          ∙ ap (λ (c : Cutting). onward c more) (sym (partial_case y f n bytes w.1))
    ]

cut_all : (bytes more : List ℕ) → cut_within (bytes ++ more) (bytes ++ more) ≡ onward (cut_within bytes bytes) more
cut_all bytes more = cut_on bytes (bytes ++ more) bytes more (omega arith) (omega arith)

pub bodies_of-append : (bytes more : List ℕ) → bodies_of (bytes ++ more) ≡ bodies_of bytes ++ bodies_of (rest_of bytes ++ more)
bodies_of-append bytes more = ap (λ (c : Cutting). c.0) (cut_all bytes more)

pub rest_of-append : (bytes more : List ℕ) → rest_of (bytes ++ more) ≡ rest_of (rest_of bytes ++ more)
rest_of-append bytes more = ap (λ (c : Cutting). c.1) (cut_all bytes more)

pub cut_partial : (bytes : List ℕ) → IsPartial bytes → (bodies_of bytes ≡ []) × (rest_of bytes ≡ bytes)
cut_partial [] h = (refl, refl)
cut_partial (n ∷ bytes) h =
    let e = partial_case n bytes n bytes (omega arith) in
    (ap (λ (c : Cutting). c.0) e, ap (λ (c : Cutting). c.1) e)

pub cut_framed : (body : List ℕ) → (bodies_of (framed body) ≡ body ∷ []) × (rest_of (framed body) ≡ [])
cut_framed body =
    let n = length body in
    let text : take n body ≡ body = take_all n body (omega arith) in
    let tail : drop n body ≡ [] = nil_from_length _ (omega (arith, length-drop n body)) in
    let e = whole_case n body n body (omega arith)
    ∙ ap (λ (t : List ℕ). with_body t (cut_within body (drop n body))) text
    ∙ ap (λ (t : List ℕ). with_body body (cut_within body t)) tail
    ∙ ap (with_body body) (any_fuel body [] [] (omega arith) (omega arith)) in
    (ap (λ (c : Cutting). c.0) e, ap (λ (c : Cutting). c.1) e)
