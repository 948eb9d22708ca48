-- Numbers and texts at their offsets, read and spelled. A body is rebuilt from its end, a field at a time.
use Rattle.std.proofs.Common.{◌≡◌, ℕ, suc, ◌+◌, ◌^◌, ◌<◌, ◌≤◌, List, [], ◌∷◌, ◌++◌, length, get_or, take, drop, refl, sym, ap, ◌∙◌, arith, add-one, drop-cons, inl, inr}
use Rattle.std.specs.Int.{Width, w16, w32, w64, byte_len, from_be_bytes, to_be_bytes}
use Rattle.std.proofs.lemmas.Bool.{cases_lt}
use Rattle.std.proofs.lemmas.List.{take-append-drop, length-take, get_or-drop, get_or-take, get_or_past, nil_from_length, length-drop, drop-drop}
use Rattle.std.proofs.lemmas.Nat.{be_bytes_2, be_bytes_4, be_bytes_8, from_be_bytes-to_be_bytes_2, from_be_bytes-to_be_bytes_4, from_be_bytes-to_be_bytes_8}
use Rattle.wire_core.specs.Fields.{number}

abbrev pub IsBytes : List ℕ → Type 0
IsBytes bytes = (i : ℕ) → get_or bytes i 0 < 256

pub IsBytes-drop : (n : ℕ) (bytes : List ℕ) → IsBytes bytes → IsBytes (drop n bytes)
IsBytes-drop n bytes h i = rw get_or-drop (h (n + i))

pub IsBytes-take : (n : ℕ) (bytes : List ℕ) → IsBytes bytes → IsBytes (take n bytes)
IsBytes-take n bytes h i =
    elim (cases_lt i n) [
      | inl lt ↦ rw (get_or-take n bytes i 0 lt) (h i)
      | inr le ↦ rw (get_or_past (take n bytes) i 0 (omega (arith, length-take n bytes))) (omega arith)
    ]

-- a width whose numbers have one spelling, and are below the limit
pub record IsWide (w : Width) (limit : ℕ) : Type 0 where
  pub spelled : (bytes : List ℕ) → length bytes ≡ byte_len w → IsBytes bytes → to_be_bytes w (from_be_bytes w bytes) ≡ bytes
  pub read : (n : ℕ) → n < limit → from_be_bytes w (to_be_bytes w n) ≡ n
  pub below : (bytes : List ℕ) → IsBytes bytes → from_be_bytes w bytes < limit

pub wide16 : IsWide w16 (2 ^ 16)
wide16 = record {
  spelled = λ bytes len fits. be_bytes_2 bytes _ len fits refl;
  read = from_be_bytes-to_be_bytes_2;
  below = λ bytes fits. omega (arith, fits 0, fits 1);
}

pub wide32 : IsWide w32 (2 ^ 32)
wide32 = record {
  spelled = λ bytes len fits. be_bytes_4 bytes _ len fits refl;
  read = from_be_bytes-to_be_bytes_4;
  below = λ bytes fits. omega (arith, fits 0, fits 1, fits 2, fits 3);
}

pub wide64 : IsWide w64 (2 ^ 64)
wide64 = record {
  spelled = λ bytes len fits. be_bytes_8 bytes _ len fits refl;
  read = from_be_bytes-to_be_bytes_8;
  below = λ bytes fits. omega (arith, fits 0, fits 1, fits 2, fits 3, fits 4, fits 5, fits 6, fits 7);
}

-- the number that stands at an offset is spelled there, before what stands behind it
pub cell : {w : Width} {limit : ℕ} → IsWide w limit → (at : ℕ) (body rest : List ℕ) (n : ℕ) → IsBytes body → number w at body ≡ n → at + byte_len w ≤ length body → drop (at + byte_len w) body ≡ rest → drop at body ≡ to_be_bytes w n ++ rest
cell {w} wide at body rest n fits is long e =
    let bytes = take (byte_len w) (drop at body) in
    let len : length bytes ≡ byte_len w = omega (arith, length-take (byte_len w) (drop at body), length-drop at body) in
    let spelled : to_be_bytes w n ≡ bytes = ap (to_be_bytes w) (sym is) ∙ wide.spelled bytes len (IsBytes-take (byte_len w) (drop at body) (IsBytes-drop at body fits)) in
    sym (take-append-drop (byte_len w) (drop at body))
    ∙ ap (λ (t : List ℕ). bytes ++ t) (drop-drop (byte_len w) at body ∙ e)
    ∙ ap (λ (t : List ℕ). t ++ rest) (sym spelled)

pub byte_cell : (at : ℕ) (body rest : List ℕ) (b : ℕ) → get_or body at 0 ≡ b → at < length body → drop (at + 1) body ≡ rest → drop at body ≡ b ∷ rest
byte_cell at body rest b is lt e =
    drop-cons body at 0 lt
    ∙ ap (λ (c : ℕ). c ∷ drop (suc at) body) is
    ∙ ap (λ (t : List ℕ). b ∷ t) (ap (λ (k : ℕ). drop k body) (sym (add-one at)) ∙ e)

pub text_cell : (n at : ℕ) (body rest text : List ℕ) → take n (drop at body) ≡ text → drop (at + n) body ≡ rest → drop at body ≡ text ++ rest
text_cell n at body rest text is e =
    sym (take-append-drop n (drop at body))
    ∙ ap (λ (t : List ℕ). take n (drop at body) ++ t) (drop-drop n at body ∙ e)
    ∙ ap (λ (t : List ℕ). t ++ rest) is

-- nothing stands behind the whole body
pub ended : (n : ℕ) (body : List ℕ) → length body ≡ n → drop n body ≡ []
ended n body e = nil_from_length _ (omega (arith, length-drop n body))

pub number_below : {w : Width} {limit : ℕ} → IsWide w limit → (at : ℕ) (body : List ℕ) → IsBytes body → number w at body < limit
number_below {w} wide at body fits = wide.below _ (IsBytes-take (byte_len w) (drop at body) (IsBytes-drop at body fits))
