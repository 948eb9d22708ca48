-- A body that is read is the body of its frame, which is in its ranges. Each body is rebuilt from its end.
use Rattle.std.proofs.Common.{◌≡◌, ℕ, ◌^◌, ◌<◌, ◌≤◌, Bool, true, false, cond, eqb, List, [], ◌∷◌, ◌++◌, length, get_or, drop, Option, Some, None, refl, subst, ◌∙◌, ◌⊎◌, inl, inr, arith}
use Rattle.std.specs.Int.{w16, w64, to_be_bytes}
use Rattle.std.proofs.lemmas.Bool.{eqb-true}
use Rattle.std.proofs.lemmas.List.{append-nil}
use Rattle.wire_core.specs.Fields.{number}
use Rattle.wire_core.proofs.Cells.{IsBytes, wide16, wide32, wide64, cell, byte_cell, text_cell, ended, number_below}
use Rattle.wire_core.proofs.Values.{moment_ok, price_ok, index_ok, name_ok, name_length}
use Rattle.wire_out.specs.Codes.{is_code, is_field}
use Rattle.wire_out.specs.Reading.{sized, listed_of, state_of, band_of, straddle_of, collar_of, release_of, short_of, breaker_of, market_resume_of, message_of, numbered_of, hello_of, ack_of, refused_of, frame_of}
use Rattle.wire_out.specs.Spelling.{IsTyped, IsSayable, Spells, numbered_body}
use Rattle.wire_out.specs.declared.message.Message.{Message}
use Rattle.wire_out.specs.declared.message.Frame.{Frame}
use Rattle.wire_out.proofs.Values.{step, some_is, tested_ok, count_ok, phase_ok, cause_ok, straddle_ok, kind_ok, level_ok}

sized_ok : {A : Type 0} (n : ℕ) (body : List ℕ) (read : Option A) (x : A) → sized n body read ≡ Some x → (length body ≡ n) × (read ≡ Some x)
sized_ok {A} n body read x e = in_case (eqb (length body) n) refl e where
  in_case : (b : Bool) → eqb (length body) n ≡ b → cond b read None ≡ Some x → (length body ≡ n) × (read ≡ Some x)
  in_case true t h = (eqb-true _ _ t, h)
  in_case false t h = absurd cc

-- a body gives a message, behind whatever number and moment stand there
pub record Tells (body : List ℕ) (m : Message) : Type 0 where
  pub types : IsTyped m
  pub ranges : IsSayable m
  pub room : 17 ≤ length body
  pub bytes : (n t : ℕ) → number w64 1 body ≡ n → number w64 9 body ≡ t → body ≡ numbered_body n t m

-- the fields of a message, behind its type byte, its number and its moment
behind_head : (kind : ℕ) (body fields : List ℕ) → IsBytes body → 17 ≤ length body → get_or body 0 0 ≡ kind → drop 17 body ≡ fields → (n t : ℕ) → number w64 1 body ≡ n → number w64 9 body ≡ t → body ≡ kind ∷ to_be_bytes w64 n ++ to_be_bytes w64 t ++ fields
behind_head kind body fields fits long is e n t is_n is_t =
    byte_cell 0 body _ kind is (omega arith) (
    cell wide64 1 body _ n fits is_n (omega arith) (
    cell wide64 9 body _ t fits is_t (omega arith) e))

listed_found : (body : List ℕ) (m : Message) → IsBytes body → get_or body 0 0 ≡ 0x11 → listed_of body ≡ Some m → Tells body m
unfolding listed_of
listed_found body m fits kind e =
    let s = sized_ok 27 body _ m e in
    let a = step _ _ m _ (name_ok 19 body) s.1 in
    let fields =
    cell wide16 17 body _ (number w16 17 body) fits refl (omega arith) (
    text_cell 8 19 body _ a.0 a.1.0 (ended 27 body s.0) ∙ append-nil a.0) in
    subst (Tells body) (some_is _ m a.2) (record { types = number_below wide16 17 body fits; ranges = (name_length 19 body a.0 a.1.0 (omega arith), a.1.1); room = omega arith; bytes = behind_head 0x11 body _ fits (omega arith) kind fields })

state_found : (body : List ℕ) (m : Message) → IsBytes body → get_or body 0 0 ≡ 0x12 → state_of body ≡ Some m → Tells body m
unfolding state_of
state_found body m fits kind e =
    let s = sized_ok 20 body _ m e in
    let p = step _ _ m _ (phase_ok (get_or body 19 0)) s.1 in
    let fields =
    cell wide16 17 body _ (number w16 17 body) fits refl (omega arith) (
    byte_cell 19 body _ _ p.1 (omega arith) (
    ended 20 body s.0)) in
    subst (Tells body) (some_is _ m p.2) (record { types = number_below wide16 17 body fits; ranges = tt; room = omega arith; bytes = behind_head 0x12 body _ fits (omega arith) kind fields })

band_found : (body : List ℕ) (m : Message) → IsBytes body → get_or body 0 0 ≡ 0x13 → band_of body ≡ Some m → Tells body m
unfolding band_of
band_found body m fits kind e =
    let s = sized_ok 44 body _ m e in
    let c = step _ _ m _ (cause_ok (get_or body 19 0)) s.1 in
    let r = step _ _ m _ (price_ok 20 body) c.2 in
    let l = step _ _ m _ (price_ok 28 body) r.2 in
    let u = step _ _ m _ (price_ok 36 body) l.2 in
    let fields =
    cell wide16 17 body _ (number w16 17 body) fits refl (omega arith) (
    byte_cell 19 body _ _ c.1 (omega arith) (
    cell wide64 20 body _ r.0 fits r.1.0 (omega arith) (
    cell wide64 28 body _ l.0 fits l.1.0 (omega arith) (
    cell wide64 36 body _ u.0 fits u.1.0 (omega arith) (
    ended 44 body s.0))))) in
    subst (Tells body) (some_is _ m u.2) (record { types = (number_below wide16 17 body fits, r.1.1, l.1.1, u.1.1); ranges = tt; room = omega arith; bytes = behind_head 0x13 body _ fits (omega arith) kind fields })

straddle_found : (body : List ℕ) (m : Message) → IsBytes body → get_or body 0 0 ≡ 0x14 → straddle_of body ≡ Some m → Tells body m
unfolding straddle_of
straddle_found body m fits kind e =
    let s = sized_ok 20 body _ m e in
    let on = step _ _ m _ (straddle_ok (get_or body 19 0)) s.1 in
    let fields =
    cell wide16 17 body _ (number w16 17 body) fits refl (omega arith) (
    byte_cell 19 body _ _ on.1 (omega arith) (
    ended 20 body s.0)) in
    subst (Tells body) (some_is _ m on.2) (record { types = number_below wide16 17 body fits; ranges = tt; room = omega arith; bytes = behind_head 0x14 body _ fits (omega arith) kind fields })

collar_found : (body : List ℕ) (m : Message) → IsBytes body → get_or body 0 0 ≡ 0x15 → collar_of body ≡ Some m → Tells body m
unfolding collar_of
collar_found body m fits kind e =
    let s = sized_ok 37 body _ m e in
    let l = step _ _ m _ (price_ok 21 body) s.1 in
    let u = step _ _ m _ (price_ok 29 body) l.2 in
    let fields =
    cell wide16 17 body _ (number w16 17 body) fits refl (omega arith) (
    cell wide16 19 body _ (number w16 19 body) fits refl (omega arith) (
    cell wide64 21 body _ l.0 fits l.1.0 (omega arith) (
    cell wide64 29 body _ u.0 fits u.1.0 (omega arith) (
    ended 37 body s.0)))) in
    subst (Tells body) (some_is _ m u.2) (record { types = (number_below wide16 17 body fits, number_below wide16 19 body fits, l.1.1, u.1.1); ranges = tt; room = omega arith; bytes = behind_head 0x15 body _ fits (omega arith) kind fields })

release_found : (body : List ℕ) (m : Message) → IsBytes body → get_or body 0 0 ≡ 0x16 → release_of body ≡ Some m → Tells body m
unfolding release_of
release_found body m fits kind e =
    let s = sized_ok 27 body _ m e in
    let p = step _ _ m _ (price_ok 19 body) s.1 in
    let fields =
    cell wide16 17 body _ (number w16 17 body) fits refl (omega arith) (
    cell wide64 19 body _ p.0 fits p.1.0 (omega arith) (
    ended 27 body s.0)) in
    subst (Tells body) (some_is _ m p.2) (record { types = (number_below wide16 17 body fits, p.1.1); ranges = tt; room = omega arith; bytes = behind_head 0x16 body _ fits (omega arith) kind fields })

short_found : (body : List ℕ) (m : Message) → IsBytes body → get_or body 0 0 ≡ 0x17 → short_of body ≡ Some m → Tells body m
unfolding short_of
short_found body m fits kind e =
    let s = sized_ok 20 body _ m e in
    let k = step _ _ m _ (kind_ok (get_or body 19 0)) s.1 in
    let fields =
    cell wide16 17 body _ (number w16 17 body) fits refl (omega arith) (
    byte_cell 19 body _ _ k.1 (omega arith) (
    ended 20 body s.0)) in
    subst (Tells body) (some_is _ m k.2) (record { types = number_below wide16 17 body fits; ranges = tt; room = omega arith; bytes = behind_head 0x17 body _ fits (omega arith) kind fields })

breaker_found : (body : List ℕ) (m : Message) → IsBytes body → get_or body 0 0 ≡ 0x18 → breaker_of body ≡ Some m → Tells body m
unfolding breaker_of
breaker_found body m fits kind e =
    let s = sized_ok 22 body _ m e in
    let v = step _ _ m _ (level_ok (get_or body 17 0)) s.1 in
    let i = step _ _ m _ (index_ok 18 body) v.2 in
    let fields =
    byte_cell 17 body _ _ v.1 (omega arith) (
    cell wide32 18 body _ i.0 fits i.1.0 (omega arith) (
    ended 22 body s.0)) in
    subst (Tells body) (some_is _ m i.2) (record { types = i.1.1; ranges = tt; room = omega arith; bytes = behind_head 0x18 body _ fits (omega arith) kind fields })

market_resume_found : (body : List ℕ) (m : Message) → IsBytes body → get_or body 0 0 ≡ 0x19 → market_resume_of body ≡ Some m → Tells body m
unfolding market_resume_of
market_resume_found body m fits kind e =
    let s = sized_ok 17 body _ m e in
    subst (Tells body) (some_is _ m s.1) (record { types = tt; ranges = tt; room = omega arith; bytes = behind_head 0x19 body _ fits (omega arith) kind (ended 17 body s.0) })

chosen : {A : Type 0} (b : Bool) (x y z : A) → cond b x y ≡ z → ((b ≡ true) × (x ≡ z)) ⊎ ((b ≡ false) × (y ≡ z))
chosen true x y z e = inl (refl, e)
chosen false x y z e = inr (refl, e)

pub message_found : (body : List ℕ) (m : Message) → IsBytes body → message_of body ≡ Some m → Tells body m
unfolding message_of
message_found [] m fits e = absurd cc
message_found (t ∷ rest) m fits e =
    elim (chosen (eqb t 0x11) _ _ _ e) [
      | inl w ↦ listed_found (t ∷ rest) m fits (eqb-true _ _ w.0) w.1
      | inr w0 ↦
          elim (chosen (eqb t 0x12) _ _ _ w0.1) [
            | inl w ↦ state_found (t ∷ rest) m fits (eqb-true _ _ w.0) w.1
            | inr w1 ↦
                elim (chosen (eqb t 0x13) _ _ _ w1.1) [
                  | inl w ↦ band_found (t ∷ rest) m fits (eqb-true _ _ w.0) w.1
                  | inr w2 ↦
                      elim (chosen (eqb t 0x14) _ _ _ w2.1) [
                        | inl w ↦ straddle_found (t ∷ rest) m fits (eqb-true _ _ w.0) w.1
                        | inr w3 ↦
                            elim (chosen (eqb t 0x15) _ _ _ w3.1) [
                              | inl w ↦ collar_found (t ∷ rest) m fits (eqb-true _ _ w.0) w.1
                              | inr w4 ↦
                                  elim (chosen (eqb t 0x16) _ _ _ w4.1) [
                                    | inl w ↦ release_found (t ∷ rest) m fits (eqb-true _ _ w.0) w.1
                                    | inr w5 ↦
                                        elim (chosen (eqb t 0x17) _ _ _ w5.1) [
                                          | inl w ↦ short_found (t ∷ rest) m fits (eqb-true _ _ w.0) w.1
                                          | inr w6 ↦
                                              elim (chosen (eqb t 0x18) _ _ _ w6.1) [
                                                | inl w ↦ breaker_found (t ∷ rest) m fits (eqb-true _ _ w.0) w.1
                                                | inr w7 ↦
                                                    elim (chosen (eqb t 0x19) _ _ _ w7.1) [
                                                      | inl w ↦ market_resume_found (t ∷ rest) m fits (eqb-true _ _ w.0) w.1
                                                      | inr w8 ↦
                                                          absurd (let unknown = w8.1 in cc)
                                                    ]
                                              ]
                                        ]
                                  ]
                            ]
                      ]
                ]
          ]
    ]

pub numbered_found : (body : List ℕ) (f : Frame) → IsBytes body → numbered_of body ≡ Some f → Spells body f
unfolding numbered_of
numbered_found body f fits e =
    let m = step _ _ f _ (λ m. message_found body m fits) e in
    let n = step _ _ f _ (count_ok 1 body) m.2 in
    let t = step _ _ f _ (moment_ok 9 body) n.2 in
    let below : n.0 < 2 ^ 64 = subst (λ (k : ℕ). k < 2 ^ 64) n.1.0 (number_below wide64 1 body fits) in
    subst (Spells body) (some_is _ f t.2) (record { types = (below, t.1.1, m.1.types); ranges = (n.1.1, m.1.ranges); bytes = m.1.bytes n.0 t.0 n.1.0 t.1.0 })

hello_found : (body : List ℕ) (f : Frame) → IsBytes body → get_or body 0 0 ≡ 0x81 → hello_of body ≡ Some f → Spells body f
unfolding hello_of
hello_found body f fits kind e =
    let s = sized_ok 17 body _ f e in
    let bytes =
    byte_cell 0 body _ 0x81 kind (omega arith) (
    cell wide64 1 body _ (number w64 1 body) fits refl (omega arith) (
    cell wide64 9 body _ (number w64 9 body) fits refl (omega arith) (
    ended 17 body s.0))) in
    subst (Spells body) (some_is _ f s.1) (record { types = (number_below wide64 1 body fits, number_below wide64 9 body fits); ranges = tt; bytes = bytes })

ack_found : (body : List ℕ) (f : Frame) → IsBytes body → get_or body 0 0 ≡ 0x82 → ack_of body ≡ Some f → Spells body f
unfolding ack_of
ack_found body f fits kind e =
    let s = sized_ok 9 body _ f e in
    let i = step _ _ f _ (count_ok 1 body) s.1 in
    let below : i.0 < 2 ^ 64 = subst (λ (k : ℕ). k < 2 ^ 64) i.1.0 (number_below wide64 1 body fits) in
    let bytes =
    byte_cell 0 body _ 0x82 kind (omega arith) (
    cell wide64 1 body _ i.0 fits i.1.0 (omega arith) (
    ended 9 body s.0)) in
    subst (Spells body) (some_is _ f i.2) (record { types = below; ranges = i.1.1; bytes = bytes })

refused_found : (body : List ℕ) (f : Frame) → IsBytes body → get_or body 0 0 ≡ 0x83 → refused_of body ≡ Some f → Spells body f
unfolding refused_of
refused_found body f fits kind e =
    let s = sized_ok 11 body _ f e in
    let p = step _ _ f _ (count_ok 1 body) s.1 in
    let c = step _ _ f _ (tested_ok is_code (get_or body 9 0)) p.2 in
    let k = step _ _ f _ (tested_ok (is_field c.0) (get_or body 10 0)) c.2 in
    let below : p.0 < 2 ^ 64 = subst (λ (n : ℕ). n < 2 ^ 64) p.1.0 (number_below wide64 1 body fits) in
    let code : c.0 < 2 ^ 8 = subst (λ (n : ℕ). n < 2 ^ 8) c.1.0 (fits 9) in
    let field : k.0 < 2 ^ 8 = subst (λ (n : ℕ). n < 2 ^ 8) k.1.0 (fits 10) in
    let bytes =
    byte_cell 0 body _ 0x83 kind (omega arith) (
    cell wide64 1 body _ p.0 fits p.1.0 (omega arith) (
    byte_cell 9 body _ c.0 c.1.0 (omega arith) (
    byte_cell 10 body _ k.0 k.1.0 (omega arith) (
    ended 11 body s.0)))) in
    subst (Spells body) (some_is _ f k.2) (record { types = (below, code, field); ranges = (p.1.1, c.1.1, k.1.1); bytes = bytes })

pub frame_found : (body : List ℕ) (f : Frame) → IsBytes body → frame_of body ≡ Some f → Spells body f
unfolding frame_of
frame_found [] f fits e = absurd cc
frame_found (t ∷ rest) f fits e =
    elim (chosen (eqb t 0x81) _ _ _ e) [
      | inl w ↦ hello_found (t ∷ rest) f fits (eqb-true _ _ w.0) w.1
      | inr w0 ↦
          elim (chosen (eqb t 0x82) _ _ _ w0.1) [
            | inl w ↦ ack_found (t ∷ rest) f fits (eqb-true _ _ w.0) w.1
            | inr w1 ↦
                elim (chosen (eqb t 0x83) _ _ _ w1.1) [
                  | inl w ↦ refused_found (t ∷ rest) f fits (eqb-true _ _ w.0) w.1
                  | inr w2 ↦ numbered_found (t ∷ rest) f fits w2.1
                ]
          ]
    ]
