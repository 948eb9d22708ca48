-- The body of a frame in its ranges is read as that frame.
use Rattle.std.proofs.Common.{◌≡◌, ℕ, Bool, List, length, Some, refl, ap, ◌∙◌, arith}
use Rattle.std.proofs.lemmas.List.{take_all}
use Rattle.price_core.specs.declared.quote.Cause.{Cause}
use Rattle.session_core.specs.declared.state.Level.{Level}
use Rattle.session_core.specs.declared.state.Phase.{Phase}
use Rattle.wire_core.proofs.Cells.{wide16, wide32, wide64}
use Rattle.wire_core.proofs.Values.{moment_again, price_again, index_again, name_again}
use Rattle.wire_out.specs.Codes.{is_code, is_field}
use Rattle.wire_out.specs.Reading.{listed_of, state_of, band_of, straddle_of, collar_of, release_of, short_of, breaker_of, market_resume_of, message_of, numbered_of, hello_of, ack_of, refused_of, frame_of}
use Rattle.wire_out.specs.Spelling.{HasTypes, InRange, IsTyped, IsSayable, Spells, body_of, numbered_body}
use Rattle.wire_out.specs.declared.message.ShortKind.{ShortKind}
use Rattle.wire_out.specs.declared.message.Message.{Message}
use Rattle.wire_out.specs.declared.message.Message.TheVariants.{Listed, State, Band, Straddle, Collar, Release, Short, Breaker, MarketResume}
use Rattle.wire_out.specs.declared.message.Frame.{Frame}
use Rattle.wire_out.specs.declared.message.Frame.TheVariants.{Hello, Numbered, Ack, Refused}
use Rattle.wire_out.proofs.Values.{tested_again, count_again, phase_again, cause_again, straddle_again, kind_again, level_again}

listed_again : (n t s : ℕ) (name : List ℕ) → IsTyped (Listed s name) → IsSayable (Listed s name) → listed_of (numbered_body n t (Listed s name)) ≡ Some (Listed s name)
unfolding listed_of
listed_again n t s name h r =
    let body = numbered_body n t (Listed s name) in
    let size : length body ≡ 27 = omega (arith, r.0) in
    let at_19 = name_again 19 body name (take_all 8 name (omega (arith, r.0))) r.1 in
    rw (size, at_19, wide16.read s h) refl

state_again : (n t s : ℕ) (p : Phase) → IsTyped (State s p) → state_of (numbered_body n t (State s p)) ≡ Some (State s p)
unfolding state_of
state_again n t s p h = rw (phase_again p, wide16.read s h) refl

band_again : (n t s : ℕ) (c : Cause) (r l u : ℕ) → IsTyped (Band s c r l u) → band_of (numbered_body n t (Band s c r l u)) ≡ Some (Band s c r l u)
unfolding band_of
band_again n t s c r l u h =
    let body = numbered_body n t (Band s c r l u) in
    let at_20 = price_again 20 body r (wide64.read r (omega (arith, h.1.most))) h.1 in
    let at_28 = price_again 28 body l (wide64.read l (omega (arith, h.2.most))) h.2 in
    let at_36 = price_again 36 body u (wide64.read u (omega (arith, h.3.most))) h.3 in
    rw (cause_again c, at_20, at_28, at_36, wide16.read s h.0) refl

straddle_again' : (n t s : ℕ) (on : Bool) → IsTyped (Straddle s on) → straddle_of (numbered_body n t (Straddle s on)) ≡ Some (Straddle s on)
unfolding straddle_of
straddle_again' n t s on h = rw (straddle_again on, wide16.read s h) refl

collar_again : (n t s k l u : ℕ) → IsTyped (Collar s k l u) → collar_of (numbered_body n t (Collar s k l u)) ≡ Some (Collar s k l u)
unfolding collar_of
collar_again n t s k l u h =
    let body = numbered_body n t (Collar s k l u) in
    let at_21 = price_again 21 body l (wide64.read l (omega (arith, h.2.most))) h.2 in
    let at_29 = price_again 29 body u (wide64.read u (omega (arith, h.3.most))) h.3 in
    rw (at_21, at_29, wide16.read s h.0, wide16.read k h.1) refl

release_again : (n t s p : ℕ) → IsTyped (Release s p) → release_of (numbered_body n t (Release s p)) ≡ Some (Release s p)
unfolding release_of
release_again n t s p h =
    let body = numbered_body n t (Release s p) in
    let at_19 = price_again 19 body p (wide64.read p (omega (arith, h.1.most))) h.1 in
    rw (at_19, wide16.read s h.0) refl

short_again : (n t s : ℕ) (k : ShortKind) → IsTyped (Short s k) → short_of (numbered_body n t (Short s k)) ≡ Some (Short s k)
unfolding short_of
short_again n t s k h = rw (kind_again k, wide16.read s h) refl

breaker_again : (n t : ℕ) (v : Level) (i : ℕ) → IsTyped (Breaker v i) → breaker_of (numbered_body n t (Breaker v i)) ≡ Some (Breaker v i)
unfolding breaker_of
breaker_again n t v i h =
    let body = numbered_body n t (Breaker v i) in
    let at_18 = index_again 18 body i (wide32.read i (omega (arith, h.most))) h in
    rw (level_again v, at_18) refl

market_resume_again : (n t : ℕ) → market_resume_of (numbered_body n t MarketResume) ≡ Some MarketResume
unfolding market_resume_of
market_resume_again n t = refl

message_again : (n t : ℕ) (m : Message) → IsTyped m → IsSayable m → message_of (numbered_body n t m) ≡ Some m
unfolding message_of
message_again n t (Listed s name) h r = listed_again n t s name h r
message_again n t (State s p) h r = state_again n t s p h
message_again n t (Band s c p l u) h r = band_again n t s c p l u h
message_again n t (Straddle s on) h r = straddle_again' n t s on h
message_again n t (Collar s k l u) h r = collar_again n t s k l u h
message_again n t (Release s p) h r = release_again n t s p h
message_again n t (Short s k) h r = short_again n t s k h
message_again n t (Breaker v i) h r = breaker_again n t v i h
message_again n t MarketResume h r = market_resume_again n t

-- the type byte of a message is none of the three others
numbered_is : (n t : ℕ) (m : Message) → frame_of (numbered_body n t m) ≡ numbered_of (numbered_body n t m)
unfolding frame_of
numbered_is n t MarketResume = refl
numbered_is n t _ = refl

pub body_again : (f : Frame) → HasTypes f → InRange f → frame_of (body_of f) ≡ Some f
unfolding frame_of hello_of ack_of refused_of numbered_of
body_again (Hello i m) h r = rw (wide64.read i h.0, wide64.read m h.1) refl
body_again (Ack i) h r =
    let at_1 = count_again 1 (body_of (Ack i)) i (wide64.read i h) r in
    rw at_1 refl
body_again (Refused p c k) h r =
    let at_1 = count_again 1 (body_of (Refused p c k)) p (wide64.read p h.0) r.0 in
    rw (at_1, tested_again is_code c r.1, tested_again (is_field c) k r.2) refl
body_again (Numbered n x) h r =
    let body = numbered_body n x.moment x.message in
    let at_1 = count_again 1 body n (wide64.read n h.0) r.0 in
    let at_9 = moment_again 9 body x.moment (wide64.read x.moment (omega (arith, h.1.in_day))) h.1 in
    numbered_is n x.moment x.message ∙ rw (message_again n x.moment x.message h.2 r.1, at_1, at_9) refl

pub frame_again : (body : List ℕ) (f : Frame) → Spells body f → frame_of body ≡ Some f
frame_again body f s = ap frame_of s.bytes ∙ body_again f s.types s.ranges
