-- The reads of the input that were kept, as more is read and sent.
use Rattle.std.proofs.Common.{◌≡◌, ◌≤◌, ℕ, List, [], ◌∷◌, ◌++◌, length, take, drop, refl, sym, ◌∙◌, ap, subst, arith, length-append}
use Rattle.std.specs.Prelude.{Some, All, map}
use Rattle.std.proofs.lemmas.List.{take-append-le, take_all, map-append}
use Rattle.std.proofs.lemmas.List.Elements.{All-append, All-cons, All-head, All-nil, All-tail, All-weaker}
use Rattle.memory_host.specs.declared.effect.Request.{Request}
use Rattle.memory_host.specs.Requests.{ask_of, IsBehind}

-- what is sent later changes no read
kept : (input sent more : List ℕ) (requests : List Request) → All (IsBehind sent) requests
    → map (ask_of input (sent ++ more)) requests ≡ map (ask_of input sent) requests
kept input sent more [] behind = refl
kept input sent more (request ∷ requests) behind =
    let now : request.sent ≤ length sent = All-head (IsBehind sent) request requests behind in
    let first : take request.sent (sent ++ more) ≡ take request.sent sent = take-append-le request.sent sent more now in
    let rest = kept input sent more requests (All-tail (IsBehind sent) request requests behind) in
    cc

module _ (input sent : List ℕ) (requests : List Request) where
  pub kept_asks : (sent' more : List ℕ) → sent' ≡ sent ++ more → All (IsBehind sent) requests
      → map (ask_of input sent') requests ≡ map (ask_of input sent) requests
  kept_asks sent' more is behind = ap (λ (s : List ℕ). map (ask_of input s) requests) is ∙ kept input sent more requests behind

  pub still_behind : (sent' more : List ℕ) → sent' ≡ sent ++ more → All (IsBehind sent) requests → All (IsBehind sent') requests
  still_behind sent' more is behind =
      let longer : length sent ≤ length sent' = omega (arith, ap length is, length-append sent more) in
      All-weaker (IsBehind sent) (IsBehind sent') (λ request below. omega (arith, below, longer)) requests behind

  -- one read more, which begins now
  module _ (taken size : ℕ) (size_is : size ≡ length sent) (requests' : List Request)
      (is : requests' ≡ requests ++ record { taken = taken; sent = size } ∷ []) where
    pub one_ask : map (ask_of input sent) requests'
        ≡ map (ask_of input sent) requests ++ record { left = drop taken input; sent = sent } ∷ []
    one_ask =
        let all : take size sent ≡ sent = take_all size sent (omega arith) in
        ap (map (ask_of input sent)) is
        ∙ map-append (ask_of input sent) requests (record { taken = taken; sent = size } ∷ [])
        ∙ ap (λ (s : List ℕ). map (ask_of input sent) requests ++ record { left = drop taken input; sent = s } ∷ [])
        all

    -- as what a host exposes says it
    pub asks_one : (left bytes : List ℕ) → Some (drop taken input) ≡ Some left → Some sent ≡ Some bytes
        → Some (map (ask_of input sent) requests') ≡ Some (map (ask_of input sent) requests ++ record { left = left; sent = bytes } ∷ [])
    asks_one left bytes left_is sent_is =
        let left' : drop taken input ≡ left = cc in
        let sent' : sent ≡ bytes = cc in
        ap Some one_ask
        ∙ ap (λ (l : List ℕ). Some (map (ask_of input sent) requests ++ record { left = l; sent = sent } ∷ [])) left'
        ∙ ap (λ (b : List ℕ). Some (map (ask_of input sent) requests ++ record { left = left; sent = b } ∷ [])) sent'

    pub one_behind : All (IsBehind sent) requests → All (IsBehind sent) requests'
    one_behind behind =
        let last : size ≤ length sent = omega arith in
        subst (All (IsBehind sent)) (sym is)
        (All-append (IsBehind sent) requests (record { taken = taken; sent = size } ∷ []) behind
        (All-cons (IsBehind sent) (record { taken = taken; sent = size }) [] last (All-nil (IsBehind sent))))
