use Rattle.std.proofs.Common.{◌≡◌, ℕ, List, [], ◌∷◌, ◌++◌, refl, sym, ap, ◌∙◌, append_assoc}
use Rattle.std.specs.Prelude.{Option, codes, decimal}
use Rattle.std.specs.Io.KnownBytes.{append_known}
use Rattle.std.proofs.lemmas.List.{append-nil}
use Rattle.host_core.specs.Outside.{Outside, Elapses}
use Rattle.stream_core.specs.Pending.{SendsPrefix}
use Rattle.stream_core.proofs.Pending.{on_ok}
use Rattle.stream_core.proofs.Sending.{sends_longer, sends_on}
use Rattle.audit_core.specs.Streams.{clean_line}
use Rattle.audit_core.proofs.stream.send_clean.Goals as goal

whole : (messages : ℕ) {word digits end : List ℕ} → word ≡ codes "clean " → digits ≡ decimal messages → end ≡ 10 ∷ [] → (word ++ digits) ++ end ≡ clean_line messages
whole messages {word} {digits} {end} is_word are_digits is_end = append_assoc word digits end ∙ (λ i. is_word i ++ (are_digits i ++ is_end i))

-- the line, sent part by part
module _ (messages : ℕ) {begin : Option (List ℕ)} {old : Outside} {word digits end : List ℕ} (is_word : word ≡ codes "clean ") (are_digits : digits ≡ decimal messages) (is_end : end ≡ 10 ∷ []) where
  first : {mid : Outside} → Elapses old mid (SendsPrefix begin [] old) → Elapses old mid (SendsPrefix begin (clean_line messages) old)
  first run = sends_longer [] (clean_line messages) _ refl run

  second : {mid new : Outside} → Elapses old mid (SendsPrefix begin (clean_line messages) old) → Elapses mid new (SendsPrefix begin word mid) → Elapses old new (SendsPrefix begin (clean_line messages) old)
  second before run = sends_on before word (digits ++ end) (sym (append_assoc word digits end) ∙ whole messages is_word are_digits is_end) run

  third : {mid new : Outside} → Elapses old mid (SendsPrefix begin (clean_line messages) old) → Elapses mid new (SendsPrefix begin (word ++ digits) mid) → Elapses old new (SendsPrefix begin (clean_line messages) old)
  third before run = sends_on before (word ++ digits) end (whole messages is_word are_digits is_end) run

  last : {mid new : Outside} → Elapses old mid (SendsPrefix begin (clean_line messages) old) → Elapses mid new (SendsPrefix begin ((word ++ digits) ++ end) mid) → Elapses old new (SendsPrefix begin (clean_line messages) old)
  last before run = sends_on before ((word ++ digits) ++ end) [] (append-nil _ ∙ whole messages is_word are_digits is_end) run

pub returns-in_err-append_bytes-clause-moments : goal.returns-in_err-append_bytes-clause-moments
returns-in_err-append_bytes-clause-moments g c begin expects = sends_longer [] (clean_line c.args.messages) _ refl (c.append_bytes.ensures.moments begin [] expects)

pub returns-in_err-append_bytes-2-clause-moments : goal.returns-in_err-append_bytes-2-clause-moments
returns-in_err-append_bytes-2-clause-moments g c begin expects =
    let is_word = c.as_bytes.ensures.value in
    second c.args.messages is_word (c.as_bytes-2.ensures.value ∙ c.format.ensures.text) refl
    (sends_longer [] (clean_line c.args.messages) _ refl (c.append_bytes.ensures.moments begin [] expects))
    (c.append_bytes-2.ensures.moments begin _ (c.in_ok-append_bytes.ensures.pending begin [] expects))

pub returns-in_err-append_bytes-3-clause-moments : goal.returns-in_err-append_bytes-3-clause-moments
returns-in_err-append_bytes-3-clause-moments g c begin expects =
    let is_word = c.as_bytes.ensures.value in
    let are_digits = c.as_bytes-2.ensures.value ∙ c.format.ensures.text in
    let now = c.in_ok-append_bytes.ensures.pending begin [] expects in
    third c.args.messages is_word are_digits refl
    (second c.args.messages is_word are_digits refl (sends_longer [] (clean_line c.args.messages) _ refl (c.append_bytes.ensures.moments begin [] expects)) (c.append_bytes-2.ensures.moments begin _ now))
    (c.append_bytes-3.ensures.moments begin _ (c.in_ok-append_bytes-2.ensures.pending begin _ now))

pub returns-clause-sent : goal.returns-clause-sent
returns-clause-sent g c begin expects =
    let is_word = c.as_bytes.ensures.value in
    let are_digits = c.as_bytes-2.ensures.value ∙ c.format.ensures.text in
    let is_end = c.as_bytes-3.ensures.value in
    let all = c.in_ok-append_bytes-3.ensures.pending begin _ (c.in_ok-append_bytes-2.ensures.pending begin _ (c.in_ok-append_bytes.ensures.pending begin [] expects)) in
    on_ok c.flush.result (c.flush.ensures.sent begin _ all)
    (λ sent. sent ∙ ap (λ (text : List ℕ). append_known begin text) (whole c.args.messages is_word are_digits is_end))

pub returns-clause-moments : goal.returns-clause-moments
returns-clause-moments g c begin expects =
    let is_word = c.as_bytes.ensures.value in
    let are_digits = c.as_bytes-2.ensures.value ∙ c.format.ensures.text in
    let is_end = c.as_bytes-3.ensures.value in
    let now = c.in_ok-append_bytes.ensures.pending begin [] expects in
    let next = c.in_ok-append_bytes-2.ensures.pending begin _ now in
    last c.args.messages is_word are_digits is_end
    (third c.args.messages is_word are_digits is_end
    (second c.args.messages is_word are_digits is_end (sends_longer [] (clean_line c.args.messages) _ refl (c.append_bytes.ensures.moments begin [] expects)) (c.append_bytes-2.ensures.moments begin _ now))
    (c.append_bytes-3.ensures.moments begin _ next))
    (c.flush.ensures.moments begin _ (c.in_ok-append_bytes-3.ensures.pending begin _ next))
