-- What was sent where no cross was.
use Rattle.std.proofs.Common.{◌≡◌, ℕ, List, [], refl, ap, ◌∙◌}
use Rattle.std.specs.Prelude.{Some}
use Rattle.std.specs.Io.KnownBytes.{append_known}
use Rattle.host_core.specs.declared.status.Status.{Status}
use Rattle.host_core.specs.declared.status.Status.TheVariants.{Done, ReadFault, SendFault, NoMemory, BadText}
use Rattle.host_core.specs.Outside.{Outside}
use Rattle.host_core.proofs.Known.{append_known-nil}
use Rattle.stream_core.specs.Streamed.{Streamed}
use Rattle.auction_core.specs.Crossed.{HasCrossed, IsAnswer, IsEnd, SendsAtEnd, bytes_max}
use Rattle.auction_core.specs.Texts.{IsTextOf, end_of, lines_of}
use Rattle.auction_core.proofs.Ending.{bad_is}
use Rattle.auction_core.proofs.Texting.{lines_have_text}

-- the text of an input
whole : List ℕ → List ℕ
whole input = (lines_have_text (lines_of input)).0

texts : (input : List ℕ) → IsTextOf (lines_of input) (whole input)
unfolding whole
texts input = (lines_have_text (lines_of input)).1

by_status : (status : Status) {old new : Outside}
    → Streamed (λ read. []) whole end_of IsEnd IsAnswer ((input : List ℕ) → old.input ≡ Some input → new.sent ≡ old.sent) bytes_max status old new → SendsAtEnd status old new
by_status Done crossed other unsent input known = absurd (other refl)
by_status SendFault crossed other unsent input known = absurd (unsent refl)
by_status NoMemory crossed other unsent input known = crossed.starved refl input known
by_status ReadFault {old} crossed other unsent input known = (crossed.unread input known refl).2.sent ∙ append_known-nil old.sent
by_status (BadText n) {old} crossed other unsent input known =
    let exact = crossed.exact input known tt in
    exact.1 ∙ ap (λ (text : List ℕ). append_known old.sent text) ((texts input).bad (λ done. bad_is n (exact.0 ∙ done))) ∙ append_known-nil old.sent
by_status status crossed other unsent input known = absurd crossed.kind

pub sends_at_end : (status : Status) {old new : Outside} → HasCrossed status old new → SendsAtEnd status old new
sends_at_end status crossed = by_status status (crossed whole texts)
