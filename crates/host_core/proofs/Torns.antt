-- Writes of a range, whole or cut short.
use Rattle.std.proofs.Common.{◌≡◌, ◌⊎◌, inl, inr, ℕ, zero, suc, ◌+◌, ◌-◌, ◌≤◌, ◌<◌, List, [], ◌∷◌, ◌++◌, length, take, drop, refl, sym, ◌∙◌, ap, arith, append_assoc, take-append-drop, take-take, drop-drop, length-append, length-drop}
use Rattle.std.proofs.lemmas.List.{append-nil, take_at, drop_at, drop_all, length-take, length-take-le}
use Rattle.std.proofs.lemmas.Bool.{cases_lt}
use Rattle.host_core.specs.Outside.{Torn, written}

take_grows : (n : ℕ) (xs ys : List ℕ) → (more : List ℕ) × (take n (xs ++ ys) ≡ take n xs ++ more)
take_grows zero xs ys = ([], refl)
take_grows (suc n) [] ys = (take (suc n) ys, refl)
take_grows (suc n) (x ∷ xs) ys = let later = take_grows n xs ys in (later.0, ap (λ (l : List ℕ). x ∷ l) later.1)

drop_grows : (n : ℕ) (xs ys : List ℕ) → (more : List ℕ) × (drop n (xs ++ ys) ≡ drop n xs ++ more)
drop_grows zero xs ys = (ys, refl)
drop_grows (suc n) [] ys = (drop (suc n) ys, refl)
drop_grows (suc n) (x ∷ xs) ys = drop_grows n xs ys

-- nothing was written
pub torn_none : (at n : ℕ) (disk : List ℕ) → Torn at n disk disk
torn_none at n disk = record {
  rest = drop at disk;
  before = sym (take-append-drop at disk);
  more = [];
  after = sym (append-nil (drop (at + n) disk));
  no_shorter = omega arith;
}

-- a write within a range is one of the range
pub torn_within : (at n at' n' : ℕ) {old new : List ℕ} → at ≤ at' → at' + n' ≤ at + n → Torn at' n' old new → Torn at n old new
torn_within at n at' n' {old} {new} le within torn =
    let k = (at + n) - (at' + n') in
    let to : (at' + n') + k ≡ at + n = omega (arith, within) in
    let more = drop_grows k (drop (at' + n') old) torn.more in
    record {
      rest = drop at (take at' old) ++ torn.rest;
      before = torn.before
          ∙ ap (λ (l : List ℕ). l ++ torn.rest) (sym (take-append-drop at (take at' old)) ∙ ap (λ (l : List ℕ). l ++ drop at (take at' old)) (take-take at at' old le))
          ∙ append_assoc (take at old) (drop at (take at' old)) torn.rest;
      more = more.0;
      after = ap (λ (i : ℕ). drop i new) (sym to) ∙ sym (drop-drop k (at' + n') new) ∙ ap (drop k) torn.after ∙ more.1
          ∙ ap (λ (l : List ℕ). l ++ more.0) (drop-drop k (at' + n') old ∙ ap (λ (i : ℕ). drop i old) to);
      no_shorter = torn.no_shorter;
    }

-- two writes of one range are one
pub torn_twice : (at n : ℕ) {old mid new : List ℕ} → Torn at n old mid → Torn at n mid new → Torn at n old new
torn_twice at n {old} {mid} first second =
    let prefix = take_grows at (take at old) first.rest in
    let same : take at mid ≡ take at old ++ prefix.0 = ap (take at) first.before ∙ prefix.1 ∙ ap (λ (l : List ℕ). l ++ prefix.0) (take-take at at old (omega arith)) in
    record {
      rest = prefix.0 ++ second.rest;
      before = second.before ∙ ap (λ (l : List ℕ). l ++ second.rest) same ∙ append_assoc (take at old) prefix.0 second.rest;
      more = first.more ++ second.more;
      after = second.after ∙ ap (λ (l : List ℕ). l ++ second.more) first.after ∙ append_assoc (drop (at + n) old) first.more second.more;
      no_shorter = omega (arith, first.no_shorter, second.no_shorter);
    }

-- behind the piece stands what stood there
behind : (at : ℕ) (piece disk : List ℕ) → (length disk < at) ⊎ (at ≤ length disk) → drop (at + length piece) (written at piece disk) ≡ drop (at + length piece) disk
behind at piece disk (inl past) =
    drop_all (at + length piece) (written at piece disk) (omega (arith, length-append (take at disk ++ piece) (drop (at + length piece) disk), length-append (take at disk) piece, length-drop (at + length piece) disk, length-take at disk))
    ∙ sym (drop_all (at + length piece) disk (omega arith))
behind at piece disk (inr inside) =
    drop_at (take at disk ++ piece) (drop (at + length piece) disk) (at + length piece) (omega (arith, length-take-le at disk inside, length-append (take at disk) piece))

-- a whole write is one of those that a stop may leave
pub torn_whole : (at : ℕ) (piece disk : List ℕ) → Torn at (length piece) disk (written at piece disk)
torn_whole at piece disk =
    let rest = drop (at + length piece) disk in
    record {
      rest = piece ++ rest;
      before = append_assoc (take at disk) piece rest;
      more = [];
      after = behind at piece disk (cases_lt (length disk) at) ∙ sym (append-nil rest);
      no_shorter = omega (arith, length-append (take at disk ++ piece) rest, length-append (take at disk) piece, length-drop (at + length piece) disk, length-take at disk);
    }

-- a piece behind a piece, from one offset on
pub written_behind : (at : ℕ) (first second disk : List ℕ) → at ≤ length disk
    → written (at + length first) second (written at first disk) ≡ written at (first ++ second) disk
written_behind at first second disk within =
    let prefix = take at disk in
    let next = at + length first in
    let rest = drop next disk in
    let mid = written at first disk in
    let len : length (prefix ++ first) ≡ next = omega (arith, length-append prefix first, length-take-le at disk within) in
    let before : take next mid ≡ prefix ++ first = take_at (prefix ++ first) rest next len in
    let after : drop (next + length second) mid ≡ drop (at + length (first ++ second)) disk =
    sym (drop-drop (length second) next mid)
    ∙ ap (drop (length second)) (drop_at (prefix ++ first) rest next len)
    ∙ drop-drop (length second) next disk
    ∙ ap (λ (k : ℕ). drop k disk) (omega (arith, length-append first second)) in
    ap (λ (l : List ℕ). (l ++ second) ++ drop (next + length second) mid) before
    ∙ ap (λ (l : List ℕ). ((prefix ++ first) ++ second) ++ l) after
    ∙ ap (λ (l : List ℕ). l ++ drop (at + length (first ++ second)) disk) (append_assoc prefix first second)

-- no bytes
pub written_nothing : (at : ℕ) (disk : List ℕ) → written at [] disk ≡ disk
written_nothing at disk =
    ap (λ (l : List ℕ). l ++ drop (at + 0) disk) (append-nil (take at disk)) ∙ ap (λ (k : ℕ). take at disk ++ drop k disk) (omega arith) ∙ take-append-drop at disk

-- what is written within a disk, or at its end, stands there
pub written_reaches : (at : ℕ) (piece disk : List ℕ) → at ≤ length disk → at + length piece ≤ length (written at piece disk)
written_reaches at piece disk within =
    omega (arith, length-append (take at disk ++ piece) (drop (at + length piece) disk), length-append (take at disk) piece, length-take-le at disk within)
