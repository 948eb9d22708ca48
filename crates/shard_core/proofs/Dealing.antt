-- The stocks of several parts in one section, and dealt out to parts again.
use Rattle.std.proofs.Common.{◌≡◌, ℕ, zero, suc, ◌+◌, ◌<◌, ◌≤◌, List, [], ◌∷◌, ◌++◌, length, take, drop, get_or, append_assoc, length-append, sym, ap, ◌∙◌, arith}
use Rattle.std.specs.Prelude.{slice_set}
use Rattle.std.proofs.lemmas.List.{append-nil, drop-set, flat_map_more, take-append-drop, take_more}
use Rattle.symbol_core.specs.Rests.{SymbolState}
use Rattle.market_core.specs.Sections.{SectionState}
use Rattle.shard_core.proofs.Gathered.{stocks_of}

-- one part more is gathered
pub gathered_more : (before : List SymbolState) (olds : List SectionState) (k : ℕ) (part d : SectionState) (all : List SymbolState) → k < length olds → all ≡ before ++ stocks_of (take k olds)
    → part ≡ get_or olds k d → all ++ part.symbols ≡ before ++ stocks_of (take (k + 1) olds)
gathered_more before olds k part d all lt is same =
    ap (λ (xs : List SymbolState). xs ++ part.symbols) is ∙ append_assoc before (stocks_of (take k olds)) part.symbols
    ∙ ap (λ (xs : List SymbolState). before ++ xs) (ap (λ (s : SectionState). stocks_of (take k olds) ++ s.symbols) same
    ∙ flat_map_more (λ (s : SectionState). s.symbols) [] (take k olds) (get_or olds k d) ∙ ap stocks_of (sym (take_more olds k d lt)))

-- the stocks of the first parts and of the next one are no more than all
pub stocks_within : (olds : List SectionState) (k : ℕ) (d : SectionState) → k < length olds → length (stocks_of (take k olds)) + length (get_or olds k d).symbols ≤ length (stocks_of olds)
stocks_within [] k d lt = absurd (omega (arith, lt))
stocks_within (part ∷ olds) zero d lt = omega (arith, length-append part.symbols (stocks_of olds))
stocks_within (part ∷ olds) (suc k) d lt =
    let later = stocks_within olds k d (omega (arith, lt)) in
    omega (arith, later, length-append part.symbols (stocks_of olds), length-append part.symbols (stocks_of (take k olds)))

-- one part more is dealt what lies behind its end
pub dealt_more : (parts : List SectionState) (k end : ℕ) (left : List SymbolState) (part : SectionState) → k < length parts → part.symbols ≡ drop end left
    → take end left ++ stocks_of (drop k (slice_set parts k part)) ≡ left ++ stocks_of (drop (k + 1) parts)
dealt_more parts k end left part lt is =
    ap (λ (ps : List SectionState). take end left ++ stocks_of ps) (drop-set parts k part lt)
    ∙ ap (λ (xs : List SymbolState). take end left ++ (xs ++ stocks_of (drop (k + 1) parts))) is
    ∙ sym (append_assoc (take end left) (drop end left) (stocks_of (drop (k + 1) parts)))
    ∙ ap (λ (xs : List SymbolState). xs ++ stocks_of (drop (k + 1) parts)) (take-append-drop end left)

-- the first part is dealt the rest
pub dealt_all : (parts : List SectionState) (left : SectionState) (all : List SymbolState) → 0 < length parts → left.symbols ++ stocks_of (drop 1 parts) ≡ all → stocks_of (slice_set parts 0 left) ≡ all
dealt_all [] left all some is = absurd (omega arith)
dealt_all (part ∷ parts) left all some is = is

-- none are dealt yet
pub none_dealt : (parts : List SectionState) (k : ℕ) (left : List SymbolState) → length parts ≤ k → left ++ stocks_of (drop k parts) ≡ left
none_dealt [] zero left le = append-nil left
none_dealt [] (suc k) left le = append-nil left
none_dealt (part ∷ parts) zero left le = absurd (omega arith)
none_dealt (part ∷ parts) (suc k) left le = none_dealt parts k left (omega arith)

pub drop_fewer : (n : ℕ) (stocks : List SymbolState) → length (drop n stocks) ≤ length stocks
drop_fewer zero stocks = omega arith
drop_fewer (suc n) [] = omega arith
drop_fewer (suc n) (stock ∷ stocks) = let fewer = drop_fewer n stocks in omega (arith, fewer)

pub take_fewer : (n : ℕ) (stocks : List SymbolState) → length (take n stocks) ≤ length stocks
take_fewer zero stocks = omega arith
take_fewer (suc n) [] = omega arith
take_fewer (suc n) (stock ∷ stocks) = let fewer = take_fewer n stocks in omega (arith, fewer)
