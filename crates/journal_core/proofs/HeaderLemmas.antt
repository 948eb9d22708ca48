-- The header of a journal.
use Rattle.std.proofs.Common.{◌≡◌, ◌⊎◌, inl, inr, ℕ, ◌≤◌, List, [], ◌++◌, length, take, drop, refl, sym, ap, subst, ◌∙◌, arith, append_assoc, length-append, take-append-drop}
use Rattle.std.specs.Prelude.{min, false, None}
use Rattle.std.specs.Int.{w64, to_be_bytes, from_be_bytes}
use Rattle.std.proofs.lemmas.List.{take-append-le, drop-append-le, length-drop}
use Rattle.std.proofs.lemmas.List.Elements.{All-nil}
use Rattle.wire_core.specs.Fields.{number}
use Rattle.wire_core.proofs.Cells.{IsBytes, wide64, cell}
use Rattle.journal_core.specs.declared.mark.Mark.{Mark}
use Rattle.journal_core.specs.declared.walk.Walk.{Walk}
use Rattle.journal_core.specs.Layout.{IsLimit, header_of, signature_of}
use Rattle.journal_core.specs.Walk.{BeginsWith, HasHeader, HasNoHeader, IsSigned}
use Rattle.journal_core.specs.Walking.{HasWalked}

-- bytes that begin with a header
pub header_read : (bytes : List ℕ) (capacity : ℕ) → IsBytes bytes → 16 ≤ length bytes → IsSigned bytes → number w64 8 bytes ≡ capacity → BeginsWith capacity bytes (drop 16 bytes)
header_read bytes capacity range long (is_second, signed) is = (
  is_second,
  sym (take-append-drop 8 bytes)
      ∙ ap (λ (l : List ℕ). l ++ drop 8 bytes) signed
      ∙ ap (λ (l : List ℕ). signature_of is_second ++ l) (cell wide64 8 bytes (drop 16 bytes) capacity range is long refl)
      ∙ sym (append_assoc (signature_of is_second) (to_be_bytes w64 capacity) (drop 16 bytes)),
)

-- the prefix of the disk that was read
pub record IsPrefixOf (disk ahead rest : List ℕ) : Type 0 where
  pub whole : disk ≡ ahead ++ rest
  pub long : 17 ≤ length ahead

pub prefix_of_disk : (count : ℕ) (disk ahead : List ℕ) → 17 ≤ count → length ahead ≡ count → ahead ≡ take count (drop 0 disk) → IsPrefixOf disk ahead (drop count disk)
prefix_of_disk count disk ahead long len is = record {
  whole = sym (take-append-drop count disk) ∙ ap (λ (l : List ℕ). l ++ drop count disk) (sym is);
  long = omega (arith, len, long);
}

module _ (disk ahead rest : List ℕ) (prefix : IsPrefixOf disk ahead rest) where
  module _ (capacity : ℕ) (range : IsLimit capacity) (begins : BeginsWith capacity ahead (drop 16 ahead)) where
    whole : disk ≡ header_of begins.0 capacity ++ (drop 16 ahead ++ rest)
    whole = prefix.whole ∙ ap (λ (l : List ℕ). l ++ rest) begins.1 ∙ append_assoc (header_of begins.0 capacity) (drop 16 ahead) rest

    pub has_header : HasHeader capacity disk
    has_header = record {
      long = omega (arith, prefix.long, ap length prefix.whole, length-append ahead rest);
      signed = (begins.0, ap (take 8) whole);
      limit_is = ap (number w64 8) whole ∙ wide64.read capacity (omega (arith, range.most));
      range = range;
    }

    pub disk_begins : BeginsWith capacity disk (drop 16 disk)
    disk_begins = (begins.0, whole ∙ ap (λ (l : List ℕ). header_of begins.0 capacity ++ l) (sym (ap (drop 16) whole)))

    -- what a walk has read that was just begun
    pub begun : (walk : Walk) → walk.size ≡ length disk → walk.ahead ≡ ahead → walk.capacity ≡ capacity → walk.start ≡ 0 → walk.gate ≡ 16 → walk.batches ≡ 0 → walk.is_behind ≡ false → walk.base ≡ None → HasWalked walk disk
    begun walk size aheads limits starts gates batches behind bases = record {
      size = size;
      begins = rw limits disk_begins;
      marks = [];
      walked = record { header = rw limits has_header; stand = tt; in_turn = tt; few = omega arith };
      place = sym gates;
      batches = sym batches;
      behind = sym behind;
      base = rw bases (All-nil (λ (mark : Mark). mark.is_base ≡ false));
      rest = rest;
      read = ap (λ (k : ℕ). drop k disk) starts ∙ prefix.whole ∙ ap (λ (l : List ℕ). l ++ rest) (sym aheads);
    }

  same_signature : take 8 disk ≡ take 8 ahead
  same_signature = ap (take 8) prefix.whole ∙ take-append-le 8 ahead rest (omega (arith, prefix.long))

  same_limit : number w64 8 disk ≡ number w64 8 ahead
  same_limit =
      ap (λ (l : List ℕ). from_be_bytes w64 (take 8 (drop 8 l))) prefix.whole
      ∙ ap (λ (l : List ℕ). from_be_bytes w64 (take 8 l)) (drop-append-le 8 ahead rest (omega (arith, prefix.long)))
      ∙ ap (from_be_bytes w64) (take-append-le 8 (drop 8 ahead) rest (omega (arith, prefix.long, length-drop 8 ahead)))

  pub has_no_header : (¬ IsSigned ahead) ⊎ (¬ IsLimit (number w64 8 ahead)) → HasNoHeader disk
  has_no_header (inl unsigned) = inr (inl (λ signed. unsigned (signed.0, sym same_signature ∙ signed.1)))
  has_no_header (inr outside) = inr (inr (λ range. outside (subst IsLimit same_limit range)))
