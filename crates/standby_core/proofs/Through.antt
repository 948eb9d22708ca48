-- A journal that was read to its end.
use Rattle.std.proofs.Common.{◌≡◌, ℕ, Bool, true, false, List, [], ◌∷◌, ◌++◌, map, refl, sym, ap, subst, ◌∙◌, append_assoc}
use Rattle.std.specs.Prelude.{All, IsTrue, Option, None, reverse}
use Rattle.std.proofs.lemmas.List.{append-nil}
use Rattle.std.proofs.lemmas.List.Elements.{All-head, All-tail}
use Rattle.std.specs.Io.KnownBytes.{append_known}
use Rattle.host_core.specs.Outside.{Outside}
use Rattle.wire_in.specs.declared.base.Base.{Base}
use Rattle.wire_in.specs.declared.record.Record.{Record}
use Rattle.journal_core.specs.Layout.{AddBlocks, AreInTurn, Holds, IsBatch, block_of, mark_of, records_of, with_batch}
use Rattle.journal_core.specs.Scan.{LeadsTo, records_before}
use Rattle.journal_core.proofs.Batches.{batches_valid, records_first}
use Rattle.journal_core.proofs.Readable.{all_passed}
use Rattle.rulebook.specs.Admission.{IsLawful}
use Rattle.rulebook.specs.Base.{IsLawfulAfter}
use Rattle.rulebook.proofs.Origins.{lawful-both}
use Rattle.recovery_core.specs.Origins.{origin_of}
use Rattle.recovery_core.specs.Recoveries.{IsReadThrough}
use Rattle.standby_core.specs.declared.reading.Reading.{Reading}
use Rattle.standby_core.specs.Reading.{Reads}
use Rattle.standby_core.specs.Shipped.{ShipsThrough, parts_behind}

turn_of_batches : (behind : Bool) (batches : List (List Record)) → AreInTurn behind (map mark_of (map block_of batches))
turn_of_batches behind [] = tt
turn_of_batches behind (batch ∷ batches) = (refl, turn_of_batches true batches)

batches_lead : (batches : List (List Record)) (held : List Record) → All IsBatch batches → AddBlocks (map block_of batches) held (records_of batches ++ held)
batches_lead [] held valid = refl
batches_lead (batch ∷ batches) held valid = (
  with_batch held batch,
  (batch, All-head IsBatch batch batches valid, refl, refl),
  subst (λ (l : List Record). AddBlocks (map block_of batches) (with_batch held batch) l) (sym same) (batches_lead batches (with_batch held batch) (All-tail IsBatch batch batches valid)),
)
  where
    same : records_of (batch ∷ batches) ++ held ≡ records_of batches ++ (reverse batch ++ held)
    same =
        ap (λ (l : List Record). l ++ held) (records_first (batch ∷ []) batches ∙ ap (λ (l : List Record). records_of batches ++ reverse l) (append-nil batch))
        ∙ append_assoc (records_of batches) (reverse batch) held

held_by : {capacity gate : ℕ} {batches : List (List Record)} {disk rest : List ℕ} → LeadsTo capacity gate None batches disk (0 ∷ rest) → Holds disk capacity (records_of batches)
held_by {capacity} {gate} {batches} {disk} {rest} p = record {
  gate = gate;
  held = record {
    blocks = map block_of batches;
    rest = rest;
    passes = rw (p.ends) at (all_passed p);
    in_turn = turn_of_batches false batches;
    adds = subst (λ (l : List Record). AddBlocks (map block_of batches) [] l) (append-nil (records_of batches)) (batches_lead batches [] (batches_valid batches p.prefix p.spelled));
  };
}

lawful_whole : (capacity : ℕ) (records : List Record) → IsLawfulAfter (origin_of None) capacity records → IsLawful capacity records
lawful_whole capacity records lawful = subst (IsLawful capacity) (append-nil records) (lawful-both capacity records [] lawful tt)

pub read_through : {batches : List (List Record)} {disk : List ℕ} {reading : Reading} {now : Outside} → Reads batches disk reading now → IsTrue reading.scan.is_closed → IsReadThrough disk
read_through {batches} {disk} {reading} r is_closed =
    let zero = r.read.closed is_closed in
    let scan = reading.scan in
    let leads : LeadsTo scan.capacity scan.gate scan.base batches disk (0 ∷ zero.0) = subst (λ (l : List ℕ). LeadsTo scan.capacity scan.gate scan.base batches disk l) zero.1 r.read.leads in
    record {
      capacity = scan.capacity;
      gate = scan.gate;
      base = scan.base;
      batches = batches;
      rest = zero.0;
      leads = leads;
      lawful = r.admits.lawful;
      whole = λ none. (
        held_by (subst (λ (b : Option Base). LeadsTo scan.capacity scan.gate b batches disk (0 ∷ zero.0)) none leads),
        lawful_whole scan.capacity (records_of batches) (subst (λ (b : Option Base). IsLawfulAfter (origin_of b) scan.capacity (records_of batches)) none r.admits.lawful),
      );
    }

-- and of which exactly the Parts were sent that are asked for
pub ships_through : (from : ℕ) {batches : List (List Record)} {disk : List ℕ} {reading : Reading} {now old new : Outside} → Reads batches disk reading now → IsTrue reading.scan.is_closed
    → new.sent ≡ append_known old.sent (parts_behind (records_before reading.scan.base) from (records_of batches)) → ShipsThrough from disk old new
unfolding read_through
ships_through from r is_closed sent = record { through = read_through r is_closed; sent = sent }
