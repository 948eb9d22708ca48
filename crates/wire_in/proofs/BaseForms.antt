-- The parts of a base at their offsets.
use Rattle.std.proofs.Common.{◌≡◌, ℕ, ◌+◌, ◌*◌, ◌^◌, ◌<◌, true, List, [], ◌++◌, length, take, drop, get_or, refl, sym, ◌∙◌, ap, subst, true≢false, arith, length-append}
use Rattle.std.specs.Prelude.{All, Bool, IsTrue, ◌↔◌, Option, Some, None, is_some}
use Rattle.std.specs.List.{flat_map}
use Rattle.std.specs.Int.{w16, w64, to_be_bytes, from_be_bytes}
use Rattle.std.proofs.lemmas.List.{drop_at, drop-drop, length-drop}
use Rattle.wire_core.specs.Fields.{number}
use Rattle.wire_core.specs.Frames.{framed}
use Rattle.wire_core.proofs.Cells.{IsBytes, wide16, wide64, cell, byte_cell, text_cell, number_below}
use Rattle.wire_in.specs.declared.base.Base.{Base}
use Rattle.wire_in.specs.declared.record.Record.{Record}
use Rattle.wire_in.specs.Bases.{AreNew, HasDay, HasForm, HasNames, IsInRange, IsNearlyInRange, SpellsBase}
use Rattle.wire_in.specs.Records.{is_day}
use Rattle.wire_in.specs.Spelling.{body_of}
use Rattle.wire_in.proofs.OneBase.{IsEight, IsId, behind_day, form_is_alone, has_form, ids-length, named_of, names-length, tail_of}
use Rattle.wire_in.proofs.RecordKinds.{by_listing}

-- the bytes with a day, and what follows it
abbrev with_day : ℕ → ℕ → Record → List ℕ → List ℕ
with_day records messages x rest = to_be_bytes w64 records ++ (to_be_bytes w64 messages ++ (framed (body_of x) ++ rest))

record DayStands (records messages : ℕ) (rest : List ℕ) (x : Record) : Type 0 where
  behind : drop 36 (with_day records messages x rest) ≡ rest
  len : get_or (with_day records messages x rest) 16 0 ≡ 19
  body : take 19 (drop 17 (with_day records messages x rest)) ≡ body_of x
  frame : length (framed (body_of x)) ≡ 20

day_stands : (records messages : ℕ) (rest : List ℕ) (x : Record) → is_day x ≡ true → DayStands records messages rest x
day_stands records messages rest = by_listing (λ x. is_day x ≡ true → DayStands records messages rest x)
    (λ t d v is. record { behind = refl; len = refl; body = refl; frame = refl })
    (λ t n k l c is. absurd (true≢false (sym is))) (λ x o is. absurd (true≢false (sym is ∙ o.no_day)))

pub day-length : (x : Record) → is_day x ≡ true → length (framed (body_of x)) ≡ 20
day-length x is = (day_stands 0 0 [] x is).frame

module _ {body : List ℕ} {b : Base} (f : HasForm body b) where
  stands : DayStands b.records b.messages (behind_day b) b.day
  stands = day_stands b.records b.messages (behind_day b) b.day f.begins

  -- what stands behind the day
  at_36 : drop 36 body ≡ behind_day b
  at_36 = ap (drop 36) f.bytes ∙ stands.behind

  at_38 : drop 38 body ≡ named_of b
  at_38 = sym (drop-drop 2 36 body) ∙ ap (drop 2) at_36

  at_ids : drop (38 + 8 * length b.names) body ≡ tail_of b
  at_ids = sym (drop-drop (8 * length b.names) 38 body) ∙ ap (drop (8 * length b.names)) at_38 ∙ drop_at (flat_map (λ name. name) b.names) (tail_of b) (8 * length b.names) (names-length b.names f.sizes)

  size : length body ≡ 40 + 8 * length b.names + 2 * length b.carried
  size = omega (arith, ap length at_36, length-drop 36 body, names-length b.names f.sizes, ids-length b.carried, length-append (flat_map (λ name. name) b.names) (tail_of b))

  pub names_there : HasNames (length b.names) body
  names_there =
      let says : number w16 36 body ≡ length b.names = ap (λ (t : List ℕ). from_be_bytes w16 (take 2 t)) at_36 ∙ wide16.read (length b.names) f.names_fit in
      let ids : number w16 (38 + 8 * length b.names) body ≡ length b.carried = ap (λ (t : List ℕ). from_be_bytes w16 (take 2 t)) at_ids ∙ wide16.read (length b.carried) f.carried_fit in
      record {
        says = says;
        room = omega (arith, size);
        len = size ∙ ap (λ (k : ℕ). 40 + 8 * length b.names + 2 * k) (sym ids);
      }

  pub day_there : HasDay b.day body
  day_there = record {
    begins = f.begins;
    len = ap (λ (t : List ℕ). get_or t 16 0) f.bytes ∙ stands.len;
    spelled = record { types = f.sound.types; ranges = f.sound.ranges; bytes = ap (λ (t : List ℕ). take 19 (drop 17 t)) f.bytes ∙ stands.body };
  }

-- a body that was read by its parts
pub form_made : (body : List ℕ) (n : ℕ) (x : Record) (names : List (List ℕ)) (ids : List ℕ) → IsBytes body → HasNames n body → HasDay x body
    → flat_map (λ name. name) names ≡ take (8 * n) (drop 38 body) → All IsEight names → length names ≡ n
    → flat_map (to_be_bytes w16) ids ≡ drop (38 + 8 * n + 2) body → All IsId ids
    → HasForm body (record { records = number w64 0 body; messages = number w64 8 body; day = x; names = names; carried = ids })
form_made body n x names ids fits has day names_are sizes count ids_are id_sizes =
    let room = has.room in
    let len : length ids ≡ number w16 (38 + 8 * n) body = omega (arith, ids-length ids, ap length ids_are, length-drop (38 + 8 * n + 2) body, has.len) in
    let frame = day-length x day.begins in
    let tail = cell wide16 (38 + 8 * n) body (flat_map (to_be_bytes w16) ids) (length ids) fits (sym len) (omega (arith, room)) (sym ids_are) in
    let named = text_cell (8 * n) 38 body _ (flat_map (λ name. name) names) (sym names_are) tail in
    let counted = cell wide16 36 body _ (length names) fits (has.says ∙ sym count) (omega (arith, room)) named in
    let spelled = text_cell 19 17 body _ (body_of x) day.spelled.bytes counted in
    let framed_ = byte_cell 16 body _ (length (body_of x)) (day.len ∙ omega (arith, frame)) (omega (arith, room)) spelled in
    let messages = cell wide64 8 body _ (number w64 8 body) fits refl (omega (arith, room)) framed_ in
    record {
      records_fit = number_below wide64 0 body fits;
      messages_fit = number_below wide64 8 body fits;
      begins = day.begins;
      sound = record { types = day.spelled.types; ranges = day.spelled.ranges };
      names_fit = subst (λ (k : ℕ). k < 2 ^ 16) (has.says ∙ sym count) (number_below wide16 36 body fits);
      sizes = sizes;
      carried_fit = subst (λ (k : ℕ). k < 2 ^ 16) (sym len) (number_below wide16 (38 + 8 * n) body fits);
      ids_fit = id_sizes;
      bytes = cell wide64 0 body _ (number w64 0 body) fits refl (omega (arith, room)) messages;
    }

-- what the form says of the base that a body spells
pub spelled_from : (body : List ℕ) (b : Base) → HasForm body b → IsInRange b → SpellsBase body b
spelled_from body b f ranges = record { ranges = ranges; sound = f.sound; bytes = f.bytes }

pub is_spelled : (body : List ℕ) (b c : Base) → HasForm body b → SpellsBase body c → b ≡ c
is_spelled body b c f s = form_is_alone body b c f (has_form body c s)

pub none_spelled : (body : List ℕ) (b : Base) → HasForm body b → ¬ IsInRange b → (c : Base) → ¬ SpellsBase body c
none_spelled body b f outside c s = outside (subst IsInRange (sym (is_spelled body b c f s)) s.ranges)

-- what the parts of a body say where it spells a base
pub no_names : (body : List ℕ) (o : Option ℕ) → o ≡ None → ((n : ℕ) → HasNames n body → o ≡ Some n) → (b : Base) → ¬ SpellsBase body b
no_names body o none only b s = true≢false (sym (ap is_some (only (length b.names) (names_there (has_form body b s)))) ∙ ap is_some none)

pub no_day : (body : List ℕ) (o : Option Record) → o ≡ None → ((x : Record) → HasDay x body → o ≡ Some x) → (b : Base) → ¬ SpellsBase body b
no_day body o none only b s = true≢false (sym (ap is_some (only b.day (day_there (has_form body b s)))) ∙ ap is_some none)

-- the ranges of a base by parts
pub in_range_by : (b : Base) (r : Bool) → is_day b.day ≡ true → IsNearlyInRange b → IsTrue r ↔ AreNew [] b.names → IsTrue r ↔ IsInRange b
in_range_by b r begins nearly new = (
  λ holds. record {
    some = nearly.few.some;
    records_are = nearly.few.records_are;
    messages_are = nearly.few.messages_are;
    begins = begins;
    few = nearly.few.few;
    different = new.0 holds;
    are_names = nearly.are_names;
    rising = nearly.rising;
    below = nearly.below;
  },
  λ ranges. new.1 ranges.different,
)

pub nearly_in_range : (b : Base) → IsInRange b → IsNearlyInRange b
nearly_in_range b r = record {
  few = record { some = r.some; records_are = r.records_are; messages_are = r.messages_are; few = r.few };
  are_names = r.are_names;
  rising = r.rising;
  below = r.below;
}
