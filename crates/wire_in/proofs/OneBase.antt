-- A body spells at most one base.
use Rattle.std.proofs.Common.{◌≡◌, ℕ, suc, ◌+◌, ◌*◌, ◌^◌, ◌<◌, ◌≤◌, List, [], ◌∷◌, ◌++◌, length, take, drop, refl, sym, ◌∙◌, ap, arith, length-append}
use Rattle.std.specs.Prelude.{All}
use Rattle.std.specs.List.{flat_map}
use Rattle.std.specs.Int.{w16, w64, to_be_bytes, from_be_bytes}
use Rattle.std.proofs.lemmas.List.{take_at, drop_at}
use Rattle.std.proofs.lemmas.List.Elements.{All-nil, All-cons, All-head, All-tail, All-weaker}
use Rattle.wire_core.specs.Frames.{framed}
use Rattle.wire_core.proofs.Cells.{wide16, wide64}
use Rattle.wire_in.specs.declared.base.Base.{Base}
use Rattle.wire_in.specs.Bases.{AreRising, BaseIsAlone, HasForm, IsInRange, IsListed, SpellsBase, base_bytes}
use Rattle.wire_in.specs.Spelling.{body_of}
use Rattle.wire_in.proofs.Streams.{records_differ}

-- two lists that begin with parts of one length
prefix_of : (a b c d : List ℕ) → a ++ b ≡ c ++ d → length a ≡ length c → (a ≡ c) × (b ≡ d)
prefix_of a b c d is len = (
  sym (take_at a b (length a) refl) ∙ ap (take (length a)) is ∙ take_at c d (length a) (sym len),
  sym (drop_at a b (length a) refl) ∙ ap (drop (length a)) is ∙ drop_at c d (length a) (sym len),
)

abbrev pub IsEight : List ℕ → Type 0
IsEight name = length name ≡ 8

abbrev pub IsId : ℕ → Type 0
IsId s = s < 2 ^ 16

-- names of eight bytes each
pub names-length : (names : List (List ℕ)) → All IsEight names → length (flat_map (λ name. name) names) ≡ 8 * length names
names-length [] all = refl
names-length (n ∷ names) all =
    let rest = names-length names (All-tail IsEight n names all) in
    let eight = All-head IsEight n names all in
    omega (arith, length-append n (flat_map (λ name. name) names), rest, eight)

names_alone : (a b : List (List ℕ)) → All IsEight a → All IsEight b → length a ≡ length b → flat_map (λ name. name) a ≡ flat_map (λ name. name) b → a ≡ b
names_alone [] [] ha hb count is = refl
names_alone [] (m ∷ b) ha hb count is = absurd (omega (arith, count))
names_alone (n ∷ a) [] ha hb count is = absurd (omega (arith, count))
names_alone (n ∷ a) (m ∷ b) ha hb count is =
    let parts = prefix_of n (flat_map (λ name. name) a) m (flat_map (λ name. name) b) is (All-head IsEight n a ha ∙ sym (All-head IsEight m b hb)) in
    let rest = names_alone a b (All-tail IsEight n a ha) (All-tail IsEight m b hb) (omega (arith, count)) parts.1 in
    λ i. parts.0 i ∷ rest i

-- numbers of two bytes each
pub ids-length : (ids : List ℕ) → length (flat_map (to_be_bytes w16) ids) ≡ 2 * length ids
ids-length [] = refl
ids-length (s ∷ ids) = omega (arith, length-append (to_be_bytes w16 s) (flat_map (to_be_bytes w16) ids), ids-length ids)

ids_alone : (a b : List ℕ) → All IsId a → All IsId b → length a ≡ length b → flat_map (to_be_bytes w16) a ≡ flat_map (to_be_bytes w16) b → a ≡ b
ids_alone [] [] ha hb count is = refl
ids_alone [] (t ∷ b) ha hb count is = absurd (omega (arith, count))
ids_alone (s ∷ a) [] ha hb count is = absurd (omega (arith, count))
ids_alone (s ∷ a) (t ∷ b) ha hb count is =
    let parts = prefix_of (to_be_bytes w16 s) (flat_map (to_be_bytes w16) a) (to_be_bytes w16 t) (flat_map (to_be_bytes w16) b) is refl in
    let same : s ≡ t = sym (wide16.read s (All-head IsId s a ha)) ∙ ap (λ bytes. from_be_bytes w16 bytes) parts.0 ∙ wide16.read t (All-head IsId t b hb) in
    let rest = ids_alone a b (All-tail IsId s a ha) (All-tail IsId t b hb) (omega (arith, count)) parts.1 in
    λ i. same i ∷ rest i

-- at most so many rising ids as there are names
rising-few : (n m : ℕ) (ids : List ℕ) → All (λ s. s < n) ids → AreRising ids → All (λ s. m ≤ s) ids → m ≤ n → length ids + m ≤ n
rising-few n m [] below rising from le = omega arith
rising-few n m (s ∷ ids) below rising from le =
    let here = All-head (λ s. s < n) s ids below in
    let least = All-head (λ s. m ≤ s) s ids from in
    let rest = rising-few n (suc s) ids (All-tail (λ s. s < n) s ids below) rising.1 rising.0 (omega arith) in
    omega arith

all-least : (ids : List ℕ) → All (λ s. 0 ≤ s) ids
all-least [] = All-nil (λ s. 0 ≤ s)
all-least (s ∷ ids) = All-cons (λ s. 0 ≤ s) s ids (omega arith) (all-least ids)

pub few_carried : (b : Base) → IsInRange b → length b.carried ≤ 16384
few_carried b r =
    let few = rising-few (length b.names) 0 b.carried r.below r.rising (all-least b.carried) (omega arith) in
    omega (arith, few, r.few)

-- a base in its ranges is spelled in the form of one
pub has_form : (body : List ℕ) (b : Base) → SpellsBase body b → HasForm body b
has_form body b s =
    let r = s.ranges in
    record {
      records_fit = omega (arith, r.records_are);
      messages_fit = omega (arith, r.messages_are, r.records_are);
      begins = r.begins;
      sound = s.sound;
      names_fit = omega (arith, r.few);
      sizes = All-weaker IsListed IsEight (λ name listed. listed.0) b.names r.are_names;
      carried_fit = omega (arith, few_carried b r);
      ids_fit = All-weaker (λ t. t < length b.names) IsId (λ t below. omega (arith, below, r.few)) b.carried r.below;
      bytes = s.bytes;
    }

-- the parts of a base's spelling

abbrev pub tail_of : Base → List ℕ
tail_of a = to_be_bytes w16 (length a.carried) ++ flat_map (to_be_bytes w16) a.carried

abbrev pub named_of : Base → List ℕ
named_of a = flat_map (λ name. name) a.names ++ tail_of a

abbrev pub behind_day : Base → List ℕ
behind_day a = to_be_bytes w16 (length a.names) ++ named_of a

abbrev behind_messages : Base → List ℕ
behind_messages a = framed (body_of a.day) ++ behind_day a

abbrev behind_records : Base → List ℕ
behind_records a = to_be_bytes w64 a.messages ++ behind_messages a

in_parts : (a : Base) → base_bytes a ≡ to_be_bytes w64 a.records ++ behind_records a
in_parts a = refl

-- one base has the form of a body
pub form_is_alone : (body : List ℕ) (b c : Base) → HasForm body b → HasForm body c → b ≡ c
form_is_alone body b c p q = λ i. record { records = records i; messages = messages i; day = third.0 i; names = names i; carried = carried i } where
  first : (to_be_bytes w64 b.records ≡ to_be_bytes w64 c.records) × (behind_records b ≡ behind_records c)
  first = prefix_of (to_be_bytes w64 b.records) (behind_records b) (to_be_bytes w64 c.records) (behind_records c) (sym (in_parts b) ∙ sym p.bytes ∙ q.bytes ∙ in_parts c) refl

  second : (to_be_bytes w64 b.messages ≡ to_be_bytes w64 c.messages) × (behind_messages b ≡ behind_messages c)
  second = prefix_of (to_be_bytes w64 b.messages) (behind_messages b) (to_be_bytes w64 c.messages) (behind_messages c) first.1 refl

  third : (b.day ≡ c.day) × (behind_day b ≡ behind_day c)
  third = records_differ b.day c.day (behind_day b) (behind_day c) p.sound q.sound second.1

  fourth : (to_be_bytes w16 (length b.names) ≡ to_be_bytes w16 (length c.names)) × (named_of b ≡ named_of c)
  fourth = prefix_of (to_be_bytes w16 (length b.names)) (named_of b) (to_be_bytes w16 (length c.names)) (named_of c) third.1 refl

  count : length b.names ≡ length c.names
  count = sym (wide16.read (length b.names) p.names_fit) ∙ ap (λ bytes. from_be_bytes w16 bytes) fourth.0 ∙ wide16.read (length c.names) q.names_fit

  fifth : (flat_map (λ name. name) b.names ≡ flat_map (λ name. name) c.names) × (tail_of b ≡ tail_of c)
  fifth = prefix_of (flat_map (λ name. name) b.names) (tail_of b) (flat_map (λ name. name) c.names) (tail_of c) fourth.1
      (names-length b.names p.sizes ∙ ap (λ (n : ℕ). 8 * n) count ∙ sym (names-length c.names q.sizes))

  sixth : (to_be_bytes w16 (length b.carried) ≡ to_be_bytes w16 (length c.carried)) × (flat_map (to_be_bytes w16) b.carried ≡ flat_map (to_be_bytes w16) c.carried)
  sixth = prefix_of (to_be_bytes w16 (length b.carried)) (flat_map (to_be_bytes w16) b.carried) (to_be_bytes w16 (length c.carried)) (flat_map (to_be_bytes w16) c.carried) fifth.1 refl

  ids : length b.carried ≡ length c.carried
  ids = sym (wide16.read (length b.carried) p.carried_fit) ∙ ap (λ bytes. from_be_bytes w16 bytes) sixth.0 ∙ wide16.read (length c.carried) q.carried_fit

  records : b.records ≡ c.records
  records = sym (wide64.read b.records p.records_fit) ∙ ap (λ bytes. from_be_bytes w64 bytes) first.0 ∙ wide64.read c.records q.records_fit

  messages : b.messages ≡ c.messages
  messages = sym (wide64.read b.messages p.messages_fit) ∙ ap (λ bytes. from_be_bytes w64 bytes) second.0 ∙ wide64.read c.messages q.messages_fit

  names : b.names ≡ c.names
  names = names_alone b.names c.names p.sizes q.sizes count fifth.0

  carried : b.carried ≡ c.carried
  carried = ids_alone b.carried c.carried p.ids_fit q.ids_fit ids sixth.1

pub base_is_alone : BaseIsAlone
base_is_alone body b c p q = form_is_alone body b c (has_form body b p) (has_form body c q)
