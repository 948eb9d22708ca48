-- Turns that are taken one after the other: one more behind those that were taken.
use Rattle.std.proofs.Common.{◌≡◌, ℕ, zero, suc, ◌+◌, ◌<◌, ◌≤◌, Bool, List, [], ◌∷◌, ◌++◌, length, take, get_or, append_assoc, refl, sym, ap, subst, ◌∙◌, add-one, arith}
use Rattle.std.specs.Prelude.{map}
use Rattle.std.proofs.lemmas.List.{append-nil}
use Rattle.std.proofs.Math.Seq.{take-suc}
use Rattle.wire_in.specs.declared.record.Record.{Record}
use Rattle.wire_in.specs.Records.{moment_of}
use Rattle.wire_out.specs.declared.message.Stamped.{Stamped}
use Rattle.symbol_core.specs.Rests.{SymbolState}
use Rattle.market_core.specs.Leads.{LeadState, led, rulings}
use Rattle.market_core.specs.Ruled.{stamped}
use Rattle.merge_core.specs.declared.tagged.Tagged.{Tagged}
use Rattle.shard_core.specs.declared.turns.Turn.{Turn}
use Rattle.shard_core.specs.Block.{tagged}
use Rattle.shard_core.specs.Parts.{Note, Takes, TakesAll}
use Rattle.shard_core.specs.Turns.{Leads, LeadsAll, LeadsTo, Tells, note_of, noted, tagged_from}

-- one more record and its turn

noted-append : (xs : List Record) (turns : List Turn) (x : Record) (turn : Turn) → length turns ≡ length xs → noted (xs ++ x ∷ []) (turns ++ turn ∷ []) ≡ noted xs turns ++ note_of x turn ∷ []
noted-append [] [] x turn same = refl
noted-append [] (t ∷ turns) x turn same = absurd (omega (arith, same))
noted-append (y ∷ xs) [] x turn same = absurd (omega (arith, same))
noted-append (y ∷ xs) (t ∷ turns) x turn same = ap (λ (notes : List Note). note_of y t ∷ notes) (noted-append xs turns x turn (omega (arith, same)))

pub length-noted : (xs : List Record) (turns : List Turn) → length turns ≡ length xs → length (noted xs turns) ≡ length xs
length-noted [] turns same = refl
length-noted (y ∷ xs) [] same = absurd (omega (arith, same))
length-noted (y ∷ xs) (t ∷ turns) same = ap suc (length-noted xs turns (omega (arith, same)))

pub records-noted : (xs : List Record) (turns : List Turn) → length turns ≡ length xs → map (λ note. note.record_of) (noted xs turns) ≡ xs
records-noted [] turns same = refl
records-noted (y ∷ xs) [] same = absurd (omega (arith, same))
records-noted (y ∷ xs) (t ∷ turns) same = ap (λ (zs : List Record). y ∷ zs) (records-noted xs turns (omega (arith, same)))

length-take_all : {X : Type 0} (i : ℕ) (xs : List X) → i ≤ length xs → length (take i xs) ≡ i
length-take_all zero xs le = refl
length-take_all (suc i) [] le = absurd (omega arith)
length-take_all (suc i) (x ∷ xs) le = ap suc (length-take_all i xs (omega arith))

-- the messages at one more record

tagged-append : (index : ℕ) (told : List (List Stamped)) (said : List Stamped) → tagged_from index (told ++ said ∷ []) ≡ tagged_from index told ++ tagged (index + length told) said
tagged-append index [] said =
    let here : index ≡ index + 0 = omega arith in
    append-nil (tagged index said) ∙ ap (λ (k : ℕ). tagged k said) here
tagged-append index (first ∷ told) said =
    let there : suc index + length told ≡ index + length (first ∷ told) = omega arith in
    ap (λ (items : List Tagged). tagged index first ++ items) (tagged-append (suc index) told said ∙ ap (λ (k : ℕ). tagged_from (suc index) told ++ tagged k said) there)
    ∙ sym (append_assoc (tagged index first) (tagged_from (suc index) told) (tagged (index + length (first ∷ told)) said))

-- one more record is led

pub leads-length : (notes : List Note) (lead last : LeadState) (told : List (List Stamped)) → LeadsAll notes lead last told → length told ≡ length notes
leads-length [] lead last told (same, none) = ap length none
leads-length (note ∷ notes) lead last told (later, leads, rest, is) = ap length is ∙ ap suc (leads-length notes (led note.record_of lead) last later rest)

leads-append : (notes : List Note) (note : Note) (lead middle : LeadState) (told : List (List Stamped)) → LeadsAll notes lead middle told → Leads note middle
    → LeadsAll (notes ++ note ∷ []) lead (led note.record_of middle) (told ++ stamped (moment_of note.record_of) (rulings note.record_of middle.today) ∷ [])
leads-append [] note lead middle told (same, none) leads = (
  [],
  subst (λ (l : LeadState). Leads note l) same leads,
  ((λ i. led note.record_of (same i)), refl),
  λ i. none i ++ stamped (moment_of note.record_of) (rulings note.record_of (same i).today) ∷ [],
)
leads-append (first ∷ notes) note lead middle told (later, own, rest, is) leads = (
  later ++ stamped (moment_of note.record_of) (rulings note.record_of middle.today) ∷ [],
  own,
  leads-append notes note (led first.record_of lead) middle later rest leads,
  ap (λ (all : List (List Stamped)). all ++ stamped (moment_of note.record_of) (rulings note.record_of middle.today) ∷ []) is,
)

pub none_led : (lead now : LeadState) (market : List Tagged) → now ≡ lead → market ≡ [] → LeadsTo [] lead now market
none_led lead now market same none = record { told = []; leads = (same, refl); items = none }

pub one_led : (i : ℕ) (xs : List Record) (turns with : List Turn) (turn : Turn) (x : Record) (lead middle new : LeadState) (said : List Stamped) (before after : List Tagged) → i < length xs → length turns ≡ i
    → LeadsTo (noted (take i xs) turns) lead middle before → Leads (note_of x turn) middle → new ≡ led x middle → said ≡ stamped (moment_of x) (rulings x middle.today)
    → after ≡ before ++ tagged i said → with ≡ turns ++ turn ∷ [] → x ≡ get_or xs i x → LeadsTo (noted (take (i + 1) xs) with) lead new after
one_led i xs turns with turn x lead middle new said before after lt count leads own led_is said_is after_is with_is at =
    let notes : noted (take (i + 1) xs) with ≡ noted (take i xs) turns ++ note_of x turn ∷ []
    = (λ j. noted (take (add-one i j) xs) with) ∙ (λ j. noted ((take-suc xs i x lt ∙ ap (λ (y : Record). take i xs ++ y ∷ []) (sym at)) j) (with_is j)) ∙ noted-append (take i xs) turns x turn (count ∙ sym (length-take_all i xs (omega arith))) in
    let many : length leads.told ≡ i = leads-length (noted (take i xs) turns) lead middle leads.told leads.leads ∙ length-noted (take i xs) turns (count ∙ sym (length-take_all i xs (omega arith))) ∙ length-take_all i xs (omega arith) in
    let ms = stamped (moment_of x) (rulings x middle.today) in
    let index : i ≡ 0 + length leads.told = omega (arith, many) in
    subst (λ (ns : List Note). LeadsTo ns lead new after) (sym notes)
    (subst (λ (l : LeadState). LeadsTo (noted (take i xs) turns ++ note_of x turn ∷ []) lead l after) (sym led_is) (record {
      told = leads.told ++ ms ∷ [];
      leads = leads-append (noted (take i xs) turns) (note_of x turn) lead middle leads.told leads.leads own;
      items = after_is ∙ (λ j. leads.items j ++ tagged (index j) (said_is j)) ∙ sym (tagged-append 0 leads.told ms);
    }))

-- one more record is taken

pub takes-length : (start : ℕ) (last : Bool) (notes : List Note) (old new : List SymbolState) (told : List (List Stamped)) → TakesAll start last notes old new told → length told ≡ length notes
takes-length start last [] old new told (same, none) = ap length none
takes-length start last (note ∷ notes) old new told (middle, said, later, takes, rest, is) = ap length is ∙ ap suc (takes-length start last notes middle new later rest)

takes-append : (start : ℕ) (last : Bool) (notes : List Note) (note : Note) (old middle new : List SymbolState) (told : List (List Stamped)) (said : List Stamped) → TakesAll start last notes old middle told
    → Takes start last note middle new said → TakesAll start last (notes ++ note ∷ []) old new (told ++ said ∷ [])
takes-append start last [] note old middle new told said (same, none) takes = (
  new,
  said,
  [],
  subst (λ (xs : List SymbolState). Takes start last note xs new said) same takes,
  (refl, refl),
  ap (λ (all : List (List Stamped)). all ++ said ∷ []) none,
)
takes-append start last (first ∷ notes) note old middle new told said (between, own, later, takes, rest, is) one = (
  between,
  own,
  later ++ said ∷ [],
  takes,
  takes-append start last notes note between middle new later said rest one,
  ap (λ (all : List (List Stamped)). all ++ said ∷ []) is,
)

pub none_told : (start : ℕ) (last : Bool) (old new : List SymbolState) (items : List Tagged) → new ≡ old → items ≡ [] → Tells start last [] old new items
none_told start last old new items same none = record { told = []; takes = (same, refl); items_are = none }

pub one_told : (start : ℕ) (last : Bool) (i : ℕ) (xs : List Record) (turns : List Turn) (x : Record) (turn : Turn) (old middle new : List SymbolState) (said : List Stamped) (before after : List Tagged)
    → i < length xs → length turns ≡ length xs → x ≡ get_or xs i x → turn ≡ get_or turns i turn
    → Tells start last (noted (take i xs) (take i turns)) old middle before → Takes start last (note_of x turn) middle new said → after ≡ before ++ tagged i said
    → Tells start last (noted (take (i + 1) xs) (take (i + 1) turns)) old new after
one_told start last i xs turns x turn old middle new said before after lt same at at' tells takes after_is =
    let firsts : length (take i xs) ≡ i = length-take_all i xs (omega arith) in
    let counts : length (take i turns) ≡ length (take i xs) = length-take_all i turns (omega (arith, same)) ∙ sym firsts in
    let notes : noted (take (i + 1) xs) (take (i + 1) turns) ≡ noted (take i xs) (take i turns) ++ note_of x turn ∷ []
    = (λ j. noted (take (add-one i j) xs) (take (add-one i j) turns)) ∙ (λ j. noted ((take-suc xs i x lt ∙ ap (λ (y : Record). take i xs ++ y ∷ []) (sym at)) j) ((take-suc turns i turn (omega (arith, same)) ∙ ap (λ (y : Turn). take i turns ++ y ∷ []) (sym at')) j))
    ∙ noted-append (take i xs) (take i turns) x turn counts in
    let many : length tells.told ≡ i = takes-length start last (noted (take i xs) (take i turns)) old middle tells.told tells.takes ∙ length-noted (take i xs) (take i turns) counts ∙ firsts in
    let index : i ≡ 0 + length tells.told = omega (arith, many) in
    subst (λ (ns : List Note). Tells start last ns old new after) (sym notes) (record {
      told = tells.told ++ said ∷ [];
      takes = takes-append start last (noted (take i xs) (take i turns)) (note_of x turn) old middle new tells.told said tells.takes takes;
      items_are = after_is ∙ (λ j. tells.items_are j ++ tagged (index j) said) ∙ sym (tagged-append 0 tells.told said);
    })

-- and all of them

take-past : {X : Type 0} (i : ℕ) (xs : List X) → length xs ≤ i → take i xs ≡ xs
take-past zero [] le = refl
take-past zero (x ∷ xs) le = absurd (omega arith)
take-past (suc i) [] le = refl
take-past (suc i) (x ∷ xs) le = ap (λ (ys : List _). x ∷ ys) (take-past i xs (omega arith))

pub all_led : (i : ℕ) (xs : List Record) (turns : List Turn) (lead new : LeadState) (market : List Tagged) → length xs ≤ i → LeadsTo (noted (take i xs) turns) lead new market → LeadsTo (noted xs turns) lead new market
all_led i xs turns lead new market le leads = subst (λ (ys : List Record). LeadsTo (noted ys turns) lead new market) (take-past i xs le) leads

pub all_told : (start : ℕ) (last : Bool) (i : ℕ) (xs : List Record) (turns : List Turn) (old new : List SymbolState) (items : List Tagged) → length xs ≤ i → length turns ≡ length xs
    → Tells start last (noted (take i xs) (take i turns)) old new items → Tells start last (noted xs turns) old new items
all_told start last i xs turns old new items le same tells =
    subst (λ (ys : List Record). Tells start last (noted ys turns) old new items) (take-past i xs le)
    (subst (λ (ts : List Turn). Tells start last (noted (take i xs) ts) old new items) (take-past i turns (omega (arith, same))) tells)
