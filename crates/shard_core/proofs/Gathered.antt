-- What several parts tell of a block, one behind the other, is what one market gives.
use Rattle.std.proofs.Common.{◌≡◌, ℕ, zero, suc, ◌+◌, ◌<◌, ◌≤◌, Bool, true, false, List, [], ◌∷◌, ◌++◌, length, refl, sym, ap, subst, ◌∙◌, arith}
use Rattle.std.specs.Prelude.{All, flat_map, map}
use Rattle.std.proofs.Math.Logic.{∥∥₁_elim, ∥∥₁_map, ∥∥₁_prop}
use Rattle.std.proofs.Props.{props}
use mathlib.Core.Sum.{⊎_set}
use Rattle.std.proofs.lemmas.List.{append-nil}
use Rattle.std.proofs.lemmas.List.Elements.{All-nil, All-cons, All-append}
use Rattle.wire_in.specs.declared.record.Record.{Record}
use Rattle.wire_out.specs.declared.message.Stamped.{Stamped}
use Rattle.symbol_core.specs.Rests.{SymbolState}
use Rattle.market_core.specs.Leads.{LeadState}
use Rattle.market_core.specs.MarketState.{Represents}
use Rattle.market_core.specs.Sections.{SectionState}
use Rattle.merge_core.specs.declared.tagged.Tagged.{Tagged}
use Rattle.shard_core.specs.declared.turns.Turn.{Turn}
use Rattle.shard_core.specs.Block.{AreAdmissible, followed, given, tagged}
use Rattle.merge_core.specs.Merged.{AreOfFirst, merged}
use Rattle.shard_core.specs.Parts.{Note, PartsTake, Taken, TakesAll, behind_each, whole_of}
use Rattle.shard_core.specs.Turns.{LeadsTo, PartsTell, Tells, first_id, noted, tagged_from}
use Rattle.shard_core.proofs.Blocks.{block_gives, records_of}
use Rattle.shard_core.proofs.Markets.{market_with}
use Rattle.shard_core.proofs.Merging.{merged_is, said_at}
use Rattle.shard_core.proofs.OneProof.{represents_prop}
use Rattle.shard_core.proofs.Parts.{parts_take}
use Rattle.shard_core.proofs.Turning.{leads-length, length-noted, records-noted, takes-length}

-- the messages of each part
abbrev pub tolds : Taken → List Taken → List (List (List Stamped))
tolds first later = map (λ part. part.told) (first ∷ later)

abbrev pub stocks_of : List SectionState → List SymbolState
stocks_of parts = flat_map (λ part. part.symbols) parts

-- the parts as ranges that take records
pub record Gathers (start : ℕ) (notes : List Note) (olds news : List SectionState) (told : List (List Tagged)) : Type 0 where
  pub first : Taken
  pub later : List Taken
  pub takes : PartsTake start notes first later
  pub old_is : (whole_of first later).old ≡ stocks_of olds
  pub new_is : (whole_of first later).new ≡ stocks_of news
  pub told_is : told ≡ map (tagged_from 0) (tolds first later)

abbrev taken : (start : ℕ) (last : Bool) (notes : List Note) (old new : List SymbolState) (items : List Tagged) → Tells start last notes old new items → Taken
taken start last notes old new items tells = record { old = old; new = new; told = tells.told }

-- the parts behind the first one
behind_first : (start below : ℕ) (notes : List Note) (old new : SectionState) (items : List Tagged) (olds news : List SectionState) (told : List (List Tagged))
    → PartsTell start (suc below) notes (old ∷ olds) (new ∷ news) (items ∷ told) → PartsTell (start + length old.symbols) below notes olds news told
behind_first start below notes old new items olds news told tell = λ k was is said lt found left says.
    let index : start + (length old.symbols + first_id olds k) ≡ (start + length old.symbols) + first_id olds k = omega arith in
    ∥∥₁_map (tell (suc k) was is said (omega arith) found left says) (λ own. record {
      inner = λ inside. subst (λ (n : ℕ). Tells n false notes was.symbols is.symbols said) index (own.inner (omega arith));
      last = λ at. subst (λ (n : ℕ). Tells n true notes was.symbols is.symbols said) index (own.last (omega (arith, at)));
    })

pub gathers : (start : ℕ) (notes : List Note) (olds news : List SectionState) (told : List (List Tagged)) → 0 < length olds → length news ≡ length olds → length told ≡ length olds
    → PartsTell start (length olds) notes olds news told → ∥ Gathers start notes olds news told ∥₁
gathers start notes [] news told some as_many each tell = absurd (omega arith)
gathers start notes (old ∷ olds) [] told some as_many each tell = absurd (omega (arith, as_many))
gathers start notes (old ∷ olds) (new ∷ news) [] some as_many each tell = absurd (omega (arith, each))
gathers start notes (old ∷ []) (new ∷ []) (items ∷ []) some as_many each tell =
    let here : start + 0 ≡ start = omega arith in
    ∥∥₁_map (tell 0 old new items (omega arith) refl refl refl) (λ part.
    let own = subst (λ (n : ℕ). Tells n true notes old.symbols new.symbols items) here (part.last (omega arith)) in
    record {
      first = taken start true notes old.symbols new.symbols items own;
      later = [];
      takes = own.takes;
      old_is = sym (append-nil old.symbols);
      new_is = sym (append-nil new.symbols);
      told_is = ap (λ (ms : List Tagged). ms ∷ []) own.items_are;
    })
gathers start notes (old ∷ []) (new ∷ newer ∷ news) told some as_many each tell = absurd (omega (arith, as_many))
gathers start notes (old ∷ []) (new ∷ []) (items ∷ more ∷ told) some as_many each tell = absurd (omega (arith, each))
gathers start notes (old ∷ older ∷ olds) (new ∷ news) (items ∷ told) some as_many each tell =
    let here : start + 0 ≡ start = omega arith in
    let others = gathers (start + length old.symbols) notes (older ∷ olds) news told (omega arith) (omega (arith, as_many)) (omega (arith, each))
    (behind_first start (length (older ∷ olds)) notes old new items (older ∷ olds) news told tell) in
    ∥∥₁_elim (tell 0 old new items (omega arith) refl refl refl) ∥∥₁_prop (λ part.
    let own = subst (λ (n : ℕ). Tells n false notes old.symbols new.symbols items) here (part.inner (omega arith)) in
    ∥∥₁_map others (λ rest. record {
      first = taken start false notes old.symbols new.symbols items own;
      later = rest.first ∷ rest.later;
      takes = (own.takes, rest.takes);
      old_is = ap (λ (xs : List SymbolState). old.symbols ++ xs) rest.old_is;
      new_is = ap (λ (xs : List SymbolState). new.symbols ++ xs) rest.new_is;
      told_is = λ i. own.items_are i ∷ rest.told_is i;
    }))

-- each part tells of each record

abbrev AreLong : ℕ → List (List (List Stamped)) → Type 0
AreLong n [] = Unit {0}
AreLong n (told ∷ lists) = (length told ≡ n) × AreLong n lists

parts-long : (start : ℕ) (notes : List Note) (first : Taken) (later : List Taken) → PartsTake start notes first later → AreLong (length notes) (tolds first later)
parts-long start notes first [] takes = (takes-length start true notes first.old first.new first.told takes, tt)
parts-long start notes first (next ∷ later) (takes, rest) = (takes-length start false notes first.old first.new first.told takes, parts-long (start + length first.old) notes next later rest)

said-behind : (i : ℕ) (a b : List (List Stamped)) → length a ≡ length b → said_at i (behind_each a b) ≡ said_at i a ++ said_at i b
said-behind i [] [] same = refl
said-behind i [] (y ∷ b) same = absurd (omega (arith, same))
said-behind i (x ∷ a) [] same = absurd (omega (arith, same))
said-behind zero (x ∷ a) (y ∷ b) same = refl
said-behind (suc i) (x ∷ a) (y ∷ b) same = said-behind i a b (omega (arith, same))

length-behind : (a b : List (List Stamped)) → length a ≡ length b → length (behind_each a b) ≡ length a
length-behind [] b same = refl
length-behind (x ∷ a) [] same = absurd (omega (arith, same))
length-behind (x ∷ a) (y ∷ b) same = ap suc (length-behind a b (omega (arith, same)))

said-whole : (i start : ℕ) (notes : List Note) (first : Taken) (later : List Taken) → PartsTake start notes first later → flat_map (said_at i) (tolds first later) ≡ said_at i (whole_of first later).told
said-whole i start notes first [] takes = append-nil (said_at i first.told)
said-whole i start notes first (next ∷ later) (takes, rest) =
    let whole = whole_of next later in
    let own : length first.told ≡ length notes = takes-length start false notes first.old first.new first.told takes in
    let others : length whole.told ≡ length notes = takes-length (start + length first.old) true notes whole.old whole.new whole.told (parts_take (start + length first.old) notes next later rest) in
    ap (λ (ms : List Stamped). said_at i first.told ++ ms) (said-whole i (start + length first.old) notes next later rest) ∙ sym (said-behind i first.told whole.told (own ∙ sym others))

-- and each message is of one of them

all_tagged : (n index : ℕ) (said : List Stamped) → index < n → All (λ m. m.input < n) (tagged index said)
all_tagged n index [] lt = All-nil (λ (m : Tagged). m.input < n)
all_tagged n index (m ∷ said) lt = All-cons (λ (m : Tagged). m.input < n) (record { input = index; stamped = m }) (tagged index said) lt (all_tagged n index said lt)

all_from : (n index : ℕ) (told : List (List Stamped)) → index + length told ≤ n → All (λ m. m.input < n) (tagged_from index told)
all_from n index [] le = All-nil (λ (m : Tagged). m.input < n)
all_from n index (said ∷ told) le = All-append (λ (m : Tagged). m.input < n) (tagged index said) (tagged_from (suc index) told) (all_tagged n index said (omega arith)) (all_from n (suc index) told (omega arith))

all_lists : (n : ℕ) (lists : List (List (List Stamped))) → AreLong n lists → AreOfFirst n (map (tagged_from 0) lists)
all_lists n [] long = All-nil (All (λ (m : Tagged). m.input < n))
all_lists n (told ∷ lists) (own, long) =
    All-cons (All (λ (m : Tagged). m.input < n)) (tagged_from 0 told) (map (tagged_from 0) lists) (all_from n 0 told (omega (arith, own))) (all_lists n lists long)

-- all that a block gives
pub record Answered (applied xs : List Record) (last : LeadState) (news : List SectionState) (market : List Tagged) (told : List (List Tagged)) : Type 0 where
  pub first : AreOfFirst (length xs) (market ∷ told)
  pub gives : merged (length xs) (market ∷ told) ≡ given applied xs
  pub stands : Represents (market_with last (stocks_of news)) (followed applied xs)

answered_by : (capacity : ℕ) (applied : List Record) (notes : List Note) (lead last : LeadState) (olds news : List SectionState) (market : List Tagged) (told : List (List Tagged)) → LeadsTo notes lead last market
    → Gathers 0 notes olds news told → Represents (market_with lead (stocks_of olds)) applied → AreAdmissible capacity applied (records_of notes)
    → AreOfFirst (length notes) (market ∷ told) × (merged (length notes) (market ∷ told) ≡ given applied (records_of notes)) × Represents (market_with last (stocks_of news)) (followed applied (records_of notes))
answered_by capacity applied notes lead last olds news market told leads g stands lawful =
    let whole = whole_of g.first g.later in
    let takes : TakesAll 0 true notes whole.old whole.new whole.told = parts_take 0 notes g.first g.later g.takes in
    let long : length whole.told ≡ length notes = takes-length 0 true notes whole.old whole.new whole.told takes in
    let own : length leads.told ≡ length notes = leads-length notes lead last leads.told leads.leads in
    let all = behind_each leads.told whole.told in
    let many : length all ≡ length notes = length-behind leads.told whole.told (own ∙ sym long) ∙ own in
    let lists = leads.told ∷ tolds g.first g.later in
    let items : map (tagged_from 0) lists ≡ market ∷ told = λ i. sym leads.items i ∷ sym g.told_is i in
    let said : (i : ℕ) → i < length all → flat_map (said_at i) lists ≡ said_at i all
    = λ i lt. ap (λ (ms : List Stamped). said_at i leads.told ++ ms) (said-whole i 0 notes g.first g.later g.takes) ∙ sym (said-behind i leads.told whole.told (own ∙ sym long)) in
    let gives = block_gives capacity 0 notes applied lead last whole.old whole.new leads.told whole.told
    (subst (λ (xs : List SymbolState). Represents (market_with lead xs) applied) (sym g.old_is) stands) lawful leads.leads takes in (
      subst (AreOfFirst (length notes)) items (all_lists (length notes) lists (own, parts-long 0 notes g.first g.later g.takes)),
      subst (λ (ls : List (List Tagged)). merged (length notes) ls ≡ given applied (records_of notes)) items
          (subst (λ (n : ℕ). merged n (map (tagged_from 0) lists) ≡ given applied (records_of notes)) many (merged_is lists all said ∙ gives.0)),
      subst (λ (xs : List SymbolState). Represents (market_with last xs) (followed applied (records_of notes))) g.new_is gives.1,
    )

answered_prop : (applied xs : List Record) (last : LeadState) (news : List SectionState) (market : List Tagged) (told : List (List Tagged)) → IsProp (Answered applied xs last news market told)
answered_prop applied xs last news market told = hlevel (props, ⊎_set, represents_prop)

answered_with : (capacity : ℕ) (applied xs : List Record) (turns : List Turn) (lead last : LeadState) (olds news : List SectionState) (market : List Tagged) (told : List (List Tagged)) → length turns ≡ length xs
    → LeadsTo (noted xs turns) lead last market → Gathers 0 (noted xs turns) olds news told → Represents (market_with lead (stocks_of olds)) applied → AreAdmissible capacity applied xs
    → Answered applied xs last news market told
answered_with capacity applied xs turns lead last olds news market told same leads parts stands lawful =
    let notes = noted xs turns in
    let are : records_of notes ≡ xs = records-noted xs turns same in
    let all = answered_by capacity applied notes lead last olds news market told leads parts stands (subst (AreAdmissible capacity applied) (sym are) lawful) in
    let many : length notes ≡ length xs = length-noted xs turns same in
    record {
      first = subst (λ (n : ℕ). AreOfFirst n (market ∷ told)) many all.0;
      gives = subst (λ (n : ℕ). merged n (market ∷ told) ≡ given applied xs) many (subst (λ (ys : List Record). merged (length notes) (market ∷ told) ≡ given applied ys) are all.1);
      stands = subst (λ (ys : List Record). Represents (market_with last (stocks_of news)) (followed applied ys)) are all.2;
    }

pub answered : (capacity : ℕ) (applied xs : List Record) (turns : List Turn) (lead last : LeadState) (olds news : List SectionState) (market : List Tagged) (told : List (List Tagged)) → length turns ≡ length xs
    → LeadsTo (noted xs turns) lead last market → 0 < length olds → length news ≡ length olds → length told ≡ length olds → PartsTell 0 (length olds) (noted xs turns) olds news told
    → Represents (market_with lead (stocks_of olds)) applied → AreAdmissible capacity applied xs → Answered applied xs last news market told
answered capacity applied xs turns lead last olds news market told same leads some as_many each tell stands lawful =
    ∥∥₁_elim (gathers 0 (noted xs turns) olds news told some as_many each tell) (answered_prop applied xs last news market told)
    (λ parts. answered_with capacity applied xs turns lead last olds news market told same leads parts stands lawful)
