-- A market of no records in parts, and a block that is admissible.
use Rattle.std.proofs.Common.{◌≡◌, ℕ, suc, ◌+◌, ◌<◌, ◌≤◌, Bool, true, false, List, [], ◌∷◌, ◌++◌, length, Some, length-append, refl, sym, ap, subst, ◌∙◌, arith, rules}
use Rattle.std.specs.Prelude.{nat_le, option_map, is_some, slice_get, ◌||◌}
use Rattle.std.proofs.lemmas.Bool.Decides.{nat_tests}
use Rattle.wire_in.specs.declared.record.Record.{Record}
use Rattle.wire_in.specs.Records.{is_day}
use Rattle.rulebook.specs.Admission.{most_names}
use Rattle.symbol_core.specs.Rests.{SymbolState}
use Rattle.market_core.specs.Leads.{IsLed, LeadState}
use Rattle.market_core.specs.MarketState.{Represents, day_of}
use Rattle.market_core.specs.Sections.{SectionState}
use Rattle.market_core.proofs.Appending.{get-before, get-last}
use Rattle.market_core.proofs.Applying.{open_day}
use Rattle.shard_core.specs.Block.{AreAdmissible}
use Rattle.shard_core.specs.Turns.{AreEmpty, AreFew, is_begun}
use Rattle.shard_core.proofs.Gathered.{stocks_of}
use Rattle.shard_core.proofs.Markets.{market_with}

at_least : (a b : ℕ) → nat_le a b ≡ true → a ≤ b
at_least a b e = grind (arith, nat_tests)

less : (a b : ℕ) → nat_le a b ≡ false → b < a
less a b e = grind (arith, nat_tests)

pub empty_on : (n : ℕ) (parts : List SectionState) (part : SectionState) → AreEmpty n parts → part.symbols ≡ [] → AreEmpty (n + 1) (parts ++ part ∷ [])
empty_on n parts part empty none = record {
  number = length-append parts (part ∷ []) ∙ ap (λ (k : ℕ). k + 1) empty.number;
  none = λ k other found. by k other found (nat_le (length parts) k) refl;
} where
  by : (k : ℕ) (other : SectionState) → slice_get (parts ++ part ∷ []) k ≡ Some other → (b : Bool) → nat_le (length parts) k ≡ b → other.symbols ≡ []
  by k other found true e = ap (λ (p : SectionState). p.symbols) (get-last parts part other k (at_least (length parts) k e) found).1 ∙ none
  by k other found false e = empty.none k other (sym (get-before parts part k (less (length parts) k e)) ∙ found)

pub none_empty : AreEmpty 0 []
none_empty = record { number = refl; none = λ k part found. absurd cc }

pub few_empty : (n : ℕ) (parts : List SectionState) → AreEmpty n parts → AreFew parts
few_empty n parts empty = λ k part found. subst (λ (xs : List SymbolState). length xs ≤ most_names) (sym (empty.none k part found)) (omega arith)

pub stocks_empty : (n : ℕ) (parts : List SectionState) → ((k : ℕ) (part : SectionState) → slice_get parts k ≡ Some part → part.symbols ≡ []) → stocks_of parts ≡ []
stocks_empty n [] none = refl
stocks_empty n (p ∷ parts) none = λ i. none 0 p refl i ++ stocks_empty n parts (λ k part found. none (suc k) part found) i

-- the first record of an admissible block begins a day where none has begun

pub begins : (capacity : ℕ) (applied xs : List Record) (lead : LeadState) (stocks : List SymbolState) → Represents (market_with lead stocks) applied → AreAdmissible capacity applied xs → is_begun xs lead.today ≡ true
begins capacity applied [] lead stocks stands lawful = refl
begins capacity applied (x ∷ xs) lead stocks stands (passed, lawful) = by (is_day x) refl where
  by : (b : Bool) → is_day x ≡ b → (is_day x || is_some lead.today) ≡ true
  by true e = ap (λ (b : Bool). b || is_some lead.today) e
  by false e =
      let day = open_day capacity applied x e passed in
      ap (λ (b : Bool). b || is_some lead.today) e ∙ ap is_some (stands.today ∙ ap (option_map (day_of applied)) day.1)

pub none_stand : (lead : LeadState) (stocks : List SymbolState) → IsLed lead [] → stocks ≡ [] → Represents (market_with lead stocks) []
none_stand lead stocks led none = subst (λ (xs : List SymbolState). Represents (market_with lead xs) []) (sym none) (record {
  directory = led.directory;
  today = led.today;
  count = refl;
  symbols = record { ids = λ s held found. absurd cc; rests = λ s held found. absurd cc };
  others = λ s le. search rules;
})

-- as many parts as before, of which none has too many stocks
pub as_many : (told : ℕ) (parts news left : List SectionState) → left ≡ news → length news ≡ length parts → 0 < length parts → length parts ≤ 64 → told ≡ length parts → AreFew news
    → (0 < length left) × (length left ≤ 64) × (told ≡ length left) × AreFew left
as_many told parts news left is count some few lists small =
    subst (λ (ps : List SectionState). (0 < length ps) × (length ps ≤ 64) × (told ≡ length ps) × AreFew ps) (sym is)
    (omega (arith, count, some), omega (arith, count, few), omega (arith, count, lists), small)
