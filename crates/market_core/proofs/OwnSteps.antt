-- What symbols that are evaluated at a record publish is what the step of the record publishes, and they rest on the history with it.
use Rattle.std.proofs.Common.{◌≡◌, ◌≢◌, ℕ, ◌≤◌, Bool, true, false, cond, List, [], ◌∷◌, ◌++◌, Option, Some, None, is_some, not, refl, sym, ap, subst, ◌∙◌, true≢false, arith}
use Rattle.std.specs.Prelude.{◌&&◌, ◌==◌, slice_get}
use Rattle.std.specs.Option.{option_map_or}
use Rattle.std.proofs.lemmas.Bool.Decides.{nat_tests}
use Rattle.session_core.specs.declared.day.Day.{Day}
use Rattle.wire_in.specs.declared.record.Record.{Record}
use Rattle.wire_in.specs.Records.{moment_of, is_day, is_tick, name_of, symbol_of}
use Rattle.wire_out.specs.declared.message.Message.{Message}
use Rattle.wire_out.specs.declared.message.Stamped.{Stamped}
use Rattle.rulebook.specs.declared.event.Event.{Event}
use Rattle.rulebook.specs.declared.event.Event.TheVariants.{Accepted}
use Rattle.rulebook.specs.Admission.{id_of}
use Rattle.rulebook.specs.Book.{Named, named, all_obeyed, announced, symbol_rules, evaluate_all, evaluate_own, evaluate_market, listed_ids, target, step, history}
use Rattle.rulebook.specs.History.{now, records, publish}
use Rattle.rulebook.specs.Market.{day_record, is_market_halted}
use Rattle.rulebook.specs.Symbol.{terms}
use Rattle.rulebook.proofs.Histories.{part, own_part, evaluate_own-part, records-history, records-publish}
use Rattle.rulebook.proofs.Ids.{Agree, own-kept, own_id}
use Rattle.rulebook.proofs.OtherRecords.{day_record-same}
use Rattle.rulebook.proofs.OfSymbol.{NoneBy, by_other, own_part-by}
use Rattle.symbol_core.specs.declared.symbol.MarketView.{MarketView}
use Rattle.symbol_core.specs.Evaluates.{Opens, part_of, step_of}
use Rattle.symbol_core.specs.Rests.{Rests, SymbolState}
use Rattle.symbol_core.specs.Silent.{IsOfOthers}
use Rattle.symbol_core.specs.Stands as symbol
use Rattle.market_core.specs.Applied.{AppendsAt}
use Rattle.market_core.specs.MarketState.{SymbolsRepresent}
use Rattle.market_core.specs.Ruled.{stamped}
use Rattle.market_core.proofs.Appending.{at_each}
use Rattle.market_core.proofs.RecordsOfOthers.{silent, rests-agree, rests-on, of_others}

pub apart_ids : (a b : ℕ) → (a == b) ≡ false → a ≢ b
apart_ids a b e same = true≢false (sym (sym (ap (λ (n : ℕ). a == n) same) ∙ own_id a) ∙ e)

pub swap_ids : (a b : ℕ) → (a == b) ≡ false → (b == a) ≡ false
swap_ids a b e = grind (arith, nat_tests)

-- the open history of a record
abbrev pub opened : Record → List Record → List Event
opened x A = Accepted x ∷ history A

pub records-opened : (ms : List Message) (x : Record) (A : List Record) → records (publish ms (opened x A)) ≡ x ∷ A
records-opened ms x A = records-publish ms (opened x A) ∙ ap (λ (earlier : List Record). x ∷ earlier) (records-history A)

-- the rules of a symbol on a known day
pub part-on : (x : Record) (s : Named) (ms : List Message) (A : List Record) (d : Day × ℕ) → is_day x ≡ false → day_record A ≡ Some d
    → part x s (publish ms (opened x A)) ≡ all_obeyed d.0 s x symbol_rules (publish ms (opened x A))
part-on x s ms A d other on =
    ap (λ (o : Option (Day × ℕ)). option_map_or (λ day. all_obeyed day.0 s x symbol_rules (publish ms (opened x A))) o []) (ap day_record (records-opened ms x A) ∙ day_record-same x A other ∙ on)

-- a symbol of that id with the names of that id
pub same_named : (x : Record) (A : List Record) (id s : ℕ) → id ≡ s → symbol.named (named (x ∷ A) s).own id ≡ named (x ∷ A) s
same_named x A id s e = ap (λ (i : ℕ). symbol.named (named (x ∷ A) s).own i) e

-- a listing that names the symbol is its own
pub own_listing : (x : Record) (A : List Record) (s : ℕ) → (target (x ∷ A) x ≡ Some s) → option_map_or (named (x ∷ A) s).own (name_of x) true ≡ true
own_listing x A s e = by (name_of x) e where
  by : (o : Option (List ℕ)) → elim o [ Some name ↦ id_of (x ∷ A) name | None ↦ symbol_of x ] ≡ Some s → option_map_or (named (x ∷ A) s).own o true ≡ true
  by (Some n) e = ap (λ (o : Option ℕ). option_map_or (λ id. id == s) o false) e ∙ own_id s
  by None e = refl

-- What each record of a list finds: the day, and that moments don't fall.
pub record Begun (x : Record) (A : List Record) (d : Day × ℕ) (market : MarketView) (said : List Message) : Type 0 where
  pub no_day : is_day x ≡ false
  pub on : day_record A ≡ Some d
  pub day : market.day ≡ d.0
  pub stopped : market.stopped ≡ is_market_halted (publish said (opened x A))
  pub later : now (history A) ≤ moment_of x

-- a symbol that rests on the history is ready for the record
pub ready : (x : Record) (A : List Record) (d : Day × ℕ) (market : MarketView) (s : ℕ) (held : SymbolState) (others : List Message) → Begun x A d market others → NoneBy s others → held.kept.id ≡ s
    → option_map_or (named (x ∷ A) s).own (name_of x) true ≡ true → Rests (named A s).own held (history A) → Opens (named (x ∷ A) s).own held market x others (history A)
ready x A d market s held others b none id name r =
    record {
      rests = rests-agree (named A s).own (named (x ∷ A) s).own held (history A) (subst (λ (B : List Record). Agree (named A s).own (named (x ∷ A) s).own B) (sym (records-history A)) (own-kept x A s)) r;
      silent = silent held.kept.id others (subst (λ (k : ℕ). NoneBy k others) (sym id) none);
      no_day = b.no_day;
      name = name;
      index = d.1;
      day = ap day_record (records-history A) ∙ b.on ∙ ap (λ (day : Day). Some (day, d.1)) (sym b.day);
      stopped = b.stopped;
      later = b.later;
    }

-- the names of an id agree on what was listed before
pub agree-before : (x : Record) (A : List Record) (s : ℕ) → Agree (named A s).own (named (x ∷ A) s).own (records (history A))
agree-before x A s = subst (λ (B : List Record). Agree (named A s).own (named (x ∷ A) s).own B) (sym (records-history A)) (own-kept x A s)

-- One symbol, the record's own.

pub own_step : (x : Record) (A : List Record) (s : ℕ) → is_day x ≡ false → is_tick x ≡ false → target (x ∷ A) x ≡ Some s → step x (history A) ≡ publish (own_part x (named (x ∷ A) s) (opened x A)) (opened x A)
own_step x A s no_day no_tick e =
    (λ i. cond (no_day i) (opened x A) (cond (no_tick i) (evaluate_all x (listed_ids (records (opened x A))) (evaluate_market x (opened x A)))
    (option_map_or (λ k. evaluate_own x (named (x ∷ records-history A i) k) (opened x A)) (target (x ∷ records-history A i) x) (opened x A))))
    ∙ ap (λ (o : Option ℕ). option_map_or (λ k. evaluate_own x (named (x ∷ A) k) (opened x A)) o (opened x A)) e
    ∙ evaluate_own-part x (named (x ∷ A) s) (opened x A)

pub own_said : (x : Record) (A : List Record) (d : Day × ℕ) (market : MarketView) (s id : ℕ) → Begun x A d market [] → is_tick x ≡ false → id ≡ s
    → part_of market.day (symbol.named (named (x ∷ A) s).own id) x (opened x A) ≡ own_part x (named (x ∷ A) s) (opened x A)
own_said x A d market s id b no_tick is =
    let S = named (x ∷ A) s in
    let said = announced S x (opened x A) in
    (λ i. part_of (b.day i) (same_named x A id s is i) x (opened x A))
    ∙ ap (λ (t : Bool). cond (t && not (is_some (terms (opened x A) S.own))) [] (step_of d.0 S x (opened x A))) no_tick
    ∙ ap (λ (ms : List Message). said ++ ms) (sym (part-on x S said A d b.no_day b.on))

pub own_symbol : (x : Record) (A : List Record) (d : Day × ℕ) (market : MarketView) (s : ℕ) (old new : List SymbolState) (before after : List Stamped) → Begun x A d market [] → is_tick x ≡ false → target (x ∷ A) x ≡ Some s
    → SymbolsRepresent old A → AppendsAt s market x old new before after → ((k : ℕ) → k ≢ s → slice_get new k ≡ slice_get old k)
    → (after ≡ before ++ stamped (moment_of x) (own_part x (named (x ∷ A) s) (opened x A))) × SymbolsRepresent new (x ∷ A)
own_symbol x A d market s old new before after b no_tick own stand at others = (
  at.appends.items ∙ ap (λ (ms : List Message). before ++ stamped (moment_of x) ms) (at.appends.evaluates.says own_names [] (history A) opens ∙ said_is),
  record {
    ids = at_each (λ k held. held.kept.id ≡ k) s at.is new at.left (at.appends.evaluates.id ∙ id_is)
        (λ k held apart e. stand.ids k held (sym (others k (apart_ids k s apart)) ∙ e));
    rests = λ k held e. subst (Rests (named (x ∷ A) k).own held) (sym step_is)
        (at_each (λ k held. Rests (named (x ∷ A) k).own held (publish ms (opened x A))) s at.is new at.left own_rests rests_other k held e);
  },
) where
  own_names : List ℕ → Bool
  own_names = (named (x ∷ A) s).own

  ms : List Message
  ms = own_part x (named (x ∷ A) s) (opened x A)

  step_is : step x (history A) ≡ publish ms (opened x A)
  step_is = own_step x A s b.no_day no_tick own

  id_is : at.was.kept.id ≡ s
  id_is = stand.ids s at.was at.found

  said_is : part_of market.day (symbol.named own_names at.was.kept.id) x (opened x A) ≡ ms
  said_is = own_said x A d market s at.was.kept.id b no_tick id_is

  opens : Opens own_names at.was market x [] (history A)
  opens = ready x A d market s at.was [] b tt id_is (own_listing x A s own) (stand.rests s at.was at.found)

  own_rests : Rests own_names at.is (publish ms (opened x A))
  own_rests =
      subst (λ (said : List Message). Rests own_names at.is (publish said (opened x A))) said_is
      (at.appends.evaluates.rests own_names [] (history A) opens)

  rests_other : (k : ℕ) (held : SymbolState) → (k == s) ≡ false → slice_get new k ≡ Some held → Rests (named (x ∷ A) k).own held (publish ms (opened x A))
  rests_other k held apart e =
      let before_is : slice_get old k ≡ Some held = sym (others k (apart_ids k s apart)) ∙ e in
      let id : held.kept.id ≡ k = stand.ids k held before_is in
      rests-on (named A k).own (named (x ∷ A) k).own held x ms (history A) (agree-before x A k)
      (subst (λ (j : ℕ). IsOfOthers (named (x ∷ A) k).own j x) (sym id) (of_others A x s k own (swap_ids k s apart))) b.no_day b.later
      (subst (λ (j : ℕ). NoneBy j ms) (sym id) (by_other k s ms (swap_ids k s apart) (own_part-by x (named (x ∷ A) s) (opened x A))))
      (stand.rests k held before_is)
