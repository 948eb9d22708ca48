-- A record is evaluated.
use Rattle.std.proofs.Common.{◌≡◌, ℕ, Bool, true, false, List, [], ◌∷◌, ◌++◌, refl, sym, ap, ◌∙◌, subst}
use Rattle.std.specs.Prelude.{Option, if◌then◌else◌, ◌&&◌, ◌==◌, not, is_some}
use Rattle.std.specs.Option.{option_map_or}
use Rattle.wire_in.specs.declared.record.Record.{Record}
use Rattle.wire_in.specs.Records.{is_day, is_tick}
use Rattle.wire_out.specs.declared.message.Message.{Message}
use Rattle.window_core.specs.declared.window.Deal.{Deal}
use Rattle.wire_in.proofs.RecordKinds.{by_listing, tick}
use Rattle.rulebook.proofs.OtherRecords.{leaves}
use Rattle.rulebook.specs.declared.event.Event.{Event}
use Rattle.rulebook.specs.declared.event.Event.TheVariants.{Accepted}
use Rattle.rulebook.specs.declared.symbol.Terms.{Terms}
use Rattle.rulebook.specs.History.{publish, records}
use Rattle.rulebook.specs.Symbol.{terms, terms_in}
use Rattle.rulebook.proofs.Histories.{records-publish}
use Rattle.symbol_core.specs.declared.state.Kept.{Kept}
use Rattle.symbol_core.specs.declared.state.Step.{Step}
use Rattle.symbol_core.specs.declared.symbol.MarketView.{MarketView}
use Rattle.symbol_core.specs.Evaluates.{Evaluates, Opens, open_history, part_of, step_of}
use Rattle.symbol_core.specs.Rests.{Rests, SymbolState}
use Rattle.symbol_core.specs.Silent.{IsOfOthers}
use Rattle.symbol_core.specs.Stands.{named}
use Rattle.symbol_core.specs.Steps.{Starts, Steps, step_for}
use Rattle.symbol_core.proofs.Resting.{rests-apart, rests-with}

-- a clock or an index tick, while this listing isn't there
abbrev pub away : Record → Option Terms → Bool
away x listed = is_tick x && not (is_some listed)

away-record : (mine : List ℕ → Bool) (x : Record) (r : List Record) → away x (terms_in mine (x ∷ r)) ≡ away x (terms_in mine r)
away-record mine x r =
    by_listing (λ y. away y (terms_in mine (y ∷ r)) ≡ away y (terms_in mine r)) (λ t d c. refl) (λ t n k l c. refl)
    (λ y o. ap (λ (listed : Option Terms). away y listed) ((leaves y r o).terms mine)) x

-- the same in the open history as in what is kept
pub away-open : (mine : List ℕ → Bool) (held : SymbolState) (x : Record) (others : List Message) (h : List Event) → Rests mine held h → away x (terms (open_history x others h) mine) ≡ away x held.kept.terms
away-open mine held x others h r =
    ap (λ (e : List Record). away x (terms_in mine e)) (records-publish others (Accepted x ∷ h))
    ∙ away-record mine x (records h)
    ∙ ap (λ (o : Option Terms). away x o) (sym r.terms)

pub starts : (mine : List ℕ → Bool) (held : SymbolState) (market : MarketView) (x : Record) (others : List Message) (h : List Event) → Opens mine held market x others h
    → Starts mine held.kept held.deals (step_for market x) others h
starts mine held market x others h p =
    record { rests = rests-with mine held 0 h p.rests; silent = p.silent; no_day = p.no_day; name = p.name; index = p.index; day = p.day; moment = refl; stopped = p.stopped; later = p.later }

pub step-evaluated : (market : MarketView) (x : Record) (held new : SymbolState) (before after : List Message) → is_day x ≡ false → away x held.kept.terms ≡ false
    → Steps (step_for market x) held.kept new.kept held.deals new.deals before after → Evaluates market x held new before after
step-evaluated market x held new before after no_day here s =
    record {
      says = λ mine others h p.
          s.says mine others h (starts mine held market x others h p) ∙ ap (λ (ms : List Message). before ++ ms) (sym (part_is mine others h p));
      rests = λ mine others h p.
          let said = step_of market.day (named mine held.kept.id) x (open_history x others h) in
          rw (part_is mine others h p) (rests-with mine (record new { spare = 0 }) new.spare (publish said (open_history x others h)) (s.rests mine others h (starts mine held market x others h p)));
      says_no_day = λ e. let e2 : true ≡ false = sym e ∙ no_day in cc;
      begins = λ e mine h r. let e2 : true ≡ false = sym e ∙ no_day in cc;
      id = s.id;
    }
  where
    part_is : (mine : List ℕ → Bool) (others : List Message) (h : List Event) → Opens mine held market x others h
        → part_of market.day (named mine held.kept.id) x (open_history x others h) ≡ step_of market.day (named mine held.kept.id) x (open_history x others h)
    part_is mine others h p =
        ap (λ (b : Bool). if b then [] else step_of market.day (named mine held.kept.id) x (open_history x others h)) (away-open mine held x others h p.rests ∙ here)

-- only a tick is away
tick_away : (x : Record) (listed : Option Terms) → away x listed ≡ true → is_tick x ≡ true
tick_away x listed e = by (is_tick x) e where
  by : (b : Bool) → (b && not (is_some listed)) ≡ true → b ≡ true
  by true e = refl
  by false e = cc

-- a tick is of nobody
tick-others : (mine : List ℕ → Bool) (s : ℕ) (x : Record) (listed : Option Terms) → away x listed ≡ true → IsOfOthers mine s x
tick-others mine s x listed e =
    let only = tick x (tick_away x listed e) in
    record {
      symbol = ap (λ (o : Option ℕ). option_map_or (λ id. id == s) o false) only.no_symbol;
      name = ap (λ (o : Option (List ℕ)). option_map_or mine o false) only.other.no_name;
    }

append_nothing : (xs : List Message) → xs ≡ xs ++ []
append_nothing [] = refl
append_nothing (x ∷ xs) = ap (λ (ys : List Message). x ∷ ys) (append_nothing xs)

-- a tick of a day on which it isn't listed
pub evaluated-away : (market : MarketView) (x : Record) (held : SymbolState) (before : List Message) → away x held.kept.terms ≡ true → Evaluates market x held held before before
evaluated-away market x held before is_away =
    record {
      says = λ mine others h p. append_nothing before ∙ ap (λ (ms : List Message). before ++ ms) (sym (part_is mine others h p));
      rests = λ mine others h p. rw (part_is mine others h p) (rests-apart mine held x others h p.no_day (tick-others mine held.kept.id x held.kept.terms is_away) p.silent p.later p.rests);
      says_no_day = λ e. refl;
      begins = λ e mine h r. let e2 : true ≡ false = sym e ∙ (tick x (tick_away x held.kept.terms is_away)).other.no_day in cc;
      id = refl;
    }
  where
    part_is : (mine : List ℕ → Bool) (others : List Message) (h : List Event) → Opens mine held market x others h → part_of market.day (named mine held.kept.id) x (open_history x others h) ≡ []
    part_is mine others h p =
        ap (λ (b : Bool). if b then [] else step_of market.day (named mine held.kept.id) x (open_history x others h)) (away-open mine held x others h p.rests ∙ is_away)

-- how much room there is makes no difference
pub evaluated-with : (market : MarketView) (x : Record) (held new : SymbolState) (room left : ℕ) (before after : List Message) → Evaluates market x held new before after
    → Evaluates market x (record held { spare = room }) (record new { spare = left }) before after
evaluated-with market x held new room left before after e =
    record {
      says = λ mine others h p. e.says mine others h (opens mine others h p);
      rests = λ mine others h p.
          let said = part_of market.day (named mine held.kept.id) x (open_history x others h) in
          rests-with mine new left (publish said (open_history x others h)) (e.rests mine others h (opens mine others h p));
      says_no_day = e.says_no_day;
      begins = λ day mine h r. rests-with mine new left (Accepted x ∷ h) (e.begins day mine h (rests-with mine (record held { spare = room }) held.spare h r));
      id = e.id;
    }
  where
    opens : (mine : List ℕ → Bool) (others : List Message) (h : List Event) → Opens mine (record held { spare = room }) market x others h → Opens mine held market x others h
    opens mine others h p =
        record { rests = rests-with mine (record held { spare = room }) held.spare h p.rests; silent = p.silent; no_day = p.no_day; name = p.name; index = p.index; day = p.day; stopped = p.stopped; later = p.later }

-- the same, over what the code has
pub step-obeyed : (market : MarketView) (x : Record) (held : SymbolState) (k : Kept) (kept lent : List Deal) (spare : ℕ) (new : SymbolState) (before got after : List Message) (step : Step) → record { kept = k; deals = kept; spare = spare } ≡ held → step ≡ step_for market x → lent ≡ kept → got ≡ before
    → is_day x ≡ false → away x held.kept.terms ≡ false
    → Steps step k new.kept lent new.deals got after → Evaluates market x held new before after
step-obeyed market x held k kept lent spare new before got after step v m l g no_day here s =
    step-evaluated market x held new before after no_day here
    (subst (λ (a : SymbolState). Steps (step_for market x) a.kept new.kept a.deals new.deals before after) v
    (subst (λ (u : Step). Steps u k new.kept kept new.deals before after) m
    (subst (λ (ds : List Deal). Steps step k new.kept ds new.deals before after) l
    (subst (λ (ms : List Message). Steps step k new.kept lent new.deals ms after) g s))))
