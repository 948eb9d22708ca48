-- What is kept of a symbol goes on under records and messages that say nothing of it.
use Rattle.std.proofs.Common.{◌≡◌, ℕ, ◌≤◌, Bool, true, false, cond, List, [], ◌∷◌, Option, Some, None, refl, sym, ap, ◌∙◌}
use Rattle.std.specs.Prelude.{◌==◌}
use Rattle.std.specs.Option.{option_map_or}
use Rattle.wire_in.specs.declared.record.Record.{Record}
use Rattle.wire_in.specs.Records.{moment_of, is_day, is_tick, name_of, symbol_of}
use Rattle.wire_in.proofs.RecordKinds.{by_name, listing, tick}
use Rattle.wire_out.specs.declared.message.Message.{Message}
use Rattle.wire_out.specs.declared.message.Message.TheVariants as out
use Rattle.rulebook.specs.declared.event.Event.{Event}
use Rattle.rulebook.specs.declared.event.Event.TheVariants.{Accepted, Published}
use Rattle.rulebook.specs.Admission.{names, id_of}
use Rattle.rulebook.specs.Book.{named, target}
use Rattle.rulebook.specs.History.{now, records, publish}
use Rattle.rulebook.specs.Market.{day_record}
use Rattle.rulebook.proofs.Ids.{Agree, earlier_agree, terms_in-agree, triggered_in-agree, is_carried-agree}
use Rattle.rulebook.proofs.Listings.{among_own}
use Rattle.rulebook.proofs.OfSymbol.{is_by, NoneBy}
use Rattle.rulebook.specs.Symbol.{prior_close_of}
use Rattle.symbol_core.proofs.Resting.{rests-silent, rests-apart}
use Rattle.symbol_core.specs.Rests.{Rests, SymbolState}
use Rattle.symbol_core.specs.Silent.{IsSilent, AllSilent, IsOfOthers, SaysNothing}

is_silent : (s : ℕ) (m : Message) → is_by s m ≡ false → IsSilent s m
is_silent s (out.Listed id name) e = record { state = refl; band = refl; straddle = refl; collar = refl; release = refl }
is_silent s (out.State id p) e = record { state = ap (λ (b : Bool). cond b (Some p) None) e; band = refl; straddle = refl; collar = refl; release = refl }
is_silent s (out.Band id why reference lower upper) e =
    record {
      state = refl;
      band = ap (λ (b : Bool). cond b (Some (record { cause = why; reference = reference; bands = record { lower = lower; upper = upper } })) None) e;
      straddle = refl;
      collar = refl;
      release = refl;
    }
is_silent s (out.Straddle id on) e = record { state = refl; band = refl; straddle = ap (λ (b : Bool). cond b (Some on) None) e; collar = refl; release = refl }
is_silent s (out.Collar id round lower upper) e =
    record { state = refl; band = refl; straddle = refl; collar = ap (λ (b : Bool). cond b (Some (round, record { lower = lower; upper = upper })) None) e; release = refl }
is_silent s (out.Release id price) e = record { state = refl; band = refl; straddle = refl; collar = refl; release = ap (λ (b : Bool). cond b (Some price) None) e }
is_silent s (out.Short id kind) e = record { state = refl; band = refl; straddle = refl; collar = refl; release = refl }
is_silent s (out.Breaker level index) e = record { state = refl; band = refl; straddle = refl; collar = refl; release = refl }
is_silent s out.MarketResume e = record { state = refl; band = refl; straddle = refl; collar = refl; release = refl }

-- messages of others say nothing
pub silent : (s : ℕ) (ms : List Message) → NoneBy s ms → AllSilent s ms
silent s [] none = tt
silent s (m ∷ ms) none = (is_silent s m none.0, silent s ms none.1)

-- Tests of names that agree on the listed ones.

pub rests-agree : (own other : List ℕ → Bool) (held : SymbolState) (h : List Event) → Agree own other (records h) → Rests own held h → Rests other held h
rests-agree own other held h e r =
    record {
      terms = r.terms ∙ terms_in-agree own other (records h) e;
      phase = r.phase;
      since = r.since;
      begun = r.begun;
      quote = r.quote;
      band = r.band;
      adopted = r.adopted;
      straddling = r.straddling;
      halted = r.halted;
      auction = r.auction;
      prior_close = r.prior_close ∙ (λ i. prior_close_of (terms_in-agree own other (records h) e i));
      triggered = r.triggered ∙ (λ i. option_map_or (λ day. triggered_in-agree own other day.0 held.kept.id (records h) e i) (day_record (records h)) false);
      carried = r.carried ∙ is_carried-agree own other held.kept.id h e;
      deals = r.deals;
    }

others_agree : (own other : List ℕ → Bool) (s : ℕ) (x : Record) (A : List Record) → Agree own other (x ∷ A) → IsOfOthers own s x → IsOfOthers other s x
others_agree own other s x A e n = record { symbol = n.symbol; name = by x e n.name } where
  by : (x : Record) → Agree own other (x ∷ A) → option_map_or own (name_of x) false ≡ false → option_map_or other (name_of x) false ≡ false
  by = by_name (λ x. Agree own other (x ∷ A) → option_map_or own (name_of x) false ≡ false → option_map_or other (name_of x) false ≡ false)
      (λ t name k l c e none. sym (e.at name (among_own (names A) name)) ∙ none) (λ x is e none. ap (λ o. option_map_or other o false) is)

pub says-agree : (own other : List ℕ → Bool) (s : ℕ) (h : List Event) → Agree own other (records h) → SaysNothing own s h → SaysNothing other s h
says-agree own other s [] e n = tt
says-agree own other s (Accepted x ∷ h) e n = (others_agree own other s x (records h) e n.0, says-agree own other s h (earlier_agree own other x (records h) e) n.1)
says-agree own other s (Published m ∷ h) e n = (n.0, says-agree own other s h e n.1)

-- More records and messages of others.

pub says-publish : (own : List ℕ → Bool) (s : ℕ) (ms : List Message) (h : List Event) → AllSilent s ms → SaysNothing own s h → SaysNothing own s (publish ms h)
says-publish own s [] h all n = n
says-publish own s (m ∷ ms) h all n = says-publish own s ms (Published m ∷ h) all.1 (all.0, n)

pub says-on : (own other : List ℕ → Bool) (s : ℕ) (x : Record) (ms : List Message) (h : List Event) → Agree own other (records h) → IsOfOthers other s x → NoneBy s ms
    → SaysNothing own s h → SaysNothing other s (publish ms (Accepted x ∷ h))
says-on own other s x ms h e apart none n = says-publish other s ms (Accepted x ∷ h) (silent s ms none) (apart, says-agree own other s h e n)

-- what is kept rests on more messages of others
pub rests-publish : (own : List ℕ → Bool) (held : SymbolState) (ms : List Message) (h : List Event) → NoneBy held.kept.id ms → Rests own held h → Rests own held (publish ms h)
rests-publish own held ms h none r = rests-silent own held ms h (silent held.kept.id ms none) r

pub rests-on : (own other : List ℕ → Bool) (held : SymbolState) (x : Record) (ms : List Message) (h : List Event) → Agree own other (records h) → IsOfOthers other held.kept.id x → is_day x ≡ false
    → now h ≤ moment_of x → NoneBy held.kept.id ms → Rests own held h → Rests other held (publish ms (Accepted x ∷ h))
rests-on own other held x ms h e apart no_day later none r =
    rests-apart other held x ms h no_day apart (silent held.kept.id ms none) later (rests-agree own other held h e r)

-- a record that names another symbol, or none
pub of_another : (A : List Record) (x : Record) (s : ℕ) → option_map_or (λ id. id == s) (target (x ∷ A) x) false ≡ false
    → IsOfOthers (named (x ∷ A) s).own s x
of_another A x s e = by (name_of x) refl e where
  by : (o : Option (List ℕ)) → name_of x ≡ o
      → option_map_or (λ id. id == s) (elim o [ Some name ↦ id_of (x ∷ A) name | None ↦ symbol_of x ]) false ≡ false
      → IsOfOthers (named (x ∷ A) s).own s x
  by None is e = record { symbol = e; name = ap (λ o. option_map_or (named (x ∷ A) s).own o false) is }
  by (Some name) is e = record {
    symbol = ap (λ (o : Option ℕ). option_map_or (λ id. id == s) o false) (listing x name is);
    name = ap (λ o. option_map_or (named (x ∷ A) s).own o false) is ∙ e;
  }

pub of_others : (A : List Record) (x : Record) (s k : ℕ) → target (x ∷ A) x ≡ Some s → (s == k) ≡ false → IsOfOthers (named (x ∷ A) k).own k x
of_others A x s k e other = of_another A x k (ap (λ (o : Option ℕ). option_map_or (λ id. id == k) o false) e ∙ other)

-- a market-wide record
pub of_none : (own : List ℕ → Bool) (k : ℕ) (x : Record) → is_tick x ≡ true → IsOfOthers own k x
of_none own k x e = record {
  symbol = ap (λ (o : Option ℕ). option_map_or (λ id. id == k) o false) (tick x e).no_symbol;
  name = ap (λ o. option_map_or own o false) (tick x e).other.no_name;
}
