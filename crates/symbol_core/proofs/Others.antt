-- A record of others says nothing of a symbol.
use Rattle.std.proofs.Common.{◌≡◌, ℕ, Bool, true, false, List, [], ◌∷◌, ◌++◌, refl, sym, ap, ◌∙◌}
use Rattle.std.specs.Prelude.{Option, Some, None, if◌then◌else◌, ◌==◌, ◌&&◌, ◌||◌, option_to_list}
use Rattle.std.specs.Option.{option_map_or}
use Rattle.session_core.specs.declared.day.Day.{Day}
use Rattle.wire_in.specs.declared.record.NoticeKind.TheVariants as notice
use Rattle.wire_in.specs.declared.record.Record.{Record}
use Rattle.wire_in.specs.declared.record.Record.TheVariants as in_
use Rattle.wire_in.specs.Records.{is_day, name_of, symbol_of}
use Rattle.eligible_core.specs.Conditions.{eligible}
use Rattle.window_core.specs.declared.window.Deal.{Deal}
use Rattle.wire_in.proofs.RecordKinds.{by_listing}
use Rattle.rulebook.proofs.OtherRecords.{leaves}
use Rattle.rulebook.specs.declared.event.Event.{Event}
use Rattle.rulebook.specs.declared.event.Event.TheVariants.{Accepted}
use Rattle.rulebook.specs.Auction.{indicated_by}
use Rattle.rulebook.specs.Rules.{triggered_in, triggers}
use Rattle.short_core.specs.Restriction as restriction
use Rattle.rulebook.specs.Symbol.{prior_close_of, deals_in, terms_in, traded_price}
use Rattle.symbol_core.specs.Kept.{quoted_by}
use Rattle.symbol_core.specs.Taken.{cancelled_by, deal_of, halted_by}
use Rattle.symbol_core.proofs.Cancels.{append_none, deals-taken, leaves-all}
use Rattle.symbol_core.proofs.Taken.{own-taken}

-- the record isn't of s by its id
abbrev names_other : ℕ → Record → Type 0
names_other s x = option_map_or (λ id. id == s) (symbol_of x) false ≡ false

pub terms-others : (mine : List ℕ → Bool) (x : Record) (r : List Record) → is_day x ≡ false → option_map_or mine (name_of x) false ≡ false → terms_in mine (x ∷ r) ≡ terms_in mine r
terms-others mine x r e o =
    by_listing (λ y. is_day y ≡ false → option_map_or mine (name_of y) false ≡ false → terms_in mine (y ∷ r) ≡ terms_in mine r) (λ t d c e o. cc)
    (λ t n k l c e o. ap (λ (b : Bool). if b then Some (record { tier = k; leverage = l; prior_close = c }) else terms_in mine r) o)
    (λ y other e o. (leaves y r other).terms mine) x e o

-- what a record of others gives of s
record Gives (s : ℕ) (x : Record) : Type 0 where
  pub quoted : quoted_by s x ≡ None
  pub indicated : indicated_by s x ≡ None
  pub halted : (before : Bool) → halted_by s x before ≡ before
  pub cancelled : cancelled_by s x ≡ None
  pub deal : (day : Day) → deal_of day s x ≡ None
  pub traded : (day : Day) → traded_price day s x ≡ None

-- a value that only a record of s has
none_if : {X : Type 0} (x : X) (b : Bool) → b ≡ false → (if b then Some x else None) ≡ None
none_if x b o = ap (λ (v : Bool). if v then Some x else None) o

gives_none : (s : ℕ) (x : Record) → names_other s x → Gives s x
gives_none s (in_.Day t d c) o = record { quoted = refl; indicated = refl; halted = λ b. refl; cancelled = refl; deal = λ day. refl; traded = λ day. refl }
gives_none s (in_.Listing t n k l c) o = record { quoted = refl; indicated = refl; halted = λ b. refl; cancelled = refl; deal = λ day. refl; traded = λ day. refl }
gives_none s (in_.Trade t i n p q f) o =
    record {
      quoted = refl;
      indicated = refl;
      halted = λ b. refl;
      cancelled = refl;
      deal = λ day. let all : Deal = record { moment = t; number = n; price = p } in ap (λ (v : Bool). if v && eligible f t day then Some all else None) o;
      traded = λ day. ap (λ (v : Bool). if v && eligible f t day then Some p else None) o;
    }
gives_none s (in_.Cancel t i n) o =
    record { quoted = refl; indicated = refl; halted = λ b. refl; cancelled = none_if n (i == s) o; deal = λ day. refl; traded = λ day. refl }
gives_none s (in_.Quote t i b p x y) o =
    record { quoted = none_if _ (i == s) o; indicated = refl; halted = λ b. refl; cancelled = refl; deal = λ day. refl; traded = λ day. refl }
gives_none s (in_.IndexTick t v) o = record { quoted = refl; indicated = refl; halted = λ b. refl; cancelled = refl; deal = λ day. refl; traded = λ day. refl }
gives_none s (in_.Clock t) o = record { quoted = refl; indicated = refl; halted = λ b. refl; cancelled = refl; deal = λ day. refl; traded = λ day. refl }
gives_none s (in_.Notice t i notice.OpenQuote) o = record { quoted = refl; indicated = refl; halted = λ b. refl; cancelled = refl; deal = λ day. refl; traded = λ day. refl }
gives_none s (in_.Notice t i notice.PauseNow) o = record { quoted = refl; indicated = refl; halted = λ b. refl; cancelled = refl; deal = λ day. refl; traded = λ day. refl }
gives_none s (in_.Notice t i notice.Halt) o =
    record { quoted = refl; indicated = refl; halted = λ b. ap (λ (v : Bool). if v then true else b) o; cancelled = refl; deal = λ day. refl; traded = λ day. refl }
gives_none s (in_.Notice t i notice.Resume) o =
    record { quoted = refl; indicated = refl; halted = λ b. ap (λ (v : Bool). if v then false else b) o; cancelled = refl; deal = λ day. refl; traded = λ day. refl }
gives_none s (in_.Indication t i p u) o =
    record { quoted = refl; indicated = none_if _ (i == s) o; halted = λ b. refl; cancelled = refl; deal = λ day. refl; traded = λ day. refl }

pub quoted-others : (s : ℕ) (x : Record) → names_other s x → quoted_by s x ≡ None
quoted-others s x o = (gives_none s x o).quoted

pub indicated-others : (s : ℕ) (x : Record) → names_other s x → indicated_by s x ≡ None
indicated-others s x o = (gives_none s x o).indicated

pub halted-others : (s : ℕ) (x : Record) (before : Bool) → names_other s x → halted_by s x before ≡ before
halted-others s x before o = (gives_none s x o).halted before

pub triggered-others : (mine : List ℕ → Bool) (day : Day) (s : ℕ) (x : Record) (r : List Record) → is_day x ≡ false → names_other s x → triggered_in mine day s (x ∷ r) ≡ triggered_in mine day s r
triggered-others mine day s x r e o =
    ap (λ (b : Bool). if b then false else triggers day s x (terms_in mine r) || triggered_in mine day s r) e
    ∙ ap (λ (p : Option ℕ). option_map_or (restriction.triggers (prior_close_of (terms_in mine r))) p false || triggered_in mine day s r) ((gives_none s x o).traded day)

pub deals-others : (day : Day) (s : ℕ) (x : Record) (c : List Event) → names_other s x → deals_in day s [] (Accepted x ∷ c) ≡ deals_in day s [] c
deals-others day s x c o =
    deals-taken day s x c
    ∙ ap (λ (ds : List Deal). ds ++ deals_in day s [] (Accepted x ∷ [])) (leaves-all s x (deals_in day s [] c) (gives_none s x o).cancelled)
    ∙ ap (λ (ds : List Deal). deals_in day s [] c ++ ds) (sym (own-taken day s x) ∙ ap (λ (d : Option Deal). option_to_list d) ((gives_none s x o).deal day))
    ∙ append_none (deals_in day s [] c)
