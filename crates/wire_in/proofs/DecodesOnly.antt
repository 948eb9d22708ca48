-- A body that is read is the body of its record, which is in its ranges. Each record's body is rebuilt from its end.
use Rattle.std.proofs.Common.{◌≡◌, ℕ, Bool, true, false, cond, eqb, List, [], ◌∷◌, length, get_or, Result, Ok, Err, refl, sym, subst, arith}
use Rattle.std.specs.Prelude.{IfOk}
use Rattle.std.specs.Int.{w16, w32}
use Rattle.std.proofs.lemmas.Bool.{eqb-true}
use Rattle.wire_core.specs.Fields.{number}
use Rattle.wire_core.proofs.Cells.{IsBytes, wide16, wide32, wide64, cell, byte_cell, text_cell, ended, number_below}
use Rattle.wire_core.proofs.Steps.{bind_ok, ok_is}
use Rattle.wire_core.proofs.Values.{moment_ok, price_ok, optional_ok, index_ok, name_ok, name_length}
use Rattle.wire_in.specs.Reading.{sized, date_at, day_of, listing_of, trade_of, cancel_of, quote_of, index_tick_of, clock_of, notice_of, indication_of, record_of}
use Rattle.wire_in.specs.Spelling.{Spells}
use Rattle.wire_in.specs.declared.record.Record.{Record}
use Rattle.wire_in.specs.declared.record.Refusal.{Refusal}
use Rattle.wire_in.specs.declared.record.Refusal.TheVariants.{BadLength}
use Rattle.wire_in.proofs.Values.{step, date_ok, close_ok, profile_ok, tier_ok, leverage_ok, flags_ok, kind_ok, unmatched_ok}

-- a body of that type is read only where it spells the record
abbrev Finds : ℕ → (List ℕ → Result Record Refusal) → Type 0
Finds type_byte read = (body : List ℕ) (x : Record) → IsBytes body → get_or body 0 0 ≡ type_byte → read body ≡ Ok x → Spells body x

sized_ok : (n : ℕ) (body : List ℕ) (read : Result Record Refusal) (x : Record) → sized n body read ≡ Ok x → (length body ≡ n) × (read ≡ Ok x)
sized_ok n body read x e = in_case (eqb (length body) n) refl e where
  in_case : (b : Bool) → eqb (length body) n ≡ b → cond b read (Err BadLength) ≡ Ok x → (length body ≡ n) × (read ≡ Ok x)
  in_case true t h = (eqb-true _ _ t, h)
  in_case false t h = absurd cc

day_found : Finds 1 day_of
unfolding day_of
day_found body x fits kind e =
    let s = sized_ok 19 body _ x e in
    let m = step _ _ _ x _ (moment_ok 1 body) s.1 in
    let d = bind_ok (date_at 9 body) _ x m.2 in
    let is_date = date_ok 9 body d.0 d.1 in
    let c = step _ _ _ x _ (close_ok (get_or body 13 0)) d.2 in
    let p = step _ _ _ x _ (profile_ok (get_or body 14 0)) c.2 in
    let v = step _ _ _ x _ (index_ok 15 body) p.2 in
    let bytes =
    byte_cell 0 body _ 1 kind (omega arith) (
    cell wide64 1 body _ m.0 fits m.1.0 (omega arith) (
    cell wide16 9 body _ d.0.year fits is_date.0 (omega arith) (
    byte_cell 11 body _ d.0.month is_date.1 (omega arith) (
    byte_cell 12 body _ d.0.day is_date.2 (omega arith) (
    byte_cell 13 body _ _ c.1 (omega arith) (
    byte_cell 14 body _ _ p.1 (omega arith) (
    cell wide32 15 body _ v.0 fits v.1.0 (omega arith) (
    ended 19 body s.0)))))))) in
    subst (Spells body) (ok_is _ x v.2) (record {
      types = (m.1.1, is_date.3, v.1.1);
      ranges = tt;
      bytes = bytes;
    })

listing_found : Finds 2 listing_of
unfolding listing_of
listing_found body x fits kind e =
    let s = sized_ok 27 body _ x e in
    let m = step _ _ _ x _ (moment_ok 1 body) s.1 in
    let n = step _ _ _ x _ (name_ok 9 body) m.2 in
    let t = step _ _ _ x _ (tier_ok (get_or body 17 0)) n.2 in
    let l = step _ _ _ x _ (leverage_ok (get_or body 18 0)) t.2 in
    let c = step _ _ _ x _ (optional_ok 19 body) l.2 in
    let bytes =
    byte_cell 0 body _ 2 kind (omega arith) (
    cell wide64 1 body _ m.0 fits m.1.0 (omega arith) (
    text_cell 8 9 body _ n.0 n.1.0 (
    byte_cell 17 body _ _ t.1 (omega arith) (
    byte_cell 18 body _ l.0 l.1.0 (omega arith) (
    cell wide64 19 body _ _ fits c.1.0 (omega arith) (
    ended 27 body s.0)))))) in
    subst (Spells body) (ok_is _ x c.2) (record {
      types = (m.1.1, l.1.1, c.1.1);
      ranges = (name_length 9 body n.0 n.1.0 (omega arith), n.1.1);
      bytes = bytes;
    })

trade_found : Finds 3 trade_of
unfolding trade_of
trade_found body x fits kind e =
    let s = sized_ok 29 body _ x e in
    let m = step _ _ _ x _ (moment_ok 1 body) s.1 in
    let p = step _ _ _ x _ (price_ok 15 body) m.2 in
    let f = step _ _ _ x _ (flags_ok (number w16 27 body)) p.2 in
    let symbol = number_below wide16 9 body fits in
    let trade = number_below wide32 11 body fits in
    let size = number_below wide32 23 body fits in
    let bytes =
    byte_cell 0 body _ 3 kind (omega arith) (
    cell wide64 1 body _ m.0 fits m.1.0 (omega arith) (
    cell wide16 9 body _ (number w16 9 body) fits refl (omega arith) (
    cell wide32 11 body _ (number w32 11 body) fits refl (omega arith) (
    cell wide64 15 body _ p.0 fits p.1.0 (omega arith) (
    cell wide32 23 body _ (number w32 23 body) fits refl (omega arith) (
    cell wide16 27 body _ f.0 fits f.1.0 (omega arith) (
    ended 29 body s.0))))))) in
    subst (Spells body) (ok_is _ x f.2) (record {
      types = (m.1.1, symbol, trade, p.1.1, size);
      ranges = f.1.1;
      bytes = bytes;
    })

cancel_found : Finds 4 cancel_of
unfolding cancel_of
cancel_found body x fits kind e =
    let s = sized_ok 15 body _ x e in
    let m = step _ _ _ x _ (moment_ok 1 body) s.1 in
    let symbol = number_below wide16 9 body fits in
    let trade = number_below wide32 11 body fits in
    let bytes =
    byte_cell 0 body _ 4 kind (omega arith) (
    cell wide64 1 body _ m.0 fits m.1.0 (omega arith) (
    cell wide16 9 body _ (number w16 9 body) fits refl (omega arith) (
    cell wide32 11 body _ (number w32 11 body) fits refl (omega arith) (
    ended 15 body s.0)))) in
    subst (Spells body) (ok_is _ x m.2) (record {
      types = (m.1.1, symbol, trade);
      ranges = tt;
      bytes = bytes;
    })

quote_found : Finds 5 quote_of
unfolding quote_of
quote_found body x fits kind e =
    let s = sized_ok 35 body _ x e in
    let m = step _ _ _ x _ (moment_ok 1 body) s.1 in
    let b = step _ _ _ x _ (optional_ok 11 body) m.2 in
    let o = step _ _ _ x _ (optional_ok 19 body) b.2 in
    let symbol = number_below wide16 9 body fits in
    let bid_size = number_below wide32 27 body fits in
    let offer_size = number_below wide32 31 body fits in
    let bytes =
    byte_cell 0 body _ 5 kind (omega arith) (
    cell wide64 1 body _ m.0 fits m.1.0 (omega arith) (
    cell wide16 9 body _ (number w16 9 body) fits refl (omega arith) (
    cell wide64 11 body _ _ fits b.1.0 (omega arith) (
    cell wide64 19 body _ _ fits o.1.0 (omega arith) (
    cell wide32 27 body _ (number w32 27 body) fits refl (omega arith) (
    cell wide32 31 body _ (number w32 31 body) fits refl (omega arith) (
    ended 35 body s.0))))))) in
    subst (Spells body) (ok_is _ x o.2) (record {
      types = (m.1.1, symbol, b.1.1, o.1.1, bid_size, offer_size);
      ranges = tt;
      bytes = bytes;
    })

index_tick_found : Finds 6 index_tick_of
unfolding index_tick_of
index_tick_found body x fits kind e =
    let s = sized_ok 13 body _ x e in
    let m = step _ _ _ x _ (moment_ok 1 body) s.1 in
    let v = step _ _ _ x _ (index_ok 9 body) m.2 in
    let bytes =
    byte_cell 0 body _ 6 kind (omega arith) (
    cell wide64 1 body _ m.0 fits m.1.0 (omega arith) (
    cell wide32 9 body _ v.0 fits v.1.0 (omega arith) (
    ended 13 body s.0))) in
    subst (Spells body) (ok_is _ x v.2) (record {
      types = (m.1.1, v.1.1);
      ranges = tt;
      bytes = bytes;
    })

clock_found : Finds 7 clock_of
unfolding clock_of
clock_found body x fits kind e =
    let s = sized_ok 9 body _ x e in
    let m = step _ _ _ x _ (moment_ok 1 body) s.1 in
    let bytes =
    byte_cell 0 body _ 7 kind (omega arith) (
    cell wide64 1 body _ m.0 fits m.1.0 (omega arith) (
    ended 9 body s.0)) in
    subst (Spells body) (ok_is _ x m.2) (record {
      types = m.1.1;
      ranges = tt;
      bytes = bytes;
    })

notice_found : Finds 8 notice_of
unfolding notice_of
notice_found body x fits kind e =
    let s = sized_ok 12 body _ x e in
    let m = step _ _ _ x _ (moment_ok 1 body) s.1 in
    let k = step _ _ _ x _ (kind_ok (get_or body 11 0)) m.2 in
    let symbol = number_below wide16 9 body fits in
    let bytes =
    byte_cell 0 body _ 8 kind (omega arith) (
    cell wide64 1 body _ m.0 fits m.1.0 (omega arith) (
    cell wide16 9 body _ (number w16 9 body) fits refl (omega arith) (
    byte_cell 11 body _ _ k.1 (omega arith) (
    ended 12 body s.0)))) in
    subst (Spells body) (ok_is _ x k.2) (record {
      types = (m.1.1, symbol);
      ranges = tt;
      bytes = bytes;
    })

indication_found : Finds 9 indication_of
unfolding indication_of
indication_found body x fits kind e =
    let s = sized_ok 20 body _ x e in
    let m = step _ _ _ x _ (moment_ok 1 body) s.1 in
    let p = step _ _ _ x _ (price_ok 11 body) m.2 in
    let u = step _ _ _ x _ (unmatched_ok (get_or body 19 0)) p.2 in
    let symbol = number_below wide16 9 body fits in
    let bytes =
    byte_cell 0 body _ 9 kind (omega arith) (
    cell wide64 1 body _ m.0 fits m.1.0 (omega arith) (
    cell wide16 9 body _ (number w16 9 body) fits refl (omega arith) (
    cell wide64 11 body _ p.0 fits p.1.0 (omega arith) (
    byte_cell 19 body _ _ u.1 (omega arith) (
    ended 20 body s.0))))) in
    subst (Spells body) (ok_is _ x u.2) (record {
      types = (m.1.1, symbol, p.1.1);
      ranges = tt;
      bytes = bytes;
    })

-- what was read by the first of two readings, or by the second
by_type : {P : Type 0} (t k : ℕ) (first second : Result Record Refusal) (x : Record) → (t ≡ k → first ≡ Ok x → P) → (second ≡ Ok x → P) → cond (eqb t k) first second ≡ Ok x → P
by_type {P = P} t k first second x is_it is_other e = in_case (eqb t k) refl e where
  in_case : (b : Bool) → eqb t k ≡ b → cond b first second ≡ Ok x → P
  in_case true same h = is_it (eqb-true _ _ same) h
  in_case false other h = is_other h

pub record_found : (body : List ℕ) (x : Record) → IsBytes body → record_of body ≡ Ok x → Spells body x
unfolding record_of
record_found [] x fits e = absurd cc
record_found (t ∷ rest) x fits e =
    by_type t 1 _ _ x (day_found (t ∷ rest) x fits) (
    by_type t 2 _ _ x (listing_found (t ∷ rest) x fits) (
    by_type t 3 _ _ x (trade_found (t ∷ rest) x fits) (
    by_type t 4 _ _ x (cancel_found (t ∷ rest) x fits) (
    by_type t 5 _ _ x (quote_found (t ∷ rest) x fits) (
    by_type t 6 _ _ x (index_tick_found (t ∷ rest) x fits) (
    by_type t 7 _ _ x (clock_found (t ∷ rest) x fits) (
    by_type t 8 _ _ x (notice_found (t ∷ rest) x fits) (
    by_type t 9 _ _ x (indication_found (t ∷ rest) x fits) (
    λ unknown. absurd cc))))))))) e

pub is_found : (body : List ℕ) (r : Result Record Refusal) → IsBytes body → r ≡ record_of body → IfOk r (Spells body)
is_found body (Ok x) fits e = record_found body x fits (sym e)
is_found body (Err d) fits e = tt
