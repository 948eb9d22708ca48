-- The body of a record in its ranges is read as that record.
use Rattle.std.proofs.Common.{◌≡◌, ℕ, ◌+◌, List, ◌∷◌, ◌++◌, length, get_or, take, drop, Option, Result, Ok, refl, sym, ap, subst, ◌∙◌, arith}
use Rattle.std.specs.Int.{w64, from_be_bytes, to_be_bytes}
use Rattle.std.proofs.lemmas.Grind.{common_steps}
use Rattle.std.proofs.lemmas.List.{length-append, take_at}
use Rattle.std.proofs.Math.Seq.{drop-append-add}
use Rattle.price_core.specs.Absence.{units_or_zero}
use Rattle.price_core.specs.declared.quote.Tier.{Tier}
use Rattle.price_core.specs.declared.quote.Unmatched.{Unmatched}
use Rattle.session_core.specs.declared.day.Day.{Day as DayOf}
use Rattle.wire_core.proofs.Cells.{wide16, wide32, wide64}
use Rattle.wire_core.proofs.Values.{moment_again, price_again, optional_again, optional_below, index_again, name_again}
use Rattle.wire_in.specs.Codes.{tier_byte}
use Rattle.wire_in.specs.Records.{moment_of}
use Rattle.wire_in.specs.Reading.{day_of, listing_of, trade_of, cancel_of, quote_of, index_tick_of, clock_of, notice_of, indication_of, record_of}
use Rattle.wire_in.specs.Spelling.{HasTypes, InRange, Spells, body_of}
use Rattle.wire_in.specs.declared.record.NoticeKind.{NoticeKind}
use Rattle.wire_in.specs.declared.record.Record.{Record}
use Rattle.wire_in.specs.declared.record.Refusal.{Refusal}
use Rattle.wire_in.specs.declared.record.Record.TheVariants.{Day, Listing, Trade, Cancel, Quote, IndexTick, Clock, Notice, Indication}
use Rattle.wire_in.proofs.Values.{date_again, close_again, profile_again, tier_again, leverage_again, flags_again, kind_again, unmatched_again}

-- the body of a record is read as that record
abbrev ReadsBack : (List ℕ → Result Record Refusal) → Record → Type 0
ReadsBack read x = HasTypes x → InRange x → read (body_of x) ≡ Ok x

day_again : (m : ℕ) (d : DayOf) (v : ℕ) → ReadsBack day_of (Day m d v)
unfolding day_of
day_again m d v h r =
    let body = body_of (Day m d v) in
    let at_1 = moment_again 1 body m (wide64.read m (omega arith)) h.0 in
    let at_9 = date_again 9 body d.date (wide16.read d.date.year (omega (arith, h.1.year.last))) refl refl h.1 in
    let at_15 = index_again 15 body v (wide32.read v (omega arith)) h.2 in
    rw (at_1, at_9, close_again d.close, profile_again d.profile, at_15) refl

trade_again : (m s n p z f : ℕ) → ReadsBack trade_of (Trade m s n p z f)
unfolding trade_of
trade_again m s n p z f h r =
    let body = body_of (Trade m s n p z f) in
    let at_1 = moment_again 1 body m (wide64.read m (omega arith)) h.0 in
    let at_15 = price_again 15 body p (wide64.read p (omega arith)) h.3 in
    let at_27 = flags_again _ f (wide16.read f (omega arith)) r in
    rw (at_1, at_15, at_27, wide16.read s h.1, wide32.read n h.2, wide32.read z h.4) refl

cancel_again : (m s n : ℕ) → ReadsBack cancel_of (Cancel m s n)
unfolding cancel_of
cancel_again m s n h r =
    let body = body_of (Cancel m s n) in
    let at_1 = moment_again 1 body m (wide64.read m (omega arith)) h.0 in
    rw (at_1, wide16.read s h.1, wide32.read n h.2) refl

quote_again : (m s : ℕ) (b o : Option ℕ) (y z : ℕ) → ReadsBack quote_of (Quote m s b o y z)
unfolding quote_of
quote_again m s b o y z h r =
    let body = body_of (Quote m s b o y z) in
    let at_1 = moment_again 1 body m (wide64.read m (omega arith)) h.0 in
    let at_11 = optional_again 11 body b (wide64.read (units_or_zero b) (optional_below b h.2)) h.2 in
    let at_19 = optional_again 19 body o (wide64.read (units_or_zero o) (optional_below o h.3)) h.3 in
    rw (at_1, at_11, at_19, wide16.read s h.1, wide32.read y h.4, wide32.read z h.5) refl

index_tick_again : (m v : ℕ) → ReadsBack index_tick_of (IndexTick m v)
unfolding index_tick_of
index_tick_again m v h r =
    let body = body_of (IndexTick m v) in
    let at_1 = moment_again 1 body m (wide64.read m (omega arith)) h.0 in
    let at_9 = index_again 9 body v (wide32.read v (omega arith)) h.1 in
    rw (at_1, at_9) refl

clock_again : (m : ℕ) → ReadsBack clock_of (Clock m)
unfolding clock_of
clock_again m h r =
    let body = body_of (Clock m) in
    let at_1 = moment_again 1 body m (wide64.read m (omega arith)) h in
    rw (at_1) refl

notice_again : (m s : ℕ) (k : NoticeKind) → ReadsBack notice_of (Notice m s k)
unfolding notice_of
notice_again m s k h r =
    let body = body_of (Notice m s k) in
    let at_1 = moment_again 1 body m (wide64.read m (omega arith)) h.0 in
    rw (at_1, kind_again k, wide16.read s h.1) refl

indication_again : (m s p : ℕ) (u : Unmatched) → ReadsBack indication_of (Indication m s p u)
unfolding indication_of
indication_again m s p u h r =
    let body = body_of (Indication m s p u) in
    let at_1 = moment_again 1 body m (wide64.read m (omega arith)) h.0 in
    let at_11 = price_again 11 body p (wide64.read p (omega arith)) h.2 in
    rw (at_1, at_11, unmatched_again u, wide16.read s h.1) refl

-- what stands behind a name
behind : (n rest : List ℕ) (k : ℕ) → length n ≡ 8 → drop (8 + k) (n ++ rest) ≡ drop k rest
behind n rest k e = ap (λ (j : ℕ). drop (j + k) (n ++ rest)) (sym e) ∙ drop-append-add n rest k

byte_behind : (n rest : List ℕ) (k : ℕ) → length n ≡ 8 → get_or (n ++ rest) (8 + k) 0 ≡ get_or rest k 0
byte_behind n rest k e = grind (arith, common_steps)

listing_again : (m : ℕ) (n : List ℕ) (t : Tier) (l : ℕ) (c : Option ℕ) → ReadsBack listing_of (Listing m n t l c)
unfolding listing_of
listing_again m n t l c h r =
    let body = body_of (Listing m n t l c) in
    let rest = tier_byte t ∷ l ∷ to_be_bytes w64 (units_or_zero c) in
    let size : length body ≡ 27 = omega (arith, r.0, length-append n rest) in
    let units = ap (λ (x : List ℕ). from_be_bytes w64 (take 8 x)) (behind n rest 2 r.0)
    ∙ wide64.read (units_or_zero c) (optional_below c h.2) in
    let at_1 = moment_again 1 body m (wide64.read m (omega arith)) h.0 in
    let at_9 = name_again 9 body n (take_at n rest 8 r.0) r.1 in
    let at_17 = tier_again _ t (byte_behind n rest 0 r.0) in
    let at_18 = leverage_again _ l (byte_behind n rest 1 r.0) h.1 in
    let at_19 = optional_again 19 body c units h.2 in
    rw (size, at_1, at_9, at_17, at_18, at_19) refl

pub body_again : (x : Record) → ReadsBack record_of x
unfolding record_of
body_again (Day m d v) h r = day_again m d v h r
body_again (Listing m n t l c) h r = listing_again m n t l c h r
body_again (Trade m s n p z f) h r = trade_again m s n p z f h r
body_again (Cancel m s n) h r = cancel_again m s n h r
body_again (Quote m s b o y z) h r = quote_again m s b o y z h r
body_again (IndexTick m v) h r = index_tick_again m v h r
body_again (Clock m) h r = clock_again m h r
body_again (Notice m s k) h r = notice_again m s k h r
body_again (Indication m s p u) h r = indication_again m s p u h r

pub record_again : (body : List ℕ) (x : Record) → Spells body x → record_of body ≡ Ok x
record_again body x s = ap record_of s.bytes ∙ body_again x s.types s.ranges

-- a record with another moment
abbrev at_moment : ℕ → Record → Record
at_moment m (Day t d v) = Day m d v
at_moment m (Listing t n k l c) = Listing m n k l c
at_moment m (Trade t s n p z f) = Trade m s n p z f
at_moment m (Cancel t s n) = Cancel m s n
at_moment m (Quote t s b o y z) = Quote m s b o y z
at_moment m (IndexTick t v) = IndexTick m v
at_moment m (Clock t) = Clock m
at_moment m (Notice t s k) = Notice m s k
at_moment m (Indication t s p u) = Indication m s p u

at_its_moment : (x : Record) → at_moment (moment_of x) x ≡ x
at_its_moment (Day t d v) = refl
at_its_moment (Listing t n k l c) = refl
at_its_moment (Trade t s n p z f) = refl
at_its_moment (Cancel t s n) = refl
at_its_moment (Quote t s b o y z) = refl
at_its_moment (IndexTick t v) = refl
at_its_moment (Clock t) = refl
at_its_moment (Notice t s k) = refl
at_its_moment (Indication t s p u) = refl

-- a record that was written by its moment and its parts
pub parts_again : (x y : Record) (m : ℕ) → x ≡ y → m ≡ moment_of x → HasTypes (at_moment m y) → InRange x → record_of (body_of x) ≡ Ok x
parts_again x y m e at types ranges = body_again x (subst HasTypes same types) ranges where
  same : at_moment m y ≡ x
  same = ap (λ (z : Record). at_moment m z) (sym e) ∙ ap (λ (n : ℕ). at_moment n x) at ∙ at_its_moment x
