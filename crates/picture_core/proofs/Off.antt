-- Labels stand off the bars of the lanes.
use Rattle.std.proofs.Common.{◌≡◌, ℕ, ◌+◌, ◌-◌, ◌*◌, ◌≤◌, ◌⊎◌, inl, inr, Bool, true, false, List, [], ◌∷◌, refl, arith}
use Rattle.std.specs.Prelude.{not, ◌&&◌, nat_lt, nat_le, if◌then◌else◌, codes}
use Rattle.std.specs.List.{list_all}
use Rattle.std.proofs.lemmas.Bool.{cases_lt}
use Rattle.std.proofs.lemmas.Bool.Decides.{nat_tests}
use Rattle.session_core.specs.declared.state.Phase.{Phase}
use Rattle.session_core.specs.declared.state.Phase.TheVariants as phases
use Rattle.wire_out.specs.declared.message.Message.TheVariants.{Listed, State, Band, Straddle, Collar, Release, Short, Breaker, MarketResume}
use Rattle.picture_core.specs.Scales.{y_of}
use Rattle.picture_core.specs.Places.{in_lane, heights_of}
use Rattle.picture_core.specs.Rooms.{meets}
use Rattle.picture_core.specs.Labels.{dollars_text}
use Rattle.picture_core.specs.Elements.{Label, label, room_of, price_label, band_labels, round_text, collar_labels, release_labels, begun, lane_label, bar_label, level_text, short_text, element_labels}
use Rattle.picture_core.specs.Laws.{bar_room, LabelsStandOffBars}
use Rattle.picture_core.specs.declared.axis.Axis.{Axis}
use Rattle.picture_core.specs.declared.element.Style.TheVariants.{Plain, Before, Strong}
use Rattle.picture_core.specs.declared.place.Place.{Place}
use Rattle.picture_core.specs.declared.room.Room.{Room}

third : (a b d : Bool) → not (a && (b && (false && d))) ≡ true
third true true d = refl
third true false d = refl
third false b d = refl

fourth : (a b c : Bool) → not (a && (b && (c && false))) ≡ true
fourth true true true = refl
fourth true true false = refl
fourth true false c = refl
fourth false b c = refl

not_below : (m n : ℕ) → n ≤ m → nat_lt m n ≡ false
not_below m n most = grind (arith, nat_tests)

-- one room is above the other
apart : (a b : Room) → (a.bottom ≤ b.top) ⊎ (b.bottom ≤ a.top) → not (meets a b) ≡ true
apart a b (inl above) = rw (not_below b.top a.bottom above) (fourth (nat_lt a.left b.right) (nat_lt b.left a.right) (nat_lt a.top b.bottom))
apart a b (inr below) = rw (not_below a.top b.bottom below) (third (nat_lt a.left b.right) (nat_lt b.left a.right) (nat_lt b.top a.bottom))

-- a label stands over the lanes, or below the bars of one
Stands : Label → Type 0
Stands l = (l.y ≤ 2980) ⊎ ((lane : ℕ) × (l.y ≡ 3164 + 130 * lane))

abbrev is_off : ℕ → ℕ → ℕ → Label → Bool
is_off lane left right l = not (meets (room_of l) (bar_room lane left right))

-- it is off each bar
off_bar : (l : Label) (lane left right : ℕ) → Stands l → is_off lane left right l ≡ true
unfolding Stands
off_bar l lane left right (inl over) = apart (room_of l) (bar_room lane left right) (inl (omega arith))
off_bar l lane left right (inr (k, is)) =
    elim (cases_lt k lane) [
      | inl above ↦ apart (room_of l) (bar_room lane left right) (inl (omega arith))
      | inr below ↦ apart (room_of l) (bar_room lane left right) (inr (omega arith))
    ]

y_within : (axis : Axis) (price : ℕ) → y_of axis price ≤ 2900
unfolding y_of
y_within axis price = omega arith

one : (p : Label → Bool) (a : Label) → p a ≡ true → list_all p (a ∷ []) ≡ true
one p a is = rw is refl

two : (p : Label → Bool) (a b : Label) → p a ≡ true → p b ≡ true → list_all p (a ∷ b ∷ []) ≡ true
two p a b is too = rw (is, too) refl

three : (p : Label → Bool) (a b c : Label) → p a ≡ true → p b ≡ true → p c ≡ true → list_all p (a ∷ b ∷ c ∷ []) ≡ true
three p a b c is too last = rw (is, too, last) refl

all_unless : (p : Label → Bool) (b : Bool) (ls : List Label) → list_all p ls ≡ true → list_all p (if b then [] else ls) ≡ true
all_unless p true ls all = refl
all_unless p false ls all = all

stands_either : (b : Bool) (l m : Label) → Stands l → Stands m → Stands (if b then l else m)
stands_either true l m first second = first
stands_either false l m first second = second

-- the words of a bar
bar_off : (k left right : ℕ) (words : List ℕ) (lane from to : ℕ)
    → list_all (is_off lane from to) (bar_label (record { left = left; right = right; heights = in_lane k }) words ∷ []) ≡ true
unfolding bar_label Stands
bar_off k left right words lane from to =
    let p : Place = record { left = left; right = right; heights = in_lane k } in
    one (is_off lane from to) (bar_label p words)
    (off_bar (bar_label p words) lane from to
    (stands_either (nat_le left 5000) (lane_label Plain (left + 10) p words) (lane_label Before right p words) (inr (k, omega arith)) (inr (k, omega arith))))

-- a label that high is off each bar
over : (l : Label) (lane from to : ℕ) → l.y ≤ 2980 → is_off lane from to l ≡ true
unfolding Stands
over l lane from to high = off_bar l lane from to (inl high)

band_off : (axis : Axis) (left right reference lower upper : ℕ) (lane from to : ℕ)
    → list_all (is_off lane from to)
    (band_labels (record { left = left; right = right; heights = record { top = y_of axis upper; middle = y_of axis reference; bottom = y_of axis lower } }) reference lower upper)
    ≡ true
unfolding band_labels
band_off axis left right reference lower upper lane from to =
    let top = price_label (left + 10) (y_of axis upper - 20) upper in
    let middle = price_label (left + 10) (y_of axis reference - 20) reference in
    let bottom = price_label (left + 10) (y_of axis lower + 70) lower in
    let a = y_within axis upper in let b = y_within axis reference in let c = y_within axis lower in
    all_unless (is_off lane from to) (nat_lt (right - left) 300) (top ∷ middle ∷ bottom ∷ [])
    (three (is_off lane from to) top middle bottom (over top lane from to (omega arith)) (over middle lane from to (omega arith)) (over bottom lane from to (omega arith)))

collar_off : (axis : Axis) (left right round lower upper : ℕ) (lane from to : ℕ)
    → list_all (is_off lane from to)
    (collar_labels (record { left = left; right = right; heights = record { top = y_of axis upper; middle = y_of axis upper; bottom = y_of axis lower } }) round)
    ≡ true
unfolding collar_labels
collar_off axis left right round lower upper lane from to =
    let top = label Plain (left + 10) (y_of axis upper - 20) (round_text round) [] in
    let bottom = label Plain (left + 10) (y_of axis lower + 70) (round_text round) [] in
    let a = y_within axis upper in let c = y_within axis lower in
    two (is_off lane from to) top bottom (over top lane from to (omega arith)) (over bottom lane from to (omega arith))

release_off : (axis : Axis) (left right price : ℕ) (lane from to : ℕ)
    → list_all (is_off lane from to)
    (release_labels (record { left = left; right = right; heights = record { top = y_of axis price; middle = y_of axis price; bottom = y_of axis price } }) price)
    ≡ true
unfolding release_labels
release_off axis left right price lane from to =
    let l = label Strong (left + 50) (y_of axis price + 80) (dollars_text price) [] in
    let a = y_within axis price in
    one (is_off lane from to) l (over l lane from to (omega arith))

phase_off : (axis : Axis) (s : ℕ) (phase : Phase) (moment left right : ℕ) (lane from to : ℕ)
    → list_all (is_off lane from to)
    (element_labels (State s phase) moment (record { left = left; right = right; heights = heights_of axis (State s phase) })) ≡ true
phase_off axis s phases.LimitLow moment left right lane from to = bar_off 0 left right (begun moment (codes " lower band")) lane from to
phase_off axis s phases.LimitHigh moment left right lane from to = bar_off 0 left right (begun moment (codes " upper band")) lane from to
phase_off axis s phases.Paused moment left right lane from to = bar_off 2 left right (begun moment []) lane from to
phase_off axis s phases.Closing moment left right lane from to = bar_off 2 left right (begun moment (codes " to the close")) lane from to
phase_off axis s phases.Halted moment left right lane from to = bar_off 3 left right (begun moment []) lane from to
phase_off axis s phases.Shut moment left right lane from to = refl
phase_off axis s phases.Trading moment left right lane from to = refl
phase_off axis s phases.Stopped moment left right lane from to = refl
phase_off axis s phases.Closed moment left right lane from to = refl

pub labels_stand_off_bars : LabelsStandOffBars
labels_stand_off_bars axis (Listed s name) moment left right lane from to = refl
labels_stand_off_bars axis (State s phase) moment left right lane from to = phase_off axis s phase moment left right lane from to
labels_stand_off_bars axis (Band s cause reference lower upper) moment left right lane from to = band_off axis left right reference lower upper lane from to
labels_stand_off_bars axis (Straddle s true) moment left right lane from to = bar_off 1 left right (begun moment []) lane from to
labels_stand_off_bars axis (Straddle s false) moment left right lane from to = refl
labels_stand_off_bars axis (Collar s round lower upper) moment left right lane from to = collar_off axis left right round lower upper lane from to
labels_stand_off_bars axis (Release s price) moment left right lane from to = release_off axis left right price lane from to
labels_stand_off_bars axis (Short s kind) moment left right lane from to = bar_off 5 left right (begun moment (short_text kind)) lane from to
labels_stand_off_bars axis (Breaker level index) moment left right lane from to = bar_off 4 left right (begun moment (level_text level)) lane from to
labels_stand_off_bars axis MarketResume moment left right lane from to = refl
