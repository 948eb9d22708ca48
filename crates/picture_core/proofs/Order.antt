-- The scales keep the order of moments and of prices.
use Rattle.std.proofs.Common.{ℕ, ◌-◌, ◌*◌, ◌/◌, ◌<◌, ◌≤◌, min, arith}
use Rattle.std.proofs.Math.Nat.{div-mul-le_self}
use Rattle.std.proofs.lemmas.Nat.{le-div}
use Rattle.picture_core.specs.declared.axis.Axis.{Axis}
use Rattle.picture_core.specs.Scales.{IsAxis, x_of, y_of}

pub moments_in_order : (earlier later : ℕ) → earlier ≤ later → x_of earlier ≤ x_of later
unfolding x_of
moments_in_order earlier later before = omega arith

part_in_order : (a b span : ℕ) → 0 < span → a ≤ b → a / span ≤ b / span
part_in_order a b span some order = le-div (a / span) b span some (omega (arith, div-mul-le_self a span))

pub prices_in_order : (axis : Axis) (lower higher : ℕ) → IsAxis axis → lower ≤ higher → y_of axis higher ≤ y_of axis lower
unfolding y_of
prices_in_order axis lower higher is order =
    let part = part_in_order ((min lower axis.high - axis.low) * 2600) ((min higher axis.high - axis.low) * 2600) (axis.high - axis.low) (omega (arith, is.rises)) (omega arith) in
    omega (arith, part)
