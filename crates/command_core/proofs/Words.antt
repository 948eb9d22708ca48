-- The words of a process, and their texts.
use Rattle.std.proofs.Common.{◌≡◌, ℕ, Bool, true, false, List, map, drop, sym}
use Rattle.std.specs.Prelude.{if◌then◌else◌}
use Rattle.std.specs.Borrow.{Bor}
use Rattle.std.proofs.lemmas.List.{drop-map}

pub texts_behind : (asks : Bool) (args : List (Bor (List ℕ)))
    → map (λ w. w.now) (if asks then drop 1 args else drop 2 args) ≡ (if asks then drop 1 (map (λ w. w.now) args) else drop 2 (map (λ w. w.now) args))
texts_behind true args = sym (drop-map (λ w. w.now) 1 args)
texts_behind false args = sym (drop-map (λ w. w.now) 2 args)
