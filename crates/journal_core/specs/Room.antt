-- The bytes of a base as a roll writes them.
use Rattle.std.specs.Prelude.{◌≡◌, ℕ, List, [], ◌∷◌, ◌++◌}
use Rattle.wire_in.specs.Bases.{SpellsBase, base_bytes}
use Rattle.wire_in.specs.declared.base.Base.{Base}
use Rattle.journal_core.specs.Layout.{base_block, content_of}

-- what stands behind the gate of this base, and a closed gate
pub record IsRoom (base : Base) (bytes : List ℕ) : Type 0 where
  pub spelled : SpellsBase (base_bytes base) base
  pub whole : bytes ≡ content_of (base_block base) ++ 0 ∷ []
