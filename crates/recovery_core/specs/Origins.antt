-- What stands before the records that a scan of a journal reads.
use Rattle.std.specs.Prelude.{◌≡◌, ◌⊎◌, ℕ, ◌+◌, List, [], ◌∷◌, ◌++◌, Option, Some, None, option_map, length}
use Rattle.wire_in.specs.declared.base.Base.{Base}
use Rattle.wire_in.specs.declared.record.Record.{Record}
use Rattle.wire_out.specs.declared.message.Frame.{Frame}
use Rattle.wire_out.specs.declared.message.Frame.TheVariants.{Hello}
use Rattle.wire_out.specs.Spelling.{spelling}
use Rattle.rulebook.specs.Admission.{IsLawful}
use Rattle.rulebook.specs.Base.{Origin, again_after, base_of, based, messages_after, stand_in, whole}
use Rattle.rulebook.specs.Sent.{spelled}
use Rattle.journal_core.specs.Scan.{LeadsTo}

-- the last base of the journal, or no records where it has none
abbrev pub origin_of : Option Base → Origin
origin_of None = whole []
origin_of (Some b) = based b

-- the lists that may stand before them: each lawful one with that base, and its stand-in; or no records
abbrev pub IsPast : Option Base → List Record → Type 0
IsPast None past = past ≡ []
IsPast (Some b) past = (past ≡ stand_in b) ⊎ ((limit : ℕ) × IsLawful limit past × (base_of past ≡ Some b))

-- the messages of the records that are asked for again, spelled
abbrev pub again : Option ℕ → Option Base → List Record → List ℕ
again from base held = spelled (again_after (origin_of base) from held)

-- how many records and messages there are, with those before
abbrev pub hello_after : Origin → List Record → Frame
hello_after origin held = Hello (origin.records + length held) (origin.messages + length (messages_after origin held))

-- and all that is sent before the first frame is answered
abbrev pub opening : Option ℕ → Option Base → List Record → List ℕ
opening from base held = again from base held ++ spelling (hello_after (origin_of base) held)

-- the disk is read from this base on, which is its last one, or from its first gate where it has none
pub record IsReadFrom (base : Option Base) (disk : List ℕ) : Type 0 where
  pub capacity : ℕ
  pub gate : ℕ
  pub batches : List (List Record)
  pub rest : List ℕ
  pub leads : LeadsTo capacity gate base batches disk rest

-- the newest of the records behind a base, which have the newest first; of none, the day of the base
abbrev pub newest_of : Option Base → List Record → Option Record
newest_of base [] = option_map (λ b. b.day) base
newest_of base (x ∷ earlier) = Some x
