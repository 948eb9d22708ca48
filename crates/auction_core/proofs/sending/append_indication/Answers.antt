use Rattle.std.proofs.Common.{ℕ, List, [], ◌∷◌, ◌++◌, ap}
use Rattle.auction_core.proofs.Appending.{appends_same}
use Rattle.auction_core.proofs.sending.append_indication.Goals as goal

pub returns : goal.returns
returns g c = record { appends = appends_same _ _ (ap (λ (l : List ℕ). l ++ 10 ∷ []) c.write_record.ensures.text) c.append_line.ensures.appends }
