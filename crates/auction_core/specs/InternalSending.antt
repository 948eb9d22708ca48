-- Lines that are sent, one after the other. Private words: no public clause cites them.
use Rattle.std.specs.Prelude.{ℕ, List, [], ◌∷◌, ◌≡◌, ◌++◌, Option, Result, OnOk, IfErr, codes}
use Rattle.host_core.specs.declared.fault.Fault.{Fault}
use Rattle.host_core.specs.declared.fault.Fault.TheVariants.{Send}
use Rattle.host_core.specs.Outside.{Outside, Elapses}
use Rattle.host_core.specs.Frames.{OnlySends}
use Rattle.host_core.specs.Faults.{Causes}
use Rattle.stream_core.specs.Pending.{Expects, SendsPrefix}
use Rattle.wire_in.specs.declared.record.Record.TheVariants.{Indication}
use Rattle.text_core.specs.Lines.{line_of_record}
use Rattle.cross_core.specs.declared.order.Crossed.{Crossed}
use Rattle.auction_core.specs.declared.auction.Auction.{Auction}
use Rattle.auction_core.specs.Lines.{number_line}

-- a piece was appended to what waits, some of which may have been sent
pub record Appends {T : Type 0} (piece : List ℕ) (result : Result T Fault) (waiting still : List ℕ) (old new : Outside) : Type 0 where
  pub pending : (begin : Option (List ℕ)) (text : List ℕ) → Expects begin old.sent waiting text → OnOk result (Expects begin new.sent still (text ++ piece))
  pub moments : (begin : Option (List ℕ)) (text : List ℕ) → Expects begin old.sent waiting text → Elapses old new (SendsPrefix begin (text ++ piece) old)
  pub keeps : OnlySends old new
  pub causes : Causes result old new
  pub fault : IfErr result (λ fault. fault ≡ Send)

-- the lines before the rows
abbrev pub head_text : Auction → Crossed → List ℕ
head_text a crossed =
    (line_of_record (Indication a.moment a.symbol crossed.price crossed.left) ++ 10 ∷ [])
    ++ ((number_line (codes "volume") crossed.volume ++ 10 ∷ []) ++ (number_line (codes "imbalance") crossed.imbalance ++ 10 ∷ []))
