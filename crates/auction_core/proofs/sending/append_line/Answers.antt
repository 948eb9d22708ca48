use Rattle.std.proofs.Common.{◌∙◌}
use Rattle.auction_core.proofs.Appending.{appends_bytes}
use Rattle.auction_core.proofs.sending.append_line.Goals as goal

pub returns : goal.returns
returns g c = record {
  appends = appends_bytes c.append_bytes.result _ _ _ _ _ _ (c.as_slice.ensures.value ∙ c.end.ensures) c.append_bytes.ensures.pending c.append_bytes.ensures.moments
      c.append_bytes.ensures.outside.keeps c.append_bytes.ensures.outside.causes c.append_bytes.ensures.outside.fault;
}
