use Rattle.std.proofs.Common.{◌≡◌, ◌≤◌, ◌∷◌, inr, true, length, sym, ap, subst, arith, ◌∙◌}
use Rattle.std.proofs.lemmas.List.{length-drop}
use Rattle.journal_core.proofs.FrameLemmas.{frames_least}
use Rattle.journal_core.proofs.ScanLemmas.{took_none}
use Rattle.journal_core.specs.Scan.{ScanState, HasRead}
use Rattle.journal_core.proofs.scan.Scan.take_at_gate.Goals as goal

pub invariant_of-self-in-Batch : goal.invariant_of-self-in-Batch
invariant_of-self-in-Batch c =
    let prefix = c.in-Batch.ensures in
    let before = c.self.invariant in
    let within : c.in-Batch.len ≤ length c.self.inside.ahead = omega (arith, prefix.2, ap length c.bytes.ensures) in
    record {
      range = before.range;
      base_range = before.base_range;
      base_few = before.base_few;
      count_within = omega (arith, before.count_within, c.len.ensures.len, prefix.1, frames_least c.read.new.into);
      ahead_within = omega (arith, before.ahead_within, within, ap length c.skip.ensures, length-drop c.in-Batch.len c.self.inside.ahead);
      small = before.small;
    }

pub returns-in-Closed-clause-reads : goal.returns-in-Closed-clause-reads
returns-in-Closed-clause-reads c =
    let old = c.args.self.now in
    let zero = c.in-Closed.ensures.1 in
    let ahead : old.ahead ≡ 0 ∷ zero.0 = sym (c.bytes.ensures ∙ ap (λ (s : ScanState). s.ahead) c.self.view_is) ∙ zero.1 in
    inr (λ batches disk read. subst (λ (s : ScanState). HasRead s batches disk) (sym (ap (λ (s : ScanState). record s { is_closed = true }) c.self.view_is)) (took_none old zero.0 ahead batches disk read))
