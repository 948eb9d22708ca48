use Rattle.std.proofs.Common.{◌≡◌, ℕ, List, subst}
use Rattle.std.specs.Prelude.{IfOk}
use Rattle.rulebook.specs.Admission.{names}
use Rattle.rulebook.specs.Book.{evaluate_own}
use Rattle.rulebook.specs.History.{records}
use Rattle.history_core.specs.Names.{own_in}
use Rattle.afresh_core.proofs.book.evaluate_target.Goals as goal

pub returns : goal.returns
returns c =
    let same : c.deref-2.result.now ≡ names (records c.args.h.items) = cc (c.in_ok-names.ensures, c.deref.ensures.value, c.deref-2.ensures.value) in
    subst (λ (ns : List (List ℕ)). IfOk c.evaluate_own.result (λ evaluated. evaluated.items ≡ evaluate_own c.args.x.now (record { symbol = c.args.symbol; own = own_in ns c.args.symbol }) c.args.h.items))
    same
    c.evaluate_own.ensures
