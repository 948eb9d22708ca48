use Rattle.std.proofs.Common.{ℕ, ◌++◌, List, take, drop, take_all, take-append-drop, refl, ap, ◌∙◌, append_assoc, append-nil, arith, rules}
use Rattle.host_core.proofs.Moments.{unchanged}
use Rattle.host_core.proofs.Causes.{no_fault, faultless}
use Rattle.engine_core.proofs.Expecting.{Begins}
use Rattle.engine_core.proofs.Reading.{idles, answers_on, runs_on}
use Rattle.engine_core.proofs.session.feed.Goals as goal

-- the bytes of a piece that were taken, and those that are left
begins : (read piece : List ℕ) (at : ℕ) → Begins (read ++ take at piece) (read ++ piece)
begins read piece at = record { more = drop at piece; whole = append_assoc read (take at piece) (drop at piece) ∙ ap (λ (b : List ℕ). read ++ b) (take-append-drop at piece) }

pub loop-at-init : goal.loop-at-init
loop-at-init g c = record {
  within = omega arith;
  empty = c.requires.empty;
  few = omega arith;
  still = λ none. refl;
  most = refl;
  ready = c.requires.ready;
  runs = λ start read same serves.
      rw (append-nil read) (idles serves _ (record { more = c.args.piece.now; whole = refl }) (g.met.H.Host.sent_now c.args.host.now) (λ records image held left. g.K.Keeper.recovers_now c.args.keeper.now records _ image held left));
  keeps = record { input = refl; asks = refl; read_faults = refl; continues = unchanged _; to_disk = g.K.Keeper.untouched _ _ _ refl refl };
  none = no_fault _;
}

pub loop-at-preserved : goal.loop-at-preserved
loop-at-preserved g c = record {
  within = c.fill-at.ensures.offset.1;
  empty = c.in_ok-settle.ensures.empty;
  few = omega (arith, c.loop-at.invariant.few, c.in_ok-settle.ensures.answered, c.fill-at.ensures.few, c.fill-at.ensures.answered);
  still = λ none. absurd (omega (arith, none, c.fill-at.ensures.offset.0));
  most = c.settle.ensures.most ∙ c.fill-at.ensures.most ∙ c.loop-at.invariant.most;
  ready = c.in_ok-settle.ensures.ready;
  runs = λ start read same serves.
      let was = c.loop-at.invariant.runs start read same serves in
      runs_on (begins read c.args.piece.now c.fill-at.result) was
      (rw (c.fill-at.ensures.most ∙ c.loop-at.invariant.most) at
      (c.in_ok-settle.ensures.runs start _ same (record { answered = was.serves.answered; judges = c.fill-at.ensures.judges start _ read _ was.serves.judges; held = was.serves.held })));
  keeps = answers_on _ (g.K.Keeper.touches_both _) c.loop-at.invariant.keeps (rw (c.fill-at.ensures.most ∙ c.loop-at.invariant.most) at c.settle.ensures.keeps);
  none = faultless c.loop-at.invariant.none c.in_ok-settle.ensures.causes;
}

pub returns-in_err-settle-clause-runs : goal.returns-in_err-settle-clause-runs
returns-in_err-settle-clause-runs g c start read same serves =
    let was = c.loop-at.invariant.runs start read same serves in
    let run = runs_on (begins read c.args.piece.now c.fill-at.result) was
    (rw (c.fill-at.ensures.most ∙ c.loop-at.invariant.most) at
    (c.settle.ensures.runs start _ same (record { answered = was.serves.answered; judges = c.fill-at.ensures.judges start _ read _ was.serves.judges; held = was.serves.held }))) in
    record { serves = search rules; before = search rules; moments = run.moments; nothing = run.nothing; starved = λ is. run.starved (search rules) }

pub returns-in_err-settle-clause-keeps : goal.returns-in_err-settle-clause-keeps
returns-in_err-settle-clause-keeps g c =
    answers_on _ (g.K.Keeper.touches_both _) c.loop-at.invariant.keeps (rw (c.fill-at.ensures.most ∙ c.loop-at.invariant.most) at c.settle.ensures.keeps)

pub returns-clause-runs : goal.returns-clause-runs
returns-clause-runs g c start read same serves =
    rw (take_all c.loop-at.at c.args.piece.now (omega (arith, c.loop-at-test.false))) at (c.loop-at.invariant.runs start read same serves)
