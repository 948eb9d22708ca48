-- How runs add up.
use Rattle.std.proofs.Common.{◌≡◌, ◌⊎◌, inl, inr, ⊎_elim, ℕ, ◌≤◌, ◌<◌, List, refl, sym, ◌∙◌, subst, arith}
use Rattle.std.specs.Prelude.{Some}
use Rattle.host_core.proofs.Known.{still_known}
use Rattle.std.proofs.lemmas.Bool.{cases_lt}
use Rattle.host_core.specs.Outside.{Outside, Agrees, MayLeave, Stop, Elapses, Ends, Stays, Changes, Rose, Continues}

-- a run that allows more stops
pub widened : {old new : Outside} {P : List ℕ → List ℕ → Type 0} → Elapses old new P → (Q : List ℕ → List ℕ → Type 0) → ((image bytes : List ℕ) → P image bytes → Q image bytes) → Elapses old new Q
widened run Q more = record {
  later = run.later;
  kept = run.kept;
  no_more = run.no_more;
  during = λ image bytes stop. more image bytes (run.during image bytes stop);
}

-- a run, and then another
pub joined : {old mid new : Outside} {P Q : List ℕ → List ℕ → Type 0} → Elapses old mid P → Elapses mid new Q → Elapses old new (λ image bytes. P image bytes ⊎ Q image bytes)
joined {old} {mid} {new} {P} {Q} first second = record {
  later = omega (arith, first.later, second.later);
  kept = λ k image bytes le left. second.kept k image bytes (omega (arith, le, first.later)) (first.kept k image bytes le left);
  no_more = λ k image bytes le left. first.no_more k image bytes le (second.no_more k image bytes (omega (arith, le, first.later)) left);
  during = λ image bytes stop. split image bytes stop (cases_lt mid.moment stop.moment);
}
  where
    split : (image bytes : List ℕ) (stop : Stop new old.moment image bytes) → (mid.moment < stop.moment) ⊎ (stop.moment ≤ mid.moment) → P image bytes ⊎ Q image bytes
    split image bytes stop (inl later) = inr (second.during image bytes (record { moment = stop.moment; after = omega (arith, later); before = stop.before; left = stop.left }))
    split image bytes stop (inr earlier) = inl (first.during image bytes (record { moment = stop.moment; after = stop.after; before = earlier; left = second.no_more stop.moment image bytes earlier stop.left }))

-- a run goes on, and allows no other stops
pub goes_on : {old mid new : Outside} {P Q : List ℕ → List ℕ → Type 0} → Elapses old mid P → Elapses mid new Q → ((image bytes : List ℕ) → Q image bytes → P image bytes) → Elapses old new P
goes_on {P = P} first second within = widened (joined first second) P (λ image bytes either. ⊎_elim (λ p. p) (within image bytes) either)

-- the end of a run is one of its moments
pub ended : {old new : Outside} {P : List ℕ → List ℕ → Type 0} → Elapses old new P → {image : List ℕ} → (last : MayLeave new image) → P image last.bytes
ended {new = new} run {image} last = run.during image last.bytes (record { moment = new.moment; after = run.later; before = omega arith; left = last.left })

-- the end of a run that returned
pub returned : {old new : Outside} {stops : List ℕ → List ℕ → Type 0} → Elapses old new stops → Continues old new
    → ((image bytes : List ℕ) → new.leaves new.moment image bytes → Agrees new.sent bytes) → ((disk : List ℕ) → new.disk ≡ Some disk → MayLeave new disk)
    → (disk sent : List ℕ) → old.disk ≡ Some disk → old.sent ≡ Some sent → Ends stops new
returned {old} {new} {stops} run continues sent_now read_passes disk sent disk_known sent_known =
    let now_disk = still_known old.disk new.disk continues.disk disk disk_known in
    let now_sent = still_known old.sent new.sent continues.sent sent sent_known in
    let last = read_passes now_disk.0 now_disk.1 in
    record {
      image = now_disk.0;
      bytes = now_sent.0;
      disk_known = now_disk.1;
      sent_known = now_sent.1;
      left = subst (stops now_disk.0) (sent_now now_disk.0 last.bytes last.left now_sent.0 now_sent.1) (ended run last);
    }

-- no time has passed
pub nothing : (now : Outside) → ((image bytes : List ℕ) → now.leaves now.moment image bytes → Agrees now.sent bytes) → Elapses now now (Stays now)
nothing now sent_now = record {
  later = omega arith;
  kept = λ k image bytes le left. left;
  no_more = λ k image bytes le left. left;
  during = λ image bytes stop. at_once image bytes stop.moment stop.after stop.before stop.left;
}
  where
    at_once : (image bytes : List ℕ) (k : ℕ) → now.moment ≤ k → k ≤ now.moment → now.leaves k image bytes → Stays now image bytes
    at_once image bytes k ge le left =
        let same : k ≡ now.moment = omega (arith, ge, le) in
        let here : now.leaves now.moment image bytes = rw same at left in
        record { was = record { bytes = bytes; left = here }; sent = sent_now image bytes here }

-- a change of the disk, and then calls that leave it alone
pub rests : {old mid : Outside} {change : List ℕ → List ℕ → Type 0} → Elapses old mid (Changes change old) → mid.sent ≡ old.sent → (image bytes : List ℕ) → Stays mid image bytes → Changes change old image bytes
rests run same image bytes stays =
    let at_end = ended run stays.was in
    record { before = at_end.before; was = at_end.was; changed = at_end.changed; sent = rw (sym same) stays.sent }

-- a count that rose in a part of a run rose in the run
pub rose_within : (start before now end : ℕ) → start ≤ before → Rose before now → now ≤ end → Rose start end
rose_within start before now end le rose ge = omega (arith, le, rose, ge)

-- what is kept at once, and by one run after another
pub unchanged : (now : Outside) → Continues now now
unchanged now = record { reading = omega arith; sending = omega arith; storing = omega arith; input = refl; sent = refl; disk = refl }

pub further : {old mid new : Outside} → Continues old mid → Continues mid new → Continues old new
further first second = record {
  reading = omega (arith, first.reading, second.reading);
  sending = omega (arith, first.sending, second.sending);
  storing = omega (arith, first.storing, second.storing);
  input = second.input ∙ first.input;
  sent = second.sent ∙ first.sent;
  disk = second.disk ∙ first.disk;
}

-- the moments of a run add up: a stop of the whole is one up to mid, or one from mid on
pub adds_up : {mid new : Outside} {P : List ℕ → List ℕ → Type 0} → Elapses mid new P → (from : ℕ) → from ≤ mid.moment → (image bytes : List ℕ)
    → (Stop new from image bytes → Stop mid from image bytes ⊎ Stop new mid.moment image bytes)
    × (Stop mid from image bytes ⊎ Stop new mid.moment image bytes → Stop new from image bytes)
adds_up {mid} {new} run from le image bytes = (λ stop. apart stop (cases_lt mid.moment stop.moment), together)
  where
    apart : (stop : Stop new from image bytes) → (mid.moment < stop.moment) ⊎ (stop.moment ≤ mid.moment) → Stop mid from image bytes ⊎ Stop new mid.moment image bytes
    apart stop (inl later) = inr (record { moment = stop.moment; after = omega (arith, later); before = stop.before; left = stop.left })
    apart stop (inr earlier) = inl (record { moment = stop.moment; after = stop.after; before = earlier; left = run.no_more stop.moment image bytes earlier stop.left })

    together : Stop mid from image bytes ⊎ Stop new mid.moment image bytes → Stop new from image bytes
    together (inl stop) = record { moment = stop.moment; after = stop.after; before = omega (arith, stop.before, run.later); left = run.kept stop.moment image bytes stop.before stop.left }
    together (inr stop) = record { moment = stop.moment; after = omega (arith, stop.after, le); before = stop.before; left = stop.left }
