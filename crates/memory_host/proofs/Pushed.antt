-- One more effect joins those that were made.
use Rattle.std.proofs.Common.{◌≡◌, ◌⊎◌, inl, inr, ⊎_elim, ℕ, zero, suc, ◌+◌, ◌≤◌, ◌<◌, List, [], ◌∷◌, ◌++◌, length, take, drop, refl, sym, ◌∙◌, ap, subst, arith, append_assoc, length-append, length-drop, take-append-drop}
use Rattle.std.proofs.lemmas.List.{append-nil, drop_at, drop_all, length-take, length-take-le}
use Rattle.std.proofs.lemmas.Bool.{cases_lt}
use Rattle.memory_host.specs.declared.effect.Effect.{Effect}
use Rattle.host_core.specs.Outside.{Outside, Ask, Elapses, written, Torn}
use Rattle.memory_host.specs.Effects.{disk_after, sent_after, may_after, During, disk_of, sent_of, may_of, moment_of, Leaves, leaves_now, remembered}

pub disk_of-push : (disk : List ℕ) (effects : List Effect) (effect : Effect) → disk_of disk (effects ++ effect ∷ []) ≡ disk_after (disk_of disk effects) effect
disk_of-push disk [] effect = refl
disk_of-push disk (first ∷ effects) effect = disk_of-push (disk_after disk first) effects effect

pub sent_of-push : (sent : List ℕ) (effects : List Effect) (effect : Effect) → sent_of sent (effects ++ effect ∷ []) ≡ sent_after (sent_of sent effects) effect
sent_of-push sent [] effect = refl
sent_of-push sent (first ∷ effects) effect = sent_of-push (sent_after sent first) effects effect

pub moment_of-push : (effects : List Effect) (effect : Effect) → moment_of (effects ++ effect ∷ []) ≡ suc (suc (moment_of effects))
moment_of-push [] effect = refl
moment_of-push (first ∷ effects) effect = ap (λ n. suc (suc n)) (moment_of-push effects effect)

-- earlier moments stay as they were
kept : (may : List ℕ → Type 0) (disk sent : List ℕ) (effects : List Effect) (effect : Effect) (k : ℕ) (image bytes : List ℕ) → k ≤ moment_of effects
    → Leaves may disk sent effects k image bytes → Leaves may disk sent (effects ++ effect ∷ []) k image bytes
kept may disk sent effects effect zero image bytes le left = left
kept may disk sent [] effect (suc k) image bytes le left = absurd left
kept may disk sent (first ∷ effects) effect (suc zero) image bytes le left = left
kept may disk sent (first ∷ effects) effect (suc (suc k)) image bytes le left =
    kept (may_after may disk first) (disk_after disk first) (sent_after sent first) effects effect k image bytes (omega (arith, le)) left

no_more : (may : List ℕ → Type 0) (disk sent : List ℕ) (effects : List Effect) (effect : Effect) (k : ℕ) (image bytes : List ℕ) → k ≤ moment_of effects
    → Leaves may disk sent (effects ++ effect ∷ []) k image bytes → Leaves may disk sent effects k image bytes
no_more may disk sent effects effect zero image bytes le left = left
no_more may disk sent [] effect (suc k) image bytes le left = absurd (omega (arith, le))
no_more may disk sent (first ∷ effects) effect (suc zero) image bytes le left = left
no_more may disk sent (first ∷ effects) effect (suc (suc k)) image bytes le left =
    no_more (may_after may disk first) (disk_after disk first) (sent_after sent first) effects effect k image bytes (omega (arith, le)) left

-- the new moments are within the effect and after it
newest : (may : List ℕ → Type 0) (disk sent : List ℕ) (effects : List Effect) (effect : Effect) (k : ℕ) (image bytes : List ℕ) → moment_of effects < k
    → Leaves may disk sent (effects ++ effect ∷ []) k image bytes
    → During (may_of may disk effects) (disk_of disk effects) (sent_of sent effects) effect image bytes
    ⊎ (may_after (may_of may disk effects) (disk_of disk effects) effect image × (bytes ≡ sent_after (sent_of sent effects) effect))
newest may disk sent [] effect zero image bytes lt left = absurd (omega (arith, lt))
newest may disk sent [] effect (suc zero) image bytes lt left = inl left
newest may disk sent [] effect (suc (suc zero)) image bytes lt left = inr left
newest may disk sent [] effect (suc (suc (suc k))) image bytes lt left = absurd left
newest may disk sent (first ∷ effects) effect zero image bytes lt left = absurd (omega (arith, lt))
newest may disk sent (first ∷ effects) effect (suc zero) image bytes lt left = absurd (omega (arith, lt))
newest may disk sent (first ∷ effects) effect (suc (suc k)) image bytes lt left =
    newest (may_after may disk first) (disk_after disk first) (sent_after sent first) effects effect k image bytes (omega (arith, lt)) left

-- a host goes on by one effect
module _ (input sent disk start : List ℕ) (effects : List Effect) (asks : List Ask) (a b c : ℕ) (sent_is : sent ≡ sent_of [] effects) (disk_is : disk ≡ disk_of start effects)
    (effect : Effect) (stops : List ℕ → List ℕ → Type 0)
    (before : (image bytes : List ℕ) → may_of (λ image. image ≡ start) start effects image → bytes ≡ sent → stops image bytes)
    (within : (image bytes : List ℕ) → During (may_of (λ image. image ≡ start) start effects) disk sent effect image bytes → stops image bytes)
    (after : (image bytes : List ℕ) → may_after (may_of (λ image. image ≡ start) start effects) disk effect image → bytes ≡ sent_after sent effect → stops image bytes) where
  abbrev old : Outside
  old = remembered input sent disk start effects asks a b c

  during : (image bytes : List ℕ) (k : ℕ) → Leaves (λ image. image ≡ start) start [] (effects ++ effect ∷ []) k image bytes → (moment_of effects < k) ⊎ (k ≤ moment_of effects) → moment_of effects ≤ k → stops image bytes
  during image bytes k left (inl later) ge = ⊎_elim
      (λ inside. within image bytes (rw (sent_is, disk_is) inside))
      (λ behind. after image bytes (rw disk_is behind.0) (behind.1 ∙ ap (λ s. sent_after s effect) (sym sent_is)))
      (newest (λ image. image ≡ start) start [] effects effect k image bytes later left)
  during image bytes k left (inr earlier) ge =
      let same : k ≡ moment_of effects = omega (arith, earlier, ge) in
      let was = no_more (λ image. image ≡ start) start [] effects effect k image bytes earlier left in
      let here : Leaves (λ image. image ≡ start) start [] effects (moment_of effects) image bytes = rw same at was in
      let now = leaves_now (λ image. image ≡ start) start [] effects image bytes here in
      before image bytes now.0 (now.1 ∙ sym sent_is)

  pub pushed : (later : List Effect) (input' sent' disk' : List ℕ) (asks' : List Ask) (a' b' c' : ℕ) → later ≡ effects ++ effect ∷ [] → Elapses old (remembered input' sent' disk' start later asks' a' b' c') stops
  pushed later input' sent' disk' asks' a' b' c' is = subst (λ l. Elapses old (remembered input' sent' disk' start l asks' a' b' c') stops) (sym is) (record {
    later = omega (arith, moment_of-push effects effect);
    kept = λ k image bytes le left. kept (λ image. image ≡ start) start [] effects effect k image bytes le left;
    no_more = λ k image bytes le left. no_more (λ image. image ≡ start) start [] effects effect k image bytes le left;
    during = λ image bytes stop. during image bytes stop.moment stop.left (cases_lt (moment_of effects) stop.moment) stop.after;
  })
