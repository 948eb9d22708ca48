-- What each effect of a host in memory may leave.
use Rattle.std.proofs.Common.{◌≡◌, ◌⊎◌, inl, inr, ℕ, ◌≤◌, List, [], ◌∷◌, ◌++◌, length, take, refl, sym, ◌∙◌, ap, subst, arith, length-take}
use Rattle.std.proofs.lemmas.List.{append-nil, take-take}
use Rattle.std.specs.Prelude.{Some, Vec}
use Rattle.std.specs.declared.alloc.Global.{Global}
use Rattle.memory_host.specs.declared.effect.Effect.{Effect}
use Rattle.memory_host.specs.declared.effect.Effect.TheVariants.{Wrote, Tore, Synced, Sent}
use Rattle.host_core.specs.Outside.{Outside, Ask, Agrees, MayLeave, Elapses, Stays, Changes, Sends, IsSettled, written, Torn, Grows}
use Rattle.memory_host.specs.Effects.{Tears, disk_after, disk_of, sent_of, may_of, may_after, read_of, now_leaves, leaves_now, moment_of, Leaves, remembered, remembered_sent, some_same}
use Rattle.host_core.proofs.Moments.{nothing, widened}
use Rattle.memory_host.proofs.Pushed.{pushed}
use Rattle.host_core.proofs.Torns.{torn_whole, torn_none}

agrees : (x bytes : List ℕ) → bytes ≡ x → Agrees (Some x) bytes
agrees x bytes is content same = is ∙ some_same x content same

-- a send that sent nothing
pub nothing_sent : (sent sent' piece : List ℕ) → sent' ≡ sent → Grows (Some sent) (Some sent') piece 0
nothing_sent sent sent' piece same = record { bound = omega arith; bytes = ap Some (same ∙ sym (append-nil sent)) }

-- a stop after a sync leaves what a read gives
may_of-synced : (may : List ℕ → Type 0) (disk : List ℕ) (effects : List Effect) (image : List ℕ) → may_of may disk (effects ++ Synced ∷ []) image → image ≡ disk_of disk effects
may_of-synced may disk [] image left = left
may_of-synced may disk (first ∷ effects) image left = may_of-synced (may_after may disk first) (disk_after disk first) effects image left

module _ (input sent disk start : List ℕ) (effects : List Effect) (asks : List Ask) (a b c : ℕ) where
  abbrev old : Outside
  old = remembered input sent disk start effects asks a b c

  pub may : (image : List ℕ) → may_of (λ image. image ≡ start) start effects image → MayLeave old image
  may image left = record { bytes = sent_of [] effects; left = now_leaves (λ image. image ≡ start) start [] effects image left }

  module _ (sent_is : sent ≡ sent_of [] effects) (disk_is : disk ≡ disk_of start effects) where
    stay : (image bytes : List ℕ) → may_of (λ image. image ≡ start) start effects image → bytes ≡ sent → Stays old image bytes
    stay image bytes left is = record { was = may image left; sent = agrees sent bytes is }

    may_read : may_of (λ image. image ≡ start) start effects disk
    may_read = subst (may_of (λ image. image ≡ start) start effects) (sym disk_is) (read_of (λ image. image ≡ start) start effects refl)

    -- a effect that changed neither the disk nor the sink
    pub idle : (later : List Effect) → later ≡ effects → (input' sent' disk' : List ℕ) (asks' : List Ask) (a' b' c' : ℕ) → Elapses old (remembered input' sent' disk' start later asks' a' b' c') (Stays old)
    idle later is input' sent' disk' asks' a' b' c' = subst (λ l. Elapses old (remembered input' sent' disk' start l asks' a' b' c') (Stays old)) (sym is)
        (let run = nothing old (remembered_sent sent start effects sent_is) in
        record { later = run.later; kept = run.kept; no_more = run.no_more; during = λ image bytes stop. run.during image bytes (record { moment = stop.moment; after = stop.after; before = stop.before; left = stop.left }) })

    -- a write and a send that did nothing
    pub not_written : (at n : ℕ) (later : List Effect) → later ≡ effects → (input' sent' disk' : List ℕ) (asks' : List Ask) (a' b' c' : ℕ) → Elapses old (remembered input' sent' disk' start later asks' a' b' c') (Changes (Torn at n) old)
    not_written at n later is input' sent' disk' asks' a' b' c' = widened (idle later is input' sent' disk' asks' a' b' c') (Changes (Torn at n) old)
        (λ image bytes stay. record { before = image; was = stay.was; changed = torn_none at n image; sent = stay.sent })

    pub not_sent : (piece : List ℕ) (later : List Effect) → later ≡ effects → (input' sent' disk' : List ℕ) (asks' : List Ask) (a' b' c' : ℕ) → Elapses old (remembered input' sent' disk' start later asks' a' b' c') (Sends piece old)
    not_sent piece later is input' sent' disk' asks' a' b' c' = widened (idle later is input' sent' disk' asks' a' b' c') (Sends piece old)
        (λ image bytes stay. record { was = stay.was; count = 0; within = omega arith; sent = λ content same. stay.sent content (ap Some (sym (append-nil sent)) ∙ same) })

    pub wrote : (at : ℕ) (v : Vec ℕ Global) (piece : List ℕ) → v.items ≡ piece → (later : List Effect) → later ≡ effects ++ Wrote at v ∷ []
        → (disk' : List ℕ) (asks' : List Ask) (a' b' c' : ℕ) → Elapses old (remembered input sent disk' start later asks' a' b' c') (Changes (Torn at (length piece)) old)
    wrote at v piece same later is disk' asks' a' b' c' =
        pushed input sent disk start effects asks a b c sent_is disk_is (Wrote at v) (Changes (Torn at (length piece)) old) before
        (λ image bytes step. after image bytes step.0 step.1) after later input sent disk' asks' a' b' c' is
      where
        before : (image bytes : List ℕ) → may_of (λ image. image ≡ start) start effects image → bytes ≡ sent → Changes (Torn at (length piece)) old image bytes
        before image bytes left is = record { before = image; was = may image left; changed = torn_none at (length piece) image; sent = agrees sent bytes is }

        after : (image bytes : List ℕ) → Tears (may_of (λ image. image ≡ start) start effects) at (length v.items) image ⊎ (image ≡ written at v.items disk) → bytes ≡ sent → Changes (Torn at (length piece)) old image bytes
        after image bytes (inl tears) is = record { before = tears.before; was = may tears.before tears.was; changed = subst (λ l. Torn at (length l) tears.before image) same tears.torn; sent = agrees sent bytes is }
        after image bytes (inr whole) is = record { before = disk; was = may disk may_read; changed = subst (Torn at (length piece) disk) (sym (whole ∙ ap (λ l. written at l disk) same)) (torn_whole at piece disk); sent = agrees sent bytes is }

    -- a write that failed and may have torn what stood there
    pub tore : (at : ℕ) (v : Vec ℕ Global) (piece : List ℕ) → v.items ≡ piece → (later : List Effect) → later ≡ effects ++ Tore at v ∷ []
        → (asks' : List Ask) (a' b' c' : ℕ) → Elapses old (remembered input sent disk start later asks' a' b' c') (Changes (Torn at (length piece)) old)
    tore at v piece same later is asks' a' b' c' =
        pushed input sent disk start effects asks a b c sent_is disk_is (Tore at v) (Changes (Torn at (length piece)) old) before
        (λ image bytes step. after image bytes step.0 step.1) after later input sent disk asks' a' b' c' is
      where
        before : (image bytes : List ℕ) → may_of (λ image. image ≡ start) start effects image → bytes ≡ sent → Changes (Torn at (length piece)) old image bytes
        before image bytes left is = record { before = image; was = may image left; changed = torn_none at (length piece) image; sent = agrees sent bytes is }

        after : (image bytes : List ℕ) → Tears (may_of (λ image. image ≡ start) start effects) at (length v.items) image ⊎ may_of (λ image. image ≡ start) start effects image → bytes ≡ sent → Changes (Torn at (length piece)) old image bytes
        after image bytes (inl tears) is = record { before = tears.before; was = may tears.before tears.was; changed = subst (λ l. Torn at (length l) tears.before image) same tears.torn; sent = agrees sent bytes is }
        after image bytes (inr whole) is = before image bytes whole is

    pub synced : (later : List Effect) → later ≡ effects ++ Synced ∷ [] → (asks' : List Ask) (a' b' c' : ℕ) → Elapses old (remembered input sent disk start later asks' a' b' c') (Stays old)
    synced later is asks' a' b' c' =
        pushed input sent disk start effects asks a b c sent_is disk_is Synced (Stays old) stay
        (λ image bytes step. stay image bytes step.0 step.1)
        (λ image bytes same step. stay image bytes (subst (may_of (λ image. image ≡ start) start effects) (sym same) may_read) step) later input sent disk asks' a' b' c' is

    pub replied : (v : Vec ℕ Global) (piece : List ℕ) (n : ℕ) → v.items ≡ take n piece → n ≤ length piece → (later : List Effect) → later ≡ effects ++ Sent v ∷ []
        → (sent' : List ℕ) (asks' : List Ask) (a' b' c' : ℕ) → Elapses old (remembered input sent' disk start later asks' a' b' c') (Sends piece old)
    replied v piece n same le later is sent' asks' a' b' c' =
        pushed input sent disk start effects asks a b c sent_is disk_is (Sent v) (Sends piece old)
        (λ image bytes left step. prefix image bytes left 0 (omega arith) (step ∙ sym (append-nil sent)))
        (λ image bytes step. prefix image bytes step.0 step.1.0 (omega (arith, step.1.1, size)) (step.1.2 ∙ ap (λ l. sent ++ l) (within step.1.0 step.1.1)))
        (λ image bytes left step. prefix image bytes left n le (step ∙ ap (λ l. sent ++ l) same)) later input sent' disk asks' a' b' c' is
      where
        size : length v.items ≤ n
        size = omega (arith, ap length same, length-take n piece)

        size_in : length v.items ≤ length piece
        size_in = omega (arith, size, le)

        within : (m : ℕ) → m ≤ length v.items → take m v.items ≡ take m piece
        within m below = ap (take m) same ∙ take-take m n piece (omega (arith, below, size))

        prefix : (image bytes : List ℕ) → may_of (λ image. image ≡ start) start effects image → (m : ℕ) → m ≤ length piece → bytes ≡ sent ++ take m piece → Sends piece old image bytes
        prefix image bytes left m below is = record { was = may image left; count = m; within = below; sent = agrees (sent ++ take m piece) bytes is }

    -- after a sync
    pub settled : (v : List Effect) (input' : List ℕ) (asks' : List Ask) (a' b' c' : ℕ) → v ≡ effects ++ Synced ∷ [] → IsSettled (remembered input' sent disk start v asks' a' b' c')
    settled v input' asks' a' b' c' is = record { only = λ image left. ap Some (sym (synced_image image left.bytes (subst (λ l. Leaves (λ image. image ≡ start) start [] l (moment_of l) image left.bytes) is left.left))) }
      where
        synced_image : (image bytes : List ℕ) → Leaves (λ image. image ≡ start) start [] (effects ++ Synced ∷ []) (moment_of (effects ++ Synced ∷ [])) image bytes → image ≡ disk
        synced_image image bytes left = may_of-synced (λ image. image ≡ start) start effects image (leaves_now (λ image. image ≡ start) start [] (effects ++ Synced ∷ []) image bytes left).0 ∙ sym disk_is
