-- A piece on its way: so much of it is sent.
use Rattle.std.proofs.Common.{◌≡◌, ℕ, ◌+◌, ◌≤◌, List, length, take, drop, refl, sym, ◌∙◌, ap, subst, arith, length-drop}
use Rattle.std.proofs.Math.Seq.{take-add}
use Rattle.std.specs.Prelude.{Option}
use Rattle.std.specs.Io.KnownBytes.{append_known}
use Rattle.host_core.specs.Outside.{Outside, Agrees, Elapses, Sends, Grows}
use Rattle.host_core.specs.Frames.{OnlySends}
use Rattle.host_core.proofs.Moments.{nothing, widened, goes_on, ended}
use Rattle.host_core.proofs.Chains.{sends_nothing, onward}
use Rattle.host_core.proofs.Known.{append_known-nil, append_known-append}

pub record Sending (piece : List ℕ) (done : ℕ) (start now : Outside) : Type 0 where
  pub bound : done ≤ length piece
  pub sent : now.sent ≡ append_known start.sent (take done piece)
  pub moments : Elapses start now (Sends piece start)
  pub keeps : OnlySends start now
  pub faultless : now.send_faults ≡ start.send_faults

pub begun : (piece : List ℕ) (start : Outside)
    → ((image bytes : List ℕ) → start.leaves start.moment image bytes → Agrees start.sent bytes) → Sending piece 0 start start
begun piece start sent_now = record {
  bound = omega arith;
  sent = sym (append_known-nil start.sent);
  moments = widened (nothing start sent_now) _ (λ image bytes stays. record {
    was = stays.was;
    count = 0;
    within = omega arith;
    sent = subst (λ known. Agrees known bytes) (sym (append_known-nil start.sent)) stays.sent;
  });
  keeps = sends_nothing start;
  faultless = refl;
}

-- two prefixes, one after the other
two_prefixes : (known : Option (List ℕ)) (piece : List ℕ) (done n : ℕ)
    → append_known (append_known known (take done piece)) (take n (drop done piece)) ≡ append_known known (take (done + n) piece)
two_prefixes known piece done n =
    append_known-append known (take done piece) (take n (drop done piece)) ∙ ap (append_known known) (sym (take-add done n piece))

module _ {piece : List ℕ} {done : ℕ} {start mid : Outside} (so_far : Sending piece done start mid) (new : Outside) where
  within : (n : ℕ) → n ≤ length (drop done piece) → done + n ≤ length piece
  within n le = omega (arith, le, so_far.bound, length-drop done piece)

  both : (n : ℕ) → append_known mid.sent (take n (drop done piece)) ≡ append_known start.sent (take (done + n) piece)
  both n = ap (λ known. append_known known (take n (drop done piece))) so_far.sent ∙ two_prefixes start.sent piece done n

  -- the bytes that one more call sent, whether it failed or not
  pub grown_more : (n : ℕ) → Grows mid.sent new.sent (drop done piece) n → Grows start.sent new.sent piece (done + n)
  grown_more n grows = record { bound = within n grows.bound; bytes = grows.bytes ∙ both n }

  pub moments_more : Elapses mid new (Sends (drop done piece) mid) → Elapses start new (Sends piece start)
  moments_more moments = goes_on so_far.moments moments (λ image bytes step. record {
    was = (ended so_far.moments step.was).was;
    count = done + step.count;
    within = within step.count step.within;
    sent = subst (λ known. Agrees known bytes) (both step.count) step.sent;
  })

  pub sent_more : (n : ℕ) → Grows mid.sent new.sent (drop done piece) n → Elapses mid new (Sends (drop done piece) mid)
      → OnlySends mid new → new.send_faults ≡ mid.send_faults → Sending piece (done + n) start new
  sent_more n grows moments keeps same = record {
    bound = within n grows.bound;
    sent = (grown_more n grows).bytes;
    moments = moments_more moments;
    keeps = onward so_far.keeps keeps;
    faultless = same ∙ so_far.faultless;
  }
