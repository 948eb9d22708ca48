-- What was sent, and what is pending.
use Rattle.std.specs.Prelude.{◌≡◌, ℕ, List, ◌++◌, Option}
use Rattle.std.specs.Io.KnownBytes.{append_known}
use Rattle.host_core.specs.Outside.{Outside, Agrees, MayLeave}

-- since begin this text was sent, but for what is pending at its end
pub record Expects (begin now : Option (List ℕ)) (pending text : List ℕ) : Type 0 where
  pub sent : List ℕ
  pub known : now ≡ append_known begin sent
  pub whole : sent ++ pending ≡ text

-- a stop leaves an image as before, and since begin a prefix of this text was sent
pub record SendsPrefix (begin : Option (List ℕ)) (text : List ℕ) (old : Outside) (image bytes : List ℕ) : Type 0 where
  pub was : MayLeave old image
  pub sent : List ℕ
  pub rest : List ℕ
  pub known : Agrees (append_known begin sent) bytes
  pub prefix : sent ++ rest ≡ text

-- behind what was sent before, a prefix of this text was sent
pub record SentPrefix (before now : Option (List ℕ)) (text : List ℕ) : Type 0 where
  pub since : List ℕ
  pub unsent : List ℕ
  pub sent : now ≡ append_known before since
  pub prefix : since ++ unsent ≡ text
