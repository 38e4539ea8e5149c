-- A text in parts has the HMAC of the whole: `keyed_parts`, from the same of the digest.
use mathlib.Core.Path.{◌≡◌, ap, ◌∙◌}
use Prim.Native.Nat.{ℕ, ◌%◌, ◌^◌, ◌<◌}
use mathlib.Core.List.{List, ◌++◌}
use Rattle.digest.specs.Digest.{Digest, digest}
use Rattle.digest.specs.Running.{Running, run, fed, finished}
use Rattle.digest.specs.Hmac.{keyed, keyed_fed, keyed_finished, masked, hmac}
use Rattle.digest.proofs.Parts.{fed_run, fed_append, finished_run}

module _ (d : Digest) (pos : 0 < d.block) (whole : (n : ℕ) → n % 2 ^ 64 % d.block ≡ n % d.block) where
  -- two parts are one
  pub keyed_append : (k a b : List ℕ) → keyed_fed d (keyed_fed d (keyed d k) a) b ≡ keyed_fed d (keyed d k) (a ++ b)
  unfolding keyed keyed_fed
  keyed_append k a b = ap (λ (r : Running). record { inner = r; outer = run d (masked d 0x5c k) }) (fed_append d pos whole (masked d 0x36 k) a b)

  pub keyed_parts : (k text : List ℕ) → keyed_finished d (keyed_fed d (keyed d k) text) ≡ hmac d k text
  unfolding keyed keyed_fed keyed_finished hmac
  keyed_parts k text =
      let inner : finished d (fed d (run d (masked d 0x36 k)) text) ≡ digest d (masked d 0x36 k ++ text) =
      ap (finished d) (fed_run d pos whole (masked d 0x36 k) text) ∙ finished_run d pos whole (masked d 0x36 k ++ text) in
      ap (λ (x : List ℕ). finished d (fed d (run d (masked d 0x5c k)) x)) inner
      ∙ ap (finished d) (fed_run d pos whole (masked d 0x5c k) _)
      ∙ finished_run d pos whole _
