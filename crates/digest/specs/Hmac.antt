-- HMAC over a digest (RFC 2104 section 2), for a key of any length.
use Rattle.std.specs.Prelude.{ℕ, List, ◌++◌, map, cond, length, ltb}
use Rattle.std.specs.Int.Bits.{bit_xor}
use Rattle.digest.specs.Digest.{Digest, digest}
use Rattle.digest.specs.Running.{Running, filled, run, fed, finished}

module _ (d : Digest) where
  -- the key, digested first where it is longer than a block, with zeros up to a block
  unfoldable pub key_block : List ℕ → List ℕ
  key_block k = filled d.block (cond (ltb d.block (length k)) (digest d k) k)

  -- the key's block XOR a byte repeated
  abbrev pub masked : ℕ → List ℕ → List ℕ
  masked b k = map (λ x. bit_xor x b) (key_block k)

  -- H(K XOR opad, H(K XOR ipad, text))
  unfoldable pub hmac : List ℕ → List ℕ → List ℕ
  hmac k text = digest d (masked 0x5c k ++ digest d (masked 0x36 k ++ text))

-- HMAC over a text that comes in parts: the two digests that run, the outer one with its masked key taken
pub record Keyed : Type 0 where
  pub inner : Running
  pub outer : Running

module _ (d : Digest) where
  unfoldable pub keyed : List ℕ → Keyed
  keyed k = record { inner = run d (masked d 0x36 k); outer = run d (masked d 0x5c k) }

  -- after one more part
  unfoldable pub keyed_fed : Keyed → List ℕ → Keyed
  keyed_fed h part = record { inner = fed d h.inner part; outer = h.outer }

  unfoldable pub keyed_finished : Keyed → List ℕ
  keyed_finished h = finished d (fed d h.outer (finished d h.inner))
