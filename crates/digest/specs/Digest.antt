-- A digest of the family of MD5 and SHA-1, by its parameters: padding, blocks and result, as RFC 3174 sections 4, 6.1 and
-- RFC 1321 sections 3.1, 3.2, 3.5 have them. Lengths of 2^61 bytes and more count modulo 2^64 bits (RFC 1321 section 3.2).
use Rattle.std.specs.Prelude.{ℕ, zero, suc, ◌+◌, ◌-◌, ◌*◌, ◌/◌, ◌%◌, ◌^◌, length, take, drop, replicate}
use mathlib.Core.List.{List, ◌∷◌, ◌++◌, flat_map}
use Rattle.digest.specs.Bytes.{Order, bytes}

pub record Digest : Type 0 where
  -- bytes of a block
  pub block : ℕ
  -- the order of bytes in the length and in the result's words
  pub order : Order
  -- the words before the first block
  pub start : List ℕ
  -- the words after one more block, from the words before it and its bytes
  pub step : List ℕ → List ℕ → List ℕ

module _ (d : Digest) where
  -- how many zeros follow the bit 1 and its seven zeros, so that with the length's 8 bytes the last block is full
  abbrev pub zeros : ℕ → ℕ
  zeros n = (d.block - (n + 9) % d.block) % d.block

  -- what follows a message of n bytes
  unfoldable pub padding : ℕ → List ℕ
  padding n = 0x80 ∷ replicate (zeros n) 0 ++ bytes d.order 8 (8 * n % 2 ^ 64)

  -- the words after the first n blocks of m
  abbrev pub blocks : ℕ → List ℕ → List ℕ → List ℕ
  blocks zero h m = h
  blocks (suc n) h m = blocks n (d.step h (take d.block m)) (drop d.block m)

  -- the words after all whole blocks of m
  unfoldable pub absorbed : List ℕ → List ℕ → List ℕ
  absorbed h m = blocks (length m / d.block) h m

  -- the bytes of the words, in order
  unfoldable pub result : List ℕ → List ℕ
  result h = flat_map (bytes d.order 4) h

  unfoldable pub digest : List ℕ → List ℕ
  digest m = result (absorbed d.start (m ++ padding (length m)))
