-- A digest over a message that comes in parts: the words after the whole blocks so far, how many bytes came, and the bytes of
-- the block that is not full yet, with zeros after them. `run m` is what stands after the message m, however it was cut
-- (proofs/Parts.antt), and `finished` of that is the digest of m.
use Rattle.std.specs.Prelude.{ℕ, ◌+◌, ◌*◌, ◌/◌, ◌%◌, ◌^◌, List, ◌++◌, length, take, drop, replicate}
use Rattle.digest.specs.Digest.{Digest, padding, absorbed, result}

pub record Running : Type 0 where
  pub words : List ℕ
  pub count : ℕ
  pub tail : List ℕ

-- the first n of the bytes, with zeros where they are fewer
abbrev pub filled : ℕ → List ℕ → List ℕ
filled n xs = take n (xs ++ replicate n 0)

module _ (d : Digest) where
  -- the bytes after the last whole block
  unfoldable pub left : List ℕ → List ℕ
  left m = drop (length m / d.block * d.block) m

  -- the bytes that wait for their block to be full
  abbrev pub held : Running → List ℕ
  held r = take (r.count % d.block) r.tail

  unfoldable pub fresh : Running
  fresh = record { words = d.start; count = 0; tail = replicate d.block 0 }

  -- after one more part
  unfoldable pub fed : Running → List ℕ → Running
  fed r part =
      record {
        words = absorbed d r.words (held r ++ part);
        count = (r.count + length part) % 2 ^ 64;
        tail = filled d.block (left (held r ++ part));
      }

  -- the digest at the end of the message
  unfoldable pub finished : Running → List ℕ
  finished r = result d (absorbed d r.words (held r ++ padding d r.count))

  abbrev pub run : List ℕ → Running
  run m = fed fresh m
