-- `Message::verify` and `long_term_key` of stun.rs, line by line. A message is the list of its bytes.
use Rattle.std.specs.Prelude.{ℕ, zero, suc, ◌+◌, ◌*◌, ◌/◌, ◌%◌, ◌^◌, List, [], ◌∷◌, ◌++◌, length, get_or, take, drop, leb, ltb, eqb, Option, Some, None, ◌≡◌, ◌≤◌}
use mathlib.Core.Bool.{Bool, false, cond, ◌&&◌}
use Rattle.digest.specs.Bytes.{bytes, big}
use Rattle.digest.specs.Digest.{digest}
use Rattle.digest.specs.Hmac.{hmac}
use Rattle.sha1_digest.specs.Rfc3174.{sha1}
use Rattle.md5_digest.specs.Rfc1321.{md5}

-- u16::from_be_bytes([buf[p], buf[p + 1]])
abbrev pub u16_at : List ℕ → ℕ → ℕ
u16_at b p = get_or b p 0 * 256 + get_or b (p + 1) 0

-- l.div_ceil(4) * 4
abbrev pub padded : ℕ → ℕ
padded l = (l + 3) / 4 * 4

-- the place of the first MESSAGE-INTEGRITY from p on, in at most n attributes; the buffer's length where there is none
unfoldable pub integrity_from : ℕ → List ℕ → ℕ → ℕ
integrity_from zero b p = length b
integrity_from (suc n) b p =
    let next = integrity_from n b (p + 4 + padded (u16_at b (p + 2))) in
    cond (leb (p + 4) (20 + u16_at b 2) && leb (p + 4) (length b)) (cond (eqb (u16_at b p) 8) p next) (length b)

-- each attribute takes 4 bytes or more, so the buffer's length is attributes enough
abbrev pub integrity_at : List ℕ → ℕ
integrity_at b = integrity_from (length b) b 20

-- the same as the code answers it, for the private function's contract
abbrev pub Placed : List ℕ → Option ℕ → Type 0
Placed b None = integrity_at b ≡ length b
Placed b (Some p) = (p ≡ integrity_at b) × (20 ≤ p) × (p + 4 ≤ length b)

-- the bytes that the check covers: all before the attribute, with the length field set to p - 20 + 24 as u16
abbrev pub covered : List ℕ → ℕ → List ℕ
covered b p = take 2 b ++ (bytes big 2 ((p + 4) % 2 ^ 16) ++ drop 4 (take p b))

-- two lists of bytes are the same
abbrev pub same : List ℕ → List ℕ → Bool
same [] [] = mathlib.Core.Bool.true
same [] (y ∷ ys) = false
same (x ∷ xs) [] = false
same (x ∷ xs) (y ∷ ys) = eqb x y && same xs ys

-- Message::verify
unfoldable pub verified : List ℕ → List ℕ → Bool
verified b key =
    let p = integrity_at b in
    cond (ltb (length b) (p + 24)) false (same (hmac sha1 key (covered b p)) (take 20 (drop (p + 4) b)))

-- long_term_key: MD5 of username ":" realm ":" password
unfoldable pub long_term : List ℕ → List ℕ → List ℕ → List ℕ
long_term username realm password = digest md5 (username ++ (0x3A ∷ (realm ++ (0x3A ∷ password))))
