-- The definitions over lists whose elements are written out, as the code reads and writes them.
use mathlib.Core.Path.{◌≡◌, refl, sym, ap, ap₂, ◌∙◌}
use mathlib.Core.List.{List, ◌∷◌, ◌++◌}
use Prim.Native.Nat.{ℕ, zero, suc, ◌<◌}
use native.Mathlib.Omega.{arith}
use lib.Dec.{lit<}
use lib.ListN.{length, get_or}
use Rattle.std.specs.Int.{w16, w32, w64, from_be_bytes}
use Rattle.std.proofs.lemmas.Nat.{be_bytes_2, be_bytes_4, be_bytes_8}
use Rattle.lists.proofs.Elements.{elements, drop-elements}
use Rattle.stun_address.specs.Source.{to_be, key}
use Rattle.stun_address.proofs.Network.{library_bytes}

-- every element of a list, wherever one looks, is a byte
abbrev pub Octets : List ℕ → Type 0
Octets l = (i : ℕ) → get_or l i 0 < 256

pub element_octets : (l : List ℕ) (k n : ℕ) → Octets l → Octets (elements l k n)
element_octets l k zero h i = lit< tt
element_octets l k (suc n) h zero = h k
element_octets l k (suc n) h (suc i) = element_octets l (suc k) n h i

cookie_octets : (l : List ℕ) → Octets l → Octets (0x21 ∷ 0x12 ∷ 0xA4 ∷ 0x42 ∷ l)
cookie_octets l h zero = lit< tt
cookie_octets l h (suc zero) = lit< tt
cookie_octets l h (suc (suc zero)) = lit< tt
cookie_octets l h (suc (suc (suc zero))) = lit< tt
cookie_octets l h (suc (suc (suc (suc i)))) = h i

-- a number that was read has the bytes that it was read from
module _ (l : List ℕ) (x : ℕ) (h : Octets l) where
  pub read_2 : length l ≡ 2 → x ≡ from_be_bytes w16 l → to_be 2 x ≡ l
  read_2 n e = sym (library_bytes 2 x) ∙ be_bytes_2 l x n h e

  pub read_4 : length l ≡ 4 → x ≡ from_be_bytes w32 l → to_be 4 x ≡ l
  read_4 n e = sym (library_bytes 4 x) ∙ be_bytes_4 l x n h e

  pub read_8 : length l ≡ 8 → x ≡ from_be_bytes w64 l → to_be 8 x ≡ l
  read_8 n e = sym (library_bytes 8 x) ∙ be_bytes_8 l x n h e

-- the key from its 16 bytes
pub key_read : (id : List ℕ) (x y : ℕ) → length id ≡ 12 → Octets id → x ≡ from_be_bytes w64 (0x21 ∷ 0x12 ∷ 0xA4 ∷ 0x42 ∷ elements id 0 4)
    → y ≡ from_be_bytes w64 (elements id 4 8) → to_be 8 x ++ to_be 8 y ≡ key id
key_read id x y n h p q =
    ap₂ {C = List ℕ} (λ u v. u ++ v)
    (read_8 (0x21 ∷ 0x12 ∷ 0xA4 ∷ 0x42 ∷ elements id 0 4) x (cookie_octets (elements id 0 4) (element_octets id 0 4 h)) refl p)
    (read_8 (elements id 4 8) y (element_octets id 4 8 h) refl q)
    ∙ ap (λ (r : List ℕ). to_be 4 0x2112A442 ++ r) (sym (drop-elements id 0 12 (omega arith)))
