-- What the code's structs hold of a text.
use Rattle.std.specs.Prelude.{◌≡◌, List, [], ◌∷◌, ◌++◌, ℕ, ◌+◌, ◌-◌, ◌≤◌, length, take, drop, replicate}
use Rattle.listing.specs.declared.held.Held.{Held}
use Rattle.listing.specs.declared.held.Digits.{Digits}
use Rattle.listing.specs.Listing.{decimal}

-- the text, and zeros up to the room's end
abbrev pub held : List ℕ → Held
held text = record { bytes = text ++ replicate (160 - length text) 0; len = length text }

-- The text fits and is the first `len` bytes. The first equation fixes all 160 bytes.
pub record Holds (wanted : List ℕ) (r : Held) : Type 0 where
  pub whole : r ≡ held wanted
  pub fits : r.len ≤ 160
  pub text : take r.len r.bytes ≡ wanted

-- What the private functions say; no public contract cites what follows.

-- the line after part has been added, whatever text the line held.
pub record Adds (part : List ℕ) (before after : Held) : Type 0 where
  pub long : after.len ≡ before.len + length part
  pub laid : (text : List ℕ) → before ≡ held text → after ≡ held (text ++ part)

-- the digits of n and the byte after them, from a place of the 21 bytes on.
pub record Shows (n after : ℕ) (d : Digits) : Type 0 where
  pub room : length d.bytes ≡ 21
  pub from : d.from ≤ 20
  pub digits : drop d.from d.bytes ≡ decimal n ++ (after ∷ [])
