-- Code, lifetime, address and text by what the lookup found, and the answers of `decode`.
use mathlib.Core.Path.{◌≡◌, refl}
use Prim.Native.Nat.{ℕ, ◌+◌, ◌*◌, ◌%◌, ◌≤◌, ◌<◌}
use mathlib.Core.List.{List}
use mathlib.Core.Bool.{true, false, false≢true}
use borrow.Author.Tests.{lt-ltb, le-ltb}
use lib.ListN.{get_or, take, drop}
use Rattle.std.specs.Prelude.{Option, Some, None, Result, Ok, Err, IsErr}
use Rattle.stun_frame.specs.Source.{field_at}
use Rattle.stun_text.specs.declared.Text.{Text}
use Rattle.stun_text.specs.declared.TooLong.{TooLong}
use Rattle.stun_walk.specs.declared.Value.{Value}
use Rattle.stun_walk.specs.declared.Header.{Header}
use Rattle.stun_walk.specs.Source.{get_of, readable, decoded, error_code_of, lifetime_of}

-- there is one refusal only
pub err_is : (r : Result (Option Text) TooLong) → IsErr r → r ≡ Err (record {})
err_is (Ok x) h = absurd (false≢true h)
err_is (Err e) h = refl

module _ (buf : List ℕ) where
  pub code_none : get_of buf 0x0009 ≡ None → None ≡ error_code_of buf
  unfolding error_code_of
  code_none e = rw e

  pub lifetime_none : get_of buf 0x000D ≡ None → None ≡ lifetime_of buf
  unfolding lifetime_of
  lifetime_none e = rw e

  module _ (v : Value) where
    pub code_short : get_of buf 0x0009 ≡ Some v → v.len < 4 → None ≡ error_code_of buf
    unfolding error_code_of
    code_short e h = rw (e, lt-ltb v.len 4 h)

    pub code_some : get_of buf 0x0009 ≡ Some v → 4 ≤ v.len → (x : ℕ) → x ≡ get_or buf (v.start + 2) 0 % 8 * 100 + get_or buf (v.start + 3) 0
        → Some x ≡ error_code_of buf
    unfolding error_code_of
    code_some e h x q = rw (e, le-ltb v.len 4 h, q)

    pub lifetime_short : get_of buf 0x000D ≡ Some v → v.len < 4 → None ≡ lifetime_of buf
    unfolding lifetime_of
    lifetime_short e h = rw (e, lt-ltb v.len 4 h)

    pub lifetime_some : get_of buf 0x000D ≡ Some v → 4 ≤ v.len → (x : ℕ) → x ≡ field_at buf v.start * 65536 + field_at buf (v.start + 2)
        → Some x ≡ lifetime_of buf
    unfolding lifetime_of
    lifetime_some e h x q = rw (e, le-ltb v.len 4 h, q)

  pub decoded_none : readable buf ≡ false → None ≡ decoded buf
  unfolding decoded
  decoded_none e = rw e

  pub decoded_some : readable buf ≡ true → (typ : ℕ) (id : List ℕ) → typ ≡ field_at buf 0 → id ≡ take 12 (drop 8 buf)
      → ◌≡◌ {A = Option Header} (Some (record { typ = typ; id = id })) (decoded buf)
  unfolding decoded
  decoded_some e typ id p q = rw (e, p, q)
