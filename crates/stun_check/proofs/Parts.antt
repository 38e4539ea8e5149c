-- What the check digests in two parts is what the definition covers (`covered_is`, `signed`), and what it compares is the
-- definition's answer (`verified_is`). Five parts make the long-term key (`keyed_by`).
use mathlib.Core.Path.{◌≡◌, sym, ap, ◌∙◌}
use Prim.Native.Nat.{ℕ, zero, suc, ◌+◌, ◌-◌, ◌%◌, ◌≤◌, ◌<◌}
use native.Mathlib.Nat.{sub-zero, zero-sub, suc-sub-suc}
use native.Mathlib.Omega.{arith}
use mathlib.Core.List.{List, [], ◌∷◌, ◌++◌, append_assoc}
use mathlib.Core.Bool.{false}
use borrow.Author.Tests.{le-ltb, lt-ltb}
use lib.ListN.{length, get_or, take, drop}
use lib.Seq.{take-nil}
use Rattle.std.specs.Int.{w16, to_be_bytes}
use Rattle.digest.specs.Digest.{digest}
use Rattle.digest.specs.Running.{Running, fresh, fed, run, finished}
use Rattle.digest.specs.Hmac.{Keyed, hmac, keyed, keyed_fed, keyed_finished}
use Rattle.digest.proofs.Parts.{fed_run, finished_run}
use Rattle.digest.proofs.Hmac.{keyed_append, keyed_parts}
use Rattle.lists.proofs.Elements.{take-elements}
use Rattle.sha1_digest.specs.Rfc3174.{sha1}
use Rattle.md5_digest.specs.Rfc1321.{md5}
use Rattle.stun_check.specs.Source.{integrity_at, covered, same, verified, long_term}

drop_take : (k n : ℕ) (l : List ℕ) → drop k (take n l) ≡ take (n - k) (drop k l)
drop_take zero n l = rw sub-zero
drop_take (suc k) zero l = rw zero-sub
drop_take (suc k) (suc n) [] = sym (take-nil (suc n - suc k))
drop_take (suc k) (suc n) (x ∷ xs) = rw suc-sub-suc (drop_take k n xs)

pub covered_is : (b : List ℕ) (p n : ℕ) (field : List ℕ) → 20 ≤ p → p ≤ length b → n ≡ (p + 4) % 65536 → field ≡ to_be_bytes w16 n
    → (get_or b 0 0 ∷ get_or b 1 0 ∷ get_or field 0 0 ∷ get_or field 1 0 ∷ []) ++ take (p - 4) (drop 4 b) ≡ covered b p
covered_is b p n field ge le e f = rw (take-elements b 0 2 (omega arith), drop_take 4 p b, f, e)

-- two parts under the key
pub signed : (key a b : List ℕ) (h₀ h₁ h₂ : Keyed) (mac : List ℕ) → h₀ ≡ keyed sha1 key → h₁ ≡ keyed_fed sha1 h₀ a → h₂ ≡ keyed_fed sha1 h₁ b
    → mac ≡ keyed_finished sha1 h₂ → mac ≡ hmac sha1 key (a ++ b)
signed key a b h₀ h₁ h₂ mac p q r s =
    s ∙ ap (keyed_finished sha1) (r ∙ ap (λ (h : Keyed). keyed_fed sha1 h b) (q ∙ ap (λ (h : Keyed). keyed_fed sha1 h a) p) ∙ keyed_append sha1 (omega arith) (λ n. omega arith) key a b)
    ∙ keyed_parts sha1 (omega arith) (λ n. omega arith) key (a ++ b)

pub too_short : (b key : List ℕ) → length b < integrity_at b + 24 → false ≡ verified b key
unfolding verified
too_short b key h = rw (lt-ltb (length b) (integrity_at b + 24) h)

pub verified_is : (b key mac : List ℕ) (p : ℕ) → p ≡ integrity_at b → p + 24 ≤ length b → mac ≡ hmac sha1 key (covered b p)
    → same mac (take 20 (drop (p + 4) b)) ≡ verified b key
unfolding verified
verified_is b key mac p e h m =
    let v : integrity_at b + 24 ≤ length b = omega arith in
    rw (m, e, le-ltb (length b) (integrity_at b + 24) v)

-- one more part of what MD5 has taken
ran : {h h' : Running} (m part : List ℕ) → h ≡ run md5 m → h' ≡ fed md5 h part → h' ≡ run md5 (m ++ part)
ran m part e q = q ∙ ap (λ (h : Running). fed md5 h part) e ∙ fed_run md5 (omega arith) (λ n. omega arith) m part

pub keyed_by : (u r p : List ℕ) {h₀ h₁ h₂ h₃ h₄ h₅ : Running} {key : List ℕ} → h₀ ≡ fresh md5 → h₁ ≡ fed md5 h₀ u → h₂ ≡ fed md5 h₁ (0x3A ∷ [])
    → h₃ ≡ fed md5 h₂ r → h₄ ≡ fed md5 h₃ (0x3A ∷ []) → h₅ ≡ fed md5 h₄ p → key ≡ finished md5 h₅ → key ≡ long_term u r p
unfolding long_term
keyed_by u r p e a b c d f g =
    let first = a ∙ ap (λ (h : Running). fed md5 h u) e in
    let colon : List ℕ = 0x3A ∷ [] in
    let name = ran u colon first b in
    let realm = ran (u ++ colon) r name c in
    let all = ran (((u ++ colon) ++ r) ++ colon) p (ran ((u ++ colon) ++ r) colon realm d) f in
    g ∙ ap (finished md5) all ∙ finished_run md5 (omega arith) (λ n. omega arith) ((((u ++ colon) ++ r) ++ colon) ++ p)
    ∙ ap (digest md5) (simp append_assoc)
