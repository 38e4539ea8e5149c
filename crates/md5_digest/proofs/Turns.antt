-- The operations one after the other, as the code takes them (`one_more`); and with the new A of operation j made from the
-- registers after j operations, the registers, in their next order, are those after j + 1 (`next`), and so for four operations
-- of a round (`next_four`).
use Rattle.std.proofs.Common.{◌≡◌, ℕ, suc, ◌+◌, ◌/◌, ◌%◌, List, get_or, refl, ◌∙◌, ap, add-one, arith}
use Rattle.md5_digest.specs.Rfc1321.{State, four, state, T, operation, rounds, turn, turns}

pub no_turn : (x : List ℕ) (h : State) → h ≡ turns x 0 h
unfolding turns
no_turn x h = refl

pub one_more : (x s s' : List ℕ) (i : ℕ) (h : State) → state s' ≡ turn x i (state s) → state s ≡ turns x i h → state s' ≡ turns x (i + 1) h
unfolding turns
one_more x s s' i h e p = e ∙ ap (turn x i) p ∙ rw add-one

module _ (x : List ℕ) (h : State) (n : ℕ) where
  -- operation j of round n, with the kth of the round's shifts
  abbrev pub made : ℕ → ℕ → ℕ → ℕ → ℕ → ℕ → ℕ
  made k j a b c d = operation (rounds n).function a b c d (get_or x ((rounds n).word j) 0) (get_or (rounds n).shifts k 0) (get_or T j 0)

  next : (k j j' : ℕ) {a b c d new : ℕ} → j / 16 ≡ n → j % 4 ≡ k → j' ≡ suc j → new ≡ made k j a b c d
      → four a b c d ≡ turns x j h → four d new b c ≡ turns x j' h
  unfolding turn turns
  next k j j' p q e m s = rw (e, ← s, p, q, m)

  pub next_four : (i : ℕ) {a b c d a' b' c' d' : ℕ} → i / 16 ≡ n → i % 4 ≡ 0
      → a' ≡ made 0 i a b c d → d' ≡ made 1 (i + 1) d a' b c → c' ≡ made 2 (i + 2) c d' a' b → b' ≡ made 3 (i + 3) b c' d' a'
      → four a b c d ≡ turns x i h → four a' b' c' d' ≡ turns x (i + 4) h
  next_four i p q ea ed ec eb s =
      next 3 (i + 3) (i + 4) (omega arith) (omega arith) (omega arith) eb
      (next 2 (i + 2) (i + 3) (omega arith) (omega arith) (omega arith) ec
      (next 1 (i + 1) (i + 2) (omega arith) (omega arith) (omega arith) ed
      (next 0 i (i + 1) p q (omega arith) ea s)))
