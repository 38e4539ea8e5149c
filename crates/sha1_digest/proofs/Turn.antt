-- Rounds one after the other (`one_more`), as the code takes them; one by its two new words (`round_is`), five at a turn
-- (`five_is`, `rounds_five`), and turns in loops that begin where the one before ends (`Turned`), of which each twenty rounds
-- of the code are one (`turned_twenty`).
use Rattle.std.proofs.Common.{◌≡◌, ℕ, ◌+◌, ◌%◌, ◌<◌, ◌≤◌, List, ◌∷◌, length, get_or, refl, ap, ◌∙◌, add-one, arith}
use native.Mathlib.Numerals.{towards_suc}
use lib.ListN.{drop_of_length-le}
use lib.Seq.{drop-cons}
use Rattle.digest.specs.Word.{◌⊞◌, rotl}
use Rattle.sha1_digest.specs.Rfc3174.{State, five, f, K, round, rounds, state}
use Rattle.sha1_digest.specs.View.{listed, five_rounds}

pub no_round : (w : List ℕ) (s : State) → s ≡ rounds w 0 s
unfolding rounds
no_round w s = refl

pub one_more : (w s s' : List ℕ) (t : ℕ) (h : State) → state s' ≡ round w t (state s) → state s ≡ rounds w t h → state s' ≡ rounds w (t + 1) h
unfolding rounds
one_more w s s' t h e p = e ∙ ap (round w t) p ∙ rw add-one

pub round_is : (w : List ℕ) (t A B C D E : ℕ) {T R : ℕ} → T ≡ rotl 5 A ⊞ f t B C D ⊞ E ⊞ get_or w t 0 ⊞ K t → R ≡ rotl 30 B
    → round w t (five A B C D E) ≡ five T A R C D
unfolding round
round_is w t A B C D E p q = rw (p, q)

pub state_listed : (s : State) → state (listed s) ≡ s
state_listed (five A B C D E) = refl

pub rounds_five : (w : List ℕ) (t : ℕ) (s : State) → five_rounds w t (rounds w t s) ≡ rounds w (t + 5) s
unfolding rounds
rounds_five w t s = simp towards_suc

-- the ten words that five rounds make, in the order in which the code makes them
pub five_is : (w : List ℕ) (t a b c d e : ℕ) {e₁ b₁ d₁ a₁ c₁ e₂ b₂ d₂ a₂ c₂ : ℕ}
    → e₁ ≡ rotl 5 a ⊞ f t b c d ⊞ e ⊞ get_or w t 0 ⊞ K t → b₁ ≡ rotl 30 b
    → d₁ ≡ rotl 5 e₁ ⊞ f (t + 1) a b₁ c ⊞ d ⊞ get_or w (t + 1) 0 ⊞ K (t + 1) → a₁ ≡ rotl 30 a
    → c₁ ≡ rotl 5 d₁ ⊞ f (t + 2) e₁ a₁ b₁ ⊞ c ⊞ get_or w (t + 2) 0 ⊞ K (t + 2) → e₂ ≡ rotl 30 e₁
    → b₂ ≡ rotl 5 c₁ ⊞ f (t + 3) d₁ e₂ a₁ ⊞ b₁ ⊞ get_or w (t + 3) 0 ⊞ K (t + 3) → d₂ ≡ rotl 30 d₁
    → a₂ ≡ rotl 5 b₂ ⊞ f (t + 4) c₁ d₂ e₂ ⊞ a₁ ⊞ get_or w (t + 4) 0 ⊞ K (t + 4) → c₂ ≡ rotl 30 c₁
    → five_rounds w t (five a b c d e) ≡ five a₂ b₂ c₂ d₂ e₂
five_is w t a b c d e {e₁} {b₁} {d₁} {a₁} {c₁} {e₂} {b₂} {d₂} p q r s u v x y z k =
    rw (
      round_is w t a b c d e p q,
      round_is w (t + 1) e₁ a b₁ c d r s,
      round_is w (t + 2) d₁ e₁ a₁ b₁ c u v,
      round_is w (t + 3) c₁ d₁ e₂ a₁ b₁ x y,
      round_is w (t + 4) b₂ c₁ d₂ e₂ a₁ z k,
    )

-- from the words s₀ at t₀ a loop that ends at `end` has come to the words s at t
pub record Turned (w s₀ : List ℕ) (t₀ end : ℕ) (s : List ℕ) (t : ℕ) : Type 0 where
  pub within : t ≤ end
  pub fives : t % 5 ≡ 0
  pub same : (S : State) → s₀ ≡ listed (rounds w t₀ S) → s ≡ listed (rounds w t S)

pub turned_start : (w s : List ℕ) (t end : ℕ) → t ≤ end → t % 5 ≡ 0 → Turned w s t end s t
turned_start w s t end h e = record { within = h; fives = e; same = λ S p. p }

pub turned_next : {w s₀ : List ℕ} {t₀ end : ℕ} {s s' : List ℕ} {t : ℕ} → end % 5 ≡ 0 → Turned w s₀ t₀ end s t → t < end
    → s' ≡ listed (five_rounds w t (state s)) → Turned w s₀ t₀ end s' (t + 5)
turned_next {w} {s = s} {t} f h lt e =
    record {
      within = omega arith;
      fives = omega arith;
      same = λ S p.
          e ∙ ap (λ (x : List ℕ). listed (five_rounds w t (state x))) (h.same S p)
          ∙ ap (λ (x : State). listed (five_rounds w t x)) (state_listed (rounds w t S))
          ∙ ap listed (rounds_five w t S);
    }

listed_state : (s : List ℕ) → length s ≡ 5 → s ≡ listed (state s)
listed_state s n =
    drop-cons s 0 0 (omega arith)
    ∙ ap {B = List ℕ} (λ r. get_or s 0 0 ∷ r) (drop-cons s 1 0 (omega arith)
    ∙ ap {B = List ℕ} (λ r. get_or s 1 0 ∷ r) (drop-cons s 2 0 (omega arith)
    ∙ ap {B = List ℕ} (λ r. get_or s 2 0 ∷ r) (drop-cons s 3 0 (omega arith)
    ∙ ap {B = List ℕ} (λ r. get_or s 3 0 ∷ r) (drop-cons s 4 0 (omega arith)
    ∙ ap {B = List ℕ} (λ r. get_or s 4 0 ∷ r) (drop_of_length-le s {i = 5} (omega arith))))))

-- the code: what its twenty rounds from t on say of the words after them
pub turned_twenty : (w s s' : List ℕ) (t end : ℕ) → length s' ≡ 5 → t % 5 ≡ 0 → t + 20 ≤ end
    → ((h : State) → state s ≡ rounds w t h → state s' ≡ rounds w (t + 20) h) → Turned w s t end s' (t + 20)
turned_twenty w s s' t end n z le said =
    record {
      within = le;
      fives = omega arith;
      same = λ S p. listed_state s' n ∙ ap listed (said S (ap state p ∙ state_listed (rounds w t S)));
    }
