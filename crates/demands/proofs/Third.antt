-- Demand 3: two histories, step by step.
use Rattle.std.specs.Prelude.{Option, None}
use mathlib.Core.Path.{◌≡◌, refl, ap, ap₂, sym, ◌∙◌}
use mathlib.Core.Bool.{Bool, true, false}
use mathlib.Core.List.{List, [], ◌∷◌, ◌++◌, append_assoc}
use Prim.Native.Nat.{ℕ, suc, ◌+◌, ◌*◌, ◌/◌, ◌%◌}
use native.Mathlib.Omega.{arith}
use lib.ListN.{length, take, drop, replicate, length-replicate}
use lib.Seq.{take_at, drop_at}
use Rattle.turn_state.specs.declared.Client.{Client}
use Rattle.turn_state.specs.Maps.{is_some}
use Rattle.turn_state.specs.State.{Turn}
use Rattle.turn_state.specs.Source.{new, next_deadline}
use Rattle.turn_state.specs.Number.{framed}
use Rattle.turn_state.specs.Sequence.{outcome}
use Rattle.turn_state.specs.View.{view, told, held, text_in, no_text, absent, no_rows, Tidy, Sized}
use Rattle.turn_state.proofs.Same.{same_client}
use Rattle.turn.proofs.Refused.{opening_done}
use Rattle.demands.specs.History.{Step, Allowed, Along, end, next, Pairs, none as no_pairs, pair}
use Rattle.demands.specs.Alike.{Alike}
use Rattle.demands.specs.Demand3.{Beside, end as both_end, next as both_next, Given, unframed, sent, without_secrets, Agree, Demand3}
use Rattle.demands.proofs.Levels.{Held, no_key, keys}
use Rattle.demands.proofs.Evens.{Even, even, Both, both}

-- the packets are read back out of the output
unframe : (ps : List (List ℕ)) (rest : List ℕ) → unframed (length ps) (framed ps ++ rest) ≡ ps
unframe [] rest = refl
unframe (p ∷ ps) rest =
    let n : length p / 256 * 256 + length p % 256 ≡ length p = omega arith in
    let a : (p ++ framed ps) ++ rest ≡ p ++ (framed ps ++ rest) = append_assoc p (framed ps) rest in
    let one : take (length p / 256 * 256 + length p % 256) ((p ++ framed ps) ++ rest) ≡ p = ap₂ take n a ∙ take_at p (framed ps ++ rest) (length p) refl in
    let two : drop (3 + (length p / 256 * 256 + length p % 256)) (1 ∷ length p / 256 ∷ length p % 256 ∷ ((p ++ framed ps) ++ rest)) ≡ framed ps ++ rest =
    ap₂ (λ (k : ℕ) (l : List ℕ). drop (3 + k) (1 ∷ length p / 256 ∷ length p % 256 ∷ l)) n a ∙ drop_at (1 ∷ length p / 256 ∷ length p % 256 ∷ p) (framed ps ++ rest) (3 + length p) (omega arith) in
    ap₂ {C = List (List ℕ)} (λ x l. x ∷ l) one (ap (unframed (length ps)) two ∙ unframe ps rest)

pairs_length : {p q : List (List ℕ)} → Pairs Alike p q → length p ≡ length q
pairs_length no_pairs = refl
pairs_length (pair x more) = ap suc (pairs_length more)

-- what evenness says
deadline_even : {c d : Turn} → Even c d → next_deadline c ≡ next_deadline d
deadline_even (even pw k h g) = refl

abbrev bare : Turn → Turn
bare c = record { username = c.username; password = []; realm = c.realm; nonce = c.nonce; key = None; relay = c.relay; done = c.done; refresh_at = c.refresh_at; txns = c.txns; perms = c.perms; chans = c.chans; next_num = c.next_num; closing = c.closing; reliable = c.reliable }

bare_even : {c d : Turn} → Even c d → bare c ≡ bare d
bare_even (even pw k h g) = refl

held_even : {c d : Turn} → Even c d → Held c.key d.key
held_even (even pw k h g) = h

held_flags : {x y : Option (List ℕ)} → Held x y → is_some x ≡ is_some y
held_flags no_key = refl
held_flags (keys k l) = refl

same_flag : (p q : Bool) (x y : List ℕ) → Held (held p x) (held q y) → p ≡ q
same_flag true true x y h = refl
same_flag false false x y h = refl
same_flag true false x y h = held_flags h
same_flag false true x y h = held_flags h

-- clients without their secrets are tidy and sized, and mean the same
blank_key : (flag : Bool) → absent flag (replicate {A = ℕ} 16 0) (replicate 16 0)
blank_key true = tt
blank_key false = refl

bare_tidy : (c : Client) → Tidy c → Tidy (without_secrets c)
bare_tidy c t =
    record {
      password = record { fits = omega arith; zeros = refl };
      credentials =
          record {
            username = t.credentials.username;
            realm = t.credentials.realm;
            nonce = t.credentials.nonce;
            no_realm = t.credentials.no_realm;
            no_nonce = t.credentials.no_nonce;
            no_key = blank_key c.credentials.has_key;
          };
      requests = t.requests;
      permissions = t.permissions;
      channels = t.channels;
      relay = t.relay;
      no_refresh = t.no_refresh;
    }

bare_sized : (c : Client) → Sized c → Sized (without_secrets c)
bare_sized c s =
    record {
      username = s.username;
      realm = s.realm;
      nonce = s.nonce;
      password = length-replicate {A = ℕ} 763 0;
      requests = s.requests;
      permissions = s.permissions;
      channels = s.channels;
      unders = s.unders;
    }

same_bare : (a b : Client) → Tidy a → Tidy b → Sized a → Sized b → Even (view a) (view b) → without_secrets a ≡ without_secrets b
same_bare a b ta tb sa sb e =
    let m : bare (view a) ≡ bare (view b) = bare_even e in
    let k : a.credentials.has_key ≡ b.credentials.has_key =
    same_flag a.credentials.has_key b.credentials.has_key a.credentials.key b.credentials.key (held_even e) in
    let v : view (without_secrets a) ≡ view (without_secrets b) =
    λ i. record { username = (m i).username; password = text_in no_text; realm = (m i).realm; nonce = (m i).nonce; key = held (k i) (replicate 16 0); relay = (m i).relay; done = (m i).done; refresh_at = (m i).refresh_at; txns = (m i).txns; perms = (m i).perms; chans = (m i).chans; next_num = (m i).next_num; closing = (m i).closing; reliable = (m i).reliable } in
    same_client (without_secrets a) (without_secrets b) (bare_sized a sa) (bare_sized b sb) (bare_tidy a ta) (bare_tidy b tb) v

module _ (c d : Client) (s t : Step) (e : Even (view c) (view d)) (tc : Tidy c) (td : Tidy d) (a : Allowed c s) (b : Allowed d t) (g : Given c d s t) where
  abbrev P : List (List ℕ)
  P = (outcome (view c) s.call).packets

  abbrev Q : List (List ℕ)
  Q = (outcome (view d) t.call).packets

  shared : Both (outcome (view c) s.call) (outcome (view d) t.call)
  shared = both e g.call g.checks

  later : Even (view s.answer.client) (view t.answer.client)
  later = rw (a.contract.client, b.contract.client) shared.client

  read_back : (r : Step) (ps : List (List ℕ)) → r.answer.packets ≡ length ps → r.left ≡ framed ps ++ drop (length (framed ps)) r.lent → sent r ≡ ps
  read_back r ps n l = ap₂ unframed n l ∙ unframe ps (drop (length (framed ps)) r.lent)

  untouched : (r : Step) (ps : List (List ℕ)) → r.answer.len ≡ length (framed ps) → r.left ≡ framed ps ++ drop (length (framed ps)) r.lent → drop r.answer.len r.left ≡ drop r.answer.len r.lent
  untouched r ps n l =
      ap₂ drop n l ∙ drop_at (framed ps) (drop (length (framed ps)) r.lent) (length (framed ps)) refl ∙ ap (λ (k : ℕ). drop k r.lent) (sym n)

  agree : Agree c d s t
  agree =
      let ma = a.contract in
      let mb = b.contract in
      let len : s.answer.len ≡ t.answer.len = ma.len ∙ shared.len ∙ sym mb.len in
      record {
        refusal = ma.refusal ∙ shared.refusal ∙ sym mb.refusal;
        events = ma.events ∙ ap length shared.events ∙ sym mb.events;
        event = ma.event ∙ ap told shared.events ∙ sym mb.event;
        deadline = a.deadline ∙ deadline_even later ∙ sym b.deadline;
        count = ma.packets ∙ pairs_length shared.packets ∙ sym mb.packets;
        packets = rw (read_back s P ma.packets ma.output, read_back t Q mb.packets mb.output) shared.packets;
        len = len;
        behind = untouched s P ma.len ma.output ∙ ap₂ drop len g.lent ∙ sym (untouched t Q mb.len mb.output);
        client = same_bare s.answer.client t.answer.client (ma.tidy tc) (mb.tidy td) a.sized b.sized later;
      }

beside : (c d : Client) (steps others : List Step) → Even (view c) (view d) → Tidy c → Tidy d → Along Allowed c steps → Along Allowed d others → Beside Given c d steps others → Beside Agree c d steps others
beside c d [] [] e tc td end end both_end = both_end
beside c d [] (t ∷ rest) e tc td _ _ g = elim g [ ]
beside c d (s ∷ more) [] e tc td _ _ g = elim g [ ]
beside c d (s ∷ more) (t ∷ rest) e tc td (next a m) (next b n) (both_next g gs) =
    both_next (agree c d s t e tc td a b g)
    (beside s.answer.client t.answer.client more rest (later c d s t e tc td a b g) (a.contract.tidy tc) (b.contract.tidy td) m n gs)

pub demand3 : Demand3
demand3 username password other reliable o p steps others h k zo zp g =
    let first : view o.client ≡ new username password reliable = h.opening.client ∙ opening_done username password reliable (sym h.opening.refusal ∙ zo) in
    let second : view p.client ≡ new username other reliable = k.opening.client ∙ opening_done username other reliable (sym k.opening.refusal ∙ zp) in
    let e : Even (new username password reliable) (new username other reliable) = even other None no_key no_rows in
    beside o.client p.client steps others (rw (first, second) e) h.opening.tidy k.opening.tidy h.made k.made g
