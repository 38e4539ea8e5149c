-- A call whose run gives a number meets the definition where it answers that number and nothing else, or, for 0, what the run came to.
use mathlib.Core.Path.{◌≡◌, refl}
use mathlib.Core.List.{List, ◌++◌}
use mathlib.Core.Bool.{false}
use Prim.Native.Nat.{ℕ, ◌<◌}
use borrow.Author.Tests.{lt-ltb}
use lib.Dec.{eqb}
use lib.ListN.{length, drop}
use Rattle.turn_state.specs.declared.Client.{Client}
use Rattle.turn_state.specs.State.{Turn, Run}
use Rattle.turn_state.specs.Number.{Given, number, settled, framed}
use Rattle.turn_state.specs.View.{view, told, Tidy, Reply, refused, Meets}

-- a time above the limit
pub late : (g : Given) (c : Turn) (s : Run) → 9007199254740991 < g.time → number g c s ≡ 1
unfolding number
late g c s h = rw (lt-ltb 9007199254740991 g.time h)

module _ (client : Client) (g : Given) (s : Run) (out : List ℕ) where
  pub refused_meets : (n : ℕ) → eqb n 0 ≡ false → number g (view client) s ≡ n → Meets client (settled (number g (view client) s) (view client) s) out (refused client n) out
  refused_meets n z e =
      record {
        refusal = rw (e, z);
        client = rw (e, z);
        kept = rw (e, z, z) refl;
        tidy = λ t. t;
        events = rw (e, z);
        event = rw (e, z);
        packets = rw (e, z);
        len = rw (e, z);
        output = rw (e, z);
      }

  pub late_meets : 9007199254740991 < g.time → Meets client (settled (number g (view client) s) (view client) s) out (refused client 1) out
  late_meets h = refused_meets 1 refl (late g (view client) s h)

  pub accepted_meets : (r : Reply) (after : List ℕ) → number g (view client) s ≡ 0 → r.refusal ≡ 0 → view r.client ≡ s.self → (Tidy client → Tidy r.client)
      → r.events ≡ length s.ev → r.event ≡ told s.ev → r.packets ≡ length s.out → r.len ≡ length (framed s.out)
      → after ≡ framed s.out ++ drop (length (framed s.out)) out → Meets client (settled (number g (view client) s) (view client) s) out r after
  accepted_meets r after e er ec tidy events event packets len output =
      record {
        refusal = rw e er;
        client = rw e ec;
        kept = rw e tt;
        tidy = tidy;
        events = rw e events;
        event = rw e event;
        packets = rw e packets;
        len = rw e len;
        output = rw e output;
      }
