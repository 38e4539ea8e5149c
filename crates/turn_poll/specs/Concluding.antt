-- What a draft comes to: the answer of any run of the definition that the draft's plan stands for.
use Rattle.std.specs.Prelude.{◌≡◌, true, false, List, ℕ, length, Result, Ok, Err}
use Rattle.stun_address.specs.declared.Ip.{Ip}
use Rattle.turn_state.specs.declared.Kind.TheVariants.{Permission}
use Rattle.turn_state.specs.declared.Client.{Client}
use Rattle.turn_state.specs.declared.Permissions.{Permissions}
use Rattle.turn_state.specs.declared.Refusal.{Refusal}
use Rattle.turn_state.specs.declared.Refusal.TheVariants.{Full}
use Rattle.turn_state.specs.Maps.{remove}
use Rattle.turn_state.specs.State.{Run, on_self, set_txns}
use Rattle.turn_state.specs.Source.{under_id, on_success}
use Rattle.turn_state.specs.Number.{given_of, number, settled, called}
use Rattle.turn_state.specs.View.{view, perms_in, Tidy, TidyPermissions, Reply, Meets}
use Rattle.turn_plan.specs.declared.Draft.{Draft}
use Rattle.turn_plan.specs.Plan.{granting}
use Rattle.turn_plan.specs.Draft.{plan_in, TidyDraft}
use Rattle.turn_plan.specs.Follows.{Follows, perm_full}

abbrev pub Concludes : Client → Draft → ℕ → List ℕ → List ℕ → Reply → List ℕ → Type 0
Concludes client d now lent out r after =
    (s : Run) → (Tidy client → TidyDraft d) → Follows (view client) now lent (plan_in d) s
    → Meets client (settled (number (given_of now lent (length out)) (view client) s) (view client) s) out r after

-- the success of the permission of that IP, for which the request of that id asked
unfoldable pub permitted : ℕ → List ℕ → List ℕ → Ip → Run → Run
permitted now buf id ip s = on_success now (Permission ip) buf (on_self (set_txns (remove (under_id id) s.self.txns)) s)

-- the permissions with that of the IP, granted; or it is not there and their table is full
pub record Granted (t : Permissions) (ip : Ip) (now : ℕ) (r : Permissions) : Type 0 where
  pub free : perm_full (perms_in t) ip ≡ false
  pub granted : perms_in r ≡ granting now ip (perms_in t)
  pub tidy : TidyPermissions t → TidyPermissions r

pub record NoPlace (t : Permissions) (ip : Ip) (refusal : Refusal) : Type 0 where
  pub five : refusal ≡ Full
  pub met : perm_full (perms_in t) ip ≡ true

abbrev pub Grants : Permissions → Ip → ℕ → Result Permissions Refusal → Type 0
Grants t ip now (Ok r) = Granted t ip now r
Grants t ip now (Err refusal) = NoPlace t ip refusal

-- the answer to such a success, whatever else its message says
abbrev pub Permits : Client → List ℕ → Ip → ℕ → List ℕ → List ℕ → Reply → List ℕ → Type 0
Permits client id ip now lent out r after =
    (buf : List ℕ) → Meets client (called (permitted now buf id ip) (given_of now lent (length out)) (view client)) out r after
