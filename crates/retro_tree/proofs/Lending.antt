-- The value of each kind of cell, by what its state has there.
use Rattle.std.proofs.Common.{◌≡◌, ℕ, [], List, Option, Some, None, refl, ap}
use Rattle.std.specs.FinMap as map
use Rattle.std.specs.Option.{unwrap_or}
use Rattle.retro_tree.specs.Cell.{value}
use Rattle.retro_tree.specs.Node.{node_of}
use Rattle.retro_tree.specs.Path.{PathValue}
use Rattle.retro_tree.specs.Session.{default_session}
use Rattle.retro_tree.specs.Tree.{node_in}
use Rattle.retro_tree.specs.declared.cell.Cell.TheVariants as cells
use Rattle.retro_tree.specs.declared.session.Session.{Session}
use Rattle.retro_tree.specs.declared.state.State.{State}
use Rattle.retro_tree.specs.declared.value.Value.{Value}
use Rattle.retro_tree.specs.declared.value.Value.TheVariants as values
use Rattle.retro_tree.proofs.Lookups.{var_of_none}

pub at_path : (p : PathValue) (s : State) → value (cells.At p) s ≡ values.Node (node_of (map.get s.tree p))
unfolding value node_in
at_path p s = refl

pub cwd_of : (sid : ℕ) (s : State) (session : Session) → map.get s.sessions sid ≡ Some session
    → value (cells.Cwd sid) s ≡ values.Cwd session.cwd
unfolding value
cwd_of sid s session is = ap (λ o. values.Cwd (unwrap_or o default_session).cwd) is

pub no_cwd : (sid : ℕ) (s : State) → map.get s.sessions sid ≡ None → value (cells.Cwd sid) s ≡ values.Cwd []
unfolding value default_session
no_cwd sid s is = ap (λ o. values.Cwd (unwrap_or o default_session).cwd) is

pub var_in : (sid : ℕ) (name : List ℕ) (s : State) (session : Session) → map.get s.sessions sid ≡ Some session
    → value (cells.Var sid name) s ≡ values.Text (map.get session.vars name)
unfolding value
var_in sid name s session is = ap (λ o. values.Text (map.get (unwrap_or o default_session).vars name)) is

pub no_var : (sid : ℕ) (name : List ℕ) (s : State) → map.get s.sessions sid ≡ None
    → value (cells.Var sid name) s ≡ values.Text None
unfolding value
no_var sid name s is = ap values.Text (var_of_none s.sessions sid name is)

pub status_of : (sid : ℕ) (s : State) (session : Session) → map.get s.sessions sid ≡ Some session
    → value (cells.Status sid) s ≡ values.Status session.status
unfolding value
status_of sid s session is = ap (λ o. values.Status (unwrap_or o default_session).status) is

pub no_status : (sid : ℕ) (s : State) → map.get s.sessions sid ≡ None → value (cells.Status sid) s ≡ values.Status 0
unfolding value default_session
no_status sid s is = ap (λ o. values.Status (unwrap_or o default_session).status) is

pub ruleset lending = (at_path, cwd_of, no_cwd, var_in, no_var, status_of, no_status)
