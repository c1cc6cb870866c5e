-- Changes that keep a lawful state lawful, and what is asked of long writes.
use Rattle.std.proofs.Common.{◌≡◌, ◌≤◌, ℕ, true, List, length, refl}
use Rattle.std.proofs.lemmas.Bool.{le-leb}
use Rattle.retro_tree.specs.Change.{may_make}
use Rattle.retro_tree.specs.Path.{PathValue}
use Rattle.retro_tree.specs.Session.{value_limit, status_limit}
use Rattle.retro_tree.specs.declared.change.Change.TheVariants.{SetVar, SetCwd, SetStatus}
use Rattle.retro_tree.specs.declared.state.State.{State}
use Rattle.retro_tree.proofs.MayMake.{may_put_file, may_empty_file, may_grow_file, may_put_dir, may_remove}
use Rattle.retro_tree.proofs.MayMake.{permit_clamped}

pub may_set_var : (sid : ℕ) (name text : List ℕ) (s : State) → length text ≤ value_limit
    → may_make (SetVar sid name text) s ≡ true
unfolding may_make
may_set_var sid name text s h = le-leb _ _ h

pub may_set_cwd : (sid : ℕ) (p : PathValue) (s : State) → may_make (SetCwd sid p) s ≡ true
unfolding may_make
may_set_cwd sid p s = refl

pub may_set_status : (sid status : ℕ) (s : State) → status ≤ status_limit → may_make (SetStatus sid status) s ≡ true
unfolding may_make
may_set_status sid status s h = le-leb _ _ h

pub ruleset clamp = (permit_clamped)

pub ruleset passing =
    (may_put_file, may_empty_file, may_grow_file, may_put_dir, may_remove, may_set_var, may_set_cwd, may_set_status)
