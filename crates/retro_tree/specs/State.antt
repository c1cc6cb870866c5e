-- States: a tree and its sessions, and how they change.
use Rattle.std.specs.Prelude.{◌≡◌, ℕ, List, []}
use Rattle.std.specs.FinMap as map
use Rattle.retro_tree.specs.Maps.{update}
use Rattle.retro_tree.specs.Path.{PathValue, parent_of}
use Rattle.retro_tree.specs.Node.{grown, permit_at}
use Rattle.retro_tree.specs.Tree.{node_in, put}
use Rattle.retro_tree.specs.Session.{default_session, with_status}
use Rattle.retro_tree.specs.declared.entry.Entry.TheVariants.{Dir as DirEntry}
use Rattle.retro_tree.specs.declared.node.Node.{Node}
use Rattle.retro_tree.specs.declared.permit.Permit.{Permit}
use Rattle.retro_tree.specs.declared.session.Session.{Session}
use Rattle.retro_tree.specs.declared.state.State.{State}

-- the root alone
unfoldable pub empty_state : State
empty_state = record { tree = map.insert map.empty [] DirEntry; sessions = map.empty }

-- a node put at a path; Missing removes what the path holds
abbrev pub put_node : PathValue → Node → State → State
put_node p node s = record s { tree = put p node s.tree }

-- bytes appended to the file at a path
abbrev pub grow_file : PathValue → List ℕ → State → State
grow_file p bytes s = put_node p (grown bytes (node_in p s.tree)) s

-- a session added, or the one with its number replaced
abbrev pub put_session : ℕ → Session → State → State
put_session sid session s = record s { sessions = map.insert s.sessions sid session }

-- the status of a session set; the session is created if it doesn't exist
abbrev pub put_status : ℕ → ℕ → State → State
put_status sid status s =
    record s { sessions = update s.sessions sid default_session (with_status status) }

-- whether n more bytes can be appended to the file at a path
abbrev pub permit_of : PathValue → ℕ → State → Permit
permit_of p n s = permit_at (node_in p s.tree) (node_in (parent_of p) s.tree) n

-- both states have the same sessions
abbrev pub SameSessions : State → State → Type 0
SameSessions s t = (sid : ℕ) → map.contains_key s.sessions sid ≡ map.contains_key t.sessions sid
