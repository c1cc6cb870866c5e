-- Trees and sessions that are known to be lawful.
use Rattle.std.specs.Prelude.{Bool, IsTrue}
use Rattle.std.specs.FinMap as map
use Rattle.std.specs.Ordering.{nat_cmp}
use Rattle.retro_tree.specs.Tree.{Tree}
use Rattle.retro_tree.specs.Limits.{AreLawfulSessions}
use Rattle.retro_tree.specs.Lawful.{IsLawfulTree}
use Rattle.retro_tree.specs.declared.known.Known.{Known}
use Rattle.retro_tree.specs.declared.session.Session.{Session}
use Rattle.retro_tree.specs.declared.tree.Tree.TheInside as trees
use Rattle.retro_tree.specs.declared.sessions.Sessions.TheInside as sessions

-- a marked value after a change
abbrev pub changed_to : {T : Type 0} → Bool → T → Known T
changed_to known value = record { value = value; known = known }

-- contracts see a tree without the mark
abbrev pub tree_of : trees.Inside → Tree
tree_of a = a.entries.value

-- a tree with the mark is lawful
abbrev pub TreeIsKnown : trees.Inside → Type 0
TreeIsKnown a = IsTrue a.entries.known → IsLawfulTree (tree_of a)

-- contracts see sessions without the mark, and sessions with the mark are lawful
abbrev pub sessions_of : sessions.Inside → map.FinMap nat_cmp Session
sessions_of a = a.sessions.value

abbrev pub SessionsAreKnown : sessions.Inside → Type 0
SessionsAreKnown a = IsTrue a.sessions.known → AreLawfulSessions (sessions_of a)
