-- What only a recording has, and no machine: what is at /.casebook and below it.
use Rattle.std.specs.Prelude.{Bool, false, List}
use Rattle.std.specs.List.{filter, fold}
use Rattle.std.specs.FinMap as finmap
use Rattle.retro_path.specs.Path.{PathValue}
use Rattle.retro_tree.specs.State.{put_node}
use Rattle.retro_tree.specs.Tree.{Tree}
use Rattle.retro_tree.specs.declared.ask.Ask.{Ask}
use Rattle.retro_tree.specs.declared.ask.Ask.TheVariants as asks
use Rattle.retro_tree.specs.declared.change.Change.{Change}
use Rattle.retro_tree.specs.declared.change.Change.TheVariants as changes
use Rattle.retro_tree.specs.declared.node.Node.TheVariants.{Missing}
use Rattle.retro_tree.specs.declared.note.Note.{Note}
use Rattle.retro_tree.specs.declared.note.Note.TheVariants.{Asked, Made}
use Rattle.retro_tree.specs.declared.state.State.{State}
use Rattle.casebook_explain.specs.Places.{is_ours}

-- whether a query is about such a path
abbrev pub is_our_ask : Ask → Bool
is_our_ask (asks.Kind p) = is_ours p
is_our_ask (asks.Bytes p) = is_ours p
is_our_ask (asks.Names p) = is_ours p
is_our_ask (asks.CanWrite p more) = is_ours p
is_our_ask _ = false

-- whether a change writes to such a path
abbrev pub is_our_change : Change → Bool
is_our_change (changes.Put p node) = is_ours p
is_our_change (changes.Grow p bytes) = is_ours p
is_our_change _ = false

abbrev pub is_our_note : Note → Bool
is_our_note (Asked ask answer) = is_our_ask ask
is_our_note (Made change) = is_our_change change

-- such paths of a tree
abbrev pub our_paths : Tree → List PathValue
our_paths tree = filter is_ours (finmap.keys tree)

-- a state without what is there
unfoldable pub without_ours : State → State
without_ours s = fold (λ t p. put_node p Missing t) s (our_paths s.tree)
