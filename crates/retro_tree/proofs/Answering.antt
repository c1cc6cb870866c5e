-- Answers of the combined state.
use Rattle.std.proofs.Common.{◌≡◌, ℕ, ◌+◌, nat_lt, List, ◌++◌, length, Some, None, refl, sym, ap, ◌∙◌, arith}
use Rattle.std.proofs.Common.{length-append}
use Rattle.std.specs.Prelude.{min, if◌then◌else◌}
use Rattle.std.specs.FinMap as map
use Rattle.retro_tree.specs.Path.{PathValue, parent_of}
use Rattle.retro_tree.specs.Node.{grown, kind_of, kind_grown, file_limit, permit_at, permit_under}
use Rattle.retro_tree.specs.Tree.{node_in}
use Rattle.retro_tree.specs.State.{permit_of}
use Rattle.retro_tree.specs.Ask.{answer}
use Rattle.retro_tree.specs.Cell.{value}
use Rattle.retro_tree.specs.Overlay.{OverlayMap, Overlays, combined_value}
use Rattle.retro_tree.specs.declared.ask.Ask.{Ask}
use Rattle.retro_tree.specs.declared.node.Node.{Node}
use Rattle.retro_tree.specs.declared.node.Node.TheVariants.{Missing, Dir, File}
use Rattle.retro_tree.specs.declared.permit.Permit.TheVariants.{Yes, TooLarge}
use Rattle.retro_tree.specs.declared.cell.Cell.TheVariants as cells
use Rattle.retro_tree.specs.declared.value.Value.{Value}
use Rattle.retro_tree.specs.declared.value.Value.TheVariants as values
use Rattle.retro_tree.specs.declared.overlay_entry.OverlayEntry.TheVariants as entries
use Rattle.retro_tree.specs.declared.state.State.{State}
use Rattle.retro_tree.proofs.Agree.{agreeing}

-- without entries, the combined state answers as the one below it
pub answered_below : (ask : Ask) (overlay : OverlayMap) (below now : State) → map.len overlay ≡ 0
    → Overlays overlay below now → answer ask below ≡ answer ask now
answered_below ask overlay below now none h =
    agreeing ask below now (λ c _. sym (h c
    ∙ ap (λ x. combined_value x (value c below))
    (ap (λ m. map.get m c) (map.empty_of_len overlay none) ∙ map.get-empty _ c)))

pub kinds : (bytes : List ℕ) (node : Node) → kind_of (grown bytes node) ≡ kind_grown (kind_of node)
kinds bytes Missing = refl
kinds bytes Dir = refl
kinds bytes (File old) = refl

-- ---- permits
pub same_under : (parent : Node) (a b : ℕ) → nat_lt file_limit a ≡ nat_lt file_limit b → permit_under parent a
    ≡ permit_under parent b
same_under Missing a b is = refl
same_under (File bytes) a b is = refl
same_under Dir a b is = ap (λ t. if t then TooLarge else Yes) is

-- all numbers above the limit give the same permit
pub over_least : (b : ℕ) → nat_lt file_limit (min b 4294967295) ≡ nat_lt file_limit b
over_least b = grind arith

over_all : (old bytes : List ℕ) (n : ℕ) → nat_lt file_limit (length old + min (length bytes + n) 4294967295)
    ≡ nat_lt file_limit (length (old ++ bytes) + n)
over_all old bytes n = grind (arith, length-append)

-- the bytes of a growth are added to those that are to be written
permit_grown : (node parent : Node) (bytes : List ℕ) (n : ℕ)
    → permit_at node parent (min (length bytes + n) 4294967295) ≡ permit_at (grown bytes node) parent n
permit_grown Dir parent bytes n = refl
permit_grown Missing parent bytes n = same_under parent _ _ (over_least (length bytes + n))
permit_grown (File old) parent bytes n = same_under parent _ _ (over_all old bytes n)

abbrev node_held : Value → Node
node_held (values.Node node) = node
node_held (values.Cwd p) = Missing
node_held (values.Text t) = Missing
node_held (values.Status n) = Missing

node_kept : (p : PathValue) (overlay : OverlayMap) (below now : State) → Overlays overlay below now
    → map.get overlay (cells.At p) ≡ None → node_in p now.tree ≡ node_in p below.tree
unfolding value
node_kept p overlay below now h none =
    ap node_held (h (cells.At p) ∙ ap (λ x. combined_value x (value (cells.At p) below)) none)

node_more : (p : PathValue) (bytes : List ℕ) (overlay : OverlayMap) (below now : State)
    → Overlays overlay below now → map.get overlay (cells.At p) ≡ Some (entries.Growth bytes)
    → node_in p now.tree ≡ grown bytes (node_in p below.tree)
unfolding value
node_more p bytes overlay below now h more =
    ap node_held (h (cells.At p) ∙ ap (λ x. combined_value x (value (cells.At p) below)) more)

pub node_whole : (p : PathValue) (node : Node) (overlay : OverlayMap) (below now : State)
    → Overlays overlay below now → map.get overlay (cells.At p) ≡ Some (entries.Value (values.Node node))
    → node ≡ node_in p now.tree
unfolding value
node_whole p node overlay below now h whole =
    sym (ap node_held (h (cells.At p) ∙ ap (λ x. combined_value x (value (cells.At p) below)) whole))

pub permit_kept : (p : PathValue) (n : ℕ) (overlay : OverlayMap) (below now : State)
    → Overlays overlay below now → map.get overlay (cells.At p) ≡ None
    → map.get overlay (cells.At (parent_of p)) ≡ None → permit_of p n below ≡ permit_of p n now
permit_kept p n overlay below now h none above =
    sym (λ i. permit_at (node_kept p overlay below now h none i)
    (node_kept (parent_of p) overlay below now h above i) n)

pub permit_more : (p : PathValue) (bytes : List ℕ) (n : ℕ) (overlay : OverlayMap) (below now : State)
    → Overlays overlay below now → map.get overlay (cells.At p) ≡ Some (entries.Growth bytes)
    → map.get overlay (cells.At (parent_of p)) ≡ None → permit_of p (min (length bytes + n) 4294967295) below
    ≡ permit_of p n now
permit_more p bytes n overlay below now h more above =
    permit_grown (node_in p below.tree) (node_in (parent_of p) below.tree) bytes n
    ∙ sym (λ i. permit_at (node_more p bytes overlay below now h more i)
    (node_kept (parent_of p) overlay below now h above i) n)

pub ruleset permits = (permit_kept, permit_more, node_whole)
