use Rattle.std.proofs.Common.{◌≡◌, List, ap, sym, subst, ◌∙◌}
use Rattle.std.specs.List.{list_all}
use Rattle.std.specs.FinMap as map
use Rattle.retro_tree.specs.Cell.{value}
use Rattle.retro_tree.specs.Commit.{put_cells, committed}
use Rattle.retro_tree.specs.inner.CommitSteps.{removes, removals, writes, written_paths, WasLawful}
use Rattle.retro_tree.specs.Overlay.{OverlayMap}
use Rattle.retro_tree.specs.declared.cell.Cell.{Cell}
use Rattle.retro_tree.specs.declared.overlay_entry.OverlayEntry.{OverlayEntry}
use Rattle.retro_tree.specs.declared.state.State.{State}
use Rattle.retro_tree.proofs.CommittedLaw.{was_lawful}
use Rattle.retro_tree.proofs.PutCells.{writes_then_removals, cells_committed, all_removals}
use Rattle.retro_tree.proofs.overlay.Overlay.commit.Goals as goal

all_done : (overlay : OverlayMap) (es : List (Cell × OverlayEntry)) (was written now : State)
    → now ≡ put_cells es written → es ≡ removals (map.entries overlay)
    → written ≡ put_cells (writes (map.entries overlay)) was → now ≡ committed overlay was
all_done overlay es was written now done these new =
    done ∙ (λ i. put_cells (these i) (new i)) ∙ writes_then_removals overlay was

pub remove_all-requires : goal.remove_all-requires
remove_all-requires c = ap (list_all (λ e. removes e.1)) c.in-Ok.ensures.removals
    ∙ all_removals (map.entries c.args.self)

pub revalidate-requires : goal.revalidate-requires
revalidate-requires c =
    let us = c.write_all.new.self.undos.items in
    let es = c.write_all.new.self.removals.items in
    subst (λ (s : State). WasLawful (written_paths us es) s.tree) (sym c.remove_all.ensures)
    (was_lawful us es c.args.state.now c.write_all.new.state c.in-Ok.ensures.undone
    (c.is_known_lawful-was_known.ensures c.if-was_known.true).tree)

pub returns-then-was_known-clause-ok : goal.returns-then-was_known-clause-ok
returns-then-was_known-clause-ok c =
    c.revalidate.ensures
    ∙ all_done c.args.self _ c.args.state.now _ _ c.remove_all.ensures c.in-Ok.ensures.removals c.in-Ok.ensures.ok

pub returns-then-was_known-clause-cells : goal.returns-then-was_known-clause-cells
returns-then-was_known-clause-cells c now h q =
    ap (value q) (returns-then-was_known-clause-ok c) ∙ cells_committed c.args.self c.args.state.now now h q

pub returns-else-was_known-clause-ok : goal.returns-else-was_known-clause-ok
returns-else-was_known-clause-ok c =
    all_done c.args.self _ c.args.state.now _ _ c.remove_all.ensures c.in-Ok.ensures.removals c.in-Ok.ensures.ok

pub returns-else-was_known-clause-cells : goal.returns-else-was_known-clause-cells
returns-else-was_known-clause-cells c now h q =
    ap (value q) (returns-else-was_known-clause-ok c) ∙ cells_committed c.args.self c.args.state.now now h q
