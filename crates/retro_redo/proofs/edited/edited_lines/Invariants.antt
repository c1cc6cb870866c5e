use Rattle.std.proofs.Common.{◌≡◌, ◌++◌, drop, map}
use Rattle.std.specs.FinMap as finmap
use Rattle.retro_keep.specs.Recording.{script_line}
use Rattle.retro_keep.specs.Edit.{edited}
use Rattle.retro_redo.proofs.edited.edited_lines.Given as goal

abbrev pub invariant-loop-line : goal.invariant-loop-line
invariant-loop-line l =
    l.found.items ++ edited (finmap.get l.edits) (map script_line (drop l.line-index l.lines))
    ≡ edited (finmap.get l.edits) (map script_line l.lines)
