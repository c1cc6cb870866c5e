use Rattle.std.proofs.Common.{◌≡◌, drop, map}
use Rattle.retro_keep.specs.Edit.{is_among, least, not_lines, sooner}
use Rattle.retro_keep.proofs.edit_test.least_missing.Given as goal

abbrev pub invariant-loop-edit : goal.invariant-loop-edit
invariant-loop-edit g l =
    let is_line = is_among (map g.L.Numbered.number l.lines) in
    sooner l.found (least (not_lines is_line (drop l.edit-index l.edits)))
    ≡ least (not_lines is_line l.edits)
