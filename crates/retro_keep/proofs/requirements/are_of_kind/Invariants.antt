use Rattle.std.proofs.Common.{◌≡◌, drop}
use Rattle.std.specs.List.{list_all}
use Rattle.retro_keep.specs.Recording.{is_line_of_kind}
use Rattle.retro_keep.proofs.requirements.are_of_kind.Given as goal

abbrev pub invariant-loop-line : goal.invariant-loop-line
invariant-loop-line l = list_all is_line_of_kind (drop l.line-index l.lines) ≡ list_all is_line_of_kind l.lines
