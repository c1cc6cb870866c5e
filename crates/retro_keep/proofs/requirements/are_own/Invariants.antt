use Rattle.std.proofs.Common.{◌≡◌, drop}
use Rattle.std.specs.List.{list_all}
use Rattle.retro_keep.specs.Recording.{is_own_line}
use Rattle.retro_keep.proofs.requirements.are_own.Given as goal

abbrev pub invariant-loop-line : goal.invariant-loop-line
invariant-loop-line l = list_all is_own_line (drop l.line-index l.lines) ≡ list_all is_own_line l.lines
