-- The lines so far, and those that are left.
use Rattle.std.proofs.Common.{◌≡◌, ◌++◌, [], List, map}
use Rattle.std.specs.Iterator.Adapters.{zip_first, zip_second}
use Rattle.std.specs.Slice.Iter.{iter_rest}
use Rattle.retro_keep.specs.Recording.{number_in}
use Rattle.casebook_view.specs.CaseLines.{line_number}
use Rattle.casebook_view.specs.Lines.{AreLinesAfter, LinesMatch}
use Rattle.casebook_view.specs.declared.case_line.CaseLine.{CaseLine}
use Rattle.casebook_view.proofs.case_lines.CaseLines.of.Given as goal

abbrev pub invariant-loop-line : goal.invariant-loop-line
invariant-loop-line l = record {
  numbers : map line_number l.lines.items ++ map number_in (iter_rest (zip_first l.line-iterator))
      ≡ map number_in l.case.recording.lines;
  lines : LinesMatch l.case.recording l.case.repair
      → (map (λ v. v.number) (iter_rest (zip_second l.line-iterator)) ≡ map number_in (iter_rest (zip_first l.line-iterator)))
      × ((rest : List CaseLine)
      → AreLinesAfter l.case.source l.case.edits l.case.recording l.case.repair l.unknown l.lines.items
      (iter_rest (zip_second l.line-iterator)) rest
      → AreLinesAfter l.case.source l.case.edits l.case.recording l.case.repair l.unknown [] l.case.repair.lines.items
      (l.lines.items ++ rest));
}
