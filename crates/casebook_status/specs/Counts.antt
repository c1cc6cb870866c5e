-- How many lines of a case are of which kind.
use Rattle.std.specs.Prelude.{◌==◌, Bool, not, List, count_by, length}
use Rattle.casebook_explain.specs.declared.told.ToldLine.{ToldLine}
use Rattle.casebook_typed.specs.Lines.{LineValue}
use Rattle.casebook_status.specs.declared.counts.Counts.{Counts}

-- whether other lines were open while a line did what was seen
abbrev pub overlaps : LineValue → Bool
overlaps line = not (length line.overlapping == 0)

-- lines as they were told, and the same lines as they were typed
abbrev pub counts_of : List ToldLine → List LineValue → Counts
counts_of told typed = record {
  lines = length told;
  modelled = count_by (λ line. line.is_modelled) told;
  overlapping = count_by overlaps typed;
  outside = count_by (λ line. line.session == 0) told;
}
