-- The values of the code as the definitions have them.
use Rattle.casebook_case.specs.Reading.{PartsView}
use Rattle.casebook_case.specs.declared.reading.Parts.{Parts}

abbrev pub parts_view : Parts → PartsView
parts_view parts = record {
  contents = parts.contents.items;
  first = parts.first.now;
  lines = parts.lines.now;
  unseen = parts.unseen.now;
}
