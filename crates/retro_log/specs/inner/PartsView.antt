-- The reader's parts as the definitions see them.
use Rattle.std.specs.Prelude.{map, option_map}
use Rattle.retro_json.specs.ReadsAs.{seen}
use Rattle.retro_json.specs.Views.{row_view}
use Rattle.retro_log.specs.declared.reading.parts.Parts.{Parts as Read}
use Rattle.retro_log.specs.inner.Parts.{Parts}

abbrev pub parts_view : {L : Type 0} → Read L → Parts L
parts_view p = record {
  is_known = p.is_known;
  version = p.version;
  from = p.from;
  tree = option_map (seen (λ v. v.items)) p.tree;
  sessions = option_map (seen (λ v. map row_view v.items)) p.sessions;
  lines = option_map (seen (λ v. v.items)) p.lines;
}
