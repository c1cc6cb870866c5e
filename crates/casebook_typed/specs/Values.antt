-- What lines and what they show stand for.
use Rattle.std.specs.Prelude.{map, option_map}
use Rattle.casebook_typed.specs.Looks.{ChangeValue, SeenValue}
use Rattle.casebook_typed.specs.Lines.{LineValue}
use Rattle.casebook_typed.specs.Sessions.{SessionValue}
use Rattle.casebook_typed.specs.declared.line.TypedLine.{TypedLine}
use Rattle.casebook_typed.specs.declared.seen.PathChange.{PathChange}
use Rattle.casebook_typed.specs.declared.seen.Seen.{Seen}
use Rattle.casebook_typed.specs.declared.typed.Session.{Session}

abbrev pub change_value : PathChange → ChangeValue
change_value c = record {
  path = c.path;
  sight = c.sight;
  content = option_map (λ content. content.now) c.content;
}

abbrev pub seen_value : Seen → SeenValue
seen_value s = record {
  changes = map change_value s.changes.items;
  read = s.read.items;
  listed = s.listed.items;
}

abbrev pub line_value : TypedLine → LineValue
line_value l = record {
  owner = l.owner;
  extent = l.extent;
  shown = l.shown.now;
  text = option_map (λ text. text.now) l.text;
  seen = seen_value l.seen;
  overlapping = l.overlapping.items;
}

abbrev pub session_value : Session → SessionValue
session_value s = record {
  name = s.name.now;
  first = option_map (λ r. r.now) s.first;
  start = option_map (λ start. start.now) s.start;
  parent = s.parent;
  missing = s.missing;
}
