-- The kinds of records.
use Rattle.std.specs.Prelude.{ℕ, List, Option, Some, None, codes, if◌then◌else◌}
use Rattle.retro_path.specs.Order.{text_eq}
use Rattle.casebook_record.specs.declared.kind.Kind.{Kind}
use Rattle.casebook_record.specs.declared.kind.Kind.TheVariants as kinds

-- the kind that a field names
unfoldable pub kind_of : List ℕ → Option Kind
kind_of field =
    if text_eq field (codes "start") then Some kinds.Start
    else if text_eq field (codes "begin") then Some kinds.Begin
    else if text_eq field (codes "end") then Some kinds.End
    else if text_eq field (codes "exit") then Some kinds.Exit
    else None
