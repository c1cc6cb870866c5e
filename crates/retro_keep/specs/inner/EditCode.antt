-- The codes of an edit, and of edits by number.
use Rattle.std.specs.Coded.{Coded, coded_ℕ}
use Rattle.std.specs.FinMap as map_of
use Rattle.std.specs.Ordering.{nat_cmp}
use Rattle.retro_keep.specs.contracts.edit.Edit as edit_type
use Rattle.retro_keep.specs.declared.edit.Edit.{Edit}

abbrev pub coded_edit : Coded Edit
coded_edit = (edit_type.the_row).coded

abbrev pub coded_edits : Coded (map_of.FinMap nat_cmp Edit)
coded_edits = map_of.code coded_ℕ coded_edit
