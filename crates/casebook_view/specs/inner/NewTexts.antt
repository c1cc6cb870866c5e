-- The lines whose text an edit replaces, as a set has them.
use Rattle.std.specs.Prelude.{◌≡◌, ℕ, Bool, List}
use Rattle.std.specs.BTreeMap.{is_at}
use Rattle.std.specs.List.{list_any}
use Rattle.std.specs.Ordering.{nat_cmp}
use Rattle.retro_keep.specs.declared.edit.Edit.{Edit}
use Rattle.casebook_view.specs.Reasons.{has_new_text}
use Rattle.casebook_view.specs.declared.new_texts.NewTexts.{NewTexts}

-- whether a set has a number
abbrev pub has_number : NewTexts → ℕ → Bool
has_number texts n = list_any (is_at (nat_cmp n)) texts.numbers.keys

-- A set has the lines whose text one of these edits replaces.
abbrev pub AreNewTexts : List Edit → NewTexts → Type 0
AreNewTexts edits texts = (n : ℕ) → has_number texts n ≡ has_new_text edits n
