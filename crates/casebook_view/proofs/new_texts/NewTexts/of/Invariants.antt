-- The numbers of the edits so far, and those of the edits that are left.
use Rattle.std.proofs.Common.{◌≡◌, ◌||◌, ℕ, drop}
use Rattle.casebook_view.specs.Reasons.{has_new_text}
use Rattle.casebook_view.specs.inner.NewTexts.{has_number}
use Rattle.casebook_view.proofs.new_texts.NewTexts.of.Given as goal

abbrev pub invariant-loop-edit : goal.invariant-loop-edit
invariant-loop-edit l =
    (n : ℕ) → (has_number l.texts n || has_new_text (drop l.edit-index l.edits) n) ≡ has_new_text l.edits n
