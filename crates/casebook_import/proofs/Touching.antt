-- What a line touched, by what it read, listed and changed.
use Rattle.std.proofs.Common.{◌≡◌, ◌∙◌, ◌||◌, ◌++◌, ap, Bool, true, false, map}
use Rattle.std.proofs.lemmas.List.Folds.{list_any-append}
use Rattle.retro_tree.specs.declared.state.State.{State}
use Rattle.casebook_typed.specs.Looks.{ChangeValue, SeenValue}
use Rattle.casebook_import.specs.Understood.{is_in_opaque, touch_opaque, touched}

module _ (s : State) (seen : SeenValue) where
  parts : touch_opaque s (touched seen)
      ≡ ((touch_opaque s seen.read || touch_opaque s seen.listed)
      || touch_opaque s (map (λ (change : ChangeValue). change.path) seen.changes))
  parts =
      list_any-append (is_in_opaque s) (seen.read ++ seen.listed) _
      ∙ ap (λ (b : Bool). b || touch_opaque s (map (λ (change : ChangeValue). change.path) seen.changes))
      (list_any-append (is_in_opaque s) seen.read seen.listed)

  pub read_touch : touch_opaque s seen.read ≡ true → touch_opaque s (touched seen) ≡ true
  read_touch e =
      parts ∙ ap (λ (b : Bool). (b || touch_opaque s seen.listed)
      || touch_opaque s (map (λ (change : ChangeValue). change.path) seen.changes)) e

  pub listed_touch : touch_opaque s seen.read ≡ false → touch_opaque s seen.listed ≡ true
      → touch_opaque s (touched seen) ≡ true
  listed_touch e f =
      parts ∙ ap (λ (b : Bool). (b || touch_opaque s seen.listed)
      || touch_opaque s (map (λ (change : ChangeValue). change.path) seen.changes)) e
      ∙ ap (λ (b : Bool). b
      || touch_opaque s (map (λ (change : ChangeValue). change.path) seen.changes)) f

  pub changes_touch : touch_opaque s seen.read ≡ false → touch_opaque s seen.listed ≡ false
      → touch_opaque s (touched seen)
      ≡ touch_opaque s (map (λ (change : ChangeValue). change.path) seen.changes)
  changes_touch e f =
      parts ∙ ap (λ (b : Bool). (b || touch_opaque s seen.listed)
      || touch_opaque s (map (λ (change : ChangeValue). change.path) seen.changes)) e
      ∙ ap (λ (b : Bool). b
      || touch_opaque s (map (λ (change : ChangeValue). change.path) seen.changes)) f
