-- What removals and writings leave at each path.
use Rattle.std.proofs.Common.{◌≡◌, true, false, refl, sym, ap, subst, ◌∙◌, inl, inr, List, [], ◌∷◌}
use Rattle.std.proofs.Common.{◌++◌, Some, None}
use Rattle.std.specs.Prelude.{if◌then◌else◌, Option, ◌||◌}
use Rattle.std.proofs.lemmas.Bool.{false≢true}
use Rattle.retro_path.specs.Order.{path_eq}
use Rattle.retro_path.specs.Path.{PathValue}
use Rattle.casebook_folder.specs.Steps.{Contents, Step, step, put, after_steps}
use Rattle.casebook_folder.specs.Rows.{left_at, removal, removals, writing, writings, steps_of}
use Rattle.casebook_folder.specs.Rows.{row_at, AreDistinct, clears}
use Rattle.casebook_folder.specs.Found.{is_missing, changes_kind}
use Rattle.casebook_folder.specs.Moments.{node_after, IsRestored}
use Rattle.casebook_folder.specs.declared.row.Row.{Row}
use Rattle.casebook_folder.specs.declared.found.Found.{Found}
use Rattle.casebook_folder.specs.declared.found.Found.TheVariants.{Missing, Dir, File, Blocked}
use Rattle.casebook_folder.proofs.Small.{same_path, decided}

pub after-append : (xs ys : List Step) (f : Contents)
    → after_steps (xs ++ ys) f ≡ after_steps ys (after_steps xs f)
after-append [] ys f = refl
after-append (s ∷ xs) ys f = after-append xs ys (put s.path s.found f)

-- what is at the row's own path and at others, for a list of rows that begins with it
row_here : (r : Row) (rs : List Row) (q : PathValue) → path_eq r.path q ≡ true
    → row_at q (r ∷ rs) ≡ Some r
row_here r rs q e = ap (λ b. if b then Some r else row_at q rs) e

row_there : (r : Row) (rs : List Row) (q : PathValue) → path_eq r.path q ≡ false
    → row_at q (r ∷ rs) ≡ row_at q rs
row_there r rs q e = ap (λ b. if b then Some r else row_at q rs) e

none_there : (r : Row) (rs : List Row) (q : PathValue) → path_eq r.path q ≡ true
    → row_at r.path rs ≡ None → row_at q rs ≡ None
none_there r rs q e h = subst (λ p. row_at p rs ≡ None) (same_path r.path q e) h

-- what writing a row leaves at a path that held x
abbrev pub written : Option Row → Found → Found
written None x = x
written (Some r) x = if is_missing r.after then x else r.after

abbrev pub removed : Option Row → Found → Found
removed None x = x
removed (Some r) x = if clears r then Missing else x

one_written_here : (r : Row) (f : Contents) (q : PathValue) → path_eq r.path q ≡ true
    → after_steps (writing r) f q ≡ written (Some r) (f q)
one_written_here r f q e = elim (decided (is_missing r.after)) [
  | inl m ↦ ap (λ b. after_steps (if b then [] else step r.path (left_at r) r.after ∷ []) f q) m ∙ sym (ap (λ b. if b then f q else r.after) m)
  | inr m ↦ ap (λ b. after_steps (if b then [] else step r.path (left_at r) r.after ∷ []) f q) m ∙ ap (λ b. if b then r.after else f q) e ∙ sym (ap (λ b. if b then f q else r.after) m)
]

pub one_written_there : (r : Row) (f : Contents) (q : PathValue) → path_eq r.path q ≡ false
    → after_steps (writing r) f q ≡ f q
one_written_there r f q e = elim (decided (is_missing r.after)) [
  | inl m ↦ ap (λ b. after_steps (if b then [] else step r.path (left_at r) r.after ∷ []) f q) m
  | inr m ↦ ap (λ b. after_steps (if b then [] else step r.path (left_at r) r.after ∷ []) f q) m ∙ ap (λ b. if b then r.after else f q) e
]

one_removed_here : (r : Row) (f : Contents) (q : PathValue) → path_eq r.path q ≡ true
    → after_steps (removal r) f q ≡ removed (Some r) (f q)
one_removed_here r f q e = elim (decided (clears r)) [
  | inl m ↦ ap (λ b. after_steps (if b then step r.path r.before Missing ∷ [] else []) f q) m ∙ ap (λ b. if b then Missing else f q) e ∙ sym (ap (λ b. if b then Missing else f q) m)
  | inr m ↦ ap (λ b. after_steps (if b then step r.path r.before Missing ∷ [] else []) f q) m ∙ sym (ap (λ b. if b then Missing else f q) m)
]

one_removed_there : (r : Row) (f : Contents) (q : PathValue) → path_eq r.path q ≡ false
    → after_steps (removal r) f q ≡ f q
one_removed_there r f q e = elim (decided (clears r)) [
  | inl m ↦ ap (λ b. after_steps (if b then step r.path r.before Missing ∷ [] else []) f q) m ∙ ap (λ b. if b then Missing else f q) e
  | inr m ↦ ap (λ b. after_steps (if b then step r.path r.before Missing ∷ [] else []) f q) m
]

at_path : {f g : Contents} → f ≡ g → (q : PathValue) → f q ≡ g q
at_path e q = ap (λ h. h q) e

pub writings_at : (rows : List Row) (f : Contents) (q : PathValue) → AreDistinct rows
    → after_steps (writings rows) f q ≡ written (row_at q rows) (f q)
writings_at [] f q d = refl
writings_at (r ∷ rs) f q d =
    at_path (after-append (writing r) (writings rs) f) q
    ∙ writings_at rs (after_steps (writing r) f) q d.1
    ∙ elim (decided (path_eq r.path q)) [
      | inl e ↦ ap (λ o. written o (after_steps (writing r) f q)) (none_there r rs q e d.0)
          ∙ one_written_here r f q e
          ∙ sym (ap (λ o. written o (f q)) (row_here r rs q e))
      | inr e ↦ ap (written (row_at q rs)) (one_written_there r f q e)
          ∙ sym (ap (λ o. written o (f q)) (row_there r rs q e))
    ]

pub removals_at : (rows : List Row) (f : Contents) (q : PathValue) → AreDistinct rows
    → after_steps (removals rows) f q ≡ removed (row_at q rows) (f q)
removals_at [] f q d = refl
removals_at (r ∷ rs) f q d =
    at_path (after-append (removals rs) (removal r) f) q
    ∙ elim (decided (path_eq r.path q)) [
      | inl e ↦ one_removed_here r (after_steps (removals rs) f) q e
          ∙ ap (removed (Some r)) (removals_at rs f q d.1 ∙ ap (λ o. removed o (f q)) (none_there r rs q e d.0))
          ∙ sym (ap (λ o. removed o (f q)) (row_here r rs q e))
      | inr e ↦ one_removed_there r (after_steps (removals rs) f) q e
          ∙ removals_at rs f q d.1
          ∙ sym (ap (λ o. removed o (f q)) (row_there r rs q e))
    ]

pub missing_is : (x : Found) → is_missing x ≡ true → x ≡ Missing
missing_is Missing e = refl
missing_is (Dir a) e = absurd (false≢true e)
missing_is (File a b) e = absurd (false≢true e)
missing_is (Blocked o) e = absurd (false≢true e)

pub clears_missing : (r : Row) → is_missing r.after ≡ true → clears r ≡ true
clears_missing r e = ap (λ b. b || changes_kind r.before r.after) e

both : (o : Option Row) (x : Found) → written o (removed o x) ≡ node_after o x
both None x = refl
both (Some r) x = elim (decided (is_missing r.after)) [
  | inl m ↦ ap (λ b. if b then removed (Some r) x else r.after) m
      ∙ ap (λ b. if b then Missing else x) (clears_missing r m) ∙ sym (missing_is r.after m)
  | inr m ↦ ap (λ b. if b then removed (Some r) x else r.after) m
]

-- all steps leave the new nodes at exactly the rows' paths
pub restored : (rows : List Row) (f : Contents) → AreDistinct rows
    → IsRestored rows f (after_steps (steps_of rows) f)
restored rows f d q =
    at_path (after-append (removals rows) (writings rows) f) q
    ∙ writings_at rows (after_steps (removals rows) f) q d
    ∙ ap (written (row_at q rows)) (removals_at rows f q d)
    ∙ both (row_at q rows) (f q)
