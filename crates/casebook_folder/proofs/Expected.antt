-- Each step of rows finds what it expects, in a folder that holds what the rows say.
use Rattle.std.proofs.Common.{◌≡◌, false, refl, sym, ap, subst, ◌∙◌, inl, inr, List, []}
use Rattle.std.proofs.Common.{◌∷◌, ◌++◌, Some, None}
use Rattle.std.specs.Prelude.{if◌then◌else◌, Option}
use Rattle.retro_path.specs.Order.{path_eq}
use Rattle.retro_path.specs.Path.{PathValue}
use Rattle.casebook_folder.specs.Found.{is_missing}
use Rattle.casebook_folder.specs.Steps.{Contents, Step, step, put, after_steps}
use Rattle.casebook_folder.specs.Rows.{left_at, removal, removals, writing, writings, steps_of}
use Rattle.casebook_folder.specs.Rows.{row_at, AreDistinct, clears}
use Rattle.casebook_folder.specs.Remaining.{IsSeen, Sees}
use Rattle.casebook_folder.specs.declared.row.Row.{Row}
use Rattle.casebook_folder.specs.declared.found.Found.{Found}
use Rattle.casebook_folder.specs.declared.found.Found.TheVariants.{Missing}
use Rattle.casebook_folder.proofs.Small.{same_path, path_refl, decided}
use Rattle.casebook_folder.proofs.Effects.{removed, removals_at, one_written_there}

-- each of some steps finds what it expects
abbrev pub Follow : Contents → List Step → Type 0
Follow f [] = Unit {0}
Follow f (s ∷ ss) = (f s.path ≡ s.before) × Follow (put s.path s.found f) ss

follow_append : (f : Contents) (xs ys : List Step) → Follow f xs → Follow (after_steps xs f) ys
    → Follow f (xs ++ ys)
follow_append f [] ys h k = k
follow_append f (s ∷ xs) ys h k = (h.0, follow_append (put s.path s.found f) xs ys h.1 k)

expected_at : (f : Contents) (done : List Step) (s : Step) (left : List Step)
    → Follow f (done ++ s ∷ left)
    → after_steps done f s.path ≡ s.before
expected_at f [] s left h = h.0
expected_at f (t ∷ done) s left h = expected_at (put t.path t.found f) done s left h.1

-- what holds of each row by its path holds of the first and of the others
own_row : (r : Row) (rs : List Row) (P : Option Row → Found → Type 0) (f : Contents)
    → ((q : PathValue) → P (row_at q (r ∷ rs)) (f q)) → P (Some r) (f r.path)
own_row r rs P f h =
    subst (λ b. P (if b then Some r else row_at r.path rs) (f r.path)) (path_refl r.path) (h r.path)

other_rows : (r : Row) (rs : List Row) (P : Option Row → Found → Type 0) (f g : Contents)
    → row_at r.path rs ≡ None
    → ((x : Found) → P None x) → ((q : PathValue) → path_eq r.path q ≡ false → g q ≡ f q)
    → ((q : PathValue) → P (row_at q (r ∷ rs)) (f q)) → (q : PathValue) → P (row_at q rs) (g q)
other_rows r rs P f g d none same h q = elim (decided (path_eq r.path q)) [
  | inl e ↦ subst (λ o. P o (g q)) (sym (subst (λ p. row_at p rs ≡ None) (same_path r.path q e) d)) (none (g q))
  | inr e ↦ subst (P (row_at q rs)) (sym (same q e))
      (subst (λ b. P (if b then Some r else row_at q rs) (f q)) e (h q))
]

one_removal : (r : Row) (f : Contents) → f r.path ≡ r.before → Follow f (removal r)
one_removal r f e = elim (decided (clears r)) [
  | inl c ↦ subst (λ b. Follow f (if b then step r.path r.before Missing ∷ [] else [])) (sym c) (e, tt)
  | inr c ↦ subst (λ b. Follow f (if b then step r.path r.before Missing ∷ [] else [])) (sym c) tt
]

removals_follow : (rows : List Row) (f : Contents) → AreDistinct rows → Sees rows f
    → Follow f (removals rows)
removals_follow [] f d s = tt
removals_follow (r ∷ rs) f d s =
    follow_append f (removals rs) (removal r)
    (removals_follow rs f d.1 (other_rows r rs IsSeen f f d.0 (λ x. tt) (λ q e. refl) s))
    (one_removal r (after_steps (removals rs) f)
    (removals_at rs f r.path d.1 ∙ ap (λ o. removed o (f r.path)) d.0 ∙ own_row r rs IsSeen f s))

abbrev pub IsLeft : Option Row → Found → Type 0
IsLeft None x = Unit {0}
IsLeft (Some r) x = x ≡ left_at r

one_writing : (r : Row) (g : Contents) → g r.path ≡ left_at r → Follow g (writing r)
one_writing r g e = elim (decided (is_missing r.after)) [
  | inl m ↦ subst (λ b. Follow g (if b then [] else step r.path (left_at r) r.after ∷ [])) (sym m) tt
  | inr m ↦ subst (λ b. Follow g (if b then [] else step r.path (left_at r) r.after ∷ [])) (sym m) (e, tt)
]

writings_follow : (rows : List Row) (g : Contents) → AreDistinct rows
    → ((q : PathValue) → IsLeft (row_at q rows) (g q))
    → Follow g (writings rows)
writings_follow [] g d h = tt
writings_follow (r ∷ rs) g d h =
    follow_append g (writing r) (writings rs) (one_writing r g (own_row r rs IsLeft g h))
    (writings_follow rs (after_steps (writing r) g) d.1
    (other_rows r rs IsLeft g (after_steps (writing r) g) d.0 (λ x. tt) (λ q e. one_written_there r g q e) h))

left_of_seen : (o : Option Row) (x : Found) → IsSeen o x → IsLeft o (removed o x)
left_of_seen None x s = tt
left_of_seen (Some r) x s = ap (λ y. if clears r then Missing else y) s

rows_follow : (rows : List Row) (f : Contents) → AreDistinct rows → Sees rows f
    → Follow f (steps_of rows)
rows_follow rows f d s =
    follow_append f (removals rows) (writings rows) (removals_follow rows f d s)
    (writings_follow rows (after_steps (removals rows) f) d
    (λ q. subst (IsLeft (row_at q rows)) (sym (removals_at rows f q d)) (left_of_seen (row_at q rows) (f q) (s q))))

pub steps_expected : (rows : List Row) (f : Contents) (done left : List Step) (s : Step)
    → AreDistinct rows → Sees rows f
    → steps_of rows ≡ done ++ s ∷ left → after_steps done f s.path ≡ s.before
steps_expected rows f done left s d h e =
    expected_at f done s left (subst (Follow f) e (rows_follow rows f d h))
