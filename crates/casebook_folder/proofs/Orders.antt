-- Rows in order: each is before the next one, and so before all that follow.
use Rattle.std.proofs.Common.{◌≡◌, true, false, refl, sym, ap, subst, ◌∙◌, List, []}
use Rattle.std.proofs.Common.{◌∷◌, map, IsTrue, ◌↔◌, inl, inr, None, Some}
use Rattle.std.specs.Prelude.{if◌then◌else◌}
use Rattle.std.specs.List.{AllByRecursion}
use Rattle.std.specs.List.Sorted.{IsStrictlySortedBy}
use Rattle.std.specs.Ordering.{is_lt, is_eq}
use Rattle.std.specs.declared.cmp.Ordering.{Ordering}
use Rattle.std.specs.declared.cmp.Ordering.TheVariants.{Less, Equal, Greater}
use Rattle.std.proofs.lemmas.Bool.{false≢true}
use Rattle.retro_path.specs.Order.{path_cmp, path_eq, path_ties, path_total}
use Rattle.retro_path.specs.Path.{PathValue}
use Rattle.casebook_folder.specs.Rows.{AreInOrder, AreDistinct, path_of, row_at}
use Rattle.casebook_folder.specs.Remaining.{undo}
use Rattle.casebook_folder.specs.inner.Order.{is_before, rises}
use Rattle.casebook_folder.specs.declared.row.Row.{Row}
use Rattle.casebook_folder.proofs.Small.{both_and, decided, first_and, last_and, path_refl}
use Rattle.casebook_folder.proofs.Small.{same_path}

less : (r : Ordering) → is_lt r ≡ true → r ≡ Less
less Less e = refl
less Equal e = absurd (false≢true e)
less Greater e = absurd (false≢true e)

-- all paths are after a path
abbrev pub AreAfter : PathValue → List Row → Type 0
AreAfter p rows = AllByRecursion (λ q. path_cmp p q ≡ Less) (map path_of rows)

earlier : (p q : PathValue) (rows : List Row) → path_cmp p q ≡ Less → AreAfter q rows
    → AreAfter p rows
earlier p q [] e h = tt
earlier p q (r ∷ rows) e h = (path_total.trans p q r.path e h.0, earlier p q rows e h.1)

before_all : (r : Row) (rows : List Row) → is_before r rows ≡ true → AreInOrder rows
    → AreAfter r.path rows
unfolding IsStrictlySortedBy
before_all r [] e h = tt
before_all r (s ∷ rows) e h =
    let first = less (path_cmp r.path s.path) e in (first, earlier r.path s.path rows first h.0)

sorted_of : (rows : List Row) → rises rows ≡ true → AreInOrder rows
unfolding IsStrictlySortedBy
sorted_of [] e = tt
sorted_of (r ∷ rows) e =
    let rest = sorted_of rows (last_and (is_before r rows) (rises rows) e) in
    (before_all r rows (first_and (is_before r rows) (rises rows) e) rest, rest)

before_next : (r : Row) (rows : List Row) → AreAfter r.path rows → is_before r rows ≡ true
before_next r [] h = refl
before_next r (s ∷ rows) h = ap is_lt h.0

rises_of : (rows : List Row) → AreInOrder rows → rises rows ≡ true
unfolding IsStrictlySortedBy
rises_of [] h = refl
rises_of (r ∷ rows) h =
    both_and (is_before r rows) (rises rows) (before_next r rows h.0) (rises_of rows h.1)

pub in_order : (rows : List Row) → IsTrue (rises rows) ↔ AreInOrder rows
in_order rows = (sorted_of rows, rises_of rows)

-- ---- rows in order are of distinct paths

not_itself : (p : PathValue) → path_cmp p p ≡ Less → ⊥
not_itself p e = false≢true (sym (ap is_eq e) ∙ sym (path_ties p p) ∙ path_refl p)

none_after : (p : PathValue) (rows : List Row) → AreAfter p rows → row_at p rows ≡ None
none_after p [] h = refl
none_after p (r ∷ rows) h = elim (decided (path_eq r.path p)) [
  | inl e ↦ absurd (not_itself p (subst (λ q. path_cmp p q ≡ Less) (same_path r.path p e) h.0))
  | inr e ↦ ap (λ b. if b then Some r else row_at p rows) e ∙ none_after p rows h.1
]

pub distinct : (rows : List Row) → AreInOrder rows → AreDistinct rows
unfolding IsStrictlySortedBy
distinct [] h = tt
distinct (r ∷ rows) h = (none_after r.path rows h.0, distinct rows h.1)

-- ---- rows that undo others

undo_paths : (rows : List Row) → map path_of (undo rows) ≡ map path_of rows
undo_paths [] = refl
undo_paths (r ∷ rows) = ap (λ ps. r.path ∷ ps) (undo_paths rows)

pub undone_in_order : (rows : List Row) → AreInOrder rows → AreInOrder (undo rows)
undone_in_order rows h = subst (IsStrictlySortedBy path_cmp) (sym (undo_paths rows)) h
