-- Steps are at paths of rows that a folder still needs, so at none that is blocked.
use Rattle.std.proofs.Common.{◌≡◌, true, false, refl, sym, ap, subst, ◌∙◌, List, [], ◌∷◌}
use Rattle.std.proofs.Common.{◌++◌, Some, None, append-nil}
use Rattle.std.specs.Prelude.{Option, IsTrue, Result, Ok, Err, OnOk, OnErr}
use Rattle.std.proofs.lemmas.List.{append_cancel_left}
use Rattle.std.proofs.lemmas.Bool.{false≢true}
use Rattle.casebook_folder.specs.Found.{is_blocked}
use Rattle.casebook_folder.specs.Steps.{Contents, Step, after_steps}
use Rattle.casebook_folder.specs.Rows.{row_at, AreDistinct, steps_of}
use Rattle.casebook_folder.specs.Remaining.{remaining_rows, can_go_on, CanGoOn, MayGoOn, MayTouch}
use Rattle.casebook_folder.specs.Remaining.{AllTouch, TouchesOnly}
use Rattle.casebook_folder.specs.inner.Prefix.{MakesPrefix}
use Rattle.casebook_folder.specs.declared.row.Row.{Row}
use Rattle.casebook_folder.specs.declared.found.Found.{Found}
use Rattle.casebook_folder.specs.declared.found.Found.TheVariants.{Missing, Dir, File, Blocked}
use Rattle.casebook_folder.proofs.Allowed.{MayPut, AllAllowed, all_allowed, allowed_prefix}
use Rattle.casebook_folder.proofs.GoingOn.{left_of, remaining_at, remaining_distinct}

not_blocked : (r : Row) (x : Found) → IsTrue (can_go_on r x) → is_blocked x ≡ false
not_blocked r Missing h = refl
not_blocked r (Dir a) h = refl
not_blocked r (File x a) h = refl
not_blocked r (Blocked o) h = absurd (false≢true h)

may_touch : (o : Option Row) (x y : Found) → CanGoOn o x → MayPut (left_of o x) y → MayTouch o x
may_touch None x y h put = put
may_touch (Some r) x y h put = not_blocked r x h

all_touch : (rows : List Row) (g : Contents) (ss : List Step) → AreDistinct rows → MayGoOn rows g
    → AllAllowed (remaining_rows rows g) ss → AllTouch rows g ss
all_touch rows g [] d h put = tt
all_touch rows g (s ∷ ss) d h put = (
  may_touch (row_at s.path rows) (g s.path) s.found (h s.path)
      (subst (λ o. MayPut o s.found) (remaining_at rows g s.path d) put.0),
  all_touch rows g ss d h put.1,
)

-- a call that made a prefix of what is left
prefix_touches : (rows left : List Row) (first : Contents) (old new : List Step) → AreDistinct rows
    → MayGoOn rows (after_steps old first) → left ≡ remaining_rows rows (after_steps old first)
    → MakesPrefix (steps_of left) old new → TouchesOnly rows first old new
prefix_touches rows left first old new d b e f made h =
    let g = after_steps old first in
    let same = append_cancel_left old f.done made (sym f.made ∙ h) in
    let all = all_allowed (remaining_rows rows g) (remaining_distinct rows g d) in
    all_touch rows g made d b (subst (AllAllowed (remaining_rows rows g)) same
    (allowed_prefix (remaining_rows rows g) f.done f.left
    (subst (AllAllowed (remaining_rows rows g)) (sym (ap steps_of e) ∙ f.all) all)))

pub either_touches : {T E : Type 0} (r : Result T E) (rows left : List Row) (first : Contents) (old new : List Step)
    → AreDistinct rows → MayGoOn rows (after_steps old first)
    → left ≡ remaining_rows rows (after_steps old first)
    → OnOk r (new ≡ old ++ steps_of left) → OnErr r (MakesPrefix (steps_of left) old new)
    → TouchesOnly rows first old new
either_touches (Ok v) rows left first old new d b e ok err =
    prefix_touches rows left first old new d b e
    (record { done = steps_of left; left = []; all = sym (append-nil (steps_of left)); made = ok })
either_touches (Err x) rows left first old new d b e ok err =
    prefix_touches rows left first old new d b e err

pub nothing_touched : (rows : List Row) (first : Contents) (old new : List Step) → new ≡ old
    → TouchesOnly rows first old new
nothing_touched rows first old new e made h =
    subst (AllTouch rows (after_steps old first))
    (sym (append_cancel_left old made [] (sym h ∙ e ∙ sym (append-nil old)))) tt
