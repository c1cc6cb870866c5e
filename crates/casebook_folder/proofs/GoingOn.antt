-- What is left of a plan, and what undoes it.
use Rattle.std.proofs.Common.{◌≡◌, true, false, refl, sym, ap, subst, ◌∙◌, inl, inr, List, [], ◌∷◌}
use Rattle.std.proofs.Common.{◌++◌, Some, None}
use Rattle.std.specs.Prelude.{if◌then◌else◌, Option, IsTrue, ◌||◌, ◌⊎◌}
use Rattle.std.proofs.lemmas.Bool.{false≢true}
use Rattle.retro_path.specs.Order.{path_eq}
use Rattle.retro_path.specs.Path.{PathValue}
use Rattle.casebook_folder.specs.Steps.{Contents, Step, after_steps}
use Rattle.casebook_folder.specs.Found.{found_eq, changes_kind, is_missing}
use Rattle.casebook_folder.specs.Rows.{row_at, AreDistinct, steps_of}
use Rattle.casebook_folder.specs.Moments.{MayHold, IsMoment, node_after, IsRestored}
use Rattle.casebook_folder.specs.Remaining.{row_from, remaining_rows, swapped_row, undo, IsSeen}
use Rattle.casebook_folder.specs.Remaining.{Sees}
use Rattle.casebook_folder.specs.Remaining.{can_go_on, CanGoOn, MayGoOn}
use Rattle.casebook_folder.specs.declared.row.Row.{Row}
use Rattle.casebook_folder.specs.declared.found.Found.{Found}
use Rattle.casebook_folder.specs.declared.found.Found.TheVariants.{Missing, Dir, File, Blocked}
use Rattle.casebook_folder.proofs.Small.{decided, either_or, same_path}
use Rattle.casebook_folder.proofs.Sames.{found_same}
use Rattle.casebook_folder.proofs.Effects.{restored, missing_is}
use Rattle.casebook_folder.proofs.Allowed.{any_moment}

-- the row that is left of one, by what its path holds
abbrev pub left_of : Option Row → Found → Option Row
left_of None x = None
left_of (Some r) x = if found_eq x r.after then None else Some (row_from r x)

none_left : (r : Row) (rs : List Row) (q : PathValue) → path_eq r.path q ≡ true
    → row_at r.path rs ≡ None → row_at q rs ≡ None
none_left r rs q e h = subst (λ p. row_at p rs ≡ None) (same_path r.path q e) h

-- the row of a path in what is left
pub remaining_at : (rows : List Row) (g : Contents) (q : PathValue) → AreDistinct rows
    → row_at q (remaining_rows rows g) ≡ left_of (row_at q rows) (g q)
remaining_at [] g q d = refl
remaining_at (r ∷ rs) g q d = elim (decided (path_eq r.path q)) [
  | inl e ↦ elim (decided (found_eq (g r.path) r.after)) [
    | inl s ↦ ap (λ b. row_at q (if b then remaining_rows rs g else row_from r (g r.path) ∷ remaining_rows rs g)) s
        ∙ remaining_at rs g q d.1
        ∙ ap (λ o. left_of o (g q)) (none_left r rs q e d.0)
        ∙ sym (ap (λ b. if b then None else Some (row_from r (g q))) (subst (λ p. found_eq (g p) r.after ≡ true) (same_path r.path q e) s))
        ∙ sym (ap (λ b. left_of (if b then Some r else row_at q rs) (g q)) e)
    | inr s ↦ ap (λ b. row_at q (if b then remaining_rows rs g else row_from r (g r.path) ∷ remaining_rows rs g)) s
        ∙ ap (λ b. if b then Some (row_from r (g r.path)) else row_at q (remaining_rows rs g)) e
        ∙ ap (λ p. Some (row_from r (g p))) (same_path r.path q e)
        ∙ sym (ap (λ b. if b then None else Some (row_from r (g q))) (subst (λ p. found_eq (g p) r.after ≡ false) (same_path r.path q e) s))
        ∙ sym (ap (λ b. left_of (if b then Some r else row_at q rs) (g q)) e)
  ]
  | inr e ↦ elim (decided (found_eq (g r.path) r.after)) [
    | inl s ↦ ap (λ b. row_at q (if b then remaining_rows rs g else row_from r (g r.path) ∷ remaining_rows rs g)) s
        ∙ remaining_at rs g q d.1
        ∙ sym (ap (λ b. left_of (if b then Some r else row_at q rs) (g q)) e)
    | inr s ↦ ap (λ b. row_at q (if b then remaining_rows rs g else row_from r (g r.path) ∷ remaining_rows rs g)) s
        ∙ ap (λ b. if b then Some (row_from r (g r.path)) else row_at q (remaining_rows rs g)) e
        ∙ remaining_at rs g q d.1
        ∙ sym (ap (λ b. left_of (if b then Some r else row_at q rs) (g q)) e)
  ]
]

pub none_stays : (rows : List Row) (g : Contents) (q : PathValue) → AreDistinct rows
    → row_at q rows ≡ None → row_at q (remaining_rows rows g) ≡ None
none_stays rows g q d e = remaining_at rows g q d ∙ ap (λ o. left_of o (g q)) e

pub remaining_distinct : (rows : List Row) (g : Contents) → AreDistinct rows
    → AreDistinct (remaining_rows rows g)
remaining_distinct [] g d = tt
remaining_distinct (r ∷ rs) g d = elim (decided (found_eq (g r.path) r.after)) [
  | inl s ↦ subst (λ b. AreDistinct (if b then remaining_rows rs g else row_from r (g r.path) ∷ remaining_rows rs g)) (sym s) (remaining_distinct rs g d.1)
  | inr s ↦ subst (λ b. AreDistinct (if b then remaining_rows rs g else row_from r (g r.path) ∷ remaining_rows rs g)) (sym s)
      (none_stays rs g r.path d.1 d.0, remaining_distinct rs g d.1)
]

wanted_left : (o : Option Row) (x : Found) → node_after (left_of o x) x ≡ node_after o x
wanted_left None x = refl
wanted_left (Some r) x = elim (decided (found_eq x r.after)) [
  | inl s ↦ ap (λ b. node_after (if b then None else Some (row_from r x)) x) s ∙ found_same x r.after s
  | inr s ↦ ap (λ b. node_after (if b then None else Some (row_from r x)) x) s
]

wanted_moment : (o : Option Row) (x y : Found) → MayHold o x y → node_after o y ≡ node_after o x
wanted_moment None x y h = h
wanted_moment (Some r) x y h = refl

-- what is left restores as the whole does
pub rest_restores : (rows : List Row) (g : Contents) → AreDistinct rows
    → IsRestored rows g (after_steps (steps_of (remaining_rows rows g)) g)
rest_restores rows g d q =
    restored (remaining_rows rows g) g (remaining_distinct rows g d) q
    ∙ ap (λ o. node_after o (g q)) (remaining_at rows g q d)
    ∙ wanted_left (row_at q rows) (g q)

pub goes_on : (rows : List Row) (f g : Contents) → AreDistinct rows → IsMoment rows f g
    → IsRestored rows f (after_steps (steps_of (remaining_rows rows g)) g)
goes_on rows f g d m q = rest_restores rows g d q ∙ wanted_moment (row_at q rows) (f q) (g q) (m q)

-- ---- moments of what is left

kind_of_missing : (x y : Found) → x ≡ Missing → IsTrue (changes_kind x y) → ⊥
kind_of_missing x y e h = false≢true (ap (λ z. changes_kind z y) (sym e) ∙ h)

same_kind : (x : Found) → IsTrue (changes_kind x x) → ⊥
same_kind Missing h = false≢true h
same_kind (Dir a) h = false≢true h
same_kind (File a b) h = false≢true h
same_kind (Blocked o) h = false≢true h

kinds_swap : (x y : Found) → IsTrue (changes_kind x y) → IsTrue (changes_kind y x)
kinds_swap Missing y h = absurd (false≢true h)
kinds_swap (Dir a) Missing h = absurd (false≢true h)
kinds_swap (Dir a) (Dir b) h = absurd (false≢true h)
kinds_swap (Dir a) (File c b) h = refl
kinds_swap (Dir a) (Blocked o) h = absurd (false≢true h)
kinds_swap (File c a) Missing h = absurd (false≢true h)
kinds_swap (File c a) (Dir b) h = refl
kinds_swap (File c a) (File d b) h = absurd (false≢true h)
kinds_swap (File c a) (Blocked o) h = absurd (false≢true h)
kinds_swap (Blocked o) y h = absurd (false≢true h)

-- what a path can hold while its row is carried out, in three cases
abbrev pub IsBegun : Option Row → Found → Type 0
IsBegun None x = Unit {0}
IsBegun (Some r) x = (x ≡ r.after) ⊎ (x ≡ r.before) ⊎ (x ≡ Missing)

abbrev pub AreBegun : List Row → Contents → Type 0
AreBegun rows g = (q : PathValue) → IsBegun (row_at q rows) (g q)

begun_row : (r : Row) (x : Found) → IsTrue (can_go_on r x) → IsBegun (Some r) x
begun_row r x h = elim (either_or (found_eq x r.after) (found_eq x r.before || is_missing x) h) [
  | inl e ↦ inl (found_same x r.after e)
  | inr e ↦ elim (either_or (found_eq x r.before) (is_missing x) e) [
    | inl k ↦ inr (inl (found_same x r.before k))
    | inr k ↦ inr (inr (missing_is x k))
  ]
]

begun_or_none : (o : Option Row) (x : Found) → CanGoOn o x → IsBegun o x
begun_or_none None x h = tt
begun_or_none (Some r) x h = begun_row r x h

pub are_begun : (rows : List Row) (g : Contents) → MayGoOn rows g → AreBegun rows g
are_begun rows g h q = begun_or_none (row_at q rows) (g q) (h q)

-- what a moment of a row that is left holds, of the row itself
left_holds : (r : Row) (x y : Found) → IsBegun (Some r) x → MayHold (Some (row_from r x)) x y
    → MayHold (Some r) x y
left_holds r x y b (inl e) = inl e
left_holds r x y b (inr (inl e)) = inr (inl e)
left_holds r x y (inl e) (inr (inr h)) =
    absurd (same_kind r.after (subst (λ z. IsTrue (changes_kind z r.after)) e h.1))
left_holds r x y (inr (inl e)) (inr (inr h)) =
    inr (inr (h.0, subst (λ z. IsTrue (changes_kind z r.after)) e h.1))
left_holds r x y (inr (inr e)) (inr (inr h)) = absurd (kind_of_missing x r.after e h.1)

holds_left : (o : Option Row) (x y : Found) → IsBegun o x → MayHold (left_of o x) x y
    → MayHold o x y
holds_left None x y b h = h
holds_left (Some r) x y b h = elim (decided (found_eq x r.after)) [
  | inl s ↦ inl (subst (λ c. MayHold (if c then None else Some (row_from r x)) x y) s h)
  | inr s ↦ left_holds r x y b (subst (λ c. MayHold (if c then None else Some (row_from r x)) x y) s h)
]

-- each moment of what is left is one of the rows, from where it begins
pub rest_moments : (rows : List Row) (g : Contents) (done left : List Step) → AreDistinct rows
    → AreBegun rows g
    → steps_of (remaining_rows rows g) ≡ done ++ left → IsMoment rows g (after_steps done g)
rest_moments rows g done left d b e q =
    holds_left (row_at q rows) (g q) (after_steps done g q) (b q)
    (subst (λ o. MayHold o (g q) (after_steps done g q)) (remaining_at rows g q d)
    (any_moment (remaining_rows rows g) g done left (remaining_distinct rows g d) e q))

begun_by : (o : Option Row) (x y : Found) → IsSeen o x → MayHold o x y → IsBegun o y
begun_by None x y s h = tt
begun_by (Some r) x y s (inl e) = inr (inl (e ∙ s))
begun_by (Some r) x y s (inr (inl e)) = inl e
begun_by (Some r) x y s (inr (inr h)) = inr (inr h.0)

then_holds : (o : Option Row) (x y z : Found) → IsSeen o x → MayHold o x y → MayHold o y z
    → MayHold o x z
then_holds None x y z s h k = k ∙ h
then_holds (Some r) x y z s h (inr k) = inr k
then_holds (Some r) x y z s (inl e) (inl k) = inl (k ∙ e)
then_holds (Some r) x y z s (inr (inl e)) (inl k) = inr (inl (k ∙ e))
then_holds (Some r) x y z s (inr (inr h)) (inl k) = inr (inr (k ∙ h.0, h.1))

pub goes_on_moments : (rows : List Row) (f g : Contents) (done left : List Step) → AreDistinct rows
    → Sees rows f → IsMoment rows f g
    → steps_of (remaining_rows rows g) ≡ done ++ left → IsMoment rows f (after_steps done g)
goes_on_moments rows f g done left d s m e q =
    then_holds (row_at q rows) (f q) (g q) (after_steps done g q) (s q) (m q)
    (rest_moments rows g done left d (λ p. begun_by (row_at p rows) (f p) (g p) (s p) (m p)) e q)

-- ---- undoing

abbrev pub swapped_of : Option Row → Option Row
swapped_of None = None
swapped_of (Some r) = Some (swapped_row r)

undo_at : (rows : List Row) (q : PathValue) → row_at q (undo rows) ≡ swapped_of (row_at q rows)
undo_at [] q = refl
undo_at (r ∷ rs) q = elim (decided (path_eq r.path q)) [
  | inl e ↦ ap (λ b. if b then Some (swapped_row r) else row_at q (undo rs)) e ∙ sym (ap (λ b. swapped_of (if b then Some r else row_at q rs)) e)
  | inr e ↦ ap (λ b. if b then Some (swapped_row r) else row_at q (undo rs)) e ∙ undo_at rs q ∙ sym (ap (λ b. swapped_of (if b then Some r else row_at q rs)) e)
]

undo_distinct : (rows : List Row) → AreDistinct rows → AreDistinct (undo rows)
undo_distinct [] d = tt
undo_distinct (r ∷ rs) d = (undo_at rs r.path ∙ ap swapped_of d.0, undo_distinct rs d.1)

wanted_back : (o : Option Row) (x y : Found) → IsSeen o x → MayHold o x y
    → node_after (swapped_of o) y ≡ x
wanted_back None x y s h = h
wanted_back (Some r) x y s h = sym s

pub undone : (rows : List Row) (f g : Contents) → AreDistinct rows → Sees rows f → IsMoment rows f g
    → (q : PathValue) → after_steps (steps_of (remaining_rows (undo rows) g)) g q ≡ f q
undone rows f g d s m q =
    rest_restores (undo rows) g (undo_distinct rows d) q
    ∙ ap (λ o. node_after o (g q)) (undo_at rows q)
    ∙ wanted_back (row_at q rows) (f q) (g q) (s q) (m q)

begun_back : (o : Option Row) (x y : Found) → IsSeen o x → MayHold o x y → IsBegun (swapped_of o) y
begun_back None x y s h = tt
begun_back (Some r) x y s (inl e) = inl (e ∙ s)
begun_back (Some r) x y s (inr (inl e)) = inr (inl e)
begun_back (Some r) x y s (inr (inr h)) = inr (inr h.0)

then_back : (o : Option Row) (x y z : Found) → IsSeen o x → MayHold o x y
    → MayHold (swapped_of o) y z → MayHold o x z
then_back None x y z s h k = k ∙ h
then_back (Some r) x y z s (inl e) (inl k) = inl (k ∙ e)
then_back (Some r) x y z s (inr (inl e)) (inl k) = inr (inl (k ∙ e))
then_back (Some r) x y z s (inr (inr h)) (inl k) = inr (inr (k ∙ h.0, h.1))
then_back (Some r) x y z s h (inr (inl k)) = inl (k ∙ sym s)
then_back (Some r) x y z s h (inr (inr k)) = inr (inr (k.0, kinds_swap r.after r.before k.1))

pub undone_moments : (rows : List Row) (f g : Contents) (done left : List Step) → AreDistinct rows
    → Sees rows f → IsMoment rows f g
    → steps_of (remaining_rows (undo rows) g) ≡ done ++ left → IsMoment rows f (after_steps done g)
undone_moments rows f g done left d s m e q =
    then_back (row_at q rows) (f q) (g q) (after_steps done g q) (s q) (m q)
    (subst (λ o. MayHold o (g q) (after_steps done g q)) (undo_at rows q)
    (rest_moments (undo rows) g done left (undo_distinct rows d)
    (λ p. subst (λ o. IsBegun o (g p)) (sym (undo_at rows p)) (begun_back (row_at p rows) (f p) (g p) (s p) (m p))) e q))
