-- What is left of a plan, row by row.
use Rattle.std.proofs.Common.{◌≡◌, ℕ, ◌+◌, ◌<◌, Bool, true, false, refl, sym, ap, subst, ◌∙◌, inl}
use Rattle.std.proofs.Common.{inr, List, [], ◌∷◌, ◌++◌, Some, None, length, get_or, append_assoc}
use Rattle.std.proofs.Common.{append-nil}
use Rattle.std.specs.Prelude.{if◌then◌else◌, Option, IfSome, Result, Ok, Err, OnOk, OnErr}
use Rattle.std.proofs.Math.ListN.{drop}
use Rattle.std.proofs.lemmas.List.{drop_more, append_cancel_left}
use Rattle.std.proofs.lemmas.Bool.{false≢true}
use Rattle.retro_path.specs.Order.{path_eq}
use Rattle.casebook_folder.specs.Steps.{Contents, Step, after_steps}
use Rattle.casebook_folder.specs.Found.{found_eq}
use Rattle.casebook_folder.specs.Rows.{row_at, AreDistinct, steps_of}
use Rattle.casebook_folder.specs.inner.Prefix.{MakesPrefix}
use Rattle.casebook_folder.specs.Moments.{IsMoment, IsRestored}
use Rattle.casebook_folder.specs.Remaining.{row_from, remaining_rows, CanGoOn, MayGoOn, EachMoment}
use Rattle.casebook_folder.specs.declared.row.Row.{Row}
use Rattle.casebook_folder.specs.declared.found.Found.{Found}
use Rattle.casebook_folder.proofs.Small.{same_path, decided}
use Rattle.casebook_folder.proofs.Effects.{after-append}
use Rattle.casebook_folder.proofs.Allowed.{kept}
use Rattle.casebook_folder.proofs.GoingOn.{rest_restores, rest_moments, are_begun}

pub both_some : {A : Type 0} (o : Option A) {P Q R : A → Type 0} → IfSome o P → IfSome o Q
    → ((a : A) → P a → Q a → R a) → IfSome o R
both_some None p q f = tt
both_some (Some a) p q f = f a p q

one_more : (r : Row) (rs : List Row) (g : Contents)
    → remaining_rows (r ∷ rs) g ≡ remaining_rows (r ∷ []) g ++ remaining_rows rs g
one_more r rs g = elim (decided (found_eq (g r.path) r.after)) [
  | inl s ↦ ap (λ b. if b then remaining_rows rs g else row_from r (g r.path) ∷ remaining_rows rs g) s
      ∙ sym (ap (λ b. (if b then [] else row_from r (g r.path) ∷ []) ++ remaining_rows rs g) s)
  | inr s ↦ ap (λ b. if b then remaining_rows rs g else row_from r (g r.path) ∷ remaining_rows rs g) s
      ∙ sym (ap (λ b. (if b then [] else row_from r (g r.path) ∷ []) ++ remaining_rows rs g) s)
]

-- each row's path holds what it had, what it is to have, or nothing
abbrev pub AllBegun : List Row → Contents → Type 0
AllBegun [] g = Unit {0}
AllBegun (r ∷ rs) g = CanGoOn (Some r) (g r.path) × AllBegun rs g

pub all_begun : (rows : List Row) (g : Contents) → AllBegun rows g → MayGoOn rows g
all_begun [] g h q = tt
all_begun (r ∷ rs) g h q = elim (decided (path_eq r.path q)) [
  | inl e ↦ subst (λ b. CanGoOn (if b then Some r else row_at q rs) (g q)) (sym e) (subst (λ p. CanGoOn (Some r) (g p)) (same_path r.path q e) h.0)
  | inr e ↦ subst (λ b. CanGoOn (if b then Some r else row_at q rs) (g q)) (sym e) (all_begun rs g h.1 q)
]

-- what a loop over the rows keeps, for one first contents
pub record Along (rows left : List Row) (k : ℕ) (g : Contents) : Type 0 where
  pub rest : left ++ remaining_rows (drop k rows) g ≡ remaining_rows rows g
  pub begun : AllBegun (drop k rows) g → AllBegun rows g

pub along_next : (rows left new : List Row) (k : ℕ) (r : Row) (g : Contents) → k < length rows
    → get_or rows k r ≡ r
    → Along rows left k g → (new ≡ left ++ remaining_rows (r ∷ []) g) × CanGoOn (Some r) (g r.path)
    → Along rows new (k + 1) g
along_next rows left new k r g within is a h =
    let next = drop_more rows k r within ∙ ap (λ x. x ∷ drop (k + 1) rows) is in
    record {
      rest = ap (λ x. x ++ remaining_rows (drop (k + 1) rows) g) h.0
          ∙ append_assoc left (remaining_rows (r ∷ []) g) (remaining_rows (drop (k + 1) rows) g)
          ∙ ap (λ x. left ++ x) (sym (one_more r (drop (k + 1) rows) g) ∙ sym (ap (λ x. remaining_rows x g) next))
          ∙ a.rest;
      begun = λ b. a.begun (subst (λ x. AllBegun x g) (sym next) (h.1, b));
    }

pub along_end : (rows left : List Row) (g : Contents) (k : ℕ) → drop k rows ≡ []
    → Along rows left k g → (left ≡ remaining_rows rows g) × MayGoOn rows g
along_end rows left g k e a = (
  sym (append-nil left) ∙ sym (ap (λ x. left ++ remaining_rows x g) e) ∙ a.rest,
  all_begun rows g (a.begun (subst (λ x. AllBegun x g) (sym e) tt)),
)

-- ---- a row that is done, and one that is left

pub nothing_more : (r : Row) (x : Found) (g : Contents) (left : List Row) → x ≡ g r.path
    → found_eq x r.after ≡ true
    → (left ≡ left ++ remaining_rows (r ∷ []) g)
nothing_more r x g left e s =
    sym (append-nil left) ∙ sym (ap (λ b. left ++ (if b then [] else row_from r (g r.path) ∷ [])) (subst (λ z. found_eq z r.after ≡ true) e s))

pub one_left : (r : Row) (x : Found) (g : Contents) (left new : List Row) → x ≡ g r.path
    → found_eq x r.after ≡ false
    → new ≡ left ++ row_from r x ∷ [] → new ≡ left ++ remaining_rows (r ∷ []) g
one_left r x g left new e s h =
    h ∙ ap (λ z. left ++ row_from r z ∷ []) e
    ∙ sym (ap (λ b. left ++ (if b then [] else row_from r (g r.path) ∷ [])) (subst (λ z. found_eq z r.after ≡ false) e s))

-- ---- the whole

pub restores : (rows left : List Row) (first : Contents) (old new : List Step) → AreDistinct rows
    → left ≡ remaining_rows rows (after_steps old first) → new ≡ old ++ steps_of left
    → IsRestored rows (after_steps old first) (after_steps new first)
restores rows left first old new d e h q =
    ap (λ s. after_steps s first q) (h ∙ ap (λ l. old ++ steps_of l) e)
    ∙ ap (λ f. f q) (after-append old (steps_of (remaining_rows rows (after_steps old first))) first)
    ∙ rest_restores rows (after_steps old first) d q

-- a call that made a prefix of what is left
pub prefix_moments : (rows left : List Row) (first : Contents) (old new : List Step)
    → AreDistinct rows → MayGoOn rows (after_steps old first)
    → left ≡ remaining_rows rows (after_steps old first) → MakesPrefix (steps_of left) old new
    → EachMoment rows first old new
prefix_moments rows left first old new d b e f done rest h =
    let g = after_steps old first in
    let parts = append_cancel_left old f.done (done ++ rest) (sym f.made ∙ h) in
    let all = sym (ap steps_of e) ∙ f.all ∙ ap (λ x. x ++ f.left) parts ∙ append_assoc done rest f.left in
    subst (λ z. IsMoment rows g z) (sym (after-append old done first)) (rest_moments rows g done (rest ++ f.left) d (are_begun rows g b) all)

is_nil : List Step → Bool
is_nil [] = true
is_nil (s ∷ ss) = false

nil_prefix : (xs ys : List Step) → xs ++ ys ≡ [] → xs ≡ []
unfolding is_nil
nil_prefix [] ys e = refl
nil_prefix (x ∷ xs) ys e = absurd (false≢true (ap is_nil e))

pub nothing_made : (rows : List Row) (first : Contents) (old new : List Step) → new ≡ old
    → EachMoment rows first old new
nothing_made rows first old new e done rest h =
    let none = nil_prefix done rest (append_cancel_left old (done ++ rest) [] (sym h ∙ e ∙ sym (append-nil old))) in
    subst (λ z. IsMoment rows (after_steps old first) z)
    (sym (ap (λ x. after_steps (old ++ x) first) none ∙ ap (λ x. after_steps x first) (append-nil old)))
    (λ q. kept (row_at q rows) (after_steps old first q))

-- a call that made all that is left
pub all_moments : (rows left : List Row) (first : Contents) (old new : List Step)
    → AreDistinct rows → MayGoOn rows (after_steps old first)
    → left ≡ remaining_rows rows (after_steps old first) → new ≡ old ++ steps_of left
    → EachMoment rows first old new
all_moments rows left first old new d b e h =
    prefix_moments rows left first old new d b e (record { done = steps_of left; left = []; all = sym (append-nil (steps_of left)); made = h })

pub either_moments : {T E : Type 0} (r : Result T E) (rows left : List Row) (first : Contents) (old new : List Step) → AreDistinct rows
    → MayGoOn rows (after_steps old first) → left ≡ remaining_rows rows (after_steps old first)
    → OnOk r (new ≡ old ++ steps_of left) → OnErr r (MakesPrefix (steps_of left) old new)
    → EachMoment rows first old new
either_moments (Ok v) rows left first old new d b e ok err =
    all_moments rows left first old new d b e ok
either_moments (Err x) rows left first old new d b e ok err =
    prefix_moments rows left first old new d b e err

pub some_always : {A : Type 0} (o : Option A) {P : A → Type 0} → ((a : A) → P a) → IfSome o P
some_always None f = tt
some_always (Some a) f = f a
