-- The steps of a plan put at a path what its row allows.
use Rattle.std.proofs.Common.{◌≡◌, refl, sym, ap, subst, ◌∙◌, ◌⊎◌, inl, inr, List, [], ◌∷◌, ◌++◌}
use Rattle.std.proofs.Common.{Some, None}
use Rattle.std.specs.Prelude.{if◌then◌else◌, Option, ◌||◌, IsTrue}
use Rattle.std.specs.Option.{is_some}
use Rattle.std.proofs.lemmas.Bool.{false≢true}
use Rattle.retro_path.specs.Order.{path_eq}
use Rattle.retro_path.specs.Path.{PathValue}
use Rattle.casebook_folder.specs.Steps.{Contents, Step, step, put, after_steps}
use Rattle.casebook_folder.specs.Rows.{left_at, removal, removals, writing, writings, steps_of}
use Rattle.casebook_folder.specs.Rows.{row_at, AreDistinct}
use Rattle.casebook_folder.specs.Found.{is_missing, changes_kind}
use Rattle.casebook_folder.specs.Moments.{MayHold, IsMoment}
use Rattle.casebook_folder.specs.declared.row.Row.{Row}
use Rattle.casebook_folder.specs.declared.found.Found.{Found}
use Rattle.casebook_folder.specs.declared.found.Found.TheVariants.{Missing}
use Rattle.casebook_folder.proofs.Small.{same_path, path_refl, decided}
use Rattle.casebook_folder.proofs.Effects.{missing_is}

-- what a step may put at a path, by the path's row
abbrev pub MayPut : Option Row → Found → Type 0
MayPut None x = ⊥
MayPut (Some r) x = (x ≡ r.after) ⊎ ((x ≡ Missing) × IsTrue (changes_kind r.before r.after))

abbrev pub AllAllowed : List Row → List Step → Type 0
AllAllowed rows [] = Unit {0}
AllAllowed rows (s ∷ ss) = MayPut (row_at s.path rows) s.found × AllAllowed rows ss

pub allowed-append : (rows : List Row) (xs ys : List Step) → AllAllowed rows xs → AllAllowed rows ys
    → AllAllowed rows (xs ++ ys)
allowed-append rows [] ys h k = k
allowed-append rows (s ∷ xs) ys h k = (h.0, allowed-append rows xs ys h.1 k)

pub allowed_prefix : (rows : List Row) (xs ys : List Step) → AllAllowed rows (xs ++ ys)
    → AllAllowed rows xs
allowed_prefix rows [] ys h = tt
allowed_prefix rows (s ∷ xs) ys h = (h.0, allowed_prefix rows xs ys h.1)

-- the rows of some list are the rows of another
abbrev pub AreAmong : List Row → List Row → Type 0
AreAmong rs rows = (q : PathValue) (r : Row) → row_at q rs ≡ Some r → row_at q rows ≡ Some r

none_some : {A : Type 0} (x : A) → None ≡ Some x → ⊥
none_some x e = false≢true (ap is_some e)

tail_among : (r : Row) (rs rows : List Row) → row_at r.path rs ≡ None → AreAmong (r ∷ rs) rows
    → AreAmong rs rows
tail_among r rs rows d h q x e = elim (decided (path_eq r.path q)) [
  | inl s ↦ absurd (none_some x (sym (subst (λ p. row_at p rs ≡ None) (same_path r.path q s) d) ∙ e))
  | inr s ↦ h q x (ap (λ b. if b then Some r else row_at q rs) s ∙ e)
]

head_among : (r : Row) (rs rows : List Row) → AreAmong (r ∷ rs) rows → row_at r.path rows ≡ Some r
head_among r rs rows h =
    h r.path r (ap (λ b. if b then Some r else row_at r.path rs) (path_refl r.path))

allowed_removal : (rows : List Row) (r : Row) → row_at r.path rows ≡ Some r
    → AllAllowed rows (removal r)
allowed_removal rows r h = elim (decided (is_missing r.after)) [
  | inl m ↦ subst (λ b. AllAllowed rows (if b then step r.path r.before Missing ∷ [] else [])) (sym (ap (λ b. b || changes_kind r.before r.after) m))
      (subst (λ o. MayPut o Missing) (sym h) (inl (sym (missing_is r.after m))), tt)
  | inr m ↦ subst (λ b. AllAllowed rows (if b then step r.path r.before Missing ∷ [] else [])) (sym (ap (λ b. b || changes_kind r.before r.after) m))
      (elim (decided (changes_kind r.before r.after)) [
        | inl k ↦ subst (λ b. AllAllowed rows (if b then step r.path r.before Missing ∷ [] else [])) (sym k)
            (subst (λ o. MayPut o Missing) (sym h) (inr (refl, k)), tt)
        | inr k ↦ subst (λ b. AllAllowed rows (if b then step r.path r.before Missing ∷ [] else [])) (sym k) tt
      ])
]

allowed_writing : (rows : List Row) (r : Row) → row_at r.path rows ≡ Some r
    → AllAllowed rows (writing r)
allowed_writing rows r h = elim (decided (is_missing r.after)) [
  | inl m ↦ subst (λ b. AllAllowed rows (if b then [] else step r.path (left_at r) r.after ∷ [])) (sym m) tt
  | inr m ↦ subst (λ b. AllAllowed rows (if b then [] else step r.path (left_at r) r.after ∷ [])) (sym m)
      (subst (λ o. MayPut o r.after) (sym h) (inl refl), tt)
]

allowed_removals : (rows rs : List Row) → AreDistinct rs → AreAmong rs rows
    → AllAllowed rows (removals rs)
allowed_removals rows [] d h = tt
allowed_removals rows (r ∷ rs) d h =
    allowed-append rows (removals rs) (removal r)
    (allowed_removals rows rs d.1 (tail_among r rs rows d.0 h))
    (allowed_removal rows r (head_among r rs rows h))

allowed_writings : (rows rs : List Row) → AreDistinct rs → AreAmong rs rows
    → AllAllowed rows (writings rs)
allowed_writings rows [] d h = tt
allowed_writings rows (r ∷ rs) d h =
    allowed-append rows (writing r) (writings rs)
    (allowed_writing rows r (head_among r rs rows h))
    (allowed_writings rows rs d.1 (tail_among r rs rows d.0 h))

pub all_allowed : (rows : List Row) → AreDistinct rows → AllAllowed rows (steps_of rows)
all_allowed rows d = allowed-append rows (removals rows) (writings rows)
    (allowed_removals rows rows d (λ q r e. e)) (allowed_writings rows rows d (λ q r e. e))

holds_put : (o : Option Row) (x y : Found) → MayPut o y → MayHold o x y
holds_put None x y h = absurd h
holds_put (Some r) x y (inl e) = inr (inl e)
holds_put (Some r) x y (inr e) = inr (inr e)

pub kept : (o : Option Row) (x : Found) → MayHold o x x
kept None x = refl
kept (Some r) x = inl refl

moment_put : (rows : List Row) (f g : Contents) (s : Step) → MayPut (row_at s.path rows) s.found
    → IsMoment rows f g → IsMoment rows f (put s.path s.found g)
moment_put rows f g s h m q = elim (decided (path_eq s.path q)) [
  | inl e ↦ subst (MayHold (row_at q rows) (f q)) (sym (ap (λ b. if b then s.found else g q) e))
      (holds_put (row_at q rows) (f q) s.found (subst (λ p. MayPut (row_at p rows) s.found) (same_path s.path q e) h))
  | inr e ↦ subst (MayHold (row_at q rows) (f q)) (sym (ap (λ b. if b then s.found else g q) e)) (m q)
]

moments : (rows : List Row) (ss : List Step) (f g : Contents) → AllAllowed rows ss
    → IsMoment rows f g → IsMoment rows f (after_steps ss g)
moments rows [] f g h m = m
moments rows (s ∷ ss) f g h m =
    moments rows ss f (put s.path s.found g) h.1 (moment_put rows f g s h.0 m)

-- after each prefix of the steps each path holds its old or its new node, or nothing while its
-- kind changes
pub any_moment : (rows : List Row) (f : Contents) (done left : List Step) → AreDistinct rows
    → steps_of rows ≡ done ++ left → IsMoment rows f (after_steps done f)
any_moment rows f done left d e =
    moments rows done f f (allowed_prefix rows done left (subst (AllAllowed rows) e (all_allowed rows d))) (λ q. kept (row_at q rows) (f q))
