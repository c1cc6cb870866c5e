-- Plans, path by path.
use Rattle.std.proofs.Common.{◌≡◌, ℕ, ◌+◌, ◌<◌, Bool, true, false, ◌&&◌, refl, sym, ap, subst, ◌∙◌}
use Rattle.std.proofs.Common.{List, [], ◌∷◌, ◌++◌, map, length, get_or, append_assoc, append-nil}
use Rattle.std.proofs.Common.{inl, inr, Some, IsTrue}
use Rattle.std.specs.Prelude.{if◌then◌else◌}
use Rattle.std.specs.List.{AllByRecursion, filter, list_all}
use Rattle.std.proofs.Math.ListN.{drop}
use Rattle.std.proofs.lemmas.List.{drop_more}
use Rattle.retro_path.specs.Order.{path_eq}
use Rattle.retro_path.specs.Path.{PathValue}
use Rattle.retro_tree.specs.Tree.{Tree}
use Rattle.casebook_folder.specs.Steps.{Contents}
use Rattle.casebook_folder.specs.Changes.{change_of, differs, state_of, wanted_of}
use Rattle.casebook_folder.specs.Plans.{AreSeenRows, IsPlan, IsPlanned, IsSeenRow, planned_path}
use Rattle.casebook_folder.specs.Plans.{ready_rows, row_of, is_ready_row, can_be_restored}
use Rattle.casebook_folder.specs.Plans.{fits_change}
use Rattle.casebook_folder.specs.Found.{found_eq}
use Rattle.casebook_folder.specs.States.{is_ready}
use Rattle.casebook_folder.specs.Rows.{row_at}
use Rattle.casebook_folder.specs.Remaining.{IsSeen, Sees}
use Rattle.casebook_folder.proofs.Small.{decided, first_and, last_and, same_path}
use Rattle.casebook_folder.proofs.Sames.{found_same}
use Rattle.casebook_folder.specs.inner.Planning.{AppendsPlan, AppendsSeen, HasState}
use Rattle.casebook_folder.specs.declared.change.Change.{Change}
use Rattle.casebook_folder.specs.declared.row.Row.{Row}
use Rattle.casebook_folder.specs.declared.given.GivenAttributes.{GivenAttributes}
use Rattle.casebook_folder.specs.declared.planned_row.PlannedRow.{PlannedRow}

all_append : {A : Type 0} (P : A → Type 0) (xs ys : List A) → AllByRecursion P xs
    → AllByRecursion P ys → AllByRecursion P (xs ++ ys)
all_append P [] ys h k = k
all_append P (x ∷ xs) ys h k = (h.0, all_append P xs ys h.1 k)

map_append : {A B : Type 0} (f : A → B) (xs ys : List A) → map f (xs ++ ys) ≡ map f xs ++ map f ys
map_append f [] ys = refl
map_append f (x ∷ xs) ys = ap (λ zs. f x ∷ zs) (map_append f xs ys)

first_kept : (test : PathValue → Bool) (p : PathValue) (ps : List PathValue)
    → filter test (p ∷ ps) ≡ filter test (p ∷ []) ++ filter test ps
first_kept test p ps = elim (test p) as (λ b. (if b then p ∷ filter test ps else filter test ps)
    ≡ (if b then p ∷ [] else []) ++ filter test ps) [ true ↦ refl | false ↦ refl ]

more_planned : (a b : Tree) (g : GivenAttributes) (p : PathValue) (ps : List PathValue) (xs ys : List PlannedRow)
    → IsPlan a b g (p ∷ []) xs → IsPlan a b g ps ys → IsPlan a b g (p ∷ ps) (xs ++ ys)
more_planned a b g p ps xs ys h k = record {
  exact = map_append planned_path xs ys
      ∙ ap (λ zs. zs ++ map planned_path ys) h.exact
      ∙ ap (λ zs. filter (differs a b) (p ∷ []) ++ zs) k.exact
      ∙ sym (first_kept (differs a b) p ps);
  planned = all_append (IsPlanned a b g) xs ys h.planned k.planned;
}

-- what a loop over the paths keeps: the plan of the rest completes the plan
abbrev pub Along : Tree → Tree → GivenAttributes → List PathValue → ℕ → List PlannedRow → Type 0
Along a b g paths k rows =
    (more : List PlannedRow) → IsPlan a b g (drop k paths) more → IsPlan a b g paths (rows ++ more)

pub along_first : (a b : Tree) (g : GivenAttributes) (paths : List PathValue)
    → Along a b g paths 0 []
along_first a b g paths more h = h

pub along_next : (a b : Tree) (g : GivenAttributes) (paths : List PathValue) (k : ℕ) (p : PathValue) (old new : List PlannedRow)
    → k < length paths → get_or paths k p ≡ p → Along a b g paths k old
    → AppendsPlan a b g p old new
    → Along a b g paths (k + 1) new
along_next a b g paths k p old new within is along appended more h =
    let next = drop_more paths k p within ∙ ap (λ x. x ∷ drop (k + 1) paths) is in
    subst (IsPlan a b g paths)
    (sym (append_assoc old appended.more more) ∙ ap (λ xs. xs ++ more) (sym appended.is))
    (along (appended.more ++ more)
    (subst (λ ps. IsPlan a b g ps (appended.more ++ more)) (sym next)
    (more_planned a b g p (drop (k + 1) paths) appended.more more appended.plan h)))

pub along_end : (a b : Tree) (g : GivenAttributes) (paths : List PathValue) (k : ℕ) (rows : List PlannedRow)
    → drop k paths ≡ [] → Along a b g paths k rows → IsPlan a b g paths rows
along_end a b g paths k rows e along =
    subst (IsPlan a b g paths) (append-nil rows)
    (along [] (subst (λ ps. IsPlan a b g ps []) (sym e) (record { exact = refl; planned = tt })))

pub seen_next : (f : Contents) (old new : List PlannedRow) → AreSeenRows f old
    → AppendsSeen f old new → AreSeenRows f new
seen_next f old new h appended =
    subst (AreSeenRows f) (sym appended.is) (all_append (IsSeenRow f) old appended.more h appended.seen)

-- ---- the rows of one path

pub nothing_appended : (a b : Tree) (g : GivenAttributes) (p : PathValue) (rows : List PlannedRow)
    → differs a b p ≡ false → AppendsPlan a b g p rows rows
nothing_appended a b g p rows e = record {
  more = [];
  is = sym (append-nil rows);
  plan = record { exact = sym (ap (λ c. if c then p ∷ [] else []) e); planned = tt };
}

pub nothing_seen : (f : Contents) (rows : List PlannedRow) → AppendsSeen f rows rows
nothing_seen f rows = record { more = []; is = sym (append-nil rows); seen = tt }

pub row_appended : (a b : Tree) (g : GivenAttributes) (p : PathValue) (c : Change) (r : PlannedRow) (old new : List PlannedRow)
    → differs a b p ≡ true → c ≡ change_of a b g p → r.change ≡ c → r.after ≡ wanted_of c r.before
    → HasState r
    → new ≡ old ++ r ∷ [] → AppendsPlan a b g p old new
row_appended a b g p c r old new e is same after state h =
    let path : r.change.path ≡ p = ap (λ (x : Change). x.path) (same ∙ is) in record {
      more = r ∷ [];
      is = h;
      plan = record {
        exact = ap (λ q. q ∷ []) path ∙ sym (ap (λ c. if c then p ∷ [] else []) e);
        planned = (
          record {
            change = same ∙ is ∙ ap (change_of a b g) (sym path);
            after = after ∙ ap (λ x. wanted_of x r.before) (sym same);
            state = state;
          },
          tt,
        );
      };
    }

pub row_seen : (f : Contents) (r : PlannedRow) (old new : List PlannedRow) → IsSeenRow f r
    → new ≡ old ++ r ∷ []
    → AppendsSeen f old new
row_seen f r old new h is = record { more = r ∷ []; is = is; seen = (h, tt) }

-- ---- the rows for which a folder is ready

first_ready : (r : PlannedRow) (rs : List PlannedRow)
    → ready_rows (r ∷ rs) ≡ ready_rows (r ∷ []) ++ ready_rows rs
first_ready r rs =
    elim (is_ready_row r) as (λ b. map row_of (if b then r ∷ filter is_ready_row rs else filter is_ready_row rs)
    ≡ map row_of (if b then r ∷ [] else []) ++ ready_rows rs) [ true ↦ refl | false ↦ refl ]

next_is : (plan : List PlannedRow) (k : ℕ) (r : PlannedRow) → k < length plan → get_or plan k r ≡ r
    → drop k plan ≡ r ∷ drop (k + 1) plan
next_is plan k r within is = drop_more plan k r within ∙ ap (λ x. x ∷ drop (k + 1) plan) is

pub ready_next : (plan : List PlannedRow) (k : ℕ) (r : PlannedRow) (old new : List Row)
    → k < length plan → get_or plan k r ≡ r
    → new ≡ old ++ ready_rows (r ∷ []) → old ++ ready_rows (drop k plan) ≡ ready_rows plan
    → new ++ ready_rows (drop (k + 1) plan) ≡ ready_rows plan
ready_next plan k r old new within is appended h =
    ap (λ x. x ++ ready_rows (drop (k + 1) plan)) appended
    ∙ append_assoc old (ready_rows (r ∷ [])) (ready_rows (drop (k + 1) plan))
    ∙ ap (λ x. old ++ x) (sym (first_ready r (drop (k + 1) plan)) ∙ sym (ap ready_rows (next_is plan k r within is)))
    ∙ h

pub able_next : (plan : List PlannedRow) (k : ℕ) (r : PlannedRow) → k < length plan
    → get_or plan k r ≡ r
    → can_be_restored r ≡ true
    → list_all can_be_restored (drop k plan) ≡ list_all can_be_restored plan
    → list_all can_be_restored (drop (k + 1) plan) ≡ list_all can_be_restored plan
able_next plan k r within is able h =
    sym (ap (λ b. b && list_all can_be_restored (drop (k + 1) plan)) able)
    ∙ sym (ap (list_all can_be_restored) (next_is plan k r within is)) ∙ h

pub not_able : (plan : List PlannedRow) (k : ℕ) (r : PlannedRow) → k < length plan
    → get_or plan k r ≡ r
    → can_be_restored r ≡ false
    → list_all can_be_restored (drop k plan) ≡ list_all can_be_restored plan
    → list_all can_be_restored plan ≡ false
not_able plan k r within is able h =
    sym h ∙ ap (list_all can_be_restored) (next_is plan k r within is)
    ∙ ap (λ b. b && list_all can_be_restored (drop (k + 1) plan)) able

-- the rows for which a folder is ready begin with what it holds
pub ready_seen : (plan : List PlannedRow) (f : Contents) → AreSeenRows f plan
    → Sees (ready_rows plan) f
ready_seen [] f h q = tt
ready_seen (r ∷ rs) f h q = elim (decided (is_ready_row r)) [
  | inl e ↦ subst (λ b. IsSeen (row_at q (map row_of (if b then r ∷ filter is_ready_row rs else filter is_ready_row rs))) (f q)) (sym e)
      (elim (decided (path_eq r.change.path q)) [
        | inl k ↦ subst (λ b. IsSeen (if b then Some (row_of r) else row_at q (ready_rows rs)) (f q)) (sym k)
            (ap f (sym (same_path r.change.path q k)) ∙ sym h.0.before)
        | inr k ↦ subst (λ b. IsSeen (if b then Some (row_of r) else row_at q (ready_rows rs)) (f q)) (sym k)
            (ready_seen rs f h.1 q)
      ])
  | inr e ↦ subst (λ b. IsSeen (row_at q (map row_of (if b then r ∷ filter is_ready_row rs else filter is_ready_row rs))) (f q)) (sym e)
      (ready_seen rs f h.1 q)
]

-- ---- a kept row that fits

pub fitting : (c : Change) (row : Row) → IsTrue (fits_change (Some c) row)
    → (is_ready (state_of c row.before false) ≡ true) × (row.after ≡ wanted_of c row.before)
fitting c row h = (
  first_and (is_ready (state_of c row.before false)) (found_eq (wanted_of c row.before) row.after) h,
  sym (found_same (wanted_of c row.before) row.after
      (last_and (is_ready (state_of c row.before false)) (found_eq (wanted_of c row.before) row.after) h)),
)
