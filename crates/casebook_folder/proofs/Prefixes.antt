-- Lists of steps in parts.
use Rattle.std.proofs.Common.{◌≡◌, ℕ, zero, suc, ◌+◌, ◌<◌, ◌⊎◌, inl, inr, true, false, refl, sym}
use Rattle.std.proofs.Common.{ap, ◌∙◌, List, [], ◌∷◌, ◌++◌, length, get_or, append_assoc}
use Rattle.std.proofs.Common.{append-nil}
use Rattle.std.specs.Prelude.{if◌then◌else◌, Result, Ok, Err, OnErr}
use Rattle.std.proofs.Math.ListN.{take, drop}
use Rattle.std.proofs.lemmas.List.{drop_more}
use Rattle.casebook_folder.specs.Steps.{Step, step}
use Rattle.casebook_folder.specs.Rows.{left_at, removal, removals, writing, writings, steps_of}
use Rattle.casebook_folder.specs.Rows.{clears}
use Rattle.casebook_folder.specs.Found.{is_missing}
use Rattle.casebook_folder.specs.inner.Prefix.{MakesPrefix}
use Rattle.casebook_folder.specs.declared.row.Row.{Row}
use Rattle.casebook_folder.specs.declared.found.Found.TheVariants.{Missing}

pub on_err : {T E : Type 0} (r : Result T E) (P : Type 0) → P → OnErr r P
on_err (Ok v) P h = tt
on_err (Err e) P h = h

pub removals_split : (k : ℕ) (rows : List Row)
    → removals rows ≡ removals (drop k rows) ++ removals (take k rows)
removals_split zero rows = sym (append-nil (removals rows))
removals_split (suc k) [] = refl
removals_split (suc k) (r ∷ rs) =
    ap (λ x. x ++ removal r) (removals_split k rs) ∙ append_assoc (removals (drop k rs)) (removals (take k rs)) (removal r)

-- a removal that was made, after those of the rows behind it
pub removals_more : (rows : List Row) (k : ℕ) (r : Row) (old now new : List Step)
    → k < length rows → get_or rows k r ≡ r → clears r ≡ true
    → now ≡ old ++ removals (drop (k + 1) rows)
    → new ≡ now ++ step r.path r.before Missing ∷ [] → new ≡ old ++ removals (drop k rows)
removals_more rows k r old now new within is h made e =
    e ∙ ap (λ x. x ++ step r.path r.before Missing ∷ []) made
    ∙ append_assoc old (removals (drop (k + 1) rows)) (step r.path r.before Missing ∷ [])
    ∙ ap (λ x. old ++ x) (
    ap (λ x. removals (drop (k + 1) rows) ++ x) (sym (ap (λ b. if b then step r.path r.before Missing ∷ [] else []) h))
    ∙ sym (ap removals (drop_more rows k r within ∙ ap (λ x. x ∷ drop (k + 1) rows) is)))

-- a removal that may have been made, after those of the rows behind it
pub removals_prefix : (rows : List Row) (k : ℕ) (r : Row) (old now new : List Step)
    → k < length rows → get_or rows k r ≡ r → clears r ≡ true
    → now ≡ old ++ removals (drop (k + 1) rows)
    → (new ≡ now) ⊎ (new ≡ now ++ step r.path r.before Missing ∷ [])
    → MakesPrefix (removals rows) old new
removals_prefix rows k r old now new within is h made (inl e) = record {
  done = removals (drop (k + 1) rows);
  left = removals (take (k + 1) rows);
  all = removals_split (k + 1) rows;
  made = e ∙ made;
}
removals_prefix rows k r old now new within is h made (inr e) = record {
  done = removals (drop k rows);
  left = removals (take k rows);
  all = removals_split k rows;
  made = removals_more rows k r old now new within is h made e;
}

-- what is written next
pub writings_next : (rows : List Row) (k : ℕ) (r : Row) → k < length rows → get_or rows k r ≡ r
    → writings (drop k rows) ≡ writing r ++ writings (drop (k + 1) rows)
writings_next rows k r within is =
    ap writings (drop_more rows k r within ∙ ap (λ x. x ∷ drop (k + 1) rows) is)

pub writing_is : (r : Row) → is_missing r.after ≡ false
    → writing r ≡ step r.path (left_at r) r.after ∷ []
writing_is r h = ap (λ b. if b then [] else step r.path (left_at r) r.after ∷ []) h

pub writing_none : (r : Row) → is_missing r.after ≡ true → writing r ≡ []
writing_none r h = ap (λ b. if b then [] else step r.path (left_at r) r.after ∷ []) h

pub writings_prefix : (rows : List Row) (k : ℕ) (r : Row) (old now new done : List Step)
    → k < length rows → get_or rows k r ≡ r → is_missing r.after ≡ false
    → now ≡ old ++ done → writings rows ≡ done ++ writings (drop k rows)
    → (new ≡ now) ⊎ (new ≡ now ++ step r.path (left_at r) r.after ∷ [])
    → MakesPrefix (writings rows) old new
writings_prefix rows k r old now new done within is h made all (inl e) = record {
  done = done;
  left = writings (drop k rows);
  all = all;
  made = e ∙ made;
}
writings_prefix rows k r old now new done within is h made all (inr e) = record {
  done = done ++ step r.path (left_at r) r.after ∷ [];
  left = writings (drop (k + 1) rows);
  all = all ∙ ap (λ x. done ++ x) (writings_next rows k r within is ∙ ap (λ x. x ++ writings (drop (k + 1) rows)) (writing_is r h))
      ∙ sym (append_assoc done (step r.path (left_at r) r.after ∷ []) (writings (drop (k + 1) rows)));
  made = e ∙ ap (λ x. x ++ step r.path (left_at r) r.after ∷ []) made ∙ append_assoc old done (step r.path (left_at r) r.after ∷ []);
}

-- one row further
pub prefix_grows : (rows : List Row) (k : ℕ) (r : Row) (old now new done : List Step)
    → k < length rows → get_or rows k r ≡ r
    → now ≡ old ++ done → writings rows ≡ done ++ writings (drop k rows)
    → new ≡ now ++ writing r
    → (more : List Step) × (new ≡ old ++ more) × (writings rows ≡ more ++ writings (drop (k + 1) rows))
prefix_grows rows k r old now new done within is made all e = (
  done ++ writing r,
  e ∙ ap (λ x. x ++ writing r) made ∙ append_assoc old done (writing r),
  all ∙ ap (λ x. done ++ x) (writings_next rows k r within is) ∙ sym (append_assoc done (writing r) (writings (drop (k + 1) rows))),
)

-- a prefix of the removals is one of all steps
pub prefix_of_all : (rows : List Row) (old new : List Step) → MakesPrefix (removals rows) old new
    → MakesPrefix (steps_of rows) old new
prefix_of_all rows old new f = record {
  done = f.done;
  left = f.left ++ writings rows;
  all = ap (λ x. x ++ writings rows) f.all ∙ append_assoc f.done f.left (writings rows);
  made = f.made;
}

-- all removals and a prefix of the writings are a prefix of all steps
pub prefix_after : (rows : List Row) (old now new : List Step) → now ≡ old ++ removals rows
    → MakesPrefix (writings rows) now new → MakesPrefix (steps_of rows) old new
prefix_after rows old now new e f = record {
  done = removals rows ++ f.done;
  left = f.left;
  all = ap (λ x. removals rows ++ x) f.all ∙ sym (append_assoc (removals rows) f.done f.left);
  made = f.made ∙ ap (λ x. x ++ f.done) e ∙ append_assoc old (removals rows) f.done;
}
