-- Which directories above a path are kept.
use Rattle.std.proofs.Common.{◌≡◌, ℕ, true, false, not, refl, sym, ap, subst, ◌∙◌, List, [], ◌∷◌, ◌++◌}
use Rattle.std.proofs.Common.{append-nil, inl, inr, Some, None}
use Rattle.std.specs.Prelude.{is_some, if◌then◌else◌, ◌&&◌}
use Rattle.std.proofs.lemmas.Bool.{false≢true}
use Rattle.retro_path.specs.Path.{PathValue, parent_of}
use Rattle.casebook_folder.proofs.Small.{first_and, last_and, both_and, decided, none_some}
use Rattle.casebook_snapshot.specs.Items.{Contents, is_missing, is_dir, row_for}
use Rattle.casebook_snapshot.specs.Reasons.{reason_of}
use Rattle.casebook_snapshot.specs.Kept.{is_entered, are_entered, is_open, kept}
use Rattle.casebook_snapshot.specs.declared.item.Row.{Row}
use Rattle.casebook_snapshot.specs.declared.item.Item.{Item}
use Rattle.casebook_snapshot.specs.declared.item.Item.TheVariants.{Missing, Dir, File, Barred}
use Rattle.casebook_snapshot.proofs.Small.{along, parent_below, no_some, is_none}

pub dir_exists : (x : Item) → is_dir x ≡ true → is_missing x ≡ false
dir_exists Missing e = absurd (false≢true e)
dir_exists (Dir a) e = refl
dir_exists (File b a) e = absurd (false≢true e)
dir_exists (Barred r) e = absurd (false≢true e)

pub held_exists : (x : Item) (h : Row) → row_for x ≡ Some h → is_missing x ≡ false
held_exists Missing h e = absurd (none_some h e)
held_exists (Dir a) h e = refl
held_exists (File b a) h e = refl
held_exists (Barred r) h e = absurd (none_some h e)

module _ (f : Contents) (skip : List PathValue) where
  pub front : (a b p : PathValue) → are_entered f skip p (a ++ b) ≡ true
      → are_entered f skip p a ≡ true
  front [] b p h = refl
  front (n ∷ a) b p h =
      both_and (is_entered f skip (p ++ n ∷ [])) (are_entered f skip (p ++ n ∷ []) a)
      (first_and (is_entered f skip (p ++ n ∷ [])) (are_entered f skip (p ++ n ∷ []) (a ++ b)) h)
      (front a b (p ++ n ∷ []) (last_and (is_entered f skip (p ++ n ∷ [])) (are_entered f skip (p ++ n ∷ []) (a ++ b)) h))

  pub back : (a b p : PathValue) → are_entered f skip p (a ++ b) ≡ true
      → are_entered f skip (p ++ a) b ≡ true
  back [] b p h = subst (λ x. are_entered f skip x b ≡ true) (sym (append-nil p)) h
  back (n ∷ a) b p h =
      subst (λ x. are_entered f skip x b ≡ true) (along p n a)
      (back a b (p ++ n ∷ []) (last_and (is_entered f skip (p ++ n ∷ [])) (are_entered f skip (p ++ n ∷ []) (a ++ b)) h))

  pub joined : (a b p : PathValue) → are_entered f skip p a ≡ true
      → are_entered f skip (p ++ a) b ≡ true → are_entered f skip p (a ++ b) ≡ true
  joined [] b p h k = subst (λ x. are_entered f skip x b ≡ true) (append-nil p) k
  joined (n ∷ a) b p h k =
      both_and (is_entered f skip (p ++ n ∷ [])) (are_entered f skip (p ++ n ∷ []) (a ++ b))
      (first_and (is_entered f skip (p ++ n ∷ [])) (are_entered f skip (p ++ n ∷ []) a) h)
      (joined a b (p ++ n ∷ []) (last_and (is_entered f skip (p ++ n ∷ [])) (are_entered f skip (p ++ n ∷ []) a) h)
      (subst (λ x. are_entered f skip x b ≡ true) (sym (along p n a)) k))

  -- the first directory below an open one
  pub first_entered : (a : PathValue) (n : List ℕ) (r : PathValue)
      → is_open f skip (a ++ n ∷ r) ≡ true → is_entered f skip (a ++ n ∷ []) ≡ true
  first_entered a n r h =
      first_and (is_entered f skip (a ++ n ∷ [])) (are_entered f skip (a ++ n ∷ []) r) (back a (n ∷ r) [] h)

  pub open_child : (a : PathValue) (n : List ℕ) → is_open f skip a ≡ true
      → is_entered f skip (a ++ n ∷ []) ≡ true → is_open f skip (a ++ n ∷ []) ≡ true
  open_child a n h k =
      joined a (n ∷ []) [] h (both_and (is_entered f skip (a ++ n ∷ [])) true k refl)

  -- a child above an open directory is entered
  pub above_entered : (p : PathValue) (n m : List ℕ) (r : PathValue)
      → is_open f skip (parent_of ((p ++ n ∷ []) ++ m ∷ r)) ≡ true
      → is_entered f skip (p ++ n ∷ []) ≡ true
  above_entered p n m r h =
      first_entered p n []
      (front (p ++ n ∷ []) (parent_of (m ∷ r)) []
      (subst (λ x. is_open f skip x ≡ true) (parent_below (p ++ n ∷ []) m r) h))

  -- the next path on the way to one that holds something holds something
  pub next_exists : (q : PathValue) (m : List ℕ) (r : PathValue)
      → is_open f skip (parent_of (q ++ m ∷ r)) ≡ true
      → is_missing (f (q ++ m ∷ r)) ≡ false → is_missing (f (q ++ m ∷ [])) ≡ false
  next_exists q m [] h e = e
  next_exists q m (k ∷ r) h e =
      dir_exists (f (q ++ m ∷ []))
      (first_and (is_dir (f (q ++ m ∷ []))) (not (is_some (reason_of f skip (q ++ m ∷ []))))
      (first_entered q m (parent_of (k ∷ r))
      (subst (λ x. is_open f skip x ≡ true) (parent_below q m (k ∷ r)) h)))

  pub entered_dir : (q : PathValue) → is_entered f skip q ≡ true → is_dir (f q) ≡ true
  entered_dir q h = first_and (is_dir (f q)) (not (is_some (reason_of f skip q))) h

  pub entered_none : (q : PathValue) → is_entered f skip q ≡ true → reason_of f skip q ≡ None
  entered_none q h =
      no_some (reason_of f skip q) (last_and (is_dir (f q)) (not (is_some (reason_of f skip q))) h)

  pub entered_by : (q : PathValue) → is_dir (f q) ≡ true → reason_of f skip q ≡ None
      → is_entered f skip q ≡ true
  entered_by q d n =
      both_and (is_dir (f q)) (not (is_some (reason_of f skip q))) d (is_none (reason_of f skip q) n)

  -- what is kept at a path
  pub record IsKept (q : PathValue) (h : Row) : Type 0 where
    pub above : is_open f skip (parent_of q) ≡ true
    pub clear : reason_of f skip q ≡ None
    pub held : row_for (f q) ≡ Some h

  pub kept_parts : (q : PathValue) (h : Row) → kept f skip q ≡ Some h → IsKept q h
  kept_parts q h e =
      elim (decided (is_open f skip (parent_of q) && not (is_some (reason_of f skip q)))) [
        | inl k ↦ record {
          above = first_and (is_open f skip (parent_of q)) (not (is_some (reason_of f skip q))) k;
          clear = no_some (reason_of f skip q) (last_and (is_open f skip (parent_of q)) (not (is_some (reason_of f skip q))) k);
          held = sym (ap (λ b. if b then row_for (f q) else None) k) ∙ e;
        }
        | inr k ↦ absurd (none_some h (sym (ap (λ b. if b then row_for (f q) else None) k) ∙ e))
      ]

  pub kept_by : (q : PathValue) (h : Row) → is_open f skip (parent_of q) ≡ true
      → reason_of f skip q ≡ None → row_for (f q) ≡ Some h → kept f skip q ≡ Some h
  kept_by q h a n e =
      ap (λ b. if b then row_for (f q) else None)
      (both_and (is_open f skip (parent_of q)) (not (is_some (reason_of f skip q))) a (is_none (reason_of f skip q) n)) ∙ e
