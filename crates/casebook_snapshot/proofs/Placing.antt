-- A folder that is put at a path: what is at the children of its directories.
use Rattle.std.proofs.Common.{◌≡◌, ℕ, Bool, true, false, refl, sym, ap, subst, ◌∙◌, inl, inr}
use Rattle.std.proofs.Common.{List, [], ◌∷◌, ◌++◌, Option, Some, None, map}
use Rattle.std.specs.Prelude.{if◌then◌else◌, is_some, IfSome}
use Rattle.std.proofs.lemmas.Bool.{false≢true}
use Rattle.retro_path.specs.Order.{text_eq}
use Rattle.retro_path.specs.Path.{PathValue, below}
use Rattle.casebook_folder.proofs.Small.{decided, first_and, none_some, path_refl, same_text, some_same}
use Rattle.casebook_snapshot.specs.Items.{Contents, is_missing, is_dir}
use Rattle.casebook_snapshot.specs.Children.{path_of, ArePresent, IsNamed, IsListing}
use Rattle.casebook_snapshot.specs.Placed.{above, placed, placed_by, placed_contents, placed_if}
use Rattle.casebook_snapshot.specs.inner.Placing.{IsTowards, moved_to}
use Rattle.casebook_snapshot.specs.declared.child.Child.{Child}
use Rattle.casebook_snapshot.specs.declared.item.Item.{Item}
use Rattle.casebook_snapshot.specs.declared.item.Item.TheVariants.{Missing, Dir, File, Barred}

-- a text is itself
text_refl : (x : List ℕ) → text_eq x x ≡ true
text_refl x = first_and (text_eq x x) true (path_refl (x ∷ []))

dir_exists : (i : Item) → is_dir i ≡ true → is_missing i ≡ false
dir_exists Missing e = absurd (false≢true e)
dir_exists (Dir a) e = refl
dir_exists (File x a) e = absurd (false≢true e)
dir_exists (Barred r) e = absurd (false≢true e)

-- ---- paths below a common name

below_step : (x : List ℕ) (p q : PathValue) → below (x ∷ p) (x ∷ q) ≡ below p q
below_step x p q = ap (λ b. if b then below p q else None) (text_refl x)

other : (x y : List ℕ) (p q : PathValue) → text_eq x y ≡ false → below (x ∷ p) (y ∷ q) ≡ None
other x y p q e = ap (λ b. if b then below p q else None) e

-- what follows a prefix of a path, of a child of it
pub below_more : (p q : PathValue) (n : List ℕ) (r : PathValue) → below p q ≡ Some r
    → below p (q ++ n ∷ []) ≡ Some (r ++ n ∷ [])
below_more [] q n r e = ap (λ s. Some (s ++ n ∷ [])) (some_same q r e)
below_more (x ∷ p) [] n r e = absurd (none_some r e)
below_more (x ∷ p) (y ∷ q) n r e = elim (decided (text_eq x y)) [
  | inl same ↦
      ap (λ b. if b then below p (q ++ n ∷ []) else None) same
      ∙ below_more p q n r (sym (ap (λ b. if b then below p q else None) same) ∙ e)
  | inr differs ↦ absurd (none_some r (sym (other x y p q differs) ∙ e))
]

module _ (f : Contents) where
  placed_step : (x : List ℕ) (at q : PathValue) → placed (x ∷ at) f (x ∷ q) ≡ placed at f q
  placed_step x at q =
      ap (λ o. placed_by f o (below (x ∷ q) (x ∷ at))) (below_step x at q)
      ∙ ap (placed_by f (below at q)) (below_step x q at)

  placed_other : (x y : List ℕ) (at q : PathValue) → text_eq x y ≡ false → text_eq y x ≡ false
      → placed (x ∷ at) f (y ∷ q) ≡ Missing
  placed_other x y at q e g =
      ap (λ o. placed_by f o (below (y ∷ q) (x ∷ at))) (other x y at q e)
      ∙ ap (placed_by f None) (other y x q at g)

  pub placed_inside : (at q r : PathValue) → below at q ≡ Some r → placed at f q ≡ f r
  placed_inside at q r e = ap (λ o. placed_by f o (below q at)) e

  pub placed_above : (at q : PathValue) → below at q ≡ None → is_some (below q at) ≡ true
      → Dir above ≡ placed at f q
  placed_above at q e g = sym (ap (λ o. placed_by f o (below q at)) e ∙ by_some (below q at) g)
    where
      by_some : (o : Option PathValue) → is_some o ≡ true → placed_by f None o ≡ Dir above
      by_some None k = absurd (false≢true k)
      by_some (Some r) k = refl

  pub placed_beside : (at q : PathValue) → below at q ≡ None → is_some (below q at) ≡ false
      → Missing ≡ placed at f q
  placed_beside at q e g = sym (ap (λ o. placed_by f o (below q at)) e ∙ by_none (below q at) g)
    where
      by_none : (o : Option PathValue) → is_some o ≡ false → placed_by f None o ≡ Missing
      by_none None k = refl
      by_none (Some r) k = absurd (false≢true (sym k))

  placed_child : (at q : PathValue) (n : List ℕ) (r : PathValue) → below at q ≡ Some r
      → placed at f (q ++ n ∷ []) ≡ f (r ++ n ∷ [])
  placed_child at q n r e = placed_inside at (q ++ n ∷ []) (r ++ n ∷ []) (below_more at q n r e)

  -- ---- inside of the folder

  module _ (at q r : PathValue) (e : below at q ≡ Some r) where
    moved_present : (cs : List Child) → ArePresent f r cs → ArePresent (placed at f) q (map (moved_to q) cs)
    moved_present [] h = tt
    moved_present (c ∷ cs) h =
        let same = placed_child at q c.name.items r e ∙ ap (λ p. f (p ++ c.name.items ∷ [])) (sym h.0) in
        (refl, (ap is_missing same ∙ h.1.0, moved_present cs h.1.1))

    moved_named : (cs : List Child) (n : List ℕ) → IsNamed cs n → IsNamed (map (moved_to q) cs) n
    moved_named [] n h = h
    moved_named (c ∷ cs) n (inl h) = inl h
    moved_named (c ∷ cs) n (inr h) = inr (moved_named cs n h)

    pub moved_listing : (cs : List Child) → IsListing f r cs → IsListing (placed at f) q (map (moved_to q) cs)
    moved_listing cs h = record {
      sound = moved_present cs h.sound;
      complete = λ n there. moved_named cs n (h.complete n (sym (ap is_missing (placed_child at q n r e)) ∙ there));
    }

  -- ---- above the folder

  module _ (root : is_dir (f []) ≡ true) where
    first_there : (n : List ℕ) (r : PathValue) → is_missing (placed (n ∷ r) f (n ∷ [])) ≡ false
    first_there n [] = ap is_missing (placed_step n [] []) ∙ dir_exists (f []) root
    first_there n (k ∷ r) = ap is_missing (placed_step n (k ∷ r) [])

    towards_there : (at q : PathValue) (n : List ℕ) (r : PathValue) → below at q ≡ None
        → below q at ≡ Some (n ∷ r) → is_missing (placed at f (q ++ n ∷ [])) ≡ false
    towards_there at [] n r e g =
        subst (λ p. is_missing (placed p f (n ∷ [])) ≡ false) (sym (some_same at (n ∷ r) g)) (first_there n r)
    towards_there [] (y ∷ q) n r e g = absurd (none_some (y ∷ q) (sym e))
    towards_there (x ∷ at) (y ∷ q) n r e g = elim (decided (text_eq y x)) [
      | inl same ↦
          let is : y ≡ x = same_text y x same in
          let eq : below at q ≡ None = sym (ap (λ z. below (x ∷ at) (z ∷ q)) is ∙ below_step x at q) ∙ e in
          let gq : below q at ≡ Some (n ∷ r) = sym (ap (λ z. below (z ∷ q) (x ∷ at)) is ∙ below_step x q at) ∙ g in
          ap (λ z. is_missing (placed (x ∷ at) f (z ∷ (q ++ n ∷ [])))) is
          ∙ ap is_missing (placed_step x at (q ++ n ∷ [])) ∙ towards_there at q n r eq gq
      | inr differs ↦ absurd (none_some (n ∷ r) (sym (other y x q at differs) ∙ g))
    ]

  -- a name below a common prefix leads to the folder
  towards_only : (at q : PathValue) (n : List ℕ) → below at q ≡ None
      → is_missing (placed at f (q ++ n ∷ [])) ≡ false
      → (r : PathValue) × (below q at ≡ Some (n ∷ r))
  towards_only [] q n e there = absurd (none_some q (sym e))
  towards_only (x ∷ at) [] n e there = elim (decided (text_eq x n)) [
    | inl same ↦ (at, ap (λ z. Some (z ∷ at)) (same_text x n same))
    | inr differs ↦ elim (decided (text_eq n x)) [
      | inl same ↦ (at, ap (λ z. Some (z ∷ at)) (sym (same_text n x same)))
      | inr also ↦ absurd (false≢true (sym there ∙ ap is_missing (placed_other x n at [] differs also)))
    ]
  ]
  towards_only (x ∷ at) (y ∷ q) n e there = elim (decided (text_eq x y)) [
    | inl same ↦ below_same x y at q n (towards_only at q n) (same_text x y same) e there
    | inr differs ↦ elim (decided (text_eq y x)) [
      | inl same ↦ below_same x y at q n (towards_only at q n) (sym (same_text y x same)) e there
      | inr also ↦ absurd (false≢true (sym there
          ∙ ap is_missing (placed_other x y at (q ++ n ∷ []) differs also)))
    ]
  ]
    where
      below_same : (x y : List ℕ) (at q : PathValue) (n : List ℕ)
          → (below at q ≡ None → is_missing (placed at f (q ++ n ∷ [])) ≡ false
          → (r : PathValue) × (below q at ≡ Some (n ∷ r)))
          → x ≡ y → below (x ∷ at) (y ∷ q) ≡ None
          → is_missing (placed (x ∷ at) f (y ∷ (q ++ n ∷ []))) ≡ false
          → (r : PathValue) × (below (y ∷ q) (x ∷ at) ≡ Some (n ∷ r))
      below_same x y at q n further is e there =
          let eq : below at q ≡ None = sym (ap (λ z. below (x ∷ at) (z ∷ q)) (sym is) ∙ below_step x at q) ∙ e in
          let same = ap (λ z. placed (x ∷ at) f (z ∷ (q ++ n ∷ []))) (sym is) ∙ placed_step x at (q ++ n ∷ []) in
          let rest = further eq (sym (ap is_missing same) ∙ there) in
          (rest.0, ap (λ z. below (z ∷ q) (x ∷ at)) (sym is) ∙ below_step x q at ∙ rest.1)

  module _ (root : is_dir (f []) ≡ true) where
    pub listed_towards : (at q : PathValue) (o : Option PathValue) (cs : List Child) → below at q ≡ None
        → below q at ≡ o → IsTowards q o cs → IsListing (placed at f) q cs
    listed_towards at q None cs e g h = record {
      sound = subst (ArePresent (placed at f) q) (sym h) tt;
      complete = λ n there. let only = towards_only at q n e there in
          absurd (none_some (n ∷ only.0) (sym g ∙ only.1));
    }
    listed_towards at q (Some []) cs e g h = record {
      sound = subst (ArePresent (placed at f) q) (sym h) tt;
      complete = λ n there. let only = towards_only at q n e there in
          absurd (not_empty n only.0 (some_same [] (n ∷ only.0) (sym g ∙ only.1)));
    }
      where
        is_some_name : PathValue → Bool
        is_some_name [] = false
        is_some_name (m ∷ p) = true

        not_empty : (n : List ℕ) (r : PathValue) → [] ≡ n ∷ r → ⊥
        not_empty n r e = false≢true (ap is_some_name e)
    listed_towards at q (Some (m ∷ r)) cs e g h =
        let c = h.0 in
        let there : is_missing (placed at f (path_of c)) ≡ false =
        ap (λ p. is_missing (placed at f (p ++ c.name.items ∷ []))) h.1.1.0
        ∙ ap (λ k. is_missing (placed at f (q ++ k ∷ []))) h.1.1.1 ∙ towards_there root at q m r e g in
        record {
          sound = subst (ArePresent (placed at f) q) (sym h.1.0) (h.1.1.0, (there, tt));
          complete = λ n exists.
              let only = towards_only at q n e exists in
              subst (λ l. IsNamed l n) (sym h.1.0)
              (inl (h.1.1.1 ∙ first_same m n r only.0 (some_same (m ∷ r) (n ∷ only.0) (sym g ∙ only.1))));
        }
      where
        first_or : List ℕ → PathValue → List ℕ
        first_or m [] = m
        first_or m (k ∷ p) = k

        first_same : (m n : List ℕ) (r s : PathValue) → m ∷ r ≡ n ∷ s → m ≡ n
        first_same m n r s e = ap (first_or m) e

-- what is said of a folder, said of it where it is put
pub lift : {P : Contents → Type 0} (Q : Contents → Type 0) (at : PathValue) (h : Option Contents) → IfSome h P
    → ((f : Contents) → is_dir (f []) ≡ true → P f → Q (placed at f)) → IfSome (placed_contents at h) Q
lift Q at None p k = tt
lift Q at (Some f) p k = by_dir (is_dir (f [])) refl
  where
    by_dir : (b : Bool) → is_dir (f []) ≡ b → IfSome (placed_if at f b) Q
    by_dir true e = k f e p
    by_dir false e = tt

pub lift_always : (Q : Contents → Type 0) (at : PathValue) (h : Option Contents)
    → ((f : Contents) → is_dir (f []) ≡ true → Q (placed at f)) → IfSome (placed_contents at h) Q
lift_always Q at None k = tt
lift_always Q at (Some f) k = by_dir (is_dir (f [])) refl
  where
    by_dir : (b : Bool) → is_dir (f []) ≡ b → IfSome (placed_if at f b) Q
    by_dir true e = k f e
    by_dir false e = tt

pub is_towards : (p at : PathValue) (o : Option PathValue) (ns rest : PathValue) (n : List ℕ) (c : Child)
    (cs : List Child) → o ≡ below p at → o ≡ Some ns → ns ≡ n ∷ rest → cs ≡ c ∷ [] → c.parent ≡ p
    → c.name.items ≡ n → IsTowards p (below p at) cs
is_towards p at o ns rest n c cs is some first only parent name =
    subst (λ x. IsTowards p x cs) (sym (ap Some first) ∙ sym some ∙ is) (c, (only, (parent, name)))
