-- What a visit of a child says.
use Rattle.std.proofs.Common.{◌≡◌, ℕ, refl, sym, ap, subst, ◌∙◌, List, [], Option, Some, None}
use Rattle.retro_path.specs.Path.{PathValue}
use Rattle.retro_tree.specs.declared.entry.Entry.TheVariants as entries
use Rattle.casebook_folder.specs.declared.attributes.Attributes.{Attributes}
use Rattle.casebook_snapshot.specs.Items.{Contents, row_for}
use Rattle.casebook_snapshot.specs.Reasons.{first_reason, item_reason, name_reason, path_reason}
use Rattle.casebook_snapshot.specs.Reasons.{reason_by, reason_of}
use Rattle.casebook_snapshot.specs.Children.{path_of, child_path, child_path_by, IsListing}
use Rattle.casebook_snapshot.specs.inner.Visits.{AreChildren}
use Rattle.casebook_snapshot.specs.declared.child.Child.{Child}
use Rattle.casebook_snapshot.specs.declared.child.ChildPath.{ChildPath}
use Rattle.casebook_snapshot.specs.declared.child.ChildPath.TheVariants.{Is, Never}
use Rattle.casebook_snapshot.specs.declared.item.Row.{Row}
use Rattle.casebook_snapshot.specs.declared.item.Item.{Item}
use Rattle.casebook_snapshot.specs.declared.item.Item.TheVariants.{Dir, File}
use Rattle.casebook_snapshot.specs.declared.reason.Reason.{Reason}
use Rattle.casebook_folder.proofs.Small.{none_some, some_same}
use Rattle.casebook_snapshot.proofs.Small.{last_of_child}

abbrev reason_in : ChildPath → Option Reason
reason_in (Is p) = None
reason_in (Never r) = Some r

abbrev path_in : ChildPath → Option PathValue
path_in (Is p) = Some p
path_in (Never r) = None

reason_back : (c : Child) (o : Option Reason) → reason_in (child_path_by c o) ≡ o
reason_back c None = refl
reason_back c (Some r) = refl

path_back : (c : Child) (o : Option Reason) (p : PathValue) → Some p ≡ path_in (child_path_by c o)
    → p ≡ path_of c
path_back c None p e = some_same p (path_of c) e
path_back c (Some r) p e = absurd (none_some p (sym e))

by_name : (f : Contents) (skip : List PathValue) (c : Child)
    → reason_of f skip (path_of c)
    ≡ first_reason (name_reason c.name.items) (first_reason (path_reason skip (path_of c)) (item_reason (f (path_of c))))
by_name f skip c = ap (reason_by f skip (path_of c)) (last_of_child c.parent c.name.items)

module _ (f : Contents) (skip : List PathValue) (c : Child) (x : ChildPath) (is : x ≡ child_path c) where
  pub never : (r : Reason) → x ≡ Never r → reason_of f skip (path_of c) ≡ Some r
  never r e =
      by_name f skip c
      ∙ ap (λ o. first_reason o (first_reason (path_reason skip (path_of c)) (item_reason (f (path_of c)))))
      (sym (reason_back c (name_reason c.name.items)) ∙ ap reason_in (sym is) ∙ ap reason_in e)

  module _ (p : PathValue) (e : x ≡ Is p) where
    pub path_is : p ≡ path_of c
    path_is = path_back c (name_reason c.name.items) p (ap path_in (sym e) ∙ ap path_in is)

    plain : name_reason c.name.items ≡ None
    plain = sym (reason_back c (name_reason c.name.items)) ∙ ap reason_in (sym is) ∙ ap reason_in e

    then_path : reason_of f skip (path_of c) ≡ first_reason (path_reason skip p) (item_reason (f p))
    then_path =
        by_name f skip c
        ∙ ap (λ o. first_reason o (first_reason (path_reason skip (path_of c)) (item_reason (f (path_of c))))) plain
        ∙ ap (λ q. first_reason (path_reason skip q) (item_reason (f q))) (sym path_is)

    pub by_path : (o : Option Reason) (r : Reason) → o ≡ path_reason skip p → o ≡ Some r
        → reason_of f skip (path_of c) ≡ Some r
    by_path o r o_is some =
        then_path ∙ ap (λ y. first_reason y (item_reason (f p))) (sym o_is ∙ some)

    pub then_item : (o : Option Reason) (i : Item) (s : Option Reason) → o ≡ path_reason skip p → o ≡ None
        → i ≡ f p → s ≡ item_reason i → reason_of f skip (path_of c) ≡ s
    then_item o i s o_is none i_is s_is =
        then_path ∙ ap (λ y. first_reason y (item_reason (f p))) (sym o_is ∙ none)
        ∙ ap item_reason (sym i_is) ∙ sym s_is

    -- what a visit says that keeps the child
    abbrev pub IsKeep : PathValue → Row → List Child → Type 0
    IsKeep q h cs =
        (q ≡ path_of c) × ((reason_of f skip q ≡ None) × ((row_for (f q) ≡ Some h)
        × AreChildren f q (f q) cs))

    module _ (o s : Option Reason) (i : Item) (o_is : o ≡ path_reason skip p) (o_none : o ≡ None)
        (i_is : i ≡ f p) (s_is : s ≡ item_reason i) where
      pub by_item : (r : Reason) → s ≡ Some r → reason_of f skip (path_of c) ≡ Some r
      by_item r some = then_item o i s o_is o_none i_is s_is ∙ some

      clear : s ≡ None → reason_of f skip p ≡ None
      clear none =
          subst (λ q. reason_of f skip q ≡ None) (sym path_is) (then_item o i s o_is o_none i_is s_is ∙ none)

      pub keeps_file : (bytes : List ℕ) (a : Attributes) (cs : List Child) → s ≡ None → i ≡ File bytes a → cs ≡ []
          → IsKeep p (record { entry = entries.File bytes; attributes = a }) cs
      keeps_file bytes a cs none file empty = (
        path_is,
        (
          clear none,
          (
            ap row_for (sym i_is ∙ file),
            subst (λ y. AreChildren f p y cs) (sym file ∙ i_is) empty,
          ),
        ),
      )

      pub keeps_dir : (a : Attributes) (cs : List Child) → s ≡ None → i ≡ Dir a → IsListing f p cs
          → IsKeep p (record { entry = entries.Dir; attributes = a }) cs
      keeps_dir a cs none dir listing = (
        path_is,
        (
          clear none,
          (
            ap row_for (sym i_is ∙ dir),
            subst (λ y. AreChildren f p y cs) (sym dir ∙ i_is) listing,
          ),
        ),
      )
