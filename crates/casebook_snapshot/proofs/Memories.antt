-- A listing in memory: the names that it lists are those at which it holds something.
use Rattle.std.proofs.Common.{◌≡◌, ℕ, ◌+◌, ◌<◌, true, false, ◌&&◌, sym, ap, subst, ◌∙◌, inl, inr}
use Rattle.std.proofs.Common.{List, [], ◌∷◌, ◌++◌, length, get_or}
use Rattle.std.specs.Prelude.{if◌then◌else◌}
use Rattle.std.proofs.Math.ListN.{drop}
use Rattle.std.proofs.lemmas.List.{drop_more}
use Rattle.std.proofs.lemmas.Bool.{false≢true}
use Rattle.retro_path.specs.Order.{path_eq, text_eq}
use Rattle.retro_path.specs.Path.{PathValue, last_of}
use Rattle.retro_tree.proofs.Below.{parent_of_append}
use Rattle.casebook_folder.proofs.Small.{both_and, decided, same_path, same_text}
use Rattle.casebook_snapshot.specs.Items.{is_missing}
use Rattle.casebook_snapshot.specs.Children.{path_of, ArePresent, IsListing, IsNamed}
use Rattle.casebook_snapshot.specs.inner.Memories.{AreChildrenBut, contents_of, item_by, item_in}
use Rattle.casebook_snapshot.specs.declared.child.Child.{Child}
use Rattle.casebook_snapshot.specs.declared.item.Item.{Item}
use Rattle.casebook_snapshot.specs.declared.memory.MemoryEntry.{MemoryEntry}
use Rattle.casebook_snapshot.proofs.Small.{last_of_child}

pub next : (es : List MemoryEntry) (k : ℕ) (e : MemoryEntry) (p : PathValue) (n : List ℕ) → k < length es
    → get_or es k e ≡ e → item_in (drop k es) p n ≡ item_in (e ∷ drop (k + 1) es) p n
next es k e p n within is =
    ap (λ x. item_in x p n) (drop_more es k e within ∙ ap (λ x. x ∷ drop (k + 1) es) is)

pub split : (es : List MemoryEntry) (k : ℕ) (e : MemoryEntry) → k < length es → get_or es k e ≡ e
    → drop k es ≡ e ∷ drop (k + 1) es
split es k e within is = drop_more es k e within ∙ ap (λ x. x ∷ drop (k + 1) es) is

pub here : (e : MemoryEntry) (es : List MemoryEntry) (p : PathValue) (n : List ℕ)
    → path_eq e.child.parent p ≡ true → text_eq e.child.name.items n ≡ true
    → item_in (e ∷ es) p n ≡ e.item
here e es p n a b =
    ap (λ x. if x then e.item else item_in es p n)
    (both_and (path_eq e.child.parent p) (text_eq e.child.name.items n) a b)

pub elsewhere : (e : MemoryEntry) (es : List MemoryEntry) (p : PathValue) (n : List ℕ)
    → path_eq e.child.parent p ≡ false → item_in (e ∷ es) p n ≡ item_in es p n
elsewhere e es p n a =
    ap (λ x. if x && text_eq e.child.name.items n then e.item else item_in es p n) a

pub other_name : (e : MemoryEntry) (es : List MemoryEntry) (p : PathValue) (n : List ℕ)
    → path_eq e.child.parent p ≡ true → text_eq e.child.name.items n ≡ false
    → item_in (e ∷ es) p n ≡ item_in es p n
other_name e es p n a b =
    ap (λ x. if x && text_eq e.child.name.items n then e.item else item_in es p n) a
    ∙ ap (λ x. if x then e.item else item_in es p n) b

pub ruleset entries = (next, here, elsewhere, other_name)

module _ (root : Item) (all : List MemoryEntry) where
  at_child : (p : PathValue) (n : List ℕ) → contents_of root all (p ++ n ∷ []) ≡ item_in all p n
  at_child p n =
      ap (λ q. item_by root all q (last_of (p ++ n ∷ []))) (parent_of_append p n)
      ∙ ap (item_by root all p) (last_of_child p n)

  present_both : (p : PathValue) (cs ds : List Child) → ArePresent (contents_of root all) p cs
      → ArePresent (contents_of root all) p ds → ArePresent (contents_of root all) p (cs ++ ds)
  present_both p [] ds h k = k
  present_both p (c ∷ cs) ds h k = (h.0, (h.1.0, present_both p cs ds h.1.1 k))

  named_front : (cs ds : List Child) (n : List ℕ) → IsNamed cs n → IsNamed (cs ++ ds) n
  named_front [] ds n h = absurd h
  named_front (c ∷ cs) ds n (inl e) = inl e
  named_front (c ∷ cs) ds n (inr h) = inr (named_front cs ds n h)

  named_back : (cs ds : List Child) (n : List ℕ) → IsNamed ds n → IsNamed (cs ++ ds) n
  named_back [] ds n h = h
  named_back (c ∷ cs) ds n h = inr (named_back cs ds n h)

  pub starts : (p : PathValue) (cs : List Child) → cs ≡ [] → AreChildrenBut (contents_of root all) p all cs
  starts p cs e = record {
    sound = subst (ArePresent (contents_of root all) p) (sym e) tt;
    complete = λ n there. inr (sym (ap is_missing (at_child p n)) ∙ there);
  }

  pub lists : (p : PathValue) (cs : List Child) → AreChildrenBut (contents_of root all) p [] cs
      → IsListing (contents_of root all) p cs
  lists p cs h = record {
    sound = h.sound;
    complete = λ n there. elim (h.complete n there) [ inl k ↦ k | inr k ↦ absurd (false≢true (sym k)) ];
  }

  -- an entry of another directory is passed over
  pub passes : (p : PathValue) (e : MemoryEntry) (es : List MemoryEntry) (cs : List Child)
      → path_eq e.child.parent p ≡ false → AreChildrenBut (contents_of root all) p (e ∷ es) cs
      → AreChildrenBut (contents_of root all) p es cs
  passes p e es cs apart h = record {
    sound = h.sound;
    complete = λ n there. elim (h.complete n there) [
      | inl k ↦ inl k
      | inr k ↦ inr (sym (ap is_missing (elsewhere e es p n apart)) ∙ k)
    ];
  }

  -- an entry whose name holds nothing is passed over
  pub passes_missing : (p : PathValue) (e : MemoryEntry) (es : List MemoryEntry) (cs : List Child)
      → path_eq e.child.parent p ≡ true → is_missing (item_in all p e.child.name.items) ≡ true
      → AreChildrenBut (contents_of root all) p (e ∷ es) cs → AreChildrenBut (contents_of root all) p es cs
  passes_missing p e es cs same gone h = record {
    sound = h.sound;
    complete = λ n there. elim (h.complete n there) [
      | inl k ↦ inl k
      | inr k ↦ elim (decided (text_eq e.child.name.items n)) [
        | inl it ↦ absurd (false≢true (sym there ∙ ap is_missing (at_child p n)
            ∙ ap (λ m. is_missing (item_in all p m)) (sym (same_text e.child.name.items n it)) ∙ gone))
        | inr no_name ↦ inr (sym (ap is_missing (other_name e es p n same no_name)) ∙ k)
      ]
    ];
  }

  -- an entry that holds something is listed
  pub pushes : (p : PathValue) (e : MemoryEntry) (es : List MemoryEntry) (cs ds : List Child) (c : Child)
      → path_eq e.child.parent p ≡ true → is_missing (item_in all p e.child.name.items) ≡ false
      → c.parent ≡ e.child.parent → c.name.items ≡ e.child.name.items → ds ≡ cs ++ c ∷ []
      → AreChildrenBut (contents_of root all) p (e ∷ es) cs → AreChildrenBut (contents_of root all) p es ds
  pushes p e es cs ds c same there at named more h = record {
    sound = subst (ArePresent (contents_of root all) p) (sym more)
        (present_both p cs (c ∷ []) h.sound (parent_is, (exists, tt)));
    complete = λ n is. elim (h.complete n is) [
      | inl k ↦ inl (subst (λ x. IsNamed x n) (sym more) (named_front cs (c ∷ []) n k))
      | inr k ↦ elim (decided (text_eq e.child.name.items n)) [
        | inl it ↦ inl (subst (λ x. IsNamed x n) (sym more)
            (named_back cs (c ∷ []) n (inl (named ∙ same_text e.child.name.items n it))))
        | inr no_name ↦ inr (sym (ap is_missing (other_name e es p n same no_name)) ∙ k)
      ]
    ];
  }
    where
      parent_is : c.parent ≡ p
      parent_is = at ∙ same_path e.child.parent p same

      exists : is_missing (contents_of root all (path_of c)) ≡ false
      exists =
          ap (λ q. is_missing (contents_of root all (q ++ c.name.items ∷ []))) parent_is
          ∙ ap is_missing (at_child p c.name.items) ∙ ap (λ m. is_missing (item_in all p m)) named ∙ there
