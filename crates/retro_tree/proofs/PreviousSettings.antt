-- Entries of a finite map inserted twice, restored and removed; settings restored.
use Rattle.std.proofs.Common.{◌≡◌, ℕ, Bool, true, false, cond, List, Option, Some, None, refl, sym, ap, ◌∙◌, nat_cmp}
use Rattle.std.specs.Option.{is_some, unwrap_or}
use Rattle.std.specs.Ordering.{eq_by_cmp}
use Rattle.std.specs.Cmp.{IsTotalOrder}
use Rattle.std.specs.declared.cmp.Ordering.{Ordering}
use Rattle.std.specs.FinMap as map
use Rattle.std.specs.FinMap.{FinMap, IsAntisymmetric, get-insert, get-remove, same_map}
use Rattle.retro_tree.specs.Order.{text_total, text_exact}
use Rattle.retro_tree.specs.Session.{default_session, session_in}
use Rattle.retro_tree.specs.Setting.{with_setting}
use Rattle.retro_tree.specs.inner.Previous.{with_previous, previous_of, previous_var}
use Rattle.retro_tree.specs.declared.session.Session.{Session}
use Rattle.retro_tree.specs.declared.setting.Setting.{Setting}
use Rattle.retro_tree.specs.declared.setting.Setting.TheVariants.{Cwd, Var, Status}
use Rattle.retro_tree.proofs.Small.{tied}
use Rattle.retro_tree.proofs.Lookups.{get_inserted}

module _ {K X : Type 0} {R : K → K → Ordering} (total : IsTotalOrder R) (exact : IsAntisymmetric R) where
  twice : (b : Bool) (x y z : Option X) → cond b x (cond b y z) ≡ cond b x z
  twice true x y z = refl
  twice false x y z = refl

  -- equal keys have equal values
  back : (m : FinMap R X) (k q : K) (o : Option X) → map.get m k ≡ o → cond (eq_by_cmp R q k) o (map.get m q)
      ≡ map.get m q
  back m k q o is = go (eq_by_cmp R q k) refl
    where
      go : (b : Bool) → eq_by_cmp R q k ≡ b → cond b o (map.get m q) ≡ map.get m q
      go true t = sym is ∙ ap (map.get m) (sym (exact q k (tied _ t)))
      go false t = refl

  -- the later entry stays
  pub inserted_twice : (m : FinMap R X) (k : K) (x y : X) → map.insert (map.insert m k x) k y ≡ map.insert m k y
  inserted_twice m k x y = same_map total exact _ _ (λ q.
      get-insert total (map.insert m k x) k y q ∙ ap (cond (eq_by_cmp R q k) (Some y)) (get-insert total m k x q)
      ∙ twice (eq_by_cmp R q k) (Some y) (Some x) (map.get m q) ∙ sym (get-insert total m k y q))

  -- an entry inserted that the map has already
  pub inserted_again : (m : FinMap R X) (k : K) (x : X) → map.get m k ≡ Some x → map.insert m k x ≡ m
  inserted_again m k x is = same_map total exact _ _ (λ q. get-insert total m k x q ∙ back m k q (Some x) is)

  -- a new entry removed
  pub removed_again : (m : FinMap R X) (k : K) (x : X) → map.get m k ≡ None → map.remove (map.insert m k x) k ≡ m
  removed_again m k x is = same_map total exact _ _ (λ q.
      get-remove total (map.insert m k x) k q ∙ ap (cond (eq_by_cmp R q k) None) (get-insert total m k x q)
      ∙ twice (eq_by_cmp R q k) None (Some x) (map.get m q) ∙ back m k q None is)

  -- an entry put in the place of another, and that one put back
  pub put_back : (m : FinMap R X) (k : K) (x y : X) → map.get m k ≡ Some x → map.insert (map.insert m k y) k x ≡ m
  put_back m k x y is = inserted_twice m k y x ∙ inserted_again m k x is

  pub key_inserted : (m : FinMap R X) (k : K) (x : X) → map.contains_key (map.insert m k x) k ≡ true
  key_inserted m k x = ap is_some (get_inserted total m k x)

-- ---- sessions
pub session_is : (m : FinMap nat_cmp Session) (sid : ℕ) (x : Session) → map.get m sid ≡ Some x → session_in sid m ≡ x
session_is m sid x is = ap (λ o. unwrap_or o default_session) is

-- a previous setting restored
pub set_back : (x : Setting) (s : Session) → with_previous (previous_of x s) (with_setting x s) ≡ s
set_back (Cwd p) s = refl
set_back (Status n) s = refl
set_back (Var name text) s = go (map.get s.vars name) refl
  where
    go : (o : Option (List ℕ)) → map.get s.vars name ≡ o
        → with_previous (previous_var name o) (with_setting (Var name text) s) ≡ s
    go None is = ap (λ vs. record s { vars = vs }) (removed_again text_total text_exact s.vars name text is)
    go (Some t) is = ap (λ vs. record s { vars = vs }) (put_back text_total text_exact s.vars name t text is)
