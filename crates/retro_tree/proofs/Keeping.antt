-- The changes that keep a lawful state lawful.
use Rattle.std.proofs.Common.{◌≡◌, ◌≤◌, ℕ, true, false, List, [], length, Option, Some, None, refl, sym, ap, ◌∙◌}
use Rattle.std.proofs.Common.{nat_le, ◌&&◌, subst, ⊎_elim, arith}
use Rattle.std.proofs.lemmas.Bool.{cases_eq, leb-true, le-leb}
use Rattle.std.specs.Ordering.{nat_cmp}
use Rattle.std.specs.Option.{unwrap_or}
use Rattle.std.specs.Cmp.{nat_cmp_total}
use Rattle.std.specs.FinMap as map
use Rattle.std.specs.FinMap.{nat_cmp-IsAntisymmetric}
use Rattle.retro_tree.specs.Maps.{update}
use Rattle.retro_tree.specs.Order.{text_cmp, text_total, text_exact}
use Rattle.retro_tree.specs.Name.{AllNames}
use Rattle.retro_tree.specs.Path.{PathValue, is_null}
use Rattle.retro_tree.specs.Node.{file_limit}
use Rattle.retro_tree.specs.Session.{default_session, session_in, value_limit, unset, without_var}
use Rattle.retro_tree.specs.Setting.{with_setting, setting_fits}
use Rattle.retro_tree.specs.State.{put_node, grow_file, put_status, permit_of}
use Rattle.retro_tree.specs.Limits.{IsLawfulSession, AreLawfulSessions, values_fit}
use Rattle.retro_tree.specs.Lawful.{IsLawful}
use Rattle.retro_tree.specs.declared.node.Node.TheVariants.{File}
use Rattle.retro_tree.specs.declared.permit.Permit.TheVariants.{Yes}
use Rattle.retro_tree.specs.declared.session.Session.{Session}
use Rattle.retro_tree.specs.declared.setting.Setting.{Setting}
use Rattle.retro_tree.specs.declared.setting.Setting.TheVariants.{Var, Cwd, Status}
use Rattle.retro_tree.specs.declared.state.State.{State}
use Rattle.retro_tree.proofs.Small.{some_same, none_some, first_true, both_true}
use Rattle.retro_tree.proofs.Lookups.{one_or_two, get_inserted, get_inserted_apart, get_removed, get_removed_apart}
use Rattle.retro_tree.proofs.WholeLaw.{values_from_test}
use Rattle.retro_tree.proofs.FilesAllowed.{file_allowed, growth_allowed}

-- ---- files
pub lawful_file : (p : PathValue) (bytes : List ℕ) (n : ℕ) (s : State) → IsLawful s → AllNames p
    → is_null p ≡ false → permit_of p n s ≡ Yes → length bytes ≤ file_limit → IsLawful (put_node p (File bytes) s)
lawful_file p bytes n s l names apart may fit =
    record { tree = file_allowed p bytes s.tree n l.tree names apart may fit; sessions = l.sessions }

pub lawful_empty : (p : PathValue) (n : ℕ) (s : State) → IsLawful s → AllNames p → is_null p ≡ false
    → permit_of p n s ≡ Yes → IsLawful (put_node p (File []) s)
lawful_empty p n s l names apart may = lawful_file p [] n s l names apart may (omega arith)

pub lawful_growth : (p : PathValue) (bytes : List ℕ) (s : State) → IsLawful s → AllNames p → is_null p ≡ false
    → permit_of p (length bytes) s ≡ Yes → IsLawful (grow_file p bytes s)
lawful_growth p bytes s l names apart may =
    record { tree = growth_allowed p bytes s.tree l.tree names apart may; sessions = l.sessions }

-- ---- sessions
default_is_lawful : IsLawfulSession default_session
unfolding default_session
default_is_lawful =
    record {
      status = omega arith;
      values =
          λ name value is. absurd (none_some value (sym (map.get-empty text_cmp name) ∙ is));
    }

pub session_is_lawful : (m : map.FinMap nat_cmp Session) (sid : ℕ) → AreLawfulSessions m
    → IsLawfulSession (session_in sid m)
unfolding AreLawfulSessions
session_is_lawful m sid l = go (map.get m sid) refl
  where
    go : (o : Option Session) → map.get m sid ≡ o → IsLawfulSession (unwrap_or o default_session)
    go None is = default_is_lawful
    go (Some t) is = l sid t is

with_lawful_setting : (setting : Setting) (t : Session) → setting_fits setting ≡ true → IsLawfulSession t
    → IsLawfulSession (with_setting setting t)
with_lawful_setting (Var name text) t fit l = record { status = l.status; values = values }
  where
    values : (q value : List ℕ) → map.get (map.insert t.vars name text) q ≡ Some value → length value ≤ value_limit
    values q value is =
        ⊎_elim
        (λ e. subst (λ v. length v ≤ value_limit)
        (some_same text value (sym (get_inserted text_total t.vars name text)
        ∙ ap (map.get (map.insert t.vars name text)) (sym e) ∙ is)) (leb-true _ _ fit))
        (λ ne. l.values q value (sym (get_inserted_apart text_total text_exact t.vars name text q ne) ∙ is))
        (one_or_two text_total text_exact q name)
with_lawful_setting (Cwd p) t fit l = record { status = l.status; values = l.values }
with_lawful_setting (Status status) t fit l = record { status = leb-true _ _ fit; values = l.values }

inserted : (m : map.FinMap nat_cmp Session) (sid : ℕ) (new : Session) → AreLawfulSessions m
    → IsLawfulSession new → AreLawfulSessions (map.insert m sid new)
unfolding AreLawfulSessions
inserted m sid new l fit other t is =
    ⊎_elim
    (λ e. subst IsLawfulSession (some_same new t (sym (get_inserted nat_cmp_total m sid new)
    ∙ ap (map.get (map.insert m sid new)) (sym e) ∙ is)) fit)
    (λ ne. l other t (sym (get_inserted_apart nat_cmp_total nat_cmp-IsAntisymmetric m sid new other ne) ∙ is))
    (cases_eq other sid)

pub settings : (m : map.FinMap nat_cmp Session) (sid : ℕ) (setting : Setting) → AreLawfulSessions m
    → setting_fits setting ≡ true → AreLawfulSessions (update m sid default_session (with_setting setting))
settings m sid setting l fit =
    inserted m sid (with_setting setting (session_in sid m)) l
    (with_lawful_setting setting (session_in sid m) fit (session_is_lawful m sid l))

pub added : (m : map.FinMap nat_cmp Session) (sid : ℕ) (new : Session) → AreLawfulSessions m
    → (nat_le new.status 255 && values_fit new.vars) ≡ true → AreLawfulSessions (map.insert m sid new)
added m sid new l fit =
    inserted m sid new l (record {
      status = leb-true _ _ (first_true (nat_le new.status 255) _ fit);
      values = values_from_test new.vars (both_true (nat_le new.status 255) _ fit);
    })

without_lawful : (t : Session) (name : List ℕ) → IsLawfulSession t → IsLawfulSession (without_var name t)
without_lawful t name l = record { status = l.status; values = values }
  where
    values : (q value : List ℕ) → map.get (map.remove t.vars name) q ≡ Some value → length value ≤ value_limit
    values q value is =
        ⊎_elim
        (λ e. absurd (none_some value (sym (get_removed text_total t.vars name)
        ∙ ap (map.get (map.remove t.vars name)) (sym e) ∙ is)))
        (λ ne. l.values q value (sym (get_removed_apart text_total text_exact t.vars name q ne) ∙ is))
        (one_or_two text_total text_exact q name)

pub unset_keeps : (m : map.FinMap nat_cmp Session) (sid : ℕ) (name : List ℕ) → AreLawfulSessions m
    → AreLawfulSessions (unset (map.get m sid) sid name m)
unfolding AreLawfulSessions
unset_keeps m sid name l = go (map.get m sid) refl
  where
    go : (o : Option Session) → map.get m sid ≡ o → AreLawfulSessions (unset o sid name m)
    go None is = l
    go (Some t) is = inserted m sid (without_var name t) l (without_lawful t name (l sid t is))

pub lawful_status : (sid status : ℕ) (s : State) → IsLawful s → status ≤ 255 → IsLawful (put_status sid status s)
lawful_status sid status s l fit =
    record { tree = l.tree; sessions = settings s.sessions sid (Status status) l.sessions (le-leb _ _ fit) }

pub ruleset keeping = (lawful_file, lawful_empty, lawful_growth, lawful_status)
