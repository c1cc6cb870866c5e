-- The texts of /dev/null and /etc/passwd.
use Rattle.std.proofs.Common.{◌≡◌, ℕ, Bool, true, false, ◌&&◌, List, [], ◌∷◌, None, refl, sym, ap, ◌∙◌, nat_eq}
use Rattle.std.specs.Prelude.{codes, is_some, not}
use Rattle.std.specs.Bool.{if◌then◌else◌}
use Rattle.std.specs.Cmp.Lexicographic.{pointwise}
use Rattle.retro_path.specs.Order.{path_eq, text_eq, path_equiv}
use Rattle.retro_path.proofs.PathOrder.{equal_texts}
use Rattle.retro_path.specs.Name.{is_name}
use Rattle.retro_path.specs.Path.{PathValue, below, null_path, nothing_left, passwd, may_exist}
use Rattle.retro_path.specs.inner.PathText.{names_in, IsPathText}
use Rattle.retro_path.proofs.Slashes.{names_of_text, text_of_names}

pub passwd_names : names_in (codes "/etc/passwd") ≡ passwd
unfolding passwd is_name
passwd_names = names_of_text (codes "/etc/passwd") (codes "etc" ∷ codes "passwd" ∷ []) refl refl

pub passwd_is : IsPathText (codes "/etc/passwd")
unfolding is_name
passwd_is = text_of_names (codes "/etc/passwd") (codes "etc" ∷ codes "passwd" ∷ []) refl refl

pub null_names : names_in (codes "/dev/null") ≡ null_path
unfolding is_name
null_names = names_of_text (codes "/dev/null") null_path refl refl

pub null_is : IsPathText (codes "/dev/null")
unfolding is_name
null_is = text_of_names (codes "/dev/null") null_path refl refl

-- a path with nothing after a prefix is the prefix
pub left_is_equal : (p q : PathValue) → nothing_left (below p q) ≡ path_eq p q
left_is_equal [] [] = refl
left_is_equal [] (n ∷ q) = refl
left_is_equal (n ∷ p) [] = refl
left_is_equal (n ∷ p) (m ∷ q) = elim (text_eq n m) as (λ b. nothing_left (if b then below p q else None) ≡ (b && path_eq p q)) [
  | true ↦ left_is_equal p q
  | false ↦ refl
]

-- whether a text is that of the path of the password file
pub passwd_tested : (t : List ℕ) → IsPathText t → pointwise nat_eq t (codes "/etc/passwd") ≡ path_eq passwd (names_in t)
passwd_tested t h = equal_texts t (codes "/etc/passwd") h passwd_is ∙ ap (path_eq (names_in t)) passwd_names
    ∙ path_equiv.symm (names_in t) passwd

-- whether a text is that of /dev/null
pub null_tested : (t : List ℕ) → IsPathText t → pointwise nat_eq t (codes "/dev/null")
    ≡ nothing_left (below null_path (names_in t))
null_tested t h = equal_texts t (codes "/dev/null") h null_is ∙ ap (path_eq (names_in t)) null_names
    ∙ path_equiv.symm (names_in t) null_path ∙ sym (left_is_equal null_path (names_in t))

pub may_exist_tested : (t : List ℕ) → IsPathText t
    → not (is_some (below (names_in (codes "/dev/null")) (names_in t))) ≡ may_exist (names_in t)
unfolding may_exist
may_exist_tested t h = ap (λ p. not (is_some (below p (names_in t)))) null_names
    ∙ and_true (not (is_some (below null_path (names_in t))))
    ∙ ap (λ b. not (is_some (below null_path (names_in t))) && b) (sym h.names)
  where
    and_true : (b : Bool) → b ≡ (b && true)
    and_true true = refl
    and_true false = refl
