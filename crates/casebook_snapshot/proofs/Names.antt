-- Names, and the reasons that follow from them.
use Rattle.std.proofs.Common.{◌≡◌, ℕ, true, false, not, sym, ap, ◌∙◌, inl, inr, List, [], ◌∷◌, ◌++◌}
use Rattle.std.proofs.Common.{Some, None, length}
use Rattle.std.specs.Prelude.{if◌then◌else◌, ◌==◌, ◌&&◌, nat_lt}
use Rattle.std.specs.List.{list_any}
use Rattle.std.specs.Str.{is_utf8, IsUtf8}
use Rattle.std.proofs.lemmas.Str.{IsUtf8-from_is_utf8, is_utf8-from_IsUtf8}
use Rattle.retro_path.specs.Name.{is_name, name_limit}
use Rattle.retro_path.specs.Path.{PathValue}
use Rattle.retro_path.specs.Ascii.{nul}
use Rattle.std.proofs.lemmas.Bool.{false≢true}
use Rattle.casebook_folder.proofs.Small.{both_and, decided, last_and}
use Rattle.casebook_snapshot.specs.Reasons.{is_plain_name, name_reason}
use Rattle.casebook_snapshot.specs.Children.{child_path, child_path_by}
use Rattle.casebook_snapshot.specs.declared.child.Child.{Child}
use Rattle.casebook_snapshot.specs.declared.child.ChildPath.TheVariants.{Is}
use Rattle.casebook_snapshot.specs.declared.reason.Reason.TheVariants.{NameTooLong, OddName}

pub not_utf8 : (bs : List ℕ) → ¬ (IsUtf8 bs) → is_utf8 bs ≡ false
not_utf8 bs h = elim (decided (is_utf8 bs)) [
  | inl e ↦ absurd (h (IsUtf8-from_is_utf8 bs e))
  | inr e ↦ e
]

pub utf8 : (bs : List ℕ) → IsUtf8 bs → is_utf8 bs ≡ true
utf8 bs h = is_utf8-from_IsUtf8 bs h

pub odd_text : (bs : List ℕ) → ¬ (IsUtf8 bs) → is_plain_name bs ≡ false
unfolding is_plain_name
odd_text bs h = elim (decided (list_any (λ b. b == nul) bs)) [
  | inl e ↦ ap (λ b. not b && (is_utf8 bs && is_name bs)) e
  | inr e ↦ ap (λ b. not b && (is_utf8 bs && is_name bs)) e ∙ ap (λ b. b && is_name bs) (not_utf8 bs h)
]

pub has_nul : (bs : List ℕ) → list_any (λ b. b == nul) bs ≡ true → is_plain_name bs ≡ false
unfolding is_plain_name
has_nul bs e = ap (λ b. not b && (is_utf8 bs && is_name bs)) e

pub no_name : (bs : List ℕ) → is_name bs ≡ false → is_plain_name bs ≡ false
unfolding is_plain_name
no_name bs h = elim (decided (is_plain_name bs)) [
  | inl e ↦ absurd (false≢true (sym h
      ∙ last_and (is_utf8 bs) (is_name bs) (last_and (not (list_any (λ b. b == nul) bs)) (is_utf8 bs && is_name bs) e)))
  | inr e ↦ e
]

pub ruleset names = (odd_text, has_nul, no_name)

-- the path of a child whose name can be in a row
pub plain_path : (c : Child) (p : PathValue) (n : List ℕ) → nat_lt name_limit (length c.name.items) ≡ false
    → list_any (λ b. b == nul) c.name.items ≡ false → IsUtf8 c.name.items → is_name n ≡ true
    → n ≡ c.name.items → p ≡ c.parent ++ n ∷ [] → Is p ≡ child_path c
unfolding is_plain_name
plain_path c p n few none text name same is =
    ap (λ x. Is x) (is ∙ ap (λ x. c.parent ++ x ∷ []) same) ∙ sym (ap (child_path_by c) no_reason)
  where
    plain : is_plain_name c.name.items ≡ true
    plain =
        both_and (not (list_any (λ b. b == nul) c.name.items)) (is_utf8 c.name.items && is_name c.name.items) (ap not none)
        (both_and (is_utf8 c.name.items) (is_name c.name.items) (utf8 c.name.items text) (ap is_name (sym same) ∙ name))

    no_reason : name_reason c.name.items ≡ None
    no_reason =
        ap (λ b. if b then Some NameTooLong else (if is_plain_name c.name.items then None else Some OddName)) few
        ∙ ap (λ b. if b then None else Some OddName) plain
