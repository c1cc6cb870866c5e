-- What follows a prefix of a path, by the texts of both.
use Rattle.std.proofs.Common.{◌≡◌, ℕ, true, false, List, [], ◌∷◌, ◌++◌, Some, None, refl, sym, ap}
use Rattle.std.proofs.Common.{subst, ◌∙◌, append_assoc}
use Rattle.std.proofs.lemmas.List.{append_cancel_left}
use Rattle.std.proofs.lemmas.Bool.{true≢false, false≢true}
use Rattle.std.specs.Bool.{if◌then◌else◌}
use Rattle.std.specs.Option.{unwrap_or, is_some}
use Rattle.std.specs.Ordering.{is_eq}
use Rattle.std.specs.Cmp.Lexicographic.{nat_list_eq_equiv}
use Rattle.std.specs.Str.Pattern.{StripsPrefix, FindsTextPrefix}
use Rattle.std.specs.declared.cmp.Ordering.{Ordering}
use Rattle.std.specs.declared.cmp.Ordering.TheVariants.{Less, Equal, Greater}
use Rattle.retro_path.specs.Order.{text_eq, text_exact, text_ties}
use Rattle.retro_path.specs.Name.{AllNames}
use Rattle.retro_path.specs.Path.{PathValue, below}
use Rattle.retro_path.specs.Slashed.{slashed}
use Rattle.retro_path.specs.inner.PathText.{names_in, IsPathText, at_slash}
use Rattle.retro_path.proofs.Slashes.{IsFree, name_is_free, or_first, or_last, and_first, and_last}
use Rattle.retro_path.proofs.Slashes.{slashed_append, names_of_text, text_of_names}

-- ---- prefixes
same_text : (x y : List ℕ) → text_eq x y ≡ true → x ≡ y
same_text x y e = text_exact x y (tied _ (sym (text_ties x y) ∙ e))
  where
    tied : (r : Ordering) → is_eq r ≡ true → r ≡ Equal
    tied Less e = absurd (false≢true e)
    tied Equal e = refl
    tied Greater e = absurd (false≢true e)

some_same : (x y : PathValue) → Some x ≡ Some y → x ≡ y
some_same x y e = ap (λ o. unwrap_or o x) e

none_some : (x : PathValue) → None ≡ Some x → ⊥
none_some x e = false≢true (ap is_some e)

below_append : (p rest : PathValue) → below p (p ++ rest) ≡ Some rest
below_append [] rest = refl
below_append (x ∷ p) rest = ap (λ b. if b then below p (p ++ rest) else None) (nat_list_eq_equiv.refl x)
    ∙ below_append p rest

below_split : (p q rest : PathValue) → below p q ≡ Some rest → q ≡ p ++ rest
below_split [] q rest e = some_same q rest e
below_split (x ∷ p) [] rest e = absurd (none_some rest e)
below_split (x ∷ p) (y ∷ q) rest e =
    elim (text_eq x y) as (λ b. text_eq x y ≡ b → (if b then below p q else None) ≡ Some rest
    → y ∷ q ≡ x ∷ (p ++ rest)) [
      | true ↦ λ same here. λ i. sym (same_text x y same) i ∷ below_split p q rest here i
      | false ↦ λ same here. absurd (none_some rest here)
    ] refl e

-- ---- texts that are empty or begin with a slash
pub slashed_at_slash : (p : PathValue) → at_slash (slashed p) ≡ true
slashed_at_slash [] = refl
slashed_at_slash (n ∷ p) = refl

append_at_slash : (p : PathValue) (rest : List ℕ) → at_slash rest ≡ true → at_slash (slashed p ++ rest) ≡ true
append_at_slash [] rest h = h
append_at_slash (n ∷ p) rest h = refl

pub same_front : (n x a b : List ℕ) → IsFree n → IsFree x → at_slash a ≡ true → at_slash b ≡ true → n ++ a ≡ x ++ b
    → (n ≡ x) × (a ≡ b)
same_front [] [] a b h k s t e = (refl, e)
same_front [] (y ∷ x) a b h k s t e = absurd (true≢false (sym s ∙ ap at_slash e ∙ or_first _ _ k))
same_front (y ∷ n) [] a b h k s t e = absurd (true≢false (sym t ∙ ap at_slash (sym e) ∙ or_first _ _ h))
same_front (y ∷ n) (z ∷ x) a b h k s t e =
    let rest : n ++ a ≡ x ++ b = cc in
    let head : y ≡ z = cc in
    let both = same_front n x a b (or_last _ _ h) (or_last _ _ k) s t rest in
    ((λ i. head i ∷ both.0 i), both.1)

-- what follows the text of a prefix is the text of the names that follow it
follows : (p q : PathValue) (rest : List ℕ) → AllNames p → AllNames q → at_slash rest ≡ true
    → slashed q ≡ slashed p ++ rest → (r : PathValue) × (q ≡ p ++ r) × (rest ≡ slashed r)
follows [] q rest h k s e = (q, refl, sym e)
follows (x ∷ p) [] rest h k s e = cc
follows (x ∷ p) (n ∷ q) rest h k s e =
    let tails : n ++ slashed q ≡ (x ++ slashed p) ++ rest = cc in
    let both = same_front n x (slashed q) (slashed p ++ rest) (name_is_free n (and_first _ _ k))
    (name_is_free x (and_first _ _ h)) (slashed_at_slash q) (append_at_slash p rest s)
    (tails ∙ append_assoc x (slashed p) rest) in
    let more = follows p q rest (and_last _ _ h) (and_last _ _ k) s both.1 in
    (more.0, (λ i. both.0 i ∷ more.1 i), more.2)

all_last : (p r : PathValue) → AllNames (p ++ r) → AllNames r
all_last [] r h = h
all_last (n ∷ p) r h = all_last p r (and_last _ _ h)

-- a prefix, by the texts
pub is_prefix : (text prefix rest : List ℕ) → IsPathText text → IsPathText prefix → text ≡ prefix ++ rest
    → at_slash rest ≡ true → IsPathText rest × (below (names_in prefix) (names_in text) ≡ Some (names_in rest))
is_prefix text prefix rest h k e s =
    let p = names_in prefix in
    let q = names_in text in
    let more = follows p q rest k.names h.names s (sym h.text_is ∙ e ∙ ap (λ t. t ++ rest) k.text_is) in
    let all = all_last p more.0 (subst AllNames more.1 h.names) in (
      text_of_names rest more.0 all more.2,
      ap (below p) more.1 ∙ below_append p more.0 ∙ ap Some (sym (names_of_text rest more.0 all more.2)),
    )

no_rest : (p q : PathValue) → ((r : PathValue) → q ≡ p ++ r → ⊥) → below p q ≡ None
no_rest p q h = elim (below p q) as (λ o. below p q ≡ o → o ≡ None) [
  | None ↦ λ e. refl
  | Some r ↦ λ e. absurd (h r (below_split p q r e))
] refl

texts_follow : (text prefix : List ℕ) → IsPathText text → IsPathText prefix → (r : PathValue)
    → names_in text ≡ names_in prefix ++ r → text ≡ prefix ++ slashed r
texts_follow text prefix h k r e = h.text_is ∙ ap slashed e ∙ slashed_append (names_in prefix) r
    ∙ ap (λ t. t ++ slashed r) (sym k.text_is)

-- no prefix, by the texts
pub no_prefix : (text prefix : List ℕ) → IsPathText text → IsPathText prefix
    → ((rest : List ℕ) → text ≡ prefix ++ rest → ⊥) → below (names_in prefix) (names_in text) ≡ None
no_prefix text prefix h k none =
    no_rest (names_in prefix) (names_in text) (λ r e. none (slashed r) (texts_follow text prefix h k r e))

pub cut_name : (text prefix rest : List ℕ) → IsPathText text → IsPathText prefix → text ≡ prefix ++ rest
    → at_slash rest ≡ false → below (names_in prefix) (names_in text) ≡ None
cut_name text prefix rest h k e s =
    no_rest (names_in prefix) (names_in text) (λ r is.
    true≢false (sym (slashed_at_slash r)
    ∙ ap at_slash (append_cancel_left prefix (slashed r) rest (sym (texts_follow text prefix h k r is) ∙ e)) ∙ s))

-- what `strip_prefix` finds
pub prefix_found : (text prefix rest : List ℕ) → StripsPrefix (FindsTextPrefix prefix) text rest → text ≡ prefix ++ rest
prefix_found text prefix rest h = h.1.1 ∙ ap (λ t. prefix ++ t) (sym h.2)
