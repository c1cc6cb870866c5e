-- How the values that the code builds are seen.
use Rattle.std.proofs.Common.{◌≡◌, ℕ, length, arith, List, [], ◌∷◌, ◌++◌, map, reverse, Some, None, true, refl, ap}
use Rattle.std.proofs.Common.{option_map}
use Rattle.std.proofs.lemmas.List.{reverse-append}
use Rattle.retro_syntax.specs.Tree as T
use Rattle.retro_syntax.specs.Parsing.{all_closed, listed, Open, Frame, close_by, condition, consequence, alternative}
use Rattle.retro_syntax.specs.Parsing.{body}
use Rattle.retro_syntax.specs.declared.tree.ReservedWord.{ReservedWord}
use Rattle.retro_syntax.specs.declared.tree.ReservedWord.TheVariants.{Then as key_then, Elif as key_elif}
use Rattle.retro_syntax.specs.declared.tree.ReservedWord.TheVariants.{Else as key_else, Fi as key_fi, Done as key_done}

pub all_closed-listed : (ds : List T.AndOr) (a : T.AndOr) → all_closed (ds ++ a ∷ []) ≡ Some (listed ds a true)
all_closed-listed [] a = refl
all_closed-listed (d ∷ []) a = refl
all_closed-listed (d ∷ e ∷ ds) a = ap (option_map (T.more d)) (all_closed-listed (e ∷ ds) a)

pub map-push : {A B : Type 0} (f : A → B) (xs : List A) (x : A) → map f (xs ++ x ∷ []) ≡ map f xs ++ f x ∷ []
map-push f [] x = refl
map-push f (y ∷ xs) x = ap (λ ys. f y ∷ ys) (map-push f xs x)

-- ---- words that end no list there

pub none_condition : (st : List (Open × Frame)) (o : Open) (xs : List (T.Commands × T.Commands)) (l : T.Commands)
    (k : ReservedWord) → (k ≡ key_then → ⊥) → None ≡ close_by st o (condition xs) l k
none_condition st o xs l key_then h = absurd (h refl)
none_condition st o xs l k h = refl

pub none_consequence : (st : List (Open × Frame)) (o : Open) (xs : List (T.Commands × T.Commands)) (c l : T.Commands)
    (k : ReservedWord)
    → (k ≡ key_elif → ⊥) → (k ≡ key_else → ⊥) → (k ≡ key_fi → ⊥) → None ≡ close_by st o (consequence xs c) l k
none_consequence st o xs c l key_elif h i j = absurd (h refl)
none_consequence st o xs c l key_else h i j = absurd (i refl)
none_consequence st o xs c l key_fi h i j = absurd (j refl)
none_consequence st o xs c l k h i j = refl

pub none_alternative : (st : List (Open × Frame)) (o : Open) (xs : List (T.Commands × T.Commands)) (c t l : T.Commands)
    (k : ReservedWord) → (k ≡ key_fi → ⊥) → None ≡ close_by st o (alternative xs c t) l k
none_alternative st o xs c t l key_fi h = absurd (h refl)
none_alternative st o xs c t l k h = refl

pub none_body : (st : List (Open × Frame)) (o : Open) (n : List ℕ) (ws : List T.Word) (l : T.Commands)
    (k : ReservedWord) → (k ≡ key_done → ⊥) → None ≡ close_by st o (body n ws) l k
none_body st o n ws l key_done h = absurd (h refl)
none_body st o n ws l k h = refl

pub reverse-push : {A : Type 0} (xs : List A) (x : A) → reverse (xs ++ x ∷ []) ≡ x ∷ reverse xs
reverse-push xs x = reverse-append xs (x ∷ [])

pub nil_from_length : {A : Type 0} (xs : List A) → length xs ≡ 0 → xs ≡ []
nil_from_length [] h = refl
nil_from_length (x ∷ xs) h = absurd (omega arith)
