-- Lists that are written and read back item by item.
use Rattle.std.proofs.Common.{◌≡◌, List, [], ◌∷◌, map, Bool, true, ◌&&◌, Result, Ok, refl}
use Rattle.std.specs.List.{list_all}
use Rattle.std.proofs.lemmas.Bool.{and_parts, and_from}
use Rattle.retro_json.specs.declared.fault.Refusal.{Refusal}
use Rattle.retro_json.specs.Worst.{every}

-- each item that passes a test is read back from what it was written as
pub every_again : {X A B : Type 0} (f : A → Result B Refusal) (g : X → A) (h : X → B) (test : X → Bool)
    → ((x : X) → test x ≡ true → f (g x) ≡ Ok (h x)) → (xs : List X) → list_all test xs ≡ true
    → every f (map g xs) ≡ Ok (map h xs)
unfolding every
every_again f g h test one [] all = refl
every_again f g h test one (x ∷ xs) all =
    let both = and_parts (test x) (list_all test xs) all in
    rw (one x both.0, every_again f g h test one xs both.1) refl

pub all_both : {X : Type 0} (p q : X → Bool) (xs : List X) → list_all p xs ≡ true → list_all q xs ≡ true
    → list_all (λ x. p x && q x) xs ≡ true
all_both p q [] a b = refl
all_both p q (x ∷ xs) a b =
    let c = and_parts (p x) (list_all p xs) a in
    let d = and_parts (q x) (list_all q xs) b in
    and_from (p x && q x) _ (and_from (p x) (q x) c.0 d.0) (all_both p q xs c.1 d.1)

pub map_unchanged : {X : Type 0} (xs : List X) → map (λ x. x) xs ≡ xs
map_unchanged [] = refl
map_unchanged (x ∷ xs) = λ i. x ∷ map_unchanged xs i
