-- Numbers can be names.
use Rattle.std.proofs.Common.{◌≡◌, ◌∙◌, ℕ, ◌<◌, ◌^◌, ◌+◌, ◌%◌, Bool, true, false, not, ◌&&◌, ◌||◌, refl, ap}
use Rattle.std.proofs.Common.{List, [], ◌∷◌, ◌++◌, length, ◌==◌, arith, le-leb}
use Rattle.std.specs.Prelude.{IsTrue, codes, decimal}
use Rattle.std.specs.List.{list_any}
use Rattle.std.proofs.lemmas.Bool.{ne_eqb}
use Rattle.std.proofs.lemmas.Fmt.{decimal_by_steps, decimal_nonempty, length-decimal-le}
use Rattle.retro_tree.proofs.Small.{and_true}
use Rattle.retro_path.specs.Ascii.{slash}
use Rattle.retro_path.specs.Name.{is_name}
use Rattle.retro_path.specs.Order.{text_eq}

one_more : (a b c : Bool) → (a || b) ≡ false → (b ≡ false → c ≡ false) → (a || c) ≡ false
one_more true b c e more = e
one_more false b c e more = more e

any_more : (p : ℕ → Bool) (xs : List ℕ) (x : ℕ) → list_any p xs ≡ false → p x ≡ false
    → list_any p (xs ++ x ∷ []) ≡ false
any_more p [] x none last = ap (λ b. b || false) last
any_more p (y ∷ xs) x none last =
    one_more (p y) (list_any p xs) _ none (λ e. any_more p xs x e last)

first_false : (a b : Bool) → (a || b) ≡ false → a ≡ false
first_false true b e = e
first_false false b e = refl

-- a digit is no byte below 48
unlike : (c d : ℕ) → c < 48 → ((48 + d) == c) ≡ false
unlike c d small = ne_eqb (48 + d) c (λ e. omega (arith, e))

digit_free : (c : ℕ) → c < 48 → (n : ℕ) → n < 2 ^ 64 → list_any (λ b. b == c) (decimal n) ≡ false
digit_free c small n lt =
    decimal_by_steps (λ m ds. list_any (λ b. b == c) ds ≡ false)
    (λ d low. ap (λ b. b || false) (unlike c d small))
    (λ m ds low so_far. any_more (λ b. b == c) ds (48 + m % 10) so_far (unlike c (m % 10) small)) n lt

-- a text without a dot isn't one that begins with a dot
dotless : (bs rest : List ℕ) → list_any (λ b. b == 46) bs ≡ false → text_eq bs (46 ∷ rest) ≡ false
dotless [] rest none = refl
dotless (b ∷ bs) rest none = ap (λ t. t && text_eq bs rest) (first_false (b == 46) _ none)

pub number_is_name : (n : ℕ) → n < 2 ^ 64 → is_name (decimal n) ≡ true
unfolding is_name
number_is_name n small =
    and_true _ _ (le-leb 1 (length (decimal n)) (decimal_nonempty n small))
    (and_true _ _
    (le-leb (length (decimal n)) 255 (omega (arith, length-decimal-le 20 n (omega arith) (omega arith) small)))
    (and_true _ _ (ap not (digit_free slash (omega arith) n small))
    (ap not (ap (λ b. b || text_eq (decimal n) (codes "..")) (dotless (decimal n) [] (digit_free 46 (omega arith) n small))
    ∙ dotless (decimal n) (46 ∷ []) (digit_free 46 (omega arith) n small)))))

pub ours_is_name : is_name (codes ".casebook") ≡ true
unfolding is_name
ours_is_name = refl

pub shell_is_name : is_name (codes "shell") ≡ true
unfolding is_name
shell_is_name = refl

-- /.casebook and one name
pub one_name : (x : List ℕ) (n : ℕ) → n < 2 ^ 64 → x ≡ decimal n
    → IsTrue (is_name (codes ".casebook") && (is_name x && true))
one_name x n small e =
    and_true _ _ ours_is_name (and_true _ _ (ap is_name e ∙ number_is_name n small) refl)

pub two_names : (x y : List ℕ) (n k : ℕ) → n < 2 ^ 64 → k < 2 ^ 64 → x ≡ decimal n → y ≡ decimal k
    → IsTrue (is_name (codes ".casebook") && (is_name x && (is_name y && true)))
two_names x y n k small less e f =
    and_true _ _ ours_is_name (and_true _ _ (ap is_name e ∙ number_is_name n small)
    (and_true _ _ (ap is_name f ∙ number_is_name k less) refl))

pub shell_name : (x : List ℕ) (n : ℕ) → n < 2 ^ 64 → x ≡ decimal n
    → IsTrue (is_name (codes ".casebook") && (is_name (codes "shell") && (is_name x && true)))
shell_name x n small e =
    and_true _ _ ours_is_name (and_true _ _ shell_is_name
    (and_true _ _ (ap is_name e ∙ number_is_name n small) refl))
