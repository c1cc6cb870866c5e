-- What a field is, by the escape at its front.
use Rattle.std.proofs.Common.{◌≡◌, ◌∙◌, ℕ, ◌<◌, ◌≤◌, Bool, true, false, List, [], ◌∷◌, ◌++◌}
use Rattle.std.proofs.Common.{length, drop, get_or, Some, None, refl, sym, ap, arith, append-nil}
use Rattle.std.proofs.Common.{append_assoc}
use Rattle.std.specs.Prelude.{if◌then◌else◌}
use Rattle.casebook_host.specs.Escapes.{escape_of, is_escape, octal, unescaped}

without : {X Y : Type 0} (test : Bool) (x : X) (u v : Y) → (if test then Some x else None) ≡ None
    → (if test then u else v) ≡ v
without true x u v none = cc
without false x u v none = refl

with_some : {X Y : Type 0} (f : X → Y) (test : Bool) (x y : X) (v : Y)
    → (if test then Some x else None) ≡ Some y → (if test then f x else v) ≡ f y
with_some f true x y v some = let same : x ≡ y = cc in ap f same
with_some f false x y v some = cc

-- without an escape, the first byte is itself
plain_byte : (b : ℕ) (rest : List ℕ) → escape_of (b ∷ rest) ≡ None
    → unescaped (b ∷ rest) ≡ b ∷ unescaped rest
unfolding unescaped
plain_byte b [] none = refl
plain_byte b (x ∷ []) none = refl
plain_byte b (x ∷ y ∷ []) none = refl
plain_byte b (x ∷ y ∷ z ∷ rest) none =
    without (is_escape b x y z) (octal x y z, rest) (octal x y z ∷ unescaped rest)
    (b ∷ unescaped (x ∷ y ∷ z ∷ rest)) none

-- an escape is the byte that it stands for
escaped_byte : (text : List ℕ) (escape : ℕ × List ℕ) → escape_of text ≡ Some escape
    → unescaped text ≡ escape.0 ∷ unescaped escape.1
unfolding unescaped
escaped_byte [] escape some = cc
escaped_byte (s ∷ []) escape some = cc
escaped_byte (s ∷ x ∷ []) escape some = cc
escaped_byte (s ∷ x ∷ y ∷ []) escape some = cc
escaped_byte (s ∷ x ∷ y ∷ z ∷ rest) escape some =
    with_some (λ (e : ℕ × List ℕ). e.0 ∷ unescaped e.1) (is_escape s x y z) (octal x y z, rest)
    escape (s ∷ unescaped (x ∷ y ∷ z ∷ rest)) some

-- nothing is left of a field
pub nothing_left : (so_far rest : List ℕ) → length rest < 1 → so_far ≡ so_far ++ unescaped rest
unfolding unescaped
nothing_left so_far [] below = sym (append-nil so_far)
nothing_left so_far (b ∷ rest) below = absurd (omega arith)

-- the first byte of a text without an escape at its front
pub plain_front : (so_far text rest : List ℕ) → 1 ≤ length text → escape_of text ≡ None
    → rest ≡ drop 1 text
    → (so_far ++ get_or text 0 0 ∷ []) ++ unescaped rest ≡ so_far ++ unescaped text
plain_front so_far [] rest long none is = absurd (omega arith)
plain_front so_far (b ∷ more) rest long none is =
    ap (λ t. (so_far ++ b ∷ []) ++ unescaped t) is
    ∙ append_assoc so_far (b ∷ []) (unescaped more)
    ∙ ap (λ t. so_far ++ t) (sym (plain_byte b more none))

-- an escape at the front of a text
pub escaped_front : (so_far text : List ℕ) (escape : ℕ × List ℕ) → escape_of text ≡ Some escape
    → (so_far ++ escape.0 ∷ []) ++ unescaped escape.1 ≡ so_far ++ unescaped text
escaped_front so_far text escape some =
    append_assoc so_far (escape.0 ∷ []) (unescaped escape.1)
    ∙ ap (λ t. so_far ++ t) (sym (escaped_byte text escape some))
