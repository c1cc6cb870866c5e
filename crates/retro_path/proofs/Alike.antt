-- Texts that resolve alike in every directory.
use Rattle.std.proofs.Common.{◌≡◌, ℕ, Bool, true, false, not, ◌&&◌, List, [], ◌∷◌, refl}
use Rattle.std.specs.Prelude.{◌==◌}
use Rattle.std.specs.Bool.{if◌then◌else◌}
use Rattle.std.specs.List.{list_any}
use Rattle.std.proofs.lemmas.Bool.{true≢false}
use Rattle.retro_path.specs.Path.{PathValue}
use Rattle.retro_path.specs.Resolving.{parts_of, walk, is_long, is_relative, resolve}
use Rattle.retro_path.specs.declared.resolving.Resolved.TheVariants.{Is, LongName}

pub resolve_alike : (p q : PathValue) (text : List ℕ) → is_relative text ≡ false → resolve p text ≡ resolve q text
unfolding is_relative
resolve_alike p q [] h = refl
resolve_alike p q (b ∷ text) h = go (b == 47) (list_any is_long (parts_of (b ∷ text))) h
  where
    go : (x y : Bool) → (not x && not y) ≡ false
        → if y then LongName else Is (walk (if x then [] else p) (parts_of (b ∷ text)))
        ≡ if y then LongName else Is (walk (if x then [] else q) (parts_of (b ∷ text)))
    go true y e = refl
    go false true e = refl
    go false false e = absurd (true≢false e)
