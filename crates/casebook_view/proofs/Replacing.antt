-- Lines that run another text, if there are none.
use Rattle.std.proofs.Common.{◌≡◌, ◌∙◌, ℕ, ◌==◌, Bool, true, false, List, [], ◌∷◌, Option, Some, None, refl, sym, ap}
use Rattle.std.specs.Prelude.{◌||◌, if◌then◌else◌}
use Rattle.std.specs.List.{list_any}
use Rattle.std.proofs.lemmas.Bool.{eqb-true, true≢false}
use Rattle.retro_keep.specs.Recording.{RecordingValue, noted_at}
use Rattle.retro_keep.specs.declared.noted.Noted.{Noted}
use Rattle.casebook_usage.specs.declared.obstacle.Obstacle.{Obstacle}
use Rattle.casebook_view.specs.Unknown.{has_other_text, is_replaced}

rest_none : (b c : Bool) → (b || c) ≡ false → c ≡ false
rest_none true c e = absurd (true≢false e)
rest_none false c e = e

-- a line passes no test that no line passes
none_passes : (p : ℕ → Bool) (lines : List (ℕ × Noted)) (n : ℕ) (noted : Noted)
    → list_any (λ l. p l.0) lines ≡ false → noted_at n lines ≡ Some noted → p n ≡ false
none_passes p [] n noted none is = cc
none_passes p (l ∷ lines) n noted none is =
    by_test (l.0 == n) refl (p l.0) refl (none_passes p lines n noted (rest_none (p l.0) _ none))
  where
    by_test : (b : Bool) → (l.0 == n) ≡ b → (c : Bool) → p l.0 ≡ c → (noted_at n lines ≡ Some noted → p n ≡ false)
        → p n ≡ false
    by_test true e true g rest =
        absurd (true≢false (sym (ap (λ d. d || list_any (λ k. p k.0) lines) g) ∙ none))
    by_test true e false g rest = ap p (sym (eqb-true l.0 n e)) ∙ g
    by_test false e c g rest = rest (sym (ap (λ (d : Bool). if d then Some l.1 else noted_at n lines) e) ∙ is)

pub not_replaced : (r repaired : RecordingValue)
    → list_any (λ line. is_replaced r repaired line.0) r.lines ≡ false → (n : ℕ) → is_replaced r repaired n ≡ false
not_replaced r repaired none n = by_run (noted_at n r.lines) refl
  where
    by_run : (o : Option Noted) → noted_at n r.lines ≡ o → is_replaced r repaired n ≡ false
    by_run None e = ap (λ o. has_other_text o (noted_at n repaired.lines)) e
    by_run (Some noted) e = none_passes (is_replaced r repaired) r.lines n noted none e

-- neither of two obstacles counts
pub neither : (b : Bool) (one two : Option Obstacle) → b ≡ false → (if b then one else None) ≡ (if b then two else None)
neither b one two e = ap (λ (c : Bool). if c then one else None) e ∙ sym (ap (λ (c : Bool). if c then two else None) e)
