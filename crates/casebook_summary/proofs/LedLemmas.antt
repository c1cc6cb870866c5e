-- The lines that are run again because of others.
use Rattle.std.proofs.Common.{◌≡◌, ◌∙◌, ◌==◌, ℕ, Bool, true, false, cond, not, ◌&&◌, List, [], ◌∷◌, ◌++◌}
use Rattle.std.proofs.Common.{Option, Some, None, ap, refl, sym}
use Rattle.std.specs.Prelude.{if◌then◌else◌}
use Rattle.std.specs.BTreeMap.{BTreeMap, get, is_at}
use Rattle.std.specs.Cmp.{unsigned_ties}
use Rattle.std.specs.List.{filter}
use Rattle.std.specs.Option.{option_map, unwrap_or}
use Rattle.std.specs.Ordering.{nat_cmp}
use Rattle.std.proofs.lemmas.Bool.{eqb-true, true≢false}
use Rattle.std.proofs.lemmas.List.{append-nil}
use Rattle.casebook_view.specs.declared.case_line.CaseLine.{CaseLine}
use Rattle.casebook_view.specs.declared.reason.Reason.{Reason}
use Rattle.casebook_summary.specs.Effects.{ends_at, is_led_to}
use Rattle.casebook_summary.specs.inner.LedLines.{is_from, other_origin}

-- a line was added at its origin
module _ {V : Type 0} (items : V → List CaseLine) where
  pub grown : (old new : BTreeMap ℕ V) (o n : ℕ) (line : CaseLine) (v : V)
      → ((q : ℕ) → get nat_cmp new q ≡ cond (is_at (nat_cmp o) q) (Some v) (get nat_cmp old q))
      → items v ≡ unwrap_or (option_map items (get nat_cmp old o)) [] ++ line ∷ []
      → unwrap_or (option_map items (get nat_cmp new n)) []
      ≡ unwrap_or (option_map items (get nat_cmp old n)) [] ++ filter (is_from o n) (line ∷ [])
  grown old new o n line v updates is =
      ap (λ e. unwrap_or (option_map items e) []) (updates n)
      ∙ ap (λ b. unwrap_or (option_map items (cond b (Some v) (get nat_cmp old n))) []) (sym (unsigned_ties o n))
      ∙ by_test (o == n) refl
    where
      by_test : (b : Bool) → (o == n) ≡ b
          → unwrap_or (option_map items (cond b (Some v) (get nat_cmp old n))) []
          ≡ unwrap_or (option_map items (get nat_cmp old n)) [] ++ cond b (line ∷ []) []
      by_test true e = is ∙ ap (λ m. unwrap_or (option_map items (get nat_cmp old m)) [] ++ line ∷ []) (eqb-true o n e)
      by_test false e = sym (append-nil (unwrap_or (option_map items (get nat_cmp old n)) []))

-- the other line that led to a line is the one at which its chain ends
from_other : (line o n : ℕ) → (line == o) ≡ false → (o == n) ≡ (not (line == n) && (o == n))
from_other line o n apart = by_test (line == n) (o == n) refl refl
  where
    by_test : (own counted : Bool) → (line == n) ≡ own → (o == n) ≡ counted → counted ≡ (not own && counted)
    by_test true true is ends =
        absurd (true≢false (sym is ∙ ap (λ m. line == m) (sym (eqb-true o n ends)) ∙ apart))
    by_test true false is ends = refl
    by_test false counted is ends = refl

from_reason : (m : ℕ) (reason : Option Reason) (o n : ℕ) → Some o ≡ other_origin m reason
    → (o == n) ≡ (not (m == n) && ends_at n reason)
from_reason m None o n is = cc
from_reason m (Some reason) o n is = by_test (m == reason.origin) refl is
  where
    by_test : (b : Bool) → (m == reason.origin) ≡ b → Some o ≡ (if b then None else Some reason.origin)
        → (o == n) ≡ (not (m == n) && (reason.origin == n))
    by_test true e found = cc
    by_test false e found =
        ap (λ k. k == n) (ap (λ k. unwrap_or k o) found) ∙ from_other m reason.origin n e

pub led_one : (line : CaseLine) (o n : ℕ) → Some o ≡ other_origin line.number line.reason
    → filter (is_from o n) (line ∷ []) ≡ filter (is_led_to n) (line ∷ [])
led_one line o n is = ap (λ b. cond b (line ∷ []) []) (from_reason line.number line.reason o n is)

-- no other line led to it
nothing : (b : Bool) → false ≡ (b && false)
nothing true = refl
nothing false = refl

never : (b : Bool) → false ≡ (not b && b)
never true = refl
never false = refl

from_none : (m : ℕ) (reason : Option Reason) (n : ℕ) → None ≡ other_origin m reason
    → false ≡ (not (m == n) && ends_at n reason)
from_none m None n is = nothing (not (m == n))
from_none m (Some reason) n is = by_test (m == reason.origin) refl is
  where
    by_test : (b : Bool) → (m == reason.origin) ≡ b → None ≡ (if b then None else Some reason.origin)
        → false ≡ (not (m == n) && (reason.origin == n))
    by_test true e found =
        never (m == n) ∙ ap (λ b. not (m == n) && b) (ap (λ k. k == n) (eqb-true m reason.origin e))
    by_test false e found = cc

pub led_none : (line : CaseLine) (n : ℕ) → None ≡ other_origin line.number line.reason
    → [] ≡ filter (is_led_to n) (line ∷ [])
led_none line n is = ap (λ b. cond b (line ∷ []) []) (from_none line.number line.reason n is)
