-- What faults say.
use Rattle.std.proofs.Common.{◌≡◌, ◌∙◌, ◌≢◌, ℕ, zero, suc, ◌+◌, ◌-◌, false, refl, sym, ap, subst, arith}
use Rattle.std.proofs.Common.{List, [], ◌∷◌, drop, Some}
use Rattle.std.specs.Prelude.{slice_get}
use Rattle.std.specs.FinMap as finmap
use Rattle.retro_tree.specs.declared.state.State.{State}
use Rattle.casebook_stand_in.specs.Explained.{IsModelled}
use Rattle.casebook_stand_in.specs.declared.explain_error.ExplainError.{ExplainError}
use Rattle.casebook_stand_in.specs.declared.explain_error.ExplainError.TheVariants as errors
use Rattle.casebook_explain.specs.Faults.{HasUnknownSession, IsFaultAt, IsStuck, IsTellFault}
use Rattle.casebook_explain.specs.Faults.{IsUnmodelled}
use Rattle.casebook_explain.specs.inner.HasTold.{HasTold}
use Rattle.casebook_explain.specs.inner.LineFaults.{line_fault}
use Rattle.casebook_explain.specs.declared.seen_line.SeenLine.{SeenLine}
use Rattle.casebook_explain.specs.declared.tell_fault.LineFault.TheVariants as line_faults
use Rattle.casebook_explain.specs.declared.tell_fault.TellFault.{TellFault}
use Rattle.casebook_explain.specs.declared.tell_fault.TellFault.TheVariants as faults
use Rattle.casebook_explain.specs.declared.told.ToldLine.{ToldLine}

pub fault_said : (place : ℕ) (line : SeenLine) (s : State) (error : ExplainError)
    → (error ≢ errors.NoMem → IsModelled line.typed line.effect s → ⊥)
    → IsFaultAt place line s (line_fault place error)
fault_said place line s errors.NoMem h = tt
fault_said place line s (errors.Unwritten cell) h = (refl, h (λ e. cc))
fault_said place line s (errors.Unexplained cell) h = (refl, h (λ e. cc))

get_next : (n : ℕ) (xs : List SeenLine) (x : SeenLine) (rest : List SeenLine)
    → drop n xs ≡ x ∷ rest → slice_get xs n ≡ Some x
get_next zero [] x rest e = cc
get_next zero (y ∷ ys) x rest e = cc
get_next (suc n) [] x rest e = cc
get_next (suc n) (y ∷ ys) x rest e = get_next n ys x rest e

before : (n : ℕ) → (n + 1) - 1 ≡ n
before n = omega arith

pub session_unknown : (first : State) (lines rest : List SeenLine) (line : SeenLine) (count : ℕ)
    (told : List ToldLine) (s : State) → HasTold first lines (line ∷ rest) count told s
    → finmap.contains_key first.sessions line.effect.sid ≡ false → (given : State)
    → first ≡ given
    → IsTellFault given lines (faults.Line (count + 1) line_faults.UnknownSession)
session_unknown first lines rest line count told s has unknown given same =
    subst (λ f. IsTellFault f lines (faults.Line (count + 1) line_faults.UnknownSession)) same (
      omega arith,
      subst (λ n. HasUnknownSession first (slice_get lines n)) (sym (before count))
          (subst (HasUnknownSession first) (sym (get_next count lines line rest has.left)) unknown),
    )

stuck : (first : State) (lines rest : List SeenLine) (line : SeenLine) (count : ℕ)
    (told : List ToldLine) (s : State) → HasTold first lines (line ∷ rest) count told s
    → (IsModelled line.typed line.effect s → ⊥) → IsStuck first lines count
stuck first lines rest line count told s has h = record {
  told = told;
  are_told = has.are_told;
  unmodelled =
      subst (IsUnmodelled (slice_get lines count)) has.ends
      (subst (λ o. IsUnmodelled o s) (sym (get_next count lines line rest has.left)) h);
}

line_stuck : (first : State) (lines rest : List SeenLine) (line : SeenLine) (count : ℕ)
    (told : List ToldLine) (s : State) (fault : TellFault)
    → HasTold first lines (line ∷ rest) count told s → IsFaultAt (count + 1) line s fault
    → IsTellFault first lines fault
line_stuck first lines rest line count told s faults.NoMem has h = tt
line_stuck first lines rest line count told s faults.LawlessState has h = absurd h
line_stuck first lines rest line count told s (faults.Line p line_faults.UnknownSession) has h =
    absurd h
line_stuck first lines rest line count told s (faults.Line p (line_faults.Unwritten cell)) has h = (
  omega (arith, h.0),
  subst (IsStuck first lines) (sym (before count) ∙ ap (λ n. n - 1) (sym h.0))
      (stuck first lines rest line count told s has h.1),
)
line_stuck first lines rest line count told s (faults.Line p (line_faults.Unexplained cell)) has h = (
  omega (arith, h.0),
  subst (IsStuck first lines) (sym (before count) ∙ ap (λ n. n - 1) (sym h.0))
      (stuck first lines rest line count told s has h.1),
)
line_stuck first lines rest line count told s faults.TooManyLines has h = absurd h

pub stuck_given : (first : State) (lines rest : List SeenLine) (line : SeenLine) (count : ℕ)
    (told : List ToldLine) (s : State) (fault : TellFault)
    → HasTold first lines (line ∷ rest) count told s → IsFaultAt (count + 1) line s fault
    → (given : State) → first ≡ given → IsTellFault given lines fault
stuck_given first lines rest line count told s fault has h given same =
    subst (λ f. IsTellFault f lines fault) same
    (line_stuck first lines rest line count told s fault has h)
