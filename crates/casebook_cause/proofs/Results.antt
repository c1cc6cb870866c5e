-- The changes of two traces, compared one by one.
use Rattle.std.proofs.Common.{◌≡◌, ◌∙◌, ◌↔◌, List, [], ◌∷◌, sym}
use Rattle.retro_tree.specs.declared.change.Change.{Change}

-- two lists of changes are equal exactly if something holds
abbrev pub Decide : List Change → List Change → Type 0 → Type 0
Decide xs ys P = (xs ≡ ys) ↔ P

-- the first changes are equal, so the later ones decide
pub later_decide : (xs ys later more : List Change) (change other : Change) (P : Type 0) → xs ≡ change ∷ later
    → ys ≡ other ∷ more → change ≡ other → Decide xs ys P → Decide later more P
later_decide xs ys later more change other P is split same decide = (
  λ e. decide.0 (is ∙ (λ i. same i ∷ e i) ∙ sym split),
  λ p. let all : (change ∷ later) ≡ (other ∷ more) = sym is ∙ decide.1 p ∙ split in cc,
)

-- the first changes differ
pub first_differ : (xs ys later more : List Change) (change other : Change) (P : Type 0) → xs ≡ change ∷ later
    → ys ≡ other ∷ more → ¬ (change ≡ other) → Decide xs ys P → ¬ P
first_differ xs ys later more change other P is split apart decide = λ p.
    let all : (change ∷ later) ≡ (other ∷ more) = sym is ∙ decide.1 p ∙ split in
    let same : change ≡ other = cc in
    apart same

-- the second list has no more changes
pub second_ends : (xs ys later : List Change) (change : Change) (P : Type 0) → xs ≡ change ∷ later → ys ≡ []
    → Decide xs ys P → ¬ P
second_ends xs ys later change P is none decide = λ p.
    let all : (change ∷ later) ≡ [] = sym is ∙ decide.1 p ∙ none in cc

-- both lists have no more changes
pub both_end : (xs ys : List Change) (P : Type 0) → xs ≡ [] → ys ≡ [] → Decide xs ys P → P
both_end xs ys P none none' decide = decide.0 (none ∙ sym none')

-- the second list has more changes
pub first_ends : (xs ys more : List Change) (other : Change) (P : Type 0) → xs ≡ [] → ys ≡ other ∷ more
    → Decide xs ys P → ¬ P
first_ends xs ys more other P none split decide = λ p.
    let all : [] ≡ (other ∷ more) = sym none ∙ decide.1 p ∙ split in cc
