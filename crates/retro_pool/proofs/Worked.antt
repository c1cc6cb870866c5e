-- What a thread has done after one more job.
use Rattle.std.proofs.Common.{◌≡◌, ◌+◌, ◌≤◌, ◌∙◌, ℕ, List, [], ◌∷◌, ◌++◌, map}
use Rattle.std.proofs.Common.{length-append}
use Rattle.std.proofs.Common.{append_assoc, append-nil, ap, arith, refl, subst, sym}
use Rattle.std.proofs.lemmas.List.{map-append}
use Rattle.retro_redo.specs.Ground.{GroundValue}
use Rattle.retro_pool.specs.Guesses.{IsGuess, IsGuessOf}
use Rattle.retro_pool.specs.Turns.{IsSublist}
use Rattle.retro_pool.specs.Work.{HasWorked, number_of}
use Rattle.retro_pool.specs.declared.guess.Guess.{Guess}
use Rattle.retro_pool.proofs.Counts.{all_snoc}
use Rattle.retro_pool.proofs.Ordered.{sublist_more, sublist_snoc}

pub worked_none : (g : GroundValue) (taken : List ℕ) (guesses : List Guess)
    → HasWorked g 0 taken taken guesses guesses 0
worked_none g taken guesses = record {
  jobs = [];
  guesses = [];
  taken = sym (append-nil taken);
  appended = sym (append-nil guesses);
  few = omega arith;
  order = refl;
  count = refl;
  right = tt;
}

module _ (g : GroundValue) (room : ℕ) (t0 t1 t2 : List ℕ) (g0 g1 : List Guess) (without : ℕ)
    (h : HasWorked g room t0 t1 g0 g1 without) where
  -- one more job gave a guess
  pub worked_guess : (job : ℕ) (guess : Guess) (g2 : List Guess) → t2 ≡ t1 ++ job ∷ [] → g2 ≡ g1 ++ guess ∷ []
      → IsGuessOf g job guess → HasWorked g (room + 1) t0 t2 g0 g2 without
  worked_guess job guess g2 took pushed is = record {
    jobs = h.jobs ++ job ∷ [];
    guesses = h.guesses ++ guess ∷ [];
    taken = took ∙ (ap (λ l. l ++ job ∷ []) h.taken ∙ append_assoc t0 h.jobs (job ∷ []));
    appended = pushed ∙ (ap (λ l. l ++ guess ∷ []) h.appended ∙ append_assoc g0 h.guesses (guess ∷ []));
    few = omega (arith, length-append h.jobs (job ∷ []), h.few);
    order = subst (λ l. IsSublist l (h.jobs ++ job ∷ []))
        (ap (λ n. map number_of h.guesses ++ n ∷ []) (sym is.0) ∙ sym (map-append number_of h.guesses (guess ∷ [])))
        (sublist_snoc (map number_of h.guesses) h.jobs job h.order);
    count = omega (arith, length-append h.jobs (job ∷ []), length-append h.guesses (guess ∷ []), h.count);
    right = all_snoc (IsGuess g) h.guesses guess h.right is.1;
  }

  -- one more job gave none
  pub worked_without : (job : ℕ) → t2 ≡ t1 ++ job ∷ [] → HasWorked g (room + 1) t0 t2 g0 g1 (without + 1)
  worked_without job took = record {
    jobs = h.jobs ++ job ∷ [];
    guesses = h.guesses;
    taken = took ∙ (ap (λ l. l ++ job ∷ []) h.taken ∙ append_assoc t0 h.jobs (job ∷ []));
    appended = h.appended;
    few = omega (arith, length-append h.jobs (job ∷ []), h.few);
    order = sublist_more (map number_of h.guesses) h.jobs job h.order;
    count = omega (arith, length-append h.jobs (job ∷ []), h.count);
    right = h.right;
  }

  -- no job was left, or there is no more room
  pub worked_all : (more : ℕ) → room ≤ more → t2 ≡ t1 → HasWorked g more t0 t2 g0 g1 without
  worked_all more within same = record {
    jobs = h.jobs;
    guesses = h.guesses;
    taken = same ∙ h.taken;
    appended = h.appended;
    few = omega (arith, within, h.few);
    order = h.order;
    count = h.count;
    right = h.right;
  }
