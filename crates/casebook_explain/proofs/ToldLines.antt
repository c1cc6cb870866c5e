-- Lines are told one after the other.
use Rattle.std.proofs.Common.{◌≡◌, ◌∙◌, ℕ, ◌+◌, Bool, true, refl, sym, ap, subst, List, [], ◌∷◌}
use Rattle.std.proofs.Common.{◌++◌, drop, take, zero, suc, arith}
use Rattle.std.specs.List.{list_all}
use Rattle.std.specs.FinMap as finmap
use Rattle.retro_tree.specs.Lawful.{IsLawful}
use Rattle.retro_tree.specs.Notes.{after}
use Rattle.retro_tree.specs.declared.state.State.{State}
use Rattle.retro_tree.proofs.Small.{and_true, both_true, first_true}
use Rattle.retro_shell.specs.Line.{HasSameSessions}
use Rattle.retro_shell.specs.Runs.{RunValue}
use Rattle.casebook_stand_in.specs.Texts.{Lead}
use Rattle.casebook_explain.specs.Told.{AreTold, IsTold, state_after, state_at_end}
use Rattle.casebook_explain.specs.inner.HasTold.{HasTold}
use Rattle.casebook_explain.specs.inner.Sound.{AreSound, IsSoundLine, after_lines, after_runs}
use Rattle.casebook_explain.specs.inner.Sound.{sessions_of}
use Rattle.casebook_explain.specs.declared.seen_line.SeenLine.{SeenLine}
use Rattle.casebook_explain.specs.declared.told.ToldLine.{ToldLine}

-- runs lead to the state after their notes
pub lead_end : (sid : ℕ) (runs : List RunValue) (s t : State) → Lead sid runs s t
    → after_runs runs s ≡ t
lead_end sid [] s t lead = lead
lead_end sid (run ∷ runs) s t lead = lead_end sid runs (after run.notes s) t lead.1

one_more : (n : ℕ) → n + 1 ≡ suc n
one_more n = omega arith

take_next : (n : ℕ) (xs : List SeenLine) (x : SeenLine) (rest : List SeenLine)
    → drop n xs ≡ x ∷ rest → take (suc n) xs ≡ take n xs ++ x ∷ []
take_next zero [] x rest e = cc
take_next zero (y ∷ ys) x rest e = cc
take_next (suc n) [] x rest e = cc
take_next (suc n) (y ∷ ys) x rest e = ap (λ zs. y ∷ zs) (take_next n ys x rest e)

drop_next : (n : ℕ) (xs : List SeenLine) (x : SeenLine) (rest : List SeenLine)
    → drop n xs ≡ x ∷ rest → drop (suc n) xs ≡ rest
drop_next zero [] x rest e = cc
drop_next zero (y ∷ ys) x rest e = cc
drop_next (suc n) [] x rest e = cc
drop_next (suc n) (y ∷ ys) x rest e = drop_next n ys x rest e

told_more : (lines : List SeenLine) (told : List ToldLine) (line : SeenLine) (t : ToldLine)
    (s : State) → AreTold lines told s → IsTold line t (state_at_end lines told s)
    → AreTold (lines ++ line ∷ []) (told ++ t ∷ []) s
told_more [] [] line t s are is = (is, tt)
told_more [] (x ∷ xs) line t s are is = absurd are
told_more (y ∷ ys) [] line t s are is = absurd are
told_more (y ∷ ys) (x ∷ xs) line t s are is =
    (are.0, told_more ys xs line t (state_after y x s) are.1 is)

end_more : (lines : List SeenLine) (told : List ToldLine) (line : SeenLine) (t : ToldLine)
    (s : State) → AreTold lines told s
    → state_at_end (lines ++ line ∷ []) (told ++ t ∷ []) s
    ≡ state_after line t (state_at_end lines told s)
end_more [] [] line t s are = refl
end_more [] (x ∷ xs) line t s are = absurd are
end_more (y ∷ ys) [] line t s are = absurd are
end_more (y ∷ ys) (x ∷ xs) line t s are = end_more ys xs line t (state_after y x s) are.1

sound_more : (told : List ToldLine) (t : ToldLine) (s : State) → AreSound told s
    → IsSoundLine t (after_lines told s) → AreSound (told ++ t ∷ []) s
sound_more [] t s are is = (is, tt)
sound_more (x ∷ xs) t s are is = (are.0, sound_more xs t (after_runs x.runs.items s) are.1 is)

after_more : (told : List ToldLine) (t : ToldLine) (s : State)
    → after_lines (told ++ t ∷ []) s ≡ after_runs t.runs.items (after_lines told s)
after_more [] t s = refl
after_more (x ∷ xs) t s = after_more xs t (after_runs x.runs.items s)

known_more : (p : ℕ → Bool) (told : List ToldLine) (t : ToldLine)
    → list_all p (sessions_of told) ≡ true → p t.session ≡ true
    → list_all p (sessions_of (told ++ t ∷ [])) ≡ true
known_more p [] t known has = and_true (p t.session) true has refl
known_more p (x ∷ xs) t known has =
    and_true (p x.session) _ (first_true (p x.session) _ known)
    (known_more p xs t (both_true (p x.session) _ known) has)

pub told_next : (first : State) (lines rest : List SeenLine) (line : SeenLine) (count : ℕ)
    (told : List ToldLine) (t : ToldLine) (s next : State)
    → HasTold first lines (line ∷ rest) count told s → IsTold line t s → IsSoundLine t s
    → next ≡ after_runs t.runs.items s → IsLawful next → HasSameSessions s next
    → finmap.contains_key first.sessions line.effect.sid ≡ true
    → HasTold first lines rest (count + 1) (told ++ t ∷ []) next
told_next first lines rest line count told t s next has is sound leads lawful same known =
    let one : take (count + 1) lines ≡ take count lines ++ line ∷ [] =
    ap (λ n. take n lines) (one_more count) ∙ take_next count lines line rest has.left in
    record {
      left = ap (λ n. drop n lines) (one_more count) ∙ drop_next count lines line rest has.left;
      are_told =
          subst (λ ls. AreTold ls (told ++ t ∷ []) first) (sym one)
          (told_more (take count lines) told line t first has.are_told
          (subst (IsTold line t) has.ends is));
      ends =
          leads ∙ lead_end t.session t.runs.items s (state_after line t s) is.leads
          ∙ ap (state_after line t) has.ends
          ∙ sym (end_more (take count lines) told line t first has.are_told)
          ∙ ap (λ ls. state_at_end ls (told ++ t ∷ []) first) (sym one);
      sound = sound_more told t first has.sound (subst (IsSoundLine t) has.leads sound);
      leads =
          leads ∙ ap (after_runs t.runs.items) has.leads ∙ sym (after_more told t first);
      known =
          known_more (finmap.contains_key first.sessions) told t has.known
          (ap (finmap.contains_key first.sessions) is.session ∙ known);
      lawful = lawful;
      sessions = record { same = λ sid. same.same sid ∙ has.sessions.same sid };
    }
