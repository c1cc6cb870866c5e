-- Lines whose cells have the same values are all kept, so they run from there as they are recorded.
use Rattle.std.proofs.Common.{◌≡◌, ◌∙◌, ◌||◌, ℕ, List, [], ◌∷◌, None, ap, inl, length, map, refl, subst, sym, IsTrue}
use Rattle.std.proofs.lemmas.List.{length-map}
use Rattle.retro_tree.specs.Lawful.{IsLawful}
use Rattle.retro_tree.specs.Notes.{after, effects, touches}
use Rattle.retro_tree.specs.declared.state.State.{State}
use Rattle.retro_tree.proofs.NoteLaws.{value_after}
use Rattle.retro_tree.proofs.Small.{or_first, or_last}
use Rattle.retro_keep.specs.Recording.{AllRecorded, sid_in}
use Rattle.retro_keep.specs.Script.{have_sessions}
use Rattle.retro_keep.specs.declared.noted.Noted.{Noted}
use Rattle.retro_redo.specs.Progress.{Settles, lines_chosen}
use Rattle.retro_redo.specs.declared.step.Step.{Step}
use Rattle.retro_redo.specs.declared.step.Step.TheVariants.{Keep}
use Rattle.retro_redo.proofs.Final.{settles_final}
use Rattle.casebook_account.specs.Untouched.{AgreeOnTouched, is_touched}

abbrev keep : ℕ × Noted → Step
keep l = Keep

kept_settles : (lines : List (ℕ × Noted)) (s t : State) → AgreeOnTouched lines s t
    → Settles (λ n. None) lines (map keep lines) s t
kept_settles [] s t agree = tt
kept_settles (l ∷ lines) s t agree = (
  (refl, inl (λ c e. agree c (or_first (touches l.1.notes c) (is_touched lines c) e))),
  tt,
  kept_settles lines (after l.1.notes s) (after l.1.notes t)
      (λ c e. value_after l.1.notes c s
      ∙ ap (effects l.1.notes c) (agree c (or_last (touches l.1.notes c) (is_touched lines c) e))
      ∙ sym (value_after l.1.notes c t)),
)

kept_chosen : (lines : List (ℕ × Noted)) → lines_chosen lines (map keep lines) ≡ lines
kept_chosen [] = refl
kept_chosen (l ∷ lines) = ap (λ rest. l ∷ rest) (kept_chosen lines)

pub untouched : (lines : List (ℕ × Noted)) (s t : State) → AllRecorded lines s → IsLawful t
    → IsTrue (have_sessions t (map sid_in lines)) → AgreeOnTouched lines s t → AllRecorded lines t
untouched lines s t recorded lawful known agree =
    subst (λ ls. AllRecorded ls t) (kept_chosen lines)
    (settles_final (λ n. None) lines (map keep lines) s t recorded lawful known (kept_settles lines s t agree)
    (length-map lines keep)).recorded
