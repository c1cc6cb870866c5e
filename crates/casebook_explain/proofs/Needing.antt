-- What a line needs is so in the state before it, and is of its session alone.
use Rattle.std.proofs.Common.{◌≡◌, ℕ, Bool, true, false, refl, sym, subst, List, [], ◌∷◌}
use Rattle.std.proofs.Common.{map, ◌==◌}
use Rattle.std.specs.Prelude.{filter, if◌then◌else◌}
use Rattle.std.proofs.lemmas.Bool.{eq-eqb}
use Rattle.retro_tree.specs.Notes.{Holds}
use Rattle.retro_tree.specs.declared.state.State.{State}
use Rattle.retro_tree.proofs.Small.{and_true}
use Rattle.retro_local.specs.Trace.{IsOwn, asked_session, named_sessions}
use Rattle.casebook_needs.specs.FirstOfEach.{first_of_each}
use Rattle.casebook_needs.specs.Line.{LineValue}
use Rattle.casebook_needs.specs.Needs.{asked_of, need_of, needs_of, note_of, same_query}
use Rattle.casebook_needs.specs.declared.need.Need.{Need}
use Rattle.casebook_needs.specs.declared.query.Query.{Query}
use Rattle.casebook_needs.specs.declared.query.Query.TheVariants as queries
use Rattle.casebook_needs.specs.declared.source.Source.{Source}
use Rattle.casebook_needs.proofs.NeedLaws.{needs_hold_at_first}
use Rattle.casebook_stand_in.specs.Texts.{Lead}
use Rattle.casebook_explain.specs.Places.{shell_path}
use Rattle.casebook_explain.specs.Told.{asks_file, needs_told, noted_line}
use Rattle.casebook_explain.specs.inner.Sound.{IsSoundLine}
use Rattle.casebook_explain.specs.declared.seen_line.SeenLine.{SeenLine}
use Rattle.casebook_explain.specs.declared.told.ToldLine.{ToldLine}
use Rattle.casebook_explain.proofs.Noted.{owns, owns_both, owns_same}
use Rattle.casebook_explain.proofs.ToldLines.{lead_end}

-- ---- some of the needs

some_hold : (p : Need → Bool) (needs : List Need) (s : State) → Holds (map note_of needs) s
    → Holds (map note_of (filter p needs)) s
some_hold p [] s h = tt
some_hold p (need ∷ needs) s h = by_test (p need) (some_hold p needs s h.1)
  where
    by_test : (b : Bool) → Holds (map note_of (filter p needs)) s
        → Holds (map note_of (if b then need ∷ filter p needs else filter p needs)) s
    by_test true more = (h.0, more)
    by_test false more = more

some_own : (sid : ℕ) (p : Need → Bool) (needs : List Need) → IsOwn sid (map note_of needs)
    → IsOwn sid (map note_of (filter p needs))
unfolding named_sessions
some_own sid p [] h = h
some_own sid p (need ∷ needs) h =
    by_test (p need)
    (some_own sid p needs
    (owns_both sid (asked_session need.ask) (named_sessions (map note_of needs)) h))
  where
    by_test : (b : Bool) → IsOwn sid (map note_of (filter p needs))
        → IsOwn sid (map note_of (if b then need ∷ filter p needs else filter p needs))
    by_test true more =
        owns_same sid (asked_session need.ask) (named_sessions (map note_of needs))
        (named_sessions (map note_of (filter p needs))) h more
    by_test false more = more

-- ---- all needs

asked_own : (sid : ℕ) (s : State) (xs : List (Query × Source))
    → owns sid (named_sessions (map note_of (map (need_of sid s) xs))) ≡ true
unfolding named_sessions
asked_own sid s [] = refl
asked_own sid s ((queries.Bytes p, source) ∷ xs) = asked_own sid s xs
asked_own sid s ((queries.Names p, source) ∷ xs) = asked_own sid s xs
asked_own sid s ((queries.Var name, source) ∷ xs) =
    and_true (sid == sid) _ (eq-eqb sid sid refl) (asked_own sid s xs)
asked_own sid s ((queries.Status, source) ∷ xs) =
    and_true (sid == sid) _ (eq-eqb sid sid refl) (asked_own sid s xs)
asked_own sid s ((queries.Cwd, source) ∷ xs) =
    and_true (sid == sid) _ (eq-eqb sid sid refl) (asked_own sid s xs)

needs_own : (s : State) (line : LineValue) → IsOwn line.session (map note_of (needs_of s line))
unfolding needs_of
needs_own s line = asked_own line.session s (first_of_each same_query (asked_of s line))

told_hold : (m : Bool) (s : State) (line : SeenLine)
    → Holds (map note_of (needs_told m s line)) s
told_hold true s line =
    some_hold (λ need. asks_file (shell_path line.effect.sid) need.ask)
    (needs_of s (noted_line s line)) s (needs_hold_at_first s (noted_line s line))
told_hold false s line = needs_hold_at_first s (noted_line s line)

told_own : (m : Bool) (s : State) (line : SeenLine)
    → IsOwn line.effect.sid (map note_of (needs_told m s line))
told_own true s line =
    some_own line.effect.sid (λ need. asks_file (shell_path line.effect.sid) need.ask)
    (needs_of s (noted_line s line)) (needs_own s (noted_line s line))
told_own false s line = needs_own s (noted_line s line)

pub sound_line : (line : SeenLine) (told : ToldLine) (s t : State)
    → told.session ≡ line.effect.sid → Lead told.session told.runs.items s t
    → told.needs.items ≡ needs_told told.is_modelled s line → IsSoundLine told s
sound_line line told s t same lead are = record {
  leads =
      subst (Lead told.session told.runs.items s) (sym (lead_end told.session told.runs.items s t lead))
      lead;
  hold = subst (λ ns. Holds (map note_of ns) s) (sym are) (told_hold told.is_modelled s line);
  own =
      subst (λ ns. IsOwn told.session (map note_of ns)) (sym are)
      (subst (λ sid. IsOwn sid (map note_of (needs_told told.is_modelled s line))) (sym same)
      (told_own told.is_modelled s line));
}
