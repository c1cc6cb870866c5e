-- States made step by step.
use Rattle.std.proofs.Common.{◌≡◌, ◌∙◌, ap, sym, refl, List, [], ◌∷◌, ◌++◌, ℕ, map}
use Rattle.std.proofs.Common.{Bool, true, false, Some}
use Rattle.std.specs.Prelude.{is_some, if◌then◌else◌}
use Rattle.std.specs.List.{list_any}
use Rattle.std.specs.FinMap as finmap
use Rattle.retro_path.specs.Order.{text_cmp}
use Rattle.retro_path.specs.Path.{PathValue, parent_of, prefixes_of}
use Rattle.retro_tree.specs.Session.{default_session}
use Rattle.retro_tree.specs.State.{empty_state, put_session}
use Rattle.retro_tree.specs.declared.state.State.{State}
use Rattle.casebook_spool.specs.After.{after_notes}
use Rattle.casebook_spool.specs.declared.note.Note.{Note}
use Rattle.casebook_typed.specs.Lines.{LineValue}
use Rattle.casebook_typed.specs.Sessions.{SessionValue}
use Rattle.casebook_watch.specs.Sights.{Sights}
use Rattle.casebook_explain.specs.Places.{shell_path}
use Rattle.casebook_needs.specs.Named.{named_path}
use Rattle.casebook_import.specs.First.{directory_by, first_state, state_by, with_directories, with_notes}
use Rattle.casebook_import.specs.First.{with_ours, with_places, with_sessions, with_unwatched}
use Rattle.casebook_import.specs.Directories.{elsewhere}
use Rattle.casebook_spool.specs.Held.{Held}

pub directories_twice : (a b : List PathValue) (s : State)
    → with_directories (a ++ b) s ≡ with_directories b (with_directories a s)
directories_twice [] b s = refl
directories_twice (p ∷ a) b s = directories_twice a b _

places_twice : (sights : Sights) (a b : List (List ℕ)) (s : State)
    → with_places sights (a ++ b) s ≡ with_places sights b (with_places sights a s)
places_twice sights [] b s = refl
places_twice sights (name ∷ a) b s = places_twice sights a b _

pub all_made : (held : Held) (noted : List Note) (sessions : List SessionValue)
    (lines : List LineValue) (sights : Sights) (noting ours firsts places nobody made : State)
    → sights ≡ after_notes finmap.empty noted
    → noting ≡ with_notes held sights noted empty_state
    → ours ≡ with_ours noting
    → firsts ≡ with_places sights (map (λ session. directory_by session.first) sessions) ours
    → places ≡ with_places sights (map (λ line. line.shown.directory) lines) firsts
    → nobody ≡ put_session 0 default_session places
    → made ≡ with_sessions 1 sessions nobody
    → made ≡ first_state held noted sessions lines
unfolding first_state
all_made held noted sessions lines sights noting ours firsts places nobody made look a b c d e f =
    let names = map (λ (session : SessionValue). directory_by session.first) sessions in
    let more = map (λ (line : LineValue). line.shown.directory) lines in
    f ∙ ap (with_sessions 1 sessions)
    (e ∙ ap (put_session 0 default_session)
    (d ∙ ap (with_places sights more) (c ∙ ap (with_places sights names) (b ∙ ap with_ours a))
    ∙ sym (places_twice sights names more _)))
    ∙ ap (λ (k : Sights). state_by held k noted sessions lines) look

pub ours_made : (a b : List PathValue) (s t u : State) → t ≡ with_directories a s
    → u ≡ with_directories b t → a ≡ prefixes_of elsewhere
    → b ≡ prefixes_of (parent_of (shell_path 0)) → u ≡ with_ours s
ours_made a b s t u p q here there =
    q ∙ ap (with_directories b) p ∙ sym (directories_twice a b s)
    ∙ ap (λ (ps : List PathValue). with_directories (ps ++ b) s) here
    ∙ ap (λ (ps : List PathValue). with_directories (prefixes_of elsewhere ++ ps) s) there

pub nobody_added : (p : PathValue) (es : List (List ℕ × List ℕ)) (s t : State) → p ≡ [] → es ≡ []
    → t ≡ put_session 0
    (record { cwd = p; vars = finmap.from_entries {R = text_cmp} es; status = 0 }) s
    → t ≡ put_session 0 default_session s
unfolding default_session
nobody_added p es s t root none e =
    e
    ∙ ap (λ (q : PathValue). put_session 0
    (record { cwd = q; vars = finmap.from_entries {R = text_cmp} es; status = 0 }) s) root
    ∙ ap (λ (fs : List (List ℕ × List ℕ)). put_session 0
    (record { cwd = []; vars = finmap.from_entries {R = text_cmp} fs; status = 0 }) s) none

-- ---- directories that aren't watched

module _ (sights : Sights) (p : PathValue) (ps : List PathValue) (name : List ℕ) (s : State)
    (named : named_path [] name ≡ Some p) (are : ps ≡ prefixes_of p) (watched : Bool)
    (is : watched ≡ list_any (λ q. is_some (finmap.get sights q)) ([] ∷ ps))
  where
    chosen : with_unwatched sights (named_path [] name) s
        ≡ (if watched then s else with_directories ps s)
    chosen =
        ap (λ o. with_unwatched sights o s) named
        ∙ ap (λ (qs : List PathValue).
        if list_any (λ q. is_some (finmap.get sights q)) ([] ∷ qs) then s else with_directories qs s)
        (sym are)
        ∙ ap (λ (b : Bool). if b then s else with_directories ps s) (sym is)

    pub watched_place : watched ≡ true → s ≡ with_unwatched sights (named_path [] name) s
    watched_place e =
        sym (chosen ∙ ap (λ (b : Bool). if b then s else with_directories ps s) e)

    pub unwatched_place : (t : State) → watched ≡ false → t ≡ with_directories ps s
        → t ≡ with_unwatched sights (named_path [] name) s
    unwatched_place t e made =
        made ∙ sym (chosen ∙ ap (λ (b : Bool). if b then s else with_directories ps s) e)
