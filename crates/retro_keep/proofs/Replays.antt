-- A loop over the lines of a script.
use Rattle.std.proofs.Common.{◌≡◌, ℕ, ◌+◌, ◌<◌, Bool, List, [], ◌∷◌, ◌++◌, length, get_or, map, drop, drop-cons}
use Rattle.std.proofs.Common.{add-one, IsTrue, refl, ap, ◌∙◌, sym, append_assoc}
use Rattle.std.specs.List.{list_all}
use Rattle.std.specs.FinMap as finmap
use Rattle.retro_tree.specs.declared.state.State.{State}
use Rattle.retro_tree.proofs.Small.{first_true, both_true}
use Rattle.retro_shell.specs.Line.{line, HasSameSessions}
use Rattle.retro_keep.specs.Script.{have_sessions, sid_of}
use Rattle.retro_keep.specs.Runs.{Output, with_output, after_line, outcome}
use Rattle.retro_keep.specs.declared.script.ScriptLine.{ScriptLine}

-- outputs before those of a run
abbrev pub with_front : List Output → State × List Output → State × List Output
with_front front (s, outputs) = (s, front ++ outputs)

-- the lines from an index on: the line at the index, and the rest
at_line : (lines : List ScriptLine) (i : ℕ) (d : ScriptLine) → i < length lines → d ≡ get_or lines i d
    → drop i lines ≡ d ∷ drop (i + 1) lines
at_line lines i d lt is = drop-cons lines i d lt ∙ rw (sym is, add-one i) refl

known_at : (state : State) (lines : List ScriptLine) (i : ℕ) (d : ScriptLine) → i < length lines → d ≡ get_or lines i d
    → IsTrue (have_sessions state (map sid_of (drop i lines)))
    → IsTrue (have_sessions state (map sid_of (d ∷ drop (i + 1) lines)))
known_at state lines i d lt is known = ap (λ ls. have_sessions state (map sid_of ls)) (sym (at_line lines i d lt is))
    ∙ known

-- if the sessions of the lines from an index on exist, so does that of the line at the index
pub session_at : (state : State) (lines : List ScriptLine) (i : ℕ) (d : ScriptLine) → i < length lines
    → d ≡ get_or lines i d
    → IsTrue (have_sessions state (map sid_of (drop i lines))) → IsTrue (finmap.contains_key state.sessions d.sid)
session_at state lines i d lt is known =
    first_true _ (have_sessions state (map sid_of (drop (i + 1) lines))) (known_at state lines i d lt is known)

-- and so do those of the rest, in a state with the same sessions
pub sessions_after : (state next : State) (lines : List ScriptLine) (i : ℕ) (d : ScriptLine) → i < length lines
    → d ≡ get_or lines i d → HasSameSessions state next
    → IsTrue (have_sessions state (map sid_of (drop i lines)))
    → IsTrue (have_sessions next (map sid_of (drop (i + 1) lines)))
sessions_after state next lines i d lt is same known =
    ap (λ (p : ℕ → Bool). list_all p (map sid_of (drop (i + 1) lines))) (λ j sid. same.same sid j)
    ∙ both_true (finmap.contains_key state.sessions d.sid) _ (known_at state lines i d lt is known)

regrouped : (out : List Output) (number : ℕ) (text : List ℕ) (r : State × List Output)
    → with_front out (with_output number text r) ≡ with_front (out ++ (number, text) ∷ []) r
regrouped out number text (s, outputs) =
    ap (λ (os : List Output). (s, os)) (sym (append_assoc out ((number, text) ∷ []) outputs))

-- one more line is run
pub runs_next : (s next : State) (text : List ℕ) (out new : List Output) (lines : List ScriptLine) (i : ℕ)
    (d : ScriptLine) (total : State × List Output)
    → i < length lines → d ≡ get_or lines i d → ◌≡◌ {A = State × List ℕ} (next, text) (line d.sid d.text s)
    → new ≡ out ++ (d.number, text) ∷ []
    → with_front out (outcome (drop i lines) s) ≡ total → with_front new (outcome (drop (i + 1) lines) next) ≡ total
runs_next s next text out new lines i d total lt is means push so_far =
    ap (λ os. with_front os (outcome (drop (i + 1) lines) next)) push
    ∙ sym (regrouped out d.number text (outcome (drop (i + 1) lines) next))
    ∙ ap (λ r. with_front out (after_line d.number r (outcome (drop (i + 1) lines)))) means
    ∙ ap (λ ls. with_front out (outcome ls s)) (sym (at_line lines i d lt is))
    ∙ so_far
