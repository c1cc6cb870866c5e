-- The notes of an executed line certify it.
use Rattle.std.proofs.Common.{◌≡◌, ◌↔◌, ℕ, List, [], Option, ap, sym, ◌∙◌, true}
use Rattle.std.specs.FinMap as map
use Rattle.retro_tree.specs.Lawful.{IsLawful}
use Rattle.retro_tree.specs.Notes.{after, AllAllowed, Holds}
use Rattle.retro_tree.specs.declared.note.Note.{Note}
use Rattle.retro_tree.specs.declared.state.State.{State}
use Rattle.retro_local.specs.Runs.{Computes, Extends}
use Rattle.retro_local.specs.Trace.{AllHold, IsOwn, Trace, reached}
use Rattle.retro_syntax.specs.Tree.{Commands}
use Rattle.retro_syntax.specs.Lines.{parsed}
use Rattle.retro_shell.specs.Line.{line, meaning}
use Rattle.retro_shell.specs.Runs.{Certifies, IsRun, RunValue}
use Rattle.retro_shell.proofs.Sessions.{owns_none}

-- notes in the order in which they were made, from a trace that computed a line
pub certified : (sid : ℕ) (text : List ℕ) (old trace : Trace) (notes : List Note) (output : List ℕ)
    (spelled : Option (Option Commands))
    → old.notes ≡ []
    → parsed text ≡ spelled
    → Computes {X = List ℕ} old trace (meaning sid spelled) output
    → Extends sid old trace
    → ((s : State) → after notes s ≡ reached trace.notes s)
    → ((s : State) → Holds notes s ↔ AllHold trace.notes s)
    → ((k : ℕ) → IsOwn k trace.notes → IsOwn k notes)
    → ((k : ℕ) → IsOwn k trace.notes → (s : State) → IsLawful s → map.contains_key s.sessions k ≡ true
    → Holds notes s → AllAllowed notes s)
    → IsRun (record { sid = sid; text = text; notes = notes; output = output })
unfolding line
certified sid text old trace notes output spelled none is computes extends state holding own allowed =
    let is_own : IsOwn sid trace.notes = extends.own (rw none (owns_none sid)) in
    record {
      certified = record {
        allowed = λ s lawful has h. allowed sid is_own s lawful has h;
        means = λ s lawful has h.
            ap (λ l. meaning sid l s) is
            ∙ ap (λ ns. meaning sid spelled (reached ns s)) (sym none)
            ∙ computes.means s lawful ((holding s).0 h) ∙ ap (λ t. (t, output)) (sym (state s));
      };
      own = own sid is_own;
    }
