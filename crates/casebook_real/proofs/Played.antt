-- Retro's shell meets the premises on the world.
use Rattle.std.proofs.Common.{◌≡◌, ◌∙◌, ◌||◌, ◌++◌, ℕ, Bool, false, List, [], ◌∷◌, Option, Some, None, IsTrue}
use Rattle.std.proofs.Common.{refl, ap, map}
use Rattle.std.specs.List.{All, list_all}
use Rattle.std.specs.Option.{is_some, unwrap_or}
use Rattle.std.proofs.lemmas.List.Elements.{All-cons, All-nil}
use Rattle.retro_tree.specs.declared.state.State.{State}
use Rattle.retro_shell.specs.Line.{line}
use Rattle.retro_keep.specs.Edit.{line_run, text_run}
use Rattle.retro_keep.specs.Recording.{IsWellFormed, RecordingValue, script_line, sid_in}
use Rattle.retro_keep.specs.Runs.{outcome}
use Rattle.retro_keep.specs.Script.{have_sessions}
use Rattle.retro_keep.specs.declared.edit.Edit.{Edit}
use Rattle.retro_keep.specs.declared.edit.Edit.TheVariants.{Cancel, Replace}
use Rattle.retro_keep.specs.declared.noted.Noted.{Noted}
use Rattle.retro_keep.specs.declared.script.ScriptLine.{ScriptLine}
use Rattle.casebook_real.specs.Lines.{AreLinesOf, Unedited, Replaced, Placed, TypedLine, are_named, fate}
use Rattle.casebook_real.specs.Lines.{fate_by, placed, session_of, texts_now, texts_of}
use Rattle.casebook_real.specs.Played.{played, shell}
use Rattle.casebook_real.specs.World.{DoesAsRecorded, HasNotes, World}

-- ---- the lines

texts_played : (edit : ℕ → Option Edit) (lines : List (ℕ × Noted)) → texts_of (map (played edit) lines) ≡ lines
texts_played edit [] = refl
texts_played edit (l ∷ lines) = ap (λ ls. l ∷ ls) (texts_played edit lines)

sessions_played : (edit : ℕ → Option Edit) (lines : List (ℕ × Noted))
    → map session_of (map (played edit) lines) ≡ map sid_in lines
sessions_played edit [] = refl
sessions_played edit (l ∷ lines) = ap (λ sids. l.1.sid ∷ sids) (sessions_played edit lines)

named_played : (edit : ℕ → Option Edit) (observed : ℕ → Bool) (lines : List (ℕ × Noted))
    → IsTrue (list_all (λ l. are_named observed l.basis l.texts) (map (played edit) lines))
named_played edit observed [] = refl
named_played edit observed (l ∷ lines) = named_played edit observed lines

pub lines_played : (edit : ℕ → Option Edit) (observed : ℕ → Bool) (r : RecordingValue) → IsWellFormed r
    → AreLinesOf r observed (map (played edit) r.lines)
lines_played edit observed r formed = record {
  texts = texts_played edit r.lines;
  sessions = ap (have_sessions r.first) (sessions_played edit r.lines) ∙ formed.known;
  named = named_played edit observed r.lines;
}

-- ---- what they do

abbrev now_by : Option Edit → ℕ × Noted → List ScriptLine
now_by o l = line_run (script_line l) (text_run o l.1.text) ++ []

abbrev text_by : Option Edit → ℕ × Noted → List ℕ
text_by o l = unwrap_or (text_run o l.1.text) l.1.text

own_text : (o : Option Edit) (l : ℕ × Noted) → fate_by (is_some o || false) (now_by o l) ≡ Unedited
    → text_by o l ≡ l.1.text
own_text None l e = refl
own_text (Some (Cancel n)) l e = cc
own_text (Some (Replace n text)) l e = cc

does_played : (edit : ℕ → Option Edit) (l : ℕ × Noted) → fate edit (played edit l) ≡ Unedited
    → DoesAsRecorded shell (played edit l)
does_played edit l e = λ s ready basis. ap (λ text. (line l.1.sid text s).0) (own_text (edit l.0) l e)

run_played : (o : Option Edit) (l : ℕ × Noted) (t : State)
    → fate_by (is_some o || false) (now_by o l) ≡ Replaced
    → (line l.1.sid (text_by o l) t).0 ≡ (outcome (now_by o l) t).0
run_played None l t e = cc
run_played (Some (Cancel n)) l t e = cc
run_played (Some (Replace n text)) l t e = refl

module _ (edit : ℕ → Option Edit) where
  abbrev AsModelled : Placed → Type 0
  AsModelled p = fate edit p.line ≡ Unedited → HasNotes p.line.basis p.before

  abbrev AsRun : Placed → Type 0
  AsRun p = fate edit p.line ≡ Replaced → shell p.line.typed p.before ≡ (outcome (texts_now edit p.line) p.before).0

  abbrev AsRecorded : TypedLine → Type 0
  AsRecorded l = fate edit l ≡ Unedited → DoesAsRecorded shell l

  effects : (lines : List (ℕ × Noted)) → All AsRecorded (map (played edit) lines)
  effects [] = All-nil AsRecorded
  effects (l ∷ lines) =
      All-cons AsRecorded (played edit l) (map (played edit) lines) (does_played edit l) (effects lines)

  modelled : (lines : List (ℕ × Noted)) (t : State) → All AsModelled (placed edit (map (played edit) lines) t)
  modelled [] t = All-nil AsModelled
  modelled (l ∷ lines) t =
      let next : State = (outcome (texts_now edit (played edit l)) t).0 in
      All-cons AsModelled (record { line = played edit l; before = t }) (placed edit (map (played edit) lines) next)
      (λ e. tt) (modelled lines next)

  runs : (lines : List (ℕ × Noted)) (t : State) → All AsRun (placed edit (map (played edit) lines) t)
  runs [] t = All-nil AsRun
  runs (l ∷ lines) t =
      let next : State = (outcome (texts_now edit (played edit l)) t).0 in
      All-cons AsRun (record { line = played edit l; before = t }) (placed edit (map (played edit) lines) next)
      (run_played (edit l.0) l t) (runs lines next)

pub world_played : (edit : ℕ → Option Edit) (lines : List (ℕ × Noted)) (first : State)
    → World shell edit (map (played edit) lines) first
world_played edit lines first = record {
  effects = effects edit lines;
  modelled = modelled edit lines first;
  runs = runs edit lines first;
}
