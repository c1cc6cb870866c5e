-- Runs whose notes certify them, one after the other.
use Rattle.std.proofs.Common.{◌≡◌, ◌∙◌, ap, subst, sym, List, [], ◌∷◌, ◌++◌, map}
use Rattle.std.specs.Prelude.{flat_map}
use Rattle.std.proofs.lemmas.List.{append_assoc}
use Rattle.std.proofs.lemmas.List.Elements.{All-cons, All-nil}
use Rattle.retro_shell.specs.Runs.{IsRun, RunValue}
use Rattle.retro_keep.specs.Recording.{noted_of}
use Rattle.retro_keep.specs.declared.noted.Noted.{Noted}
use Rattle.casebook_explain.specs.Noting.{texts_of}
use Rattle.casebook_explain.specs.inner.Sound.{AreRuns, HaveRuns}
use Rattle.casebook_explain.specs.declared.noting.Noting.{Noting}
use Rattle.casebook_explain.specs.declared.told.ToldLine.{ToldLine}

pub no_runs : AreRuns []
no_runs = record { are = All-nil IsRun }

-- those that are left, and those after the next one
pub runs_before : (run : RunValue) (left runs : List RunValue) → left ≡ run ∷ runs → IsRun run
    → AreRuns runs → AreRuns left
runs_before run left runs e is are =
    subst AreRuns (sym e) (record { are = All-cons IsRun run runs is are.are })

pub no_lines : HaveRuns []
no_lines = record { have = All-nil (λ line. AreRuns line.runs.items) }

pub lines_before : (line : ToldLine) (left lines : List ToldLine) → left ≡ line ∷ lines
    → AreRuns line.runs.items → HaveRuns lines → HaveRuns left
lines_before line left lines e are have =
    subst HaveRuns (sym e)
    (record { have = All-cons (λ line. AreRuns line.runs.items) line lines are have.have })

-- ---- the next one is moved

pub run_moved : (texts new all : List Noted) (run : RunValue) (left runs : List RunValue)
    → left ≡ run ∷ runs → new ≡ texts ++ noted_of run ∷ [] → texts ++ map noted_of left ≡ all
    → new ++ map noted_of runs ≡ all
run_moved texts new all run left runs next is e =
    ap (λ xs. xs ++ map noted_of runs) is ∙ append_assoc texts (noted_of run ∷ []) (map noted_of runs)
    ∙ ap (λ rs. texts ++ map noted_of rs) (sym next) ∙ e

pub line_moved : (noting : Noting) (texts new all : List Noted) (line : ToldLine)
    (left lines : List ToldLine) → left ≡ line ∷ lines → new ≡ texts ++ texts_of noting line
    → texts ++ flat_map (texts_of noting) left ≡ all → new ++ flat_map (texts_of noting) lines ≡ all
line_moved noting texts new all line left lines next is e =
    ap (λ xs. xs ++ flat_map (texts_of noting) lines) is
    ∙ append_assoc texts (texts_of noting line) (flat_map (texts_of noting) lines)
    ∙ ap (λ ls. texts ++ flat_map (texts_of noting) ls) (sym next) ∙ e
