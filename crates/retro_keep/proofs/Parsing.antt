-- Texts that are parsed in order.
use Rattle.std.proofs.Common.{◌≡◌, ℕ, List, [], ◌∷◌, map, Ok, Err, IfOk, Result, refl, ap, ◌∙◌, subst}
use Rattle.std.specs.Prelude.{Contains, MatchResult}
use Rattle.std.specs.List.{AllZip}
use Rattle.retro_keep.specs.inner.Recorder.{text_of}
use Rattle.retro_keep.specs.declared.script.ScriptLine.{ScriptLine}

-- a line's text, or an error
abbrev pub IsTextOf : (E : Type 0) → ScriptLine → Result (List ℕ) E → Type 0
IsTextOf E line r = IfOk r (λ text. text ≡ text_of line)

-- the texts of what was parsed, if each parse succeeded
parsed_texts : (E : Type 0) (lines : List ScriptLine) (texts : List (List ℕ))
    → AllZip (IsTextOf E) lines (map Ok texts) → texts ≡ map text_of lines
parsed_texts E [] [] h = refl
parsed_texts E [] (text ∷ texts) h = absurd h
parsed_texts E (line ∷ lines) [] h = absurd h
parsed_texts E (line ∷ lines) (text ∷ texts) h =
    ap (λ t. t ∷ texts) h.0 ∙ ap (λ ts. text_of line ∷ ts) (parsed_texts E lines texts h.1)

-- what is gathered of the results
pub gathered_texts : (E V : Type 0) (items : V → List (List ℕ)) (lines : List ScriptLine)
    (results : List (Result (List ℕ) E)) (r : Result V E) → AllZip (IsTextOf E) lines results
    → MatchResult r (λ v. (texts : List (List ℕ)) × (results ≡ map Ok texts) × (items v ≡ texts))
    (λ e. Contains results (Err e))
    → IfOk r (λ v. items v ≡ map text_of lines)
gathered_texts E V items lines results (Ok v) each h =
    h.2 ∙ parsed_texts E lines h.0 (subst (AllZip (IsTextOf E) lines) h.1 each)
gathered_texts E V items lines results (Err e) each h = tt
