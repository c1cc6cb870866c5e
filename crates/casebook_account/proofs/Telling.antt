-- Told lines as those of a machine, and why documents have no account.
use Rattle.std.proofs.Common.{◌≡◌, ◌≤◌, ◌⊎◌, ◌^◌, ◌∷◌, [], ℕ, List, Result, Ok, Err, IfOk, inl, inr, length, map}
use Rattle.std.proofs.Common.{refl, subst, sym, ⊎_elim}
use Rattle.std.specs.Prelude.{flat_map}
use Rattle.retro_json.specs.declared.fault.Refusal.{Refusal}
use Rattle.casebook_case.specs.Reading.{case_in}
use Rattle.casebook_case.specs.declared.case.Case.{Case}
use Rattle.casebook_typed.specs.Values.{line_value}
use Rattle.casebook_typed.specs.declared.line.TypedLine.{TypedLine}
use Rattle.casebook_explain.specs.Noting.{texts_of}
use Rattle.casebook_explain.specs.Value.{ToldValue}
use Rattle.casebook_explain.specs.declared.noting.Noting.TheVariants.{WithNeeds}
use Rattle.casebook_explain.specs.declared.tell_fault.TellFault.{TellFault}
use Rattle.casebook_explain.specs.declared.tell_fault.TellFault.TheVariants as tells
use Rattle.casebook_explain.specs.declared.told.ToldLine.{ToldLine}
use Rattle.casebook_recording.specs.Faults.{of_tell}
use Rattle.casebook_recording.specs.Told.{IsToldOf}
use Rattle.casebook_recording.specs.declared.recording_fault.RecordingFault.{RecordingFault}
use Rattle.casebook_recording.specs.declared.recording_fault.RecordingFault.TheVariants as faults
use Rattle.casebook_account.specs.Attributes.{lines_seen}
use Rattle.casebook_account.specs.Accounts.{IsAccountOf, IsNoCase, IsNoOther, IsShownAccount}
use Rattle.casebook_account.specs.Faults.{of_recording}
use Rattle.casebook_account.specs.Machine.{IsTooMany, machine_from}
use Rattle.casebook_account.specs.Shown.{shown}
use Rattle.casebook_account.specs.declared.account.Account.{Account}
use Rattle.casebook_account.specs.declared.machine_line.MachineLine.{MachineLine}

pub nothing_left : (number first : ℕ) (told : List ToldLine) (lines : List TypedLine)
    → ((length told ≡ 0) ⊎ (length lines ≡ 0)) → machine_from number first told (map line_value lines) ≡ []
nothing_left number first [] lines none = refl
nothing_left number first (t ∷ told) [] none = refl
nothing_left number first (t ∷ told) (line ∷ lines) (inl none) = cc
nothing_left number first (t ∷ told) (line ∷ lines) (inr none) = cc

pub nothing_seen : (lines : List MachineLine) (typed : List TypedLine)
    → ((length lines ≡ 0) ⊎ (length typed ≡ 0)) → lines_seen lines (map line_value typed) ≡ []
nothing_seen [] typed none = refl
nothing_seen (l ∷ lines) [] none = refl
nothing_seen (l ∷ lines) (line ∷ typed) (inl none) = cc
nothing_seen (l ∷ lines) (line ∷ typed) (inr none) = cc

-- told lines that are too many for a machine
pub not_numbered : (case : Case) (told : ToldValue) → IsToldOf case told → (fault : RecordingFault)
    → fault ≡ faults.NoMem ⊎ fault ≡ faults.TooManyLines × IsTooMany told.lines → IsNoCase case fault
not_numbered case told is fault why =
    ⊎_elim (λ e. subst (IsNoCase case) (sym e) tt)
    (λ h. subst (IsNoCase case) (sym h.0) (inr (record { told = told; is_told = is; many = inl h.1 })))
    why

-- told lines that have too many texts
pub not_recorded : (case : Case) (told : ToldValue) → IsToldOf case told → (fault : TellFault)
    → fault ≡ tells.NoMem
    ⊎ fault ≡ tells.TooManyLines × 2 ^ 32 ≤ length (flat_map (texts_of WithNeeds) told.lines)
    → IsNoCase case (of_tell fault)
not_recorded case told is fault why =
    ⊎_elim (λ e. subst (λ f. IsNoCase case (of_tell f)) (sym e) tt)
    (λ h. subst (λ f. IsNoCase case (of_tell f)) (sym h.0)
    (inr (record { told = told; is_told = is; many = inr h.1 })))
    why

-- a document that is a case without an account
pub no_other : (bytes : List ℕ) (refusal : Refusal) (case : Case) → case_in bytes ≡ Ok case
    → (fault : RecordingFault) → IsNoCase case fault → IsNoOther bytes refusal (of_recording fault)
no_other bytes refusal case is faults.NoMem h = tt
no_other bytes refusal case is (faults.Case fault) h = absurd h
no_other bytes refusal case is (faults.Contradiction at) h = record { case = case; is_case = is; is_fault = h }
no_other bytes refusal case is faults.TooManySessions h = record { case = case; is_case = is; is_fault = h }
no_other bytes refusal case is faults.LawlessState h = record { case = case; is_case = is; is_fault = h }
no_other bytes refusal case is (faults.Line place fault) h = record { case = case; is_case = is; is_fault = h }
no_other bytes refusal case is faults.TooManyLines h = record { case = case; is_case = is; is_fault = h }

-- an account with its recording as it is shown
pub shown_account : {E : Type 0} (bytes : List ℕ) (account : Account) (result : Result Account E)
    → IsAccountOf bytes account → IfOk result (λ found. found.recording ≡ shown account account.recording)
    → IfOk result (λ found. found.machine ≡ account.machine) → IfOk result (IsShownAccount bytes)
shown_account bytes account (Ok found) is recording machine =
    record { account = account; is_account = is; recording = recording; machine = machine }
shown_account bytes account (Err e) is recording machine = tt
