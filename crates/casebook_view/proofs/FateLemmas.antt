-- Fates of lines that are run again.
use Rattle.std.proofs.Common.{◌≡◌, Option, Some, None, refl, subst}
use Rattle.retro_keep.specs.declared.noted.Noted.{Noted}
use Rattle.casebook_view.specs.Fates.{IsFateOfRuns, IsRedoneFate}
use Rattle.casebook_view.specs.declared.fate.Fate.{Fate}
use Rattle.casebook_view.specs.declared.fate.Fate.TheVariants.{Changed}

pub fate_with : (old new : Noted) (run : Option Noted) (fate : Fate) → Some new ≡ run → IsFateOfRuns old new fate
    → IsRedoneFate (Some old) run fate
fate_with old new run fate is of_runs = subst (λ o. IsRedoneFate (Some old) o fate) is of_runs

pub fate_without : (old : Noted) (run : Option Noted) → None ≡ run → IsRedoneFate (Some old) run Changed
fate_without old run is = subst (λ o. IsRedoneFate (Some old) o Changed) is refl

pub fate_at_some : (old : Noted) (one two : Option Noted) (fate : Fate) → Some old ≡ one → IsRedoneFate (Some old) two fate
    → IsRedoneFate one two fate
fate_at_some old one two fate is redone = subst (λ o. IsRedoneFate o two fate) is redone

pub fate_at_none : (one two : Option Noted) → None ≡ one → IsRedoneFate one two Changed
fate_at_none one two is = subst (λ o. IsRedoneFate o two Changed) is refl
