-- Nothing that was whole is lost.
use Rattle.std.proofs.Common.{◌≡◌, ◌∙◌, ℕ, ◌++◌, List, Option, Some, None, Ok, Err, Result, [], Bool, true, false, ap, drop, inl, inr, refl, subst, sym, take, take-append-drop, ⊎_elim}
use Rattle.std.specs.Prelude.{◌⊎◌, IfSome, if◌then◌else◌, option_map}
use Rattle.casebook_observe.specs.Files.{IsCutOff, OnlyKeeps, SpoolFiles, appended, with_listing}
use Rattle.casebook_observe.specs.Last.{last_look}
use Rattle.casebook_observe.specs.Observed.{LosesNothing, settled}
use Rattle.casebook_observe.specs.declared.last_look.LastLook.{LastLook}
use Rattle.casebook_observe.specs.declared.observe_error.ObserveError.{ObserveError}

-- the listing is the same, or it was emptied
listing_kept : (b : Bool) (old now : List ℕ) → now ≡ (if b then old else []) → (now ≡ old) ⊎ (now ≡ [])
listing_kept true old now h = inl h
listing_kept false old now h = inr h

-- a spool that is settled and mended only keeps contents
one_kept : (last : LastLook) (files : SpoolFiles) (now : Option SpoolFiles)
    → OnlyKeeps (Some (settled last files)) now → LosesNothing (Ok last) files now
one_kept last files None k = absurd k
one_kept last files (Some now) k = (
  k.0,
  listing_kept last.is_listed files.listing now.listing k.1,
  (drop last.whole files.lines, k.2 ∙ sym (take-append-drop last.whole files.lines)),
  k.3,
)

-- and mended has a text in place of what was cut off
one_appended : (last : LastLook) (text : List ℕ) (files : SpoolFiles) (mid now : Option SpoolFiles)
    → OnlyKeeps (Some (settled last files)) mid → now ≡ option_map (appended last.whole text) mid
    → LosesNothing (Ok last) files now
one_appended last text files None now k e = absurd k
one_appended last text files (Some mid) now k e =
    subst (LosesNothing (Ok last) files) (sym e) (
      k.0,
      listing_kept last.is_listed files.listing mid.listing k.1,
      (text, ap (λ lines. take last.whole lines ++ text) k.2),
      k.3,
    )

pub kept_whole : (last : LastLook) (held mended now : Option SpoolFiles)
    → IfSome held (λ files. last_look files ≡ Ok last) → mended ≡ option_map (settled last) held
    → OnlyKeeps mended now → IfSome held (λ files. LosesNothing (last_look files) files now)
kept_whole last None mended now e s k = tt
kept_whole last (Some files) mended now e s k =
    subst (λ look. LosesNothing look files now) (sym e)
    (one_kept last files now (subst (λ h. OnlyKeeps h now) s k))

pub appended_whole : (last : LastLook) (text : List ℕ) (held mended mid now : Option SpoolFiles)
    → IfSome held (λ files. last_look files ≡ Ok last) → mended ≡ option_map (settled last) held
    → OnlyKeeps mended mid → now ≡ option_map (appended last.whole text) mid
    → IfSome held (λ files. LosesNothing (last_look files) files now)
appended_whole last text None mended mid now e s k h = tt
appended_whole last text (Some files) mended mid now e s k h =
    subst (λ look. LosesNothing look files now) (sym e)
    (one_appended last text files mid now (subst (λ f. OnlyKeeps f mid) s k) h)

pub cut_whole : (last : LastLook) (text : List ℕ) (held mended mid now : Option SpoolFiles)
    → IfSome held (λ files. last_look files ≡ Ok last) → mended ≡ option_map (settled last) held
    → OnlyKeeps mended mid → IsCutOff last.whole text mid now
    → IfSome held (λ files. LosesNothing (last_look files) files now)
cut_whole last text held mended mid now e s k h =
    ⊎_elim
    (λ same. kept_whole last held mended now e s (subst (OnlyKeeps mended) (sym same) k))
    (λ cut. appended_whole last (take cut.0 text) held mended mid now e s k cut.1)
    h

-- a spool that wasn't changed
same_look : (look : Result LastLook ObserveError) (files : SpoolFiles) → LosesNothing look files (Some files)
same_look (Ok last) files =
    (refl, inl refl, (drop last.whole files.lines, sym (take-append-drop last.whole files.lines)), λ d bytes h. h)
same_look (Err error) files = refl

pub same_whole : (held : Option SpoolFiles) → IfSome held (λ files. LosesNothing (last_look files) files held)
same_whole None = tt
same_whole (Some files) = same_look (last_look files) files

pub unchanged_whole : (held now : Option SpoolFiles) → now ≡ held
    → IfSome held (λ files. LosesNothing (last_look files) files now)
unchanged_whole held now e =
    subst (λ h. IfSome held (λ files. LosesNothing (last_look files) files h)) (sym e) (same_whole held)

pub settled_already : (last : LastLook) (held : Option SpoolFiles) → last.is_listed ≡ true
    → held ≡ option_map (settled last) held
settled_already last None e = refl
settled_already last (Some files) e = rw e refl

pub emptied : (last : LastLook) (held now : Option SpoolFiles) → last.is_listed ≡ false
    → now ≡ option_map (with_listing []) held → now ≡ option_map (settled last) held
emptied last None now e h = h
emptied last (Some files) now e h = rw e h
