use Rattle.std.proofs.Common.{◌≡◌, ◌≢◌, ◌∷◌, ◌==◌, [], ℕ, List, Bool, false, None, option_map, arith, refl, sym, ap}
use Rattle.std.proofs.Common.{◌∙◌}
use Rattle.std.proofs.lemmas.Str.Pattern.{strip_prefix_char}
use Rattle.std.proofs.lemmas.Bool.{ne_eqb}
use Rattle.retro_syntax.specs.Tildes.{prefix_of, tilde_prefix_view}
use Rattle.retro_syntax.proofs.tildes.prefix_of.Goals as goal

no_tilde : (in_value is_only : Bool) (text : List ℕ) → ((rest : List ℕ) → text ≢ 126 ∷ rest)
    → prefix_of in_value is_only text ≡ None
no_tilde in_value is_only [] h = refl
no_tilde in_value is_only (c ∷ cs) h = let first : (c == 126) ≡ false = ne_eqb c 126 (λ e. h cs (ap (λ d. d ∷ cs) e)) in
    rw first refl

pub returns-in_err-after : goal.returns-in_err-after
returns-in_err-after c =
    let h = strip_prefix_char 126 c.args.text.now c.strip_prefix.result c.strip_prefix.ensures.cases (omega arith) in
    let k = rw c.in_err-after.was at h in
    ap (option_map tilde_prefix_view) c.from_residual.ensures
    ∙ sym (no_tilde c.args.in_value c.args.is_only c.args.text.now k)
