use Rattle.std.proofs.Common.{◌≡◌, ◌∙◌, true, false, map, Some, subst, sym, ap}
use Rattle.std.specs.List.{list_all}
use Rattle.std.specs.Result.{result_ok}
use Rattle.retro_tree.specs.Name.{is_name}
use Rattle.retro_json.specs.NoNul.{have_no_nul}
use Rattle.retro_json.specs.declared.fault.Part.TheVariants.{Sessions}
use Rattle.retro_json.proofs.Names.{path_named, path_unnamed, path_with_nul}
use Rattle.casebook_script.proofs.paths.path_named.Goals as goal

pub returns-then-have_no_nul : goal.returns-then-have_no_nul
returns-then-have_no_nul c =
    let names = map (λ name. name.now) c.args.names.now in
    let is : c.in-Some.path ≡ names = rw c.in-Some.is at c.in_ok-path.ensures in
    let plain = sym c.have_no_nul.ensures.value ∙ c.if-have_no_nul.true in
    ap Some is
    ∙ sym (ap result_ok (path_named Sessions names
    (subst (λ ns. list_all is_name ns ≡ true) is c.have_no_nul.ensures.names)
    (subst (λ ns. have_no_nul ns ≡ true) is plain)))

pub returns-else-have_no_nul : goal.returns-else-have_no_nul
returns-else-have_no_nul c =
    let names = map (λ name. name.now) c.args.names.now in
    let is : c.in-Some.path ≡ names = rw c.in-Some.is at c.in_ok-path.ensures in
    let nul = sym c.have_no_nul.ensures.value ∙ c.if-have_no_nul.false in
    sym (ap result_ok (path_with_nul Sessions names (subst (λ ns. have_no_nul ns ≡ false) is nul)))

pub returns-in-None : goal.returns-in-None
returns-in-None c =
    let names = map (λ name. name.now) c.args.names.now in
    let unnamed = rw c.in-None.is at c.in_ok-path.ensures in
    sym (ap result_ok (path_unnamed Sessions names unnamed))
