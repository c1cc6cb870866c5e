use Rattle.std.proofs.Common.{◌≡◌, ℕ, Bool, List, [], subst}
use Rattle.std.specs.Prelude.{IfOk}
use mathlib.Core.Path.{fun_ext}
use Rattle.casebook_profile.specs.Lines.{text_obstacle}
use Rattle.casebook_profile.proofs.finding.obstacle_in.Goals as goal

pub returns : goal.returns
returns c =
    subst (λ (f : List ℕ → Bool). IfOk c.text_obstacle.result
    (λ found. found ≡ text_obstacle (record { before = f; set = []; loops = [] }) c.args.text.now))
    (fun_ext (λ name. c.of-knowledge.ensures c.args.session name)) c.text_obstacle.ensures
