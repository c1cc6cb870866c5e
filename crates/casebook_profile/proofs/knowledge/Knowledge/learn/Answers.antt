use Rattle.std.proofs.Common.{arith}
use Rattle.std.proofs.lemmas.Grind.{common_steps}
use Rattle.casebook_profile.proofs.KnowledgeLemmas.{or_assoc}
use Rattle.casebook_profile.proofs.knowledge.Knowledge.learn.Goals as goal

pub loop-note-preserved : goal.loop-note-preserved
loop-note-preserved c =
    λ q m. grind (arith, common_steps, or_assoc, c.loop-note.invariant q m, c.in_ok-learn_note.ensures q m)
