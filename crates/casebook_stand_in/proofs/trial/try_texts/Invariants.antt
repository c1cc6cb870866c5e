-- The texts so far were tried.
use Rattle.std.proofs.Common.{◌≡◌, map, take}
use Rattle.casebook_stand_in.specs.Texts.{text_in}
use Rattle.casebook_stand_in.specs.inner.Trials.{IsTrial}
use Rattle.casebook_stand_in.proofs.trial.try_texts.Given as goal

abbrev pub invariant-loop-text : goal.invariant-loop-text
invariant-loop-text l = record {
  trial : IsTrial l.sid l.state l.trial.runs.items l.trial.cells;
  texts : map text_in l.trial.runs.items ≡ take l.text-index l.texts;
}
