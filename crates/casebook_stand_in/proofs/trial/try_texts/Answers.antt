use Rattle.std.proofs.Common.{ap, map}
use Rattle.casebook_stand_in.specs.Texts.{text_in}
use Rattle.casebook_stand_in.proofs.trial.try_texts.Goals as goal

pub loop-text-init : goal.loop-text-init
loop-text-init c = record {
  trial = c.new-trial.ensures.trial c.args.sid c.args.state.now c.requires.lawful;
  texts = ap (map text_in) c.new-trial.ensures.runs;
}
