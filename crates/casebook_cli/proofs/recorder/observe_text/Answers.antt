use Rattle.casebook_cli.proofs.recorder.observe_text.Goals as goal

pub returns-in-Ok-clause-ok : goal.returns-in-Ok-clause-ok
returns-in-Ok-clause-ok g c = record {
  left = g.D.Kept.Spool.holds c.in-Ok._spool;
  takes = c.in-Ok.ensures.ok;
  nothing = c.nothing.ensures;
}
