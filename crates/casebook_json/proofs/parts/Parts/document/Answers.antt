use Rattle.serde_json.proofs.Views.{view-Array, view-Object}
use Rattle.casebook_json.proofs.SameDocument.{same_document}
use Rattle.casebook_json.proofs.Shown.{view_flag}
use Rattle.casebook_json.proofs.parts.Parts.document.Goals as goal

-- each key is put after those before it
pub returns : goal.returns
returns c =
    rw (
      view-Object c.put-17.new.map,
      c.in_ok-put-17.ensures.ok,
      c.in_ok-put-16.ensures.ok,
      c.in_ok-put-15.ensures.ok,
      c.in_ok-put-14.ensures.ok,
      c.in_ok-put-13.ensures.ok,
      c.in_ok-put-12.ensures.ok,
      c.in_ok-put-11.ensures.ok,
      c.in_ok-put-10.ensures.ok,
      c.in_ok-put-9.ensures.ok,
      c.in_ok-put-8.ensures.ok,
      c.in_ok-put-7.ensures.ok,
      c.in_ok-put-6.ensures.ok,
      c.in_ok-put-5.ensures.ok,
      c.in_ok-put-4.ensures.ok,
      c.in_ok-put-3.ensures.ok,
      c.in_ok-put-2.ensures.ok,
      c.in_ok-put.ensures.ok,
      c.new-map.ensures.empty,
    )
    (rw (view_flag c.args.is_recording, c.from.ensures, c.in_ok-try_from_str.ensures)
    (same_document _ _ _ _ _ _ _ _ _ _ _ _ _ _ _ _ _ _ _ _ _ _ _ _ _ _ _ _ _ _
    (view-Array c.args.self.causes)
    (view-Array c.args.self.doubtful)
    (view-Array c.args.self.incomplete)
    (view-Array c.args.self.leaked)
    (view-Array c.args.self.lines)
    (view-Array c.args.self.looked)
    (view-Array c.args.self.observed)
    (view-Array c.args.self.outside)
    (view-Array c.args.self.overlapping)
    (view-Array c.args.self.restore)
    (view-Array c.args.self.tell)
    (view-Array c.args.self.unknown)
    (view-Array c.args.self.unseen)))
