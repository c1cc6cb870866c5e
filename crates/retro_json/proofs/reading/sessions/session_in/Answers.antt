use Rattle.std.proofs.Common.{◌≡◌, Err, refl, sym}
use Rattle.std.specs.FinMap.{from_entries}
use Rattle.retro_tree.specs.Order.{text_cmp}
use Rattle.retro_json.specs.ReadsAs.{seen}
use Rattle.retro_json.specs.Worst.{both}
use Rattle.retro_json.proofs.Worst.{last_refused}
use Rattle.retro_json.proofs.reading.sessions.session_in.Goals as goal

pub returns-in-Err : goal.returns-in-Err
returns-in-Err c =
    let refused :
    both c.in_ok-cwd.cwd (both c.u8_in-status.result
    (seen (λ vs. from_entries {R = text_cmp} vs.entries) c.in_ok-vars_in.field-0)) ≡ Err c.in-Err.refusal =
    last_refused (λ vs. from_entries {R = text_cmp} vs.entries) c.in_ok-cwd.cwd c.u8_in-status.result
    c.in_ok-vars_in.field-0 c.both.result c.in-Err.refusal c.in-Err.ensures c.both.ensures in
    rw (sym c.in_ok-cwd.ensures, sym c.u8_in-status.ensures, sym c.in_ok-vars_in.ensures, refused) refl
