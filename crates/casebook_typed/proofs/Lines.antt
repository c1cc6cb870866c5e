-- What is shown of lines.
use Rattle.std.proofs.Common.{◌≡◌, ◌∙◌, ℕ, ◌<◌, ◌≤◌, ◌==◌, ◌&&◌, List, get_or, length, map, ap}
use Rattle.std.proofs.Common.{None}
use Rattle.std.proofs.lemmas.List.{get_or-map, length-map}
use Rattle.std.proofs.Math.ListN.{get_or-eq_default}
use Rattle.casebook_record.specs.declared.record.Record.{Record}
use Rattle.casebook_typed.specs.Lines.{is_nothing, is_unchanged, text_at, text_of}
use Rattle.casebook_typed.specs.Seeing.{said}
use Rattle.casebook_typed.specs.Values.{change_value, seen_value}
use Rattle.casebook_typed.specs.declared.observation.Observation.{Observation}
use Rattle.casebook_typed.specs.declared.seen.Seen.{Seen}

pub nothing_in : (s : Seen) → is_nothing (seen_value s)
    ≡ (length s.changes.items == 0 && length s.read.items == 0 && length s.listed.items == 0)
nothing_in s = ap (λ n. n == 0 && length s.read.items == 0 && length s.listed.items == 0) (length-map s.changes.items change_value)

pub unchanged_in : (s : Seen) → is_unchanged (seen_value s) ≡ (length s.changes.items == 0)
unchanged_in s = ap (λ n. n == 0) (length-map s.changes.items change_value)

pub text_there : (os : List Observation) (at : ℕ) (d : Observation) → at < length os
    → text_at (map said os) at ≡ text_of (get_or os at d).record.now.event
text_there os at d h =
    get_or-map (λ (r : Record). text_of r.event) (map said os) at (said d) None (rw length-map h)
    ∙ ap (λ (r : Record). text_of r.event) (get_or-map said os at d (said d) h)

pub no_text_there : (os : List Observation) (at : ℕ) → length os ≤ at → text_at (map said os) at ≡ None
no_text_there os at h =
    get_or-eq_default (map (λ (r : Record). text_of r.event) (map said os)) None (rw (length-map, length-map) h)
