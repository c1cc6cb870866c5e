-- What lines that are cancelled or replaced led to.
use Rattle.std.specs.Prelude.{ℕ, ◌==◌, Bool, true, false, not, ◌&&◌, List, Option, Some, None, map}
use Rattle.std.specs.List.{filter, filter_map}
use Rattle.retro_tree.specs.Order.{path_eq}
use Rattle.retro_tree.specs.Path.{PathValue}
use Rattle.retro_keep.specs.Recording.{RecordingValue}
use Rattle.casebook_view.specs.FirstOfEach.{first_of_each}
use Rattle.casebook_view.specs.NotePaths.{path_written}
use Rattle.casebook_view.specs.Reasons.{notes_at}
use Rattle.casebook_summary.specs.Reads.{paths_read}
use Rattle.casebook_summary.specs.declared.effect.Effect.{Effect}
use Rattle.casebook_view.specs.declared.case_line.CaseLine.{CaseLine}
use Rattle.casebook_view.specs.declared.fate.Fate.{Fate}
use Rattle.casebook_view.specs.declared.fate.Fate.TheVariants.{Cancelled, Changed, Alike, Kept, Untouched}
use Rattle.casebook_view.specs.declared.reason.Reason.{Reason}
use Rattle.casebook_view.specs.declared.why.Why.{Why}
use Rattle.casebook_view.specs.declared.why.Why.TheVariants.{Replaced, Query, RunAgain}

-- what an effect says
pub record EffectValue : Type 0 where
  pub number : ℕ
  pub led : List CaseLine
  pub read : List PathValue
  pub wrote : List PathValue

abbrev pub effect_value : Effect → EffectValue
effect_value effect = record {
  number = effect.number;
  led = effect.led.items;
  read = effect.read.items;
  wrote = effect.wrote.items;
}

-- whether a reason says that a chain of causes ends at the line with a number
abbrev pub ends_at : ℕ → Option Reason → Bool
ends_at n None = false
ends_at n (Some reason) = reason.origin == n

-- whether a line is another one, and its chain of causes ends at the line with a number
abbrev pub is_led_to : ℕ → CaseLine → Bool
is_led_to n line = not (line.number == n) && ends_at n line.reason

abbrev pub is_replacing : Why → Bool
is_replacing Replaced = true
is_replacing (Query i) = false
is_replacing RunAgain = false

-- whether a reason is that an edit replaces the line's text
abbrev pub has_replaced : Option Reason → Bool
has_replaced None = false
has_replaced (Some reason) = is_replacing reason.why

-- Whether a line with a fate is an edited one: it is cancelled, or it is run again since its text
-- is replaced.
abbrev pub is_origin_by : Fate → Bool → Bool
is_origin_by Cancelled replaced = true
is_origin_by Changed replaced = replaced
is_origin_by Alike replaced = replaced
is_origin_by Kept replaced = false
is_origin_by Untouched replaced = false

abbrev pub is_origin : CaseLine → Bool
is_origin line = is_origin_by line.fate (has_replaced line.reason)

-- the paths that the line with a number wrote
abbrev pub paths_written : RecordingValue → ℕ → List PathValue
paths_written r n = first_of_each path_eq (filter_map path_written (notes_at n r))

abbrev pub effect_of : RecordingValue → List CaseLine → ℕ → EffectValue
effect_of r lines n = record {
  number = n;
  led = filter (is_led_to n) lines;
  read = paths_read (notes_at n r);
  wrote = paths_written r n;
}

-- the effects of the cancelled and replaced lines, in order
abbrev pub effects_of : RecordingValue → List CaseLine → List EffectValue
effects_of r lines = map (λ line. effect_of r lines line.number) (filter is_origin lines)
