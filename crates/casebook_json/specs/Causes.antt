-- What cancelled and replaced lines led to, as JSON.
use Rattle.std.specs.Prelude.{codes, map}
use Rattle.serde_json.specs.Data.{Data, object, no_members, member}
use Rattle.retro_json.specs.Values.{array_of, number_data}
use Rattle.casebook_view.specs.declared.fate.Fate.TheVariants.{Alike, Changed}
use Rattle.casebook_summary.specs.Counts.{count_of}
use Rattle.casebook_summary.specs.Effects.{EffectValue}
use Rattle.casebook_json.specs.Values.{path_data}

-- `{"alike":n,"changed":n,"line":n,"paths":[path,..],"read":[path,..]}`
unfoldable pub effect_data : EffectValue → Data
effect_data effect = object
    (member (codes "alike") (number_data (count_of effect.led Alike))
    (member (codes "changed") (number_data (count_of effect.led Changed))
    (member (codes "line") (number_data effect.number)
    (member (codes "paths") (array_of (map path_data effect.wrote))
    (member (codes "read") (array_of (map path_data effect.read)) no_members)))))
