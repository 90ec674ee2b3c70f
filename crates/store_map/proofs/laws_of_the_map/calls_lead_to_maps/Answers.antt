use Rattle.store_map.proofs.MapLaws.{IsMap-map_after}
use Rattle.store_map.proofs.laws_of_the_map.calls_lead_to_maps.Goals as goal

pub returns : goal.returns
returns c = IsMap-map_after
