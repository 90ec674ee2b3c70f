use Rattle.std.proofs.Common.{ap, ◌∙◌}
use Rattle.store_map.specs.PlainMap.{bytes_of}
use Rattle.store_map.proofs.MapLemmas.{bytes_of-lookup}
use Rattle.store_map.proofs.object_map.ObjectMap.find.Goals as goal

pub returns : goal.returns
returns c =
    c.get.ensures.value ∙ bytes_of-lookup c.args.name.now c.self.inside.objects.entries
    ∙ ap (λ m. bytes_of c.args.name.now m.objects) c.self.view_is
