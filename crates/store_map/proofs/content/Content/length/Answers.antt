use Rattle.std.proofs.Common.{◌+◌, ◌%◌, ap, length, sym, ◌∙◌}
use Rattle.std.proofs.lemmas.List.FromFn.{length-map-range_with_len}
use Rattle.store_map.specs.Content.{content_bytes}
use Rattle.store_map.proofs.content.Content.length.Goals as goal

pub returns-in-Ramp-clause-of_bytes : goal.returns-in-Ramp-clause-of_bytes
returns-in-Ramp-clause-of_bytes c =
    sym (ap (λ v. length (content_bytes v)) c.in-Ramp.is ∙ length-map-range_with_len (λ i. (c.in-Ramp.first + i) % 256) 0 c.in-Ramp.length)
