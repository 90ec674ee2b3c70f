use Rattle.std.proofs.Common.{length, ap, sym, ◌∙◌}
use Rattle.std.proofs.lemmas.List.{length-map}
use Rattle.dir_parts.specs.Parts.{Shelf}
use Rattle.dir_parts.specs.Shelf.{object_in, by_birth}
use Rattle.dir_parts.proofs.Births.{ordered_length}
use Rattle.dir_parts.proofs.objects.Objects.len.Goals as goal

pub returns : goal.returns
returns c =
    c.len.ensures.len ∙ sym (ordered_length c.self.inside.listed.entries) ∙ sym (length-map (by_birth c.self.inside.listed.entries) object_in)
    ∙ ap (λ (s : Shelf). length s.objects) c.self.view_is
