use Rattle.std.proofs.Common.{◌<◌, map, nat_eq, All, sym, subst}
use Rattle.std.specs.List.{IsDistinct}
use Rattle.std.proofs.lemmas.List.Elements.{All-nil}
use Rattle.dir_parts.specs.Shelf.{birth_of}
use Rattle.dir_parts.proofs.objects.Objects.new.Goals as goal

pub invariant_of-result : goal.invariant_of-result
unfolding IsDistinct
invariant_of-result c = record {
  names = c.new.ensures.unique;
  births = subst (λ es. IsDistinct nat_eq (map birth_of es)) (sym c.new.ensures.empty) tt;
  later = subst (λ es. All (λ b. b < 0) (map birth_of es)) (sym c.new.ensures.empty) (All-nil (λ b. b < 0));
}
