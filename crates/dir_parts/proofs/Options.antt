-- What is lent of a value that may be there.
use Rattle.std.proofs.Common.{◌≡◌, Option, None, Some, option_map, refl, ap, ◌∙◌}
use Rattle.std.specs.Option.{option_copied}
use denote.Ref.{Bor}

pub copied_map : {X Y : Type 0} (f : X → Y) (lent : Option (Bor X)) (value : Option X) → option_copied lent ≡ value → option_map (λ (x : Bor X). f x.now) lent ≡ option_map f value
copied_map {X} f lent value e = by lent ∙ ap (option_map f) e
  where
    by : (lent : Option (Bor X)) → option_map (λ (x : Bor X). f x.now) lent ≡ option_map f (option_copied lent)
    by None = refl
    by (Some x) = refl
