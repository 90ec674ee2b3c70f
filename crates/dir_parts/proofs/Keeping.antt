-- The points that are kept, where any are, after one more.
use Rattle.std.proofs.Common.{◌≡◌, ℕ, ◌+◌, ◌-◌, ◌^◌, ◌<◌, min, List, [], ◌∷◌, ◌++◌, Vec, vec_len, vec_capacity, Option, None, Some, option_map, is_some, IfSome, refl, sym, ap, ◌∙◌, arith}
use Rattle.std.proofs.lemmas.Option.{same_Some, none-some}
use Rattle.std.specs.declared.alloc.Global.{Global}
use Rattle.dir_parts.specs.PointLog.{spare_in, spare_after}
use Rattle.dir_parts.specs.declared.history.PointRow.{PointRow}

pub there_still : {X Y : Type 0} (f : X → Y) (o : Option X) → is_some (option_map f o) ≡ is_some o
there_still f None = refl
there_still f (Some x) = refl

pub kept_more : (old new : Option (Vec PointRow Global)) (point : PointRow) (told after : List PointRow) → option_map (λ rows. rows.items) new ≡ option_map (λ rows. rows.items ++ point ∷ []) old
    → IfSome old (λ rows. rows.items ≡ told) → after ≡ told ++ point ∷ [] → IfSome new (λ rows. rows.items ≡ after)
kept_more None None point told after rows is more = tt
kept_more None (Some new) point told after rows is more = absurd (none-some new.items (sym rows))
kept_more (Some old) None point told after rows is more = absurd (none-some (old.items ++ point ∷ []) rows)
kept_more (Some old) (Some new) point told after rows is more = same_Some new.items (old.items ++ point ∷ []) rows ∙ ap (λ l. l ++ point ∷ []) is ∙ sym more

pub room_less : (count : ℕ) (old new : Option (Vec PointRow Global)) → spare_in new ≡ spare_after old → 0 < min (2 ^ 64 - 1 - count) (spare_in old)
    → min (2 ^ 64 - 1 - (count + 1)) (spare_in new) + 1 ≡ min (2 ^ 64 - 1 - count) (spare_in old)
room_less count None new less some =
    let now : spare_in new ≡ 2 ^ 64 = less in
    omega (arith, now, some)
room_less count (Some old) new less some =
    let now : spare_in new ≡ vec_capacity old - vec_len old - 1 = less in
    omega (arith, now, some)
