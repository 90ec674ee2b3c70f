-- Actors of whom none has a step, each by itself and all together.
use Rattle.std.proofs.Common.{◌≡◌, suc, Bool, false, ◌||◌, List, [], ◌∷◌, refl, ap, ◌∙◌}
use Rattle.store_core.specs.Work.{Work, Calling, any_has_step}
use Rattle.thread_laws.specs.Ended.{NoneHasAStep}

pub none_of_all : (works : List Work) (callings : List Calling) → NoneHasAStep works callings → any_has_step works callings ≡ false
none_of_all [] callings h = refl
none_of_all (work ∷ works) [] h = refl
none_of_all (work ∷ works) (calling ∷ callings) h =
    ap (λ (b : Bool). b || any_has_step works callings) (h 0) ∙ none_of_all works callings (λ i. h (suc i))
