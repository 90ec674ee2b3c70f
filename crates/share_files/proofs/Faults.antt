-- A fault that is handed on stands in another type's answer.
use Rattle.std.proofs.Common.{◌≡◌, Result, Ok, Err, ap}
use Rattle.std.specs.Prelude.{IsErrOf, OnErr}

pub handed_on : {A B E : Type 0} (x y : E) → IsErrOf {T = A} (Err x) y → IsErrOf {T = B} (Err x) y
handed_on x y e = let same : x ≡ y = cc in ap Err same

-- what holds with any answer holds with an error
pub on_any_error : {A E P : Type 0} (r : Result A E) → P → OnErr r P
on_any_error (Ok x) p = tt
on_any_error (Err e) p = p
