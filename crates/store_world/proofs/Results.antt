-- What holds of a result's value.
use Rattle.std.specs.Prelude.{Result, Ok, Err, IfOk, OnOk}

-- a fact of the value leads to another
pub on_ok : {A E : Type 0} {P Q : A → Type 0} (r : Result A E) → ((value : A) → P value → Q value) → IfOk r P → IfOk r Q
on_ok (Ok value) leads holds = leads value holds
on_ok (Err e) leads holds = tt

-- so does a fact of another value, where there is one
pub where_ok : {A E : Type 0} (P Q : Type 0) (r : Result A E) → (P → Q) → OnOk r P → OnOk r Q
where_ok P Q (Ok value) leads holds = leads holds
where_ok P Q (Err e) leads holds = tt
