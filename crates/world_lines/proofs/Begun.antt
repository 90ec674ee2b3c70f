-- The line of a call that has begun.
use Rattle.std.proofs.Common.{◌≡◌, ℕ, List, [], ◌∷◌, ◌++◌, length, nat_lt, if◌then◌else◌, ap, ◌∙◌}
use Rattle.store_map.specs.declared.call_name.CallName.{CallName}
use Rattle.store_map.specs.declared.line.OLine.{OLine}
use Rattle.store_core.specs.Work.{Calling}
use Rattle.store_core.specs.Shown.{unanswered_line}

pub begun : (lines next : List OLine) (name : ℕ → CallName) (count : ℕ) (calling : Calling) → count ≡ length calling.ended
    → next ≡ lines ++ (if nat_lt 0 calling.steps then record { call = name count } ∷ [] else []) → next ≡ lines ++ unanswered_line name calling
begun lines next name count calling e one = one ∙ ap (λ n. lines ++ (if nat_lt 0 calling.steps then record { call = name n } ∷ [] else [])) e
