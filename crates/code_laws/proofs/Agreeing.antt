-- Chunks that agree with those that are there, entry by entry.
use Rattle.std.proofs.Common.{◌≡◌, ℕ, ◌<◌, List, [], length, get_or, Option, Some, None, Vec, Global, IfSome, sym, ap, ◌∙◌, inl, inr}
use Rattle.std.specs.Option.{option_map}
use Rattle.std.proofs.lemmas.Bool.{cases_lt}
use Rattle.std.proofs.lemmas.List.{get_or_past}
use Rattle.std.proofs.Math.ListN.{get_or-map}
use Rattle.clay_model.specs.Code.{AgreesWith}
use Rattle.clay_model.specs.Left.{parts}

abbrev items : Option (Vec ℕ Global) → Option (List ℕ)
items o = option_map (λ (v : Vec ℕ Global). v.items) o

part_at : (have : List (Option (Vec ℕ Global))) (c : ℕ) → get_or (parts have) c None ≡ items (get_or have c None)
part_at have c = get_or-map items have c None

same_part : (o : Option (Vec ℕ Global)) (l chunk : List ℕ) → IfSome o (λ v. l ≡ v.items) → items o ≡ Some chunk → l ≡ chunk
same_part None l chunk h e = cc
same_part (Some v) l chunk h e = cc

pub agrees_of : (have : List (Option (Vec ℕ Global))) (chunks : List (List ℕ)) → ((c : ℕ) → c < length have → IfSome (get_or have c None) (λ v. get_or chunks c [] ≡ v.items)) → AgreesWith (parts have) chunks
agrees_of have chunks each c chunk there =
    elim (cases_lt c (length have)) [
      | inl within ↦ same_part (get_or have c None) (get_or chunks c []) chunk (each c within) (sym (part_at have c) ∙ there)
      | inr past ↦
          let none : Some chunk ≡ None = sym there ∙ part_at have c ∙ ap items (get_or_past have c None past) in
          cc
    ]

pub kept_of : (have : List (Option (Vec ℕ Global))) (chunks : List (List ℕ)) → AgreesWith (parts have) chunks → (c : ℕ) (o : Option (Vec ℕ Global)) → get_or have c None ≡ o → IfSome o (λ v. get_or chunks c [] ≡ v.items)
kept_of have chunks agrees c None is = tt
kept_of have chunks agrees c (Some v) is = agrees c v.items (part_at have c ∙ ap items is)
