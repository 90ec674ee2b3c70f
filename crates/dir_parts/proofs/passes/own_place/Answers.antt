use Rattle.std.proofs.Common.{◌≡◌, ◌⊎◌, ◌<◌, ◌≤◌, Option, None, Some, IsTrue, is_some, length, slice_get, get_or, inl, inr, subst, ◌∙◌}
use Rattle.std.proofs.lemmas.Bool.{false≢true}
use Rattle.std.proofs.lemmas.Option.{slice_get_cases}
use Rattle.dir_parts.specs.OpenPass.{Open}
use Rattle.dir_parts.proofs.passes.own_place.Goals as goal

pub returns-clause-within : goal.returns-clause-within
returns-clause-within c = by (slice_get_cases c.args.calls.now c.place_of.result).1
  where
    by : ((x : Open) × (c.place_of.result < length c.args.calls.now) × (slice_get c.args.calls.now c.place_of.result ≡ Some x) × (get_or c.args.calls.now c.place_of.result x ≡ x))
        ⊎ ((length c.args.calls.now ≤ c.place_of.result) × (slice_get c.args.calls.now c.place_of.result ≡ None)) → c.place_of.result < length c.args.calls.now
    by (inl k) = k.1
    by (inr k) = absurd (false≢true (subst (λ (o : Option Open). IsTrue (is_some o)) (c.place_of.ensures ∙ k.1) c.requires))
