use Rattle.std.proofs.Common.{◌∷◌, map, find, filter, not, IsTrue, IsFalse, is_some, option_map, AllPairs, sym, ap, subst, ◌∙◌}
use Rattle.std.proofs.lemmas.List.Elements.{All-head, All-tail}
use Rattle.std.proofs.lemmas.List.Sorted.{All-permutation, IsPermutation-map}
use Rattle.std.specs.List.Sorted.{IsPermutation}
use Rattle.store_core.specs.Directory.{Pass}
use Rattle.store_core.specs.Lookups.{same_actor}
use Rattle.dir_parts.specs.OpenPass.{Open, Desk, HasRoom}
use Rattle.dir_parts.proofs.Actors.{find-open, filter-open, is_found, apart_open}
use Rattle.dir_parts.proofs.passes.Passes.take.Goals as goal

pub take_pass-requires-clause-there : goal.take_pass-requires-clause-there
take_pass-requires-clause-there c =
    is_found (λ (p : Pass). same_actor c.args.actor p.actor) c.self.inside.open.items
    (subst (λ (k : Desk). IsTrue (is_some (find (λ (p : Pass). same_actor c.args.actor p.actor) k.listed))) (sym c.self.view_is) c.requires.there)

pub take_pass-requires-clause-apart : goal.take_pass-requires-clause-apart
take_pass-requires-clause-apart c = apart_open c.self.inside.open.items (subst (λ (k : Desk). AllPairs (λ (p q : Pass). IsFalse (same_actor p.actor q.actor)) k.listed) (sym c.self.view_is) c.requires.apart)

pub invariant_of-self : goal.invariant_of-self
invariant_of-self c =
    All-tail (HasRoom c.self.inside.stripe_len) c.take_pass.result _ (All-permutation (HasRoom c.self.inside.stripe_len) c.self.inside.open.items _ c.take_pass.ensures.others c.self.invariant)

pub returns-clause-found : goal.returns-clause-found
returns-clause-found c =
    sym (ap (λ (k : Desk). find (λ (p : Pass). same_actor c.args.actor p.actor) k.listed) c.self.view_is)
    ∙ find-open (λ (p : Pass). same_actor c.args.actor p.actor) c.self.inside.open.items ∙ ap (option_map (λ (o : Open). o.pass)) c.take_pass.ensures.found

pub returns-clause-left : goal.returns-clause-left
returns-clause-left c =
    ap (map (λ (o : Open). o.pass)) c.take_pass.ensures.left ∙ filter-open (λ (p : Pass). not (same_actor c.args.actor p.actor)) c.self.inside.open.items
    ∙ ap (λ (k : Desk). filter (λ (p : Pass). not (same_actor c.args.actor p.actor)) k.listed) c.self.view_is

pub returns-clause-others : goal.returns-clause-others
returns-clause-others c =
    subst (λ (k : Desk). IsPermutation k.listed (c.take_pass.result.pass ∷ map (λ (o : Open). o.pass) c.take_pass.new.calls.items)) c.self.view_is
    (IsPermutation-map (λ (o : Open). o.pass) c.self.inside.open.items (c.take_pass.result ∷ c.take_pass.new.calls.items) c.take_pass.ensures.others)

pub returns-clause-room : goal.returns-clause-room
returns-clause-room c =
    subst (λ (k : Desk). HasRoom k.stripe_len c.take_pass.result) c.self.view_is
    (All-head (HasRoom c.self.inside.stripe_len) c.take_pass.result c.take_pass.new.calls.items (All-permutation (HasRoom c.self.inside.stripe_len) c.self.inside.open.items _ c.take_pass.ensures.others c.self.invariant))
