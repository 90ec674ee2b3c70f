use Rattle.std.proofs.Common.{◌≡◌, map, find, if◌then◌else◌, vec_capacity, Option, IsTrue, IsFalse, IfSome, is_some, AllPairs, refl, sym, ap, subst, ◌∙◌}
use Rattle.store_core.specs.Directory.{Pass}
use Rattle.store_core.specs.Lookups.{same_actor}
use Rattle.dir_parts.specs.OpenPass.{Open, Desk, HasRoom, given}
use Rattle.dir_parts.proofs.Actors.{find-open, change-open, is_found, apart_open, of_open, of_passes}
use Rattle.dir_parts.proofs.passes.Passes.draw.Goals as goal

pub set_drawn-requires-clause-there : goal.set_drawn-requires-clause-there
set_drawn-requires-clause-there c =
    is_found (λ (p : Pass). same_actor c.args.actor p.actor) c.self.inside.open.items
    (subst (λ (k : Desk). IsTrue (is_some (find (λ (p : Pass). same_actor c.args.actor p.actor) k.listed))) (sym c.self.view_is) c.requires.there)

pub set_drawn-requires-clause-apart : goal.set_drawn-requires-clause-apart
set_drawn-requires-clause-apart c = apart_open c.self.inside.open.items (subst (λ (k : Desk). AllPairs (λ (p q : Pass). IsFalse (same_actor p.actor q.actor)) k.listed) (sym c.self.view_is) c.requires.apart)

pub invariant_of-self : goal.invariant_of-self
invariant_of-self c =
    c.set_drawn.ensures.rooms c.self.inside.stripe_len c.self.invariant
    (of_open (λ (p : Pass). HasRoom c.self.inside.stripe_len (record { pass = record p { drawn = c.args.drawn.items }; room = vec_capacity c.args.spare }))
    (find (λ (o : Open). same_actor c.args.actor o.pass.actor) c.self.inside.open.items)
    (subst (λ (o : Option Pass). IfSome o (λ p. HasRoom c.self.inside.stripe_len (record { pass = record p { drawn = c.args.drawn.items }; room = vec_capacity c.args.spare }))) (find-open (λ (p : Pass). same_actor c.args.actor p.actor) c.self.inside.open.items)
    (subst (λ (k : Desk). IfSome (find (λ (p : Pass). same_actor c.args.actor p.actor) k.listed) (λ p. HasRoom k.stripe_len (record { pass = record p { drawn = c.args.drawn.items }; room = vec_capacity c.args.spare }))) (sym c.self.view_is) c.requires.room)))

pub returns-clause-listed : goal.returns-clause-listed
returns-clause-listed c =
    ap (map (λ (o : Open). o.pass)) c.set_drawn.ensures.after
    ∙ change-open (λ (p : Pass). same_actor c.args.actor p.actor) (given c.args.drawn.items (vec_capacity c.args.spare)) (λ (p : Pass). record p { drawn = c.args.drawn.items }) (λ o. refl) c.self.inside.open.items
    ∙ ap (λ (k : Desk). map (λ (p : Pass). if same_actor c.args.actor p.actor then record p { drawn = c.args.drawn.items } else p) k.listed) c.self.view_is

pub returns-clause-entry : goal.returns-clause-entry
returns-clause-entry c =
    subst (λ (k : Desk). IfSome (find (λ (p : Pass). same_actor c.args.actor p.actor) k.listed) (λ p. c.set_drawn.result.value.pass ≡ record p { drawn = c.args.drawn.items })) c.self.view_is
    (subst (λ (o : Option Pass). IfSome o (λ p. c.set_drawn.result.value.pass ≡ record p { drawn = c.args.drawn.items })) (sym (find-open (λ (p : Pass). same_actor c.args.actor p.actor) c.self.inside.open.items))
    (of_passes (given c.args.drawn.items (vec_capacity c.args.spare)) (λ (p : Pass). record p { drawn = c.args.drawn.items }) (λ o. refl) c.set_drawn.result.value
    (find (λ (o : Open). same_actor c.args.actor o.pass.actor) c.self.inside.open.items) c.set_drawn.ensures.entry))
