use Rattle.std.proofs.Common.{map, find, if◌then◌else◌, Some, IsTrue, IsFalse, is_some, All, AllPairs, List, refl, sym, ap, subst, ◌∙◌}
use Rattle.store_core.specs.Directory.{Pass}
use Rattle.store_core.specs.Lookups.{same_actor}
use Rattle.dir_parts.specs.OpenPass.{Open, Desk, HasRoom, reaped_at}
use Rattle.dir_parts.proofs.Actors.{change-open, is_found, apart_open, rooms_reaped}
use Rattle.dir_parts.proofs.passes.Passes.reap.Goals as goal

pub set_reaped-requires-clause-there : goal.set_reaped-requires-clause-there
set_reaped-requires-clause-there c =
    is_found (λ (p : Pass). same_actor c.args.actor p.actor) c.self.inside.open.items
    (subst (λ (k : Desk). IsTrue (is_some (find (λ (p : Pass). same_actor c.args.actor p.actor) k.listed))) (sym c.self.view_is) c.requires.there)

pub set_reaped-requires-clause-apart : goal.set_reaped-requires-clause-apart
set_reaped-requires-clause-apart c = apart_open c.self.inside.open.items (subst (λ (k : Desk). AllPairs (λ (p q : Pass). IsFalse (same_actor p.actor q.actor)) k.listed) (sym c.self.view_is) c.requires.apart)

pub invariant_of-self : goal.invariant_of-self
invariant_of-self c =
    subst (λ (l : List Open). All (HasRoom c.self.inside.stripe_len) l) (sym c.set_reaped.ensures)
    (rooms_reaped c.self.inside.stripe_len (λ (o : Open). same_actor c.args.actor o.pass.actor) c.args.point c.self.inside.open.items c.self.invariant)

pub returns-clause-listed : goal.returns-clause-listed
returns-clause-listed c =
    ap (map (λ (o : Open). o.pass)) c.set_reaped.ensures
    ∙ change-open (λ (p : Pass). same_actor c.args.actor p.actor) (reaped_at c.args.point) (λ (p : Pass). record p { reaped = Some c.args.point }) (λ o. refl) c.self.inside.open.items
    ∙ ap (λ (k : Desk). map (λ (p : Pass). if same_actor c.args.actor p.actor then record p { reaped = Some c.args.point } else p) k.listed) c.self.view_is
