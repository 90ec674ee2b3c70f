use Rattle.std.proofs.Common.{rules, ◌≡◌, sym, ap, subst, ◌∙◌, length, arith}
use Rattle.session_store.proofs.HealingCuts.{heal_ended}
use Rattle.session_rules.specs.declared.session_answer.Answer.{Answer}
use Rattle.session_rules.specs.declared.request.Request.{Request}
use Rattle.session_store.specs.Inside.{store_of}
use Rattle.session_store.specs.Kept.{ServesRequest}
use Rattle.session_store.proofs.HealingServed.{heal_refused, heal_wanting, of_servers, of_one_stripe}
use Rattle.session_store.proofs.heals.heal.Goals as goal

pub returns-in_default : goal.returns-in_default
returns-in_default g c = heal_wanting (store_of c.args.parts.now) c.requires.0

pub returns-then-len-left : goal.returns-then-len-left
returns-then-len-left g c =
    heal_refused (store_of c.args.parts.now) c.requires.0 c.in-Ok.lost.items c.in-Ok.ensures
    (let more = c.if-len-left.true in let count : c.len.result ≡ length c.in-Ok.lost.items = search rules in omega (arith, more, count))

pub heal_lost-requires-clause-order : goal.heal_lost-requires-clause-order
heal_lost-requires-clause-order g c κs within = of_one_stripe c.args.parts.now c.requires.0 c.deref.result.now (c.deref.ensures.value ∙ c.in-Ok.ensures)

pub heal_lost-requires-clause-there : goal.heal_lost-requires-clause-there
heal_lost-requires-clause-there g c κs within = of_servers c.args.parts.now c.requires.0 c.deref.result.now (c.deref.ensures.value ∙ c.in-Ok.ensures)

pub returns : goal.returns
returns g c = subst (λ parts. ServesRequest Request.Heal (store_of c.args.parts.now) Answer.NoMemory (store_of parts)) (sym c.in-Err.ensures) (heal_wanting (store_of c.args.parts.now) c.requires.0)

pub returns-in-Ok-heal_lost : goal.returns-in-Ok-heal_lost
returns-in-Ok-heal_lost g c =
    heal_ended c.args.parts.now c.requires.0 c.deref.result.now (c.deref.ensures.value ∙ c.in-Ok.ensures)
    (let few = c.if-len-left.false in let count : c.len.result ≡ length c.in-Ok.lost.items = search rules in let same : length c.deref.result.now ≡ length c.in-Ok.lost.items = ap (λ l. length l) c.deref.ensures.value in omega (arith, few, count, same))
    c.in-Ok-heal_lost.answer c.heal_lost.new.parts c.in-Ok-heal_lost.ensures
