use Rattle.std.proofs.Common.{◌≡◌, ◌+◌, ◌<◌, List, [], ◌∷◌, length, map, get_or, slice_set, drop, length-append, refl, sym, ap, subst, ◌∙◌, arith}
use Rattle.std.proofs.lemmas.List.{length-set}
use Rattle.store_core.specs.Directory.{Object}
use Rattle.store_core.specs.Agreement.{ActorToken}
use Rattle.store_core.specs.Tokens.{actor_of}
use Rattle.stripe_stamps.specs.Sealed.{Sealed}
use Rattle.snapshot_view.specs.Snapshots.{KeptOf}
use Rattle.snapshot_view.specs.Tickets.{MayGet, AgreesWithAll}
use Rattle.snapshot_view.specs.LookSteps.{get_of, Looked, AreLooked}
use Rattle.snapshot_view.proofs.Looking.{first_has, next_same, looked_none, looked_more}
use Rattle.snapshot_view.proofs.Apart.{actors_stay, all_agree, others_by}
use Rattle.snapshot_view.proofs.Others.{step_more}
use Rattle.snapshot_view.proofs.Standing.{found_named}
use Rattle.snapshot_view.proofs.looks.look_all.Goals as goal

pub loop-at-init : goal.loop-at-init
loop-at-init c =
    let kept : List KeptOf = c.args.kept.now.items in
    record {
      at = ap length c.requires.empty;
      within = omega arith;
      looked = subst (λ (k : List KeptOf). AreLooked c.args.number c.args.directory.now c.args.directory.now c.args.tickets.now c.args.tickets.now k) (sym c.requires.empty)
          (looked_none c.args.number c.args.directory.now c.args.tickets.now c.requires.agrees);
      others = λ token none agrees. agrees;
      count = refl;
      capacity = refl;
    }

-- the ticket's seat is still there, and so is the object
pub look_at-requires-clause-may : goal.look_at-requires-clause-may
look_at-requires-clause-may c =
    let l = c.loop-at in
    let i = l.invariant in
    let rest : drop l.at l.tickets ≡ drop l.at c.args.tickets.now = subst (λ n. drop n l.tickets ≡ drop n c.args.tickets.now) i.at i.looked.rest in
    first_has (MayGet c.args.number) l.tickets c.args.tickets.now (length c.args.names.now) l.at (get_or l.tickets l.at c.index-tickets-at.result) c.loop-at-test.true c.requires.enough rest
    (ap (get_or l.tickets l.at) c.index-tickets-at.is) c.requires.may

pub look_at-requires-clause-there : goal.look_at-requires-clause-there
look_at-requires-clause-there c =
    let l = c.loop-at in
    let i = l.invariant in
    let objects : List Object = l.directory.core.objects in
    let listed : c.args.names.now ≡ map (λ (o : Object). o.name) objects = c.requires.names ∙ ap (λ (s : Sealed). map (λ (o : Object). o.name) s.core.objects) (sym i.looked.same) in
    found_named c.index-names-at.result objects c.args.names.now l.at listed c.loop-at-test.true c.index-names-at.is

pub loop-at-preserved : goal.loop-at-preserved
loop-at-preserved c =
    let l = c.loop-at in
    let i = l.invariant in
    let token : ActorToken = get_or l.tickets l.at c.index-tickets-at.result in
    let is : token ≡ get_or l.tickets l.at token = ap (get_or l.tickets l.at) c.index-tickets-at.is in
    let after : ActorToken = c.look_at.new.ticket in
    let next : Sealed = c.look_at.new.directory in
    let one : KeptOf = c.in_ok-one.one in
    let inside : l.at < length l.tickets = omega (arith, c.loop-at-test.true, c.requires.enough, i.count) in
    let e : length l.kept.items ≡ l.at = i.at in
    let agree = all_agree l.directory.core next.core l.tickets l.at token after inside is c.look_at.ensures.actor
    (λ other apart agrees. others_by c.args.number token (get_of c.index-names-at.result) l.directory.core next.core other (ap (λ (r : Looked). r.directory) c.in_ok-one.ensures.look) apart agrees)
    i.looked.agrees c.look_at.ensures.agrees in
    let looked =
    looked_more c.args.number c.args.directory.now l.directory next c.args.tickets.now l.tickets token after c.index-names-at.result l.kept.items one i.looked i.count
    (subst (λ n. n < length l.tickets) (sym e) inside) (subst (λ n. token ≡ get_or l.tickets n token) (sym e) is)
    (subst (λ n. n < length (map (λ (o : Object). o.name) c.args.directory.now.core.objects)) (sym e) (subst (λ names. l.at < length names) c.requires.names c.loop-at-test.true))
    (subst (λ n. c.index-names-at.result ≡ get_or (map (λ (o : Object). o.name) c.args.directory.now.core.objects) n c.index-names-at.result) (sym e) (c.index-names-at.is ∙ ap (λ names. get_or names l.at c.index-names-at.result) c.requires.names))
    c.in_ok-one.ensures.name c.in_ok-one.ensures.look c.in_ok-one.ensures.found c.in_ok-one.ensures.call c.in_ok-one.ensures.pins c.in_ok-one.ensures.begun
    (subst (λ n. map actor_of (slice_set l.tickets n after) ≡ map actor_of l.tickets) (sym e) (actors_stay l.directory.core next.core l.tickets l.at token after inside is c.look_at.ensures.actor))
    (subst (λ n. AgreesWithAll next.core (slice_set l.tickets n after)) (sym e) agree) c.look_at.ensures.same
    in
    record {
      at = ap length c.push_reserved.ensures.items ∙ length-append l.kept.items (one ∷ []) ∙ ap (λ n. n + 1) e;
      within = omega (arith, c.loop-at-test.true);
      looked = subst (λ n. AreLooked c.args.number c.args.directory.now next c.args.tickets.now (slice_set l.tickets n after) c.push_reserved.new.self.items) e
          (subst (λ kept. AreLooked c.args.number c.args.directory.now next c.args.tickets.now (slice_set l.tickets (length l.kept.items) after) kept) (sym c.push_reserved.ensures.items) looked);
      others = step_more c.args.tickets.now l.at token c.args.directory.now.core l.directory.core next.core (subst (λ n. l.at < n) i.count inside)
          (is ∙ next_same l.tickets c.args.tickets.now l.at token (subst (λ n. drop n l.tickets ≡ drop n c.args.tickets.now) e i.looked.rest)) i.others c.look_at.ensures.others;
      count = length-set l.tickets l.at after ∙ i.count;
      capacity = c.push_reserved.ensures.capacity ∙ i.capacity;
    }
