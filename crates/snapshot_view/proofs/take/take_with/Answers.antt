use Rattle.std.proofs.Common.{◌≡◌, ◌≤◌, ℕ, false, List, [], length, map, take, drop, get_or, Vec, All, is_err, sym, ap, subst, ◌∙◌, arith}
use Rattle.std.specs.Vec.{with_items}
use Rattle.std.specs.declared.alloc.Global.{Global}
use Rattle.std.proofs.lemmas.List.{length-map, with_items_is}
use Rattle.store_map.specs.declared.actor.Point.{Point}
use Rattle.store_core.specs.Directory.{Object, Directory}
use Rattle.store_core.specs.Agreement.{ActorToken}
use Rattle.store_core.specs.Tokens.{actor_of}
use Rattle.snapshot_view.specs.Snapshots.{KeptOf}
use Rattle.snapshot_view.specs.Tickets.{IsInCall, OthersAgree}
use Rattle.snapshot_view.specs.LookSteps.{AreLooked}
use Rattle.snapshot_view.specs.Taking.{IsTaken}
use Rattle.snapshot_view.specs.Releasing.{end_all}
use Rattle.snapshot_view.proofs.Taken.{given_up, is_taken, where_ok}
use Rattle.snapshot_view.proofs.Others.{steps_after}
use Rattle.snapshot_view.proofs.Standing.{of_book}
use Rattle.snapshot_view.proofs.take.take_with.Goals as goal

pub returns-then-is_err-clause-refused : goal.returns-then-is_err-clause-refused
returns-then-is_err-clause-refused c =
    let objects : List Object = c.args.directory.now.core.objects in
    let kept : List KeptOf = c.look_all.new.kept.items in
    let looked : List ActorToken = c.look_all.new.tickets in
    let now : List ActorToken = c.end_passes.new.tickets in
    let points : List Point → List ℕ = map (λ point. point.0) in
    let named : length c.deref.result.now ≡ length objects = ap length (c.deref.ensures.value ∙ c.requires.names) ∙ length-map objects (λ (o : Object). o.name) in
    let count : c.len.result ≡ length kept = omega (arith, c.len.ensures, c.look_all.new.kept.ok.0) in
    let tickets : length c.deref_mut.result.now ≡ length c.args.tickets.items = ap length c.deref_mut.ensures.value in
    let held : Vec ActorToken Global = with_items c.args.tickets looked in
    let back : held.items ≡ looked = with_items_is c.args.tickets looked (omega (arith, c.look_all.ensures.count, tickets, c.args.tickets.ok.0)) in
    let lent : c.deref_mut-then-is_err.result.now ≡ looked = c.deref_mut-then-is_err.ensures.value ∙ back in
    let many : length c.deref_mut-then-is_err.result.now ≡ length looked = ap length lent in
    let left : (with_items held now).items ≡ now = with_items_is held now (omega (arith, c.end_passes.auto.tickets, many, c.look_all.ensures.count, tickets, c.args.tickets.ok.0)) in
    given_up c.args.number c.args.directory.now c.look_all.new.directory c.end_passes.new.directory c.args.tickets.items looked now kept (points c.end_passes.new.points.items) c.out_of_memory.result c.requires.enough
    (subst (λ n. length kept ≤ n) named c.look_all.ensures.few)
    (subst (λ (tokens : List ActorToken). AreLooked c.args.number c.args.directory.now c.look_all.new.directory tokens looked kept) c.deref_mut.ensures.value c.look_all.ensures.looked)
    ((λ i. record { directory = c.end_passes.new.directory.core; tokens = take (sym count i) now; reaps = points c.end_passes.new.points.items })
    ∙ c.end_passes.ensures.ends
    ∙ (λ i. end_all c.args.number (record { directory = c.look_all.new.directory.core; tokens = []; reaps = points (c.requires.points.0 i) }) (take (count i) (lent i))))
    ((λ i. drop (sym count i) now) ∙ c.end_passes.ensures.rest ∙ (λ i. drop (count i) (lent i))) c.end_passes.ensures.book c.end_passes.ensures.stamps c.requires.may
    c.out_of_memory.ensures.why (ap (λ (refused : Vec ActorToken Global). refused.items) c.out_of_memory.ensures.tickets ∙ left) (c.end_passes.ensures.actors ∙ ap (map actor_of) lent) c.end_passes.ensures.agrees

pub invariant_of-result : goal.invariant_of-result
invariant_of-result c =
    let objects : List Object = c.args.directory.now.core.objects in
    let kept : List KeptOf = c.look_all.new.kept.items in
    let named : length c.deref.result.now ≡ length objects = ap length (c.deref.ensures.value ∙ c.requires.names) ∙ length-map objects (λ (o : Object). o.name) in
    let tickets : length c.deref_mut.result.now ≡ length c.args.tickets.items = ap length c.deref_mut.ensures.value in
    let none : length c.args.room.points.items ≡ 0 = ap length c.requires.points.0 in
    let looked : List ActorToken = c.look_all.new.tickets in
    let held : Vec ActorToken Global = with_items c.args.tickets looked in
    let back : held.items ≡ looked = with_items_is c.args.tickets looked (omega (arith, c.look_all.ensures.count, tickets, c.args.tickets.ok.0)) in
    let many : length held.items ≡ length looked = ap length back in
    record {
      objects = λ k one less. of_book c.args.directory.now c.keeps.ensures.bytes c.keeps.ensures.stamps.code c.args.opening c.requires.book (get_or kept k one) (c.look_all.ensures.looked.found k one less);
      enough = omega (arith, c.look_all.ensures.few, named, c.requires.enough, c.look_all.ensures.count, tickets, many);
      passes = subst (λ (tokens : List ActorToken). All (IsInCall c.args.number) (take (length kept) tokens)) (sym back) c.look_all.ensures.looked.calls;
      room = omega (arith, c.requires.points.1, c.look_all.ensures.few, named, none, c.args.room.points.ok.0);
      none = c.requires.points.0;
    }

pub returns-clause-taken : goal.returns-clause-taken
returns-clause-taken c =
    let kept : List KeptOf = c.look_all.new.kept.items in
    let looked : List ActorToken = c.look_all.new.tickets in
    let names : List (List ℕ) = map (λ (o : Object). o.name) c.args.directory.now.core.objects in
    let ok : is_err c.look_all.result ≡ false = sym c.is_err.ensures.value ∙ c.if-is_err.false in
    let all : length kept ≡ length names = where_ok (length kept ≡ length c.deref.result.now) c.look_all.result ok c.look_all.ensures.all ∙ ap length (c.deref.ensures.value ∙ c.requires.names) in
    let tickets : length c.deref_mut.result.now ≡ length c.args.tickets.items = ap length c.deref_mut.ensures.value in
    let held : Vec ActorToken Global = with_items c.args.tickets looked in
    let back : held.items ≡ looked = with_items_is c.args.tickets looked (omega (arith, c.look_all.ensures.count, tickets, c.args.tickets.ok.0)) in
    subst (λ (tokens : List ActorToken). IsTaken c.args.number c.args.tickets.items c.args.directory.now c.look_all.new.directory (record { book = c.args.opening; number = c.args.number; objects = kept; tokens = tokens })) (sym back)
    (is_taken c.args.number c.args.directory.now c.look_all.new.directory c.args.tickets.items looked kept c.args.opening c.keeps.ensures.bytes c.keeps.ensures.whole.sound c.keeps.ensures.stamps.code c.requires.book
    (subst (λ (tokens : List ActorToken). AreLooked c.args.number c.args.directory.now c.look_all.new.directory tokens looked kept) c.deref_mut.ensures.value c.look_all.ensures.looked) all)

pub returns-then-is_err-clause-others : goal.returns-then-is_err-clause-others
returns-then-is_err-clause-others c =
    let looked : List ActorToken = c.look_all.new.tickets in
    let tickets : length c.deref_mut.result.now ≡ length c.args.tickets.items = ap length c.deref_mut.ensures.value in
    let held : Vec ActorToken Global = with_items c.args.tickets looked in
    let back : held.items ≡ looked = with_items_is c.args.tickets looked (omega (arith, c.look_all.ensures.count, tickets, c.args.tickets.ok.0)) in
    let lent : c.deref_mut-then-is_err.result.now ≡ looked = c.deref_mut-then-is_err.ensures.value ∙ back in
    let before : Directory = c.args.directory.now.core in
    let mid : Directory = c.look_all.new.directory.core in
    let after : Directory = c.end_passes.new.directory.core in
    subst (λ (tokens : List ActorToken). OthersAgree tokens before after) c.deref_mut.ensures.value
    (steps_after c.deref_mut.result.now looked before mid after c.look_all.ensures.looked.actors c.look_all.ensures.others
    (subst (λ (tokens : List ActorToken). OthersAgree tokens mid after) lent c.end_passes.ensures.others))

pub returns-clause-others : goal.returns-clause-others
returns-clause-others c =
    subst (λ (tokens : List ActorToken). OthersAgree tokens c.args.directory.now.core c.look_all.new.directory.core) c.deref_mut.ensures.value c.look_all.ensures.others
