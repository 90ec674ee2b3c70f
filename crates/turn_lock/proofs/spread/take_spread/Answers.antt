use Rattle.std.proofs.Common.{rules, ◌≡◌, ◌<◌, ◌%◌, ℕ, ◌+◌, length, get_or, set, sym, ap, subst, ◌∙◌, arith}
use Rattle.std.proofs.lemmas.List.{length_push}
use Rattle.turn_lock.specs.Piles.{items_of}
use Rattle.turn_lock.proofs.Gathering.{AreTaken, next_there, taken_begins, taken_goes_on}
use Rattle.turn_lock.proofs.spread.take_spread.Goals as goal

pub loop-next-init : goal.loop-next-init
loop-next-init g c =
    record {
      taken = taken_begins (items_of c.args.piles.now.items) c.args.count c.in_ok-values.values.items c.in_ok-values.ensures.items;
      count = search rules;
      room = search rules;
    }

pub take_last-requires : goal.take_last-requires
take_last-requires g c =
    let piles = c.loop-next.piles.items in
    let next = c.loop-next.next in
    let before = c.index_mut.result.now in
    let long : c.len.result ≡ length piles = search rules in
    let read : before ≡ get_or piles (next % length piles) before = c.index_mut.ensures.value ∙ ap (λ (n : ℕ). get_or piles (next % n) before) long in
    let less : next < c.args.count = c.loop-next-test.true in
    let some : 0 < length before.items =
    next_there (items_of c.args.piles.now.items) c.args.count next piles c.loop-next.values.items c.loop-next.invariant.taken less c.requires.1.some before read c.requires.0 c.requires.1 in
    first_of (search rules, omega (arith, some, before.ok.0))

pub loop-next-preserved : goal.loop-next-preserved
loop-next-preserved g c =
    let old = items_of c.args.piles.now.items in
    let piles = c.loop-next.piles.items in
    let next = c.loop-next.next in
    let before = c.index_mut.result.now in
    let more = c.push_reserved.new.self.items in
    let long : c.len.result ≡ length piles = search rules in
    let read : before ≡ get_or piles (next % length piles) before = c.index_mut.ensures.value ∙ ap (λ (n : ℕ). get_or piles (next % n) before) long in
    record {
      taken =
          subst (λ (n : ℕ). AreTaken old (items_of (set piles (next % n) c.take_last.new.items)) c.args.count (next + 1) more) (sym long)
          (taken_goes_on old c.args.count next piles c.loop-next.values.items c.loop-next.invariant.taken c.loop-next-test.true c.requires.1.some before read c.take_last.new.items c.take_last.result more c.take_last.ensures
          c.push_reserved.ensures.items);
      count = ap length c.push_reserved.ensures.items ∙ (length_push c.loop-next.values.items c.take_last.result ∙ ap (λ (n : ℕ). n + 1) c.loop-next.invariant.count);
      room = omega (arith, c.push_reserved.ensures.capacity, c.loop-next.invariant.room);
    }
