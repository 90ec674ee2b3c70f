use Rattle.std.proofs.Common.{◌≡◌, ◌+◌, ◌<◌, ℕ, List, [], length, map, get_or, take, All, refl, sym, ap, subst, ◌∙◌, arith}
use Rattle.std.proofs.lemmas.List.{length-set, drop-set-lt, take_more_set}
use Rattle.std.proofs.lemmas.List.Elements.{All-nil, All-push}
use Rattle.store_map.specs.declared.actor.Point.{Point}
use Rattle.store_core.specs.Directory.{Directory}
use Rattle.store_core.specs.Agreement.{ActorToken}
use Rattle.call_steps.specs.TokenAfter.{IsSeated}
use Rattle.snapshot_view.specs.Tickets.{IsInCall}
use Rattle.snapshot_view.specs.Releasing.{Released}
use Rattle.snapshot_view.proofs.Looking.{drop_one, next_same, first_has}
use Rattle.snapshot_view.proofs.Ending.{ended_more}
use Rattle.snapshot_view.proofs.Apart.{actors_stay, all_agree, others_ended}
use Rattle.snapshot_view.proofs.Others.{step_more}
use Rattle.snapshot_view.proofs.release.end_passes.Goals as goal

pub loop-at-init : goal.loop-at-init
loop-at-init c = record {
  ends = refl;
  rest = refl;
  count = refl;
  actors = refl;
  seated = All-nil IsSeated;
  others = λ token none agrees. agrees;
  within = omega arith;
  agrees = c.requires.agrees;
  len = omega arith;
  capacity = refl;
  book = refl;
  stamps = refl;
}

pub end_pass-requires : goal.end_pass-requires
end_pass-requires c =
    let l = c.loop-at in
    let i = l.invariant in
    record {
      agrees = i.agrees.each l.at c.index-tickets-at.result (omega (arith, c.loop-at-test.true, c.requires.enough, i.count));
      call = first_has (IsInCall c.args.number) l.tickets c.args.tickets.now c.args.count l.at (get_or l.tickets l.at c.index-tickets-at.result) c.loop-at-test.true c.requires.enough i.rest
          (ap (get_or l.tickets l.at) c.index-tickets-at.is) c.requires.calls;
      room = omega (arith, c.loop-at-test.true, i.len, i.capacity, c.requires.room);
    }

pub loop-at-preserved : goal.loop-at-preserved
loop-at-preserved c =
    let l = c.loop-at in
    let i = l.invariant in
    let before : Directory = l.directory.core in
    let next : Directory = c.end_pass.new.directory.core in
    let token : ActorToken = get_or l.tickets l.at c.index-tickets-at.result in
    let is : token ≡ get_or l.tickets l.at token = ap (get_or l.tickets l.at) c.index-tickets-at.is in
    let after : ActorToken = c.end_pass.new.ticket in
    let numbers : List Point → List ℕ = map (λ point. point.0) in
    let start : Released = record { directory = c.args.directory.now.core; tokens = []; reaps = numbers c.args.points.now.items } in
    let here : l.at < length l.tickets = omega (arith, c.loop-at-test.true, c.requires.enough, i.count) in
    let there : l.at < length c.args.tickets.now = omega (arith, c.loop-at-test.true, c.requires.enough) in
    record {
      ends = ended_more c.args.number start before next c.args.tickets.now l.tickets l.at token after (numbers l.points.items) (numbers c.end_pass.new.points.items) i.count here is i.rest i.ends c.end_pass.ensures.end;
      rest = drop-set-lt (l.at + 1) l.tickets l.at after (omega arith) ∙ drop_one l.tickets c.args.tickets.now l.at token here there i.rest;
      count = length-set l.tickets l.at after ∙ i.count;
      actors = actors_stay before next l.tickets l.at token after here is c.end_pass.ensures.actor ∙ i.actors;
      seated = subst (All IsSeated) (sym (take_more_set l.tickets l.at after here)) (All-push IsSeated (take l.at l.tickets) after i.seated c.end_pass.ensures.seated);
      others = step_more c.args.tickets.now l.at token c.args.directory.now.core before next there (is ∙ next_same l.tickets c.args.tickets.now l.at token i.rest) i.others c.end_pass.ensures.others;
      within = omega (arith, c.loop-at-test.true);
      agrees = all_agree before next l.tickets l.at token after here is c.end_pass.ensures.actor
          (λ other apart agrees. others_ended c.args.number token before next other (ap (λ (r : Released). r.directory) c.end_pass.ensures.end) apart agrees) i.agrees c.end_pass.ensures.agrees;
      len = omega (arith, c.end_pass.ensures.len, i.len);
      capacity = c.end_pass.ensures.capacity ∙ i.capacity;
      book = c.end_pass.ensures.book ∙ i.book;
      stamps = c.end_pass.ensures.stamps ∙ i.stamps;
    }
