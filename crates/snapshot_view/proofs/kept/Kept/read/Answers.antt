use Rattle.std.proofs.Common.{◌≡◌, ◌<◌, ◌+◌, min, List, [], map, All, sym, ap, subst, ◌∙◌, arith}
use Rattle.clay_grid.specs.Shape.{Shape, stripe_length}
use Rattle.code_laws.proofs.Cut.{stripe_positive}
use Rattle.store_core.specs.Read.{part_of}
use Rattle.run_laws.specs.State.{Sequel}
use Rattle.run_laws.specs.States.{parts_state, open_state}
use Rattle.call_steps.specs.declared.seen.Seen.{Seen}
use Rattle.stripe_stamps.specs.SeenStripes.{seen_in}
use Rattle.gather_parts.specs.Wanted.{wanted_of, IsPinned}
use Rattle.gather_parts.specs.Gatherings.{GatheringsOf, new_gatherings, begun}
use Rattle.gather_parts.specs.States.{state_in}
use Rattle.snapshot_view.specs.Snapshots.{KeptOf}
use Rattle.snapshot_view.specs.InTime.{HasFoundAt}
use Rattle.snapshot_view.specs.Met.{met_by, told_seen}
use Rattle.snapshot_view.proofs.InTime.{first_found, its_parts}
use Rattle.snapshot_view.proofs.Replying.{in_range, gathers, pinned_copies, pinned_met}
use Rattle.snapshot_view.proofs.kept.Kept.read.Goals as goal

pub new-requires : goal.new-requires
new-requires c =
    let stripes : List Seen = c.args.self.now.stripes in
    let same : c.deref.result.now ≡ stripes = c.deref.ensures.value ∙ ap (λ (k : KeptOf). k.stripes) c.self.view_is in
    pinned_copies c.args.opening c.in_ok-stripes.stripes.items c.those_met-met.result.now c.in_ok-stripes.ensures
    (subst (All (IsPinned c.args.opening)) (sym c.those_met-met.ensures)
    (pinned_met c.args.opening c.from-stripe_len.result c.from-start.result c.min-end.result c.deref.result.now (subst (All (IsPinned c.args.opening)) (sym same) c.requires.pinned)))

pub returns-clause-reply : goal.returns-clause-reply
returns-clause-reply c =
    let g : Shape = c.args.opening.geometry in
    let kept : KeptOf = c.args.self.now in
    let size : c.self.inside.size ≡ kept.size = ap (λ (k : KeptOf). k.size) c.self.view_is in
    let stripes : c.deref.result.now ≡ kept.stripes = c.deref.ensures.value ∙ ap (λ (k : KeptOf). k.stripes) c.self.view_is in
    let start : c.from-start.result ≡ c.args.offset = c.from-start.ensures in
    let end : c.min-end.result ≡ min (c.args.offset + c.args.length) kept.size = omega (arith, c.min-end.ensures, c.from-start.ensures, c.from.ensures, size) in
    let len : c.from-stripe_len.result ≡ stripe_length g = c.from-stripe_len.ensures ∙ c.stripe_len.ensures.value ∙ ap stripe_length c.geometry.ensures in
    let copies : List Seen = c.in_ok-stripes.stripes.items in
    let same : map told_seen copies ≡ map told_seen (met_by (stripe_length g) c.args.offset (min (c.args.offset + c.args.length) kept.size) kept.stripes) =
    c.in_ok-stripes.ensures ∙ ap (map told_seen) (c.those_met-met.ensures ∙ (λ i. met_by (len i) (start i) (end i) (stripes i))) in
    in_range c.args.opening (subst (λ (shape : Shape). 0 < stripe_length shape) c.geometry.ensures (stripe_positive c.geometry.result c.stripe_len.ensures.geometry)) kept c.requires c.args.offset c.args.length
    (omega (arith, c.if-self-start.false, c.from-start.ensures, size)) copies same c.new.result c.new.ensures.going
    (c.new.ensures.begun ∙ (λ i. begun (new_gatherings c.args.opening) (map (wanted_of g (start i) (end i)) copies)))

pub returns-clause-gathers : goal.returns-clause-gathers
returns-clause-gathers c = λ within after.
    let g : Shape = c.args.opening.geometry in
    let kept : KeptOf = c.args.self.now in
    let size : c.self.inside.size ≡ kept.size = ap (λ (k : KeptOf). k.size) c.self.view_is in
    let stripes : c.deref.result.now ≡ kept.stripes = c.deref.ensures.value ∙ ap (λ (k : KeptOf). k.stripes) c.self.view_is in
    let start : c.from-start.result ≡ c.args.offset = c.from-start.ensures in
    let end : c.min-end.result ≡ min (c.args.offset + c.args.length) kept.size = omega (arith, c.min-end.ensures, c.from-start.ensures, c.from.ensures, size) in
    let len : c.from-stripe_len.result ≡ stripe_length g = c.from-stripe_len.ensures ∙ c.stripe_len.ensures.value ∙ ap stripe_length c.geometry.ensures in
    let copies : List Seen = c.in_ok-stripes.stripes.items in
    let same : map told_seen copies ≡ map told_seen (met_by (stripe_length g) c.args.offset (min (c.args.offset + c.args.length) kept.size) kept.stripes) =
    c.in_ok-stripes.ensures ∙ ap (map told_seen) (c.those_met-met.ensures ∙ (λ i. met_by (len i) (start i) (end i) (stripes i))) in
    gathers c.args.opening (subst (λ (shape : Shape). 0 < stripe_length shape) c.geometry.ensures (stripe_positive c.geometry.result c.stripe_len.ensures.geometry)) kept c.requires c.args.offset c.args.length
    within copies same c.new.result (λ after. c.new.ensures.state after ∙ (λ i. open_state g (parts_state (map (part_of g (start i) (end i)) (map seen_in copies)) after))) after

pub returns-then-self-start-clause-found : goal.returns-then-self-start-clause-found
returns-then-self-start-clause-found c =
    subst (λ (p : GatheringsOf). HasFoundAt (map seen_in c.args.self.now.stripes) [] (state_in p (Sequel.Serve 0))) (sym c.refused.ensures.new) tt

pub returns-clause-found : goal.returns-clause-found
returns-clause-found c =
    let g : Shape = c.args.opening.geometry in
    let stripes : c.deref.result.now ≡ c.args.self.now.stripes = c.deref.ensures.value ∙ ap (λ (k : KeptOf). k.stripes) c.self.view_is in
    let copies : List Seen = c.in_ok-stripes.stripes.items in
    let same : map told_seen copies ≡ map told_seen (met_by c.from-stripe_len.result c.from-start.result c.min-end.result c.args.self.now.stripes) =
    c.in_ok-stripes.ensures ∙ ap (map told_seen) (c.those_met-met.ensures ∙ (λ i. met_by c.from-stripe_len.result c.from-start.result c.min-end.result (stripes i))) in
    subst (HasFoundAt (map seen_in c.args.self.now.stripes) []) (sym (c.new.ensures.state (Sequel.Serve 0)))
    (first_found (map seen_in c.args.self.now.stripes) g [] (map (part_of g c.from-start.result c.min-end.result) (map seen_in copies))
    (its_parts g c.from-stripe_len.result c.from-start.result c.min-end.result c.args.self.now.stripes copies same))
