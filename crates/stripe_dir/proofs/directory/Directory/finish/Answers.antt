use Rattle.stripe_stamps.specs.Sealed.{Sealed}
use Rattle.std.proofs.Common.{◌≡◌, ◌⊎◌, ℕ, ◌+◌, ◌<◌, ◌∷◌, ◌++◌, ◌&&◌, List, [], length, map, zip, slice_get, Vec, Global, None, Some, IsTrue, All, Contains, get_or, false, refl, ap, sym, subst, ◌∙◌, arith}
use Rattle.std.proofs.lemmas.List.{length-map}
use Rattle.clay_grid.specs.Shape.{stripe_length}
use Rattle.store_map.specs.declared.actor.Actor.{Actor}
use Rattle.store_map.specs.declared.placement.Placement.{Placement}
use Rattle.store_core.specs.Note.{Note, Kind}
use Rattle.store_core.specs.Told.{Told}
use Rattle.store_core.specs.Act.{DirectoryStep}
use Rattle.store_core.specs.Directory.{Standing, Event, Version, Pin, Pass, Directory}
use Rattle.store_core.specs.Lookups.{is_live, last_change, is_superseded_standing, holds_standing}
use Rattle.store_core.specs.Look.{set_standing}
use Rattle.store_core.specs.Commit.{place_all, put_object, is_overtaken}
use Rattle.store_core.specs.Conditions.{IsPrepared}
use Rattle.stripe_stamps.specs.ItsStripes.{IsWhole}
use Rattle.store_core.specs.SoundPasses.{IsLive}
use Rattle.store_core.specs.AtDirectory.{at_directory}
use Rattle.store_core.specs.Agreement.{HeldPass, AgreesWithPass, ActorToken}
use Rattle.version_table.specs.Counts.{unpinned, one_if, may_append, points_due}
use Rattle.dir_parts.specs.OpenPass.{Open}
use Rattle.dir_parts.specs.Parts.{object_or_new}
use Rattle.version_table.specs.Known.{IsKnown}
use Rattle.version_table.proofs.Known.{known_placed}
use Rattle.run_laws.proofs.ContentGrows.{origins, set_keeps, place_keeps}
use Rattle.stripe_dir.specs.Kept.{directory_in}
use Rattle.stripe_dir.specs.Installed.{installed, dropped, changed_in}
use Rattle.stripe_dir.specs.declared.directory.Directory.TheInside.{Inside}
use Rattle.stripe_dir.proofs.Sound.{keeps_whole}
use Rattle.stripe_dir.proofs.KnownVersions.{stands_known, drawn_known}
use Rattle.stripe_dir.proofs.Ending.{Taken, taken, taken_said, taken_seat, kept_ended, is_there, it_has, own, sums}
use Rattle.stripe_dir.proofs.Commits.{commit_step, not_changed, drawn_other, old_current, dropped_has, may_one}
use Rattle.stripe_dir.proofs.GivenUp.{one_due}
use Rattle.stripe_dir.proofs.directory.Directory.finish.Goals as goal

pub take-open-requires-clause-there : goal.take-open-requires-clause-there
take-open-requires-clause-there c =
    is_there (directory_in c.self.inside) c.args.pass c.pass.inside.actor (ap (λ (h : HeldPass). h.pass.actor) c.pass.view_is) (subst (λ (d : Directory). AgreesWithPass d c.args.pass) (sym (ap (λ (s : Sealed). s.core) c.self.view_is)) c.requires.agrees)

pub unpin_all-requires : goal.unpin_all-requires
unpin_all-requires c =
    let a : Inside = c.self.inside in
    let d : Directory = directory_in a in
    let p : Pass = c.take-open.result.pass in
    let who : Actor = c.pass.inside.actor in
    let t : Taken a c.args.self.now.core c.args.pass who p c.take-open.new.self =
    taken a c.self.invariant c.args.self.now.core (ap (λ (s : Sealed). s.core) c.self.view_is) c.args.pass c.requires.agrees who (ap (λ (h : HeldPass). h.pass.actor) c.pass.view_is) p c.take-open.new.self
    c.take-open.ensures.found c.take-open.ensures.left c.take-open.ensures.others c.take-open.ensures.stripe
    in
    let pinned : c.deref.result.now ≡ p.pinned = c.deref.ensures.value ∙ ap (λ (o : Open). o.pass.pinned) c.open.view_is in
    subst (λ (pins : List Pin). All (λ pin. pin.version < length d.versions) pins) (sym pinned) t.pinned

pub make_all_current-requires-clause-rows : goal.make_all_current-requires-clause-rows
make_all_current-requires-clause-rows c =
    let a : Inside = c.self.inside in
    let d : Directory = directory_in a in
    let p : Pass = c.take-open.result.pass in
    let who : Actor = c.pass.inside.actor in
    let t : Taken a c.args.self.now.core c.args.pass who p c.take-open.new.self =
    taken a c.self.invariant c.args.self.now.core (ap (λ (s : Sealed). s.core) c.self.view_is) c.args.pass c.requires.agrees who (ap (λ (h : HeldPass). h.pass.actor) c.pass.view_is) p c.take-open.new.self
    c.take-open.ensures.found c.take-open.ensures.left c.take-open.ensures.others c.take-open.ensures.stripe
    in
    let rows : List (List Placement) = map (λ (row : Vec Placement Global). row.items) c.args.placed.items in
    let asked : IsPrepared d (record p { reaped = None }) rows = subst (λ (q : Pass). IsPrepared d q rows) (sym t.is) (subst (λ (x : Directory). IsPrepared x c.args.pass.pass rows) (sym t.view) c.requires.may.1) in
    let drawn_now : c.deref-2.result.now ≡ p.drawn = c.deref-2.ensures.value ∙ ap (λ (o : Open). o.pass.drawn) c.open.view_is in
    omega (arith, asked.rows, ap length drawn_now, length-map c.args.placed.items (λ (row : Vec Placement Global). row.items), c.args.placed.ok.0)

pub make_all_current-requires-clause-drawn : goal.make_all_current-requires-clause-drawn
make_all_current-requires-clause-drawn c =
    let a : Inside = c.self.inside in
    let d : Directory = directory_in a in
    let p : Pass = c.take-open.result.pass in
    let who : Actor = c.pass.inside.actor in
    let t : Taken a c.args.self.now.core c.args.pass who p c.take-open.new.self =
    taken a c.self.invariant c.args.self.now.core (ap (λ (s : Sealed). s.core) c.self.view_is) c.args.pass c.requires.agrees who (ap (λ (h : HeldPass). h.pass.actor) c.pass.view_is) p c.take-open.new.self
    c.take-open.ensures.found c.take-open.ensures.left c.take-open.ensures.others c.take-open.ensures.stripe
    in
    let live : p.reaped ≡ None = taken_said a c.args.self.now.core c.args.pass who p c.take-open.new.self t (λ (own : Pass). own.reaped ≡ None) c.requires.live in
    let alive : IsLive d p = it_has d who p c.take-open.new.self.listed t.gone.found t.gone.left t.gone.perm (λ (q : Pass). IsTrue (is_live q.reaped) → IsLive d q) c.self.invariant.whole.sound.live (ap is_live live) in
    let drawn_now : c.deref-2.result.now ≡ p.drawn = c.deref-2.ensures.value ∙ ap (λ (o : Open). o.pass.drawn) c.open.view_is in
    subst (λ (vs : List Version). All (λ n. (n < length vs) × (holds_standing is_superseded_standing (slice_get vs n) ≡ false)) c.deref-2.result.now) (sym c.unpin_all.ensures.listed)
    (subst (λ (ns : List ℕ). All (λ n. (n < length d.versions) × (holds_standing is_superseded_standing (slice_get d.versions n) ≡ false)) ns) (sym drawn_now) (λ k x less. ((alive.drawn k x less).1, drawn_other d _ (alive.drawn k x less))))

pub make_all_current-requires-clause-known : goal.make_all_current-requires-clause-known
make_all_current-requires-clause-known c =
    let a : Inside = c.self.inside in
    let d : Directory = directory_in a in
    let p : Pass = c.take-open.result.pass in
    let who : Actor = c.pass.inside.actor in
    let t : Taken a c.args.self.now.core c.args.pass who p c.take-open.new.self =
    taken a c.self.invariant c.args.self.now.core (ap (λ (s : Sealed). s.core) c.self.view_is) c.args.pass c.requires.agrees who (ap (λ (h : HeldPass). h.pass.actor) c.pass.view_is) p c.take-open.new.self
    c.take-open.ensures.found c.take-open.ensures.left c.take-open.ensures.others c.take-open.ensures.stripe
    in
    let live : p.reaped ≡ None = taken_said a c.args.self.now.core c.args.pass who p c.take-open.new.self t (λ (own : Pass). own.reaped ≡ None) c.requires.live in
    let drawn_now : c.deref-2.result.now ≡ p.drawn = c.deref-2.ensures.value ∙ ap (λ (o : Open). o.pass.drawn) c.open.view_is in
    subst (λ (vs : List Version). All (IsKnown vs) c.deref-2.result.now) (sym c.unpin_all.ensures.listed)
    (subst (λ (ns : List ℕ). All (IsKnown d.versions) ns) (sym drawn_now) (drawn_known d c.self.invariant.whole.sound who p t.gone.found (ap is_live live)))

pub add-point-requires-clause-room : goal.add-point-requires-clause-room
add-point-requires-clause-room c =
    let a : Inside = c.self.inside in
    let d : Directory = directory_in a in
    let p : Pass = c.take-open.result.pass in
    let who : Actor = c.pass.inside.actor in
    let t : Taken a c.args.self.now.core c.args.pass who p c.take-open.new.self =
    taken a c.self.invariant c.args.self.now.core (ap (λ (s : Sealed). s.core) c.self.view_is) c.args.pass c.requires.agrees who (ap (λ (h : HeldPass). h.pass.actor) c.pass.view_is) p c.take-open.new.self
    c.take-open.ensures.found c.take-open.ensures.left c.take-open.ensures.others c.take-open.ensures.stripe
    in
    let live : p.reaped ≡ None = taken_said a c.args.self.now.core c.args.pass who p c.take-open.new.self t (λ (own : Pass). own.reaped ≡ None) c.requires.live in
    let due : 0 < points_due d.passes = one_due who p d.passes t.gone.found live in
    omega (arith, due, c.self.invariant.points_room)

pub add-point-requires-clause-named : goal.add-point-requires-clause-named
add-point-requires-clause-named c =
    let a : Inside = c.self.inside in
    let d : Directory = directory_in a in
    let p : Pass = c.take-open.result.pass in
    let who : Actor = c.pass.inside.actor in
    let t : Taken a c.args.self.now.core c.args.pass who p c.take-open.new.self =
    taken a c.self.invariant c.args.self.now.core (ap (λ (s : Sealed). s.core) c.self.view_is) c.args.pass c.requires.agrees who (ap (λ (h : HeldPass). h.pass.actor) c.pass.view_is) p c.take-open.new.self
    c.take-open.ensures.found c.take-open.ensures.left c.take-open.ensures.others c.take-open.ensures.stripe
    in
    let noted : c.open.inside.note ≡ p.note = ap (λ (o : Open). o.pass.note) c.open.view_is in
    subst (λ (n : Note). Contains a.history.names n.name) (sym noted) (it_has d who p c.take-open.new.self.listed t.gone.found t.gone.left t.gone.perm (λ (q : Pass). Contains a.history.names q.note.name) c.self.invariant.named)

pub install-replaced-requires-clause-room : goal.install-replaced-requires-clause-room
install-replaced-requires-clause-room c =
    let a : Inside = c.self.inside in
    let d : Directory = directory_in a in
    let p : Pass = c.take-open.result.pass in
    let who : Actor = c.pass.inside.actor in
    let t : Taken a c.args.self.now.core c.args.pass who p c.take-open.new.self =
    taken a c.self.invariant c.args.self.now.core (ap (λ (s : Sealed). s.core) c.self.view_is) c.args.pass c.requires.agrees who (ap (λ (h : HeldPass). h.pass.actor) c.pass.view_is) p c.take-open.new.self
    c.take-open.ensures.found c.take-open.ensures.left c.take-open.ensures.others c.take-open.ensures.stripe
    in
    let live : p.reaped ≡ None = taken_said a c.args.self.now.core c.args.pass who p c.take-open.new.self t (λ (own : Pass). own.reaped ≡ None) c.requires.live in
    let kind : (p.note.kind ≡ Kind.Put) ⊎ (p.note.kind ≡ Kind.Write) = subst (λ (q : Pass). (q.note.kind ≡ Kind.Put) ⊎ (q.note.kind ≡ Kind.Write)) (sym t.is) c.requires.may.0 in
    let one : one_if (may_append p.note.kind && is_live p.reaped) ≡ 1 = λ i. one_if (may_one p.note.kind kind i && is_live (live i)) in
    omega (arith, one, sums d who p c.take-open.new.self.listed t.gone.found t.gone.left t.gone.perm (λ (q : Pass). one_if (may_append q.note.kind && is_live q.reaped)), c.self.invariant.objects_room)

pub supersede_all-requires : goal.supersede_all-requires
supersede_all-requires c =
    let a : Inside = c.self.inside in
    let d : Directory = directory_in a in
    let p : Pass = c.take-open.result.pass in
    let who : Actor = c.pass.inside.actor in
    let t : Taken a c.args.self.now.core c.args.pass who p c.take-open.new.self =
    taken a c.self.invariant c.args.self.now.core (ap (λ (s : Sealed). s.core) c.self.view_is) c.args.pass c.requires.agrees who (ap (λ (h : HeldPass). h.pass.actor) c.pass.view_is) p c.take-open.new.self
    c.take-open.ensures.found c.take-open.ensures.left c.take-open.ensures.others c.take-open.ensures.stripe
    in
    let rows : List (List Placement) = map (λ (row : Vec Placement Global). row.items) c.args.placed.items in
    let asked : IsPrepared d (record p { reaped = None }) rows = subst (λ (q : Pass). IsPrepared d q rows) (sym t.is) (subst (λ (x : Directory). IsPrepared x c.args.pass.pass rows) (sym t.view) c.requires.may.1) in
    let drawn_now : c.deref-2.result.now ≡ p.drawn = c.deref-2.ensures.value ∙ ap (λ (o : Open). o.pass.drawn) c.open.view_is in
    let noted : c.open.inside.note ≡ p.note = ap (λ (o : Open). o.pass.note) c.open.view_is in
    let drawn : c.open.inside.drawn.items ≡ p.drawn = ap (λ (o : Open). o.pass.drawn) c.open.view_is in
    let stripe : c.stripe_len-stripe_len.result ≡ stripe_length d.shape = c.stripe_len-stripe_len.ensures.value in
    let placed : c.make_all_current.new.self.listed ≡ place_all (zip p.drawn rows) d.versions = c.make_all_current.ensures.listed ∙ (λ i. place_all (zip (drawn_now i) rows) (c.unpin_all.ensures.listed i)) in
    let replaced : c.deref-3.result.now ≡ dropped p.note.kind (stripe_length d.shape) p.note p.drawn (object_or_new p.note.name d.objects).versions =
    c.deref-3.ensures.value ∙ c.install-replaced.ensures.replaced ∙ (λ i. dropped (noted i).kind (stripe i) (noted i) (drawn i) (object_or_new (noted i).name d.objects).versions)
    in
    subst (λ (ns : List ℕ). All (IsKnown c.make_all_current.new.self.listed) ns) (sym replaced)
    (dropped_has (IsKnown c.make_all_current.new.self.listed) p.note.kind (stripe_length d.shape) p.note p.drawn (object_or_new p.note.name d.objects).versions
    (λ k x less.
    let number : ℕ = get_or (object_or_new p.note.name d.objects).versions k x in
    subst (λ (vs : List Version). IsKnown vs number) (sym placed)
    (known_placed (zip p.drawn rows) d.versions number (stands_known d Standing.Current number refl (old_current d c.self.invariant.whole.sound p.note.name k x less)))))

pub invariant_of-self : goal.invariant_of-self
invariant_of-self c =
    let a : Inside = c.self.inside in
    let d : Directory = directory_in a in
    let p : Pass = c.take-open.result.pass in
    let who : Actor = c.pass.inside.actor in
    let t : Taken a c.args.self.now.core c.args.pass who p c.take-open.new.self =
    taken a c.self.invariant c.args.self.now.core (ap (λ (s : Sealed). s.core) c.self.view_is) c.args.pass c.requires.agrees who (ap (λ (h : HeldPass). h.pass.actor) c.pass.view_is) p c.take-open.new.self
    c.take-open.ensures.found c.take-open.ensures.left c.take-open.ensures.others c.take-open.ensures.stripe
    in
    let live : p.reaped ≡ None = taken_said a c.args.self.now.core c.args.pass who p c.take-open.new.self t (λ (own : Pass). own.reaped ≡ None) c.requires.live in
    let rows : List (List Placement) = map (λ (row : Vec Placement Global). row.items) c.args.placed.items in
    let asked : IsPrepared d (record p { reaped = None }) rows = subst (λ (q : Pass). IsPrepared d q rows) (sym t.is) (subst (λ (x : Directory). IsPrepared x c.args.pass.pass rows) (sym t.view) c.requires.may.1) in
    let kind : (p.note.kind ≡ Kind.Put) ⊎ (p.note.kind ≡ Kind.Write) = subst (λ (q : Pass). (q.note.kind ≡ Kind.Put) ⊎ (q.note.kind ≡ Kind.Write)) (sym t.is) c.requires.may.0 in
    let drawn_now : c.deref-2.result.now ≡ p.drawn = c.deref-2.ensures.value ∙ ap (λ (o : Open). o.pass.drawn) c.open.view_is in
    let noted : c.open.inside.note ≡ p.note = ap (λ (o : Open). o.pass.note) c.open.view_is in
    let drawn : c.open.inside.drawn.items ≡ p.drawn = ap (λ (o : Open). o.pass.drawn) c.open.view_is in
    let stripe : c.stripe_len-stripe_len.result ≡ stripe_length d.shape = c.stripe_len-stripe_len.ensures.value in
    let placed : c.make_all_current.new.self.listed ≡ place_all (zip p.drawn rows) d.versions = c.make_all_current.ensures.listed ∙ (λ i. place_all (zip (drawn_now i) rows) (c.unpin_all.ensures.listed i)) in
    let replaced : c.deref-3.result.now ≡ dropped p.note.kind (stripe_length d.shape) p.note p.drawn (object_or_new p.note.name d.objects).versions =
    c.deref-3.ensures.value ∙ c.install-replaced.ensures.replaced ∙ (λ i. dropped (noted i).kind (stripe i) (noted i) (drawn i) (object_or_new (noted i).name d.objects).versions)
    in
    let still : is_overtaken p.note.kind p.base (last_change p.note.name d.points) ≡ false =
    not_changed p (last_change p.note.name d.points)
    (subst (λ (x : Directory). changed_in x p ≡ None) (sym t.view) (taken_said a c.args.self.now.core c.args.pass who p c.take-open.new.self t (λ (own : Pass). changed_in c.args.self.now.core own ≡ None) c.requires.still))
    in
    let listed : c.supersede_all.new.self.listed ≡ set_standing Standing.Superseded (dropped p.note.kind (stripe_length d.shape) p.note p.drawn (object_or_new p.note.name d.objects).versions) (place_all (zip p.drawn rows) d.versions) =
    c.supersede_all.ensures.listed ∙ (λ i. set_standing Standing.Superseded (replaced i) (placed i))
    in
    let objects : c.install-replaced.new.objects.objects ≡ put_object (installed p.note.kind (stripe_length d.shape) p.note p.drawn (object_or_new p.note.name d.objects)) d.objects =
    c.install-replaced.ensures.objects ∙ (λ i. put_object (installed (noted i).kind (stripe i) (noted i) (drawn i) (object_or_new (noted i).name d.objects)) d.objects)
    in
    let who_is : who ≡ p.actor = own d who p c.take-open.new.self.listed t.gone.found t.gone.left t.gone.perm in
    let points : c.add-point.new.self.points ≡ d.points ++ record { actor = p.actor; number = p.number; note = p.note; event = Event.Done } ∷ [] =
    c.add-point.ensures.points ∙ (λ i. d.points ++ record { actor = who_is i; number = (ap (λ (o : Open). o.pass.number) c.open.view_is) i; note = noted i; event = Event.Done } ∷ [])
    in
    let pinned : c.deref.result.now ≡ p.pinned = c.deref.ensures.value ∙ ap (λ (o : Open). o.pass.pinned) c.open.view_is in
    let counts : c.supersede_all.new.self.pins ≡ unpinned p.pinned a.versions.pins =
    c.supersede_all.ensures.pins ∙ c.make_all_current.ensures.pins ∙ c.unpin_all.ensures.pins ∙ ap (λ pins. unpinned pins a.versions.pins) pinned
    in
    let one : one_if (may_append p.note.kind) ≡ 1 = ap one_if (may_one p.note.kind kind) in
    kept_ended a c.self.invariant who p c.take-open.new.self t.gone live c.install-replaced.new.objects c.supersede_all.new.self c.add-point.new.self
    (subst IsWhole (sym (ap (λ r. r.0) (commit_step d who p c.take-open.new.self.listed t.gone.found t.gone.left t.gone.perm live still c.args.pass.pass.number rows c.install-replaced.new.objects.objects c.supersede_all.new.self.listed c.add-point.new.self.points objects listed points)))
    (keeps_whole who c.args.pass.pass.number (DirectoryStep.Commit rows) d c.self.invariant.stripes c.self.invariant.whole (p, record { is_pass = t.gone.found; kind = kind }, record { drawn = asked.drawn; rows = asked.rows; whole = asked.whole })))
    counts (ap origins listed ∙ set_keeps Standing.Superseded (dropped p.note.kind (stripe_length d.shape) p.note p.drawn (object_or_new p.note.name d.objects).versions) (place_all (zip p.drawn rows) d.versions) ∙ place_keeps (zip p.drawn rows) d.versions) c.add-point.ensures.names c.add-point.ensures.keeps (omega (arith, c.add-point.ensures.room)) (omega (arith, one, c.install-replaced.ensures.left))

pub returns-clause-step : goal.returns-clause-step
returns-clause-step c =
    let a : Inside = c.self.inside in
    let d : Directory = directory_in a in
    let p : Pass = c.take-open.result.pass in
    let who : Actor = c.pass.inside.actor in
    let t : Taken a c.args.self.now.core c.args.pass who p c.take-open.new.self =
    taken a c.self.invariant c.args.self.now.core (ap (λ (s : Sealed). s.core) c.self.view_is) c.args.pass c.requires.agrees who (ap (λ (h : HeldPass). h.pass.actor) c.pass.view_is) p c.take-open.new.self
    c.take-open.ensures.found c.take-open.ensures.left c.take-open.ensures.others c.take-open.ensures.stripe
    in
    let live : p.reaped ≡ None = taken_said a c.args.self.now.core c.args.pass who p c.take-open.new.self t (λ (own : Pass). own.reaped ≡ None) c.requires.live in
    let rows : List (List Placement) = map (λ (row : Vec Placement Global). row.items) c.args.placed.items in
    let asked : IsPrepared d (record p { reaped = None }) rows = subst (λ (q : Pass). IsPrepared d q rows) (sym t.is) (subst (λ (x : Directory). IsPrepared x c.args.pass.pass rows) (sym t.view) c.requires.may.1) in
    let drawn_now : c.deref-2.result.now ≡ p.drawn = c.deref-2.ensures.value ∙ ap (λ (o : Open). o.pass.drawn) c.open.view_is in
    let noted : c.open.inside.note ≡ p.note = ap (λ (o : Open). o.pass.note) c.open.view_is in
    let drawn : c.open.inside.drawn.items ≡ p.drawn = ap (λ (o : Open). o.pass.drawn) c.open.view_is in
    let stripe : c.stripe_len-stripe_len.result ≡ stripe_length d.shape = c.stripe_len-stripe_len.ensures.value in
    let placed : c.make_all_current.new.self.listed ≡ place_all (zip p.drawn rows) d.versions = c.make_all_current.ensures.listed ∙ (λ i. place_all (zip (drawn_now i) rows) (c.unpin_all.ensures.listed i)) in
    let replaced : c.deref-3.result.now ≡ dropped p.note.kind (stripe_length d.shape) p.note p.drawn (object_or_new p.note.name d.objects).versions =
    c.deref-3.ensures.value ∙ c.install-replaced.ensures.replaced ∙ (λ i. dropped (noted i).kind (stripe i) (noted i) (drawn i) (object_or_new (noted i).name d.objects).versions)
    in
    let still : is_overtaken p.note.kind p.base (last_change p.note.name d.points) ≡ false =
    not_changed p (last_change p.note.name d.points)
    (subst (λ (x : Directory). changed_in x p ≡ None) (sym t.view) (taken_said a c.args.self.now.core c.args.pass who p c.take-open.new.self t (λ (own : Pass). changed_in c.args.self.now.core own ≡ None) c.requires.still))
    in
    let listed : c.supersede_all.new.self.listed ≡ set_standing Standing.Superseded (dropped p.note.kind (stripe_length d.shape) p.note p.drawn (object_or_new p.note.name d.objects).versions) (place_all (zip p.drawn rows) d.versions) =
    c.supersede_all.ensures.listed ∙ (λ i. set_standing Standing.Superseded (replaced i) (placed i))
    in
    let objects : c.install-replaced.new.objects.objects ≡ put_object (installed p.note.kind (stripe_length d.shape) p.note p.drawn (object_or_new p.note.name d.objects)) d.objects =
    c.install-replaced.ensures.objects ∙ (λ i. put_object (installed (noted i).kind (stripe i) (noted i) (drawn i) (object_or_new (noted i).name d.objects)) d.objects)
    in
    let who_is : who ≡ p.actor = own d who p c.take-open.new.self.listed t.gone.found t.gone.left t.gone.perm in
    let points : c.add-point.new.self.points ≡ d.points ++ record { actor = p.actor; number = p.number; note = p.note; event = Event.Done } ∷ [] =
    c.add-point.ensures.points ∙ (λ i. d.points ++ record { actor = who_is i; number = (ap (λ (o : Open). o.pass.number) c.open.view_is) i; note = noted i; event = Event.Done } ∷ [])
    in
    let after : Directory = record d { objects = c.install-replaced.new.objects.objects; versions = c.supersede_all.new.self.listed; passes = c.take-open.new.self.listed; points = c.add-point.new.self.points } in
    ap (λ (n : ℕ). (after, Told.Done n)) c.add-point.ensures.point
    ∙ commit_step d who p c.take-open.new.self.listed t.gone.found t.gone.left t.gone.perm live still c.args.pass.pass.number rows c.install-replaced.new.objects.objects c.supersede_all.new.self.listed c.add-point.new.self.points objects listed points
    ∙ (λ i. at_directory false (t.same i) c.args.pass.pass.number (DirectoryStep.Commit rows) (t.view i))

pub returns-clause-token : goal.returns-clause-token
returns-clause-token c =
    let a : Inside = c.self.inside in
    let d : Directory = directory_in a in
    let p : Pass = c.take-open.result.pass in
    let who : Actor = c.pass.inside.actor in
    let t : Taken a c.args.self.now.core c.args.pass who p c.take-open.new.self =
    taken a c.self.invariant c.args.self.now.core (ap (λ (s : Sealed). s.core) c.self.view_is) c.args.pass c.requires.agrees who (ap (λ (h : HeldPass). h.pass.actor) c.pass.view_is) p c.take-open.new.self
    c.take-open.ensures.found c.take-open.ensures.left c.take-open.ensures.others c.take-open.ensures.stripe
    in
    ap ActorToken.Seated (c.seat_of.ensures ∙ taken_seat a c.args.self.now.core c.args.pass who p c.take-open.new.self t c.open.inside.number (Some c.add-point.result) (ap (λ (o : Open). o.pass.number) c.open.view_is))
