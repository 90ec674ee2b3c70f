use Rattle.std.proofs.Common.{◌≡◌, ◌⊎◌, ℕ, ◌+◌, ◌/◌, ◌≤◌, List, [], ◌++◌, length, map, vec_capacity, Option, None, Some, option_map, IfSome, find, false, ap, sym, subst, ◌∙◌}
use Rattle.std.proofs.lemmas.List.FromFn.{length-range_with_len}
use Rattle.std.specs.List.{range_with_len}
use denote.Ref.{Bor}
use Rattle.clay_grid.specs.Shape.{stripe_length}
use Rattle.store_map.specs.Limits.{stripes_met}
use Rattle.store_map.specs.declared.actor.Actor.{Actor}
use Rattle.store_core.specs.Told.{Told}
use Rattle.store_core.specs.Note.{Kind}
use Rattle.store_core.specs.Act.{DirectoryStep}
use Rattle.store_core.specs.Directory.{Pass, Directory}
use Rattle.store_core.specs.Lookups.{same_actor, pass_of}
use Rattle.store_core.specs.AtDirectory.{at_directory}
use Rattle.store_core.specs.Agreement.{HeldPass, AgreesWithPass, ActorToken}
use Rattle.dir_parts.specs.OpenPass.{HasRoom}
use Rattle.dir_parts.proofs.Actors.{same_is, find_passes}
use Rattle.version_seal.specs.Entry.{BookOf, RequestOf, StampOf}
use Rattle.stripe_stamps.specs.Sealed.{Sealed, stamps_touched, CanSeal}
use Rattle.stripe_stamps.specs.Stamped.{AreOf}
use Rattle.stripe_stamps.specs.StampList.{StampList}
use Rattle.stripe_dir.specs.Kept.{directory_in, sealed_in}
use Rattle.stripe_dir.specs.declared.directory.Directory.TheInside.{Inside}
use Rattle.stripe_dir.proofs.Ending.{agreed, said_of}
use Rattle.stripe_stamps.proofs.StampLists.{stamps_count, fresh_versions}
use Rattle.stripe_dir.proofs.Draws.{bases_of, draw_step, kept_drawn, kept_undrawn, with_drawn}
use Rattle.stripe_dir.proofs.directory.Directory.draw.Goals as goal

pub draw_fresh-requires-clause-call : goal.draw_fresh-requires-clause-call
draw_fresh-requires-clause-call c =
    let a : Inside = c.self.inside in
    let d : Directory = directory_in a in
    let who : Actor = c.pass.inside.actor in
    let p : Pass = c.in-Some-find.open.now.pass in
    let view : d ≡ c.args.self.now.core = ap (λ (s : Sealed). s.core) c.self.view_is in
    let same : who ≡ c.args.pass.pass.actor = ap (λ (h : HeldPass). h.pass.actor) c.pass.view_is in
    let found : find (λ (pass : Pass). same_actor who pass.actor) d.passes ≡ Some p = sym c.in-Some-find.ensures in
    let is : record p { reaped = None } ≡ c.args.pass.pass = agreed d c.args.pass who p same found (subst (λ (d : Directory). AgreesWithPass d c.args.pass) (sym view) c.requires.agrees) in
    let request : Option RequestOf = option_map (λ (r : Bor RequestOf). r.now) c.args.request in
    let asked : CanSeal c.args.book.now (record p { reaped = None }) request = subst (λ (q : Pass). CanSeal c.args.book.now q request) (sym is) (subst (λ (b : BookOf). CanSeal b c.args.pass.pass request) (sym c.requires.book) c.requires.call) in
    record { writes = asked.writes; asked = asked.asked }

pub draw_fresh-requires-clause-book : goal.draw_fresh-requires-clause-book
draw_fresh-requires-clause-book c = c.requires.book ∙ sym (ap (λ (s : Sealed). s.book) c.self.view_is)

pub draw_fresh-requires-clause-stamps : goal.draw_fresh-requires-clause-stamps
draw_fresh-requires-clause-stamps c =
    let a : Inside = c.self.inside in
    let book : c.args.book.now ≡ a.stamps.book = c.requires.book ∙ sym (ap (λ (s : Sealed). s.book) c.self.view_is) in
    subst (λ (b : BookOf). AreOf b a.stamps.listed) (sym book) c.self.invariant.stamps.its

pub draw_fresh-requires-clause-bases : goal.draw_fresh-requires-clause-bases
draw_fresh-requires-clause-bases c =
    let a : Inside = c.self.inside in
    let d : Directory = directory_in a in
    let who : Actor = c.pass.inside.actor in
    let p : Pass = c.in-Some-find.open.now.pass in
    let view : d ≡ c.args.self.now.core = ap (λ (s : Sealed). s.core) c.self.view_is in
    let same : who ≡ c.args.pass.pass.actor = ap (λ (h : HeldPass). h.pass.actor) c.pass.view_is in
    let found : find (λ (pass : Pass). same_actor who pass.actor) d.passes ≡ Some p = sym c.in-Some-find.ensures in
    bases_of a c.self.invariant who p found

pub draw-entry-requires-clause-room : goal.draw-entry-requires-clause-room
draw-entry-requires-clause-room c =
    let a : Inside = c.self.inside in
    let d : Directory = directory_in a in
    let who : Actor = c.pass.inside.actor in
    let p : Pass = c.in-Some-find.open.now.pass in
    let view : d ≡ c.args.self.now.core = ap (λ (s : Sealed). s.core) c.self.view_is in
    let same : who ≡ c.args.pass.pass.actor = ap (λ (h : HeldPass). h.pass.actor) c.pass.view_is in
    let found : find (λ (pass : Pass). same_actor who pass.actor) d.passes ≡ Some p = sym c.in-Some-find.ensures in
    let stripe : c.stripe_len-stripe_len.result ≡ stripe_length d.shape = c.stripe_len-stripe_len.ensures.value in
    let drawn : List ℕ = c.in-Ok.fresh.drawn.items in
    let cap : ℕ = vec_capacity c.in-Ok.fresh.memory in
    let size : length drawn ≡ stripes_met c.stripe_len-stripe_len.result p.note.offset p.note.length = ap length c.in-Ok.ensures.drawn ∙ length-range_with_len (length d.versions) (stripes_met c.stripe_len-stripe_len.result p.note.offset p.note.length) in
    let alike : c.stripe_len-stripe_len.result ≡ a.passes.stripe_len = stripe ∙ sym c.self.invariant.desk in
    subst (λ (o : Option Pass). IfSome o (λ pass. HasRoom a.passes.stripe_len (record { pass = record pass { drawn = drawn }; room = cap }))) (sym found)
    (λ write some.
    let fits : p.note.offset / c.stripe_len-stripe_len.result + stripes_met c.stripe_len-stripe_len.result p.note.offset p.note.length ≤ cap = c.in-Ok.ensures.memory write in
    subst (λ (s : ℕ). p.note.offset / s + length drawn ≤ cap) alike (subst (λ (n : ℕ). p.note.offset / c.stripe_len-stripe_len.result + n ≤ cap) (sym size) fits))

pub invariant_of-self : goal.invariant_of-self
invariant_of-self c =
    kept_undrawn c.self.inside c.self.invariant c.draw_fresh.new.versions c.draw_fresh.new.stamps c.in_default-draw_fresh.ensures.err_listed c.in_default-draw_fresh.ensures.err_pins c.in_default-draw_fresh.ensures.err_stamps

pub invariant_of-self-2 : goal.invariant_of-self-2
invariant_of-self-2 c =
    let request : Option RequestOf = option_map (λ (r : Bor RequestOf). r.now) c.args.request in
    let a : Inside = c.self.inside in
    let d : Directory = directory_in a in
    let who : Actor = c.pass.inside.actor in
    let p : Pass = c.in-Some-find.open.now.pass in
    let view : d ≡ c.args.self.now.core = ap (λ (s : Sealed). s.core) c.self.view_is in
    let same : who ≡ c.args.pass.pass.actor = ap (λ (h : HeldPass). h.pass.actor) c.pass.view_is in
    let found : find (λ (pass : Pass). same_actor who pass.actor) d.passes ≡ Some p = sym c.in-Some-find.ensures in
    let live : p.reaped ≡ None = sym (said_of (λ (own : Pass). c.reap_of.result ≡ own.reaped) (pass_of who d) p found (subst (λ (d : Directory). IfSome (pass_of who d) (λ own. c.reap_of.result ≡ own.reaped)) (sym view) c.reap_of.ensures)) ∙ c.in_default.is in
    let is : record p { reaped = None } ≡ c.args.pass.pass = agreed d c.args.pass who p same found (subst (λ (d : Directory). AgreesWithPass d c.args.pass) (sym view) c.requires.agrees) in
    let stripe : c.stripe_len-stripe_len.result ≡ stripe_length d.shape = c.stripe_len-stripe_len.ensures.value in
    let book : c.args.book.now ≡ a.stamps.book = c.requires.book ∙ sym (ap (λ (s : Sealed). s.book) c.self.view_is) in
    let kind : (p.note.kind ≡ Kind.Put) ⊎ (p.note.kind ≡ Kind.Write) = subst (λ (q : Pass). (q.note.kind ≡ Kind.Put) ⊎ (q.note.kind ≡ Kind.Write)) (sym is) c.requires.may.0 in
    let undrawn : p.drawn ≡ [] = ap (λ (q : Pass). q.drawn) is ∙ c.requires.may.1 in
    kept_drawn a c.self.invariant who p found live c.stripe_len-stripe_len.result stripe c.draw-entry.new.self c.draw_fresh.new.versions c.in-Ok.fresh.drawn.items c.in-Ok.ensures.listed c.in-Ok.ensures.drawn c.draw-entry.ensures.listed
    c.draw_fresh.new.stamps request
    (c.in-Ok.ensures.stamps ∙ ap (λ (b : BookOf). with_drawn a.stamps b c.stripe_len-stripe_len.result p request) book)
    c.draw-entry.ensures.stripe c.in-Ok.ensures.pins (p, record { is_pass = found; kind = kind }, undrawn)

pub returns-clause-step : goal.returns-clause-step
returns-clause-step c =
    let request : Option RequestOf = option_map (λ (r : Bor RequestOf). r.now) c.args.request in
    let a : Inside = c.self.inside in
    let d : Directory = directory_in a in
    let who : Actor = c.pass.inside.actor in
    let p : Pass = c.in-Some-find.open.now.pass in
    let view : d ≡ c.args.self.now.core = ap (λ (s : Sealed). s.core) c.self.view_is in
    let same : who ≡ c.args.pass.pass.actor = ap (λ (h : HeldPass). h.pass.actor) c.pass.view_is in
    let found : find (λ (pass : Pass). same_actor who pass.actor) d.passes ≡ Some p = sym c.in-Some-find.ensures in
    let live : p.reaped ≡ None = sym (said_of (λ (own : Pass). c.reap_of.result ≡ own.reaped) (pass_of who d) p found (subst (λ (d : Directory). IfSome (pass_of who d) (λ own. c.reap_of.result ≡ own.reaped)) (sym view) c.reap_of.ensures)) ∙ c.in_default.is in
    let stripe : c.stripe_len-stripe_len.result ≡ stripe_length d.shape = c.stripe_len-stripe_len.ensures.value in
    let book : c.args.book.now ≡ a.stamps.book = c.requires.book ∙ sym (ap (λ (s : Sealed). s.book) c.self.view_is) in
    let after : Directory = directory_in (record a { versions = c.draw_fresh.new.versions; passes = c.draw-entry.new.self }) in
    let told : map (λ (stamp : StampOf). stamp.version) c.in-Ok.fresh.stamps.items ≡ c.in-Ok.fresh.drawn.items =
    ap (map (λ (stamp : StampOf). stamp.version)) (c.in-Ok.ensures.told ∙ ap (λ (b : BookOf). stamps_touched b a.stamps.listed c.stripe_len-stripe_len.result p request) book)
    ∙ fresh_versions (sealed_in a) c.self.invariant.stamps p (bases_of a c.self.invariant who p found) (p.note.offset / c.stripe_len-stripe_len.result) (stripes_met c.stripe_len-stripe_len.result p.note.offset p.note.length) request
    ∙ ap (λ n. range_with_len n (stripes_met c.stripe_len-stripe_len.result p.note.offset p.note.length)) (stamps_count (sealed_in a) c.self.invariant.stamps) ∙ sym c.in-Ok.ensures.drawn
    in
    ap (λ (ns : List ℕ). (after, Told.Versions ns)) told
    ∙ draw_step a c.self.invariant who p found live c.stripe_len-stripe_len.result stripe c.draw-entry.new.self c.draw_fresh.new.versions c.in-Ok.fresh.drawn.items c.in-Ok.ensures.listed c.in-Ok.ensures.drawn c.draw-entry.ensures.listed c.args.pass.pass.number
    ∙ (λ i. at_directory false (same i) c.args.pass.pass.number DirectoryStep.Draw (view i))

pub returns-clause-token : goal.returns-clause-token
returns-clause-token c =
    let request : Option RequestOf = option_map (λ (r : Bor RequestOf). r.now) c.args.request in
    let a : Inside = c.self.inside in
    let d : Directory = directory_in a in
    let who : Actor = c.pass.inside.actor in
    let p : Pass = c.in-Some-find.open.now.pass in
    let view : d ≡ c.args.self.now.core = ap (λ (s : Sealed). s.core) c.self.view_is in
    let same : who ≡ c.args.pass.pass.actor = ap (λ (h : HeldPass). h.pass.actor) c.pass.view_is in
    let found : find (λ (pass : Pass). same_actor who pass.actor) d.passes ≡ Some p = sym c.in-Some-find.ensures in
    let live : p.reaped ≡ None = sym (said_of (λ (own : Pass). c.reap_of.result ≡ own.reaped) (pass_of who d) p found (subst (λ (d : Directory). IfSome (pass_of who d) (λ own. c.reap_of.result ≡ own.reaped)) (sym view) c.reap_of.ensures)) ∙ c.in_default.is in
    let is : record p { reaped = None } ≡ c.args.pass.pass = agreed d c.args.pass who p same found (subst (λ (d : Directory). AgreesWithPass d c.args.pass) (sym view) c.requires.agrees) in
    let book : c.args.book.now ≡ a.stamps.book = c.requires.book ∙ sym (ap (λ (s : Sealed). s.book) c.self.view_is) in
    let told : map (λ (stamp : StampOf). stamp.version) c.in-Ok.fresh.stamps.items ≡ c.in-Ok.fresh.drawn.items =
    ap (map (λ (stamp : StampOf). stamp.version)) (c.in-Ok.ensures.told ∙ ap (λ (b : BookOf). stamps_touched b a.stamps.listed c.stripe_len-stripe_len.result p request) book)
    ∙ fresh_versions (sealed_in a) c.self.invariant.stamps p (bases_of a c.self.invariant who p found) (p.note.offset / c.stripe_len-stripe_len.result) (stripes_met c.stripe_len-stripe_len.result p.note.offset p.note.length) request
    ∙ ap (λ n. range_with_len n (stripes_met c.stripe_len-stripe_len.result p.note.offset p.note.length)) (stamps_count (sealed_in a) c.self.invariant.stamps) ∙ sym c.in-Ok.ensures.drawn
    in
    let drawn : List ℕ = c.in-Ok.fresh.drawn.items in
    let entry : c.draw-entry.result.value.pass ≡ record p { drawn = drawn } = said_of (λ (q : Pass). c.draw-entry.result.value.pass ≡ record q { drawn = drawn }) (pass_of who d) p found c.draw-entry.ensures.entry in
    let own : who ≡ p.actor = same_is who p.actor (find_passes (λ (q : Pass). same_actor who q.actor) d.passes p found) in
    let pass : record (c.draw-entry.result.value.pass) { actor = who } ≡ record (c.args.pass.pass) { drawn = map (λ (stamp : StampOf). stamp.version) c.in-Ok.fresh.stamps.items } =
    (λ i. record (entry i) { actor = who }) ∙ (λ i. record p { actor = own i; drawn = sym told i; reaped = live i }) ∙ ap (λ (q : Pass). record q { drawn = map (λ (stamp : StampOf). stamp.version) c.in-Ok.fresh.stamps.items }) is
    in
    λ i. ActorToken.InCall (record { pass = pass i; told = (ap (λ (h : HeldPass). h.told) c.pass.view_is) i })

pub returns-clause-stamps : goal.returns-clause-stamps
returns-clause-stamps c =
    let a : Inside = c.self.inside in
    ap (λ (l : StampList). l.listed) c.in-Ok.ensures.stamps ∙ (λ i. a.stamps.listed ++ sym c.in-Ok.ensures.told i) ∙ ap (λ (s : Sealed). s.stamps ++ c.in-Ok.fresh.stamps.items) c.self.view_is

pub returns-clause-drawn : goal.returns-clause-drawn
returns-clause-drawn c =
    let request : Option RequestOf = option_map (λ (r : Bor RequestOf). r.now) c.args.request in
    let a : Inside = c.self.inside in
    let d : Directory = directory_in a in
    let who : Actor = c.pass.inside.actor in
    let p : Pass = c.in-Some-find.open.now.pass in
    let view : d ≡ c.args.self.now.core = ap (λ (s : Sealed). s.core) c.self.view_is in
    let same : who ≡ c.args.pass.pass.actor = ap (λ (h : HeldPass). h.pass.actor) c.pass.view_is in
    let found : find (λ (pass : Pass). same_actor who pass.actor) d.passes ≡ Some p = sym c.in-Some-find.ensures in
    let is : record p { reaped = None } ≡ c.args.pass.pass = agreed d c.args.pass who p same found (subst (λ (d : Directory). AgreesWithPass d c.args.pass) (sym view) c.requires.agrees) in
    let stripe : c.stripe_len-stripe_len.result ≡ stripe_length d.shape = c.stripe_len-stripe_len.ensures.value in
    let book : c.args.book.now ≡ a.stamps.book = c.requires.book ∙ sym (ap (λ (s : Sealed). s.book) c.self.view_is) in
    c.in-Ok.ensures.told
    ∙ (λ i. stamps_touched (book i) a.stamps.listed (stripe i) p request)
    ∙ ap (λ (q : Pass). stamps_touched a.stamps.book a.stamps.listed (stripe_length a.geometry) q request) is
    ∙ ap (λ (s : Sealed). stamps_touched s.book s.stamps (stripe_length s.core.shape) c.args.pass.pass request) c.self.view_is
