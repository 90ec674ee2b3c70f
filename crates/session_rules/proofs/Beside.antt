-- Steps that no state shows.
use Rattle.std.proofs.Common.{◌≡◌, ◌≢◌, ℕ, zero, suc, ◌+◌, ◌*◌, ◌<◌, Bool, true, false, not, ◌&&◌, ◌||◌, List, [], ◌∷◌, length, map, get_or, slice_get, Option, None, Some, option_map, unwrap_or, refl, sym, ap, subst, ◌∙◌, arith, if◌then◌else◌, nat_lt, nat_eq}
use Rattle.std.specs.List.{list_any, range_with_len}
use Rattle.std.proofs.lemmas.Option.{same_Some}
use Rattle.std.proofs.lemmas.List.{length-map}
use Rattle.std.proofs.lemmas.Option.{slice_get_past}
use Rattle.session_rules.proofs.Counting.{among_kept}
use Rattle.std.proofs.lemmas.Bool.{ne_eqb, ltb-true, ltb-false}
use Rattle.clay_grid.specs.Shape.{Shape, chunk_count, stripe_length}
use Rattle.store_map.specs.declared.actor.Actor.{Actor}
use Rattle.store_map.specs.declared.placement.Placement.TheVariants as placement
use Rattle.store_map.specs.declared.reply.Reply.{Reply}
use Rattle.store_core.specs.Lists.{is_among}
use Rattle.store_core.specs.Told.{Told}
use Rattle.store_core.specs.Note.{Note, Kind, refusal}
use Rattle.store_core.specs.Act.{DirectoryStep, ServerStep}
use Rattle.store_core.specs.Directory.{Object, Standing, Pass, Directory}
use Rattle.store_core.specs.Lookups.{same_actor, find_object, pass_of, first_garbage, is_current}
use Rattle.store_core.specs.Look.{begin_pass, seen_at, placed_of, stripes_between}
use Rattle.store_core.specs.Looks.{look, look_by, accept, look_repair_by}
use Rattle.store_core.specs.PassSteps.{close_pass, end_pass, draw, new_version, confirm}
use Rattle.store_core.specs.Lists.{change_at}
use Rattle.store_core.specs.AtDirectory.{at_directory, on_pass, unless_reaped}
use Rattle.store_core.specs.Server.{Server, let_go, at_server, gives, found_at, raised_by}
use Rattle.store_core.specs.Step.{Places, at_server_there}
use Rattle.store_core.specs.Sound.{IsSound}
use Rattle.run_laws.proofs.SoundSteps.{steps_keep_sound}
use Rattle.session_rules.specs.State.{Chunk, Stripe, State as Session}
use Rattle.session_rules.specs.Alone.{step}
use Rattle.session_rules.specs.Seen.{version_of, live_numbers, StandsFor, IsSeenAs}
use Rattle.store_core.specs.AtDirectory.{take_garbage, swept_standing}
use Rattle.session_rules.specs.Sweeps.{IsUnseen}
use Rattle.session_rules.specs.Unseen.{IsUnseenThere, IsUnseenStep, StepsAreUnseen}
use Rattle.session_rules.specs.Puts.{with_version}
use Rattle.session_rules.proofs.PutAlone.{versions}
use Rattle.session_rules.proofs.Placed.{placed_kept, slice_left, placed_changed, among_hold}
use Rattle.session_rules.proofs.Writes.{there}
use Rattle.session_rules.proofs.Lists.{map_kept, changed_length, all_changed}

-- ---- directories whose objects and placed versions are the same
record Beside (d e : Directory) : Type 0 where
  shape : e.shape ≡ d.shape
  most : e.max ≡ d.max
  objects : e.objects ≡ d.objects
  placed : (v : ℕ) → v < length d.versions → placed_of (slice_get e.versions v) ≡ placed_of (slice_get d.versions v)

-- but for passes and points
beside_all : (d e : Directory) → e.shape ≡ d.shape → e.max ≡ d.max → e.objects ≡ d.objects → e.versions ≡ d.versions → Beside d e
beside_all d e shape most objects versions = record { shape = shape; most = most; objects = objects; placed = λ v less. ap (λ vs. placed_of (slice_get vs v)) versions }

alone : (d : Directory) → Beside d d
alone d = beside_all d d refl refl refl refl

by_pass : (act : Pass → Directory → Directory × Told) → ((pass : Pass) (d : Directory) → Beside d (act pass d).0) → (found : Option Pass) (d : Directory) → Beside d (on_pass act found d).0
by_pass act each None d = alone d
by_pass act each (Some pass) d = by pass.reaped
  where
    by : (reaped : Option ℕ) → Beside d (unless_reaped act pass reaped d).0
    by None = each pass d
    by (Some point) = beside_all d (close_pass pass d) refl refl refl refl

draws : (pass : Pass) (d : Directory) → Beside d (draw pass d).0
draws pass d = record { shape = refl; most = refl; objects = refl; placed = λ v less. ap placed_of (slice_left d.versions (map (new_version pass) (stripes_between d.shape pass.note.offset (pass.note.offset + pass.note.length))) v less) }

ends : (pass : Pass) (d : Directory) → Beside d (end_pass pass d).0
ends pass d = record { shape = refl; most = refl; objects = refl; placed = λ v less. placed_kept Standing.Superseded pass.drawn d.versions v }

confirms : (pass : Pass) (d : Directory) → Beside d (confirm pass d).0
confirms pass d = by (Rattle.std.specs.List.list_all (λ pin. is_current d pin.version) pass.pinned)
  where
    by : (b : Bool) → Beside d (let r : Directory × Told = if b then (d, Told.Current) else (close_pass pass d, Told.Superseded (unwrap_or (Rattle.store_core.specs.Lookups.last_change pass.note.name d.points) 0)) in r.0)
    by true = alone d
    by false = beside_all d (close_pass pass d) refl refl refl refl

takes_it : (found : Option ℕ) (d : Directory) → Beside d (take_garbage found d).0
takes_it None d = alone d
takes_it (Some v) d = record { shape = refl; most = refl; objects = refl; placed = λ w less. placed_kept Standing.Taken (v ∷ []) d.versions w }

accepts : (who : Actor) (number : ℕ) (note : Note) (d : Directory) (kind : Kind) (object : Object) → (kind ≢ Kind.Delete) → Beside d (accept who number note d kind object).0
accepts who number note d Kind.Put object other = beside_all d _ refl refl refl refl
accepts who number note d Kind.Write object other = beside_all d _ refl refl refl refl
accepts who number note d Kind.Get object other = beside_all d _ refl refl refl refl
accepts who number note d Kind.ReadAt object other = beside_all d _ refl refl refl refl
accepts who number note d Kind.Stat object other = beside_all d _ refl refl refl refl
accepts who number note d Kind.Delete object other = absurd (other refl)
accepts who number note d Kind.Rebuild object other = beside_all d _ refl refl refl refl

looks : (who : Actor) (number : ℕ) (note : Note) (d : Directory) → (note.kind ≢ Kind.Delete) → Beside d (look who number note d).0
looks who number note d other = by (refusal d.max note (option_map (λ (object : Object). object.length) (find_object note.name d.objects)))
  where
    by : (refused : Option Reply) → Beside d (look_by who number note d (find_object note.name d.objects) refused).0
    by (Some answer) = beside_all d _ refl refl refl refl
    by None = accepts who number note d note.kind (unwrap_or (find_object note.name d.objects) (record { name = note.name; length = 0; versions = [] })) other

looks_again : (who : Actor) (number : ℕ) (note : Note) (d : Directory) → Beside d (look_repair_by who number note d (find_object note.name d.objects)).0
looks_again who number note d = by (find_object note.name d.objects)
  where
    by : (found : Option Object) → Beside d (look_repair_by who number note d found).0
    by None = alone d
    by (Some object) = within (nat_lt note.offset (length object.versions))
      where
        within : (b : Bool) → Beside d (let r : Directory × Told = if b then (begin_pass who number note (seen_at d object note.offset ∷ []) None d, Told.PinnedStripe (seen_at d object note.offset)) else (d, Told.NoSuch) in r.0)
        within true = beside_all d _ refl refl refl refl
        within false = alone d

made : (short : Bool) (who : Actor) (number : ℕ) (d : Directory) (step : DirectoryStep) → IsUnseenStep step → Beside d (at_directory short who number step d).0
made true who number d (DirectoryStep.Look note) ok = alone d
made false who number d (DirectoryStep.Look note) ok = looks who number note d ok
made true who number d (DirectoryStep.LookRepair note) ok = alone d
made false who number d (DirectoryStep.LookRepair note) ok = looks_again who number note d
made true who number d DirectoryStep.Draw ok = alone d
made false who number d DirectoryStep.Draw ok = by_pass draw draws (pass_of who d) d
made true who number d DirectoryStep.End ok = by_pass end_pass ends (pass_of who d) d
made false who number d DirectoryStep.End ok = by_pass end_pass ends (pass_of who d) d
made true who number d DirectoryStep.Confirm ok = by_pass confirm confirms (pass_of who d) d
made false who number d DirectoryStep.Confirm ok = by_pass confirm confirms (pass_of who d) d
made true who number d DirectoryStep.NextGarbage ok = takes_it (first_garbage d) d
made false who number d DirectoryStep.NextGarbage ok = takes_it (first_garbage d) d
made true who number d (DirectoryStep.Swept v) ok = record { shape = refl; most = refl; objects = refl; placed = λ w less. placed_changed v (λ entry. record entry { standing = swept_standing entry.standing }) (λ x. refl) d.versions w }
made false who number d (DirectoryStep.Swept v) ok = record { shape = refl; most = refl; objects = refl; placed = λ w less. placed_changed v (λ entry. record entry { standing = swept_standing entry.standing }) (λ x. refl) d.versions w }
made short who number d (DirectoryStep.Commit placed) ok = absurd ok
made short who number d (DirectoryStep.Repaired server epoch) ok = absurd ok
made short who number d (DirectoryStep.Reap actor) ok = absurd ok

-- ---- servers
record SameThere (stands : List ℕ) (s : Session) (one to : Server) : Type 0 where
  away : to.away ≡ one.away
  epoch : to.epoch ≡ one.epoch
  held : (number : ℕ) → is_among number (live_numbers s) ≡ true → is_among (version_of stands number) to.held ≡ is_among (version_of stands number) one.held

unmoved : (stands : List ℕ) (s : Session) (one : Server) → SameThere stands s one one
unmoved stands s one = record { away = refl; epoch = refl; held = λ number live. refl }

prepare_same : (stands : List ℕ) (s : Session) (short : Bool) (v : ℕ) (one : Server) → IsUnseen stands s v → SameThere stands s one (at_server short (ServerStep.Prepare v) one).0
prepare_same stands s true v one unseen = unmoved stands s one
prepare_same stands s false v one unseen = by one.away
  where
    by : (b : Bool) → SameThere stands s one (let r : Server × Told = if b then (one, Told.Prepared (placement.Skipped one.downs)) else (with_version v one, Told.Prepared (placement.At one.epoch)) in r.0)
    by true = unmoved stands s one
    by false = record {
      away = refl;
      epoch = refl;
      held = λ number live.
          among_hold (version_of stands number) v one.held
          ∙ ap (λ b. b || is_among (version_of stands number) one.held) (ne_eqb (version_of stands number) v (unseen number live));
    }

discard_same : (stands : List ℕ) (s : Session) (v : ℕ) (one : Server) → IsUnseen stands s v → SameThere stands s one (record one { held = let_go v one.held })
discard_same stands s v one unseen = record {
  away = refl;
  epoch = refl;
  held = λ number live.
      among_kept (λ other. not (nat_eq v other)) (version_of stands number) one.held
      ∙ ap (λ b. is_among (version_of stands number) one.held && not b) (ne_eqb v (version_of stands number) (λ e. unseen number live (sym e)))
      ∙ whole (is_among (version_of stands number) one.held);
}
  where
    whole : (b : Bool) → (b && true) ≡ b
    whole true = refl
    whole false = refl

has_same : (stands : List ℕ) (s : Session) (v : ℕ) (one : Server) → SameThere stands s one (at_server false (ServerStep.Has v) one).0
has_same stands s v one = by (gives v one)
  where
    by : (b : Bool) → SameThere stands s one (let r : Server × Told = if b then (one, Told.Here) else (one, Told.Missing (found_at one)) in r.0)
    by true = unmoved stands s one
    by false = unmoved stands s one

fetch_same : (stands : List ℕ) (s : Session) (short : Bool) (v : ℕ) (layers : List ℕ) (one : Server) → SameThere stands s one (at_server short (ServerStep.Fetch v layers) one).0
fetch_same stands s true v layers one = unmoved stands s one
fetch_same stands s false v layers one = by (gives v one)
  where
    by : (b : Bool) → SameThere stands s one (let r : Server × Told = if b then (record one { taken = raised_by (length layers) one.taken }, Told.Given (length layers)) else (one, Told.Missing (found_at one)) in r.0)
    by true = record { away = refl; epoch = refl; held = λ number live. refl }
    by false = unmoved stands s one

step_same : (stands : List ℕ) (s : Session) (short : Bool) (step : ServerStep) (one : Server) → IsUnseenThere stands s step → SameThere stands s one (at_server short step one).0
step_same stands s short (ServerStep.Prepare v) one unseen = prepare_same stands s short v one unseen
step_same stands s true (ServerStep.Discard v) one unseen = discard_same stands s v one unseen
step_same stands s false (ServerStep.Discard v) one unseen = discard_same stands s v one unseen
step_same stands s true (ServerStep.Settle v) one unseen = unmoved stands s one
step_same stands s false (ServerStep.Settle v) one unseen = unmoved stands s one
step_same stands s true (ServerStep.Has v) one unseen = has_same stands s v one
step_same stands s false (ServerStep.Has v) one unseen = has_same stands s v one
step_same stands s short (ServerStep.Fetch v layers) one unseen = fetch_same stands s short v layers one
step_same stands s short (ServerStep.Install v) one unseen = absurd unseen
step_same stands s short ServerStep.Wipe one unseen = absurd unseen
step_same stands s short ServerStep.Down one unseen = absurd unseen
step_same stands s short ServerStep.Up one unseen = absurd unseen

-- ---- the laws
module _ (g : Shape) (max : ℕ) (stands : List ℕ) (p : Places) (s : Session) (h : IsSeenAs g max stands p s) where
  -- after one server changed so
  server_seen : (server : ℕ) (one to : Server) → slice_get p.servers server ≡ Some one → SameThere stands s one to → IsSeenAs g max stands (record p { servers = change_at server (λ _. to) p.servers }) s
  server_seen server one to there same = record {
    shape = h.shape;
    most = h.most;
    sound = h.sound;
    servers = changed_length server (λ _. to) p.servers ∙ h.servers;
    present = all_changed (λ (x : Server). x.away ≡ false) server (λ _. to) p.servers h.present (λ x e away. same.away ∙ ap (λ (y : Server). y.away) (same_Some one x (sym there ∙ e)) ∙ away);
    epochs = map_kept (λ (x : Server). x.epoch) server (λ _. to) p.servers (λ x e. same.epoch ∙ ap (λ (y : Server). y.epoch) (same_Some one x (sym there ∙ e))) ∙ h.epochs;
    lengths = h.lengths;
    versions = h.versions;
    count = h.count;
    apart = h.apart;
    timely = h.timely;
    names = h.names;
    stripes = λ number live.
        let was : StandsFor p (get_or s.stripes number []) (version_of stands number) = h.stripes number live in
        record {
          placed = was.placed;
          held =
              map_kept (λ (x : Server). is_among (version_of stands number) x.held) server (λ _. to) p.servers
              (λ x e. same.held number live ∙ ap (λ (y : Server). is_among (version_of stands number) y.held) (same_Some one x (sym there ∙ e)))
              ∙ was.held;
        };
  }

  by_server : (short : Bool) (server : ℕ) (step : ServerStep) → IsUnseenThere stands s step → (found : Option Server) → slice_get p.servers server ≡ found →
      IsSeenAs g max stands (at_server_there short server step p found).0 s
  by_server short server step unseen None e = h
  by_server short server step unseen (Some one) e = server_seen server one (at_server short step one).0 e (step_same stands s short step one unseen)

  version_there : 0 < chunk_count g → (stripe : Stripe) (v : ℕ) → StandsFor p stripe v → v < length p.directory.versions
  version_there some stripe v stand = by (nat_lt v (length p.directory.versions)) refl
    where
      none : nat_lt v (length p.directory.versions) ≡ false → ⊥
      none f =
          let a : length (map (λ (one : Server). is_among v one.held) p.servers) ≡ length (map (λ (chunk : Chunk). chunk.held) stripe) = ap length stand.held in
          let b : length (map (λ (one : Server). is_among v one.held) p.servers) ≡ length p.servers = length-map p.servers (λ (one : Server). is_among v one.held) in
          let c : length (map (λ (chunk : Chunk). chunk.held) stripe) ≡ length stripe = length-map stripe (λ (chunk : Chunk). chunk.held) in
          let e : length p.servers ≡ chunk_count g = h.servers in
          let i : length (placed_of (slice_get p.directory.versions v)) ≡ length (map (λ (chunk : Chunk). placement.At chunk.placed) stripe) = ap length stand.placed in
          let j : length (map (λ (chunk : Chunk). placement.At chunk.placed) stripe) ≡ length stripe = length-map stripe (λ (chunk : Chunk). placement.At chunk.placed) in
          let k : length (placed_of (slice_get p.directory.versions v)) ≡ 0 = ap (λ f. length (placed_of f)) (slice_get_past p.directory.versions v (ltb-false v (length p.directory.versions) f)) in
          omega (arith, a, b, c, e, i, j, k, some)

      by : (b : Bool) → nat_lt v (length p.directory.versions) ≡ b → v < length p.directory.versions
      by true t = ltb-true v (length p.directory.versions) t
      by false f = absurd (none f)

  directory_seen : 0 < chunk_count g → (e : Directory) → Beside p.directory e → IsSound e → IsSeenAs g max stands (record p { directory = e }) s
  directory_seen some e beside sound = record {
    shape = beside.shape ∙ h.shape;
    most = beside.most ∙ h.most;
    sound = sound;
    servers = h.servers;
    present = h.present;
    epochs = h.epochs;
    lengths = ap (map (λ (object : Object). let pair : List ℕ × ℕ = (object.name, object.length) in pair)) beside.objects ∙ h.lengths;
    versions = ap (map (λ (object : Object). let pair : List ℕ × List ℕ = (object.name, object.versions) in pair)) beside.objects ∙ h.versions;
    count = h.count;
    apart = h.apart;
    timely = h.timely;
    names = h.names;
    stripes = λ number live.
        let was : StandsFor p (get_or s.stripes number []) (version_of stands number) = h.stripes number live in
        record { placed = beside.placed (version_of stands number) (version_there some (get_or s.stripes number []) (version_of stands number) was) ∙ was.placed; held = was.held };
  }

factor : (a b : ℕ) → 0 < a * b → 0 < a
factor zero b h = let none : 0 * b ≡ 0 = omega arith in absurd (omega (arith, none, h))
factor (suc a) b h = omega arith

pub steps_are_unseen : StepsAreUnseen
steps_are_unseen = record {
  at_directory = λ g max stands p s short who number step some h may ok.
      let data_some : 0 < g.data_count = factor g.data_count _ some in
      directory_seen g max stands p s h (omega (arith, data_some)) (at_directory short who number step p.directory).0 (made short who number p.directory step ok)
      (steps_keep_sound.step short who number step p.directory (subst (λ g. 0 < stripe_length g) (sym h.shape) some) h.sound may);
  at_server = λ g max stands p s short who number server step h unseen. by_server g max stands p s h short server step unseen (slice_get p.servers server) refl;
  drawn = λ g max stands p s version some h late. λ number live same.
      let data_some : 0 < g.data_count = factor g.data_count _ some in
      let there : version_of stands number < length p.directory.versions =
      version_there g max stands p s h (omega (arith, data_some)) (get_or s.stripes number []) (version_of stands number) (h.stripes number live) in
      omega (arith, late, there, same);
}
