-- What a writing does next at a server, and what it is told there.
use Rattle.std.proofs.Common.{◌≡◌, ℕ, ◌<◌, Bool, true, false, cond, List, length, get_or, Option, Some, vec_capacity, refl, ap, subst, sym, ◌∙◌, true≢false}
use Rattle.std.proofs.lemmas.List.{length-map}
use Rattle.std.proofs.lemmas.Option.{same_Some}
use Rattle.store_map.specs.declared.actor.Version.{Version}
use Rattle.store_map.specs.declared.placement.Placement.{Placement}
use Rattle.store_map.specs.declared.placement.Placement.TheVariants as placement
use Rattle.store_core.specs.Told.{Told}
use Rattle.store_core.specs.Act.{ServerStep}
use Rattle.store_core.specs.Server.{Server, hold, at_server}
use Rattle.run_laws.specs.State.{State}
use Rattle.call_steps.specs.declared.act.ServerAct.{ServerAct}
use Rattle.call_steps.specs.declared.act.ServerAct.TheVariants as here
use Rattle.version_seal.specs.Entry.{StampOf}
use Rattle.write_course.specs.States.{state_by}
use Rattle.write_course.specs.Writings.{WritingOf, versions_of, is_preparing, is_settling, server_of, question_of}
use Rattle.write_course.specs.WritingSteps.{told_at}
use Rattle.write_course.specs.Inside.{prepared_in, settled_in, writing_in, IsPreparing, IsSettling, Keeps, IsWriting}
use Rattle.write_course.specs.declared.writing_stage.WritingStage.{WritingStage}
use Rattle.write_course.specs.declared.writing_stage.WritingStage.TheVariants as doing
use Rattle.write_course.specs.declared.writing.Writing.TheInside.{Inside}
use Rattle.write_course.proofs.Kept.{version_read}

-- how a server takes a chunk is the same of each version
prepared_alike : (short : Bool) (s : Server) (version other : ℕ) → (at_server short (ServerStep.Prepare version) s).1 ≡ (at_server short (ServerStep.Prepare other) s).1
prepared_alike true s version other = refl
prepared_alike false s version other = by s.away
  where
    by : (away : Bool)
        → (cond {A = Server × Told} away (s, Told.Prepared (placement.Skipped s.downs)) (record s { held = hold version s.held }, Told.Prepared (placement.At s.epoch))).1
        ≡ (cond {A = Server × Told} away (s, Told.Prepared (placement.Skipped s.downs)) (record s { held = hold other s.held }, Told.Prepared (placement.At s.epoch))).1
    by true = refl
    by false = refl

pub prepare_tells : (at : State) (short : Bool) (before after : Server) (version : ℕ) (told : Told) → is_preparing at ≡ true
    → (after, told) ≡ at_server short (ServerStep.Prepare version) before → told ≡ told_at short before at
prepare_tells (State.Preparing stripe other server servers row later placed versions) short before after version told preparing step =
    ap (λ (made : Server × Told). made.1) step ∙ prepared_alike short before version other
prepare_tells at short before after version told preparing step = absurd (true≢false (sym preparing))

pub settle_tells : (at : State) (before : Server) → is_settling at ≡ true → Told.Settled ≡ told_at false before at
settle_tells (State.Settling point place places) before settling = refl
settle_tells at before settling = absurd (true≢false (sym settling))

-- what it does there, by its fields
abbrev prepares : ℕ → ℕ → Option (ℕ × ServerAct)
prepares server n = Some (server, here.Prepare (record { 0 = n }))

asks_to_prepare : (at : State) (server stripe n asked : ℕ) (servers : List ℕ) (row : List Placement) (later : List ℕ) (placed : List (List Placement)) (versions : List ℕ)
    (version : Version) → at ≡ State.Preparing stripe n asked servers row later placed versions → Some server ≡ server_of at → version.0 ≡ n
    → Some (server, here.Prepare version) ≡ question_of at
asks_to_prepare at server stripe n asked servers row later placed versions version is asks reads =
    let same : server ≡ asked = same_Some server asked (asks ∙ ap server_of is) in
    (λ i. prepares (same i) (reads i)) ∙ ap question_of (sym is)

abbrev settles : ℕ → ℕ → Option (ℕ × ServerAct)
settles server n = Some (server, here.Settle (record { 0 = n }))

asks_to_settle : (at : State) (point server n : ℕ) (places : List (ℕ × ℕ)) (version : Version) → at ≡ State.Settling point (server, n) places → version.0 ≡ n
    → Some (server, here.Settle version) ≡ question_of at
asks_to_settle at point server n places version is reads = ap (settles server) reads ∙ ap question_of (sym is)

module _ (a : Inside) (kept : IsWriting a) (old : WritingOf) (view : writing_in a ≡ old) where
  state_is : (d : WritingStage) → a.doing ≡ d → old.state ≡ state_by d a.opening.geometry a.first (versions_of a.stamps.items) (prepared_in a) (settled_in a)
  state_is d is =
      sym (ap (λ (w : WritingOf). w.state) view) ∙ ap (λ d. state_by d a.opening.geometry a.first (versions_of a.stamps.items) (prepared_in a) (settled_in a)) is

  keeps : (d : WritingStage) → a.doing ≡ d → Keeps d a.opening.geometry a.stamps.items (vec_capacity a.rows) (prepared_in a) (settled_in a)
  keeps d is = subst (λ d. Keeps d a.opening.geometry a.stamps.items (vec_capacity a.rows) (prepared_in a) (settled_in a)) is kept.kept

  -- the version at work goes to its server
  pub asks_preparing : (server at : ℕ) (stamp : StampOf) (version : Version) → a.doing ≡ doing.Preparing → Some server ≡ server_of old.state
      → at ≡ length a.rows.items → stamp ≡ get_or a.stamps.items at stamp → version.0 ≡ stamp.version → Some (server, here.Prepare version) ≡ question_of old.state
  asks_preparing server at stamp version is asks place read its =
      let count : length (prepared_in a).rows ≡ length a.rows.items = length-map a.rows.items (λ row. row.items) in
      let same : at ≡ length (prepared_in a).rows = place ∙ sym count in
      let now : IsPreparing a.opening.geometry a.stamps.items (vec_capacity a.rows) (prepared_in a) = keeps doing.Preparing is in
      let more : at < length a.stamps.items = subst (λ n. n < length a.stamps.items) (sym same) now.more in
      asks_to_prepare old.state server _ _ _ _ _ _ _ _ version (state_is doing.Preparing is) asks
      (its ∙ version_read a.stamps.items at stamp more read ∙ ap (λ n. get_or (versions_of a.stamps.items) n 0) same)

  -- a version's chunk is settled
  pub asks_settling : (stamp : StampOf) (version : Version) → a.doing ≡ doing.Settling → stamp ≡ get_or a.stamps.items a.at stamp → version.0 ≡ stamp.version
      → Some (a.server, here.Settle version) ≡ question_of old.state
  asks_settling stamp version is read its =
      let now : IsSettling a.opening.geometry a.stamps.items (settled_in a) = keeps doing.Settling is in
      asks_to_settle old.state _ _ _ _ version (state_is doing.Settling is) (its ∙ version_read a.stamps.items a.at stamp now.more read)
