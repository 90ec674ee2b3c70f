-- A step of a gathering by the kind of its question, and that a part has a data chunk to ask for.
use Rattle.std.proofs.Common.{◌≡◌, ℕ, ◌+◌, ◌*◌, ◌/◌, ◌%◌, ◌<◌, ◌≤◌, min, max, nat_lt, Bool, true, false, List, [], ◌∷◌, length, Some, is_some, refl, sym, ap, ◌∙◌, arith}
use Rattle.std.specs.List.{range_with_len}
use Rattle.std.proofs.lemmas.Bool.{true≢false, lt-ltb}
use Rattle.std.proofs.lemmas.Nat.{div-add-mod', mod_below, div_below, mul-le}
use Rattle.clay_grid.specs.Shape.{Shape, layer_count, chunk_length, stripe_length}
use Rattle.clay_grid.specs.Limits.{IsGeometry}
use Rattle.store_core.specs.Lists.{is_among}
use Rattle.store_core.specs.Told.{Told}
use Rattle.store_core.specs.Act.{ServerStep}
use Rattle.store_core.specs.Server.{Server, at_server}
use Rattle.store_core.specs.GatheringParts.{chunks_in_range}
use Rattle.run_laws.specs.Stage.{Asking, Stage, seen_of}
use Rattle.run_laws.specs.Stages.{fetch_stage}
use Rattle.store_core.specs.Gathering.{Part}
use Rattle.gathering.specs.Courses.{IsAskingStage, server_at, server_of, is_look, layers_at, layers_asked}
use Rattle.gathering.specs.Gathers.{GatherOf, heard, taking, stepped_at, stepped}
use Rattle.gathering.proofs.Among.{kept_in, in_range}

-- the gathering after an answer, beside what has answered it and what was taken
abbrev pub answered : GatherOf → List ℕ → Server × Told → Server × GatherOf × List ℕ
answered w takes after = (after.0, heard w after.1, taking after.1 (server_of w.course) takes)

look_by : (w : GatherOf) (short : Bool) (s : Server) (takes : List ℕ) (stage : Stage) → is_look stage ≡ true
    → answered w takes (at_server short (ServerStep.Has (seen_of w.course.aim).version) s) ≡ stepped_at w short s takes stage
look_by w short s takes (Stage.Asks (Asking.Look server more missing)) h = refl
look_by w short s takes (Stage.Asks (Asking.Target server)) h = refl
look_by w short s takes (Stage.Asks (Asking.Fetch server more missing)) h = absurd (true≢false (sym h))
look_by w short s takes (Stage.Asks (Asking.Repair server more lost)) h = absurd (true≢false (sym h))
look_by w short s takes (Stage.Asks (Asking.Whole server more wanted missing)) h = absurd (true≢false (sym h))
look_by w short s takes stage h = absurd (true≢false (sym h))

-- a step that asks whether the server has its chunk
pub look_stepped : (w : GatherOf) (short : Bool) (s : Server) (takes : List ℕ) (version : ℕ) (after : Server × Told) → is_look w.course.stage ≡ true
    → version ≡ (seen_of w.course.aim).version → after ≡ at_server short (ServerStep.Has version) s → answered w takes after ≡ stepped w short s takes
look_stepped w short s takes version after look v e =
    ap (answered w takes) e
    ∙ ap (λ n. answered w takes (at_server short (ServerStep.Has n) s)) v
    ∙ look_by w short s takes w.course.stage look

fetch_by : (w : GatherOf) (short : Bool) (s : Server) (takes : List ℕ) (stage : Stage) → IsAskingStage stage → is_look stage ≡ false
    → answered w takes (at_server short (ServerStep.Fetch (seen_of w.course.aim).version (layers_at w.course.geometry w.course.aim stage)) s) ≡ stepped_at w short s takes stage
fetch_by w short s takes (Stage.Asks (Asking.Look server more missing)) asks h = absurd (true≢false h)
fetch_by w short s takes (Stage.Asks (Asking.Target server)) asks h = absurd (true≢false h)
fetch_by w short s takes (Stage.Asks (Asking.Fetch server more missing)) asks h = refl
fetch_by w short s takes (Stage.Asks (Asking.Repair server more lost)) asks h = refl
fetch_by w short s takes (Stage.Asks (Asking.Whole server more wanted missing)) asks h = refl
fetch_by w short s takes stage asks h = absurd asks

-- a step that asks for layers of it
pub fetch_stepped : (w : GatherOf) (short : Bool) (s : Server) (takes : List ℕ) (version : ℕ) (layers : List ℕ) (after : Server × Told) → IsAskingStage w.course.stage
    → is_look w.course.stage ≡ false → version ≡ (seen_of w.course.aim).version → layers ≡ layers_asked w.course
    → after ≡ at_server short (ServerStep.Fetch version layers) s → answered w takes after ≡ stepped w short s takes
fetch_stepped w short s takes version layers after asks look v l e =
    ap (answered w takes) e
    ∙ (λ i. answered w takes (at_server short (ServerStep.Fetch (v i) (l i)) s))
    ∙ fetch_by w short s takes w.course.stage asks look

-- where the server isn't asked for want of memory, nothing changes
pub short_stepped : (w : GatherOf) (s : Server) (takes : List ℕ) → IsAskingStage w.course.stage → is_look w.course.stage ≡ false
    → answered w takes (s, Told.Short) ≡ stepped w true s takes
short_stepped w s takes asks look = fetch_by w true s takes w.course.stage asks look

-- a server that is asked
pub asks : (w : GatherOf) (server : ℕ) → server_of w.course ≡ Some server → IsAskingStage w.course.stage
asks w server e = by w.course.stage e
  where
    by : (stage : Stage) → server_at w.course.geometry w.course.aim stage ≡ Some server → IsAskingStage stage
    by (Stage.Asks asking) e = tt
    by stage e = absurd (true≢false (sym (ap is_some e)))

-- some data chunk has bytes of a part that isn't empty
not_empty : (servers : List ℕ) (server : ℕ) → is_among server servers ≡ true → 0 < length servers
not_empty [] server h = absurd (true≢false (sym h))
not_empty (other ∷ servers) server h = omega arith

-- a chunk has bytes
pub some_bytes : (g : Shape) → IsGeometry g → 0 < chunk_length g
some_bytes g is =
    let layers : 1 ≤ layer_count g = omega (arith, is.some_layers, is.limits.parity_chunks.0) in
    let product : 1 * 1 ≤ layer_count g * g.width = mul-le 1 1 (layer_count g) g.width layers is.limits.width.0 in
    omega (arith, product)

meets : (start end long c r : ℕ) → start < end → r < long → c * long + r ≡ start → max start (c * long) < min end ((c + 1) * long)
meets start end long c r some low is = omega (arith, some, low, is)

pub some_chunk : (g : Shape) (start end : ℕ) → 0 < chunk_length g → start < end → end ≤ stripe_length g → 0 < length (chunks_in_range g start end)
some_chunk g start end long some within =
    let c : ℕ = start / chunk_length g in
    let inside : c < g.data_count = div_below start (chunk_length g) g.data_count long (omega (arith, some, within)) in
    not_empty (chunks_in_range g start end) c
    (kept_in (λ chunk. nat_lt (max start (chunk * chunk_length g)) (min end ((chunk + 1) * chunk_length g))) c
    (lt-ltb (max start (c * chunk_length g)) (min end ((c + 1) * chunk_length g))
    (meets start end (chunk_length g) c (start % chunk_length g) some (mod_below start (chunk_length g) long) (div-add-mod' start (chunk_length g))))
    (range_with_len 0 g.data_count) (in_range c 0 g.data_count (omega arith) (omega (arith, inside))))

-- a part with bytes asks for them first
pub first_asks : (g : Shape) (part : Part) → 0 < length (chunks_in_range g part.start part.end) → IsAskingStage (fetch_stage g part (chunks_in_range g part.start part.end) [])
first_asks g part some = by (chunks_in_range g part.start part.end) some
  where
    by : (servers : List ℕ) → 0 < length servers → IsAskingStage (fetch_stage g part servers [])
    by [] h = absurd (omega (arith, h))
    by (server ∷ servers) h = tt
