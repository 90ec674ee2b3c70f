use Rattle.std.proofs.Common.{◌≡◌, ◌<◌, ◌*◌, true, false, not, ◌&&◌, true≢false, Result, Ok, IsErr, is_err, length, All, None, Some, is_some, ap, ◌∙◌, sym, subst}
use Rattle.std.proofs.lemmas.Bool.{both_ways}
use Rattle.std.specs.Option.{option_map}
use Rattle.clay_grid.specs.Shape.{layer_count}
use Rattle.store_core.specs.Server.{raised_by}
use Rattle.version_seal.specs.Sealed.{part_of}
use Rattle.chunk_server.specs.State.{Held, ServerState, is_held, chunk_of}
use Rattle.chunk_server.specs.Valid.{IsOwn, IsGiven}
use Rattle.chunk_server.specs.Steps.{chunk_given, taken_from}
use Rattle.chunk_server.specs.Core.{core_of, told_given}
use Rattle.chunk_server.specs.Chunks.{chunk_in, chunks_in, state_in}
use Rattle.chunk_server.specs.declared.server_answers.Fetched.TheVariants.{Part, Missing}
use Rattle.chunk_server.proofs.FoundChunks.{All-chunk_of}
use Rattle.chunk_server.proofs.Entries.{is_held-lookup, chunk_of-lookup}
use Rattle.chunk_server.proofs.CoreSteps.{core-fetch}
use Rattle.chunk_server.proofs.server.Server.fetch.Goals as goal
use Rattle.chunk_server.proofs.server.Server.fetch.Goals.{In-Some}

pub returns-in_default-clause-ok : goal.returns-in_default-clause-ok
returns-in_default-clause-ok c =
    let s : ServerState = c.args.self.now in
    let none : chunk_of c.args.version.0 s.held ≡ None =
    sym (ap (λ r. chunk_of c.args.version.0 r.held) c.self.view_is)
    ∙ chunk_of-lookup c.args.version c.self.inside.held.entries
    ∙ ap (option_map (λ held. chunk_in (c.args.version, held))) (sym c.in_default.ensures.value)
    in
    let present : s.away ≡ false = sym (ap (λ r. r.away) c.self.view_is) ∙ c.if-self.false in
    let nothing : chunk_given s.away c.args.version.0 s.held ≡ None = ap (λ a. chunk_given a c.args.version.0 s.held) present ∙ none in
    (λ i. (s, Missing (c.found-in_default.ensures i))) ∙ sym (ap (taken_from c.args.layers.now s) nothing)

pub returns-in_default-clause-core : goal.returns-in_default-clause-core
returns-in_default-clause-core c =
    ap (λ r. (core_of r.0, told_given (length c.args.layers.now) r.1)) (returns-in_default-clause-ok c)
    ∙ core-fetch c.args.self.now c.args.version.0 c.args.layers.now

-- the chunk that the map gave is the version's
found : (c : In-Some) → chunk_of c.args.version.0 (chunks_in c.self.inside.held.entries) ≡ Some (chunk_in (c.args.version, c.in-Some.held.now))
found c =
    chunk_of-lookup c.args.version c.self.inside.held.entries
    ∙ ap (option_map (λ held. chunk_in (c.args.version, held))) (sym c.in-Some.ensures.value)

-- it is the server's own
own : (c : In-Some) → IsOwn c.self.inside.opening.home c.self.inside.number c.self.inside.opening.geometry (chunk_in (c.args.version, c.in-Some.held.now))
own c = All-chunk_of (IsOwn c.self.inside.opening.home c.self.inside.number c.self.inside.opening.geometry) c.args.version.0 (chunks_in c.self.inside.held.entries) _ c.self.invariant.own (found c)

-- its version is held
held : (c : In-Some) → is_held c.args.version.0 c.args.self.now.held ≡ true
held c =
    sym (ap (λ r. is_held c.args.version.0 r.held) c.self.view_is) ∙ sym (is_held-lookup c.args.version c.self.inside.held.entries)
    ∙ ap is_some (sym c.in-Some.ensures.value)

pub part-requires : goal.part-requires
part-requires c =
    let geometry = (own (goal.at.part-requires c).In-Some).here.same_code ∙ ap (λ s. s.book.geometry) c.self.view_is in
    subst (λ g. All (λ layer. layer < layer_count g) c.args.layers.now) (sym geometry) c.requires

-- so is it given, since the server is present
gives : (c : In-Some) → (not c.args.self.now.away && is_held c.args.version.0 c.args.self.now.held) ≡ true
gives c = ap (λ a. not a && is_held c.args.version.0 c.args.self.now.held) (sym (ap (λ r. r.away) c.self.view_is) ∙ c.if-self.false) ∙ held c

-- an error is no answer
err_is_not_ok : {T E : Type 0} (r : Result T E) (x : T) → IsErr r → r ≡ Ok x → ⊥
err_is_not_ok r x err e = true≢false (sym err ∙ ap is_err e)

pub returns-in_default-clause-missing : goal.returns-in_default-clause-missing
returns-in_default-clause-missing c =
    let absent : is_held c.args.version.0 c.args.self.now.held ≡ false =
    sym (ap (λ r. is_held c.args.version.0 r.held) c.self.view_is) ∙ sym (is_held-lookup c.args.version c.self.inside.held.entries)
    ∙ ap is_some (sym c.in_default.ensures.value)
    in
    let present : c.args.self.now.away ≡ false = sym (ap (λ r. r.away) c.self.view_is) ∙ c.if-self.false in
    (λ _. ap (λ a. not a && is_held c.args.version.0 c.args.self.now.held) present ∙ absent, λ _. ap (λ f. Ok (Missing f)) c.found-in_default.ensures)

pub returns-in_err-part-clause-missing : goal.returns-in_err-part-clause-missing
returns-in_err-part-clause-missing c = (
  λ e. absurd (err_is_not_ok c.from_residual.result _ c.from_residual.ensures.0 e),
  λ absent. absurd (both_ways _ absent (gives (goal.at.returns-in_err-part-clause-missing c).In-Some)),
)

pub returns-clause-missing : goal.returns-clause-missing
returns-clause-missing c = (λ e. cc, λ absent. absurd (both_ways _ absent (gives (goal.at.returns-clause-missing c).In-Some)))

pub returns-clause-ok : goal.returns-clause-ok
returns-clause-ok c =
    let layers = c.args.layers.now in
    let chunk : Held = chunk_in (c.args.version, c.in-Some.held.now) in
    let some : chunk_of c.args.version.0 c.args.self.now.held ≡ Some chunk =
    sym (ap (λ r. chunk_of c.args.version.0 r.held) c.self.view_is) ∙ found (goal.at.returns-clause-ok c).In-Some
    in
    let present : c.args.self.now.away ≡ false = sym (ap (λ r. r.away) c.self.view_is) ∙ c.if-self.false in
    let given_chunk : chunk_given c.args.self.now.away c.args.version.0 c.args.self.now.held ≡ Some chunk =
    ap (λ a. chunk_given a c.args.version.0 c.args.self.now.held) present ∙ some
    in
    let taken : c.saturating_add-self-inside.result ≡ raised_by (length layers) c.self.inside.taken = c.saturating_add-self-inside.ensures in
    (λ i. (record (state_in c.self.inside) { taken = taken i }, Part (c.in_ok-part.ensures.value i)))
    ∙ ap (λ s. taken_from layers s (Some chunk)) c.self.view_is
    ∙ sym (ap (taken_from layers c.args.self.now) given_chunk)

pub returns-clause-part : goal.returns-clause-part
returns-clause-part c =
    let mine = own (goal.at.returns-clause-part c).In-Some in
    let layers = c.args.layers.now in
    let long : length c.in_ok-part.part.bytes ≡ length layers * c.self.inside.opening.geometry.width =
    c.in_ok-part.ensures.length ∙ ap (λ g. length layers * g.width) mine.here.same_code
    in
    let is : c.in_ok-part.part ≡ part_of c.in-Some.held.now.chunk layers = c.in_ok-part.ensures.value in
    let given : IsGiven (state_in c.self.inside) c.args.version.0 layers c.in_ok-part.part =
    record {
      of_version = ap (λ part. part.stamp.version) is ∙ mine.version;
      of_home = ap (λ part. part.stamp.home) is ∙ mine.here.same_home;
      of_server = ap (λ part. part.server) is ∙ mine.here.same_server;
      of_code = ap (λ part. part.geometry) is ∙ mine.here.same_code;
      of_layers = ap (λ part. part.layers) is;
      of_length = long;
    }
    in
    subst (λ s. IsGiven s c.args.version.0 layers c.in_ok-part.part) c.self.view_is given

pub returns-clause-core : goal.returns-clause-core
returns-clause-core c =
    ap (λ r. (core_of r.0, told_given (length c.args.layers.now) r.1)) (returns-clause-ok c)
    ∙ core-fetch c.args.self.now c.args.version.0 c.args.layers.now
