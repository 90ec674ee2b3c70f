-- What a caller's turn asks, and what it has then.
use Rattle.std.proofs.Common.{◌≡◌, ℕ, ◌+◌, ◌^◌, ◌<◌, Bool, true, List, length, get_or, slice_get, Option, Some, IfSome, refl, sym, ap, subst, ◌∙◌, arith}
use Rattle.std.proofs.lemmas.List.{length-map}
use Rattle.store_map.specs.declared.script.Script.{Script}
use Rattle.store_core.specs.NextAct.{job_of, rebuild_job}
use Rattle.store_core.specs.Work.{Ended, has_step}
use Rattle.version_seal.specs.Entry.{BookOf}
use Rattle.chunk_server.specs.State.{ServerState}
use Rattle.stripe_stamps.specs.Sealed.{Sealed}
use Rattle.world_laws.specs.World.{DoingOf, steps_of}
use Rattle.world_laws.specs.Known.{calling_by, calling_of}
use Rattle.world_laws.specs.Tokens.{KeepsToken}
use Rattle.world_laws.proofs.Few.{has_left}
use Rattle.actors.specs.Turns.{AreServers}
use Rattle.actors.specs.Callers.{PartOf, CallerOf, IsOfScript, IsPartOf, Knows, StandsIn, calls_of, who_of, work_of}
use Rattle.store_world.specs.Having.{caller_has}
use Rattle.store_world.specs.InList.{MayTurn, ReadyAt}
use Rattle.store_world.specs.Stored.{StoredWorld}
use Rattle.store_world.specs.Kept.{IsCallerAt, IsWorld}
use Rattle.store_world.proofs.Lists.{got}

-- what is told of a slice of callers holds of the callers
pub there_of : (callers slice : List CallerOf) → slice ≡ callers → (i : ℕ) (b : Bool) → (b ≡ true → i < length slice) → b ≡ true → i < length callers
there_of callers slice same i b there holds = subst (λ (xs : List CallerOf). i < length xs) same (there holds)

pub has_of : (callers slice : List CallerOf) → slice ≡ callers → (i : ℕ) (b : Bool)
    → ((script : Script) (c : CallerOf) → slice_get slice i ≡ Some c → c.book.geometry ≡ script.geometry → b ≡ caller_has script c)
    → (script : Script) (c : CallerOf) → slice_get callers i ≡ Some c → c.book.geometry ≡ script.geometry → b ≡ caller_has script c
has_of callers slice same i b has =
    subst (λ (xs : List CallerOf). (script : Script) (c : CallerOf) → slice_get xs i ≡ Some c → c.book.geometry ≡ script.geometry → b ≡ caller_has script c) same has

ended_of : (n : ℕ) (ended : List Ended) (doing : DoingOf) → (calling_by n ended doing).ended ≡ ended
ended_of n ended (DoingOf.Between token) = refl
ended_of n ended (DoingOf.InCall call steps) = refl

-- as many jobs as calls
jobs_are : (part : PartOf) → length (work_of part).jobs ≡ calls_of part
jobs_are (PartOf.OfClient part) = length-map part.calls job_of
jobs_are (PartOf.OfRepairer part) = length-map part.calls rebuild_job

module _ (s : StoredWorld) (is : IsWorld s) (i : ℕ) (c : CallerOf) (at : IsCallerAt s.script s.book s.directory i c) where
  next_by : has_step (work_of c.part) (calling_of s.script c.actor) ≡ true → length c.actor.ended < calls_of c.part
  next_by has =
      let left : length (calling_of s.script c.actor).ended < length (work_of c.part).jobs = has_left (work_of c.part) (calling_of s.script c.actor) has in
      let same : length (calling_of s.script c.actor).ended ≡ length c.actor.ended = ap length (ended_of _ c.actor.ended c.actor.doing) in
      let count : length (work_of c.part).jobs ≡ calls_of c.part = jobs_are c.part in
      omega (arith, left, same, count)

  pub may_turn : KeepsToken s.directory.core (who_of c.part i) c.actor → steps_of c.actor.doing + 1 < 2 ^ 64 → has_step (work_of c.part) (calling_of s.script c.actor) ≡ true
      → MayTurn s.directory s.book s.servers i c
  may_turn keeps few has =
      record {
        keeps = keeps;
        next = next_by has;
        steps = few;
        its = is.directory_book ∙ sym at.same_book;
        same_book = sym at.same_book;
        part =
            subst (λ (b : BookOf). IsPartOf b i c.part) (sym at.same_book)
            (subst (λ (o : Option Script). IfSome o (λ script. StandsIn script i c.part)) (sym is.written) at.its);
        held = subst (λ (b : BookOf). AreServers b s.servers) (sym at.same_book) is.servers;
        knows = at.knows;
      }

  pub of_script : IsOfScript s.script c
  of_script =
      record {
        book = ap (λ (b : BookOf). b.script) at.same_book ∙ is.written;
        code = ap (λ (b : BookOf). b.geometry) at.same_book ∙ is.code;
        tries = at.often;
      }

-- the caller that was looked up may make its turn
pub may_now : (d : Sealed) (book : BookOf) (servers : List ServerState) (callers slice : List CallerOf) → slice ≡ callers → (i : ℕ) (b : Bool) → (b ≡ true → i < length slice)
    → ((script : Script) (c : CallerOf) → slice_get slice i ≡ Some c → c.book.geometry ≡ script.geometry → b ≡ caller_has script c)
    → ((c : CallerOf) → slice_get callers i ≡ Some c → ReadyAt d book servers i c) → b ≡ true → (x : CallerOf) → x ≡ get_or callers i x
    → (slice_get callers i ≡ Some x) × MayTurn d book servers i x
may_now d book servers callers slice same i b less has ready holds x read =
    let there : slice_get callers i ≡ Some x = got callers i x (there_of callers slice same i b less holds) read in
    let at : ReadyAt d book servers i x = ready x there in
    (there, at.may (sym (has_of callers slice same i b has at.script x there at.code) ∙ holds))
