-- From a position to the one after the server that was asked is found missing.
use Rattle.std.proofs.Common.{◌≡◌, ℕ, suc, ◌+◌, nat_lt, Bool, true, false, cond, List, [], ◌∷◌, ◌++◌, length, map, take, drop, get_or, refl, sym, ap, subst, ◌∙◌, arith}
use Rattle.std.proofs.lemmas.List.{map_push, length_push, take-append-le}
use Rattle.std.proofs.lemmas.Option.{same_Some}
use Rattle.clay_grid.specs.Shape.{Shape, chunk_count}
use Rattle.store_map.specs.declared.placement.Found.{Found}
use Rattle.store_map.specs.declared.placement.Found.TheVariants as why
use Rattle.store_core.specs.Told.{Seen, Lost}
use Rattle.store_core.specs.Gathering.{lost_at, servers_but}
use Rattle.run_laws.specs.Stage.{Aim, Stage, seen_of}
use Rattle.run_laws.specs.StageAfter.{with_lost}
use Rattle.run_laws.specs.Stages.{unless_many, whole_stage, recover_stage, look_stage, fetch_stage}
use Rattle.gathering.specs.CourseServers.{asked_from}
use Rattle.gathering.specs.Servers.{AreServers}
use Rattle.gathering.specs.declared.ending.Ending.TheVariants as ending
use Rattle.gathering.specs.declared.position.Position.{Position}
use Rattle.gathering.specs.declared.position.Position.TheVariants as position
use Rattle.gathering.specs.Positions.{stage_of, first_lost}
use Rattle.gathering.specs.Reaching.{GoesToWhole, GoesToLook, GoesToFetch}
use Rattle.gathering.specs.Hearing.{HearsMissing, or_too_many}
use Rattle.gathering.proofs.Moves.{as_many, from_none, one_more, whole_list}
use Rattle.gathering.proofs.Heard.{begins}

-- the stage of a position, unless too many are missing
many_by : (g : Shape) (first gone : List ℕ) (missing : List Lost) (next : Position) (own all : Bool) → own ≡ all
    → stage_of g first gone missing (cond own (position.Ended ending.TooMany) next) ≡ cond all (Stage.TooMany missing) (stage_of g first gone missing next)
many_by g first gone missing next true all e = ap (λ (b : Bool). cond b (Stage.TooMany missing) (stage_of g first gone missing next)) e
many_by g first gone missing next false all e = ap (λ (b : Bool). cond b (Stage.TooMany missing) (stage_of g first gone missing next)) e

too_many : (g : Shape) (first gone : List ℕ) (missing : List Lost) (next : Position) → AreServers missing gone
    → stage_of g first gone missing (or_too_many g gone next) ≡ unless_many g missing (stage_of g first gone missing next)
too_many g first gone missing next servers =
    many_by g first gone missing next (nat_lt g.parity_count (length gone)) (nat_lt g.parity_count (length missing))
    (ap (λ (n : ℕ). nat_lt g.parity_count n) (sym (as_many gone missing servers)))

module _ (g : Shape) (first gone : List ℕ) (found : Found) where
  -- with one more missing server
  servers_then : (aim : Aim) (before : List ℕ) (server : ℕ) (missing : List Lost) → AreServers missing before → gone ≡ before ++ server ∷ []
      → AreServers (with_lost g aim missing server found) gone
  servers_then aim before server missing servers more =
      map_push (λ (lost : Lost). lost.server) missing (lost_at g (seen_of aim) server found) ∙ ap (λ (l : List ℕ). l ++ server ∷ []) servers ∙ sym more

  -- where the next position has this stage, unless too many are missing
  missed_to : (aim : Aim) (before : List ℕ) (server : ℕ) (missing : List Lost) → AreServers missing before → gone ≡ before ++ server ∷ []
      → (next result : Position) (otherwise : Stage) → result ≡ or_too_many g gone next → stage_of g first gone (with_lost g aim missing server found) next ≡ otherwise
      → stage_of g first gone (with_lost g aim missing server found) result ≡ unless_many g (with_lost g aim missing server found) otherwise
  missed_to aim before server missing servers more next result otherwise is goes =
      ap (λ (p : Position). stage_of g first gone (with_lost g aim missing server found) p) is
      ∙ too_many g first gone (with_lost g aim missing server found) next (servers_then aim before server missing servers more)
      ∙ ap (λ (stage : Stage). unless_many g (with_lost g aim missing server found) stage) goes

  -- of the position that it is
  misses_as : (p now result : Position) → p ≡ now → HearsMissing g first gone now found result → HearsMissing g first gone p found result
  misses_as p now result e heard = subst (λ (q : Position). HearsMissing g first gone q found result) (sym e) heard

  fetch_missed : (next result : Position) (at : ℕ) → result ≡ or_too_many g gone next → GoesToFetch g first (at + 1) gone next → HearsMissing g first gone (position.Fetch at) found result
  fetch_missed next result at is goes (Aim.Range part) before server missing k placed more asked =
      missed_to (Aim.Range part) before server missing k.servers more next result _ is
      (goes part (with_lost g (Aim.Range part) missing server found) (servers_then (Aim.Range part) before server missing k.servers more) k.is_first)
      ∙ ap (λ (s : ℕ). unless_many g (with_lost g (Aim.Range part) missing s found) (fetch_stage g part (drop (at + 1) first) (with_lost g (Aim.Range part) missing s found)))
      (sym (same_Some (get_or first at 0) server asked))
  fetch_missed next result at is goes (Aim.Chunk seen target) before server missing k placed more asked = absurd k.fits

  pub miss_fetch : (p next result : Position) (at : ℕ) → p ≡ position.Fetch at → result ≡ or_too_many g gone next → GoesToFetch g first (at + 1) gone next → HearsMissing g first gone p found result
  miss_fetch p next result at e is goes = misses_as p (position.Fetch at) result e (fetch_missed next result at is goes)

  look_missed : (next result : Position) (of : ℕ) → result ≡ or_too_many g gone next → GoesToLook g first gone (of + 1) next → HearsMissing g first gone (position.Look of) found result
  look_missed next result of is goes aim before server missing k placed more asked =
      missed_to aim before server missing k.servers more next result _ is
      (goes (seen_of aim) (with_lost g aim missing server found) (servers_then aim before server missing k.servers more))
      ∙ ap (λ (s : ℕ). unless_many g (with_lost g aim missing s found) (look_stage g (seen_of aim) (asked_from first (chunk_count g) (of + 1)) (with_lost g aim missing s found)))
      (sym (same_Some of server asked))

  pub miss_look : (p next result : Position) (of : ℕ) → p ≡ position.Look of → result ≡ or_too_many g gone next → GoesToLook g first gone (of + 1) next → HearsMissing g first gone p found result
  miss_look p next result of e is goes = misses_as p (position.Look of) result e (look_missed next result of is goes)

  one_lost : (missing : List Lost) → length missing ≡ 1 → missing ≡ first_lost missing ∷ []
  one_lost [] n = absurd (omega (arith, n))
  one_lost (lost ∷ []) n = refl
  one_lost (lost ∷ other ∷ more) n = absurd (omega (arith, n))

  recovers : (seen : Seen) (missing : List Lost) (next : Position) → GoesToWhole g gone 0 g.data_count next → AreServers missing gone → stage_of g first gone missing next ≡ recover_stage g seen missing
  recovers seen missing next goes servers =
      goes first gone missing (whole_list gone)
      ∙ sym (ap (λ (l : List ℕ). whole_stage g (asked_from l (chunk_count g) 0) g.data_count missing) servers)
      ∙ sym (ap (λ (l : List ℕ). whole_stage g l g.data_count missing) (from_none g seen (map (λ (lost : Lost). lost.server) missing)))

  repair_missed : (next result : Position) (of : ℕ) → result ≡ or_too_many g gone next → GoesToWhole g gone 0 g.data_count next → HearsMissing g first gone (position.Repair of) found result
  repair_missed next result of is goes aim before server missing k placed more asked =
      missed_to aim before server missing k.servers more next result _ is
      (recovers (seen_of aim) (with_lost g aim missing server found) next goes (servers_then aim before server missing k.servers more))
      ∙ ap (λ (s : ℕ). unless_many g (with_lost g aim missing s found) (recover_stage g (seen_of aim) (with_lost g aim missing s found))) (sym (same_Some of server asked))
      ∙ ap (λ (l : List Lost). unless_many g (with_lost g aim l of found) (recover_stage g (seen_of aim) (with_lost g aim l of found)))
      (one_lost missing (as_many before missing k.servers ∙ placed.1))

  pub miss_repair : (p next result : Position) (of wanted : ℕ) → p ≡ position.Repair of → result ≡ or_too_many g gone next → wanted ≡ g.data_count → GoesToWhole g gone 0 wanted next
      → HearsMissing g first gone p found result
  miss_repair p next result of wanted e is w goes =
      misses_as p (position.Repair of) result e (repair_missed next result of is (subst (λ (n : ℕ). GoesToWhole g gone 0 n next) w goes))

  whole_missed : (next result : Position) (of wanted counted : ℕ) → result ≡ or_too_many g gone next → GoesToWhole g (take counted gone) (of + 1) (wanted + 1) next
      → HearsMissing g first gone (position.Whole of wanted counted) found result
  whole_missed next result of wanted counted is goes aim before server missing k placed more asked =
      let many : length gone ≡ length before + 1 = ap length more ∙ length_push before server in
      let same : take counted gone ≡ take counted before = ap (λ (l : List ℕ). take counted l) more ∙ take-append-le counted before (server ∷ []) placed.1 in
      missed_to aim before server missing k.servers more next result _ is
      (goes first gone (with_lost g aim missing server found) (begins gone counted (omega (arith, placed.1, many)))
      ∙ ap (λ (l : List ℕ). whole_stage g (asked_from l (chunk_count g) (of + 1)) (wanted + 1) (with_lost g aim missing server found)) same
      ∙ ap (λ (n : ℕ). whole_stage g (asked_from (take counted before) (chunk_count g) (of + 1)) n (with_lost g aim missing server found)) (one_more wanted))
      ∙ ap (λ (s : ℕ). unless_many g (with_lost g aim missing s found) (whole_stage g (asked_from (take counted before) (chunk_count g) (of + 1)) (suc wanted) (with_lost g aim missing s found)))
      (sym (same_Some of server asked))

  pub miss_whole : (p next result : Position) (of wanted counted : ℕ) (taken : List ℕ) → p ≡ position.Whole of wanted counted → result ≡ or_too_many g gone next → taken ≡ take counted gone
      → GoesToWhole g taken (of + 1) (wanted + 1) next → HearsMissing g first gone p found result
  miss_whole p next result of wanted counted taken e is same goes =
      misses_as p (position.Whole of wanted counted) result e
      (whole_missed next result of wanted counted is (subst (λ (l : List ℕ). GoesToWhole g l (of + 1) (wanted + 1) next) same goes))

-- the target of a rebuild
none_lost : (missing : List Lost) → length missing ≡ 0 → missing ≡ []
none_lost [] n = refl
none_lost (lost ∷ missing) n = absurd (omega (arith, n))

module _ (g : Shape) (first gone : List ℕ) where
  -- it lacks its chunk
  target_missed : (result : Position) (of epoch : ℕ) → GoesToLook g first gone 0 result → HearsMissing g first gone (position.Target of) (why.Absent epoch) result
  target_missed result of epoch goes (Aim.Range part) before server missing k placed more asked = absurd k.fits
  target_missed result of epoch goes (Aim.Chunk seen target) before server missing k placed more asked =
      goes seen (with_lost g (Aim.Chunk seen target) missing server (why.Absent epoch)) (servers_then g first gone (why.Absent epoch) (Aim.Chunk seen target) before server missing k.servers more)
      ∙ ap (λ (l : List ℕ). look_stage g seen (asked_from l (chunk_count g) 0) (with_lost g (Aim.Chunk seen target) missing server (why.Absent epoch)))
      (k.is_first ∙ ap (λ (s : ℕ). s ∷ []) (sym k.fits))
      ∙ sym (ap (λ (l : List ℕ). look_stage g seen l (with_lost g (Aim.Chunk seen target) missing server (why.Absent epoch))) (from_none g seen (of ∷ [])))
      ∙ ap (λ (l : List Lost). look_stage g seen (servers_but g seen (of ∷ [])) (with_lost g (Aim.Chunk seen target) l server (why.Absent epoch)))
      (none_lost missing (as_many before missing k.servers ∙ placed.1))
      ∙ ap (λ (s : ℕ). look_stage g seen (servers_but g seen (of ∷ [])) (with_lost g (Aim.Chunk seen target) [] s (why.Absent epoch))) (sym (same_Some of server asked))

  pub miss_absent : (p result : Position) (found : Found) (of epoch : ℕ) → p ≡ position.Target of → found ≡ why.Absent epoch → GoesToLook g first gone 0 result → HearsMissing g first gone p found result
  miss_absent p result found of epoch e is goes =
      misses_as g first gone found p (position.Target of) result e
      (subst (λ (f : Found). HearsMissing g first gone (position.Target of) f result) (sym is) (target_missed result of epoch goes))

  -- it is away
  pub miss_away : (p : Position) (found : Found) (of downs : ℕ) → p ≡ position.Target of → found ≡ why.Away downs
      → HearsMissing g first gone p found (position.Ended (ending.TargetAway downs))
  miss_away p found of downs e is =
      misses_as g first gone found p (position.Target of) (position.Ended (ending.TargetAway downs)) e
      (subst (λ (f : Found). HearsMissing g first gone (position.Target of) f (position.Ended (ending.TargetAway downs))) (sym is)
      (λ aim before server missing k placed more asked. refl))
