-- Two lists of steps and their texts.
use Rattle.std.specs.Prelude.{ℕ, List, [], ◌∷◌, ◌++◌, codes, true, false, None, Some}
use Rattle.store_map.specs.declared.actor.Actor.TheVariants as actor
use Rattle.store_map.specs.declared.placement.Placement.TheVariants.{At, Skipped}
use Rattle.store_map.specs.declared.placement.Found.TheVariants as found
use Rattle.call_steps.specs.declared.act.Act.TheVariants as act
use Rattle.call_steps.specs.declared.act.DirectoryAct.TheVariants as asked
use Rattle.call_steps.specs.declared.act.ServerAct.TheVariants as told
use Rattle.call_steps.specs.declared.answer.ReplyKind.TheVariants as reply
use Rattle.call_steps.specs.declared.answer.DirectoryAnswer.TheVariants as there
use Rattle.call_steps.specs.declared.answer.ServerAnswer.TheVariants as here
use Rattle.call_steps.specs.declared.step_made.StepAnswer.TheVariants as answer
use Rattle.call_steps.specs.declared.step_made.Step.{Step}

-- client 0 puts an object of one stripe on two servers, the second of which is away
abbrev pub a_put : List Step
a_put =
    record { who = actor.Client 0; number = 0; short = false; act = act.Directory asked.Look; answer = answer.Directory (there.Ready None 0) }
    ∷ record { who = actor.Client 0; number = 0; short = false; act = act.Directory asked.Draw; answer = answer.Directory there.Versions }
    ∷ record { who = actor.Client 0; number = 0; short = false; act = act.Server 0 (told.Prepare (record { 0 = 0 })); answer = answer.Server (here.Prepared (At 0)) }
    ∷ record { who = actor.Client 0; number = 0; short = false; act = act.Server 1 (told.Prepare (record { 0 = 0 })); answer = answer.Server (here.Prepared (Skipped 2)) }
    ∷ record { who = actor.Client 0; number = 0; short = false; act = act.Directory asked.Commit; answer = answer.Directory (there.Done (record { 0 = 0 })) }
    ∷ record { who = actor.Client 0; number = 0; short = false; act = act.Server 0 (told.Settle (record { 0 = 0 })); answer = answer.Server here.Settled }
    ∷ []

abbrev pub a_put_text : List ℕ
a_put_text =
    codes "S 0 c0.0 d look = ready - 0\n"
    ++ codes "S 1 c0.0 d draw = versions\n"
    ++ codes "S 2 c0.0 0 prepare 0 = prepared 0\n"
    ++ codes "S 3 c0.0 1 prepare 0 = prepared u2\n"
    ++ codes "S 4 c0.0 d commit = done 0\n"
    ++ codes "S 5 c0.0 0 settle 0 = settled\n"

-- all actors, and want of memory in a coding
abbrev pub a_race : List Step
a_race =
    record { who = actor.Client 10; number = 3; short = false; act = act.Directory asked.Look; answer = answer.Directory (there.Answered (record { 0 = 12 }) (reply.Length 80)) }
    ∷ record { who = actor.Repairer 1; number = 0; short = false; act = act.Server 12 (told.Fetch (record { 0 = 7 })); answer = answer.Server (here.Missing (found.Away 2)) }
    ∷ record { who = actor.Client 2; number = 1; short = true; act = act.Directory asked.End; answer = answer.Directory there.Ended }
    ∷ record { who = actor.Sweeper; number = 0; short = false; act = act.Directory asked.NextGarbage; answer = answer.Directory (there.Taken None) }
    ∷ record { who = actor.Operator; number = 0; short = false; act = act.Directory (asked.Reap (actor.Repairer 1)); answer = answer.Directory (there.GivenUp (Some (record { 0 = 13 }))) }
    ∷ record { who = actor.Operator; number = 0; short = false; act = act.Server 4 told.Wipe; answer = answer.Server here.Made }
    ∷ []

abbrev pub a_race_text : List ℕ
a_race_text =
    codes "S 0 c10.3 d look = answer 12 length 80\n"
    ++ codes "S 1 r1.0 12 fetch 7 = missing a2\n"
    ++ codes "S 2 c2.1! d end = ended\n"
    ++ codes "S 3 s d garbage = taken -\n"
    ++ codes "S 4 o d reap r1 = givenup 13\n"
    ++ codes "S 5 o 4 wipe = made\n"
