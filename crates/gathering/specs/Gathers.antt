-- A gathering as callers see it: plain data.
use Rattle.std.specs.Prelude.{◌≡◌, ℕ, Bool, true, false, List, Option, None, Some}
use Rattle.clay_grid.specs.Shape.{Shape}
use Rattle.store_core.specs.Lists.{change_at}
use Rattle.store_core.specs.Told.{Told}
use Rattle.store_core.specs.Server.{Server, raised_by, at_server}
use Rattle.run_laws.specs.Stage.{Aim, Stage}
use Rattle.run_laws.specs.StageAfter.{server_asked, step_asked}
use Rattle.version_seal.specs.Entry.{StampOf}
use Rattle.version_seal.specs.Sealed.{PartOf}
use Rattle.gathering.specs.Courses.{CourseOf, new_course, server_of, layers_asked, has_bytes, after_answer}
use Rattle.gathering.specs.Parts.{Shelf, IsPart}
use Rattle.gathering.specs.Made.{AreMade, Gives}
use Rattle.call_steps.specs.declared.need.Need.{Need}
use Rattle.call_steps.specs.declared.need.Need.TheVariants as need
use Rattle.call_steps.specs.declared.act.ServerAct.{ServerAct}
use Rattle.call_steps.specs.Acts.{server_act}

-- the stamp of the pinned version, and its course
pub record GatherOf : Type 0 where
  pub stamp : StampOf
  pub course : CourseOf

-- a gathering before its first step
abbrev pub new_gather : StampOf → Shape → Aim → GatherOf
new_gather stamp g aim = record { stamp = stamp; course = new_course g aim }

-- the gathering after an answer
abbrev pub heard : GatherOf → Told → GatherOf
heard w answer = record w { course = after_answer w.course answer }

-- what its call has taken after it
abbrev pub taking : Told → Option ℕ → List ℕ → List ℕ
taking (Told.Given layers) (Some server) takes = change_at server (raised_by layers) takes
taking answer server takes = takes

-- one step at the server that is asked, by the stage
abbrev pub stepped_at : GatherOf → Bool → Server → List ℕ → Stage → Server × GatherOf × List ℕ
stepped_at w short s takes (Stage.Asks asking) =
    let after : Server × Told = at_server short (step_asked w.course.geometry w.course.aim asking) s in
    (after.0, heard w after.1, taking after.1 (server_of w.course) takes)
stepped_at w short s takes stage = (s, w, takes)

-- the server, the gathering and what its call has taken after it, where memory was wanting or not
abbrev pub stepped : GatherOf → Bool → Server → List ℕ → Server × GatherOf × List ℕ
stepped w short s takes = stepped_at w short s takes w.course.stage

-- what it is told then
abbrev pub told_at : GatherOf → Bool → Server → Stage → Told
told_at w short s (Stage.Asks asking) = (at_server short (step_asked w.course.geometry w.course.aim asking) s).1
told_at w short s stage = Told.NotMade

abbrev pub told_by : GatherOf → Bool → Server → Told
told_by w short s = told_at w short s w.course.stage

-- the server that is asked, and what it is asked
abbrev pub question_at : Shape → Aim → Stage → Option (ℕ × ServerAct)
question_at g aim (Stage.Asks asking) = Some (server_asked g aim asking, server_act (step_asked g aim asking))
question_at g aim stage = None

abbrev pub question_of : GatherOf → Option (ℕ × ServerAct)
question_of w = question_at w.course.geometry w.course.aim w.course.stage

-- what it needs: a server, or the coder once all parts have come
abbrev pub need_by : Option ℕ → Bool → Need
need_by (Some server) bytes = need.Server server
need_by None true = need.Coder
need_by None false = need.Finished

-- by its stage
abbrev pub need_of : GatherOf → Need
need_of w = need_by (server_of w.course) (has_bytes w.course.stage)

-- a part that was asked for: of the version, its book and code, of the server that was asked and the layers it was asked for
pub record IsOwnPart (w : GatherOf) (part : PartOf) : Type 0 where
  pub of_version : part.stamp.version ≡ w.stamp.version
  pub of_home : part.stamp.home ≡ w.stamp.home
  pub of_code : part.geometry ≡ w.course.geometry
  pub of_server : Some part.server ≡ server_of w.course
  pub of_layers : part.layers ≡ layers_asked w.course

-- these layers of its version's chunk, as they were asked for
abbrev pub IsAskedPart : GatherOf → ℕ → List ℕ → Type 0
IsAskedPart w server bytes = IsPart w.course.geometry w.stamp.content server (layers_asked w.course) bytes

-- the chunks of its missing servers, made anew
abbrev pub AreItsMade : GatherOf → Shelf → Type 0
AreItsMade w made = AreMade w.course.geometry w.stamp.content w.course.gone made

-- its bytes come behind those that were there, or its chunk in their place
abbrev pub GivesItsBytes : GatherOf → List ℕ → List ℕ → Type 0
GivesItsBytes w before after = Gives w.course.geometry w.stamp.content w.course.aim before after
