-- What a client was owed is the map's reply at the point of its look.
use Rattle.std.proofs.Common.{◌≡◌, ℕ, ◌+◌, ◌<◌, suc, Bool, List, [], ◌∷◌, ◌++◌, length, map, take, filter, MatchOption, append-nil, append_assoc, length-append, refl, sym, ap, subst, ◌∙◌, arith}
use Rattle.std.proofs.lemmas.List.{take_at}
use Rattle.clay_grid.specs.Limits.{IsGeometry}
use Rattle.clay_grid.specs.Shape.{Shape, stripe_length}
use Rattle.store_map.specs.Limits.{size_of}
use Rattle.store_map.specs.Naming.{IsValid}
use Rattle.store_map.specs.declared.actor.Actor.{Actor}
use Rattle.store_map.specs.declared.actor.Actor.TheVariants as actor
use Rattle.store_map.specs.declared.reply.Reply.TheVariants as reply
use Rattle.store_map.specs.declared.script.Script.{Script}
use Rattle.store_core.specs.Act.{DirectoryStep}
use Rattle.store_core.specs.ActPlace.{ActPlace}
use Rattle.store_core.specs.AtDirectory.{at_directory}
use Rattle.store_core.specs.Content.{contents_by}
use Rattle.store_core.specs.Core.{Core, first_core}
use Rattle.store_core.specs.Directory.{Event, Point, Directory, new_directory}
use Rattle.store_core.specs.History.{applied, call_of}
use Rattle.store_core.specs.PlaceLaws.{new_point}
use Rattle.store_core.specs.Read.{parts_of}
use Rattle.store_core.specs.Schedule.{run_core}
use Rattle.store_core.specs.Told.{Told}
use Rattle.store_core.proofs.Places.{directory_keeps_places}
use Rattle.run_laws.specs.MapAfter.{map_by}
use Rattle.run_laws.specs.Contents.{HasBytes}
use Rattle.run_laws.specs.ReadLaws.{bytes_read}
use Rattle.run_laws.proofs.OwedBytes.{looks_owe_their_pins}
use Rattle.run_laws.proofs.RunBytes.{all_runs_stand_for_the_map}
use Rattle.history_laws.proofs.OrderEnds.{EndKnown}
use Rattle.history_laws.proofs.OrderRuns.{end_known}
use Rattle.thread_laws.specs.AtPlaces.{after_all, directory_next}
use Rattle.thread_laws.specs.Histories.{GoOn, IsInOrder}
use Rattle.thread_laws.specs.InOrder.{in_order}
use Rattle.thread_laws.specs.Lines.{token_of}
use Rattle.thread_laws.specs.MadeSteps.{MadeStep, is_by, is_at}
use Rattle.thread_laws.proofs.Orders.{place_in_order}
use Rattle.thread_laws.proofs.Sorting.{sorted}
use Rattle.thread_laws.specs.Owed.{directory_after, WasOwed}
use Rattle.thread_laws.specs.OwedLaws.{IsReply, OwedAreReplies, OwedStay, LooksAreOwed}
use Rattle.thread_laws.proofs.Growing.{HasMore, grows, after_more, SplitAt, split_at}
use Rattle.thread_laws.proofs.Reaching.{GoesOn, along, shortages_of, Reaches, reaches, run_reaches, along_directory}
use Rattle.thread_laws.proofs.Looking.{MayLook, may_look, answer_is, next_is}

-- ---- at the look
module _ (script : Script) (geometry : IsGeometry script.geometry) (valid : IsValid script) (i number place : ℕ) (bytes : List ℕ) (steps : List MadeStep) (was : WasOwed script steps i number place bytes)
    (front back : List MadeStep) (before_is : filter (is_at ActPlace.Directory) front ≡ was.before) (r : Reaches script front (was.look ∷ back) (first_core script)) where
  abbrev core : Core
  core = along script front (first_core script)

  abbrev d : Directory
  d = (along script front (first_core script)).directory

  is_run : run_core script (shortages_of front) (map token_of front) ≡ core
  is_run = run_reaches script front (was.look ∷ back) r

  known : EndKnown script core
  known = subst (EndKnown script) is_run (end_known script geometry valid (shortages_of front) (map token_of front))

  has_bytes : HasBytes (call_of script) d
  has_bytes = subst (λ (c : Core). HasBytes (call_of script) c.directory) is_run (all_runs_stand_for_the_map script (shortages_of front) (map token_of front) geometry valid).bytes

  d_is : d ≡ directory_after script was.before
  d_is = along_directory script front (first_core script) ∙ ap (directory_after script) before_is

  shape : d.shape ≡ script.geometry
  shape = known.kept.keeps.shape

  most : d.max ≡ size_of script
  most = known.kept.keeps.max

  looks : MayLook script d i number was.is.note
  looks = may_look script known.can core known.kept i number place was.look was.is r.lines back r.goes_on

  abbrev short : Bool
  short = was.look.shortage.step

  abbrev after : Directory
  after = (at_directory short (actor.Client i) number (DirectoryStep.Look was.is.note) d).0

  told : (at_directory short (actor.Client i) number (DirectoryStep.Look was.is.note) d).1 ≡ Told.Pinned place was.is.length_now was.is.seen
  told = answer_is script known.can core known.kept i number place was.look was.is r.lines back r.goes_on

  owed_there : (applied d.max (map_by (call_of script) d.max d.points) Event.Pinned (call_of script (actor.Client i) number)).1 ≡ reply.Bytes bytes
  owed_there =
      looks_owe_their_pins (call_of script) short (actor.Client i) number was.is.note d place was.is.length_now was.is.seen []
      (subst (λ (g : Shape). 0 < stripe_length g) (sym shape) known.can.some) known.kept.sound has_bytes looks.may looks.its told
      ∙ ap (λ (contents : List (List ℕ)). reply.Bytes (bytes_read contents (parts_of d.shape was.is.note was.is.length_now was.is.seen))) (append-nil (contents_by d.shape (call_of script) d.versions))
      ∙ (λ k. reply.Bytes (bytes_read (contents_by (shape k) (call_of script) (d_is k).versions) (parts_of (shape k) was.is.note was.is.length_now was.is.seen)))
      ∙ ap reply.Bytes (sym was.owed)

  -- its point is the next one
  here : (place ≡ length d.points) × (point : Point) × (after.points ≡ d.points ++ point ∷ [])
  here =
      subst (λ (t : Told). MatchOption (new_point t) (after.points ≡ d.points) (λ (q : ℕ). (q ≡ length d.points) × (point : Point) × (after.points ≡ d.points ++ point ∷ []))) told
      (directory_keeps_places short (actor.Client i) number (DirectoryStep.Look was.is.note) d).points

  -- ---- and at the end
  end_is : directory_after script steps ≡ after_all directory_next was.after (directory_next was.look d)
  end_is =
      ap (directory_after script) was.split ∙ after_more was.before (was.look ∷ was.after) (new_directory script.geometry (size_of script))
      ∙ ap (λ (e : Directory). after_all directory_next was.after (directory_next was.look e)) (sym d_is)

  more : HasMore (directory_next was.look d).points (after_all directory_next was.after (directory_next was.look d)).points
  more = grows was.after (directory_next was.look d)

  points_are : (directory_after script steps).points ≡ d.points ++ (here.1 ∷ more.more)
  points_are =
      ap (λ (e : Directory). e.points) end_is ∙ more.is
      ∙ ap (λ (ps : List Point). ps ++ more.more) (ap (λ (e : Directory). e.points) (next_is script known.can core known.kept i number place was.look was.is d) ∙ here.2)
      ∙ append_assoc d.points (here.1 ∷ []) more.more

  points_before : take place (directory_after script steps).points ≡ d.points
  points_before = (λ k. take (here.0 k) (points_are k)) ∙ take_at d.points (here.1 ∷ more.more) (length d.points) refl

  pub is_reply : IsReply script (directory_after script steps).points i number place bytes
  is_reply =
      record {
        within =
            (let whole : length (directory_after script steps).points ≡ length (d.points ++ (here.1 ∷ more.more)) = ap length points_are in
            let parts : length (d.points ++ (here.1 ∷ more.more)) ≡ length d.points + suc (length more.more) = length-append d.points (here.1 ∷ more.more) in
            let is : place ≡ length d.points = here.0 in
            omega (arith, whole, parts, is));
        reply =
            (λ k. (applied (sym most k) (map_by (call_of script) (sym most k) (points_before k)) Event.Pinned (call_of script (actor.Client i) number)).1)
            ∙ owed_there;
      }

-- ---- the laws
pub owed_are_replies : OwedAreReplies
owed_are_replies script lines h geometry valid twice go i number place bytes was =
    let steps : List MadeStep = in_order script h in
    let order : IsInOrder h steps = sorted script h twice lines go in
    let places : (λ (place : ActPlace). filter (is_at place) steps) ≡ h.at = λ k place. place_in_order h steps twice order place k in
    let actors : (λ (who : Actor). filter (is_by who) steps) ≡ h.of = λ k who. order.of who k in
    let filtered : GoesOn script lines (first_core script) steps =
    subst (λ (f : ActPlace → List MadeStep). GoOn script lines (first_core script) f (λ who. filter (is_by who) steps)) (sym places)
    (subst (λ (f : Actor → List MadeStep). GoOn script lines (first_core script) h.at f) (sym actors) go) in
    let s : SplitAt (is_at ActPlace.Directory) steps was.before was.look was.after =
    split_at (is_at ActPlace.Directory) steps was.before was.look was.after (place_in_order h steps twice order ActPlace.Directory ∙ was.split) in
    let r : Reaches script s.front (was.look ∷ s.back) (first_core script) =
    reaches script s.front (was.look ∷ s.back) lines (first_core script) (subst (GoesOn script lines (first_core script)) s.is filtered) in
    is_reply script geometry valid i number place bytes (h.at ActPlace.Directory) was s.front s.back s.before_is r

pub owed_stay : OwedStay
owed_stay script steps more i number place bytes was =
    record {
      before = was.before;
      look = was.look;
      after = was.after ++ more;
      split = ap (λ (l : List MadeStep). l ++ more) was.split ∙ append_assoc was.before (was.look ∷ was.after) more;
      is = was.is;
      owed = was.owed;
    }

pub looks_are_owed : LooksAreOwed
looks_are_owed script steps m i number place look contents same =
    record {
      before = steps;
      look = m;
      after = [];
      split = refl;
      is = look;
      owed = ap (λ (c : List (List ℕ)). bytes_read c (parts_of script.geometry look.note look.length_now look.seen)) same;
    }
