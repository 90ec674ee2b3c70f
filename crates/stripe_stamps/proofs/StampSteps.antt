-- Stamps keep the contents of their versions by each step, and hold the bytes of the plain map.
use Rattle.std.proofs.Common.{◌≡◌, ◌⊎◌, ℕ, ◌+◌, ◌-◌, ◌/◌, Bool, false, ◌++◌, map, Option, None, Some, refl, sym, ap, ◌∙◌, inl, inr, arith}
use Rattle.std.specs.List.{range_with_len}
use Rattle.clay_grid.specs.Shape.{Shape, stripe_length}
use Rattle.store_map.specs.Limits.{stripes_met}
use Rattle.store_map.specs.declared.actor.Actor.{Actor}
use Rattle.store_core.specs.Act.{DirectoryStep}
use Rattle.store_core.specs.AtDirectory.{unless_reaped, on_pass, at_directory}
use Rattle.store_core.specs.Calls.{Calls}
use Rattle.store_core.specs.Content.{contents_by}
use Rattle.store_core.specs.Directory.{Pass, Directory}
use Rattle.store_core.specs.Lookups.{pass_of}
use Rattle.store_core.specs.Note.{Note}
use Rattle.store_core.specs.PassSteps.{touched, new_version, draw, close_pass}
use Rattle.run_laws.specs.Contents.{stored_in}
use Rattle.run_laws.proofs.ContentGrows.{origins, same_contents}
use Rattle.run_laws.proofs.VersionsMove.{Draws, versions_move}
use Rattle.version_seal.specs.Entry.{StampOf, RequestOf, call_written}
use Rattle.stripe_stamps.specs.ItsStripes.{IsWhole}
use Rattle.stripe_stamps.specs.Sealed.{Sealed, stamps_touched}
use Rattle.stripe_stamps.specs.Stamped.{HaveContents, HasStamps}
use Rattle.stripe_stamps.specs.StampLaws.{StampsKeepContents, StampsHoldTheBytesOfTheMap}
use Rattle.stripe_stamps.proofs.StampLists.{bases_in, contents_fresh}

module _ (calls : Calls) where
  still : (s : Sealed) (after : Directory) → after.shape ≡ s.core.shape → origins after.versions ≡ origins s.core.versions → HaveContents calls s → HaveContents calls (record s { core = after })
  still s after shape same are = are ∙ sym (same_contents calls s.core.shape s.core.versions after.versions same) ∙ ap (λ (g : Shape). contents_by g calls after.versions) (sym shape)

  touched_are : (d : Directory) (note : Note) → touched d note ≡ range_with_len (note.offset / stripe_length d.shape) (stripes_met (stripe_length d.shape) note.offset note.length)
  touched_are d note = ap (λ n. range_with_len (note.offset / stripe_length d.shape) (stripes_met (stripe_length d.shape) note.offset n)) (let rest : note.offset + note.length - note.offset ≡ note.length = omega arith in rest)

  drawn : (s : Sealed) (who : Actor) (number : ℕ) (pass : Pass) (request : Option RequestOf) → IsWhole s.core → HasStamps s → pass_of who s.core ≡ Some pass → pass.reaped ≡ None
      → call_written s.book.script pass.actor pass.number request ≡ calls pass.actor pass.number → HaveContents calls s
      → map (λ (stamp : StampOf). stamp.content) (s.stamps ++ stamps_touched s.book s.stamps (stripe_length s.core.shape) pass request)
      ≡ contents_by (at_directory false who number DirectoryStep.Draw s.core).0.shape calls (at_directory false who number DirectoryStep.Draw s.core).0.versions
  drawn s who number pass request whole has found live written are =
      contents_fresh s has pass (bases_in s whole has who pass found) (pass.note.offset / stripe_length s.core.shape) (stripes_met (stripe_length s.core.shape) pass.note.offset pass.note.length) request calls are written
      ∙ ap (λ stripes. contents_by s.core.shape calls (s.core.versions ++ map (new_version pass) stripes)) (sym (touched_are s.core pass.note))
      ∙ ap (λ (d : Directory). contents_by d.shape calls d.versions) (sym opened)
      ∙ ap (λ (o : Option Pass). contents_by (on_pass draw o s.core).0.shape calls (on_pass draw o s.core).0.versions) (sym found)
    where
      opened : (on_pass draw (Some pass) s.core).0 ≡ (draw pass s.core).0
      opened = ap (λ (r : Option ℕ). (unless_reaped draw pass r s.core).0) live

-- the laws
pub stamps_keep_contents : (calls : Calls) → StampsKeepContents calls
stamps_keep_contents calls =
    record {
      first = λ book max. refl;
      still = λ s short who number step other are. by s short who number step other are (versions_move short who number step s.core).moved;
      short = λ s who number are. are;
      reaped = λ s who number pass point found given_up are. closed s who number pass point found given_up are;
      draw = λ s who number pass request some whole has found live written are. drawn calls s who number pass request whole has found live written are;
    }
  where
    closed : (s : Sealed) (who : Actor) (number : ℕ) (pass : Pass) (point : ℕ) → pass_of who s.core ≡ Some pass → pass.reaped ≡ Some point → HaveContents calls s
        → HaveContents calls (record s { core = (at_directory false who number DirectoryStep.Draw s.core).0 })
    closed s who number pass point found given_up are =
        let without : (at_directory false who number DirectoryStep.Draw s.core).0 ≡ close_pass pass s.core =
        ap (λ (o : Option Pass). (on_pass draw o s.core).0) found ∙ ap (λ (r : Option ℕ). (unless_reaped draw pass r s.core).0) given_up in
        still calls s (at_directory false who number DirectoryStep.Draw s.core).0 (ap (λ (d : Directory). d.shape) without) (ap (λ (d : Directory). origins d.versions) without) are

    by : (s : Sealed) (short : Bool) (who : Actor) (number : ℕ) (step : DirectoryStep) → (step ≡ DirectoryStep.Draw → ⊥) → HaveContents calls s
        → (origins (at_directory short who number step s.core).0.versions ≡ origins s.core.versions) ⊎ Draws who step s.core (at_directory short who number step s.core).0
        → HaveContents calls (record s { core = (at_directory short who number step s.core).0 })
    by s short who number step other are (inl same) = still calls s (at_directory short who number step s.core).0 (versions_move short who number step s.core).shape same are
    by s short who number step other are (inr draws) = absurd (other draws.is_draw)

pub stamps_hold_the_bytes_of_the_map : StampsHoldTheBytesOfTheMap
stamps_hold_the_bytes_of_the_map calls s has are = ap (λ contents. stored_in contents s.core.objects) are ∙ has.contents
