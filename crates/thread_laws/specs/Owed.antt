-- The bytes that a client was owed by its look, by the steps at the directory.
use Rattle.std.specs.Prelude.{◌≡◌, ℕ, List, ◌∷◌, ◌++◌}
use Rattle.store_map.specs.Limits.{size_of}
use Rattle.store_map.specs.declared.actor.Actor.TheVariants as actor
use Rattle.store_map.specs.declared.script.Script.{Script}
use Rattle.store_core.specs.Act.{Act, DirectoryStep}
use Rattle.store_core.specs.Content.{contents_of}
use Rattle.store_core.specs.Directory.{Directory, new_directory}
use Rattle.store_core.specs.Note.{Note}
use Rattle.store_core.specs.Read.{parts_of}
use Rattle.store_core.specs.Told.{Seen, Told}
use Rattle.run_laws.specs.ReadLaws.{bytes_read}
use Rattle.thread_laws.specs.AtPlaces.{after_all, directory_next}
use Rattle.thread_laws.specs.MadeSteps.{MadeStep}

-- the script's directory after some steps
abbrev pub directory_after : Script → List MadeStep → Directory
directory_after script steps = after_all directory_next steps (new_directory script.geometry (size_of script))

-- a client's call looked and was told its pins, whose point this is
pub record IsLook (i number point : ℕ) (m : MadeStep) : Type 0 where
  pub by : m.actor ≡ actor.Client i
  pub of_call : m.number ≡ number
  pub note : Note
  pub act : m.act ≡ Act.AtDirectory (DirectoryStep.Look note)
  pub length_now : ℕ
  pub seen : List Seen
  pub told : m.answer ≡ Told.Pinned point length_now seen

-- these are the bytes of the parts that it asks of its pins, by the contents of the versions before its look
pub record WasOwed (script : Script) (steps : List MadeStep) (i number point : ℕ) (bytes : List ℕ) : Type 0 where
  pub before : List MadeStep
  pub look : MadeStep
  pub after : List MadeStep
  pub split : steps ≡ before ++ look ∷ after
  pub is : IsLook i number point look
  pub owed : bytes ≡ bytes_read (contents_of script (directory_after script before).versions) (parts_of script.geometry is.note is.length_now is.seen)
