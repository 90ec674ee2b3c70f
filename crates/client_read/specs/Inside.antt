-- The fields of a call that reads as callers see them, and what they keep.
use Rattle.std.specs.Prelude.{◌≡◌, ℕ, true, []}
use Rattle.store_core.specs.Note.{Note, note_of}
use Rattle.store_core.specs.NextAct.{job_of}
use Rattle.store_core.specs.Agreement.{HeldPass, ActorToken}
use Rattle.store_core.specs.Tokens.{actor_of}
use Rattle.call_steps.specs.TokenAfter.{IsSeated}
use Rattle.gather_parts.specs.Gatherings.{GatheringsOf, owed}
use Rattle.gather_parts.specs.Progress.{progress_of, IsOver}
use Rattle.client_read.specs.Reads.{ReadOf, is_read}
use Rattle.call_steps.specs.Callers.{IsClient, IsWaiting}
use Rattle.client_read.specs.Ends.{IsPlain}
use Rattle.client_read.specs.Stages.{state_by, due_by}
use Rattle.client_read.specs.declared.read_stage.ReadStage.{ReadStage}
use Rattle.client_read.specs.declared.read_stage.ReadStage.TheVariants as stage
use Rattle.call_steps.specs.CallOf.{tries_by}
use Rattle.client_read.specs.declared.read_call.ReadCall.TheInside.{Inside}

-- what callers see
abbrev pub read_in : Inside → ReadOf
read_in a =
    record {
      call = record {
        book = a.gatherings.book;
        tries = tries_by a.gatherings.book.script;
        job = job_of a.call.now;
        number = a.number;
        token = a.ticket;
        state = record { pairs = []; at = state_by a.stage a.gatherings a.point a.outcome };
        takes = a.gatherings.takes;
        due = due_by a.stage a.gatherings;
        coding = a.coding;
        step = a.step;
      };
      owed = owed a.gatherings;
    }

-- the pass of this call
pub record IsOfCall (number : ℕ) (note : Note) (held : HeldPass) : Type 0 where
  pub its : held.pass.note ≡ note
  pub its_number : held.pass.number ≡ number

-- the ticket while bytes are gathered
abbrev pub IsHolding : ℕ → Note → ActorToken → Type 0
IsHolding number note (ActorToken.Seated seat) = ⊥
IsHolding number note (ActorToken.InCall held) = IsOfCall number note held

-- by its stage
abbrev pub Keeps : ReadStage → ℕ → Note → ActorToken → GatheringsOf → Type 0
Keeps stage.Looking number note token p = IsWaiting number token
Keeps stage.Gathering number note token p = IsHolding number note token
Keeps stage.Ending number note token p = IsHolding number note token
Keeps stage.Ended number note token p = IsSeated token × IsOver (progress_of p)
Keeps stage.Finished number note token p = IsSeated token

-- what every call keeps; bytes are served from its gatherings alone
pub record IsRead (a : Inside) : Type 0 where
  pub read : is_read a.call.now ≡ true
  pub client : IsClient (actor_of a.ticket)
  pub plain : IsPlain a.outcome
  pub kept : Keeps a.stage a.number (note_of a.call.now) a.ticket a.gatherings
