-- A book, the requests and stamps that it gives, and what a stamp stands for.
use Rattle.std.specs.Prelude.{◌≡◌, ℕ, ◌<◌, Bool, true, false, List, replicate, Option, None, Some}
use Rattle.std.specs.Option.{option_map}
use Rattle.clay_grid.specs.Shape.{Shape, stripe_length}
use Rattle.store_map.specs.declared.actor.Actor.{Actor}
use Rattle.store_map.specs.declared.call.Call.{Call}
use Rattle.store_map.specs.declared.call.Call.TheVariants as call
use Rattle.store_map.specs.declared.script.Script.{Script}
use Rattle.store_core.specs.History.{call_of}
use Rattle.store_core.specs.Content.{written_by, lay_over}

-- a book: its slots, which no other book has, the code of its stripes, and its script, if it has one
pub record BookOf : Type 0 where
  pub home : List ℕ
  pub geometry : Shape
  pub script : Option Script

-- of this code, with this script or without one
abbrev pub IsBookFor : Shape → Option Script → BookOf → Type 0
IsBookFor geometry script book = (book.geometry ≡ geometry) × (book.script ≡ script)

-- a call that a book without a script was asked to make
pub record RequestOf : Type 0 where
  pub home : List ℕ
  pub actor : Actor
  pub number : ℕ
  pub call : Call

-- a stamp: its book's slots, its version, the call that drew it, its stripe, the version that it is laid over, and its bytes
pub record StampOf : Type 0 where
  pub home : List ℕ
  pub version : ℕ
  pub actor : Actor
  pub number : ℕ
  pub stripe : ℕ
  pub base : Option ℕ
  pub content : List ℕ

-- the call that a version writes: the script's, or in a book without one the request's
abbrev pub call_written : Option Script → Actor → ℕ → Option RequestOf → Option Call
call_written (Some script) actor number request = call_of script actor number
call_written None actor number request = option_map (λ request. request.call) request

-- a put or a write
abbrev pub is_writing : Option Call → Bool
is_writing (Some (call.Put name content)) = true
is_writing (Some (call.Write name offset content)) = true
is_writing _ = false

-- the bytes that a version is laid over: those of its base, or zeros
abbrev pub old_bytes : Shape → Option StampOf → List ℕ
old_bytes g None = replicate (stripe_length g) 0
old_bytes g (Some base) = base.content

-- a version's bytes: those of its call in its stripe, laid over the old ones
abbrev pub content_over : Shape → ℕ → Option Call → Option StampOf → List ℕ
content_over g stripe written base = lay_over g stripe (old_bytes g base) (written_by written).0 (written_by written).1

-- the stamp of a version that a call draws over a base
abbrev pub stamp_over : BookOf → ℕ → Actor → ℕ → ℕ → Option RequestOf → Option StampOf → StampOf
stamp_over book version actor number stripe request base =
    record {
      home = book.home;
      version = version;
      actor = actor;
      number = number;
      stripe = stripe;
      base = option_map (λ stamp. stamp.version) base;
      content = content_over book.geometry stripe (call_written book.script actor number request) base;
    }

-- a base is an older version of the same book and stripe
pub record IsBaseIn (book : BookOf) (version stripe : ℕ) (base : StampOf) : Type 0 where
  pub same_home : base.home ≡ book.home
  pub same_stripe : base.stripe ≡ stripe
  pub older : base.version < version

-- a request is of the same book, actor and call
pub record IsRequestIn (book : BookOf) (actor : Actor) (number : ℕ) (request : RequestOf) : Type 0 where
  pub same_home : request.home ≡ book.home
  pub same_actor : request.actor ≡ actor
  pub same_call : request.number ≡ number
