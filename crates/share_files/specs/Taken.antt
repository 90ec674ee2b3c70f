-- What a sink takes of a join.
use Rattle.std.specs.Prelude.{◌≡◌, ◌≢◌, ℕ, ◌≤◌, Option, List, length}
use Rattle.crc64.specs.Remainder.{checksum_of}
use Rattle.clay_bytes.specs.Stream.{Accepts, AcceptsPrefix}
use Rattle.share_format.specs.Cut.{stripe_count}
use Rattle.share_format.specs.Header.{Header}
use Rattle.share_files.specs.Seen.{Seen}
use Rattle.share_files.specs.Stripes.{AreJoined}
use Rattle.share_files.specs.declared.joining.JoinFault.{JoinFault}
use Rattle.share_files.specs.declared.joining.JoinFault.TheVariants.{TooFew, Mismatch, WriteFault, OutOfMemory}

-- a sink took a file with the header's length and checksum, joined from the shares
pub record TakesFile (h : Header) (olds news : List Seen) (accepted : List ℕ) (written : Option (List ℕ)) (now : List ℕ) (new : Option (List ℕ)) : Type 0 where
  pub file : List ℕ
  pub takes : Accepts accepted written file now new
  pub size : length file ≡ h.size
  pub checksum : checksum_of file ≡ h.checksum
  pub joined : AreJoined h (stripe_count h.shape h.size) olds news file

-- it took as many bytes with another checksum
pub record TakesAnother (h : Header) (olds news : List Seen) (accepted : List ℕ) (written : Option (List ℕ)) (now : List ℕ) (new : Option (List ℕ)) : Type 0 where
  pub file : List ℕ
  pub takes : Accepts accepted written file now new
  pub size : length file ≡ h.size
  pub checksum : checksum_of file ≢ h.checksum
  pub joined : AreJoined h (stripe_count h.shape h.size) olds news file

-- it took just the first so many stripes
pub record TakesStripes (h : Header) (count : ℕ) (olds news : List Seen) (accepted : List ℕ) (written : Option (List ℕ)) (now : List ℕ) (new : Option (List ℕ)) : Type 0 where
  pub within : count ≤ stripe_count h.shape h.size
  pub bytes : List ℕ
  pub joined : AreJoined h count olds news bytes
  pub takes : Accepts accepted written bytes now new

-- some first stripes
pub record TakesSome (h : Header) (olds news : List Seen) (accepted : List ℕ) (written : Option (List ℕ)) (now : List ℕ) (new : Option (List ℕ)) : Type 0 where
  pub count : ℕ
  pub stripes : TakesStripes h count olds news accepted written now new

-- a prefix of some first stripes
pub record TakesPart (h : Header) (olds news : List Seen) (accepted : List ℕ) (written : Option (List ℕ)) (now : List ℕ) (new : Option (List ℕ)) : Type 0 where
  pub count : ℕ
  pub within : count ≤ stripe_count h.shape h.size
  pub bytes : List ℕ
  pub joined : AreJoined h count olds news bytes
  pub takes : AcceptsPrefix accepted written bytes now new

-- what it took before a fault: the stripes before the one that can't be joined, all of them where their checksum is another, some where memory is
-- short, and where a write failed a prefix of some
abbrev pub TakesUntil : Header → List Seen → List Seen → List ℕ → Option (List ℕ) → List ℕ → Option (List ℕ) → JoinFault → Type 0
TakesUntil h olds news accepted written now new (TooFew stripe) = TakesStripes h stripe olds news accepted written now new
TakesUntil h olds news accepted written now new Mismatch = TakesAnother h olds news accepted written now new
TakesUntil h olds news accepted written now new WriteFault = TakesPart h olds news accepted written now new
TakesUntil h olds news accepted written now new OutOfMemory = TakesSome h olds news accepted written now new
