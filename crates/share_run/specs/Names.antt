-- The names of the shares in a folder.
use Rattle.std.specs.Prelude.{◌≡◌, ◌≢◌, ◌<◌, ◌/◌, ◌%◌, ◌⊎◌, ℕ, List, ◌++◌, Option, None, Some, MatchOption, Bool, MatchBool, [], codes, decimal, slice_index_or, length, String, string_bytes}
use Rattle.std.specs.Global.{Global}
use Rattle.share_run.specs.declared.share_names.ShareNames.{ShareNames}

-- the name of a cut's share: the cut's name, the share's number, in two digits below 100, and the ending
abbrev pub share_name : List ℕ → ℕ → List ℕ
share_name cut number = cut ++ (codes "." ++ (decimal (number / 10) ++ (decimal (number % 10) ++ codes ".clay")))

-- a name is that of a cut's share of a number; no code has more than 24 chunks
abbrev pub IsShareName : List ℕ → List ℕ → ℕ → Type 0
IsShareName name cut number = (number < 24) × (name ≡ share_name cut number)

-- the name of the share of a number, where there is one
abbrev pub name_at : ShareNames → ℕ → Option (String Global)
name_at listed number = slice_index_or listed.names.items number None

-- what is listed: shares of one cut, each at the place of its number, and of other cuts at most one
pub record AreListed (listed : ShareNames) : Type 0 where
  pub places : length listed.names.items ≡ 24
  pub of_one_cut : (number : ℕ) (name : String Global) → name_at listed number ≡ Some name
      → (cut : String Global) × (listed.cut ≡ Some cut) × IsShareName (string_bytes name) (string_bytes cut) number
  pub of_another : (name : String Global) → listed.other ≡ Some name
      → (own : String Global) × (listed.cut ≡ Some own) × (cut : List ℕ) × (number : ℕ) × IsShareName (string_bytes name) cut number × (cut ≢ string_bytes own)

-- whether a cut is that of the listed shares; where none was known, it is from here on: nothing else of the list changes
pub record IsOwn (old new : ShareNames) (cut : List ℕ) (is : Bool) : Type 0 where
  pub own : String Global
  pub new_is : new ≡ record old { cut = Some own }
  pub kept : MatchOption old.cut (string_bytes own ≡ cut) (λ before. before ≡ own)
  pub told : MatchBool is (string_bytes own ≡ cut) (string_bytes own ≢ cut)

-- a name is one of those that are listed
abbrev pub IsOneOf : ShareNames → List ℕ → Type 0
IsOneOf listed name =
    ((number : ℕ) × (held : String Global) × (name_at listed number ≡ Some held) × (name ≡ string_bytes held))
    ⊎ ((held : String Global) × (listed.other ≡ Some held) × (name ≡ string_bytes held))

-- none is listed
abbrev pub IsNoneListed : ShareNames → Type 0
IsNoneListed listed = ((number : ℕ) → name_at listed number ≡ None) × (listed.other ≡ None)

-- what the cut is called, and nothing where there is no share
abbrev pub IsCutName : ShareNames → List ℕ → Type 0
IsCutName listed name = MatchOption listed.cut (name ≡ []) (λ cut. name ≡ string_bytes cut)
