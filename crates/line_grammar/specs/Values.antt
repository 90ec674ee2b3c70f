-- The values that a script's types can hold: names, bytes, and numbers below 2^32.
use Rattle.std.specs.Prelude.{ℕ, ◌<◌, ◌^◌, length, IfSome, All}
use Rattle.clay_grid.specs.Limits.{IsGeometry}
use Rattle.hex.specs.Hex.{IsBytes}
use Rattle.store_map.specs.Name.{IsName}
use Rattle.store_map.specs.declared.actor.Token.{Token}
use Rattle.store_map.specs.declared.actor.Token.TheVariants as token
use Rattle.store_map.specs.declared.call.Call.{Call}
use Rattle.store_map.specs.declared.call.Call.TheVariants.{Put, Write, Get, ReadAt, Stat, Delete}
use Rattle.store_map.specs.declared.call.Rebuild.{Rebuild}
use Rattle.store_map.specs.declared.content.Content.{Content}
use Rattle.store_map.specs.declared.content.Content.TheVariants.{Hex, Fill, Ramp}
use Rattle.store_map.specs.declared.script.Script.{Script}

-- a number that a script may name
abbrev pub IsNumber : ℕ → Type 0
IsNumber n = n < 2 ^ 32

-- data: so many bytes, or a byte and a number
abbrev pub IsContent : Content → Type 0
IsContent (Hex bytes) = IsBytes bytes × IsNumber (length bytes)
IsContent (Fill byte n) = (byte < 256) × IsNumber n
IsContent (Ramp first n) = (first < 256) × IsNumber n

-- a client's call
abbrev pub IsCall : Call → Type 0
IsCall (Put name content) = IsName name × IsContent content
IsCall (Write name offset content) = IsName name × IsNumber offset × IsContent content
IsCall (Get name) = IsName name
IsCall (ReadAt name offset count) = IsName name × IsNumber offset × IsNumber count
IsCall (Stat name) = IsName name
IsCall (Delete name) = IsName name

-- a repairer's call
abbrev pub IsRebuild : Rebuild → Type 0
IsRebuild rebuild = IsName rebuild.name × IsNumber rebuild.stripe × IsNumber rebuild.server

-- the actor or the server of a step, 0 for a step without one
abbrev pub token_number : Token → ℕ
token_number (token.Client i) = i
token_number (token.Repairer i) = i
token_number (token.Wipe j) = j
token_number (token.Down j) = j
token_number (token.Up j) = j
token_number (token.ReapClient i) = i
token_number (token.ReapRepairer i) = i
token_number _ = 0

-- a script of such values; what is said of every script is said of these
pub record IsScript (script : Script) : Type 0 where
  pub geometry : IsGeometry script.geometry
  pub size : IfSome script.size IsNumber
  pub tries : IfSome script.tries IsNumber
  pub clients : All (λ part. All IsCall part.calls × IfSome part.leave IsNumber) script.clients
  pub repairers :
      All (λ part. All IsRebuild part.calls × IfSome part.leave IsNumber) script.repairers
  pub schedule : All (λ step. IsNumber (token_number step)) script.schedule
