-- A put is a write that keeps no old bytes, and is tried as its book's script says of all calls.
use Rattle.std.specs.Prelude.{◌≡◌, true}
use Rattle.call_steps.specs.CallOf.{CallOf, tries_by}
use Rattle.client_put.specs.Puts.{PutOf, is_put}
use Rattle.client_put.specs.declared.put.PutCall.TheInside.{Inside}

-- how often a put would be tried changes nothing of it
abbrev pub by_script : CallOf → CallOf
by_script c = record c { tries = tries_by c.book.script }

-- what callers see
abbrev pub put_in : Inside → PutOf
put_in a = record { call = by_script a.patch.call; written = a.patch.written }

-- what every put keeps
abbrev pub IsPut : Inside → Type 0
IsPut a = is_put a.patch.written ≡ true
