-- An object's length, versions and birth, by their fields.
use Rattle.dir_parts.specs.Parts.{Held}
use Rattle.dir_parts.specs.declared.objects.Contents.TheInside.{Inside}

abbrev pub held_in : Inside → Held
held_in a = record { length = a.length; versions = a.versions.items; birth = a.birth }
