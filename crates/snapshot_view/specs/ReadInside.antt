-- The fields of a read as callers see them.
use Rattle.snapshot_view.specs.Reads.{ReadOf}
use Rattle.snapshot_view.specs.declared.snapshot_read.SnapRead.TheInside.{Inside}

abbrev pub read_in : Inside → ReadOf
read_in a = record { gatherings = a.gatherings; ended = a.ended }
