-- The fields as the record.
use Rattle.dir_walks.specs.Callers.{CallerOf}
use Rattle.dir_walks.specs.declared.test_caller.Caller.TheInside.{Inside}

abbrev pub caller_in : Inside → CallerOf
caller_in a =
    record { who = a.who; token = a.ticket; stage = a.stage; number = a.number; unused = a.unused; drawn = a.drawn; request = a.request }
