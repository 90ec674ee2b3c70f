-- Refusals whose cause can't be: missing chunks, and servers that were away.
use Rattle.std.specs.Prelude.{[], ◌∷◌, List, codes}
use Rattle.store_map.specs.declared.call_name.CallName.TheVariants as name
use Rattle.store_map.specs.declared.cause.Triple.{Triple}
use Rattle.store_map.specs.declared.cause.Cause.TheVariants as cause
use Rattle.store_map.specs.declared.transcript.Transcript.{Transcript}
use Rattle.store_core.specs.RowLines.{client, refused, triple}
use Rattle.store_core.specs.RowsManyLosses.{read_after_three_losses}
use Rattle.hist_rules.specs.declared.verdict.Verdict.TheVariants.{BadCause}
use Rattle.check_tests.specs.Judged.{Faulty}

-- the read after three losses, refused with these servers
abbrev pub refused_with : List Triple → Transcript
refused_with missing = record read_after_three_losses.transcript { refused = refused (client 0 1) (cause.Unavailable 0 missing) ∷ [] }

-- two servers, where the code can spare two
abbrev pub too_few_servers : Faulty
too_few_servers =
    record {
      script = read_after_three_losses.script;
      transcript = refused_with (triple 0 0 1 ∷ triple 1 0 1 ∷ []);
      verdict = BadCause (name.Client (client 0 1)) 3 2;
      line = codes "cause c0.1 3 2\n";
    }

-- a server that is emptied twice, where the schedule does so once
abbrev pub never_emptied : Faulty
never_emptied =
    record {
      script = read_after_three_losses.script;
      transcript = refused_with (triple 0 0 1 ∷ triple 1 0 1 ∷ triple 2 0 2 ∷ []);
      verdict = BadCause (name.Client (client 0 1)) 1 2;
      line = codes "cause c0.1 1 2\n";
    }

-- a server twice
abbrev pub server_twice : Faulty
server_twice =
    record {
      script = read_after_three_losses.script;
      transcript = refused_with (triple 0 0 1 ∷ triple 1 0 1 ∷ triple 1 0 1 ∷ []);
      verdict = BadCause (name.Client (client 0 1)) 3 2;
      line = codes "cause c0.1 3 2\n";
    }

-- a server that isn't there
abbrev pub server_too_many : Faulty
server_too_many =
    record {
      script = read_after_three_losses.script;
      transcript = refused_with (triple 0 0 1 ∷ triple 1 0 1 ∷ triple 4 0 1 ∷ []);
      verdict = BadCause (name.Client (client 0 1)) 4 4;
      line = codes "cause c0.1 4 4\n";
    }

-- a chunk that was placed after the server was emptied
abbrev pub placed_later : Faulty
placed_later =
    record {
      script = read_after_three_losses.script;
      transcript = refused_with (triple 0 0 1 ∷ triple 1 1 1 ∷ triple 2 0 1 ∷ []);
      verdict = BadCause (name.Client (client 0 1)) 1 1;
      line = codes "cause c0.1 1 1\n";
    }

-- a put of form 1 asks no server for chunks
abbrev pub refused_put_of_form_one : Faulty
refused_put_of_form_one =
    record {
      script = read_after_three_losses.script;
      transcript =
          record (refused_with []) { history = []; objects = []; refused = refused (client 0 0) (cause.Unavailable 0 (triple 0 0 1 ∷ triple 1 0 1 ∷ triple 2 0 1 ∷ [])) ∷ [] };
      verdict = BadCause (name.Client (client 0 0)) 0 1;
      line = codes "cause c0.0 0 1\n";
    }
