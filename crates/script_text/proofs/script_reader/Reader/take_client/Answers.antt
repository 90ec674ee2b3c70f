use Rattle.std.proofs.Common.{List, ◌∷◌, [], ◌++◌, None, length, refl, sym, ap, ◌∙◌}
use Rattle.store_map.specs.declared.script.ClientPart.{ClientPart}
use Rattle.line_grammar.specs.Line.{ClientLine}
use Rattle.script_text.specs.Reader.{script_of}
use Rattle.script_text.specs.declared.script_place.ScriptPlace.TheVariants as place
use Rattle.script_text.specs.declared.script_reader.Reader.{Reader}
use Rattle.script_text.proofs.ReaderLaws.{client_over, client_taken}
use Rattle.script_text.proofs.script_reader.Reader.take_client.Goals as goal

pub returns-then-as_slice-eq-MAX_CLIENTS : goal.returns-then-as_slice-eq-MAX_CLIENTS
returns-then-as_slice-eq-MAX_CLIENTS c =
    client_over c.args.self.now c.args.line.now c.requires.place (c.is_text.ensures.0 c.if-not-is_text.false) (ap length (sym c.as_slice.ensures.value) ∙ c.if-as_slice-eq-MAX_CLIENTS.true)

pub returns : goal.returns
returns c =
    let new : Reader = record c.args.self.now { clients = c.push.new.self; place = place.Client } in (
      ClientLine,
      client_taken c.args.self.now new c.args.line.now c.requires.sound c.requires.place (c.is_text.ensures.0 c.if-not-is_text.false)
          c.requires.sound.begun.valid.limits.clients (λ full. c.if-as_slice-eq-MAX_CLIENTS.false (ap length c.as_slice.ensures.value ∙ full))
          (ap (λ (parts : List ClientPart). record (script_of c.args.self.now) { clients = parts }) (c.in-Ok.ensures.items
          ∙ ap (λ calls. c.args.self.now.clients.items ++ record { calls = calls; leave = None } ∷ []) c.new.ensures)) refl refl,
    )
