use Rattle.std.proofs.Common.{◌≡◌, ap, sym, subst, ◌∙◌, Some}
use Rattle.clay_grid.specs.Shape.{chunk_count}
use Rattle.session_rules.specs.Requests.{request_of}
use Rattle.session_store.specs.Serving.{NamesServerBelow}
use Rattle.frame_session.proofs.Asked.{request_sound, names_server}
use Rattle.frame_session.proofs.Going.{request_answered, any_wanting}
use Rattle.frame_session.proofs.answering.answer_to.Goals as goal

pub serve-requires-clause-there : goal.serve-requires-clause-there
serve-requires-clause-there g c κs within =
    let found : Some c.in-Ok-Some.request ≡ request_of c.args.servers c.args.frame.now = sym c.in-Ok-Some.field-0-is ∙ c.in-Ok-Some.ensures in
    subst (λ n. NamesServerBelow n c.in-Ok-Some.request) c.requires.servers
    (names_server c.args.servers c.in-Ok-Some.request (request_sound c.args.servers c.args.frame.now c.in-Ok-Some.request (sym found)))

pub returns-in-Ok-Some-clause-answers : goal.returns-in-Ok-Some-clause-answers
returns-in-Ok-Some-clause-answers g c =
    let found : Some c.in-Ok-Some.request ≡ request_of (chunk_count c.args.store.now.geometry) c.args.frame.now =
    sym c.in-Ok-Some.field-0-is ∙ c.in-Ok-Some.ensures ∙ ap (λ n. request_of n c.args.frame.now) c.requires.servers in
    request_answered c.args.frame.now c.in-Ok-Some.request c.args.store.now c.serve.new.self c.serve.result found c.serve.ensures.serves c.serve.ensures.same

pub returns-in-Err-clause-answers : goal.returns-in-Err-clause-answers
returns-in-Err-clause-answers g c = any_wanting c.args.frame.now c.args.servers c.args.store.now c.in-Err.ensures c.requires.servers
