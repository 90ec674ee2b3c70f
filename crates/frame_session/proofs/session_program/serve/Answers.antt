use Rattle.std.proofs.Common.{ap, ◌∙◌}
use Rattle.frame_session.proofs.session_program.serve.Goals as goal

pub returns : goal.returns
returns g c =
    let said = c.frame_main-status.ensures in record {
      exit = (
        c.frame_main-status.result,
        c.from.ensures ∙ c.number.ensures,
        record {
          usage = λ none. let h = said.usage none in (h.0, ap g.S.Source.given h.1, ap g.K.Sink.accepted h.2);
          usage_only = said.usage_only;
          session = λ code most asked ending same. let h = said.session code most asked ending same in (h.0, h.1, h.2.0, h.3.0, h.4.0);
          given_up = λ code most asked same. let h = said.given_up code most asked same in (h.0, h.1, h.2.0, h.3.0, h.4);
          wanting = λ code most asked same. let h = said.wanting code most asked same in (h.0, h.1, h.2.0, h.3.0, h.4);
          cut_off = λ code most asked same. let h = said.cut_off code most asked same in (h.0, h.1, h.2.0, h.3.0, h.4);
        },
      );
    }
