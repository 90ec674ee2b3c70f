use Rattle.std.proofs.Common.{is_err, ◌∷◌, [], ◌++◌, sym, ap, subst, ◌∙◌}
use Rattle.store_core.specs.Server.{Server}
use Rattle.chunk_server.specs.Core.{core_of}
use Rattle.gather_parts.specs.Gatherings.{GatheringsOf}
use Rattle.gather_parts.specs.Progress.{progress_of}
use Rattle.gather_parts.specs.States.{StandsIn}
use Rattle.snapshot_view.specs.InTime.{asked_at, HasFound}
use Rattle.snapshot_view.specs.Reads.{ReadOf, reply_by, reply_of}
use Rattle.snapshot_view.specs.ReadSteps.{need_of, stepped}
use Rattle.snapshot_view.proofs.InTime.{reads_find_in_time}
use Rattle.snapshot_view.proofs.Needs.{asks_by}
use Rattle.snapshot_view.proofs.snapshot_read.SnapRead.on_server.Goals as goal

pub on_server-requires-clause-asked : goal.on_server-requires-clause-asked
on_server-requires-clause-asked c =
    let a = c.self.inside in
    (asks_by a.ended (progress_of a.gatherings) c.args.s.now.number (ap need_of c.self.view_is ∙ c.requires.need)).1

pub on_server-requires-clause-book : goal.on_server-requires-clause-book
on_server-requires-clause-book c = c.requires.book ∙ sym (ap (λ (r : ReadOf). r.gatherings.book) c.self.view_is)

pub returns-clause-step : goal.returns-clause-step
returns-clause-step c =
    ap (λ (r : Server × GatheringsOf). (r.0, record { gatherings = r.1; ended = c.self.inside.ended })) c.on_server.ensures.step
    ∙ ap (λ (r : ReadOf). stepped r (is_err c.on_server.result) (core_of c.args.s.now)) c.self.view_is

pub returns-clause-book : goal.returns-clause-book
returns-clause-book c = c.on_server.ensures.book ∙ ap (λ (r : ReadOf). r.gatherings.book) c.self.view_is

pub returns-clause-reply : goal.returns-clause-reply
returns-clause-reply c = ap (reply_by c.self.inside.ended) c.on_server.ensures.owed ∙ ap reply_of c.self.view_is

pub returns-clause-call : goal.returns-clause-call
returns-clause-call c = λ call after due stands.
    c.on_server.ensures.call call after due (subst (λ (r : ReadOf). StandsIn call r.gatherings after) (sym c.self.view_is) stands)

pub returns-clause-told : goal.returns-clause-told
returns-clause-told c = λ call after stands.
    c.on_server.ensures.told call after (subst (λ (r : ReadOf). StandsIn call r.gatherings after) (sym c.self.view_is) stands)

pub returns-clause-found : goal.returns-clause-found
returns-clause-found c = λ stripes asked has.
    subst (λ (after : Server × ReadOf). HasFound stripes (asked ++ asked_at c.args.self.now c.args.s.now.number (core_of c.args.s.now) ∷ []) after.1) (sym (returns-clause-step c))
    (reads_find_in_time stripes asked c.args.self.now c.args.s.now.number (is_err c.on_server.result) (core_of c.args.s.now) c.requires.need has)
