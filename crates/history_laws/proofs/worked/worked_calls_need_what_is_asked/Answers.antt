use Rattle.std.proofs.Common.{refl}
use Rattle.clay_grid.specs.Layers.{digits_of}
use Rattle.store_core.specs.RowLines.{client}
use Rattle.store_core.specs.RowsManyLosses.{read_after_three_losses}
use Rattle.store_core.specs.RowsAway.{refused_put}
use Rattle.store_core.specs.RowsRaces.{lost_race}
use Rattle.store_core.specs.RowsShort.{put_without_memory}
use Rattle.store_core.specs.RowsGivenUp.{reaped_before_commit, left_before_commit}
use Rattle.history_laws.proofs.FirstLines.{refused_first, left_first}
use Rattle.history_laws.proofs.worked.worked_calls_need_what_is_asked.Goals as goal

pub returns-clause-lacking : goal.returns-clause-lacking
unfolding digits_of
returns-clause-lacking c = record { known = refl; shows = refl; told = refused_first read_after_three_losses.transcript (client 0 1) refl }

pub returns-clause-away : goal.returns-clause-away
unfolding digits_of
returns-clause-away c = record { known = refl; shows = refl; told = refused_first refused_put.transcript (client 0 0) refl }

pub returns-clause-overtaken : goal.returns-clause-overtaken
unfolding digits_of
returns-clause-overtaken c = record { known = refl; shows = refl; told = refused_first lost_race.transcript (client 1 0) refl }

pub returns-clause-short : goal.returns-clause-short
unfolding digits_of
returns-clause-short c = record { known = refl; shows = refl; told = refused_first put_without_memory.transcript (client 0 0) refl }

pub returns-clause-given_up : goal.returns-clause-given_up
unfolding digits_of
returns-clause-given_up c = record { known = refl; shows = refl; told = refused_first reaped_before_commit.transcript (client 0 0) refl }

pub returns-clause-left : goal.returns-clause-left
unfolding digits_of
returns-clause-left c = record { known = refl; shows = refl; told = left_first left_before_commit.transcript (client 0 0) refl }
