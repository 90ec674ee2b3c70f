pub mod MapLengths
pub mod Induction
pub mod AtWork
pub mod Points
pub mod PointsOfCalls
pub mod Replayed
pub mod ActorLines
pub mod ReapedPasses
pub mod GivenUpRuns
pub mod HistoryOrder
pub mod NamedCalls
pub mod ToldPoints
pub mod AnsweredPoints
pub mod Naming
pub mod TellReplies
pub mod GivenUpLines
pub mod NamedLines
pub mod OrderPoints
pub mod OrderLists
pub mod OrderShown
pub mod OrderEnds
pub mod OrderCalls
pub mod OrderRuns
pub mod Finishing
pub mod FewWipes
pub mod ServedPoints
pub mod Cells
pub mod Rebuilds
pub mod LogRuns
pub mod ReadTakes
pub mod ServerEpochs
pub mod Given
pub mod TakesRuns
mod ColumnAsks
mod Columns
pub mod ColumnRuns
mod Versions
mod WrittenStripes
mod Commits
mod Drops
pub mod Changes
mod RaceSteps
pub mod ToldChanges
mod RaceRuns
mod ChangeLines
pub mod RaceLines
pub mod HeardLosses
pub mod KeptVersions
pub mod ServerChunks
pub mod VersionMoves
pub mod LossesRows
pub mod LossesHeard
pub mod LossesWeaker
pub mod LossesCommits
pub mod LossesState
pub mod LossesServer
pub mod LossesDirectory
pub mod LossesActs
pub mod LossesCalls
pub mod LossesOwn
pub mod LossesServers
pub mod LossesRuns
pub mod LossesKept
pub mod FoundOutcomes
pub mod FoundActs
pub mod FoundEnded
pub mod FoundRuns
pub mod FoundLines
pub mod FoundOwn
pub mod OwnRuns
pub mod OwnLines
mod Stepwise
pub mod Traced
pub mod Past
mod Counts
mod LinePoints
mod Timely
mod StepPasses
mod Within
mod Callers
mod PointRuns
pub mod PointLines
mod ServerTells
mod LossTold
mod LossSteps
mod LossRuns
pub mod LossLines
pub mod CausedCalls
mod HeldStandings
mod HeldActs
mod HeldRuns
mod HeldSteps
mod HeldCalls
mod HeldLines
pub mod CausedLines
pub mod Shows
mod ListsTold
mod StepsCounted
mod TakesTraced
pub mod Overs
mod TakesShown
mod BytesPinned
pub mod Acts
mod TargetsAway
pub mod TakesOfRuns
mod NeverPrepares
mod Refusals
pub mod Ample
pub mod Plays
mod Picked
mod FewServers
mod FactsExact
mod FirstLines
