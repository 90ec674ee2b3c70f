use Rattle.run_laws.proofs.Replayed.{replays_the_map}
use Rattle.run_laws.proofs.laws_of_lengths.sound_directories_replay_the_map.Goals as goal

pub returns : goal.returns
returns c = replays_the_map
