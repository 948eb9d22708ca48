use Rattle.screen_core.proofs.Replays.{tells_of_a_replay}
use Rattle.screen_core.proofs.law.a_board_tells_of_a_replay.Goals as goal

pub returns : goal.returns
returns c = tells_of_a_replay
