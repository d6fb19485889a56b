use Rattle.std.proofs.Common.{length}
use Rattle.report_texts.proofs.players.+player_in.Given as goal

abbrev pub decreases-player_in : goal.decreases-player_in
decreases-player_in l = length l.players.now
