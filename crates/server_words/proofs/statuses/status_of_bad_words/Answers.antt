use Rattle.std.proofs.KnownBytes.{Appends-nil}
use Rattle.server_words.proofs.statuses.status_of_bad_words.Goals as goal

pub returns-in_default-clause-silent : goal.returns-in_default-clause-silent
returns-in_default-clause-silent g c = λ _. Appends-nil _
