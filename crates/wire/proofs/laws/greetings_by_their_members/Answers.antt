use Rattle.wire.proofs.LineLemmas.{greeting_line}
use Rattle.wire.proofs.laws.greetings_by_their_members.Goals as goal

pub returns : goal.returns
returns c dialect bytes d user name token message = greeting_line dialect bytes d message user name token
