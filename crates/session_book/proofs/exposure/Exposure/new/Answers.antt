use Rattle.std.proofs.Common.{replicate, ap, ◌∙◌}
use Rattle.rbac.specs.Account.{most_users}
use Rattle.session_book.proofs.exposure.Exposure.new.Goals as goal

pub returns : goal.returns
returns c = c.in_ok-boards.ensures.items ∙ ap (replicate most_users) c.new.ensures
