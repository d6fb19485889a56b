use Rattle.std.proofs.Common.{◌∷◌, ◌++◌, [], ◌∙◌}
use Rattle.session_book.proofs.book.Book.submit_found.Goals as goal

pub returns-in-Ok-clause-tried : goal.returns-in-Ok-clause-tried
returns-in-Ok-clause-tried c = (
  c.in-Ok.ensures.accepted,
  c.commit.ensures.journal ∙ (λ i. (c.in-Ok.ensures.same i).journal ++ c.in-Ok.ensures.ok i ∷ []),
)

pub returns-in-Err-clause-tried : goal.returns-in-Err-clause-tried
returns-in-Err-clause-tried c = (c.in-Err.ensures.err, (λ i. (c.in-Err.ensures.same i).journal))
