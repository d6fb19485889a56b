use Rattle.std.proofs.Common.{ap, bytes_eq, codes}
use Rattle.page_answers.proofs.LeadsLemmas.{no_body}
use Rattle.page_answers.proofs.laws.head_gets_no_body.Goals as goal

pub returns : goal.returns
returns c = λ files head is.
    no_body files head (bytes_eq head.method (codes "GET")) (bytes_eq head.method (codes "HEAD"))
    (ap (λ method. bytes_eq method (codes "GET")) is) (ap (λ method. bytes_eq method (codes "HEAD")) is)
