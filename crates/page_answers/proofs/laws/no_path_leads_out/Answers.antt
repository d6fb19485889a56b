use Rattle.std.proofs.Common.{bytes_eq, codes}
use Rattle.page_answers.proofs.LeadsLemmas.{stays_inside}
use Rattle.page_answers.proofs.laws.no_path_leads_out.Goals as goal

pub returns : goal.returns
returns c = λ files head.
    stays_inside files head (bytes_eq head.method (codes "GET")) (bytes_eq head.method (codes "HEAD"))
