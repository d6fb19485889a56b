use Rattle.published_view.proofs.StandingLemmas.{stands_edition}
use Rattle.published_view.proofs.view.View.edition.Goals as goal

pub returns-clause-stands : goal.returns-clause-stands
returns-clause-stands c opening entries stands =
    let told = stands_edition opening entries c.args.self.now stands in cc
