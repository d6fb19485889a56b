use Rattle.std.proofs.Common.{rules, ◌≡◌, true}
use Rattle.std.specs.Prelude.{not}
use Rattle.disclosure_rules.specs.declared.fact.Fact.TheVariants as fact
use Rattle.disclosure_rules.specs.Policy.{first_rule}
use Rattle.published_view.proofs.AnswerLemmas.{not_listed, not_seen}
use Rattle.published_view.proofs.listing.is_listed.Goals as goal

pub returns-then-not-shows : goal.returns-then-not-shows
returns-then-not-shows g c =
    let state = g.S.ShownState.seen c.args.shown_state.now in
    let viewer = c.args.viewer.now in
    let hidden : not c.shows.result ≡ true = search rules in
    not_listed state viewer c.args.board c.args.filter.now
    (not_seen (first_rule state.public viewer (fact.Hands c.args.board)) c.shows.result c.shows.ensures hidden)
