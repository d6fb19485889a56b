use Rattle.std.proofs.Common.{ap, ◌∙◌, ◌++◌, [], map, append-nil}
use Rattle.movement.specs.Movement.{most_tables}
use Rattle.table_terms.specs.declared.side.Side.TheVariants.{NorthSouth, EastWest}
use Rattle.standings.specs.Ranking.{pairs_on, ranked, standing_of}
use Rattle.standings.proofs.RankingLemmas.{none_ranked}
use Rattle.standings.proofs.ranking.ranking_of.Goals as goal

pub returns : goal.returns
returns c =
    let earnings = c.args.earnings.now in
    let section = c.args.movement.now in
    let east_west = pairs_on section EastWest 1 most_tables in
    let first = c.in_ok-place_side.ensures [] (c.in_ok-standings.ensures.items ∙ none_ranked earnings) in
    c.in_ok-place_side-2.ensures (east_west ++ []) first
    ∙ ap (λ pairs. ranked (map (standing_of earnings) (pairs_on section NorthSouth 1 most_tables ++ pairs)))
    (append-nil east_west)
