use Rattle.std.proofs.Common.{rules, ◌≤◌, sym, ap, ◌∙◌}
use Rattle.standings.specs.Ranking.{pair_on}
use Rattle.class_views.proofs.PlaceLemmas.{north_south_place, east_west_place}
use Rattle.class_views.proofs.user_class.place_of.Goals as goal

pub returns-in-NorthSouth-clause-place : goal.returns-in-NorthSouth-clause-place
returns-in-NorthSouth-clause-place c =
    let number = c.args.pair.number in
    let from : 1 ≤ number = search rules in
    let to : number ≤ 16 = search rules in
    north_south_place number from to ∙ ap (λ side. pair_on side number) (sym c.in-NorthSouth.is)

pub returns-in-EastWest-clause-place : goal.returns-in-EastWest-clause-place
returns-in-EastWest-clause-place c =
    let number = c.args.pair.number in
    let from : 1 ≤ number = search rules in
    let to : number ≤ 16 = search rules in
    east_west_place number from to ∙ ap (λ side. pair_on side number) (sym c.in-EastWest.is)
