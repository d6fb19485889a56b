-- Twenty numbers that are few enough are numbers of tricks.
use Rattle.std.proofs.Common.{◌≡◌, ◌≤◌, true}
use Rattle.std.proofs.lemmas.Bool.{and_parts, and_from, leb-true, le-leb}
use Rattle.table_terms.specs.declared.place.Place.{Place}
use Rattle.table_terms.specs.declared.place.Place.TheVariants.{North, East, South, West}
use Rattle.table_terms.specs.declared.strain.Strain.TheVariants.{Spades, Hearts, Diamonds, Clubs, NoTrump}
use Rattle.query_filter.specs.declared.trick_table.StrainTricks.{StrainTricks}
use Rattle.query_filter.specs.declared.trick_table.TrickTable.{TrickTable}
use Rattle.query_filter.specs.TrickTable.{strain_tricks}
use Rattle.par.specs.Auction.{HasTricks}
use Rattle.par.specs.FewTricks.{are_few, all_few}

-- each of four numbers that are few is a number of tricks
each_declarer : (tricks : StrainTricks) (declarer : Place) → are_few tricks ≡ true → strain_tricks tricks declarer ≤ 13
each_declarer tricks North few =
    let e = and_parts _ _ few in let d = and_parts _ _ e.0 in leb-true _ _ (and_parts _ _ d.0).0
each_declarer tricks East few =
    let e = and_parts _ _ few in let d = and_parts _ _ e.0 in leb-true _ _ (and_parts _ _ d.0).1
each_declarer tricks South few = let e = and_parts _ _ few in leb-true _ _ (and_parts _ _ e.0).1
each_declarer tricks West few = leb-true _ _ (and_parts _ _ few).1

-- four numbers of tricks are few
four : (tricks : StrainTricks) → ((declarer : Place) → strain_tricks tricks declarer ≤ 13) → are_few tricks ≡ true
four tricks each =
    and_from _ _
    (and_from _ _
    (and_from _ _ (le-leb tricks.north 13 (each North)) (le-leb tricks.east 13 (each East)))
    (le-leb tricks.south 13 (each South)))
    (le-leb tricks.west 13 (each West))

-- each of twenty numbers that are few is a number of tricks
pub few_are_tricks : (table : TrickTable) → all_few table ≡ true → HasTricks table
unfolding all_few
few_are_tricks table few Spades declarer =
    let d = and_parts _ _ few in let c = and_parts _ _ d.0 in let b = and_parts _ _ c.0 in
    each_declarer table.spades declarer (and_parts _ _ b.0).0
few_are_tricks table few Hearts declarer =
    let d = and_parts _ _ few in let c = and_parts _ _ d.0 in let b = and_parts _ _ c.0 in
    each_declarer table.hearts declarer (and_parts _ _ b.0).1
few_are_tricks table few Diamonds declarer =
    let d = and_parts _ _ few in let c = and_parts _ _ d.0 in
    each_declarer table.diamonds declarer (and_parts _ _ c.0).1
few_are_tricks table few Clubs declarer =
    let d = and_parts _ _ few in each_declarer table.clubs declarer (and_parts _ _ d.0).1
few_are_tricks table few NoTrump declarer = each_declarer table.no_trump declarer (and_parts _ _ few).1

-- twenty numbers of tricks are few
pub tricks_are_few : (table : TrickTable) → HasTricks table → all_few table ≡ true
unfolding all_few
tricks_are_few table has =
    and_from _ _
    (and_from _ _
    (and_from _ _
    (and_from _ _ (four table.spades (has Spades)) (four table.hearts (has Hearts)))
    (four table.diamonds (has Diamonds)))
    (four table.clubs (has Clubs)))
    (four table.no_trump (has NoTrump))
