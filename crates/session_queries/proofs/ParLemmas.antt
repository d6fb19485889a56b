-- No declarer takes more than thirteen tricks, so that each board that is solved has a par; and whose numbers it is of.
use Rattle.std.proofs.Common.{◌≡◌, ℕ, ◌-◌, ◌*◌, ◌≤◌, refl, sym, ap, ◌∙◌, arith}
use Rattle.std.specs.Prelude.{Option, Some, None, option_map, slice_get}
use Rattle.cards.specs.DoubleDummy.{declarer_tricks, double_dummy, tricks_for}
use Rattle.cards.specs.Hands.{Hands, IsDeal}
use Rattle.cards.specs.Play.{cards_left, start}
use Rattle.double_dummy_laws.proofs.TakingLemmas.{tricks_bound}
use Rattle.table_terms.specs.Place.{side_of}
use Rattle.table_terms.specs.declared.place.Place.{Place}
use Rattle.table_terms.specs.declared.place.Place.TheVariants.{North, East, South, West}
use Rattle.table_terms.specs.declared.side.Side.{Side}
use Rattle.table_terms.specs.declared.side.Side.TheVariants.{NorthSouth, EastWest}
use Rattle.table_terms.specs.declared.strain.Strain.{Strain}
use Rattle.table_terms.specs.declared.strain.Strain.TheVariants.{Spades, Hearts, Diamonds, Clubs, NoTrump}
use Rattle.disclosure_rules.specs.declared.marks.Marks.{Marks}
use Rattle.query_filter.specs.TrickTable.{strain_tricks}
use Rattle.query_filter.specs.declared.trick_table.TrickTable.{TrickTable}
use Rattle.par.specs.Auction.{HasTricks}
use Rattle.par.specs.declared.par.Par.{Par}
use Rattle.session_state.specs.OwnNumbers.{KeepsOwn}
use Rattle.session_state.specs.SessionState.{SessionState}
use Rattle.session_queries.proofs.NumberLemmas.{analysis_own}
use Rattle.session_queries.specs.Content.{analysis_of, strain_of_deal, tricks_of_deal}
use Rattle.session_queries.specs.Numbers.{IsParOf}
use Rattle.session_queries.specs.Par.{marked_par}

module _ (hands : Hands) (deal : IsDeal hands) where
  at_most_thirteen : (strain : Strain) (declarer : Place) → declarer_tricks hands strain declarer ≤ 13
  at_most_thirteen strain declarer = by_side (side_of declarer)
    where
      cards : cards_left (start hands strain declarer) ≡ 52
      cards = omega (arith, deal.thirteen North, deal.thirteen East, deal.thirteen South, deal.thirteen West)

      quarter : 4 * double_dummy (start hands strain declarer) ≤ 52
      quarter = omega (
        arith,
        cards,
        tricks_bound (cards_left (start hands strain declarer)) (start hands strain declarer) (omega arith),
      )

      by_side : (side : Side) → tricks_for side (double_dummy (start hands strain declarer)) ≤ 13
      by_side NorthSouth = omega (arith, quarter)
      by_side EastWest = omega arith

  in_a_strain : (strain : Strain) (declarer : Place) → strain_tricks (strain_of_deal hands strain) declarer ≤ 13
  in_a_strain strain North = at_most_thirteen strain North
  in_a_strain strain East = at_most_thirteen strain East
  in_a_strain strain South = at_most_thirteen strain South
  in_a_strain strain West = at_most_thirteen strain West

  -- the twenty numbers of a deal are numbers of tricks
  pub has_tricks : HasTricks (tricks_of_deal hands)
  has_tricks Spades declarer = in_a_strain Spades declarer
  has_tricks Hearts declarer = in_a_strain Hearts declarer
  has_tricks Diamonds declarer = in_a_strain Diamonds declarer
  has_tricks Clubs declarer = in_a_strain Clubs declarer
  has_tricks NoTrump declarer = in_a_strain NoTrump declarer

-- a par is that of the numbers of its board's hands
pub par_own : (state : SessionState) (board : ℕ) (marks : Marks) (par : Par) → KeepsOwn state →
    slice_get state.public.marks (board - 1) ≡ Some marks →
    option_map (marked_par marks) (analysis_of state board) ≡ Some par → IsParOf state board par
par_own state board marks par keeps marked said = by_numbers (analysis_of state board) refl said
  where
    by_numbers : (found : Option TrickTable) → analysis_of state board ≡ found →
        option_map (marked_par marks) found ≡ Some par → IsParOf state board par
    by_numbers None is said = absurd cc
    by_numbers (Some tricks) is said =
        let own = analysis_own state board tricks keeps is in
        let same : marked_par marks tricks ≡ par = cc in
        record {
          hands = own.hands;
          marks = marks;
          dealt = own.dealt;
          marked = marked;
          numbers = sym same ∙ ap (marked_par marks) own.numbers;
        }
