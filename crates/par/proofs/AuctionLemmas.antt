-- At par neither side gains by going on.
use Rattle.std.proofs.Common.{◌≡◌, ◌≢◌, ℕ, zero, suc, ◌<◌, false, ◌⊎◌, inl, inr, Option, Some, refl, sym, ap, ◌∙◌, subst, arith}
use Rattle.std.proofs.lemmas.Bool.{cases_lt}
use Rattle.table_terms.specs.declared.place.Place.{Place}
use Rattle.table_terms.specs.declared.place.Place.TheVariants.{North, East, South, West}
use Rattle.table_terms.specs.declared.vulnerability.Vulnerability.{Vulnerability}
use Rattle.table_terms.specs.Place.{left_of, side_of}
use Rattle.query_filter.specs.declared.trick_table.TrickTable.{TrickTable}
use Rattle.par.specs.declared.par.Par.{Par}
use Rattle.par.specs.Auction.{best_bid, better_bid, bid_out, choice, is_more_for, others_choose, par_of, passed_out}
use Rattle.par.specs.Bid.{all_bids}
use Rattle.par.specs.Laws.{bid_answered, GainsNothing, StandsAsPar}
use Rattle.par.proofs.ChoiceLemmas.{
  no_more_trans,
  left_bid_no_more,
  choice-cases,
  passes,
  lower_no_more,
  higher_no_more,
  better-cases,
}

-- what holds of a player and of the three who follow holds of each
each_place : (P : Place → Type 0) (first : Place) → P first → P (left_of first) → P (left_of (left_of first)) → P
    (left_of (left_of (left_of first))) → (player : Place) → P player
each_place P North a b c d North = a
each_place P North a b c d East = b
each_place P North a b c d South = c
each_place P North a b c d West = d
each_place P East a b c d North = d
each_place P East a b c d East = a
each_place P East a b c d South = b
each_place P East a b c d West = c
each_place P South a b c d North = c
each_place P South a b c d East = d
each_place P South a b c d South = a
each_place P South a b c d West = b
each_place P West a b c d North = b
each_place P West a b c d East = c
each_place P West a b c d South = d
each_place P West a b c d West = a

-- ---- the best bid

-- where a bid is left, there is a best one
has_best : (table : TrickTable) (vulnerability : Vulnerability) (left : ℕ) (player : Place) → 0 < left →
    (best : Par) × (best_bid table vulnerability left player ≡ Some best)
unfolding best_bid
has_best table vulnerability zero player some = absurd (omega arith)
has_best table vulnerability (suc higher) player some = (_, refl)

-- the next bid: the best bid is the better of it and the best of those above
next_best : (table : TrickTable) (vulnerability : Vulnerability) (higher : ℕ) (player : Place) (best : Par) →
    best_bid table vulnerability (suc higher) player ≡ Some best →
    best ≡ better_bid player (best_bid table vulnerability higher player) (bid_answered table vulnerability higher player)
unfolding best_bid
next_best table vulnerability higher player best is = cc

no_best : (table : TrickTable) (vulnerability : Vulnerability) (player : Place) (best : Par) →
    best_bid table vulnerability 0 player ≡ Some best → ⊥
unfolding best_bid
no_best table vulnerability player best is = cc

-- no bid that is left is more than the best
best_gains : (table : TrickTable) (vulnerability : Vulnerability) (left : ℕ) (player : Place) (best : Par) →
    best_bid table vulnerability left player ≡ Some best → GainsNothing table vulnerability left player best
best_gains table vulnerability zero player best is higher below = absurd (omega arith)
best_gains table vulnerability (suc left) player best is higher below =
    let P : Par → Type 0 = λ p. is_more_for (side_of player) (bid_answered table vulnerability higher player) p ≡ false in
    let better = better_bid player (best_bid table vulnerability left player)
    (bid_answered table vulnerability left player) in
    let at : P better = elim (cases_lt higher left) [
      | inl less ↦ let (above, held) = has_best table vulnerability left player (omega arith) in
          no_more_trans (side_of player) better above (bid_answered table vulnerability higher player)
          (higher_no_more player (best_bid table vulnerability left player) (bid_answered table vulnerability left player) above held)
          (best_gains table vulnerability left player above held higher less)
      | inr more ↦ let same : left ≡ higher = omega arith in
          subst (λ (k : ℕ). is_more_for (side_of player) (bid_answered table vulnerability k player) better ≡ false) same
          (lower_no_more player (best_bid table vulnerability left player) (bid_answered table vulnerability left player))
    ] in
    subst P (sym (next_best table vulnerability left player best is)) at

-- a player who is not tempted by the best bid gains by none
untempted : (table : TrickTable) (vulnerability : Vulnerability) (left : ℕ) (player : Place) (end : Par) →
    ((best : Par) → best_bid table vulnerability left player ≡ Some best →
    is_more_for (side_of player) best end ≡ false) → GainsNothing table vulnerability left player end
untempted table vulnerability left player end not_more higher below =
    let (best, held) = has_best table vulnerability left player (omega arith) in
    no_more_trans (side_of player) end best (bid_answered table vulnerability higher player) (not_more best held)
    (best_gains table vulnerability left player best held higher below)

-- ---- the other three

-- all three pass: what a pass comes to is the end, and none of them is tempted
record AllPass (best : Place → Option Par) (player : Place) (pass end : Par) : Type 0 where
  is : end ≡ pass
  first : (bid : Par) → best (left_of player) ≡ Some bid → is_more_for (side_of (left_of player)) bid end ≡ false
  second : (bid : Par) → best (left_of (left_of player)) ≡ Some bid →
      is_more_for (side_of (left_of (left_of player))) bid end ≡ false
  third : (bid : Par) → best (left_of (left_of (left_of player))) ≡ Some bid →
      is_more_for (side_of (left_of (left_of (left_of player)))) bid end ≡ false

-- one of them bids: the end is what that player's best bid comes to
abbrev OneBids : (Place → Option Par) → Par → Type 0
OneBids best end = (player : Place) × (best player ≡ Some end)

-- a player's choice: the end stays, and the bid does not tempt, or it is the bid
turn : (player : Place) (pass end : Par) (bid : Option Par) → choice player pass bid ≡ end →
    ((end ≡ pass) × ((other : Par) → bid ≡ Some other → is_more_for (side_of player) other pass ≡ false))
    ⊎ (bid ≡ Some end)
turn player pass end bid is = elim (choice-cases player pass bid) [
  | inl same ↦ inl (sym is ∙ same, λ (other : Par) (held : bid ≡ Some other). passes player pass bid other same held)
  | inr held ↦ inr (held ∙ ap Some is)
]

-- what the three choose: all pass, or one bids
others-cases : (best : Place → Option Par) (player : Place) (pass : Par) →
    AllPass best player pass (others_choose best player pass) ⊎ OneBids best (others_choose best player pass)
others-cases best player pass =
    let first = left_of player in
    let second = left_of first in
    let third = left_of second in
    let low = choice third pass (best third) in
    let middle = choice second low (best second) in
    let end = others_choose best player pass in
    elim (turn first middle end (best first) refl) [
      | inr held ↦ inr (first, held)
      | inl one ↦ elim (turn second low end (best second) (sym one.0)) [
        | inr held ↦ inr (second, held)
        | inl two ↦ elim (turn third pass end (best third) (sym two.0)) [
          | inr held ↦ inr (third, held)
          | inl three ↦ inl (record {
            is = three.0;
            first = λ bid held. subst (λ (p : Par). is_more_for (side_of first) bid p ≡ false) (sym one.0)
                (one.1 bid held);
            second = λ bid held. subst (λ (p : Par). is_more_for (side_of second) bid p ≡ false) (sym two.0)
                (two.1 bid held);
            third = λ bid held. subst (λ (p : Par). is_more_for (side_of third) bid p ≡ false) (sym three.0)
                (three.1 bid held);
          })
        ]
      ]
    ]

-- ---- what stands

more_left : (table : TrickTable) (vulnerability : Vulnerability) (left : ℕ) (end : Par) →
    StandsAsPar table vulnerability left end → StandsAsPar table vulnerability (suc left) end
more_left table vulnerability left end stands = record {
  higher = stands.higher;
  declarer = stands.declarer;
  one_of_them = omega (arith, stands.one_of_them);
  is = stands.is;
  others = stands.others;
}

-- a bid that is answered ends in one that stands, where the best bids above it do
answered_stands : (table : TrickTable) (vulnerability : Vulnerability) (higher : ℕ) (player : Place) →
    ((other : Place) (best : Par) → best_bid table vulnerability higher other ≡ Some best →
    StandsAsPar table vulnerability higher best) →
    StandsAsPar table vulnerability (suc higher) (bid_answered table vulnerability higher player)
answered_stands table vulnerability higher player above =
    let end = bid_answered table vulnerability higher player in
    let P : Place → Type 0 = λ q. q ≢ player → GainsNothing table vulnerability higher q end in
    elim (others-cases (best_bid table vulnerability higher) player (bid_out table vulnerability higher player)) [
      | inr one ↦ more_left table vulnerability higher end (above one.0 end one.1)
      | inl all ↦ record {
        higher = higher;
        declarer = player;
        one_of_them = omega arith;
        is = all.is;
        others = each_place P player
            (λ (other : player ≢ player). absurd (other refl))
            (λ (other : left_of player ≢ player). untempted table vulnerability higher (left_of player) end all.first)
            (λ (other : left_of (left_of player) ≢ player). untempted table vulnerability higher (left_of (left_of player))
            end all.second)
            (λ (other : left_of (left_of (left_of player)) ≢ player). untempted table vulnerability higher
            (left_of (left_of (left_of player))) end all.third);
      }
    ]

-- each player's best bid ends in one that stands
best_stands : (table : TrickTable) (vulnerability : Vulnerability) (left : ℕ) (player : Place) (best : Par) →
    best_bid table vulnerability left player ≡ Some best → StandsAsPar table vulnerability left best
best_stands table vulnerability zero player best is = absurd (no_best table vulnerability player best is)
best_stands table vulnerability (suc left) player best is =
    let lower = bid_answered table vulnerability left player in
    let better = better_bid player (best_bid table vulnerability left player) lower in
    let at : StandsAsPar table vulnerability (suc left) better = elim
    (better-cases player (best_bid table vulnerability left player) lower) [
      | inl held ↦ more_left table vulnerability left better (best_stands table vulnerability left player better held)
      | inr same ↦ subst (λ (p : Par). StandsAsPar table vulnerability (suc left) p) (sym same)
          (answered_stands table vulnerability left player
          (λ (other : Place) (bid : Par). best_stands table vulnerability left other bid))
    ] in
    subst (λ (p : Par). StandsAsPar table vulnerability (suc left) p)
    (sym (next_best table vulnerability left player best is)) at

-- the auction ends in a bid that stands, or all pass and no one gains by a bid
pub par_stands : (table : TrickTable) (vulnerability : Vulnerability) (dealer : Place) →
    ((par_of table vulnerability dealer ≡ passed_out)
    × ((player : Place) → GainsNothing table vulnerability all_bids player passed_out))
    ⊎ StandsAsPar table vulnerability all_bids (par_of table vulnerability dealer)
par_stands table vulnerability dealer =
    let best = best_bid table vulnerability all_bids in
    let rest = others_choose best dealer passed_out in
    let par = par_of table vulnerability dealer in
    let P : Place → Type 0 = λ q. GainsNothing table vulnerability all_bids q passed_out in
    elim (turn dealer rest par (best dealer) refl) [
      | inr held ↦ inr (best_stands table vulnerability all_bids dealer par held)
      | inl pass ↦ elim (others-cases best dealer passed_out) [
        | inr one ↦ inr (subst (λ (p : Par). StandsAsPar table vulnerability all_bids p) (sym pass.0)
            (best_stands table vulnerability all_bids one.0 rest one.1))
        | inl all ↦ inl (
          pass.0 ∙ all.is,
          each_place P dealer
              (subst (λ (p : Par). GainsNothing table vulnerability all_bids dealer p) all.is
              (untempted table vulnerability all_bids dealer rest pass.1))
              (subst (λ (p : Par). GainsNothing table vulnerability all_bids (left_of dealer) p) all.is
              (untempted table vulnerability all_bids (left_of dealer) rest all.first))
              (subst (λ (p : Par). GainsNothing table vulnerability all_bids (left_of (left_of dealer)) p) all.is
              (untempted table vulnerability all_bids (left_of (left_of dealer)) rest all.second))
              (subst (λ (p : Par). GainsNothing table vulnerability all_bids (left_of (left_of (left_of dealer))) p) all.is
              (untempted table vulnerability all_bids (left_of (left_of (left_of dealer))) rest all.third)),
        )
      ]
    ]

-- no first bid of the dealer's is more than par
pub no_first_bid : (table : TrickTable) (vulnerability : Vulnerability) (dealer : Place) →
    GainsNothing table vulnerability all_bids dealer (par_of table vulnerability dealer)
no_first_bid table vulnerability dealer =
    let best = best_bid table vulnerability all_bids in
    untempted table vulnerability all_bids dealer (par_of table vulnerability dealer)
    (λ (bid : Par) (held : best dealer ≡ Some bid). left_bid_no_more dealer (others_choose best dealer passed_out)
    (best dealer) bid held)
