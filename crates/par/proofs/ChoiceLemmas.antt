-- A choice brings the player's side no less than either of the two.
use Rattle.std.proofs.Common.{◌≡◌, ℤ, Bool, true, false, ◌⊎◌, inl, inr, Option, Some, None, refl, sym, ap, subst, arith, if◌then◌else◌}
use Rattle.std.specs.Prelude.{int_lt}
use Rattle.std.proofs.lemmas.Int.{ints}
use Rattle.table_terms.specs.declared.place.Place.{Place}
use Rattle.table_terms.specs.declared.side.Side.{Side}
use Rattle.table_terms.specs.declared.side.Side.TheVariants.{NorthSouth, EastWest}
use Rattle.table_terms.specs.Place.{side_of}
use Rattle.par.specs.declared.par.Par.{Par}
use Rattle.par.specs.Auction.{better_bid, choice, is_more_for}

-- ---- more and no more

not_below_itself : (x : ℤ) → int_lt x x ≡ false
not_below_itself x = grind (arith, ints)

not_below : (x y z : ℤ) → int_lt x y ≡ false → int_lt y z ≡ false → int_lt x z ≡ false
not_below x y z h g = grind (arith, ints)

not_both : (x y : ℤ) → int_lt y x ≡ true → int_lt x y ≡ false
not_both x y h = grind (arith, ints)

-- an end is no more than itself
pub no_more_than_itself : (side : Side) (end : Par) → is_more_for side end end ≡ false
unfolding is_more_for
no_more_than_itself NorthSouth end = not_below_itself end.score
no_more_than_itself EastWest end = not_below_itself end.score

-- what is no more than something that is no more than an end is no more than the end
pub no_more_trans : (side : Side) (a b c : Par) → is_more_for side b a ≡ false → is_more_for side c b ≡ false →
    is_more_for side c a ≡ false
unfolding is_more_for
no_more_trans NorthSouth a b c h g = not_below a.score b.score c.score h g
no_more_trans EastWest a b c h g = not_below c.score b.score a.score g h

-- of two ends at most one is more
pub no_more : (side : Side) (a b : Par) → is_more_for side a b ≡ true → is_more_for side b a ≡ false
unfolding is_more_for
no_more NorthSouth a b h = not_both a.score b.score h
no_more EastWest a b h = not_both b.score a.score h

-- ---- a choice

chosen_pass : (side : Side) (pass bid : Par) (more : Bool) → is_more_for side bid pass ≡ more → is_more_for side pass
    (if more then bid else pass) ≡ false
chosen_pass side pass bid true is = no_more side bid pass is
chosen_pass side pass bid false is = no_more_than_itself side pass

chosen_bid : (side : Side) (pass bid : Par) (more : Bool) → is_more_for side bid pass ≡ more → is_more_for side bid
    (if more then bid else pass) ≡ false
chosen_bid side pass bid true is = no_more_than_itself side bid
chosen_bid side pass bid false is = is

one_chosen : (pass bid : Par) (more : Bool) → ((if more then bid else pass) ≡ pass)
    ⊎ (Some bid ≡ Some (if more then bid else pass))
one_chosen pass bid true = inr refl
one_chosen pass bid false = inl refl

-- a pass is no more than the choice
pub pass_no_more : (player : Place) (pass : Par) (bid : Option Par) → is_more_for (side_of player) pass
    (choice player pass bid) ≡ false
unfolding choice
pass_no_more player pass None = no_more_than_itself (side_of player) pass
pass_no_more player pass (Some bid) = chosen_pass (side_of player) pass bid (is_more_for (side_of player) bid pass) refl

-- the bid is no more than the choice
pub bid_no_more : (player : Place) (pass bid : Par) → is_more_for (side_of player) bid (choice player pass (Some bid)) ≡
    false
unfolding choice
bid_no_more player pass bid = chosen_bid (side_of player) pass bid (is_more_for (side_of player) bid pass) refl

-- the same of a bid that is left
pub left_bid_no_more : (player : Place) (pass : Par) (best : Option Par) (bid : Par) → best ≡ Some bid →
    is_more_for (side_of player) bid (choice player pass best) ≡ false
left_bid_no_more player pass best bid is =
    subst (λ (o : Option Par). is_more_for (side_of player) bid (choice player pass o) ≡ false) (sym is)
    (bid_no_more player pass bid)

-- the choice is one of the two
pub choice-cases : (player : Place) (pass : Par) (bid : Option Par) → (choice player pass bid ≡ pass)
    ⊎ (bid ≡ Some (choice player pass bid))
unfolding choice
choice-cases player pass None = inl refl
choice-cases player pass (Some bid) = one_chosen pass bid (is_more_for (side_of player) bid pass)

-- where the player passes, the bid is no more
pub passes : (player : Place) (pass : Par) (best : Option Par) (bid : Par) → choice player pass best ≡ pass →
    best ≡ Some bid → is_more_for (side_of player) bid pass ≡ false
passes player pass best bid is left =
    subst (λ (p : Par). is_more_for (side_of player) bid p ≡ false) is (left_bid_no_more player pass best bid left)

-- ---- a player's better bid

-- the lower bid is no more than the better one
pub lower_no_more : (player : Place) (best : Option Par) (lower : Par) → is_more_for (side_of player) lower
    (better_bid player best lower) ≡ false
lower_no_more player None lower = no_more_than_itself (side_of player) lower
lower_no_more player (Some higher) lower = bid_no_more player higher lower

-- nor is the higher, if one is left
pub higher_no_more : (player : Place) (best : Option Par) (lower higher : Par) → best ≡ Some higher →
    is_more_for (side_of player) higher (better_bid player best lower) ≡ false
higher_no_more player best lower higher is =
    subst (λ (o : Option Par). is_more_for (side_of player) higher (better_bid player o lower) ≡ false) (sym is)
    (pass_no_more player higher (Some lower))

better_of : (higher lower choice : Par) → (choice ≡ higher) ⊎ (Some lower ≡ Some choice) → (Some higher ≡ Some choice)
    ⊎ (choice ≡ lower)
better_of higher lower choice (inl is) = inl (ap Some (sym is))
better_of higher lower choice (inr is) = inr (cc)

-- the better bid is one of the two
pub better-cases : (player : Place) (best : Option Par) (lower : Par) → (best ≡ Some (better_bid player best lower))
    ⊎ (better_bid player best lower ≡ lower)
better-cases player None lower = inr refl
better-cases player (Some higher) lower =
    better_of higher lower (choice player higher (Some lower)) (choice-cases player higher (Some lower))
