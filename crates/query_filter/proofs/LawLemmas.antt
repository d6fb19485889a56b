-- Lemmas of the laws of filters.
use Rattle.std.proofs.Common.{◌≡◌, Bool, true, false, not, ◌&&◌, ◌||◌, List, [], ◌∷◌, Any, refl, ap, ◌∙◌}
use Rattle.std.proofs.lemmas.List.Folds.{Any-from_list_any}
use Rattle.std.specs.List.{list_any}
use Rattle.query_filter.specs.declared.atom.Atom.{Atom}
use Rattle.query_filter.specs.declared.atom.Atom.TheVariants as atom
use Rattle.query_filter.specs.declared.board_facts.BoardFacts.{BoardFacts}
use Rattle.query_filter.specs.Formula.{Formula, Formulas, no_formula, formula_then, Not}
use Rattle.query_filter.specs.Holds.{atom_holds, holds, all_hold, any_holds}
use Rattle.query_filter.specs.Laws.{IsOnResults, with_one_outcome, contraries}

not_both : (p q : Bool) → not (p && q) ≡ (not p || not q)
not_both true q = refl
not_both false q = refl

not_either : (p q : Bool) → not (p || q) ≡ (not p && not q)
not_either true q = refl
not_either false q = refl

-- not each holds where the contrary of some does
pub not_each : (fs : Formulas) (facts : BoardFacts) → not (all_hold fs facts) ≡ any_holds (contraries fs) facts
not_each no_formula facts = refl
not_each (formula_then f fs) facts =
    not_both (holds f facts) (all_hold fs facts) ∙ ap (λ q. not (holds f facts) || q) (not_each fs facts)

-- not some holds where the contrary of each does
pub not_some : (fs : Formulas) (facts : BoardFacts) → not (any_holds fs facts) ≡ all_hold (contraries fs) facts
not_some no_formula facts = refl
not_some (formula_then f fs) facts =
    not_either (holds f facts) (any_holds fs facts) ∙ ap (λ q. not (holds f facts) && q) (not_some fs facts)

-- a test that some element passes is passed by a list of that element alone
one_alone : {X : Type 0} (test : X → Bool) (xs : List X) → list_any test xs ≡ true →
    Any (λ x. list_any test (x ∷ []) ≡ true) xs
one_alone test xs h =
    let found : Any (λ x. test x ≡ true) xs = Any-from_list_any test xs h in
    (found.0, found.1, found.2, found.3, ap (λ q. q || false) found.4)

-- one of the results makes an atom on results true
pub one_result : (a : Atom) (facts : BoardFacts) → IsOnResults a → atom_holds a facts ≡ true
    → Any (λ outcome. atom_holds a (with_one_outcome facts outcome) ≡ true) facts.outcomes
one_result (atom.Vulnerability marking) facts on h = absurd on
one_result (atom.Dealer place) facts on h = absurd on
one_result (atom.Level levels) facts on h = one_alone _ facts.outcomes h
one_result (atom.Strain strain) facts on h = one_alone _ facts.outcomes h
one_result (atom.Doubled doubling) facts on h = one_alone _ facts.outcomes h
one_result (atom.Made made) facts on h = one_alone _ facts.outcomes h
one_result (atom.Score scores) facts on h = one_alone _ facts.outcomes h
one_result (atom.DoubleDummy declarer strain tricks) facts on h = absurd on

-- without results an atom on results doesn't hold
pub no_result : (a : Atom) (facts : BoardFacts) → IsOnResults a → facts.outcomes ≡ [] → atom_holds a facts ≡ false
no_result (atom.Vulnerability marking) facts on none = absurd on
no_result (atom.Dealer place) facts on none = absurd on
no_result (atom.Level levels) facts on none = ap (list_any _) none
no_result (atom.Strain strain) facts on none = ap (list_any _) none
no_result (atom.Doubled doubling) facts on none = ap (list_any _) none
no_result (atom.Made made) facts on none = ap (list_any _) none
no_result (atom.Score scores) facts on none = ap (list_any _) none
no_result (atom.DoubleDummy declarer strain tricks) facts on none = absurd on
