-- The rules by their places and their numbers.
use Rattle.std.proofs.Common.{◌≡◌, ℕ, ◌+◌, ◌<◌, ◌≤◌, ◌⊎◌, true, get_or, nat_eq, refl, arith, inl, inr}
use Rattle.std.proofs.lemmas.Bool.{agree_below_at, eqb-true}
use Rattle.session_roles.specs.declared.edition.Edition.{Edition}
use Rattle.session_roles.specs.declared.edition.Edition.TheVariants.{First, Second}
use Rattle.disclosure_rules.specs.declared.rule.Rule.{Rule}
use Rattle.disclosure_rules.specs.declared.rule.Rule.TheVariants.{
  NoAccount,
  NotAMember,
  AccountsAreClosed,
  SessionIsEmbargoed,
  BoardIsHeld,
  StillToPlay,
  OthersStillPlay,
  NeitherContestantNorSpectator,
  BoardIsIncomplete,
  AnalysisWaits,
  PlayWaits,
  ReasonIsForThePairs,
  NoResult,
}
use Rattle.disclosure_rules.specs.Policy.{rules, rule_place, rule_number}

-- a rule stands at its place
pub at_place : (rule : Rule) → get_or rules (rule_place rule) NoAccount ≡ rule
at_place NoAccount = refl
at_place NotAMember = refl
at_place AccountsAreClosed = refl
at_place SessionIsEmbargoed = refl
at_place BoardIsHeld = refl
at_place StillToPlay = refl
at_place OthersStillPlay = refl
at_place NeitherContestantNorSpectator = refl
at_place BoardIsIncomplete = refl
at_place AnalysisWaits = refl
at_place PlayWaits = refl
at_place ReasonIsForThePairs = refl
at_place NoResult = refl

pub place_within : (rule : Rule) → rule_place rule < 13
place_within NoAccount = omega arith
place_within NotAMember = omega arith
place_within AccountsAreClosed = omega arith
place_within SessionIsEmbargoed = omega arith
place_within BoardIsHeld = omega arith
place_within StillToPlay = omega arith
place_within OthersStillPlay = omega arith
place_within NeitherContestantNorSpectator = omega arith
place_within BoardIsIncomplete = omega arith
place_within AnalysisWaits = omega arith
place_within PlayWaits = omega arith
place_within ReasonIsForThePairs = omega arith
place_within NoResult = omega arith

-- the rule that stands at a place has that place
pub place_at : (k : ℕ) (d : Rule) → k < 13 → rule_place (get_or rules k d) ≡ k
place_at k d below = eqb-true _ _ (agree_below_at (λ n. nat_eq (rule_place (get_or rules n d)) n) (λ _. true) 13 k refl
    below)

-- the second edition numbers all rules
second_number : (rule : Rule) → rule_number Second rule ≡ rule_place rule + 1
second_number NoAccount = refl
second_number NotAMember = refl
second_number AccountsAreClosed = refl
second_number SessionIsEmbargoed = refl
second_number BoardIsHeld = refl
second_number StillToPlay = refl
second_number OthersStillPlay = refl
second_number NeitherContestantNorSpectator = refl
second_number BoardIsIncomplete = refl
second_number AnalysisWaits = refl
second_number PlayWaits = refl
second_number ReasonIsForThePairs = refl
second_number NoResult = refl

-- how the first edition numbers a rule: not at all, by its place from 1, or after the first three by its place from 0
data FirstNumber (rule : Rule) : Type 0 where
  without : rule ≡ SessionIsEmbargoed → rule_number First rule ≡ 0 → FirstNumber rule
  early : rule_number First rule ≡ rule_place rule + 1 → rule_number First rule ≤ 3 → FirstNumber rule
  late : rule_number First rule ≡ rule_place rule → 4 ≤ rule_number First rule → FirstNumber rule

first_number : (rule : Rule) → FirstNumber rule
first_number NoAccount = early refl (omega arith)
first_number NotAMember = early refl (omega arith)
first_number AccountsAreClosed = early refl (omega arith)
first_number SessionIsEmbargoed = without refl refl
first_number BoardIsHeld = late refl (omega arith)
first_number StillToPlay = late refl (omega arith)
first_number OthersStillPlay = late refl (omega arith)
first_number NeitherContestantNorSpectator = late refl (omega arith)
first_number BoardIsIncomplete = late refl (omega arith)
first_number AnalysisWaits = late refl (omega arith)
first_number PlayWaits = late refl (omega arith)
first_number ReasonIsForThePairs = late refl (omega arith)
first_number NoResult = late refl (omega arith)

-- a rule that the first edition is without, or one that has a number in the edition
pub numbered : (edition : Edition) (rule : Rule) →
    ((edition ≡ First) × (rule ≡ SessionIsEmbargoed)) ⊎ (0 < rule_number edition rule)
numbered Second rule = inr (omega (arith, second_number rule))
numbered First rule = at (first_number rule)
  where
    at : FirstNumber rule → ((First ≡ First) × (rule ≡ SessionIsEmbargoed)) ⊎ (0 < rule_number First rule)
    at (without is none) = inl (refl, is)
    at (early place few) = inr (omega (arith, place))
    at (late place many) = inr (omega (arith, many))

-- a lower number is at an earlier place, but for the rule that the first edition is without
pub earlier : (edition : Edition) (other rule : Rule) → rule_number edition other < rule_number edition rule →
    ((edition ≡ First) × (other ≡ SessionIsEmbargoed)) ⊎ (rule_place other < rule_place rule)
earlier Second other rule less = inr (omega (arith, less, second_number other, second_number rule))
earlier First other rule less = at (first_number other) (first_number rule)
  where
    at : FirstNumber other → FirstNumber rule →
        ((First ≡ First) × (other ≡ SessionIsEmbargoed)) ⊎ (rule_place other < rule_place rule)
    at (without is none) theirs = inl (refl, is)
    at (early place few) (without is none) = absurd (omega (arith, less, none))
    at (early place few) (early theirs _) = inr (omega (arith, less, place, theirs))
    at (early place few) (late theirs many) = inr (omega (arith, less, place, few, theirs, many))
    at (late place many) (without is none) = absurd (omega (arith, less, none))
    at (late place many) (early theirs few) = absurd (omega (arith, less, many, few))
    at (late place many) (late theirs _) = inr (omega (arith, less, place, theirs))
