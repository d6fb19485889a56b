-- When there is no movement of a word: as of the list of its rows, but that none of them is misplaced.
use Rattle.std.proofs.Common.{◌≡◌, ℕ, ◌-◌, ◌*◌, ◌<◌, ◌⊎◌, inl, inr, true, false, refl, sym, ◌∙◌, subst, arith}
use Rattle.std.specs.Prelude.{Option, None, Some, IsSomeAnd}
use Rattle.std.proofs.lemmas.Bool.{and_parts, cases_lt, false≢true}
use Rattle.small_sets.specs.First.{IsFirst}
use Rattle.table_terms.specs.declared.pair.Pair.{Pair}
use Rattle.mitchell.specs.Mitchell.{MitchellSection, most_boards}
use Rattle.mitchell.specs.declared.movement_error.MovementError.{MovementError}
use Rattle.mitchell.specs.declared.movement_error.MovementError.TheVariants as cause
use Rattle.movement.specs.Listed.{is_seated}
use Rattle.movement.specs.Refusal.{Refuses, RefusesList, number_of, list_error_number}
use Rattle.movement.specs.Sound.{IsSound}
use Rattle.movement.specs.declared.list_error.ListError.{ListError}
use Rattle.movement.specs.declared.list_error.ListError.TheVariants.{BadTables, BadRounds, BadSets, BadRow, BadPair}
use Rattle.movement.proofs.SwitchedLemmas.{switched_sound}
use Rattle.named_movements.specs.Named.{limits_of_word, named_rows, is_mitchell, is_plain, RefusesNamed}
use Rattle.named_movements.specs.Words.{can_have_tables, can_have_rounds, sets_of_word, rows_of_word}
use Rattle.named_movements.specs.declared.movement_word.MovementWord.{MovementWord}
use Rattle.named_movements.specs.declared.movement_word.MovementWord.TheVariants.{Mitchell, Howell, ShareAndRelay, Web}
use Rattle.named_movements.specs.declared.named_movement.NamedMovement.{NamedMovement}
use Rattle.named_movements.proofs.FullLemmas.{IsFull}
use Rattle.named_movements.proofs.GoneThroughLemmas.{full}
use Rattle.named_movements.proofs.PairLemmas.{no_other, each_seated}
use Rattle.named_movements.proofs.SizeLemmas.{Sizes, sizes}

module _ (named : NamedMovement) (has_tables : can_have_tables named.word named.tables ≡ true)
    (has_rounds : can_have_rounds named.word named.tables named.rounds ≡ true) where
  size : Sizes named.word named.tables named.rounds
  size = sizes named.word named.tables named.rounds has_tables has_rounds

  each : IsFull named.word named.tables named.rounds
  each = full named.word named.tables named.rounds has_tables has_rounds

  -- its rows can be played
  pub named_sound : IsSound (limits_of_word named) (named_rows named)
  named_sound =
      switched_sound (limits_of_word named) (named.rounds - named.switched)
      (rows_of_word named.word named.tables named.rounds) each.sound

  -- a pair that it hasn't is seated nowhere
  to_pair : (absent : Option Pair) → IsSomeAnd absent (λ pair. (pair.number < 1) ⊎ (named.tables < pair.number)) →
      IsSomeAnd absent (λ pair. is_seated (named_rows named) pair ≡ false)
  to_pair None other = other
  to_pair (Some pair) other = no_other named size.from_rounds each pair other

  -- and a pair that is seated nowhere it hasn't
  of_pair : (absent : Option Pair) → IsSomeAnd absent (λ pair. is_seated (named_rows named) pair ≡ false) →
      IsSomeAnd absent (λ pair. (pair.number < 1) ⊎ (named.tables < pair.number))
  of_pair None other = other
  of_pair (Some pair) other =
      elim (cases_lt pair.number 1) [
        | inl few ↦ inl few
        | inr from ↦
            elim (cases_lt named.tables pair.number) [
              | inl many ↦ inr many
              | inr to ↦ absurd (false≢true (sym other ∙ each_seated named size.from_rounds each pair from to))
            ]
      ]

  pub to_list : (error : ListError) → RefusesNamed named error →
      RefusesList (limits_of_word named) named.per_set named.absent (named_rows named) error
  to_list BadTables refused = absurd (false≢true (sym refused ∙ has_tables))
  to_list BadRounds refused = absurd (false≢true (sym refused ∙ has_rounds))
  to_list BadSets (inl few) = inl few
  to_list BadSets (inr (inl many)) = inr (inl many)
  to_list BadSets (inr (inr boards)) = inr (inr (inr (inr boards)))
  to_list (BadRow misplaced) refused = absurd refused
  to_list BadPair refused = to_pair named.absent refused

  pub of_list : (error : ListError) →
      RefusesList (limits_of_word named) named.per_set named.absent (named_rows named) error → RefusesNamed named error
  of_list BadTables (inl few) = absurd (omega (arith, size.from_tables))
  of_list BadTables (inr many) = absurd (omega (arith, size.to_tables))
  of_list BadRounds refused = absurd (omega (arith, size.from_rounds))
  of_list BadSets (inl few) = inl few
  of_list BadSets (inr (inl many)) = inr (inl many)
  of_list BadSets (inr (inr (inl none))) = absurd (omega (arith, size.from_sets))
  of_list BadSets (inr (inr (inr (inl sets)))) = absurd (omega (arith, size.to_sets))
  of_list BadSets (inr (inr (inr (inr boards)))) = inr (inr boards)
  of_list (BadRow misplaced) refused = refused.1 named_sound
  of_list BadPair refused = of_pair named.absent refused

  -- the first cause of the one is that of the other
  pub first_of_list : (error : ListError) →
      IsFirst list_error_number (RefusesList (limits_of_word named) named.per_set named.absent (named_rows named))
      error →
      IsFirst list_error_number (RefusesNamed named) error
  first_of_list error first = record {
    holds = of_list error first.holds;
    least = λ other before refused. first.least other before (to_list other refused);
  }

-- ---- the plain Mitchell

-- the section of numbers alone
abbrev pub mitchell_numbers : NamedMovement → MitchellSection
mitchell_numbers named = record {
  tables = named.tables;
  rounds = named.rounds;
  per_set = named.per_set;
  absent = named.absent;
}

-- it has as many sets as tables
sets_are : (word : MovementWord) (tables rounds : ℕ) → is_mitchell word ≡ true → sets_of_word word tables rounds ≡ tables
sets_are Mitchell tables rounds plain = refl
sets_are Howell tables rounds plain = absurd (cc)
sets_are ShareAndRelay tables rounds plain = absurd (cc)
sets_are Web tables rounds plain = absurd (cc)

module _ (named : NamedMovement) (plain : is_plain named ≡ true)
    (has_tables : can_have_tables named.word named.tables ≡ true)
    (has_rounds : can_have_rounds named.word named.tables named.rounds ≡ true) where
  pub sets_to_mitchell : RefusesNamed named BadSets → Refuses cause.BadSets (mitchell_numbers named)
  sets_to_mitchell (inl few) = inl few
  sets_to_mitchell (inr (inl many)) = inr (inl many)
  sets_to_mitchell (inr (inr boards)) =
      let sets = sets_are named.word named.tables named.rounds (and_parts _ _ plain).0 in
      inr (inr (subst (λ (n : ℕ). most_boards < n * named.per_set) sets boards))

  pub allowed_mitchell : ((error : MovementError) → ¬ Refuses error (mitchell_numbers named)) → (error : ListError) →
      ¬ RefusesNamed named error
  allowed_mitchell allowed BadTables refused = absurd (false≢true (sym refused ∙ has_tables))
  allowed_mitchell allowed BadRounds refused = absurd (false≢true (sym refused ∙ has_rounds))
  allowed_mitchell allowed BadSets refused = allowed cause.BadSets (sets_to_mitchell refused)
  allowed_mitchell allowed (BadRow misplaced) refused = absurd refused
  allowed_mitchell allowed BadPair refused = allowed cause.BadPair refused

  -- the absent pair is the first cause where no cause before it holds
  pub first_is_pair : IsFirst number_of (λ error. Refuses error (mitchell_numbers named)) cause.BadPair →
      IsFirst list_error_number (RefusesNamed named) BadPair
  first_is_pair first = record { holds = first.holds; least = least }
    where
      least : (other : ListError) → list_error_number other < list_error_number BadPair → ¬ RefusesNamed named other
      least BadTables before refused = absurd (false≢true (sym refused ∙ has_tables))
      least BadRounds before refused = absurd (false≢true (sym refused ∙ has_rounds))
      least BadSets before refused = first.least cause.BadSets (omega arith) (sets_to_mitchell refused)
      least (BadRow misplaced) before refused = absurd refused
      least BadPair before refused = absurd (omega arith)
