-- What the solver tells is of its own, and what is kept of it stays so.
use Rattle.std.proofs.Common.{
  ◌≡◌,
  ℕ,
  zero,
  suc,
  ◌-◌,
  Bool,
  true,
  false,
  List,
  [],
  ◌∷◌,
  get_or,
  inl,
  inr,
  refl,
  sym,
  ap,
  ◌∙◌,
  subst,
}
use Rattle.std.specs.Prelude.{◌⊎◌, Option, Some, None, is_some, not, ◌&&◌, slice_get, slice_set, if◌then◌else◌}
use Rattle.std.specs.Bool.{then_some, Decides}
use Rattle.std.specs.Cmp.Lexicographic.{pointwise_decides}
use Rattle.std.proofs.lemmas.Bool.{false≢true, eqb-true, eq-eqb}
use Rattle.cards.specs.Card.{number_in_pack}
use Rattle.cards.specs.CardBits.{same_number}
use Rattle.cards.specs.Hands.{Hands}
use Rattle.cards.specs.declared.card.Card.{Card}
use Rattle.session_state.proofs.cards_lemmas.CardBitsLemmas.{are_same_decides}
use Rattle.disclosure_rules.specs.Seating.{some_that}
use Rattle.disclosure_rules.specs.declared.public.Public.{Public}
use Rattle.movement.specs.declared.cell.Cell.{Cell}
use Rattle.movement.specs.Movement.{IsSection}
use Rattle.cards.specs.PlayedCards.{same_card}
use Rattle.rbac.specs.RoleData.{RoleData}
use Rattle.scoring.specs.declared.contract.Contract.{Contract}
use Rattle.scoring.specs.declared.outcome.Outcome.{Outcome}
use Rattle.scoring.specs.declared.outcome.Outcome.TheVariants.{PassedOut, Played}
use Rattle.session_state.proofs.scoring_lemmas.OutcomeLemmas.{same_outcome_decides}
use Rattle.solver_results.specs.PlayAnswer.{PlayedDeal}
use Rattle.session_state.specs.Apply.{apply, effect, confirmed}
use Rattle.session_commands.specs.CellState.{
  has_result,
  is_contract_of,
  same_play,
  is_played_as,
  is_counted,
  with_costs,
}
use Rattle.session_state.specs.OwnNumbers.{IsHandsOf, IsCostsOf, IsCounting, TellsOwn, KeepsOwn}
use Rattle.session_state.specs.Refusal.{first_cause, hindrance_of}
use Rattle.session_state.specs.SessionState.{
  SessionState,
  cell_at,
  table_at,
  same_hands,
  is_dealt,
  cell_index,
  IsPlaced,
}
use Rattle.session_commands.specs.declared.cell_state.CellState.{CellState}
use Rattle.session_commands.specs.declared.cell_state.CellState.TheVariants.{Empty, Entered, Confirmed, Ruled}
use Rattle.session_commands.specs.declared.command.Command.{Command}
use Rattle.session_commands.specs.declared.command.Command.TheVariants.{
  Enter,
  Confirm,
  Correct,
  Rule,
  Void,
  Solved,
  Analysed,
}
use Rattle.user_names.specs.declared.digest.Digest.{Digest}
use Rattle.session_commands.specs.declared.entry.Entry.{Entry}
use Rattle.session_commands.specs.declared.refusal.Refusal.{Refusal}
use Rattle.session_commands.specs.declared.refusal.Refusal.TheVariants.{
  NotLive,
  StrangeDeal,
  StrangePlay,
  AlreadySolved,
}
use Rattle.session_state.specs.declared.seated.Seated.{Seated}
use Rattle.session_state.proofs.HindranceLemmas.{rest_none, not_met, cell_unhindered, own_unhindered}
use Rattle.session_state.proofs.LiveLemmas.{own_place}
use Rattle.session_state.proofs.PartLemmas.{scheduled_placed}
use Rattle.session_state.proofs.SeatCauseLemmas.{was_not}

both : (a b : Bool) → (a && b) ≡ true → (a ≡ true) × (b ≡ true)
both true b is = (refl, is)
both false b is = absurd (false≢true is)

-- deals, plays and contracts that pass for one are one
same_hands_are : (a b : Hands) → same_hands a b ≡ true → a ≡ b
same_hands_are a b same =
    let first = both _ _ same in
    let second = both _ _ first.1 in
    let third = both _ _ second.1 in
    λ i. record {
      north = (are_same_decides a.north b.north).0 first.0 i;
      east = (are_same_decides a.east b.east).0 second.0 i;
      south = (are_same_decides a.south b.south).0 third.0 i;
      west = (are_same_decides a.west b.west).0 third.1 i;
    }

own_hands : (own : Option Hands) (hands : Hands) → some_that own (same_hands hands) ≡ true → own ≡ Some hands
own_hands None hands is = absurd (false≢true is)
own_hands (Some own) hands is = ap Some (sym (same_hands_are hands own is))

same_card_decides : (a b : Card) → Decides (same_card a b) (a ≡ b)
same_card_decides a b = ((λ same. same_number a b (eqb-true _ _ same)), (λ one. eq-eqb _ _ (ap number_in_pack one)))

same_play_are : (a b : List Card) → same_play a b ≡ true → a ≡ b
same_play_are a b same = (pointwise_decides same_card_decides a b).0 same

own_contract : (outcome : Outcome) (contract : Contract) → is_contract_of outcome contract ≡ true → (tricks : ℕ) ×
    (outcome ≡ Played contract tricks)
own_contract PassedOut contract is = absurd (false≢true is)
own_contract (Played own tricks) contract is =
    (tricks, (same_outcome_decides (Played own tricks) (Played contract tricks)).0 is)

none_there : (found : Option Hands) → is_some found ≡ false → found ≡ None
none_there None none = refl
none_there (Some hands) none = absurd (false≢true (sym none))

-- a table that nothing hinders is of the board's hands, and there was none
solved_own : (state : SessionState) (board : ℕ) (table : Hands) → hindrance_of state (Solved board table) ≡ None →
    IsHandsOf state.deals board table × (table_at state board ≡ None)
solved_own state board table unhindered =
    let strange = then_some (not (is_dealt state board table)) StrangeDeal in
    let solved = then_some (is_some (table_at state board)) AlreadySolved in
    let parts = rest_none strange (first_cause (solved ∷ [])) (own_unhindered state (Solved board table) unhindered) in
    let rest = rest_none solved None parts.1 in (
      own_hands _ table (was_not _ (not_met _ StrangeDeal parts.0)),
      none_there (table_at state board) (not_met _ AlreadySolved rest.0),
    )

-- a cell that has this contract and play, and whose cards are still to be counted, is confirmed without costs
counting : (known : CellState) (costs : PlayedDeal) → is_played_as known costs.contract costs.play ≡ true →
    is_counted known ≡ false →
    (outcome : Outcome) ×
    ((play : List Card) × ((known ≡ Confirmed outcome play None) ×
    ((is_contract_of outcome costs.contract && same_play play costs.play) ≡ true)))
counting Empty costs played free = absurd (false≢true played)
counting (Entered outcome play) costs played free = absurd (false≢true played)
counting (Confirmed outcome play None) costs played free = (outcome, (play, (refl, played)))
counting (Confirmed outcome play (Some old)) costs played free = absurd (false≢true (sym free))
counting (Ruled north_south east_west reason) costs played free = absurd (false≢true played)

-- costs that nothing hinders are of the cell's own
analysed_own : (state : SessionState) (cell : Cell) (costs : PlayedDeal) → hindrance_of state
    (Analysed cell costs) ≡ None →
    IsCounting state cell costs
analysed_own state cell costs unhindered =
    let known = cell_at state cell in
    let dead = then_some (not (has_result known)) NotLive in
    let strange = then_some (not (is_dealt state cell.board costs.deal && is_played_as known costs.contract costs.play))
    StrangePlay in
    let solved = then_some (is_counted known) AlreadySolved in
    let first = rest_none dead (first_cause (strange ∷ solved ∷ [])) (own_unhindered state (Analysed cell costs)
    unhindered) in
    let second = rest_none strange (first_cause (solved ∷ [])) first.1 in
    let third = rest_none solved None second.1 in
    let own = both _ _ (was_not _ (not_met _ StrangePlay second.0)) in
    let found = counting known costs own.1 (not_met _ AlreadySolved third.0) in
    let same = both _ _ found.1.1.1 in
    let contract = own_contract found.0 costs.contract same.0 in
    record {
      outcome = found.0;
      play = found.1.0;
      known = found.1.1.0;
      own = record {
        tricks = contract.0;
        hands = own_hands _ costs.deal own.0;
        contract = contract.1;
        play = same_play_are found.1.0 costs.play same.1;
      };
    }

-- what the solver tells where nothing hinders it is of its own
pub told_own : (state : SessionState) (command : Command) → hindrance_of state command ≡ None → TellsOwn state command
told_own state command unhindered = record {
  solved = λ board table is. solved_own state board table (sym (ap (hindrance_of state) is) ∙ unhindered);
  analysed = λ cell costs is. analysed_own state cell costs (sym (ap (hindrance_of state) is)
      ∙ unhindered);
}

-- what is read of a list with one item set is that item, in its place, or was there before
one_set : {A : Type 0} (xs : List A) (i k : ℕ) (x none y : A) → get_or (slice_set xs i x) k none ≡ y →
    ((x ≡ y) × (k ≡ i)) ⊎ (get_or xs k none ≡ y)
one_set [] i k x none y is = inr is
one_set (first ∷ xs) zero zero x none y is = inl (is, refl)
one_set (first ∷ xs) zero (suc k) x none y is = inr is
one_set (first ∷ xs) (suc i) zero x none y is = inr is
one_set (first ∷ xs) (suc i) (suc k) x none y is =
    elim (one_set xs i k x none y is) [
      | inl own ↦ inl (own.0, ap suc own.1)
      | inr other ↦ inr other
    ]

-- the costs that are kept of a cell, if there are any
abbrev costs_in : CellState → Option PlayedDeal
costs_in Empty = None
costs_in (Entered outcome play) = None
costs_in (Confirmed outcome play costs) = costs
costs_in (Ruled north_south east_west reason) = None

-- what is known of a cell with its board's hands: costs, if there are any, are its own
abbrev AreOwn : List Hands → ℕ → CellState → Type 0
AreOwn deals board known =
    (outcome : Outcome) (play : List Card) (costs : PlayedDeal) → known ≡ Confirmed outcome play (Some costs) →
    IsCostsOf deals board outcome play costs

costless : (deals : List Hands) (board : ℕ) (known : CellState) → costs_in known ≡ None → AreOwn deals board known
costless deals board known none outcome play costs is =
    let never : None ≡ Some costs = sym none ∙ ap costs_in is in absurd cc

-- a state that keeps its own numbers, with a part changed
module _ (state : SessionState) (keeps : KeepsOwn state) where
  unchanged : (roles : RoleData) (digests : List Digest) (names : List (List ℕ)) (seats : List Seated)
      (public : Public) → KeepsOwn (record {
        roles = roles;
        digests = digests;
        names = names;
        seats = seats;
        public = public;
        cells = state.cells;
        deals = state.deals;
        tables = state.tables;
        notices = state.notices;
      })
  unchanged roles digests names seats public = record { tables = keeps.tables; costs = keeps.costs }

  with_known : (own : Cell) (known : CellState) (public : Public) → IsPlaced own → AreOwn state.deals own.board known →
      KeepsOwn (record state { cells = slice_set state.cells (cell_index own) known; public = public })
  with_known own known public placed_own are_own = record {
    tables = keeps.tables;
    costs = λ cell outcome play costs placed_cell is.
        elim (one_set state.cells (cell_index own) (cell_index cell) known Empty (Confirmed outcome play (Some costs))
        is) [
          | inl set ↦
              subst (λ board. IsCostsOf state.deals board outcome play costs)
              (sym (own_place own cell placed_own placed_cell set.1).0)
              (are_own outcome play costs set.0)
          | inr other ↦ keeps.costs cell outcome play costs placed_cell other
        ];
  }

  with_confirmed : (own : Cell) (known : CellState) → IsPlaced own → KeepsOwn (confirmed state own known)
  with_confirmed own (Entered outcome play) placed_own =
      with_known own (Confirmed outcome play None) _ placed_own
      (costless state.deals own.board (Confirmed outcome play None) refl)
  with_confirmed own known placed_own = keeps

  with_table : (board : ℕ) (table : Hands) → IsHandsOf state.deals board table →
      KeepsOwn (record state { tables = slice_set state.tables (board - 1) (Some table) })
  with_table board table own = record {
    tables = λ other found is.
        elim (one_set state.tables (board - 1) (other - 1) (Some table) None (Some found) is) [
          | inl set ↦ ap (λ place. slice_get state.deals place) set.1 ∙ own ∙ set.0
          | inr before ↦ keeps.tables other found before
        ];
    costs = keeps.costs;
  }

  counted : (own : Cell) (costs : PlayedDeal) → IsCounting state own costs → AreOwn state.deals own.board
      (with_costs (cell_at state own) costs)
  counted own costs found outcome play other is =
      let same : Confirmed found.outcome found.play (Some costs) ≡ Confirmed outcome play (Some other) =
      sym (ap (λ known. with_costs known costs) found.known) ∙ is in
      let outcome_is : found.outcome ≡ outcome = cc in
      let play_is : found.play ≡ play = cc in
      let costs_is : costs ≡ other = cc in
      subst (λ (told : Outcome × (List Card × PlayedDeal)). IsCostsOf state.deals own.board told.0 told.1.0 told.1.1)
      (λ i. (outcome_is i, (play_is i, costs_is i))) found.own

  effect_keeps : IsSection state.public.movement → (command : Command) → hindrance_of state command ≡ None →
      KeepsOwn (effect state command)
  effect_keeps is_section (Enter cell outcome play) unhindered =
      with_known _ _ _ (scheduled_placed state _ is_section (cell_unhindered state (Enter cell outcome play)
      unhindered)) (costless _ _ (Entered outcome play) refl)
  effect_keeps is_section (Confirm cell outcome) unhindered =
      with_confirmed _ _ (scheduled_placed state _ is_section (cell_unhindered state (Confirm cell outcome)
      unhindered))
  effect_keeps is_section (Correct cell outcome play) unhindered =
      with_known _ _ _ (scheduled_placed state _ is_section (cell_unhindered state (Correct cell outcome play)
      unhindered)) (costless _ _ (Confirmed outcome play None) refl)
  effect_keeps is_section (Rule cell north_south east_west reason) unhindered =
      with_known _ _ _
      (scheduled_placed state _ is_section (cell_unhindered state (Rule cell north_south east_west reason)
      unhindered)) (costless _ _ (Ruled north_south east_west reason) refl)
  effect_keeps is_section (Void cell) unhindered =
      with_known _ _ _ (scheduled_placed state _ is_section (cell_unhindered state (Void cell) unhindered))
      (costless _ _ Empty refl)
  effect_keeps is_section (Solved board table) unhindered = with_table board table
      (solved_own state board table unhindered).0
  effect_keeps is_section (Analysed cell costs) unhindered =
      with_known _ _ _ (scheduled_placed state _ is_section (cell_unhindered state (Analysed cell costs)
      unhindered))
      (counted _ costs (analysed_own state cell costs unhindered))
  effect_keeps is_section command unhindered = unchanged _ _ _ _ _

-- each entry keeps them
pub entry_keeps : (state : SessionState) (entry : Entry) → IsSection state.public.movement → KeepsOwn state →
    KeepsOwn (apply state entry)
entry_keeps state entry is_section keeps = by_hindrance (hindrance_of state entry.command) refl
  where
    by_hindrance : (found : Option Refusal) → hindrance_of state entry.command ≡ found →
        KeepsOwn (if is_some found then state else effect state entry.command)
    by_hindrance (Some cause) found = keeps
    by_hindrance None found = effect_keeps state keeps is_section entry.command found
