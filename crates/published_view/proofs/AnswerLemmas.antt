-- What is answered from what is shown, where the fact that decides a query is allowed.
use Rattle.std.proofs.Common.{
  rules,
  ◌≡◌,
  ℕ,
  zero,
  suc,
  ◌-◌,
  ◌<◌,
  ◌≤◌,
  Bool,
  true,
  false,
  List,
  [],
  ◌∷◌,
  length,
  refl,
  sym,
  ap,
  ◌∙◌,
  arith,
}
use Rattle.std.specs.Prelude.{Option, Some, None, slice_get, is_none, is_some, not, ◌&&◌}
use Rattle.std.specs.Option.{option_and_then, option_map}
use Rattle.std.proofs.lemmas.Bool.{false≢true}
use Rattle.cards.specs.Hands.{Hands}
use Rattle.movement.specs.declared.cell.Cell.{Cell}
use Rattle.movement.specs.Movement.{IsSection, boards_of, has_board}
use Rattle.movement.proofs.CellLemmas.{cell_in_range}
use Rattle.movement.proofs.ScheduleTests.{scheduled-cell}
use Rattle.disclosure_rules.specs.declared.fact.Fact.{Fact}
use Rattle.disclosure_rules.specs.declared.fact.Fact.TheVariants as fact
use Rattle.disclosure_rules.specs.declared.marks.Marks.{Marks}
use Rattle.disclosure_rules.specs.declared.public.Public.{Public}
use Rattle.disclosure_rules.specs.declared.viewer.Viewer.{Viewer}
use Rattle.disclosure_rules.specs.Policy.{first_rule}
use Rattle.disclosure_rules.proofs.FirstLemmas.{public_allowed}
use Rattle.session_state.specs.Readers.{seats_in_order, shown_users}
use Rattle.session_state.specs.SessionState.{SessionState, cell_at, IsPlaced}
use Rattle.session_book.proofs.session_state_lemmas.ScheduleLemmas.{placed}
use Rattle.query_filter.specs.declared.trick_table.TrickTable.{TrickTable}
use Rattle.session_queries.specs.Facts.{has_table_on}
use Rattle.session_queries.specs.Content.{Content, analysis_of, play_of, costs_of, reason_of}
use Rattle.session_queries.specs.Par.{marked_par}
use Rattle.session_queries.specs.Reading.{
  as_public,
  as_accounts,
  as_pairs,
  as_hands,
  as_analysis,
  as_play,
  as_costs,
  as_reason,
  shown_public,
  shown_hands,
  shown_marks,
  shown_results,
  shown_analysis,
}
use Rattle.session_queries.specs.Shown.{Shown, is_allowed, shown}
use Rattle.session_queries.proofs.FactLemmas.{has_scheduled}
use Rattle.session_queries.proofs.ShownLemmas.{content_allowed, content_denied}
use Rattle.session_queries.specs.declared.body.Body.TheVariants as body
use Rattle.session_queries.specs.declared.query.Query.TheVariants as query
use Rattle.published_view.specs.Answers.{
  status_by,
  board_by,
  traveller_by,
  analysis_by,
  par_by,
  list_by,
  ranking_by,
  accounts_by,
  answer_from,
  earnings_by,
  board_earnings,
}
use Rattle.published_view.specs.Listing.{is_listed, passes, passes_with, facts_for, tricks_shown}
use Rattle.standings.specs.Ranking.{earnings_of}
use Rattle.disclosure_rules.specs.declared.rule.Rule.{Rule}
use Rattle.query_filter.specs.Formula.{Formula}

-- what becomes nothing is nothing
pub none_of_none : {A B : Type 0} (f : A → B) (o : Option A) → option_map f o ≡ None → o ≡ None
none_of_none f None none = refl
none_of_none f (Some x) none = absurd (cc)

-- what isn't seen is forbidden by some rule
pub not_seen : (rule : Option Rule) (sees : Bool) → sees ≡ is_none rule → not sees ≡ true → is_some rule ≡ true
not_seen None sees is hidden = absurd (false≢true (sym (ap not is) ∙ hidden))
not_seen (Some rule) sees is hidden = refl

-- a place is kept for a cell of the section
pub scheduled_placed : (state : SessionState) (cell : Cell) → IsSection state.public.movement →
    has_table_on state.public.movement cell ≡ true → IsPlaced cell
scheduled_placed state cell section has =
    placed state.public.movement cell section (cell_in_range state.public.movement cell section
    (scheduled-cell state.public.movement cell (has_scheduled state.public.movement cell has)))

module _ (state : SessionState) (viewer : Viewer) where
  -- where some fact is allowed, what every member may see is
  public_shown : (asked : Fact) → first_rule state.public viewer asked ≡ None → shown_public (shown state viewer) ≡ Some
      state.public
  public_shown asked none =
      ap (option_and_then as_public) (content_allowed state viewer fact.Public refl
      (public_allowed state.public viewer asked none))

  marks_shown : (asked : Fact) (board : ℕ) → first_rule state.public viewer asked ≡ None →
      shown_marks (shown state viewer) board ≡ slice_get state.public.marks (board - 1)
  marks_shown asked board none = ap (option_and_then (λ (public : Public). slice_get public.marks (board - 1)))
      (public_shown asked none)

  hands_shown : (board : ℕ) → has_board state.public.movement board ≡ true → first_rule state.public viewer
      (fact.Hands board) ≡ None →
      shown_hands (shown state viewer) board ≡ slice_get state.deals (board - 1)
  hands_shown board there none = ap (option_and_then as_hands) (content_allowed state viewer (fact.Hands board) there
      none)

  pub status_answered : first_rule state.public viewer fact.Public ≡ None →
      body.Status state.public (seats_in_order state) (shown_users state) state.notices ≡ answer_from query.Status (shown state viewer)
  unfolding answer_from
  status_answered none =
      sym (ap status_by (content_allowed state viewer fact.Public refl none))

  pub board_answered : (board : ℕ) (hands : Hands) (marks : Marks) → has_board state.public.movement board ≡ true →
      first_rule state.public viewer (fact.Hands board) ≡ None → slice_get state.deals (board - 1) ≡ Some hands →
      slice_get state.public.marks (board - 1) ≡ Some marks →
      body.Board board hands marks ≡ answer_from (query.Board board) (shown state viewer)
  unfolding answer_from
  board_answered board hands marks there none dealt marked =
      sym (λ i. board_by board ((hands_shown board there none ∙ dealt) i)
      ((marks_shown (fact.Hands board) board none ∙ marked) i))

  pub traveller_answered : (board : ℕ) → first_rule state.public viewer (fact.Hands board) ≡ None →
      traveller_by (shown state viewer) board (Some state.public) (slice_get state.public.marks (board - 1))
      ≡ answer_from (query.Traveller board) (shown state viewer)
  unfolding answer_from
  traveller_answered board none =
      sym (λ i. traveller_by (shown state viewer) board (public_shown (fact.Hands board) none i)
      (marks_shown (fact.Hands board) board none i))

  analysis_shown : (board : ℕ) → has_board state.public.movement board ≡ true →
      first_rule state.public viewer (fact.Analysis board) ≡ None →
      shown_analysis (shown state viewer) board ≡ Some (analysis_of state board)
  analysis_shown board there none =
      ap (option_and_then as_analysis) (content_allowed state viewer (fact.Analysis board) there none)

  pub analysis_answered : (board : ℕ) → has_board state.public.movement board ≡ true →
      first_rule state.public viewer (fact.Analysis board) ≡ None →
      body.Analysis board (analysis_of state board) ≡ answer_from (query.Analysis board) (shown state viewer)
  unfolding answer_from
  analysis_answered board there none =
      sym (ap (analysis_by board) (analysis_shown board there none))

  pub par_answered : (board : ℕ) (marks : Marks) → has_board state.public.movement board ≡ true →
      first_rule state.public viewer (fact.Analysis board) ≡ None →
      slice_get state.public.marks (board - 1) ≡ Some marks →
      body.Par board (option_map (marked_par marks) (analysis_of state board))
      ≡ answer_from (query.Par board) (shown state viewer)
  unfolding answer_from
  par_answered board marks there none marked =
      sym (λ i. par_by board (analysis_shown board there none i)
      ((marks_shown (fact.Analysis board) board none ∙ marked) i))

  pub play_answered : (cell : Cell) → has_table_on state.public.movement cell ≡ true →
      first_rule state.public viewer (fact.Play cell) ≡ None →
      body.Play cell (play_of (cell_at state cell)) ≡ answer_from (query.Play cell) (shown state viewer)
  unfolding answer_from
  play_answered cell there none =
      sym (ap (λ c. body.Play cell (option_and_then as_play c)) (content_allowed state viewer (fact.Play cell) there
      none))

  pub costs_answered : (cell : Cell) → has_table_on state.public.movement cell ≡ true →
      first_rule state.public viewer (fact.Cost cell) ≡ None →
      body.Costs cell (costs_of (cell_at state cell)) ≡ answer_from (query.Costs cell) (shown state viewer)
  unfolding answer_from
  costs_answered cell there none =
      sym (ap (λ c. body.Costs cell (option_and_then as_costs c)) (content_allowed state viewer (fact.Cost cell) there
      none))

  pub reason_answered : (cell : Cell) → has_table_on state.public.movement cell ≡ true →
      first_rule state.public viewer (fact.Reason cell) ≡ None →
      body.Reason cell (reason_of (cell_at state cell)) ≡ answer_from (query.Reason cell) (shown state viewer)
  unfolding answer_from
  reason_answered cell there none =
      sym (ap (λ c. body.Reason cell (option_and_then as_reason c)) (content_allowed state viewer (fact.Reason cell)
      there none))

  pub list_answered : (filter : Option Formula) (from limit : ℕ) → first_rule state.public viewer fact.Public ≡ None →
      list_by (shown state viewer) filter from limit (Some state.public)
      ≡ answer_from (query.List filter from limit) (shown state viewer)
  unfolding answer_from
  list_answered filter from limit none =
      sym (λ i. list_by (shown state viewer) filter from limit (public_shown fact.Public none i))

  pub ranking_answered : first_rule state.public viewer fact.Public ≡ None →
      ranking_by (shown state viewer) (Some state.public) ≡ answer_from query.Ranking (shown state viewer)
  unfolding answer_from
  ranking_answered none = sym (λ i. ranking_by (shown state viewer) (public_shown fact.Public none i))

  pub accounts_answered : first_rule state.public viewer fact.Accounts ≡ None →
      body.Accounts state.roles.accounts state.roles.pairs ≡ answer_from query.Accounts (shown state viewer)
  unfolding answer_from
  accounts_answered none =
      sym (ap (λ c. accounts_by (option_and_then as_accounts c) (option_and_then as_pairs c))
      (content_allowed state viewer fact.Accounts refl none))

-- an item at a place of a list
item_at : {X : Type 0} (xs : List X) (k : ℕ) → k < length xs → (x : X) × (slice_get xs k ≡ Some x)
item_at [] k below = absurd (omega (arith, below))
item_at (x ∷ xs) zero below = (x, refl)
item_at (x ∷ xs) (suc k) below = item_at xs k (omega (arith, below))

module _ (state : SessionState) (viewer : Viewer) (board : ℕ) where
  -- what is shown of the user
  abbrev items : List Shown
  items = shown state viewer

  -- of a board whose hands are forbidden no hands are shown
  hands_hidden : is_allowed state.public viewer (fact.Hands board) ≡ false → shown_hands items board ≡ None
  hands_hidden denied = ap (option_and_then as_hands) (content_denied state viewer (fact.Hands board) denied)

  forbidden : is_some (first_rule state.public viewer (fact.Hands board)) ≡ true → is_allowed state.public viewer
      (fact.Hands board) ≡ false
  forbidden some = ap not some

  free : (rule : Option Rule) → is_some rule ≡ false → rule ≡ None
  free None none = refl
  free (Some rule) none = absurd (cc)

  -- the results of a board whose hands are forbidden earn nothing
  pub nothing_earned : is_some (first_rule state.public viewer (fact.Hands board)) ≡ true →
      board_earnings state.public.movement items board ≡ []
  nothing_earned some =
      ap (λ hands. earnings_by state.public.movement items board hands (shown_marks items board))
      (hands_hidden (forbidden some))

  -- and it isn't listed
  pub not_listed : (filter : Option Formula) → is_some (first_rule state.public viewer (fact.Hands board)) ≡ true →
      false ≡ is_listed state.public.movement items filter board
  unfolding is_listed
  not_listed filter some =
      sym (ap (λ hands. is_some hands && passes_with state.public.movement items filter board (shown_marks items board))
      (hands_hidden (forbidden some)))

  module _ (there : has_board state.public.movement board ≡ true) (dealt : boards_of state.public.movement ≤ length
      state.deals)
      (none : is_some (first_rule state.public viewer (fact.Hands board)) ≡ false) where
    -- the board is dealt
    own : (hands : Hands) × (slice_get state.deals (board - 1) ≡ Some hands)
    own = item_at state.deals (board - 1) (omega (arith, from, to, dealt))
      where
        from : 1 ≤ board
        from = search rules

        to : board ≤ boards_of state.public.movement
        to = search rules

    own_shown : shown_hands items board ≡ Some own.0
    own_shown = hands_shown state viewer board there (free _ none) ∙ own.1

    -- what the results of a board earn whose hands are allowed
    pub board_earned : (marks : Marks) → slice_get state.public.marks (board - 1) ≡ Some marks →
        board_earnings state.public.movement items board
        ≡ earnings_of state.public.movement marks.vulnerability (shown_results state.public.movement items board)
    board_earned marks marked =
        λ i. earnings_by state.public.movement items board (own_shown i)
        ((marks_shown state viewer (fact.Hands board) board (free _ none) ∙ marked) i)

    -- and without marks, nothing
    pub unmarked_earned : slice_get state.public.marks (board - 1) ≡ None → board_earnings state.public.movement items
        board ≡ []
    unmarked_earned unmarked =
        λ i. earnings_by state.public.movement items board (own_shown i)
        ((marks_shown state viewer (fact.Hands board) board (free _ none) ∙ unmarked) i)

    -- whether it is listed
    pub listed_by : (filter : Option Formula) (marks : Marks) → slice_get state.public.marks (board - 1) ≡ Some marks →
        is_listed state.public.movement items filter board ≡ passes filter (facts_for state.public.movement items board
        marks)
    unfolding is_listed
    listed_by filter marks marked =
        λ i. is_some (own_shown i) && passes_with state.public.movement items filter board
        ((marks_shown state viewer (fact.Hands board) board (free _ none) ∙ marked) i)

-- the tricks of a board's analysis, where a rule forbids it and where none does
module _ (state : SessionState) (viewer : Viewer) (board : ℕ) where
  abbrev tricks_told : Option Content → Option TrickTable
  tricks_told told = tricks_shown (option_and_then as_analysis told)

  pub tricks_hidden : (rule : Option Rule) → first_rule state.public viewer (fact.Analysis board) ≡ rule →
      is_some rule ≡ true →
      None ≡ tricks_shown (shown_analysis (shown state viewer) board)
  tricks_hidden rule is forbids =
      sym (ap tricks_told (content_denied state viewer (fact.Analysis board)
      (ap (λ r. not (is_some r)) is ∙ ap not forbids)))

  pub tricks_free : (rule : Option Rule) → has_board state.public.movement board ≡ true →
      first_rule state.public viewer (fact.Analysis board) ≡ rule → is_some rule ≡ false →
      analysis_of state board ≡ tricks_shown (shown_analysis (shown state viewer) board)
  tricks_free None there is free = sym (ap tricks_told (content_allowed state viewer (fact.Analysis board) there is))
  tricks_free (Some rule) there is free = absurd (cc)
