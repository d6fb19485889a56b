-- Names to show, and what a session tells of itself, are told in the status alone.
use Rattle.std.proofs.Common.{◌≡◌, ◌≢◌, ℕ, ◌-◌, Bool, true, false, List, [], ◌∷◌, refl, ap, ◌∙◌}
use Rattle.std.specs.Prelude.{
  ◌&&◌,
  if◌then◌else◌,
  Option,
  Some,
  None,
  option_map,
  option_and_then,
  is_some,
  map,
  filter,
  filter_map,
  take,
  length,
  nat_le,
  nat_lt,
  slice_get,
}
use Rattle.std.specs.List.{find, flat_map}
use Rattle.std.specs.Option.{unwrap_or}
use Rattle.cards.specs.Hands.{Hands}
use Rattle.movement.specs.Movement.{Section}
use Rattle.disclosure_rules.specs.declared.fact.Fact.{Fact}
use Rattle.disclosure_rules.specs.declared.fact.Fact.TheVariants as fact
use Rattle.disclosure_rules.specs.declared.marks.Marks.{Marks}
use Rattle.disclosure_rules.specs.declared.public.Public.{Public}
use Rattle.disclosure_rules.specs.declared.viewer.Viewer.{Viewer}
use Rattle.notices.specs.declared.notices.Notices.{Notices}
use Rattle.query_filter.specs.Formula.{Formula}
use Rattle.session_state.specs.SessionState.{SessionState, viewer_of}
use Rattle.session_state.specs.Told.{told_as}
use Rattle.session_queries.specs.Content.{Content, content}
use Rattle.session_queries.specs.Facts.{boards, cells_of_board, facts, same_fact}
use Rattle.session_queries.specs.Query.{fact_of}
use Rattle.session_queries.specs.Reading.{
  as_public,
  as_accounts,
  as_pairs,
  as_hands,
  as_analysis,
  as_result,
  as_play,
  as_costs,
  as_reason,
  shown_public,
  shown_hands,
  shown_marks,
  result_at,
  shown_results,
}
use Rattle.session_queries.specs.Shown.{Shown, is_allowed, said, shown, content_shown}
use Rattle.session_queries.specs.declared.body.Body.TheVariants as body
use Rattle.session_queries.specs.declared.query.Query.{Query}
use Rattle.session_queries.specs.declared.query.Query.TheVariants as query
use Rattle.standings.specs.Ranking.{earnings_of, ranking_of}
use Rattle.standings.specs.Traveller.{traveller_rows}
use Rattle.published_view.specs.Answers.{
  answer_from,
  board_by,
  traveller_by,
  analysis_by,
  par_by,
  list_by,
  earnings_by,
  board_earnings,
  all_earnings,
  ranking_by,
  accounts_by,
}
use Rattle.published_view.specs.Listing.{outcomes_of, tricks_shown, passes, passes_with, is_listed, listed_from}
use Rattle.published_view.specs.Reply.{before_answer, body_of, reply_of}

module _ (state : SessionState) (names : List (List ℕ)) (notices : Notices) (viewer : Viewer) where
  abbrev told : SessionState
  told = told_as state names notices

  -- what is read of a fact is the same, where that of the public one is
  same_said : {A : Type 0} (read : Content → Option A) → read (content told fact.Public) ≡ read
      (content state fact.Public) → (asked : Fact) → read (content told asked) ≡ read (content state asked)
  same_said read public fact.Public = public
  same_said read public fact.Accounts = refl
  same_said read public (fact.Hands board) = refl
  same_said read public (fact.Analysis board) = refl
  same_said read public (fact.Result cell) = refl
  same_said read public (fact.Play cell) = refl
  same_said read public (fact.Cost cell) = refl
  same_said read public (fact.Reason cell) = refl

  -- and so of a fact among others
  same_among : {A : Type 0} (read : Content → Option A) → read (content told fact.Public) ≡ read
      (content state fact.Public) → (asked : Fact) (items : List Fact) →
      option_and_then read (content_shown (map (said told) items) asked)
      ≡ option_and_then read (content_shown (map (said state) items) asked)
  unfolding content_shown
  same_among read public asked [] = refl
  same_among read public asked (item ∷ items) = by_test (same_fact item asked) (same_among read public asked items)
    where
      by_test : (b : Bool) →
          option_and_then read (option_map (λ (shown : Shown). shown.content)
          (find (λ (shown : Shown). same_fact shown.fact asked) (map (said told) items)))
          ≡ option_and_then read (option_map (λ (shown : Shown). shown.content)
          (find (λ (shown : Shown). same_fact shown.fact asked) (map (said state) items))) →
          option_and_then read (option_map (λ (shown : Shown). shown.content) (if b then Some (said told item)
          else find (λ (shown : Shown). same_fact shown.fact asked) (map (said told) items)))
          ≡ option_and_then read (option_map (λ (shown : Shown). shown.content) (if b then Some (said state item)
          else find (λ (shown : Shown). same_fact shown.fact asked) (map (said state) items)))
      by_test true rest = same_said read public item
      by_test false rest = rest

  same : {A : Type 0} (read : Content → Option A) → read (content told fact.Public) ≡ read (content state fact.Public) →
      (asked : Fact) →
      option_and_then read (content_shown (shown told viewer) asked)
      ≡ option_and_then read (content_shown (shown state viewer) asked)
  unfolding shown
  same read public asked =
      same_among read public asked (filter (is_allowed state.public viewer) (facts state.public.movement))

  same_public : shown_public (shown told viewer) ≡ shown_public (shown state viewer)
  same_public = same as_public refl fact.Public

  same_marks : (board : ℕ) → shown_marks (shown told viewer) board ≡ shown_marks (shown state viewer) board
  same_marks board = ap (option_and_then (λ (public : Public). slice_get public.marks (board - 1))) same_public

  same_hands : (board : ℕ) → shown_hands (shown told viewer) board ≡ shown_hands (shown state viewer) board
  same_hands board = same as_hands refl (fact.Hands board)

  same_results : (section : Section) (board : ℕ) →
      shown_results section (shown told viewer) board ≡ shown_results section (shown state viewer) board
  same_results section board =
      λ i. filter_map (λ cell. option_map (result_at cell) (same as_result refl (fact.Result cell) i))
      (cells_of_board section board)

  -- ---- travellers

  same_traveller : (board : ℕ) (public : Option Public) (marks : Option Marks) →
      traveller_by (shown told viewer) board public marks ≡ traveller_by (shown state viewer) board public marks
  same_traveller board None marks = refl
  same_traveller board (Some public) None = refl
  same_traveller board (Some public) (Some marks) =
      λ i. body.Traveller board
      (traveller_rows public.movement marks.vulnerability (same_results public.movement board i))

  -- ---- lists

  same_passes : (section : Section) (formula : Option Formula) (board : ℕ) (marks : Option Marks) →
      passes_with section (shown told viewer) formula board marks
      ≡ passes_with section (shown state viewer) formula board marks
  same_passes section formula board None = refl
  same_passes section formula board (Some marks) = λ i. passes formula (record {
    vulnerability = marks.vulnerability;
    dealer = marks.dealer;
    outcomes = outcomes_of (same_results section board i);
    tricks = tricks_shown (same as_analysis refl (fact.Analysis board) i);
  })

  same_listed : (section : Section) (formula : Option Formula) (from : ℕ) →
      listed_from section (shown told viewer) formula from ≡ listed_from section (shown state viewer) formula from
  unfolding is_listed listed_from
  same_listed section formula from =
      λ i. filter (λ board. nat_le from board && (is_some (same_hands board i)
      && (same_passes section formula board (shown_marks (shown told viewer) board)
      ∙ ap (passes_with section (shown state viewer) formula board) (same_marks board)) i)) (boards section)

  same_list : (formula : Option Formula) (from limit : ℕ) (public : Option Public) →
      list_by (shown told viewer) formula from limit public ≡ list_by (shown state viewer) formula from limit public
  same_list formula from limit None = refl
  same_list formula from limit (Some public) =
      ap (λ listed. body.List (take limit listed) (nat_lt limit (length listed)))
      (same_listed public.movement formula from)

  -- ---- the ranking

  same_earned : (section : Section) (board : ℕ) (hands : Option Hands) (marks : Option Marks) →
      earnings_by section (shown told viewer) board hands marks
      ≡ earnings_by section (shown state viewer) board hands marks
  same_earned section board None marks = refl
  same_earned section board (Some hands) None = refl
  same_earned section board (Some hands) (Some marks) =
      ap (earnings_of section marks.vulnerability) (same_results section board)

  same_earnings : (section : Section) →
      all_earnings section (shown told viewer) ≡ all_earnings section (shown state viewer)
  unfolding all_earnings
  same_earnings section = λ i. flat_map (λ board. of_board board i) (boards section)
    where
      of_board : (board : ℕ) → board_earnings section (shown told viewer) board
          ≡ board_earnings section (shown state viewer) board
      of_board board =
          same_earned section board (shown_hands (shown told viewer) board) (shown_marks (shown told viewer) board)
          ∙ (λ i. earnings_by section (shown state viewer) board (same_hands board i) (same_marks board i))

  same_ranking : (public : Option Public) →
      ranking_by (shown told viewer) public ≡ ranking_by (shown state viewer) public
  same_ranking None = refl
  same_ranking (Some public) = ap (λ earned. body.Ranking (ranking_of public.movement earned))
      (same_earnings public.movement)

  -- ---- answers

  same_answer : (asked : Query) → asked ≢ query.Status →
      answer_from asked (shown told viewer) ≡ answer_from asked (shown state viewer)
  unfolding answer_from
  same_answer query.Status other = absurd (other refl)
  same_answer (query.Board board) other = λ i. board_by board (same_hands board i) (same_marks board i)
  same_answer (query.Traveller board) other =
      same_traveller board (shown_public (shown told viewer)) (shown_marks (shown told viewer) board)
      ∙ (λ i. traveller_by (shown state viewer) board (same_public i) (same_marks board i))
  same_answer (query.Analysis board) other =
      ap (analysis_by board) (same as_analysis refl (fact.Analysis board))
  same_answer (query.Par board) other =
      λ i. par_by board (same as_analysis refl (fact.Analysis board) i) (same_marks board i)
  same_answer (query.Play cell) other = ap (body.Play cell) (same as_play refl (fact.Play cell))
  same_answer (query.Costs cell) other = ap (body.Costs cell) (same as_costs refl (fact.Cost cell))
  same_answer (query.Reason cell) other = ap (body.Reason cell) (same as_reason refl (fact.Reason cell))
  same_answer (query.List formula from limit) other =
      same_list formula from limit (shown_public (shown told viewer))
      ∙ ap (list_by (shown state viewer) formula from limit) same_public
  same_answer query.Ranking other =
      same_ranking (shown_public (shown told viewer)) ∙ ap (ranking_by (shown state viewer)) same_public
  same_answer query.Accounts other =
      λ i. accounts_by (same as_accounts refl fact.Accounts i) (same as_pairs refl fact.Accounts i)

pub told_in_the_status : (state : SessionState) (names : List (List ℕ)) (notices : Notices) (version : ℕ)
    (user : List ℕ) (asked : Query) (since : ℕ) → asked ≢ query.Status →
    reply_of (told_as state names notices) version user asked since ≡ reply_of state version user asked since
unfolding body_of
told_in_the_status state names notices version user asked since other =
    λ i. record {
      version = version;
      body = unwrap_or (before_answer state.public version (viewer_of state user) (fact_of asked) since)
          (same_answer state names notices (viewer_of state user) asked other i);
    }
