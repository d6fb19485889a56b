-- What a reply says, case by case: what comes before an answer, a denial, an answer, and the numbers in it.
use Rattle.std.proofs.Common.{
  ◌≡◌,
  ◌≢◌,
  ℕ,
  ◌<◌,
  ◌≤◌,
  ◌⊎◌,
  Bool,
  true,
  false,
  not,
  if◌then◌else◌,
  nat_lt,
  List,
  refl,
  sym,
  ap,
  subst,
  ◌∙◌,
  inl,
  inr,
  arith,
}
use Rattle.std.specs.Prelude.{◌-◌, Option, Some, None, option_map, option_and_then, slice_get}
use Rattle.std.specs.Option.{unwrap_or}
use Rattle.std.proofs.lemmas.Bool.{false≢true}
use Rattle.cards.specs.Hands.{Hands}
use Rattle.movement.specs.declared.cell.Cell.{Cell}
use Rattle.movement.specs.Movement.{IsSection}
use Rattle.rbac.specs.declared.account.Account.{Account}
use Rattle.rbac.specs.declared.inheritance.Inheritance.{Inheritance}
use Rattle.disclosure_rules.specs.declared.fact.Fact.{Fact}
use Rattle.disclosure_rules.specs.declared.fact.Fact.TheVariants as fact
use Rattle.disclosure_rules.specs.declared.marks.Marks.{Marks}
use Rattle.disclosure_rules.specs.declared.public.Public.{Public}
use Rattle.disclosure_rules.specs.declared.rule.Rule.{Rule}
use Rattle.disclosure_rules.specs.declared.viewer.Viewer.{Viewer}
use Rattle.disclosure_rules.specs.Policy.{first_rule, forbids}
use Rattle.disclosure_rules.proofs.FirstLemmas.{none_forbids, no_first, first_forbids, none_before}
use Rattle.denials.specs.declared.denial.Denial.{Denial}
use Rattle.denials.specs.Evidence.{denial_by, denial_of}
use Rattle.query_filter.specs.Formula.{Formula}
use Rattle.query_filter.specs.declared.trick_table.TrickTable.{TrickTable}
use Rattle.par.specs.declared.par.Par.{Par}
use Rattle.session_state.specs.OwnNumbers.{KeepsOwn}
use Rattle.session_state.specs.SessionState.{SessionState, cell_at, seat_of, viewer_of}
use Rattle.session_queries.specs.Content.{
  Content,
  analysis_of,
  costs_of,
  says_public,
  says_accounts,
  says_hands,
  says_analysis,
  says_result,
  says_play,
  says_costs,
  says_reason,
}
use Rattle.session_queries.specs.Facts.{has_place, has_table_on}
use Rattle.session_queries.specs.Numbers.{IsAnalysisOf, IsCountOf, IsParOf}
use Rattle.session_queries.specs.Par.{marked_par}
use Rattle.session_queries.specs.Reading.{
  as_analysis,
  as_costs,
  as_public,
  shown_public,
  shown_accounts,
  shown_pairs,
  shown_hands,
  shown_marks,
  shown_analysis,
  shown_costs,
}
use Rattle.session_queries.specs.Shown.{Shown, shown, content_shown}
use Rattle.session_queries.specs.declared.card_costs.CardCosts.{CardCosts}
use Rattle.session_queries.specs.declared.card_costs.CardCosts.TheVariants.{Pending, NoCards}
use Rattle.session_queries.proofs.NumberLemmas.{analysis_own, costs_own}
use Rattle.session_queries.proofs.ParLemmas.{par_own}
use Rattle.session_queries.specs.Query.{fact_of, no_such_place}
use Rattle.session_queries.specs.declared.body.Body.{Body}
use Rattle.session_queries.specs.declared.body.Body.TheVariants as body
use Rattle.session_queries.specs.declared.query.Query.{Query}
use Rattle.session_queries.specs.declared.query.Query.TheVariants as query
use Rattle.published_view.specs.Answers.{
  answer_from,
  status_by,
  board_by,
  traveller_by,
  analysis_by,
  par_by,
  list_by,
  ranking_by,
  accounts_by,
}
use Rattle.published_view.specs.History.{IsAllowed, NamesFirst}
use Rattle.published_view.specs.Listing.{tricks_shown}
use Rattle.published_view.specs.Reply.{before_answer, body_of}
use Rattle.published_view.proofs.AnswerLemmas.{scheduled_placed}
use Rattle.published_view.proofs.ExactLemmas.{shown_says}

-- the kinds of bodies, numbered: four that are no answer, and one for each query
abbrev kind : Body → ℕ
kind body.NoSuchBoard = 0
kind body.NoSuchCell = 1
kind body.Behind = 2
kind (body.Denied denial) = 3
kind (body.Status public seats names notices) = 4
kind (body.Board board hands marks) = 5
kind (body.Traveller board rows) = 6
kind (body.Analysis board tricks) = 7
kind (body.Par board par) = 8
kind (body.Play cell cards) = 9
kind (body.Costs cell costs) = 10
kind (body.Reason cell code) = 11
kind (body.List boards more) = 12
kind (body.Ranking standings) = 13
kind (body.Accounts users pairs) = 14

-- the kind of the answers to a query
abbrev kind_asked : Query → ℕ
kind_asked query.Status = 4
kind_asked (query.Board board) = 5
kind_asked (query.Traveller board) = 6
kind_asked (query.Analysis board) = 7
kind_asked (query.Par board) = 8
kind_asked (query.Play cell) = 9
kind_asked (query.Costs cell) = 10
kind_asked (query.Reason cell) = 11
kind_asked (query.List formula from limit) = 12
kind_asked query.Ranking = 13
kind_asked query.Accounts = 14

kind_above : (asked : Query) → 3 < kind_asked asked
kind_above query.Status = omega arith
kind_above (query.Board board) = omega arith
kind_above (query.Traveller board) = omega arith
kind_above (query.Analysis board) = omega arith
kind_above (query.Par board) = omega arith
kind_above (query.Play cell) = omega arith
kind_above (query.Costs cell) = omega arith
kind_above (query.Reason cell) = omega arith
kind_above (query.List formula from limit) = omega arith
kind_above query.Ranking = omega arith
kind_above query.Accounts = omega arith

-- a body is of the kind, or says that there is no such board
abbrev IsOfKind : ℕ → Body → Type 0
IsOfKind k found = (kind found ≡ k) ⊎ (kind found ≡ 0)

status_kind : (said : Option Content) → IsOfKind 4 (status_by said)
status_kind None = inr refl
status_kind (Some (says_public public seats names notices)) = inl refl
status_kind (Some (says_accounts users pairs)) = inr refl
status_kind (Some (says_hands found)) = inr refl
status_kind (Some (says_analysis tricks)) = inr refl
status_kind (Some (says_result found)) = inr refl
status_kind (Some (says_play found)) = inr refl
status_kind (Some (says_costs found)) = inr refl
status_kind (Some (says_reason found)) = inr refl

board_kind : (board : ℕ) (hands : Option Hands) (marks : Option Marks) → IsOfKind 5 (board_by board hands marks)
board_kind board None marks = inr refl
board_kind board (Some hands) None = inr refl
board_kind board (Some hands) (Some marks) = inl refl

traveller_kind : (items : List Shown) (board : ℕ) (public : Option Public) (marks : Option Marks) →
    IsOfKind 6 (traveller_by items board public marks)
traveller_kind items board None marks = inr refl
traveller_kind items board (Some public) None = inr refl
traveller_kind items board (Some public) (Some marks) = inl refl

analysis_kind : (board : ℕ) (tricks : Option (Option TrickTable)) → IsOfKind 7 (analysis_by board tricks)
analysis_kind board None = inr refl
analysis_kind board (Some tricks) = inl refl

par_kind : (board : ℕ) (tricks : Option (Option TrickTable)) (marks : Option Marks) →
    IsOfKind 8 (par_by board tricks marks)
par_kind board None marks = inr refl
par_kind board (Some tricks) None = inr refl
par_kind board (Some tricks) (Some marks) = inl refl

list_kind : (items : List Shown) (formula : Option Formula) (from limit : ℕ) (public : Option Public) →
    IsOfKind 12 (list_by items formula from limit public)
list_kind items formula from limit None = inr refl
list_kind items formula from limit (Some public) = inl refl

ranking_kind : (items : List Shown) (public : Option Public) → IsOfKind 13 (ranking_by items public)
ranking_kind items None = inr refl
ranking_kind items (Some public) = inl refl

accounts_kind : (users : Option (List Account)) (pairs : Option (List Inheritance)) →
    IsOfKind 14 (accounts_by users pairs)
accounts_kind None pairs = inr refl
accounts_kind (Some users) None = inr refl
accounts_kind (Some users) (Some pairs) = inl refl

-- an answer is of its query's kind
answer_kind : (asked : Query) (items : List Shown) → IsOfKind (kind_asked asked) (answer_from asked items)
unfolding answer_from
answer_kind query.Status items = status_kind (content_shown items fact.Public)
answer_kind (query.Board board) items = board_kind board (shown_hands items board) (shown_marks items board)
answer_kind (query.Traveller board) items = traveller_kind items board (shown_public items) (shown_marks items board)
answer_kind (query.Analysis board) items = analysis_kind board (shown_analysis items board)
answer_kind (query.Par board) items = par_kind board (shown_analysis items board) (shown_marks items board)
answer_kind (query.Play cell) items = inl refl
answer_kind (query.Costs cell) items = inl refl
answer_kind (query.Reason cell) items = inl refl
answer_kind (query.List formula from limit) items = list_kind items formula from limit (shown_public items)
answer_kind query.Ranking items = ranking_kind items (shown_public items)
answer_kind query.Accounts items = accounts_kind (shown_accounts items) (shown_pairs items)

-- an answer of a kind above 0 is that of a query of the kind
kind_of_answer : (asked : Query) (items : List Shown) (found : Body) → answer_from asked items ≡ found →
    0 < kind found → kind_asked asked ≡ kind found
kind_of_answer asked items found is above =
    elim (answer_kind asked items) [
      | inl own ↦ sym own ∙ ap kind is
      | inr none ↦ absurd (omega (arith, above, sym (ap kind is) ∙ none))
    ]

-- only a query for an analysis is answered by one, and it is the one that is shown
analysis_answered : (asked : Query) (items : List Shown) (board : ℕ) (tricks : TrickTable) → answer_from asked items ≡
    body.Analysis board (Some tricks) →
    shown_analysis items board ≡ Some (Some tricks)
unfolding answer_from
analysis_answered query.Status items board tricks is =
    absurd (omega (arith, kind_of_answer query.Status items (body.Analysis board (Some tricks)) is (omega arith)))
analysis_answered (query.Board other) items board tricks is =
    absurd (omega (
      arith,
      kind_of_answer (query.Board other) items (body.Analysis board (Some tricks)) is
          (omega arith),
    ))
analysis_answered (query.Traveller other) items board tricks is =
    absurd (omega (
      arith,
      kind_of_answer (query.Traveller other) items (body.Analysis board (Some tricks)) is
          (omega arith),
    ))
analysis_answered (query.Analysis other) items board tricks is = by_shown (shown_analysis items other) refl is
  where
    by_shown : (found : Option (Option TrickTable)) → shown_analysis items other ≡ found → analysis_by other found ≡
        body.Analysis board (Some tricks) → shown_analysis items board ≡ Some (Some tricks)
    by_shown None at is = absurd (omega (arith, ap kind is))
    by_shown (Some said) at is =
        let here : other ≡ board = cc in
        let own : said ≡ Some tricks = cc in
        subst (λ b. shown_analysis items b ≡ Some (Some tricks)) here (at ∙ ap Some own)
analysis_answered (query.Par other) items board tricks is =
    absurd (omega (arith, kind_of_answer (query.Par other) items (body.Analysis board (Some tricks)) is (omega arith)))
analysis_answered (query.Play cell) items board tricks is =
    absurd (omega (arith, kind_of_answer (query.Play cell) items (body.Analysis board (Some tricks)) is (omega arith)))
analysis_answered (query.Costs cell) items board tricks is =
    absurd (omega (arith, kind_of_answer (query.Costs cell) items (body.Analysis board (Some tricks)) is (omega arith)))
analysis_answered (query.Reason cell) items board tricks is =
    absurd (omega (
      arith,
      kind_of_answer (query.Reason cell) items (body.Analysis board (Some tricks)) is
          (omega arith),
    ))
analysis_answered (query.List formula from limit) items board tricks is =
    absurd (omega (
      arith,
      kind_of_answer (query.List formula from limit) items (body.Analysis board (Some tricks)) is
          (omega arith),
    ))
analysis_answered query.Ranking items board tricks is =
    absurd (omega (arith, kind_of_answer query.Ranking items (body.Analysis board (Some tricks)) is (omega arith)))
analysis_answered query.Accounts items board tricks is =
    absurd (omega (arith, kind_of_answer query.Accounts items (body.Analysis board (Some tricks)) is (omega arith)))

-- only a query for a par is answered by one, and it is that of the analysis and the marks that are shown
record TellsPar (items : List Shown) (board : ℕ) (par : Par) : Type 0 where
  tricks : TrickTable
  marks : Marks
  analysis : shown_analysis items board ≡ Some (Some tricks)
  marked : shown_marks items board ≡ Some marks
  is : par ≡ marked_par marks tricks

par_answered : (asked : Query) (items : List Shown) (board : ℕ) (par : Par) → answer_from asked items ≡
    body.Par board (Some par) → TellsPar items board par
unfolding answer_from
par_answered query.Status items board par is =
    absurd (omega (arith, kind_of_answer query.Status items (body.Par board (Some par)) is (omega arith)))
par_answered (query.Board other) items board par is =
    absurd (omega (arith, kind_of_answer (query.Board other) items (body.Par board (Some par)) is (omega arith)))
par_answered (query.Traveller other) items board par is =
    absurd (omega (arith, kind_of_answer (query.Traveller other) items (body.Par board (Some par)) is (omega arith)))
par_answered (query.Analysis other) items board par is =
    absurd (omega (arith, kind_of_answer (query.Analysis other) items (body.Par board (Some par)) is (omega arith)))
par_answered (query.Par other) items board par is =
    by_shown (shown_analysis items other) (shown_marks items other) refl refl is
  where
    by_tricks : (tricks : Option TrickTable) (marks : Marks) → shown_analysis items other ≡ Some tricks →
        shown_marks items other ≡ Some marks → par_by other (Some tricks) (Some marks) ≡ body.Par board (Some par) →
        TellsPar items board par
    by_tricks None marks at marked is = absurd cc
    by_tricks (Some tricks) marks at marked is =
        let here : other ≡ board = cc in
        let same : marked_par marks tricks ≡ par = cc in
        record {
          tricks = tricks;
          marks = marks;
          analysis = subst (λ b. shown_analysis items b ≡ Some (Some tricks)) here at;
          marked = subst (λ b. shown_marks items b ≡ Some marks) here marked;
          is = sym same;
        }

    by_shown : (found : Option (Option TrickTable)) (marks : Option Marks) → shown_analysis items other ≡ found →
        shown_marks items other ≡ marks → par_by other found marks ≡ body.Par board (Some par) → TellsPar items board par
    by_shown None marks at marked is = absurd (omega (arith, ap kind is))
    by_shown (Some tricks) None at marked is = absurd (omega (arith, ap kind is))
    by_shown (Some tricks) (Some marks) at marked is = by_tricks tricks marks at marked is
par_answered (query.Play cell) items board par is =
    absurd (omega (arith, kind_of_answer (query.Play cell) items (body.Par board (Some par)) is (omega arith)))
par_answered (query.Costs cell) items board par is =
    absurd (omega (arith, kind_of_answer (query.Costs cell) items (body.Par board (Some par)) is (omega arith)))
par_answered (query.Reason cell) items board par is =
    absurd (omega (arith, kind_of_answer (query.Reason cell) items (body.Par board (Some par)) is (omega arith)))
par_answered (query.List formula from limit) items board par is =
    absurd (omega (
      arith,
      kind_of_answer (query.List formula from limit) items (body.Par board (Some par)) is
          (omega arith),
    ))
par_answered query.Ranking items board par is =
    absurd (omega (arith, kind_of_answer query.Ranking items (body.Par board (Some par)) is (omega arith)))
par_answered query.Accounts items board par is =
    absurd (omega (arith, kind_of_answer query.Accounts items (body.Par board (Some par)) is (omega arith)))

-- only a query for costs is answered by them, and they are those that are shown
record AsksCosts (asked : Query) (items : List Shown) (cell : Cell) (counted : CardCosts) : Type 0 where
  query : asked ≡ query.Costs cell
  shown : shown_costs items cell ≡ Some counted

costs_answered : (asked : Query) (items : List Shown) (cell : Cell) (counted : CardCosts) → answer_from asked items ≡
    body.Costs cell (Some counted) → AsksCosts asked items cell counted
unfolding answer_from
costs_answered query.Status items cell counted is =
    absurd (omega (arith, kind_of_answer query.Status items (body.Costs cell (Some counted)) is (omega arith)))
costs_answered (query.Board other) items cell counted is =
    absurd (omega (arith, kind_of_answer (query.Board other) items (body.Costs cell (Some counted)) is (omega arith)))
costs_answered (query.Traveller other) items cell counted is =
    absurd (omega (
      arith,
      kind_of_answer (query.Traveller other) items (body.Costs cell (Some counted)) is
          (omega arith),
    ))
costs_answered (query.Analysis other) items cell counted is =
    absurd (omega (
      arith,
      kind_of_answer (query.Analysis other) items (body.Costs cell (Some counted)) is
          (omega arith),
    ))
costs_answered (query.Par other) items cell counted is =
    absurd (omega (arith, kind_of_answer (query.Par other) items (body.Costs cell (Some counted)) is (omega arith)))
costs_answered (query.Play other) items cell counted is =
    absurd (omega (arith, kind_of_answer (query.Play other) items (body.Costs cell (Some counted)) is (omega arith)))
costs_answered (query.Costs other) items cell counted is =
    let here : other ≡ cell = cc in
    let own : shown_costs items other ≡ Some counted = cc in
    record { query = ap query.Costs here; shown = sym (ap (shown_costs items) here) ∙ own }
costs_answered (query.Reason other) items cell counted is =
    absurd (omega (arith, kind_of_answer (query.Reason other) items (body.Costs cell (Some counted)) is (omega arith)))
costs_answered (query.List formula from limit) items cell counted is =
    absurd (omega (
      arith,
      kind_of_answer (query.List formula from limit) items (body.Costs cell (Some counted)) is
          (omega arith),
    ))
costs_answered query.Ranking items cell counted is =
    absurd (omega (arith, kind_of_answer query.Ranking items (body.Costs cell (Some counted)) is (omega arith)))
costs_answered query.Accounts items cell counted is =
    absurd (omega (arith, kind_of_answer query.Accounts items (body.Costs cell (Some counted)) is (omega arith)))

-- what is answered where there is no such place is no more than that
place_kind : (asked : Fact) → kind (no_such_place asked) ≤ 1
place_kind fact.Public = omega arith
place_kind fact.Accounts = omega arith
place_kind (fact.Hands board) = omega arith
place_kind (fact.Analysis board) = omega arith
place_kind (fact.Result cell) = omega arith
place_kind (fact.Play cell) = omega arith
place_kind (fact.Cost cell) = omega arith
place_kind (fact.Reason cell) = omega arith

-- the numbers that are shown of a state are its own
module _ (state : SessionState) (viewer : Viewer) where
  analysis_shown_own : (board : ℕ) (tricks : TrickTable) → shown_analysis (shown state viewer) board ≡ Some
      (Some tricks) → analysis_of state board ≡ Some tricks
  analysis_shown_own board tricks is = by_said (content_shown (shown state viewer) (fact.Analysis board)) refl is
    where
      by_said : (told : Option Content) → content_shown (shown state viewer) (fact.Analysis board) ≡ told →
          option_and_then as_analysis told ≡ Some (Some tricks) → analysis_of state board ≡ Some tricks
      by_said None at is = absurd cc
      by_said (Some said) at is =
          let own : Some (analysis_of state board) ≡ Some (Some tricks) =
          sym (ap as_analysis (shown_says state viewer (fact.Analysis board) said at)) ∙ is in
          cc

  marks_shown_own : (board : ℕ) (marks : Marks) → shown_marks (shown state viewer) board ≡ Some marks →
      slice_get state.public.marks (board - 1) ≡ Some marks
  marks_shown_own board marks is = by_said (content_shown (shown state viewer) fact.Public) refl is
    where
      by_said : (told : Option Content) → content_shown (shown state viewer) fact.Public ≡ told →
          option_and_then (λ (public : Public). slice_get public.marks (board - 1)) (option_and_then as_public told)
          ≡ Some marks → slice_get state.public.marks (board - 1) ≡ Some marks
      by_said None at is = absurd cc
      by_said (Some said) at is =
          sym (ap (λ c. option_and_then (λ (public : Public). slice_get public.marks (board - 1)) (as_public c))
          (shown_says state viewer fact.Public said at)) ∙ is

  costs_shown_own : (cell : Cell) (counted : CardCosts) → shown_costs (shown state viewer) cell ≡ Some counted →
      costs_of (cell_at state cell) ≡ Some counted
  costs_shown_own cell counted is = by_said (content_shown (shown state viewer) (fact.Cost cell)) refl is
    where
      by_said : (told : Option Content) → content_shown (shown state viewer) (fact.Cost cell) ≡ told →
          option_and_then as_costs told ≡ Some counted → costs_of (cell_at state cell) ≡ Some counted
      by_said None at is = absurd cc
      by_said (Some said) at is = sym (ap as_costs (shown_says state viewer (fact.Cost cell) said at)) ∙ is

  -- the table by which a filter is read
  tricks_shown_own : (board : ℕ) (tricks : TrickTable) → tricks_shown (shown_analysis (shown state viewer) board) ≡ Some
      tricks → analysis_of state board ≡ Some tricks
  tricks_shown_own board tricks is = by_shown (shown_analysis (shown state viewer) board) refl is
    where
      by_shown : (found : Option (Option TrickTable)) → shown_analysis (shown state viewer) board ≡ found →
          tricks_shown found ≡ Some tricks → analysis_of state board ≡ Some tricks
      by_shown None at is = absurd cc
      by_shown (Some said) at is = analysis_shown_own board tricks (at ∙ ap Some is)

module _ (state : SessionState) (version : ℕ) (user : List ℕ) (asked : Query) (since : ℕ) where
  abbrev place : Bool
  place = has_place state.public.movement (fact_of asked)

  abbrev first : Option Rule
  first = first_rule state.public (viewer_of state user) (fact_of asked)

  abbrev denial : Rule → Denial
  denial rule = denial_by state.public (seat_of state user) (fact_of asked) rule

  -- what is answered, by whether there is such a place, whether a newer version is wanted, and which rule forbids the
  -- fact
  abbrev body_by : Bool → Bool → Option Rule → Body
  body_by has behind rule =
      unwrap_or
      (if not has then Some (no_such_place (fact_of asked)) else if behind then Some body.Behind else option_map
      body.Denied (option_map denial rule))
      (answer_from asked (shown state (viewer_of state user)))

  body_is : body_of state version user asked since ≡ body_by place (nat_lt version since) first
  unfolding body_of before_answer denial_of
  body_is = refl

  pub no_place : place ≡ false → body_of state version user asked since ≡ no_such_place (fact_of asked)
  no_place none = body_is ∙ ap (λ b. body_by b (nat_lt version since) first) none

  pub behind : place ≡ true → version < since → body_of state version user asked since ≡ body.Behind
  behind has older =
      let late : nat_lt version since ≡ true = grind (arith, older) in
      body_is ∙ (λ i. body_by (has i) (late i) first)

  in_time : since ≤ version → nat_lt version since ≡ false
  in_time enough = grind (arith, enough)

  some_first : (rule : Rule) → forbids rule state.public (viewer_of state user) (fact_of asked) ≡ true → (named : Rule)
      × (first ≡ Some named)
  some_first rule forbidden = by_first first refl
    where
      by_first : (found : Option Rule) → first ≡ found → (named : Rule) × (first ≡ Some named)
      by_first None none =
          absurd (false≢true (sym (none_forbids state.public (viewer_of state user) (fact_of asked) none rule)
          ∙ forbidden))
      by_first (Some named) is = (named, is)

  pub denied : place ≡ true → since ≤ version → (rule : Rule) → forbids rule state.public (viewer_of state user)
      (fact_of asked) ≡ true →
      (found : Denial) × (body_of state version user asked since ≡ body.Denied found)
  denied has enough rule forbidden =
      let named = some_first rule forbidden in
      (denial named.0, body_is ∙ (λ i. body_by (has i) (in_time enough i) (named.1 i)))

  pub answered : place ≡ true → since ≤ version → IsAllowed state user (fact_of asked) →
      body_of state version user asked since ≡ answer_from asked (shown state (viewer_of state user))
  answered has enough allowed =
      body_is ∙ (λ i. body_by (has i) (in_time enough i) (no_first state.public (viewer_of state user) (fact_of asked)
      allowed i))

  -- a denial is by the first rule
  by_rule : (has late : Bool) (rule : Option Rule) (found : Denial) → body_by has late rule ≡ body.Denied found →
      (named : Rule) × (rule ≡ Some named) × (found ≡ denial named)
  by_rule false late rule found is = absurd (omega (arith, ap kind is, place_kind (fact_of asked)))
  by_rule true true rule found is = absurd (omega (arith, ap kind is))
  by_rule true false None found is =
      absurd (omega (
        arith,
        kind_above asked,
        kind_of_answer asked (shown state (viewer_of state user))
            (body.Denied found) is (omega arith),
      ))
  by_rule true false (Some named) found is =
      let same : denial named ≡ found = cc in (named, refl, sym same)

  pub names_first : (found : Denial) → body_of state version user asked since ≡ body.Denied found →
      NamesFirst state user (fact_of asked) found
  names_first found is =
      let by = by_rule place (nat_lt version since) first found (sym body_is ∙ is) in
      subst (NamesFirst state user (fact_of asked)) (sym by.2)
      (record {
        named = first_forbids state.public (viewer_of state user) (fact_of asked) by.0 by.1;
        first = λ other less. none_before state.public (viewer_of state user) (fact_of asked) by.0 other by.1 less;
        board = refl;
        table = refl;
        edition = refl;
      })

  -- what is an answer comes where there is such a place, and is read from what is shown
  by_answer : (has late : Bool) (rule : Option Rule) (found : Body) → body_by has late rule ≡ found → 3 < kind found →
      (has ≡ true) × (answer_from asked (shown state (viewer_of state user)) ≡ found)
  by_answer false late rule found is above = absurd (omega (arith, above, ap kind is, place_kind (fact_of asked)))
  by_answer true true rule found is above = absurd (omega (arith, above, ap kind is))
  by_answer true false None found is above = (refl, is)
  by_answer true false (Some named) found is above = absurd (omega (arith, above, ap kind is))

  pub analysis_is : (board : ℕ) (tricks : TrickTable) → KeepsOwn state → body_of state version user asked since ≡
      body.Analysis board (Some tricks) → IsAnalysisOf state board tricks
  analysis_is board tricks keeps is =
      let answer = by_answer place (nat_lt version since) first (body.Analysis board (Some tricks)) (sym body_is ∙ is)
      (omega arith) in
      analysis_own state board tricks keeps
      (analysis_shown_own state (viewer_of state user) board tricks
      (analysis_answered asked (shown state (viewer_of state user)) board tricks answer.1))

  pub par_is : (board : ℕ) (par : Par) → KeepsOwn state → body_of state version user asked since ≡
      body.Par board (Some par) → IsParOf state board par
  par_is board par keeps is =
      let answer = by_answer place (nat_lt version since) first (body.Par board (Some par)) (sym body_is ∙ is)
      (omega arith) in
      let tells = par_answered asked (shown state (viewer_of state user)) board par answer.1 in
      par_own state board tells.marks par keeps (marks_shown_own state (viewer_of state user) board tells.marks tells.marked)
      (ap (option_map (marked_par tells.marks))
      (analysis_shown_own state (viewer_of state user) board tells.tricks tells.analysis)
      ∙ ap Some (sym tells.is))

  pub costs_are : (cell : Cell) (counted : CardCosts) → KeepsOwn state → IsSection state.public.movement →
      body_of state version user asked since ≡ body.Costs cell (Some counted) → counted ≢ Pending → counted ≢ NoCards →
      IsCountOf state cell counted
  costs_are cell counted keeps section is not_pending some_cards =
      let answer = by_answer place (nat_lt version since) first (body.Costs cell (Some counted)) (sym body_is ∙ is)
      (omega arith) in
      let asks = costs_answered asked (shown state (viewer_of state user)) cell counted answer.1 in
      let there : has_table_on state.public.movement cell ≡ true =
      sym (ap (λ q. has_place state.public.movement (fact_of q)) asks.query) ∙ answer.0 in
      costs_own state cell counted keeps (scheduled_placed state cell section there)
      (costs_shown_own state (viewer_of state user) cell counted asks.shown) not_pending some_cards

pub filter_is : (state : SessionState) (viewer : Viewer) (board : ℕ) (tricks : TrickTable) → KeepsOwn state →
    tricks_shown (shown_analysis (shown state viewer) board) ≡ Some tricks → IsAnalysisOf state board tricks
filter_is state viewer board tricks keeps is = analysis_own state board tricks keeps
    (tricks_shown_own state viewer board tricks is)
