-- What belongs to a board that is forbidden to a user makes no difference to that user.
use Rattle.std.proofs.Common.{◌≡◌, ◌≢◌, ℕ, true, not, is_some, List, filter_map, find, nat_eq, refl, ap, ◌∙◌}
use Rattle.std.specs.Prelude.{Option, Some, None, option_map}
use Rattle.std.specs.Cmp.Lexicographic.{pointwise}
use Rattle.std.proofs.lemmas.Bool.{false≢true}
use Rattle.rbac.specs.Authorization.{authorized_roles}
use Rattle.disclosure_rules.specs.declared.fact.Fact.{Fact}
use Rattle.disclosure_rules.specs.declared.fact.Fact.TheVariants as fact
use Rattle.disclosure_rules.specs.declared.rule.Rule.{Rule}
use Rattle.disclosure_rules.specs.declared.seat.Seat.{Seat}
use Rattle.disclosure_rules.specs.Fact.{board_of_fact}
use Rattle.disclosure_rules.specs.Policy.{first_rule}
use Rattle.disclosure_rules.proofs.FirstLemmas.{hands_allowed}
use Rattle.rbac.specs.declared.account.Account.{Account}
use Rattle.session_state.specs.SessionState.{SessionState, viewer_of}
use Rattle.session_state.specs.declared.seated.Seated.{Seated}
use Rattle.session_state.specs.Readers.{shown_among}
use Rattle.session_queries.specs.declared.query.Query.{Query}
use Rattle.session_queries.specs.Content.{
  content,
  says_public,
  says_accounts,
  says_hands,
  says_analysis,
  says_result,
  says_play,
  says_costs,
  says_reason,
  tricks_of_deal,
  result_of,
  play_of,
  costs_of,
  reason_of,
}
use Rattle.session_queries.specs.Facts.{has_place}
use Rattle.session_queries.specs.Shown.{is_allowed}
use Rattle.session_queries.proofs.FactLemmas.{has_scheduled}
use Rattle.published_view.specs.Agreement.{DifferAt}
use Rattle.published_view.specs.Reply.{reply_of}
use Rattle.published_view.proofs.AgreementLemmas.{same_replies}

module _ (board : ℕ) (one other : SessionState) (user : List ℕ) (differ : DifferAt board one other)
    (forbidden : first_rule one.public (viewer_of one user) (fact.Hands board) ≢ None) where
  abbrev seat_among : List Seated → List ℕ → Option Seat
  seat_among seats name = option_map (λ seated. seated.seat)
      (find (λ (seated : Seated). pointwise nat_eq seated.name name) seats)

  same_viewer : viewer_of one user ≡ viewer_of other user
  same_viewer = λ i. record { roles = authorized_roles (differ.roles i) user; seat = seat_among (differ.seats i) user }

  same_public : content one fact.Public ≡ content other fact.Public
  same_public = λ i. says_public (differ.public i)
      (filter_map (λ (account : Account). option_map (λ seat. record { name = account.name; seat = seat })
      (seat_among (differ.seats i) account.name)) (differ.roles i).accounts)
      (shown_among (differ.roles i).accounts (differ.names i)) (differ.notices i)

  free : (rule : Option Rule) → not (is_some rule) ≡ true → rule ≡ None
  free None none = refl
  free (Some rule) none = absurd (false≢true none)

  -- an allowed fact of a board is of another board
  elsewhere : (asked : Fact) (number : ℕ) → board_of_fact asked ≡ Some number → is_allowed one.public
      (viewer_of one user) asked ≡ true → number ≢ board
  elsewhere asked number of_board allowed same =
      forbidden (hands_allowed one.public (viewer_of one user) asked board (of_board ∙ ap Some same)
      (free (first_rule one.public (viewer_of one user) asked) allowed))

  same_contents : (asked : Fact) → has_place one.public.movement asked ≡ true → is_allowed one.public
      (viewer_of one user) asked ≡ true →
      content one asked ≡ content other asked
  same_contents fact.Public has allowed = same_public
  same_contents fact.Accounts has allowed = λ i. says_accounts (differ.roles i).accounts (differ.roles i).pairs
  same_contents (fact.Hands number) has allowed =
      ap says_hands (differ.hands number has (elsewhere (fact.Hands number) number refl allowed))
  same_contents (fact.Analysis number) has allowed =
      ap (λ table. says_analysis (option_map tricks_of_deal table))
      (differ.analyses number has (elsewhere (fact.Analysis number) number refl allowed))
  same_contents (fact.Result cell) has allowed =
      ap (λ known. says_result (result_of known))
      (differ.cells cell (has_scheduled one.public.movement cell has) (elsewhere (fact.Result cell) cell.board refl allowed))
  same_contents (fact.Play cell) has allowed =
      ap (λ known. says_play (play_of known))
      (differ.cells cell (has_scheduled one.public.movement cell has) (elsewhere (fact.Play cell) cell.board refl allowed))
  same_contents (fact.Cost cell) has allowed =
      ap (λ known. says_costs (costs_of known))
      (differ.cells cell (has_scheduled one.public.movement cell has) (elsewhere (fact.Cost cell) cell.board refl allowed))
  same_contents (fact.Reason cell) has allowed =
      ap (λ known. says_reason (reason_of known))
      (differ.cells cell (has_scheduled one.public.movement cell has) (elsewhere (fact.Reason cell) cell.board refl allowed))

  pub hidden_replies : (version : ℕ) (query : Query) (since : ℕ) → reply_of one version user query since ≡ reply_of
      other version user query since
  hidden_replies version query since =
      same_replies one other user (record { viewer = same_viewer; public = same_public; contents = same_contents })
      version query since
