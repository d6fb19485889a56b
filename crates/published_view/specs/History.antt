-- What holds of each reply in a history of a session.
use Rattle.std.specs.Prelude.{◌≡◌, ◌≢◌, ◌↔◌, ℕ, ◌+◌, ◌<◌, ◌≤◌, true, false, Option, Some}
use Rattle.std.specs.Prelude.{List, ◌∷◌, ◌++◌, length, take, Contains}
use Rattle.movement.specs.declared.cell.Cell.{Cell}
use Rattle.disclosure_rules.specs.declared.fact.Fact.{Fact}
use Rattle.disclosure_rules.specs.declared.marks.Marks.{Marks}
use Rattle.disclosure_rules.specs.declared.rule.Rule.{Rule}
use Rattle.disclosure_rules.specs.Policy.{forbids, rule_number}
use Rattle.denials.specs.declared.denial.Denial.{Denial}
use Rattle.denials.specs.Evidence.{board_named, table_named}
use Rattle.query_filter.specs.Formula.{Formula}
use Rattle.query_filter.specs.declared.trick_table.TrickTable.{TrickTable}
use Rattle.par.specs.declared.par.Par.{Par}
use Rattle.session_commands.specs.declared.entry.Entry.{Entry}
use Rattle.session_state.specs.SessionState.{SessionState, seat_of, viewer_of}
use Rattle.session_queries.specs.Content.{content}
use Rattle.session_queries.specs.Facts.{has_place}
use Rattle.session_queries.specs.Numbers.{IsAnalysisOf, IsCountOf, IsParOf}
use Rattle.session_queries.specs.Shown.{Shown, shown}
use Rattle.session_queries.specs.declared.card_costs.CardCosts.{CardCosts}
use Rattle.session_queries.specs.declared.card_costs.CardCosts.TheVariants.{Pending, NoCards}
use Rattle.session_book.specs.Exposure.{result_cell}
use Rattle.session_book.specs.Journal.{IsAccepted}
use Rattle.session_book.specs.Replay.{replay}
use Rattle.session_queries.specs.Query.{fact_of, no_such_place}
use Rattle.session_queries.specs.declared.body.Body.TheVariants as body
use Rattle.session_queries.specs.declared.query.Query.TheVariants as query
use Rattle.session_queries.specs.declared.reply.Reply.{Reply}
use Rattle.published_view.specs.Answers.{answer_from}
use Rattle.published_view.specs.Listing.{facts_for}
use Rattle.published_view.specs.World.{World, Reading, Read, Moment, now}

-- a reading in a history gives a reply, after what was earlier and before what is later
pub record IsGivenIn (history : List Moment) (reading : Reading) (reply : Reply) : Type 0 where
  pub earlier : List Moment
  pub after : World
  pub later : List Moment
  pub split : history ≡ later ++ record { step = Read reading; after = after } ∷ earlier
  pub given : reading.reply ≡ Some reply

-- the state of the version that a reply names
abbrev pub state_there : SessionState → List Moment → Reply → SessionState
state_there opening history reply = replay opening (take reply.version (now history).journal)

-- at some moment of a history the journal was these entries, and its version was published
pub record WasPublished (history : List Moment) (entries : List Entry) : Type 0 where
  pub earlier : List Moment
  pub later : List Moment
  pub split : history ≡ later ++ earlier
  pub journal : (now earlier).journal ≡ entries
  pub published : Contains (now earlier).published (length entries)

-- a reply names one published version: so many entries as the whole journal had when it was published at some moment
-- before, and no fewer than the display had seen. They were accepted, and with them the journal begins ever after
pub record NamesPublished (opening : SessionState) (history earlier : List Moment) (reading : Reading) (reply : Reply)
    : Type 0 where
  pub entries : List Entry
  pub version : reply.version ≡ length entries
  pub published : WasPublished earlier entries
  pub not_older : (now earlier).seen reading.display ≤ reply.version
  pub accepted : IsAccepted opening entries
  pub begins : take reply.version (now history).journal ≡ entries

-- no rule of the policy forbids the user the fact
abbrev pub IsAllowed : SessionState → List ℕ → Fact → Type 0
IsAllowed state user asked = (rule : Rule) → forbids rule state.public (viewer_of state user) asked ≡ false

-- a fact of the session that no rule forbids the user, with what it says
pub record IsAllowedFact (state : SessionState) (user : List ℕ) (item : Shown) : Type 0 where
  pub place : has_place state.public.movement item.fact ≡ true
  pub allowed : IsAllowed state user item.fact
  pub says : item.content ≡ content state item.fact

-- a reply is the written query over exactly the facts that its user is allowed. Where the session has no such board or
-- cell, it says so; else, where the version is older than the query wants, it says that; else, where some rule forbids
-- the fact that decides the query, it is a denial; else it is the answer, read from what is shown: each allowed fact,
-- and no other
pub record IsWritten (state : SessionState) (reading : Reading) (reply : Reply) : Type 0 where
  pub no_place : has_place state.public.movement (fact_of reading.query) ≡ false →
      reply.body ≡ no_such_place (fact_of reading.query)
  pub behind : has_place state.public.movement (fact_of reading.query) ≡ true → reply.version < reading.since →
      reply.body ≡ body.Behind
  pub denied : has_place state.public.movement (fact_of reading.query) ≡ true → reading.since ≤ reply.version →
      (rule : Rule) → forbids rule state.public (viewer_of state reading.user) (fact_of reading.query) ≡ true →
      (denial : Denial) × (reply.body ≡ body.Denied denial)
  pub answered : has_place state.public.movement (fact_of reading.query) ≡ true → reading.since ≤ reply.version →
      IsAllowed state reading.user (fact_of reading.query) →
      reply.body ≡ answer_from reading.query (shown state (viewer_of state reading.user))
  pub exactly : (item : Shown) →
      Contains (shown state (viewer_of state reading.user)) item ↔ IsAllowedFact state reading.user item

-- a denial names the first rule that forbids the user the fact, the board and the table from which that can be seen,
-- and the session's edition of the policy, in which the rule has its number
pub record NamesFirst (state : SessionState) (user : List ℕ) (asked : Fact) (denial : Denial) : Type 0 where
  pub named : forbids denial.rule state.public (viewer_of state user) asked ≡ true
  pub first : (other : Rule) →
      rule_number state.public.edition other < rule_number state.public.edition denial.rule →
      forbids other state.public (viewer_of state user) asked ≡ false
  pub board : denial.board ≡ board_named denial.rule asked
  pub table : denial.table ≡ table_named denial.rule state.public (seat_of state user) asked
  pub edition : denial.edition ≡ state.public.edition

-- each double-dummy number in a reply is the exhaustive one. Those of an analysis, and those by which a filter is
-- read, are of their board's hands; a par is that of such numbers, by what is marked on the board; those of costs are of
-- their board's hands, the contract and the cards as they were played. The hands are those with which the session opened
pub record IsExhaustive (opening state : SessionState) (reading : Reading) (reply : Reply) : Type 0 where
  pub deals : state.deals ≡ opening.deals
  pub analysis : (board : ℕ) (tricks : TrickTable) → reply.body ≡ body.Analysis board (Some tricks) →
      IsAnalysisOf state board tricks
  pub par : (board : ℕ) (par : Par) → reply.body ≡ body.Par board (Some par) → IsParOf state board par
  pub costs : (cell : Cell) (counted : CardCosts) → reply.body ≡ body.Costs cell (Some counted) →
      counted ≢ Pending → counted ≢ NoCards → IsCountOf state cell counted
  pub filter : (formula : Option Formula) (from limit board : ℕ) (marks : Marks) (tricks : TrickTable) →
      reading.query ≡ query.List formula from limit →
      (facts_for state.public.movement (shown state (viewer_of state reading.user)) board marks).tricks ≡ Some tricks →
      IsAnalysisOf state board tricks

-- two readings are for one user and one query, which wants a version since the same one
pub record AskTheSame (one other : Reading) : Type 0 where
  pub user : one.user ≡ other.user
  pub query : one.query ≡ other.query
  pub since : one.since ≡ other.since

-- an entry with a number above a version enters or confirms a result at a cell
pub record IsToldAfter (journal : List Entry) (version : ℕ) (before : List Entry) (cell : Cell) : Type 0 where
  pub entry : Entry
  pub after : List Entry
  pub split : journal ≡ before ++ entry ∷ after
  pub number : version < length before + 1
  pub result : result_cell entry.command ≡ Some cell
