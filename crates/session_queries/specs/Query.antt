-- What a query asks about, and the fact that decides whether it is answered.
use Rattle.disclosure_rules.specs.declared.fact.Fact.{Fact}
use Rattle.disclosure_rules.specs.declared.fact.Fact.TheVariants as fact
use Rattle.session_queries.specs.declared.query.Query.{Query}
use Rattle.session_queries.specs.declared.query.Query.TheVariants.{
  Status,
  Board,
  Traveller,
  Analysis,
  Par,
  Play,
  Costs,
  Reason,
}
use Rattle.session_queries.specs.declared.query.Query.TheVariants.{List, Ranking, Accounts}
use Rattle.session_queries.specs.declared.body.Body.{Body}
use Rattle.session_queries.specs.declared.body.Body.TheVariants.{NoSuchBoard, NoSuchCell}

-- the fact that decides whether a query is answered
abbrev pub fact_of : Query → Fact
fact_of Status = fact.Public
fact_of (Board board) = fact.Hands board
fact_of (Traveller board) = fact.Hands board
fact_of (Analysis board) = fact.Analysis board
fact_of (Par board) = fact.Analysis board
fact_of (Play cell) = fact.Play cell
fact_of (Costs cell) = fact.Cost cell
fact_of (Reason cell) = fact.Reason cell
fact_of (List filter from limit) = fact.Public
fact_of Ranking = fact.Public
fact_of Accounts = fact.Accounts

-- what is answered where the section hasn't what a fact belongs to
abbrev pub no_such_place : Fact → Body
no_such_place fact.Public = NoSuchBoard
no_such_place fact.Accounts = NoSuchBoard
no_such_place (fact.Hands board) = NoSuchBoard
no_such_place (fact.Analysis board) = NoSuchBoard
no_such_place (fact.Result cell) = NoSuchCell
no_such_place (fact.Play cell) = NoSuchCell
no_such_place (fact.Cost cell) = NoSuchCell
no_such_place (fact.Reason cell) = NoSuchCell
