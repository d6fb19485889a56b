-- The queries of an edition of the policy: objects, each with its word in the member `ask`.
use Rattle.std.specs.Prelude.{ℕ, List, [], ◌∷◌, codes, Option, IsSome}
use Rattle.serde_json.specs.Data.{Data}
use Rattle.session_queries.specs.declared.query.Query.{Query}
use Rattle.session_queries.specs.declared.query.Query.TheVariants as query
use Rattle.session_roles.specs.declared.edition.Edition.{Edition}
use Rattle.session_roles.specs.declared.edition.Edition.TheVariants.{First, Second}
use Rattle.json_fields.specs.Form.{Form, form, ◌with◌, by_word}
use Rattle.json_fields.specs.Message.{table, board}
use Rattle.command_object.specs.Command.{cell}
use Rattle.wire.specs.List.{filter, from, limit}

-- the queries that an edition has beside those of the first
abbrev pub added_queries : Edition → List (Form Query)
added_queries First = []
added_queries Second = (form (codes "par") (λ b. query.Par b) with board) ∷ []

-- each query of an edition: its word and its members; those of `list` may be left out
abbrev pub queries : Edition → List (Form Query)
queries edition =
    form (codes "status") query.Status
    ∷ form (codes "ranking") query.Ranking
    ∷ form (codes "accounts") query.Accounts
    ∷ (form (codes "board") (λ b. query.Board b) with board)
    ∷ (form (codes "traveller") (λ b. query.Traveller b) with board)
    ∷ (form (codes "analysis") (λ b. query.Analysis b) with board)
    ∷ (form (codes "play") (λ t b. query.Play (cell t b)) with table with board)
    ∷ (form (codes "costs") (λ t b. query.Costs (cell t b)) with table with board)
    ∷ (form (codes "reason") (λ t b. query.Reason (cell t b)) with table with board)
    ∷ (form (codes "list") (λ f n most. query.List f n most) with filter with from with limit)
    ∷ added_queries edition

-- what every query may have beside its own members; `since` may be left out
abbrev pub asking : List (List ℕ)
asking = codes "ask" ∷ codes "as" ∷ codes "since" ∷ []

-- the query of a word
abbrev pub query_called : Edition → List ℕ → Data → Option Query
query_called edition word d = by_word asking (queries edition) word d

-- ---- for private clauses

-- a list of the boards of which a filter holds
abbrev pub IsFiltered : Query → Type 0
IsFiltered query.Status = ⊥
IsFiltered (query.Board _) = ⊥
IsFiltered (query.Traveller _) = ⊥
IsFiltered (query.Analysis _) = ⊥
IsFiltered (query.Par _) = ⊥
IsFiltered (query.Play _) = ⊥
IsFiltered (query.Costs _) = ⊥
IsFiltered (query.Reason _) = ⊥
IsFiltered (query.List by _ _) = IsSome by
IsFiltered query.Ranking = ⊥
IsFiltered query.Accounts = ⊥
