-- The reply to a query: the version that it is true of, and an answer, or what comes before one.
use Rattle.std.specs.Prelude.{ℕ, not, nat_lt, if◌then◌else◌, Option, Some, List}
use Rattle.std.specs.Option.{option_map, unwrap_or}
use Rattle.disclosure_rules.specs.declared.public.Public.{Public}
use Rattle.disclosure_rules.specs.declared.viewer.Viewer.{Viewer}
use Rattle.disclosure_rules.specs.declared.fact.Fact.{Fact}
use Rattle.denials.specs.Evidence.{denial_of}
use Rattle.session_state.specs.SessionState.{SessionState, viewer_of}
use Rattle.session_queries.specs.Facts.{has_place}
use Rattle.session_queries.specs.Shown.{shown}
use Rattle.session_queries.specs.declared.query.Query.{Query}
use Rattle.session_queries.specs.declared.body.Body.{Body}
use Rattle.session_queries.specs.declared.body.Body.TheVariants.{Behind, Denied}
use Rattle.session_queries.specs.declared.reply.Reply.{Reply}
use Rattle.published_view.specs.Answers.{answer_from}
use Rattle.session_queries.specs.Query.{fact_of, no_such_place}

-- what comes before an answer that a fact decides, at a version: a board or a cell that isn't there comes first, then
-- a version that is older than the user wants, then a rule that forbids the fact
unfoldable pub before_answer : Public → ℕ → Viewer → Fact → ℕ → Option Body
before_answer public version viewer asked since =
    if not (has_place public.movement asked) then Some (no_such_place asked)
    else if nat_lt version since then Some Behind
    else option_map Denied (denial_of public viewer asked)

-- what is answered to a user who wants no version older than the last
unfoldable pub body_of : SessionState → ℕ → List ℕ → Query → ℕ → Body
body_of state version user query since =
    let viewer = viewer_of state user in
    unwrap_or (before_answer state.public version viewer (fact_of query) since) (answer_from query (shown state viewer))

-- the reply to a user's query at a state and its version
abbrev pub reply_of : SessionState → ℕ → List ℕ → Query → ℕ → Reply
reply_of state version user query since =
    record { version = version; body = body_of state version user query since }
