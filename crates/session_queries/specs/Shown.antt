-- What a user is shown of a state: those facts that no rule of the policy forbids, with what they say.
use Rattle.std.specs.Prelude.{Bool, not, is_some, Option, List, [], ◌∷◌, map, filter}
use Rattle.std.specs.List.{find}
use Rattle.std.specs.Option.{option_map}
use Rattle.disclosure_rules.specs.declared.fact.Fact.{Fact}
use Rattle.disclosure_rules.specs.declared.public.Public.{Public}
use Rattle.disclosure_rules.specs.declared.viewer.Viewer.{Viewer}
use Rattle.disclosure_rules.specs.Policy.{first_rule}
use Rattle.session_state.specs.SessionState.{SessionState}
use Rattle.session_queries.specs.Content.{Content, content}
use Rattle.session_queries.specs.Facts.{facts, same_fact}

-- a fact with what it says
pub record Shown : Type 0 where
  pub fact : Fact
  pub content : Content

-- whether no rule forbids the user a fact
abbrev pub is_allowed : Public → Viewer → Fact → Bool
is_allowed public viewer asked = not (is_some (first_rule public viewer asked))

-- a fact with what it says of a state
abbrev pub said : SessionState → Fact → Shown
said state fact = record { fact = fact; content = content state fact }

-- what a user is shown of a state
unfoldable pub shown : SessionState → Viewer → List Shown
shown state viewer = map (said state) (filter (is_allowed state.public viewer) (facts state.public.movement))

-- what a fact says, where it is shown
unfoldable pub content_shown : List Shown → Fact → Option Content
content_shown items asked = option_map (λ item. item.content) (find (λ (item : Shown). same_fact item.fact asked) items)
