-- What a view stands for.
use Rattle.std.specs.Prelude.{◌≡◌, ℕ, ◌+◌, Option, List, length, min, refl}
use Rattle.std.specs.Coded.{Coded, code_by, coded×, coded_ℕ}
use Rattle.session_state.specs.SessionState.{SessionState, session_code}
use Rattle.session_state.specs.Apply.{apply}
use Rattle.session_state.specs.Readers.{digest_of}
use Rattle.user_names.specs.declared.digest.Digest.{Digest}
use Rattle.session_commands.specs.declared.entry.Entry.{Entry}
use Rattle.session_book.specs.Replay.{replay}
use Rattle.session_queries.specs.declared.query.Query.{Query}
use Rattle.session_queries.specs.declared.reply.Reply.{Reply}
use Rattle.published_view.specs.Reply.{reply_of}

-- a state and its version
pub record Seen : Type 0 where
  pub state : SessionState
  pub version : ℕ

-- the greatest version that there is
abbrev pub most_versions : ℕ
most_versions = 18446744073709551615

-- the version of a list of entries: how many they are
abbrev pub version_of : List Entry → ℕ
version_of entries = min (length entries) most_versions

-- a view stands for a list of entries where its state is the one that they lead to, and its version is theirs
pub record StandsFor (opening : SessionState) (entries : List Entry) (seen : Seen) : Type 0 where
  pub state : seen.state ≡ replay opening entries
  pub version : seen.version ≡ version_of entries

-- the reply to a user's query after a list of entries
abbrev pub reply_after : SessionState → List Entry → List ℕ → Query → ℕ → Reply
reply_after opening entries user query since =
    reply_of (replay opening entries) (version_of entries) user query since

-- the digest of the token with which a user signs in after a list of entries, if there is such a user
abbrev pub digest_after : SessionState → List Entry → List ℕ → Option Digest
digest_after opening entries name = digest_of (replay opening entries) name

-- a state and its version, with an entry more
abbrev pub seen_after : Seen → Entry → Seen
seen_after seen entry = record { state = apply seen.state entry; version = min (seen.version + 1) most_versions }

-- a state and its version are stored as a pair
abbrev pub seen_code : Coded Seen
seen_code =
    code_by (SessionState × ℕ) (coded× session_code coded_ℕ) (λ s. (s.state, s.version))
    (λ p. record { state = p.0; version = p.1 }) (λ _. refl)
