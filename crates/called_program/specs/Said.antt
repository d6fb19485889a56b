-- What the program says besides: what it writes to the place for errors.
use Rattle.std.specs.Prelude.{◌≡◌, ◌⊎◌, ℕ, Option, List, [], codes}
use Rattle.std.specs.Io.KnownBytes.{Appends}
use Rattle.clap.specs.Words.{Text}
use Rattle.operator_lines.specs.Obstacles.{ToldWhy}
use Rattle.operator_lines.specs.Serving as line
use Rattle.operator_lines.specs.Telling.{TellsLine}
use Rattle.operator_lines.specs.declared.serving_line.ServingLine.{ServingLine}
use Rattle.server_words.specs.Words.{AsksFor}
use Rattle.server_words.specs.declared.words.Words.{Words}
use Rattle.server_words.specs.declared.words.Words.TheVariants.{Script, Serve, Audit, Copy, Check, Prepare, Report}
use Rattle.server_words.specs.declared.words.Serving.{Serving}
use Rattle.server_words.specs.declared.words.SessionSource.{SessionSource}
use Rattle.server_words.specs.declared.words.SessionSource.TheVariants.{Files, Journal as Kept}

-- own: the line for who serves a session that nobody keeps
abbrev pub unkept_line : List ℕ
unkept_line = codes "bridge_server: without --journal nothing is kept when the server ends\n"

-- how a session is served is told, once its port is open
abbrev pub TellsServed : Option (List ℕ) → Option (List ℕ) → Type 0
TellsServed before after =
    ((serving : ServingLine) × line.TellsServing serving before after) ⊎ Appends before after []

-- the same of a session of files, of which is told first that nothing keeps it
abbrev pub TellsUnkept : Option (List ℕ) → Option (List ℕ) → Type 0
TellsUnkept before after = (told : Option (List ℕ)) × TellsLine before told unkept_line × TellsServed told after

-- what is said where a session was served to the end, and nothing else
abbrev pub IsToldServed : SessionSource → Option (List ℕ) → Option (List ℕ) → Type 0
IsToldServed (Files files) before after = TellsUnkept before after
IsToldServed (Kept path files) before after = TellsServed before after

-- why the program ends with this status is told, and before that nothing, or how a session of files was to be served
abbrev pub EndsUnkept : ℕ → Option (List ℕ) → Option (List ℕ) → Type 0
EndsUnkept status before after =
    (told : Option (List ℕ)) × (Appends before told [] ⊎ TellsUnkept before told) × ToldWhy status told after

-- the same of a journal's
abbrev pub EndsKept : ℕ → Option (List ℕ) → Option (List ℕ) → Type 0
EndsKept status before after = (told : Option (List ℕ)) × TellsServed before told × ToldWhy status told after

-- what is said where a session was to be served, and the status is neither 0 nor 1: why, and before that nothing, or how it
-- was to be served; of a journal's with 3 that, or why the journal isn't opened
abbrev pub IsToldUnserved : SessionSource → ℕ → Option (List ℕ) → Option (List ℕ) → Type 0
IsToldUnserved (Files files) status before after = EndsUnkept status before after
IsToldUnserved (Kept path files) status before after = (status ≡ 3) ⊎ EndsKept status before after

-- the session is a journal's
abbrev pub IsKeptSource : SessionSource → Type 0
IsKeptSource (Files files) = ⊥
IsKeptSource (Kept path files) = Unit {0}

-- what is asked for is of a journal, or a folder that is prepared
abbrev pub NamesJournal : Words → Type 0
NamesJournal Script = ⊥
NamesJournal (Serve serving) = IsKeptSource serving.source
NamesJournal (Audit path) = Unit {0}
NamesJournal (Copy copy) = Unit {0}
NamesJournal (Check checking) = ⊥
NamesJournal (Prepare preparing) = Unit {0}
NamesJournal (Report reporting) = Unit {0}

-- what is said before the program ends: nothing, or where words ask for a server how it serves
abbrev pub IsSaidFirst : List Text → Option (List ℕ) → Option (List ℕ) → Type 0
IsSaidFirst words before after =
    Appends before after []
    ⊎ ((serving : Serving) × AsksFor words (Serve serving) × IsToldServed serving.source before after)

-- own: what is said by words with a status that is neither 1 nor 2. With 0 it is that and no more; with 3 and 4 why, behind
-- that; or, with 3, why nothing comes of a journal or of a folder
abbrev pub IsSaidOnErrors : List Text → ℕ → Option (List ℕ) → Option (List ℕ) → Type 0
IsSaidOnErrors words status before after =
    ((status ≡ 0) × IsSaidFirst words before after)
    ⊎ ((told : Option (List ℕ)) × IsSaidFirst words before told × ToldWhy status told after)
    ⊎ ((status ≡ 3) × (asked : Words) × AsksFor words asked × NamesJournal asked)
