-- What a log holds once an event was added to it, and what is told where it isn't in the log.
use Rattle.std.specs.Prelude.{◌≡◌, ℕ, Bool, true, false, List, [], ◌∷◌, ◌⊎◌, Option, codes}
use Rattle.std.specs.Io.KnownBytes.{Appends}
use Rattle.operator_lines.specs.Telling.{TellsLine}
use Rattle.script_lines.specs.Writing.{WritesPart}
use Rattle.event_log.specs.Lines.{IsLogLine}
use Rattle.event_log.specs.declared.event.Event.{Event}

-- a line behind one that was cut off begins with the end of that
abbrev pub mended : Bool → List ℕ → List ℕ
mended false line = line
mended true line = 10 ∷ line

-- the log has the event's line behind what it had
pub record IsLogged (cut : Bool) (at : Option ℕ) (event : Event) (before after : Option (List ℕ)) : Type 0 where
  pub line : List ℕ
  pub is_line : IsLogLine at event line
  pub appended : Appends before after (mended cut line)

-- it has a first part of it, or nothing more
pub record IsPartlyLogged (cut : Bool) (at : Option ℕ) (event : Event) (before after : Option (List ℕ)) : Type 0 where
  pub line : List ℕ
  pub is_line : IsLogLine at event line
  pub part : WritesPart before after (mended cut line)

-- the event's line isn't whole in the log
abbrev pub IsNotLogged : Bool → Option ℕ → Event → Option (List ℕ) → Option (List ℕ) → Type 0
IsNotLogged cut at event before after = Appends before after [] ⊎ IsPartlyLogged cut at event before after

-- own: what is told of a log that can't be written
abbrev pub unlogged_line : List ℕ
unlogged_line = codes "bridge_server: LogUnwritten (an event isn't in the log; this is told once)\n"

-- that an event isn't in the log is told where it wasn't before, and then no more
abbrev pub TellsOnce : Bool → Option (List ℕ) → Option (List ℕ) → Type 0
TellsOnce false errors errors_after = TellsLine errors errors_after unlogged_line
TellsOnce true errors errors_after = Appends errors errors_after []

-- the event's line is in the log, and nothing is told; or it isn't, and that is told once
abbrev pub IsHeard : Bool → Option ℕ → Event → Bool → Bool → Option (List ℕ) → Option (List ℕ) →
    Option (List ℕ) → Option (List ℕ) → Type 0
IsHeard cut at event told told_after before after errors errors_after =
    (IsLogged cut at event before after × (told_after ≡ told) × Appends errors errors_after [])
    ⊎ (IsNotLogged cut at event before after × (told_after ≡ true) × TellsOnce told errors errors_after)
