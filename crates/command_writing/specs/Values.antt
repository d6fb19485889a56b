-- Values that there are: numbers, names, outcomes and plays are such as their types keep.
use Rattle.std.specs.Prelude.{◌≡◌, ◌<◌, ◌≤◌, ℕ, List, length}
use Rattle.hex.specs.Hex.{IsBytes}
use Rattle.user_names.specs.declared.digest.Digest.{Digest}
use Rattle.user_names.specs.declared.name.TheConstants.Name.{MOST}
use Rattle.cards.specs.declared.card.Card.{Card}
use Rattle.movement.specs.declared.cell.Cell.{Cell}
use Rattle.scoring.specs.declared.contract.Contract.{Contract}
use Rattle.scoring.specs.declared.outcome.Outcome.{Outcome}
use Rattle.scoring.specs.declared.outcome.Outcome.TheVariants.{PassedOut, Played}

-- a table and a board are small numbers
abbrev pub IsWritableCell : Cell → Type 0
IsWritableCell cell = (cell.table < 256) × (cell.board < 256)

-- a name has at most 32 bytes
abbrev pub IsName : List ℕ → Type 0
IsName name = length name ≤ MOST

-- a digest is 32 bytes
abbrev pub IsWritableDigest : Digest → Type 0
IsWritableDigest digest = (length digest.bytes ≡ 32) × IsBytes digest.bytes

-- a level is 1 to 7
abbrev pub IsContract : Contract → Type 0
IsContract contract = (1 ≤ contract.level) × (contract.level ≤ 7)

-- tricks are 0 to 13
abbrev pub IsWritableOutcome : Outcome → Type 0
IsWritableOutcome PassedOut = Unit {0}
IsWritableOutcome (Played contract won) = IsContract contract × (won ≤ 13)

-- a play has at most the 52 cards of the pack
abbrev pub IsWritablePlay : List Card → Type 0
IsWritablePlay play = length play ≤ 52
