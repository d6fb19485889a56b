-- For private clauses: how the reader's tags stand for those of the games.
use Rattle.std.specs.Prelude.{if◌then◌else◌, Option, Some, None, codes, bytes_eq}
use Rattle.pbn_records.specs.declared.used.Used.{Used}
use Rattle.pbn_records.specs.declared.used.Used.TheVariants.{Board, Dealer, Vulnerable, Deal}
use Rattle.pbn_records.specs.declared.tag_at.TagAt.{TagAt}
use Rattle.pbn_records.specs.declared.game.UsedTags.{UsedTags}
use Rattle.pbn_records.specs.Tags.{Valued}
use Rattle.pbn_records.specs.Values.{Values, inherited, read_value}

-- a tag, with its value as written
abbrev pub as_written : Option TagAt → Option Valued
as_written None = None
as_written (Some tag) = Some (record { offset = tag.offset; value = tag.value.now })

-- the used tag among these
abbrev pub tag_of : UsedTags → Used → Option TagAt
tag_of tags Board = tags.board
tag_of tags Dealer = tags.dealer
tag_of tags Vulnerable = tags.vulnerable
tag_of tags Deal = tags.deal

-- a tag, with its value as written, where `#` takes the value of the game before
abbrev pub inheriting : Option Valued → Option Valued → Option Valued
inheriting before None = None
inheriting before (Some tag) = if bytes_eq tag.value (codes "#") then inherited tag.offset before else Some tag

-- a tag, with its value as read
abbrev pub as_read : Option Valued → Option Valued
as_read None = None
as_read (Some tag) = Some (record { offset = tag.offset; value = read_value tag.value })

-- the values of these tags, as read
abbrev pub values_read : UsedTags → Values
values_read tags used = as_read (as_written (tag_of tags used))
