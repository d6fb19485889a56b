-- Where a fault of the boards stands: the line of the PBN text.
use Rattle.std.specs.Prelude.{◌≡◌, ℕ, ◌+◌, nat_eq, List, take, count_by, Option, Some, None}
use Rattle.std.specs.Option.{IsSomeAnd}
use Rattle.serde_json.specs.Data.{Data}
use Rattle.json_fields.specs.Field.{text_at}
use Rattle.std.specs.Prelude.{codes}
use Rattle.pbn_records.specs.declared.deals_error.DealsError.{DealsError}
use Rattle.pbn_records.specs.declared.deals_error.DealsError.TheVariants.{
  BadTag,
  BadDeal,
  HiddenHand,
  BadMark,
  DealConflict,
  InheritedForm,
  MissingBoard,
  OutOfMemory,
}
use Rattle.session_object.specs.Reading.{IsObjectText}
use Rattle.session_object.specs.declared.session_fault.SessionFault.{SessionFault}
use Rattle.session_object.specs.declared.session_fault.SessionFault.TheVariants.{Deals}

-- the line of the byte at an offset, from 1: one more than there are line ends before it
abbrev pub line_at : List ℕ → ℕ → ℕ
line_at text offset = count_by (nat_eq 10) (take offset text) + 1

-- at which byte of the boards' text an error of it stands, if it is one at a byte
abbrev pub offset_of_error : DealsError → Option ℕ
offset_of_error (BadTag offset) = Some offset
offset_of_error (BadDeal offset) = Some offset
offset_of_error (HiddenHand offset) = Some offset
offset_of_error (BadMark offset) = Some offset
offset_of_error (DealConflict offset) = Some offset
offset_of_error (InheritedForm offset) = Some offset
offset_of_error (MissingBoard board) = None
offset_of_error OutOfMemory = None

-- the same of a fault of a session object
abbrev pub offset_of : SessionFault → Option ℕ
offset_of (Deals error) = offset_of_error error
offset_of _ = None

-- the PBN text of an object's boards: the one that is given beside it, or that of its member `pbn`
abbrev pub boards_text : Option (List ℕ) → Data → Option (List ℕ)
boards_text (Some deals) d = Some deals
boards_text None d = text_at (codes "pbn") d

-- the line of the byte at an offset of the boards' text of a session object
pub record IsLineIn (given : Option (List ℕ)) (text : List ℕ) (offset line : ℕ) : Type 0 where
  pub said : Data
  pub is : IsObjectText text said
  pub boards : List ℕ
  pub stands : boards_text given said ≡ Some boards
  pub counted : line ≡ line_at boards offset

-- the line is told where there is a byte, and else none is
abbrev pub LineIsTold : Option (List ℕ) → List ℕ → Option ℕ → Option ℕ → Type 0
LineIsTold given text None line = line ≡ None
LineIsTold given text (Some offset) line = IsSomeAnd line (IsLineIn given text offset)
