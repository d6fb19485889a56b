-- The four parts of a value, as they are kept.
use Rattle.std.proofs.Common.{◌≡◌, ℕ, List, ◌∷◌, sym, ap, ◌∙◌}
use Rattle.std.specs.Prelude.{Option, Some}
use Rattle.table_terms.specs.declared.place.Place.{Place}
use Rattle.pbn_pieces.proofs.CutLemmas.{some_same}
use Rattle.pbn_records.specs.declared.parts.FourParts.{FourParts}
use Rattle.pbn_records.specs.DealValue.{parts, four_of, HasParts}
use Rattle.pbn_records.specs.FourParts.{kept_parts}
use Rattle.pbn_records.proofs.PartsLemmas.{same_begin}

-- the first part is that with the player's letter
pub begin_is : (value : List ℕ) (four : Option FourParts) (kept : FourParts) (first : Place)
    (own left opposite right : List ℕ) →
    kept_parts four ≡ four_of (parts value) → four ≡ Some kept → (has : HasParts value first own left opposite right) →
    kept.begin.now ≡ has.letter ∷ 58 ∷ own
begin_is value four kept first own left opposite right are is has =
    same_begin _ _ _ _ (some_same _ _ (sym (ap kept_parts is) ∙ are ∙ ap four_of has.four))
