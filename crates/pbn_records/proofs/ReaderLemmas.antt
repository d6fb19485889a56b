-- A game's board and its marks, by its tags as they are written.
use Rattle.std.proofs.Common.{◌≡◌, ℕ, Bool, false, List, sym, ap, subst, ◌∙◌}
use Rattle.std.specs.Prelude.{Option, Some, None, IfNone, not, if◌then◌else◌}
use Rattle.table_terms.specs.declared.place.Place.{Place}
use Rattle.table_terms.specs.declared.vulnerability.Vulnerability.{Vulnerability}
use Rattle.pbn_records.specs.declared.used.Used.TheVariants as used
use Rattle.pbn_records.specs.declared.tag_at.TagAt.{TagAt}
use Rattle.pbn_records.specs.Tags.{Valued}
use Rattle.pbn_records.specs.Values.{Values, read_value}
use Rattle.pbn_records.specs.MarkValue.{is_open, IsDealerValue, IsVulnerableValue}
use Rattle.pbn_records.specs.Boards.{board_number, is_there, number_in, game_board}
use Rattle.pbn_records.specs.Shown.{as_written, as_read}
use Rattle.pbn_records.specs.Kept.{HasBadDealer, HasBadVulnerable}
use Rattle.pbn_records.proofs.EscapeLemmas.{same_open, same_number}
use Rattle.pbn_records.proofs.FreeLemmas.{same_dealer, same_vulnerable}

pub board_of_tags : (boards : ℕ) (values : Values) (deal board : Valued) → values used.Deal ≡ Some
    (record { offset = deal.offset; value = read_value deal.value }) →
    values used.Board ≡ Some (record { offset = board.offset; value = read_value board.value }) → is_open deal.value ≡
    false →
    game_board boards values ≡ board_number boards board.value
board_of_tags boards values deal board d b there =
    (λ i. if is_there (d i) then number_in boards (b i) else None)
    ∙ ap (λ (b : Bool). if not b then board_number boards (read_value board.value) else None)
    (same_open deal.value ∙ there)
    ∙ same_number boards board.value

pub no_dealer : (tag : Option TagAt) (offset : ℕ) (written : List ℕ) (found : Option Place) →
    as_read (as_written tag) ≡ Some (record { offset = offset; value = read_value written }) → is_open written ≡ false →
    IfNone found ((place : Place) → ¬ IsDealerValue written place) → IfNone found
    (HasBadDealer (as_read (as_written tag)))
no_dealer tag offset written (Some found) is there none = none
no_dealer tag offset written None is there none =
    subst HasBadDealer (sym is)
    (record { there = same_open written ∙ there; none = λ place has. none place ((same_dealer place written).1 has) })

pub no_vulnerability : (tag : Option TagAt) (offset : ℕ) (written : List ℕ) (found : Option Vulnerability) →
    as_read (as_written tag) ≡ Some (record { offset = offset; value = read_value written }) → is_open written ≡ false →
    IfNone found ((vulnerability : Vulnerability) → ¬ IsVulnerableValue written vulnerability) → IfNone found
    (HasBadVulnerable (as_read (as_written tag)))
no_vulnerability tag offset written (Some found) is there none = none
no_vulnerability tag offset written None is there none =
    subst HasBadVulnerable (sym is)
    (record {
      there = same_open written ∙ there;
      none = λ vulnerability has. none vulnerability
          ((same_vulnerable vulnerability written).1 has);
    })
