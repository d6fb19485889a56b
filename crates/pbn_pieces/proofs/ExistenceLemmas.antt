-- Each text is cut.
use Rattle.std.proofs.Common.{ℕ, zero, suc, ◌≤◌, Bool, List, [], ◌∷◌, length, refl, ap, ◌∙◌, arith, length-append}
use Rattle.std.specs.Prelude.{None, if◌then◌else◌}
use Rattle.pbn_pieces.specs.Pieces.{Piece, spelled, starts_line, Joins}
use Rattle.pbn_pieces.specs.Cutting.{blank_line, piece_at, or_piece}
use Rattle.pbn_pieces.proofs.FirstPieceLemmas.{first_ok}
use Rattle.pbn_pieces.proofs.WalkLemmas.{spelled_front, has_bytes}

cut_within : (most : ℕ) (starting : Bool) (text : List ℕ) → length text ≤ most → (pieces : List Piece) ×
    Joins starting pieces text
cut_within most starting [] within = ([], refl)
cut_within zero starting (byte ∷ bytes) within = absurd (omega (arith, within))
cut_within (suc most) starting (byte ∷ bytes) within =
    let found : Piece × List ℕ = or_piece (if starting then blank_line (byte ∷ bytes) else None)
    (piece_at starting byte bytes) in
    let first = first_ok starting (byte ∷ bytes) found.0 found.1 refl in
    let long = ap length (first.0 ∙ spelled_front found.0 found.1) ∙ length-append (spelled found.0 []) found.1 in
    let more = cut_within most (starts_line found.0) found.1 (omega (arith, long, within, has_bytes found.0)) in
    (found.0 ∷ more.0, (found.1, first.0, first.1, more.1))

pub cut_each : (starting : Bool) (text : List ℕ) → (pieces : List Piece) × Joins starting pieces text
cut_each starting text = cut_within (length text) starting text (omega arith)
