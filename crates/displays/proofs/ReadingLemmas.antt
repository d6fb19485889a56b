-- What a display has read was foreknown by nobody.
use Rattle.std.proofs.Common.{◌≡◌, ◌∷◌, ◌++◌, List, sym, ap, subst, ◌∙◌, arith}
use mathlib.Core.List.{IsPrefix}
use Rattle.disclosure_rules.specs.Seating.{IsSeatedAt}
use Rattle.session_state.specs.SessionState.{SessionState, viewer_of}
use Rattle.session_commands.specs.declared.entry.Entry.{Entry}
use Rattle.session_book.specs.Journal.{IsAccepted, replay}
use Rattle.session_book.proofs.SpoilerLemmas.{none_foreknows}
use Rattle.history.proofs.PrefixLemmas.{prefix_shorter, prefix_trans}
use Rattle.displays.specs.Reading.{NoForeknowledge}

-- of one journal, what was seen and what was told are beginnings: so where an entry that was told has a number above
-- what was seen, all that was seen stands before it
pub foreknown : (opening : SessionState) (seen told now : List Entry) → IsPrefix seen now → IsPrefix told now →
    IsAccepted opening told → NoForeknowledge opening seen told
foreknown opening seen told now begins tells accepted user board before cell shown after of_board =
    let first : IsPrefix before told = (after.entry ∷ after.after, sym after.split) in
    let part : IsPrefix seen before =
    prefix_shorter seen before now begins (prefix_trans before told now first tells) (omega (arith, after.number)) in
    let parts : told ≡ seen ++ part.0 ++ after.entry ∷ after.after =
    after.split ∙ ap (λ (entries : List Entry). entries ++ after.entry ∷ after.after) (sym part.1) in
    subst (λ (entries : List Entry). ¬ IsSeatedAt (replay opening entries).public
    (viewer_of (replay opening entries) user) cell)
    part.1
    (none_foreknows opening seen part.0 after.after after.entry user board cell
    (subst (IsAccepted opening) parts accepted)
    shown after.result of_board)
