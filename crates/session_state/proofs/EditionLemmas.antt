-- No entries change the edition, be it that of what every member may see or that of the roles.
use Rattle.std.proofs.Common.{◌≡◌, List, [], ◌∷◌, refl, ◌∙◌}
use Rattle.std.specs.List.{fold}
use Rattle.session_commands.specs.declared.entry.Entry.{Entry}
use Rattle.session_state.specs.Apply.{apply}
use Rattle.session_state.specs.SessionState.{SessionState}
use Rattle.session_state.proofs.PartLemmas.{entry_part}

pub edition_kept : (state : SessionState) (entries : List Entry) → (fold apply state entries).public.edition ≡
    state.public.edition
edition_kept state [] = refl
edition_kept state (entry ∷ entries) = edition_kept (apply state entry) entries ∙ (entry_part state entry).edition

pub roles_edition_kept : (state : SessionState) (entries : List Entry) → (fold apply state entries).roles.edition ≡
    state.roles.edition
roles_edition_kept state [] = refl
roles_edition_kept state (entry ∷ entries) =
    roles_edition_kept (apply state entry) entries ∙ (entry_part state entry).roles_edition
