-- A status's members are put in the order in which they stand.
use Rattle.std.proofs.Common.{◌≡◌, [], List, refl}
use Rattle.serde_json.specs.Data.{no_members}
use Rattle.disclosure_rules.specs.declared.public.Public.{Public}
use Rattle.notices.specs.declared.notices.Notices.{Notices}
use Rattle.session_state.specs.declared.seated.Seated.{Seated}
use Rattle.session_state.specs.declared.shown_user.ShownUser.{ShownUser}
use Rattle.reply_texts.specs.Slots.{members_of, put_slots}
use Rattle.reply_texts.specs.StatusText.{first_slots, board_slots, progress_slots, last_slots, status_slots}
use Rattle.reply_texts.proofs.SlotLemmas.{in_order}

pub status_in_order : (public : Public) (seats : List Seated) (names : List ShownUser) (notices : Notices) →
    put_slots (last_slots public seats notices) (put_slots (progress_slots public notices)
    (put_slots (board_slots public names) (put_slots (first_slots public notices) no_members)))
    ≡ members_of (status_slots public seats names notices)
status_in_order public seats names notices = in_order [] (status_slots public seats names notices) refl
