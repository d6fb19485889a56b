-- What is read of a session object is what it says, and the other way round.
use Rattle.std.proofs.Common.{
  ◌≡◌,
  ◌≢◌,
  ℕ,
  nat_eq,
  Bool,
  true,
  false,
  cond,
  List,
  [],
  ◌∷◌,
  codes,
  Option,
  Some,
  None,
  option_and_then,
  refl,
  sym,
  ap,
  subst,
  ◌∙◌,
  arith,
}
use Rattle.std.proofs.lemmas.Option.{same_Some}
use Rattle.serde_json.specs.Data.{Data}
use Rattle.serde_json.specs.Find.{get}
use Rattle.session_roles.specs.declared.edition.Edition.{Edition}
use Rattle.session_roles.specs.declared.edition.Edition.TheVariants.{First, Second}
use Rattle.session_roles.specs.Edition.{edition_number}
use Rattle.session_opening.specs.declared.new_user.NewUser.{NewUser}
use Rattle.json_fields.specs.Form.{HasForm}
use Rattle.json_fields.specs.User.{user_name, digest, user_roles, pair, absent, place, shown_name, member_number}
use Rattle.json_fields.specs.Field.{whole, limited, numbered, written}
use Rattle.json_fields.proofs.FormLemmas.{
  Agrees,
  AgreesForm,
  form_agrees,
  with_agrees,
  formed_read,
  formed_reads,
  kept,
  numbered_agrees,
}
use Rattle.json_fields.proofs.FormLemmas.{limited_agrees, called_agrees, written_agrees, listed_agrees}
use Rattle.json_fields.proofs.UserLemmas.{
  digest_agrees,
  user_roles_agree,
  pair_agrees,
  absent_agrees,
  place_agrees,
  shown_agrees,
  member_number_agrees,
}
use Rattle.json_fields.proofs.LetterLemmas.{find_nothing, found_passes}
use Rattle.session_object.specs.NoticeMembers.{title, date, reasons}
use Rattle.session_object.proofs.NoticeLemmas.{title_agrees, date_agrees, reasons_agree}
use Rattle.session_object.specs.AskedMovement.{asked_movement, shared_by, switched_rounds, stands_beside}
use Rattle.session_object.proofs.AskedLemmas.{asked_agrees, shared_by_agrees, switched_agrees, stands_read, stands_reads}
use Rattle.session_object.specs.Session.{
  Session,
  edition_numbered,
  edition_or_first,
  IsEdition,
  session_edition,
  edition_said,
  seated,
  unseated,
  user_form,
  new_user_of,
  IsUser,
  users,
  most_visits,
  with_boards,
  beside_boards,
  session_form,
  members_say,
  standing,
  session_of,
  IsSession,
}

-- ---- the edition

same_numbers : (m n : ℕ) → nat_eq m n ≡ true → m ≡ n
same_numbers m n h = grind arith

other_numbers : (m n : ℕ) (is : Bool) → nat_eq m n ≡ is → m ≢ n → is ≡ false
other_numbers m n true is other = absurd (other (same_numbers m n is))
other_numbers m n false is other = refl

edition_back : (edition : Edition) → edition_numbered (edition_number edition) ≡ Some edition
edition_back First = refl
edition_back Second = refl

pub edition_found : (number : ℕ) (edition : Edition) → edition_number edition ≡ number
    → Some edition ≡ edition_numbered number
edition_found number edition is = subst (λ n. Some edition ≡ edition_numbered n) is (sym (edition_back edition))

pub no_edition_found : (number : ℕ) → ((edition : Edition) → edition_number edition ≢ number)
    → None ≡ edition_numbered number
no_edition_found number none =
    sym (find_nothing (λ edition. nat_eq (edition_number edition) number) (First ∷ Second ∷ [])
    (λ edition. other_numbers (edition_number edition) number _ refl (none edition)))

number_read : (o : Option ℕ) (edition : Edition) → option_and_then edition_numbered o ≡ Some edition
    → o ≡ Some (edition_number edition)
number_read None edition h = absurd (cc)
number_read (Some number) edition h =
    ap Some (sym (same_numbers (edition_number edition) number
    (found_passes (λ other. nat_eq (edition_number other) number) (First ∷ Second ∷ []) edition h)))

edition_read : (o : Option Data) (edition : Edition) → edition_or_first o ≡ Some edition → IsEdition o edition
edition_read None edition h = cc
edition_read (Some d) edition h = number_read (whole d) edition h

edition_reads : (o : Option Data) (edition : Edition) → IsEdition o edition → edition_or_first o ≡ Some edition
edition_reads None edition is = ap Some (sym is)
edition_reads (Some d) edition is = ap (option_and_then edition_numbered) is ∙ edition_back edition

edition_agrees : Agrees session_edition
edition_agrees = record { read = edition_read; reads = edition_reads }

-- ---- users

module _ (edition : Edition) where
  seated_agrees : AgreesForm (seated edition)
  seated_agrees =
      with_agrees _ shown_name (with_agrees _ (user_roles edition)
      (with_agrees _ place (with_agrees _ pair (with_agrees _ member_number (with_agrees _ user_name
      (with_agrees _ digest (form_agrees [] _) digest_agrees) (called_agrees _)) member_number_agrees) pair_agrees)
      place_agrees) (user_roles_agree edition)) shown_agrees

  unseated_agrees : AgreesForm (unseated edition)
  unseated_agrees =
      with_agrees _ shown_name (with_agrees _ (user_roles edition) (with_agrees _ member_number (with_agrees _ user_name
      (with_agrees _ digest (form_agrees [] _) digest_agrees) (called_agrees _)) member_number_agrees)
      (user_roles_agree edition)) shown_agrees

  user_agrees : (o : Option Data) → AgreesForm (user_form edition o)
  user_agrees None = unseated_agrees
  user_agrees (Some _) = seated_agrees

  user_read : (d : Data) (user : NewUser) → new_user_of edition d ≡ Some user → IsUser edition d user
  unfolding new_user_of
  user_read d user h =
      formed_read [] (user_form edition (get (codes "pair") d)) (user_agrees (get (codes "pair") d)) d user h

  user_reads : (d : Data) (user : NewUser) → IsUser edition d user → new_user_of edition d ≡ Some user
  unfolding new_user_of
  user_reads d user is =
      formed_reads [] (user_form edition (get (codes "pair") d)) (user_agrees (get (codes "pair") d)) d user is

  users_agree : Agrees (users edition)
  users_agree = listed_agrees (codes "users") (new_user_of edition) (IsUser edition) user_read user_reads

  -- ---- sessions

  with_boards_agrees : AgreesForm (with_boards edition)
  with_boards_agrees =
      with_agrees _ (users edition) (with_agrees _ title (with_agrees _ (numbered (codes "tables"))
      (with_agrees _ switched_rounds (with_agrees _ shared_by (with_agrees _ (numbered (codes "rounds"))
      (with_agrees _ reasons (with_agrees _ (numbered (codes "per_set")) (with_agrees _ (written (codes "pbn"))
      (with_agrees _ asked_movement (with_agrees _ session_edition (with_agrees _ date
      (with_agrees _ (limited (codes "budget") most_visits)
      (with_agrees _ absent (form_agrees [] _) absent_agrees) (limited_agrees _ _)) date_agrees) edition_agrees)
      asked_agrees) (written_agrees _)) (numbered_agrees _)) reasons_agree) (numbered_agrees _)) shared_by_agrees)
      switched_agrees) (numbered_agrees _)) title_agrees) users_agree

  beside_boards_agrees : (given : List ℕ) → AgreesForm (beside_boards edition given)
  beside_boards_agrees given =
      with_agrees _ (users edition) (with_agrees _ title (with_agrees _ (numbered (codes "tables"))
      (with_agrees _ switched_rounds (with_agrees _ shared_by (with_agrees _ (numbered (codes "rounds"))
      (with_agrees _ reasons (with_agrees _ (numbered (codes "per_set")) (with_agrees _ asked_movement
      (with_agrees _ session_edition (with_agrees _ date (with_agrees _ (limited (codes "budget") most_visits)
      (with_agrees _ absent (form_agrees [] _) absent_agrees) (limited_agrees _ _)) date_agrees) edition_agrees)
      asked_agrees) (numbered_agrees _)) reasons_agree) (numbered_agrees _)) shared_by_agrees) switched_agrees)
      (numbered_agrees _)) title_agrees) users_agree

  session_agrees : (given : Option (List ℕ)) → AgreesForm (session_form edition given)
  session_agrees None = with_boards_agrees
  session_agrees (Some given) = beside_boards_agrees given

-- what the members say
members_read : (given : Option (List ℕ)) (d : Data) (session : Session) → members_say given d ≡ Some session
    → HasForm [] (session_form (edition_said (get (codes "edition") d)) given) d session
unfolding members_say
members_read given d session h =
    let edition = edition_said (get (codes "edition") d) in
    formed_read [] (session_form edition given) (session_agrees edition given) d session h

members_reads : (given : Option (List ℕ)) (d : Data) (session : Session)
    → HasForm [] (session_form (edition_said (get (codes "edition") d)) given) d session
    → members_say given d ≡ Some session
unfolding members_say
members_reads given d session is =
    let edition = edition_said (get (codes "edition") d) in
    formed_reads [] (session_form edition given) (session_agrees edition given) d session is

-- a session that is kept because its members may stand together
kept_standing : (o : Option Session) (session : Session) → option_and_then standing o ≡ Some session
    → (o ≡ Some session) × (stands_beside session.movement session.rounds session.shared_by session.switched ≡ true)
kept_standing None session h = absurd (cc)
kept_standing (Some said) session h =
    let both = kept (stands_beside said.movement said.rounds said.shared_by said.switched) (Some said) session h in
    let same : said ≡ session = same_Some said session both.1 in
    (both.1, subst (λ (s : Session). stands_beside s.movement s.rounds s.shared_by s.switched ≡ true) same both.0)

pub session_read : (given : Option (List ℕ)) (d : Data) (session : Session) → session_of given d ≡ Some session
    → IsSession given d session
session_read given d session h =
    let both = kept_standing (members_say given d) session h in
    record {
      members = members_read given d session both.0;
      together = stands_read session.movement session.rounds session.shared_by session.switched both.1;
    }

pub session_reads : (given : Option (List ℕ)) (d : Data) (session : Session) → IsSession given d session
    → session_of given d ≡ Some session
session_reads given d session is =
    ap (option_and_then standing) (members_reads given d session is.members)
    ∙ ap (λ b. cond b (Some session) None) (stands_reads session.movement session.rounds session.shared_by session.switched is.together)

-- an object says one session at most
pub one_session : (given : Option (List ℕ)) (d : Data) (one other : Session) → IsSession given d one
    → IsSession given d other → one ≡ other
one_session given d one other is_one is_other =
    same_Some one other (sym (session_reads given d one is_one) ∙ session_reads given d other is_other)
