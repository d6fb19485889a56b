-- What is written of a session is read as that session.
use Rattle.std.proofs.Common.{◌≡◌, ◌<◌, ◌≤◌, ℕ, suc, true, cond, List, [], ◌∷◌, ◌++◌, length, map, codes, Option, Some, None, option_map, option_and_then, IfSome, All, refl, sym, ap, subst, ◌∙◌, arith}
use Rattle.hex.proofs.HexLemmas.{decode_sized-encode_lower}
use Rattle.hex.specs.Hex.{encode_lower, IsBytes}
use Rattle.user_names.specs.declared.name.TheConstants.Name.{MOST}
use Rattle.user_names.specs.declared.digest.Digest.{Digest}
use Rattle.serde_json.specs.Data.{Data, string, array, Items, no_items, item}
use Rattle.serde_json.specs.Find.{get, as_str}
use Rattle.serde_json.specs.View.{items_of}
use Rattle.table_terms.specs.declared.pair.Pair.{Pair}
use Rattle.table_terms.specs.declared.place.Place.{Place}
use Rattle.table_terms.specs.Place.{place_letter}
use Rattle.movement.specs.declared.row.Row.{Row}
use Rattle.disclosure_rules.specs.declared.seat.Seat.{Seat}
use Rattle.session_roles.specs.declared.edition.Edition.{Edition}
use Rattle.session_roles.specs.declared.edition.Edition.TheVariants.{First, Second}
use Rattle.session_roles.specs.Edition.{edition_number}
use Rattle.session_roles.specs.declared.role.Role.{Role}
use Rattle.session_roles.specs.Role.{is_role_of}
use Rattle.session_opening.specs.declared.new_user.NewUser.{NewUser}
use Rattle.json_fields.specs.Form.{Member, HasForm, AreEach, if_there}
use Rattle.json_fields.specs.Field.{numbered, limited, is_shown_within}
use Rattle.user_names.specs.MemberNumber.{is_member_number}
use Rattle.notices.specs.declared.notices.TheConstants.Notices.{MOST_TITLE, MOST_REASONS}
use Rattle.notices.specs.declared.notice_text.TheConstants.NoticeText.{MOST as MOST_REASON}
use Rattle.session_object.specs.NoticeMembers.{date, is_date, title, reasons, IsReason}
use Rattle.json_fields.specs.User.{member_number, shown_name, user_name, digest, user_roles, pair, absent, paired, place, IsPair, IsRole}
use Rattle.session_object.specs.declared.asked_movement.AskedMovement.{AskedMovement}
use Rattle.session_object.specs.declared.asked_movement.AskedMovement.TheVariants.{Nothing, Word, Rows}
use Rattle.session_object.specs.AskedMovement.{asked_movement, SaysMovement, IsRow, shared_by, switched_rounds}
use Rattle.session_object.specs.Session.{Session, most_visits, session_edition, edition_said, user_form, IsUser, users, beside_boards, IsSession}
use Rattle.session_text.specs.Members.{object_with}
use Rattle.session_text.specs.SessionData.{text_data, shown_name_data, reasons_data, whole_data, pair_data, named_role, roles_data, seat_pair, seat_place, user_members, user_data, row_data, asked_movement_data, session_members, session_data}
use Rattle.session_text.specs.Writable.{IsNumbered, IsShownOrNone, IsWritableUser, IsWritableRow, IsWritableMovement, IsWritableSession}
use Rattle.session_text.proofs.MembersLemmas.{left_at, or_none, stands, only_listed, rows_listed}

-- ---- members

-- a member is what the rows leave at its name
there : {A : Type 0} (m : Member A) (rows : List (List ℕ × Option Data)) (o : Option Data) (x : A)
    → left_at m.name rows None ≡ o → m.Is o x → m.Is (get m.name (object_with rows)) x
there m rows o x left is = subst (λ (found : Option Data). m.Is found x) (sym (stands m.name rows ∙ left)) is

are_each : {A : Type 0} (written : A → Data) (Is : Data → A → Type 0) (P : A → Type 0)
    → ((x : A) → P x → Is (written x) x) → (xs : List A) → All P xs → AreEach Is (items_of (map written xs)) xs
are_each written Is P back [] all = tt
are_each written Is P back (x ∷ xs) all = (
  back x (all 0 x (omega arith)),
  are_each written Is P back xs (λ k d below. all (suc k) d (omega (arith, below))),
)

-- ---- users

pair_is : (its : Pair) → IsNumbered its → IsPair (Some (pair_data its)) its
pair_is its numbers = record { is = refl; least = numbers.0; most = omega (arith, numbers.1) }

digest_is : (its : Digest) → length its.bytes ≡ 32 → IsBytes its.bytes
    → digest.Is (Some (string (encode_lower its.bytes))) its
digest_is its size bytes = (encode_lower its.bytes, refl, decode_sized-encode_lower its.bytes 32 size bytes)

number_is_said : (o : Option (List ℕ)) → IfSome o (λ number. is_member_number number ≡ true)
    → member_number.Is (text_data o) o
number_is_said None is = tt
number_is_said (Some number) is = record { is = refl; passes = is }

shown_is : (bytes : List ℕ) → IsShownOrNone bytes → shown_name.Is (shown_name_data bytes) bytes
shown_is [] is = refl
shown_is (byte ∷ bytes) is = record { is = refl; passes = is }

-- a user who sits somewhere, by the parts
abbrev sitting : Digest → List ℕ → Option (List ℕ) → Pair → Place → List Role → List ℕ → NewUser
sitting its name number at_pair at_place roles to_show = record {
  name = name;
  digest = its;
  roles = roles;
  seat = Some (record { pair = at_pair; place = at_place });
  shown = to_show;
  number = number;
}

-- and one who sits nowhere
abbrev standing_by : Digest → List ℕ → Option (List ℕ) → List Role → List ℕ → NewUser
standing_by its name number roles to_show =
    record { name = name; digest = its; roles = roles; seat = None; shown = to_show; number = number }

module _ (edition : Edition) where
  role_is : (role : Role) → is_role_of edition role ≡ true → IsRole edition (as_str (named_role role)) role
  role_is role known = record { is = refl; known = known }

  roles_are : (roles : List Role) → All (λ role. is_role_of edition role ≡ true) roles
      → (user_roles edition).Is (Some (roles_data roles)) roles
  roles_are roles known = (
    items_of (map named_role roles),
    refl,
    are_each named_role (λ d role. IsRole edition (as_str d) role) (λ role. is_role_of edition role ≡ true) role_is
        roles known,
  )

  user_is_at : (name : List ℕ) (its : Digest) (roles : List Role) (seat : Option Seat) (to_show : List ℕ)
      (number : Option (List ℕ)) → IsWritableUser edition (record { name = name; digest = its; roles = roles; seat = seat; shown = to_show; number = number })
      → IsUser edition (user_data (record { name = name; digest = its; roles = roles; seat = seat; shown = to_show; number = number })) (record { name = name; digest = its; roles = roles; seat = seat; shown = to_show; number = number })
  user_is_at name its roles None to_show number is =
      let user : NewUser = record { name = name; digest = its; roles = roles; seat = None; shown = to_show; number = number } in
      let rows = user_members user in
      subst (λ (o : Option Data). HasForm [] (user_form edition o) (object_with rows) user)
      (sym (stands (codes "pair") rows)) (record {
        listed = only_listed (codes "digest" ∷ codes "name" ∷ codes "number" ∷ codes "roles" ∷ codes "shown" ∷ []) rows refl;
        made = (
          standing_by its name number roles,
          to_show,
          (
            standing_by its name number,
            roles,
            (
              standing_by its name,
              number,
              (
                standing_by its,
                name,
                (
                  standing_by,
                  its,
                  refl,
                  there digest rows (Some (string (encode_lower its.bytes))) its refl (digest_is its is.size is.bytes),
                  refl,
                ),
                there user_name rows (Some (string name)) name refl (record { is = refl; short = is.name }),
                refl,
              ),
              there member_number rows (text_data number) number (or_none (text_data number)) (number_is_said number is.number),
              refl,
            ),
            there (user_roles edition) rows (Some (roles_data roles)) roles refl (roles_are roles is.roles),
            refl,
          ),
          there shown_name rows (shown_name_data to_show) to_show (or_none (shown_name_data to_show)) (shown_is to_show is.shown),
          refl,
        );
      })
  user_is_at name its roles (Some seat) to_show number is =
      let user : NewUser = record { name = name; digest = its; roles = roles; seat = Some seat; shown = to_show; number = number } in
      let rows = user_members user in
      subst (λ (o : Option Data). HasForm [] (user_form edition o) (object_with rows) user)
      (sym (stands (codes "pair") rows)) (record {
        listed = only_listed (codes "digest" ∷ codes "name" ∷ codes "number" ∷ codes "pair" ∷ codes "place" ∷ codes "roles" ∷ codes "shown" ∷ []) rows refl;
        made = (
          sitting its name number seat.pair seat.place roles,
          to_show,
          (
            sitting its name number seat.pair seat.place,
            roles,
            (
              sitting its name number seat.pair,
              seat.place,
              (
                sitting its name number,
                seat.pair,
                (
                  sitting its name,
                  number,
                  (
                    sitting its,
                    name,
                    (
                      sitting,
                      its,
                      refl,
                      there digest rows (Some (string (encode_lower its.bytes))) its refl (digest_is its is.size is.bytes),
                      refl,
                    ),
                    there user_name rows (Some (string name)) name refl (record { is = refl; short = is.name }),
                    refl,
                  ),
                  there member_number rows (text_data number) number (or_none (text_data number)) (number_is_said number is.number),
                  refl,
                ),
                there pair rows (Some (pair_data seat.pair)) seat.pair refl (pair_is seat.pair is.pair),
                refl,
              ),
              there place rows (Some (string (place_letter seat.place ∷ []))) seat.place refl refl,
              refl,
            ),
            there (user_roles edition) rows (Some (roles_data roles)) roles refl (roles_are roles is.roles),
            refl,
          ),
          there shown_name rows (shown_name_data to_show) to_show (or_none (shown_name_data to_show)) (shown_is to_show is.shown),
          refl,
        );
      })

  user_is : (user : NewUser) → IsWritableUser edition user → IsUser edition (user_data user) user
  user_is user is = user_is_at user.name user.digest user.roles user.seat user.shown user.number is

  users_are : (its : List NewUser) → All (IsWritableUser edition) its
      → (users edition).Is (Some (array (items_of (map user_data its)))) its
  users_are its all =
      (items_of (map user_data its), refl, are_each user_data (IsUser edition) (IsWritableUser edition) user_is its all)

-- ---- the movement

row_is : (row : Row) → IsWritableRow row → IsRow (row_data row) row
row_is row is = (
  item (whole_data row.round) (item (whole_data row.table) (item (whole_data row.set)
      (item (pair_data row.north_south) (item (pair_data row.east_west) no_items)))),
  refl,
  (
    record { is = refl; below = is.round },
    record { is = refl; below = is.table },
    record { is = refl; below = is.set },
    pair_is row.north_south is.north_south,
    pair_is row.east_west is.east_west,
  ),
)

movement_is : (asked : AskedMovement) → IsWritableMovement asked → SaysMovement (asked_movement_data asked) asked
movement_is Nothing is = refl
movement_is (Word word) is = refl
movement_is (Rows rows) is = (
  items_of (map row_data rows),
  refl,
  record { each = are_each row_data IsRow IsWritableRow row_is rows is.2; least = is.0; most = is.1 },
)

-- ---- sessions

number_is : (name : List ℕ) (n : ℕ) → n < 256 → (numbered name).Is (Some (whole_data n)) n
number_is name n below = record { is = refl; below = below }

number_is_there : (name : List ℕ) (o : Option ℕ) → IfSome o (λ n. n < 256)
    → (if_there (numbered name)).Is (option_map whole_data o) o
number_is_there name None small = tt
number_is_there name (Some n) small = record { is = refl; below = small }

absent_is : (o : Option Pair) → IfSome o IsNumbered → absent.Is (option_map pair_data o) o
absent_is None numbers = tt
absent_is (Some its) numbers = pair_is its numbers

said_back : (edition : Edition) → edition_said (Some (whole_data (edition_number edition))) ≡ edition
said_back First = refl
said_back Second = refl

date_is : (o : Option (List ℕ)) → IfSome o (λ bytes. is_date bytes ≡ true) → date.Is (text_data o) o
date_is None is = tt
date_is (Some bytes) is = record { is = refl; passes = is }

title_is : (o : Option (List ℕ)) → IfSome o (λ bytes. is_shown_within MOST_TITLE bytes ≡ true)
    → title.Is (text_data o) o
title_is None is = tt
title_is (Some bytes) is = record { is = refl; passes = is }

reasons_are : (its : List (List ℕ)) → All (λ bytes. is_shown_within MOST_REASON bytes ≡ true) its
    → length its ≤ MOST_REASONS → reasons.Is (reasons_data its) its
reasons_are [] all few = refl
reasons_are (reason ∷ rest) all few = (
  items_of (map (λ bytes. string bytes) (reason ∷ rest)),
  refl,
  record {
    each = are_each (λ bytes. string bytes) IsReason (λ bytes. is_shown_within MOST_REASON bytes ≡ true)
        (λ bytes is. record { is = refl; passes = is }) (reason ∷ rest) all;
    least = omega arith;
    most = few;
  },
)

-- a session by the parts of its object
abbrev by_parts : List ℕ → Option Pair → ℕ → Option (List ℕ) → Edition → AskedMovement → ℕ → List (List ℕ) → ℕ
    → Option ℕ → Option ℕ → ℕ → Option (List ℕ) → List NewUser → Session
by_parts boards its budget day said asked per_set its_reasons rounds tables_of many tables called its_users = record {
  absent = its;
  budget = budget;
  date = day;
  edition = said;
  movement = asked;
  pbn = boards;
  per_set = per_set;
  reasons = its_reasons;
  rounds = rounds;
  shared_by = tables_of;
  switched = many;
  tables = tables;
  title = called;
  users = its_users;
}

-- the names of a session's members, its boards aside
abbrev session_names : List (List ℕ)
session_names =
    codes "absent" ∷ codes "budget" ∷ codes "date" ∷ codes "edition" ∷ codes "movement" ∷ codes "per_set"
    ∷ codes "reasons" ∷ codes "rounds" ∷ codes "shared_by" ∷ codes "switched" ∷ codes "tables" ∷ codes "title"
    ∷ codes "users" ∷ []

members_are : (s : Session) → IsWritableSession s
    → HasForm [] (beside_boards s.edition s.pbn) (session_data s) s
members_are s is =
    let rows = session_members s in
    let make = by_parts s.pbn in
    record {
      listed = only_listed session_names rows refl;
      made = (
        make s.absent s.budget s.date s.edition s.movement s.per_set s.reasons s.rounds s.shared_by s.switched s.tables s.title,
        s.users,
        (
          make s.absent s.budget s.date s.edition s.movement s.per_set s.reasons s.rounds s.shared_by s.switched s.tables,
          s.title,
          (
            make s.absent s.budget s.date s.edition s.movement s.per_set s.reasons s.rounds s.shared_by s.switched,
            s.tables,
            (
              make s.absent s.budget s.date s.edition s.movement s.per_set s.reasons s.rounds s.shared_by,
              s.switched,
              (
                make s.absent s.budget s.date s.edition s.movement s.per_set s.reasons s.rounds,
                s.shared_by,
                (
                  make s.absent s.budget s.date s.edition s.movement s.per_set s.reasons,
                  s.rounds,
                  (
                    make s.absent s.budget s.date s.edition s.movement s.per_set,
                    s.reasons,
                    (
                      make s.absent s.budget s.date s.edition s.movement,
                      s.per_set,
                      (
                        make s.absent s.budget s.date s.edition,
                        s.movement,
                        (
                          make s.absent s.budget s.date,
                          s.edition,
                          (
                            make s.absent s.budget,
                            s.date,
                            (
                              make s.absent,
                              s.budget,
                              (
                                make,
                                s.absent,
                                refl,
                                there absent rows (option_map pair_data s.absent) s.absent (or_none (option_map pair_data s.absent)) (absent_is s.absent is.absent),
                                refl,
                              ),
                              there (limited (codes "budget") most_visits) rows (Some (whole_data s.budget)) s.budget refl (record { is = refl; within = is.budget }),
                              refl,
                            ),
                            there date rows (text_data s.date) s.date (or_none (text_data s.date)) (date_is s.date is.date),
                            refl,
                          ),
                          there session_edition rows (Some (whole_data (edition_number s.edition))) s.edition refl refl,
                          refl,
                        ),
                        there asked_movement rows (asked_movement_data s.movement) s.movement (or_none (asked_movement_data s.movement)) (movement_is s.movement is.movement),
                        refl,
                      ),
                      there (numbered (codes "per_set")) rows (Some (whole_data s.per_set)) s.per_set refl (number_is (codes "per_set") s.per_set is.per_set),
                      refl,
                    ),
                    there reasons rows (reasons_data s.reasons) s.reasons (or_none (reasons_data s.reasons)) (reasons_are s.reasons is.reasons is.few_reasons),
                    refl,
                  ),
                  there (numbered (codes "rounds")) rows (Some (whole_data s.rounds)) s.rounds refl (number_is (codes "rounds") s.rounds is.rounds),
                  refl,
                ),
                there shared_by rows (option_map whole_data s.shared_by) s.shared_by (or_none (option_map whole_data s.shared_by)) (number_is_there (codes "shared_by") s.shared_by is.shared_by),
                refl,
              ),
              there switched_rounds rows (option_map whole_data s.switched) s.switched (or_none (option_map whole_data s.switched)) (number_is_there (codes "switched") s.switched is.switched),
              refl,
            ),
            there (numbered (codes "tables")) rows (Some (whole_data s.tables)) s.tables refl (number_is (codes "tables") s.tables is.tables),
            refl,
          ),
          there title rows (text_data s.title) s.title (or_none (text_data s.title)) (title_is s.title is.title),
          refl,
        ),
        there (users s.edition) rows (Some (array (items_of (map user_data s.users)))) s.users refl (users_are s.edition s.users is.users),
        refl,
      );
    }

pub written_back : (session : Session) → IsWritableSession session
    → IsSession (Some session.pbn) (session_data session) session
written_back session is = record {
  members =
      subst (λ (edition : Edition). HasForm [] (beside_boards edition session.pbn) (session_data session) session)
      (sym (ap edition_said (stands (codes "edition") (session_members session)) ∙ said_back session.edition))
      (members_are session is);
  together = is.together;
}
