-- A reply has no float.
use Rattle.std.proofs.Common.{◌≡◌, ℕ, ℤ, pos, negsuc, List, [], ◌∷◌, ◌||◌, Bool, Option, Some, None, true, false, refl, ap}
use Rattle.std.specs.Prelude.{take, option_map}
use Rattle.std.specs.List.{range_with_len}
use Rattle.serde_json.specs.Data.{Data, Members, object}
use Rattle.serde_json.specs.Find.{of_integer, is_float}
use Rattle.serde_json.specs.Written.{has_float}
use Rattle.table_terms.specs.declared.pair.Pair.{Pair}
use Rattle.session_roles.specs.declared.edition.Edition.{Edition}
use Rattle.session_roles.specs.declared.edition.Edition.TheVariants.{First, Second}
use Rattle.movement.specs.declared.row.Row.{Row}
use Rattle.movement.specs.Movement.{rows, boards_of}
use Rattle.disclosure_rules.specs.declared.public.Public.{Public}
use Rattle.rbac.specs.declared.account.Account.{Account}
use Rattle.session_roles.specs.Role.{roles_that, has}
use Rattle.scoring.specs.declared.outcome.Outcome.{Outcome}
use Rattle.scoring.specs.declared.outcome.Outcome.TheVariants as outcome
use Rattle.session_queries.specs.declared.body.Body.{Body}
use Rattle.session_queries.specs.declared.body.Body.TheVariants as body
use Rattle.session_queries.specs.declared.reply.Reply.{Reply}
use Rattle.session_state.specs.declared.seated.Seated.{Seated}
use Rattle.session_state.specs.declared.shown_user.ShownUser.{ShownUser}
use Rattle.notices.specs.declared.notices.Notices.{Notices}
use Rattle.session_queries.specs.declared.card_costs.CardCosts.{CardCosts}
use Rattle.session_queries.specs.declared.card_costs.CardCosts.TheVariants.{Pending, NoCards, Each, NotAPlay}
use Rattle.standings.specs.declared.row_result.RowResult.{RowResult}
use Rattle.standings.specs.declared.row_result.RowResult.TheVariants.{Played, Ruled}
use Rattle.standings.specs.declared.traveller_row.TravellerRow.{TravellerRow}
use Rattle.reply_texts.specs.DataOf.{number_data, list_data, option_data}
use Rattle.reply_texts.specs.StatusText.{held_boards, live_tables, tables_data, live_data, mark_data, marks_data, movement_row_data, seat_data, shown_data, some_list, edition_data, embargo_data, movement_data, status_slots, status_data}
use Rattle.reply_texts.specs.Slots.{Slot, with_slot, members_of}
use Rattle.reply_texts.specs.BoardText.{tricks_data}
use Rattle.reply_texts.specs.ParText.{end_data, score_data}
use Rattle.reply_texts.specs.TravellerText.{outcome_data, result_data, traveller_row_data}
use Rattle.reply_texts.specs.CostsText.{card_costs_data}
use Rattle.reply_texts.specs.TableText.{card_data}
use Rattle.reply_texts.specs.ListText.{standing_data, role_data, account_data, inheritance_data}
use Rattle.reply_texts.specs.ReplyText.{body_data, reply_data}

-- ---- lists, and what may be absent

none_in_a_list : {A : Type 0} (data_of : A → Data) → ((x : A) → has_float (data_of x) ≡ false) → (xs : List A)
    → has_float (list_data data_of xs) ≡ false
none_in_a_list data_of none [] = refl
none_in_a_list data_of none (x ∷ xs) = λ i. none x i || none_in_a_list data_of none xs i

none_in_an_option : {A : Type 0} (data_of : A → Data) → ((x : A) → has_float (data_of x) ≡ false) → (o : Option A)
    → has_float (option_data data_of o) ≡ false
none_in_an_option data_of none None = refl
none_in_an_option data_of none (Some x) = none x

none_in_numbers : (numbers : List ℕ) → has_float (list_data number_data numbers) ≡ false
none_in_numbers numbers = none_in_a_list number_data (λ n. refl) numbers

none_in_an_integer : (z : ℤ) → is_float (of_integer z) ≡ false
none_in_an_integer (pos n) = refl
none_in_an_integer (negsuc n) = refl

-- ---- each kind of reply

none_in_marks : (public : Public) → has_float (marks_data public) ≡ false
none_in_marks public = none_in_a_list mark_data (λ marks. refl) (take (boards_of public.movement) public.marks)

none_in_live_tables : (public : Public) → has_float (live_data public) ≡ false
none_in_live_tables public =
    none_in_a_list
    (tables_data public)
    (λ board. none_in_numbers (live_tables public board))
    (range_with_len 1 (boards_of public.movement))

-- a member that is left out, or what stands there, has none
abbrev NoneThere : Option Data → Type 0
NoneThere None = Unit {0}
NoneThere (Some d) = has_float d ≡ false

-- of some members each has none
abbrev NoneInSlots : List Slot → Type 0
NoneInSlots [] = Unit {0}
NoneInSlots (slot ∷ slots) = NoneThere slot.value × NoneInSlots slots

none_with_slot : (name : List ℕ) (o : Option Data) (others : Members) → NoneThere o →
    has_float (object others) ≡ false → has_float (object (with_slot name o others)) ≡ false
none_with_slot name None others there none = none
none_with_slot name (Some d) others there none = λ i. there i || none i

none_in_slots : (slots : List Slot) → NoneInSlots slots → has_float (object (members_of slots)) ≡ false
none_in_slots [] none = refl
none_in_slots (slot ∷ slots) none =
    none_with_slot slot.name slot.value (members_of slots) none.0 (none_in_slots slots none.1)

none_if_said : {A : Type 0} (data_of : A → Data) → ((x : A) → has_float (data_of x) ≡ false) → (o : Option A) →
    NoneThere (option_map data_of o)
none_if_said data_of none None = tt
none_if_said data_of none (Some x) = none x

none_in_some : {A : Type 0} (data_of : A → Data) → ((x : A) → has_float (data_of x) ≡ false) → (xs : List A) →
    NoneThere (some_list data_of xs)
none_in_some data_of none [] = tt
none_in_some data_of none (x ∷ xs) = none_in_a_list data_of none (x ∷ xs)

none_in_an_edition : (edition : Edition) → NoneThere (edition_data edition)
none_in_an_edition First = tt
none_in_an_edition Second = refl

none_in_an_embargo : (edition : Edition) (embargo : Bool) → NoneThere (embargo_data edition embargo)
none_in_an_embargo First embargo = tt
none_in_an_embargo Second embargo = refl

none_in_a_movement : (named : Bool) (rows : List Row) → NoneThere (movement_data named rows)
none_in_a_movement false rows = tt
none_in_a_movement true rows = none_in_a_list movement_row_data (λ row. refl) rows

none_in_a_status : (public : Public) (seats : List Seated) (names : List ShownUser) (notices : Notices) →
    has_float (status_data public seats names notices) ≡ false
none_in_a_status public seats names notices = none_in_slots (status_slots public seats names notices) (
  none_if_said _ (λ pair. refl) public.movement.absent,
  (
    none_if_said _ (λ date. refl) notices.date,
    (
      none_in_an_edition public.edition,
      (
        none_in_an_embargo public.edition public.embargo,
        (
          none_in_numbers (held_boards public),
          (
            none_in_live_tables public,
            (
              none_in_marks public,
              (
                none_in_a_movement public.movement.is_named (rows public.movement),
                (
                  none_in_some shown_data (λ user. refl) names,
                  (
                    refl,
                    (
                      refl,
                      (
                        none_in_some _ (λ reason. refl) notices.reasons,
                        (
                          refl,
                          (
                            refl,
                            (
                              none_in_a_list seat_data (λ seated. refl) seats,
                              (
                                refl,
                                (
                                  none_if_said _ (λ title. refl) notices.title,
                                  tt,
                                ),
                              ),
                            ),
                          ),
                        ),
                      ),
                    ),
                  ),
                ),
              ),
            ),
          ),
        ),
      ),
    ),
  ),
)

none_in_an_outcome : (outcome : Outcome) → has_float (outcome_data outcome) ≡ false
none_in_an_outcome outcome.PassedOut = refl
none_in_an_outcome (outcome.Played contract tricks) = refl

none_in_a_result : (table : ℕ) (north_south east_west : Pair) (found : RowResult)
    → has_float (result_data table north_south east_west found) ≡ false
none_in_a_result table north_south east_west (Played outcome score points) =
    λ i. none_in_an_outcome outcome i || (none_in_an_integer score i || false)
none_in_a_result table north_south east_west (Ruled first second) = refl

none_in_a_row : (row : TravellerRow) → has_float (traveller_row_data row) ≡ false
none_in_a_row row = none_in_a_result row.table row.north_south row.east_west row.result

none_in_costs : (costs : CardCosts) → has_float (card_costs_data costs) ≡ false
none_in_costs Pending = refl
none_in_costs NoCards = refl
none_in_costs (Each costs) = none_in_numbers costs
none_in_costs (NotAPlay number) = refl

none_in_an_account : (account : Account) → has_float (account_data account) ≡ false
none_in_an_account account =
    ap (λ b. b || false) (none_in_a_list role_data (λ role. refl) (roles_that (has account.assigned)))

pub none_in_a_body : (body : Body) → has_float (body_data body) ≡ false
none_in_a_body body.NoSuchBoard = refl
none_in_a_body body.NoSuchCell = refl
none_in_a_body body.Behind = refl
none_in_a_body (body.Denied denial) = refl
none_in_a_body (body.Status public seats names notices) = none_in_a_status public seats names notices
none_in_a_body (body.Board number hands marks) = refl
none_in_a_body (body.Traveller number rows) = ap (λ b. b || false) (none_in_a_list traveller_row_data none_in_a_row
    rows)
none_in_a_body (body.Analysis number tricks) =
    ap (λ b. b || false) (none_in_an_option tricks_data (λ table. refl) tricks)
none_in_a_body (body.Par number par) =
    λ i. none_in_an_option end_data (λ end. none_in_an_outcome end.outcome) par i
    || (none_in_an_option score_data (λ end. none_in_an_integer end.score) par i || false)
none_in_a_body (body.Play cell cards) =
    ap (λ b. b || (false || false))
    (none_in_an_option (list_data card_data) (none_in_a_list card_data (λ card. refl)) cards)
none_in_a_body (body.Costs cell costs) =
    ap (λ b. b || (false || false)) (none_in_an_option card_costs_data none_in_costs costs)
none_in_a_body (body.Reason cell code) =
    ap (λ b. b || (false || false)) (none_in_an_option number_data (λ n. refl) code)
none_in_a_body (body.List boards more) = ap (λ b. b || (false || false)) (none_in_numbers boards)
none_in_a_body (body.Ranking standings) = none_in_a_list standing_data (λ standing. refl) standings
none_in_a_body (body.Accounts users pairs) =
    λ i. none_in_a_list inheritance_data (λ pair. refl) pairs i
    || (none_in_a_list account_data none_in_an_account users i || false)

pub none_in_a_reply : (reply : Reply) → has_float (reply_data reply) ≡ false
none_in_a_reply reply = ap (λ b. b || (false || false)) (none_in_a_body reply.body)
